use Rattle.std.proofs.Common.{refl, ◌≡◌, ◌∙◌, ap, arith, map, string_bytes, take, get_or, slice_get, Global, ℕ, Some, ◌∷◌, []}
use Rattle.std.proofs.lemmas.List.{map-append, take_all, take_more}
use Rattle.std.proofs.lemmas.Option.{slice_get-get_or}
use Rattle.host_edge.specs.Causes.{Counts}
use Rattle.guest_files.specs.Entries.{guest_file}
use Rattle.host_edge.specs.declared.outside.HostCall.TheVariants.{Load}
use Rattle.guest_run.specs.Tally.{Tally, tally}
use Rattle.xemu_top.specs.Headline.{failed_call}
use Rattle.xemu_top.proofs.WorkLemmas.{counted-among}
use Rattle.xemu_top.proofs.FileLemmas.{in-calls, loaded-more, loaded-none, loads-memory, loads-stop}
use Rattle.xemu_top.proofs.files.load_ins.Goals as goal

pub loop-place-init : goal.loop-place-init
loop-place-init g c = record {
  loaded = rw c.new-ins.ensures.items (loaded-none (map string_bytes c.args.words.now) c.args.command.now (g.H.Host.holds c.args.host.now));
  holds = refl;
  opened = refl;
  faults = refl;
}

pub loop-place-preserved : goal.loop-place-preserved
loop-place-preserved g c =
    let places = c.as_slice-place-items.result.now in
    let k = c.loop-place.place-index in
    let h = c.loop-place.invariant in
    record {
      loaded = rw (c.in-Ok-push.ensures.items, map-append guest_file c.loop-place.ins.items (c.in-Ok.entry ∷ []), take_more places k 0 c.loop-place-test.true)
          (loaded-more (map string_bytes c.args.words.now) c.args.command.now (take k places) (get_or places k 0) (g.H.Host.holds c.args.host.now)
          (map guest_file c.loop-place.ins.items) c.in-Ok.entry h.loaded (rw h.holds at c.in-Ok.ensures.file));
      holds = c.in-Ok.ensures.holds ∙ h.holds;
      opened = c.in-Ok.ensures.opened ∙ h.opened;
      faults = ap (λ (t : Tally). t.host) (c.in-Ok.ensures.cause (tally (g.H.Host.faults c.args.host.now) 0 0 0)) ∙ h.faults;
    }

pub returns-in-Err : goal.returns-in-Err
returns-in-Err g c =
    let words = map string_bytes c.args.words.now in
    let command = c.args.command.now in
    let places = c.as_slice-place-items.result.now in
    let k = c.loop-place.place-index in
    let h = c.loop-place.invariant in
    let place : ℕ = get_or places k 0 in
    let is : slice_get places k ≡ Some place = slice_get-get_or places k 0 c.loop-place-test.true in
    let stopped = loads-stop words command places k place is Global (g.H.Host.holds c.args.host.now) (map guest_file c.loop-place.ins.items) c.in-Err.end
    h.loaded (rw h.holds at c.in-Err.ensures.file) in
    record {
      files = rw c.as_slice-place-items.ensures.value at stopped;
      holds = c.in-Err.ensures.holds ∙ h.holds;
      opened = c.in-Err.ensures.opened ∙ h.opened;
      cause = λ rest.
          rw (← c.as_slice-place-items.ensures.value)
          (counted-among (map (λ (p : ℕ). Load p) (place ∷ [])) (map (λ (p : ℕ). Load p) places) (failed_call c.in-Err.end) _ _
          (in-calls words command places k place is) (rw h.faults at (c.in-Err.ensures.cause rest)));
    }

pub returns-in-Err-push-clause-files : goal.returns-in-Err-push-clause-files
returns-in-Err-push-clause-files g c =
    let places = c.as_slice-place-items.result.now in
    let k = c.loop-place.place-index in
    let place : ℕ = get_or places k 0 in
    let is : slice_get places k ≡ Some place = slice_get-get_or places k 0 c.loop-place-test.true in
    rw c.as_slice-place-items.ensures.value at
    (loads-memory (map string_bytes c.args.words.now) c.args.command.now places k place is Global (g.H.Host.holds c.args.host.now)
    (map guest_file c.loop-place.ins.items) c.loop-place.invariant.loaded)

pub returns-in-Err-push-clause-cause : goal.returns-in-Err-push-clause-cause
returns-in-Err-push-clause-cause g c rest =
    ap (λ (counts : Counts). record rest { host = counts })
    (ap (λ (t : Tally). t.host) (c.in-Ok.ensures.cause rest) ∙ c.loop-place.invariant.faults)

pub returns : goal.returns
returns g c =
    let places = c.as_slice-place-items.result.now in
    let h = c.loop-place.invariant in
    let all = rw (take_all c.loop-place.place-index places (omega arith), c.as_slice-place-items.ensures.value) at h.loaded in
    record {
      files = record { told = all.told; names = all.names; end = tt };
      holds = h.holds;
      opened = h.opened;
      cause = λ rest. ap (λ (counts : Counts). record rest { host = counts }) h.faults;
    }
