-- How a call that waits has gone on, or stands where it stood, and what a piece of a call keeps.
use Rattle.std.proofs.Common.{◌≡◌, ℕ, ◌+◌, ◌*◌, ◌≤◌, ◌<◌, ◌^◌, ◌⊎◌, inl, inr, ⊎_elim, List, [], Option, Some, Result, Ok, Err, refl, sym, ap, ◌∙◌, subst, arith}
use Rattle.std.specs.Prelude.{Bool}
use Rattle.machine_state.specs.Memory.{page_size}
use Rattle.machine_state.specs.World.{World as WholeWorld}
use Rattle.machine_state.specs.declared.kinds.Kind.{Kind}
use Rattle.machine_state.specs.declared.kinds.Kind.TheVariants.{Write}
use Rattle.machine_state.specs.declared.kinds.Miss.TheVariants.{Away as AwayMiss}
use Rattle.host_edge.specs.declared.outside.HostCall.{HostCall}
use Rattle.guest_pages.specs.Pages.{PagesValue, table_of}
use Rattle.guest_pages.specs.Changes.{KeepsTable}
use Rattle.guest_files.specs.Files.{FilesValue}
use Rattle.guest_transfers.specs.Pieces.{asked, most_asked, single}
use Rattle.guest_transfers.specs.Moves.{Stops, away_access, blocked_access}
use Rattle.guest_transfers.specs.declared.kinds.Piece.{Piece}
use Rattle.guest_transfers.specs.declared.kinds.Stop.{Stop}
use Rattle.guest_transfers.specs.declared.kinds.Stop.TheVariants.{Whole, Away, Failed}
use Rattle.guest_transfers.proofs.PartLemmas.{asked-single, away_rest, blocked_rest}
use Rattle.region_map.specs.Calls.{RegionsValue, highest_end, pages_up}
use Rattle.linux_calls.specs.declared.world.World.{World}
use Rattle.linux_calls.specs.declared.kinds.Halt.{Halt}
use Rattle.linux_calls.specs.declared.kinds.Halt.TheVariants.{Need, Refused, Failed as FailedHalt}
use Rattle.linux_calls.specs.declared.kinds.Call.{Call}
use Rattle.linux_calls.specs.declared.kinds.Call.TheVariants.{Mmap}
use Rattle.linux_calls.specs.declared.kinds.Stage.{Stage}
use Rattle.linux_calls.specs.declared.kinds.Stage.TheVariants.{Start}
use Rattle.linux_calls.specs.Call.{Called, rax, rsi}
use Rattle.linux_calls.specs.Table.{call_numbered}
use Rattle.linux_calls.specs.Rest.{ProgressValue, outside_calls, transfer_of}
use Rattle.linux_calls.specs.Transfers.{left_at}
use Rattle.linux_calls.specs.View.{View, view_of, FitParts, KeepsPages, SameParts}
use Rattle.linux_calls.specs.Following.{Does, Ends, EndsAt, Kept}
use Rattle.linux_calls.specs.Units.{GoesOn, SameUnit, WaitsIn, call_pages, call_rank, copying_from, list_rank, listing_from, moving_from}
use Rattle.linux_calls.specs.Units.{part_pages, parts_left, record_pages}
use Rattle.linux_calls.specs.Units.{stage_pages, stage_rank, standing_at, start_pages, start_rank, unit_pages, unit_rank}
use Rattle.linux_calls.specs.Waiting.{mapped_bytes}
use Rattle.linux_calls.proofs.MoveLemmas.{keeps_moved}
use Rattle.linux_calls.proofs.SwapLemmas.{swap_table}
use Rattle.linux_calls.proofs.UnitLemmas.{left_le, left_pages, left_ready}

-- ---- what a transfer keeps
pub kept_table : (old new : World) (pages : PagesValue) → SameParts old new → KeepsTable (view_of old).pages pages → FitParts (view_of old)
    → ((view_of new).pages ≡ pages) × ((view_of new).regions ≡ (view_of old).regions) → Kept old new
kept_table old new pages parts keeps fit same =
    let table : KeepsTable (view_of old).pages (view_of new).pages = subst (λ (p : PagesValue). KeepsTable (view_of old).pages p) (sym same.0) keeps in
    record { parts = parts; pages = keeps_moved (view_of old) (view_of new) table same.1 fit; swap = swap_table (view_of old).pages (view_of new).pages table }

-- the end of a transfer leaves pages and regions
pub ends_there : (stop : Stop) (call : HostCall) (old new : View) (result : Result ℕ Halt) → Ends stop call old new result → (new.pages ≡ old.pages) × (new.regions ≡ old.regions)
ends_there (Whole done) call old new result ends = (ap (λ (v : View). v.pages) ends.0, ap (λ (v : View). v.regions) ends.0)
ends_there (Away done slot) call old new result ends = (ap (λ (v : View). v.pages) ends.0, ap (λ (v : View). v.regions) ends.0)
ends_there Failed call old new result ends = (ap (λ (v : View). v.pages) ends.0, ap (λ (v : View). v.regions) ends.0)

pub ends_at_there : (stop : Stop) (fd at : ℕ) (moves : Bool) (old new : View) (result : Result ℕ Halt) → EndsAt stop fd at moves old new result
    → (new.pages ≡ old.pages) × (new.regions ≡ old.regions)
ends_at_there (Whole done) fd at moves old new result ends = (ap (λ (v : View). v.pages) ends.0, ap (λ (v : View). v.regions) ends.0)
ends_at_there (Away done slot) fd at moves old new result ends = (ap (λ (v : View). v.pages) ends.0, ap (λ (v : View). v.regions) ends.0)
ends_at_there Failed fd at moves old new result ends = absurd ends

-- ---- how a transfer goes on
waits_at_end : (old new same : View) (result value : Result ℕ Halt) → new ≡ same → result ≡ value → WaitsIn old same value → WaitsIn old new result
waits_at_end old new same result value is_new is_result waits =
    subst (λ (v : View). WaitsIn old v result) (sym is_new) (subst (λ (r : Result ℕ Halt). WaitsIn old same r) (sym is_result) waits)

module _ (v : View) (pages : PagesValue) (files : FilesValue) (random from : ℕ) (kind : Kind) (most : asked v.progress.pieces ≤ most_asked) (keeps : KeepsTable v.pages pages) where
  abbrev before : View
  before = standing_at v (moving_from v.progress.pieces from)

  abbrev mid : View
  mid = record v { pages = pages; files = files; random = random }

  abbrev on : ℕ → View
  on done = standing_at mid (moving_from v.progress.pieces done)

  abbrev SameCalls : Type 0
  SameCalls = outside_calls (transfer_of v.gprs files 0) ≡ outside_calls (transfer_of v.gprs v.files 0)

  goes : (done slot : ℕ) → SameCalls → Stops (blocked_access (table_of v.pages)) kind v.progress.pieces from (Away done slot) → GoesOn before (on done)
  unfolding unit_rank unit_pages
  goes done slot calls stops =
      let le = left_le v.progress.pieces from in
      record {
        most = omega (arith, le, most);
        unit = ⊎_elim
            (λ (less : parts_left v.progress.pieces done < parts_left v.progress.pieces from). inl less)
            (λ (same : done ≡ from). inr (record {
              rank = ap (parts_left v.progress.pieces) same;
              pages = ap (part_pages v.progress.pieces) same;
              table = keeps.table;
              recent = keeps.recent;
            }))
            (left_ready (blocked_access (table_of v.pages)) (blocked_rest (table_of v.pages)) kind v.progress.pieces from done (AwayMiss slot) stops.0 stops.1 stops.2 stops.3);
        calls = calls;
      }

  pub moving_waits : (stop : Stop) (call : HostCall) (new : View) (result : Result ℕ Halt) → SameCalls → Stops (blocked_access (table_of v.pages)) kind v.progress.pieces from stop
      → Ends stop call mid new result → WaitsIn before new result
  moving_waits (Whole done) call new result calls stops ends = waits_at_end before new mid result (Ok done) ends.0 ends.1 tt
  moving_waits (Away done slot) call new result calls stops ends = waits_at_end before new (on done) result (Err (Need slot)) ends.0 ends.1 (goes done slot calls stops)
  moving_waits Failed call new result calls stops ends = waits_at_end before new mid result (Err (FailedHalt call)) ends.0 ends.1 tt

  pub moving_waits_at : (stop : Stop) (fd offset : ℕ) (moves : Bool) (new : View) (result : Result ℕ Halt) → ((done slot : ℕ) → stop ≡ Away done slot → SameCalls)
      → Stops (blocked_access (table_of v.pages)) kind v.progress.pieces from stop → EndsAt stop fd offset moves mid new result → WaitsIn before new result
  moving_waits_at (Whole done) fd offset moves new result calls stops ends =
      waits_at_end before new (record mid { files = left_at moves files fd (offset + done) }) result (Ok done) ends.0 ends.1 tt
  moving_waits_at (Away done slot) fd offset moves new result calls stops ends = waits_at_end before new (on done) result (Err (Need slot)) ends.0 ends.1 (goes done slot (calls done slot refl) stops)
  moving_waits_at Failed fd offset moves new result calls stops ends = absurd ends

-- ---- how a copy goes on
pub copying_goes : (v : View) (pages : PagesValue) (at from done slot : ℕ) → mapped_bytes v.gprs ≤ 2 ^ 64 → KeepsTable v.pages pages
    → Stops (away_access (table_of v.pages)) Write (single at (mapped_bytes v.gprs)) from (Away done slot)
    → GoesOn (standing_at v (copying_from at from v.progress.pieces)) (standing_at (record v { pages = pages }) (copying_from at done v.progress.pieces))
unfolding unit_rank unit_pages
copying_goes v pages at from done slot most keeps stops =
    let pieces = single at (mapped_bytes v.gprs) in
    let le = left_le pieces from in
    let all = asked-single at (mapped_bytes v.gprs) in
    record {
      most = omega (arith, le, all, most);
      unit = ⊎_elim
          (λ (less : parts_left pieces done < parts_left pieces from). inl less)
          (λ (same : done ≡ from). inr (record { rank = ap (parts_left pieces) same; pages = ap (part_pages pieces) same; table = keeps.table; recent = keeps.recent }))
          (left_ready (away_access (table_of v.pages)) (away_rest (table_of v.pages)) Write pieces from done (AwayMiss slot) stops.0 stops.1 stops.2 stops.3);
      calls = refl;
    }

-- ---- a call that stands at a later unit
-- one that goes on from a unit with fewer behind it goes on from before
goes_below : (old at new : View) → unit_rank at < unit_rank old → unit_rank old ≤ 2 ^ 64
    → outside_calls (transfer_of at.gprs at.files 0) ≡ outside_calls (transfer_of old.gprs old.files 0) → GoesOn at new → GoesOn old new
goes_below old at new less most calls goes = record {
  most = most;
  unit = ⊎_elim
      (λ (fewer : unit_rank new < unit_rank at). inl (omega (arith, fewer, less)))
      (λ (same : SameUnit at new). inl (let rank = same.rank in omega (arith, rank, less)))
      goes.unit;
  calls = goes.calls ∙ calls;
}

pub waits_below : (old at new : View) (result : Result ℕ Halt) → unit_rank at < unit_rank old → unit_rank old ≤ 2 ^ 64
    → outside_calls (transfer_of at.gprs at.files 0) ≡ outside_calls (transfer_of old.gprs old.files 0) → WaitsIn at new result → WaitsIn old new result
waits_below old at new (Ok value) less most calls waits = tt
waits_below old at new (Err (Refused errno)) less most calls waits = tt
waits_below old at new (Err (Need slot)) less most calls waits = goes_below old at new less most calls waits
waits_below old at new (Err (FailedHalt call)) less most calls waits = tt

-- and one that goes on from an equal unit
goes_as : (old new : View) (at : ProgressValue) → unit_rank (standing_at old at) ≡ unit_rank old → unit_pages (standing_at old at) ≡ unit_pages old → GoesOn (standing_at old at) new → GoesOn old new
goes_as old new at rank pages goes = record {
  most = omega (arith, rank, goes.most);
  unit = ⊎_elim
      (λ (fewer : unit_rank new < unit_rank (standing_at old at)). inl (omega (arith, fewer, rank)))
      (λ (same : SameUnit (standing_at old at) new). inr (record { rank = same.rank ∙ rank; pages = same.pages ∙ pages; table = same.table; recent = same.recent }))
      goes.unit;
  calls = goes.calls;
}

pub waits_as : (old new : View) (at : ProgressValue) (result : Result ℕ Halt) → unit_rank (standing_at old at) ≡ unit_rank old → unit_pages (standing_at old at) ≡ unit_pages old
    → WaitsIn (standing_at old at) new result → WaitsIn old new result
waits_as old new at (Ok value) rank pages waits = tt
waits_as old new at (Err (Refused errno)) rank pages waits = tt
waits_as old new at (Err (Need slot)) rank pages waits = goes_as old new at rank pages waits
waits_as old new at (Err (FailedHalt call)) rank pages waits = tt

-- ---- the units of a call that begins
pub rank_begins : (v : View) (call : Call) → v.progress.stage ≡ Start → call_numbered (rax v.gprs) ≡ Some call → unit_rank v ≡ call_rank call v.gprs
unfolding unit_rank
rank_begins v call begins is = ap (λ (s : Stage). stage_rank s v.progress.pieces v.gprs) begins ∙ ap (λ (o : Option Call). start_rank o v.gprs) is

pub pages_begin : (v : View) (call : Call) → v.progress.stage ≡ Start → call_numbered (rax v.gprs) ≡ Some call → unit_pages v ≡ call_pages call v.gprs
unfolding unit_pages
pages_begin v call begins is = ap (λ (s : Stage). stage_pages s v.progress.pieces v.gprs) begins ∙ ap (λ (o : Option Call). start_pages o v.gprs) is

-- one that waits with nothing done waits in the same unit
pub begins_waiting : (call : Call) (work : WholeWorld → Called) (old new : View) (result : Result ℕ Halt) → old.progress.stage ≡ Start → call_numbered (rax old.gprs) ≡ Some call
    → call_rank call old.gprs ≤ 2 ^ 64 → Does work old new result → WaitsIn old new result
begins_waiting call work old new (Ok value) begins is most does = tt
begins_waiting call work old new (Err (Refused errno)) begins is most does = tt
begins_waiting call work old new (Err (Need slot)) begins is most does =
    let rank = rank_begins old call begins is in
    let same : GoesOn old old = record {
      most = omega (arith, rank, most);
      unit = inr (record { rank = refl; pages = refl; table = refl; recent = refl });
      calls = refl;
    } in
    subst (λ (v : View). GoesOn old v) (sym does) same
begins_waiting call work old new (Err (FailedHalt other)) begins is most does = absurd does

-- a call of a transfer or of a list goes on with that
pub begins_moving : (call : Call) (v new : View) (pieces : List Piece) (result : Result ℕ Halt) → v.progress.stage ≡ Start → call_numbered (rax v.gprs) ≡ Some call
    → call_rank call v.gprs ≡ parts_left pieces 0 → call_pages call v.gprs ≡ part_pages pieces 0 → WaitsIn (standing_at v (moving_from pieces 0)) new result → WaitsIn v new result
unfolding unit_rank unit_pages
begins_moving call v new pieces result begins is rank pages waits =
    waits_as v new (moving_from pieces 0) result (sym (rank_begins v call begins is ∙ rank)) (sym (pages_begin v call begins is ∙ pages)) waits

pub begins_listing : (call : Call) (v new : View) (result : Result ℕ Halt) → v.progress.stage ≡ Start → call_numbered (rax v.gprs) ≡ Some call
    → call_rank call v.gprs ≡ list_rank v.gprs 0 → call_pages call v.gprs ≡ record_pages v.gprs 0 → WaitsIn (standing_at v (listing_from [])) new result → WaitsIn v new result
unfolding unit_rank unit_pages
begins_listing call v new result begins is rank pages waits =
    waits_as v new (listing_from []) result (sym (rank_begins v call begins is ∙ rank)) (sym (pages_begin v call begins is ∙ pages)) waits

-- mmap goes on with the copy to its new pages
pub mapping_waits : (v : View) (pages : PagesValue) (regions : RegionsValue) (page : ℕ) (new : View) (result : Result ℕ Halt) → v.progress.stage ≡ Start
    → call_numbered (rax v.gprs) ≡ Some Mmap → page + pages_up (rsi v.gprs) ≤ highest_end
    → WaitsIn (standing_at (record v { pages = pages; regions = regions }) (copying_from (page * page_size) 0 v.progress.pieces)) new result → WaitsIn v new result
unfolding unit_rank
mapping_waits v pages regions page new result begins is high waits =
    let rank = rank_begins v Mmap begins is in
    let parts = left_pages page (pages_up (rsi v.gprs)) in
    waits_below v (standing_at (record v { pages = pages; regions = regions }) (copying_from (page * page_size) 0 v.progress.pieces)) new result
    (omega (arith, rank, parts)) (omega (arith, rank, high)) refl waits
