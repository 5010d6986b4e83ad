use Rattle.std.proofs.Common.{List, ℕ, Err, sym, subst, arith, map, string_bytes, take, drop, suc, get_or}
use Rattle.std.proofs.Math.Seq.{split_at}
use Rattle.std.proofs.lemmas.List.{take_more, take_all}
use Rattle.guest_files.specs.Entries.{guest_file}
use Rattle.xemu_top.specs.Parts.{StoresFiles, with_host}
use Rattle.xemu_top.proofs.StoreLemmas.{stores-none, stores-more, stores-stop}
use Rattle.xemu_top.proofs.storing.store_files.Goals as goal

pub loop-place-init : goal.loop-place-init
loop-place-init g c a =
    stores-none (map string_bytes c.args.words.now) (map guest_file c.args.entries.now)
    (with_host a (g.H.Host.holds c.args.host.now) (g.H.Host.opened c.args.host.now) (g.H.Host.faults c.args.host.now))

pub loop-place-preserved : goal.loop-place-preserved
loop-place-preserved g c a =
    let k = c.loop-place.place-index in
    let places = c.args.places.now in
    rw (take_more places k 0 c.loop-place-test.true)
    (stores-more (map string_bytes c.args.words.now) (map guest_file c.args.entries.now) (take k places) (get_or places k 0) _ _ _
    (c.loop-place.invariant a) (c.in-Ok.ensures a))

pub returns-in-Err : goal.returns-in-Err
returns-in-Err g c a =
    let words = map string_bytes c.args.words.now in
    let files = map guest_file c.args.entries.now in
    let k = c.loop-place.place-index in
    let places = c.args.places.now in
    subst (λ (ps : List ℕ). StoresFiles words files ps
    (with_host a (g.H.Host.holds c.args.host.now) (g.H.Host.opened c.args.host.now) (g.H.Host.faults c.args.host.now))
    (with_host a (g.H.Host.holds c.store_file.new.host) (g.H.Host.opened c.store_file.new.host) (g.H.Host.faults c.store_file.new.host))
    (Err c.in-Err.call)) (sym (split_at places k 0 c.loop-place-test.true))
    (stores-stop words files (take k places) (get_or places k 0) (drop (suc k) places) _ _ _ c.in-Err.call (c.loop-place.invariant a) (c.in-Err.ensures a))

pub returns : goal.returns
returns g c a = rw (take_all c.loop-place.place-index c.args.places.now (omega arith)) at (c.loop-place.invariant a)
