-- The first entry of the name is the first file of it.
use Rattle.std.proofs.Common.{◌<◌, ◌∙◌, below_more, false, true, length, map, sym, arith}
use Rattle.std.proofs.lemmas.List.{length-map}
use Rattle.guest_files.specs.Entries.{guest_file}
use Rattle.guest_files.proofs.Names.{entry_named, found, missing}
use Rattle.xemu_top.proofs.storing.find.Goals as goal

pub returns-then-eq-clause-number : goal.returns-then-eq-clause-number
returns-then-eq-clause-number c =
    let within : c.loop-number.number < length c.args.entries.now = omega arith in
    found (map guest_file c.args.entries.now) c.args.name.now c.loop-number.number (simp length-map (omega arith)) c.loop-number.invariant
    (entry_named c.args.entries.now c.loop-number.number c.index-entries-number.result c.args.name.now true within
    c.index-entries-number.is (rw c.as_str.ensures.value at (sym c.eq.ensures ∙ c.if-eq.true)))

pub loop-number-preserved : goal.loop-number-preserved
loop-number-preserved c =
    let within : c.loop-number.number < length c.args.entries.now = omega arith in
    below_more _ _ c.loop-number.invariant
    (entry_named c.args.entries.now c.loop-number.number c.index-entries-number.result c.args.name.now false within
    c.index-entries-number.is (rw c.as_str.ensures.value at (sym c.eq.ensures ∙ c.if-eq.false)))

pub returns-clause-number : goal.returns-clause-number
returns-clause-number c =
    missing (map guest_file c.args.entries.now) c.args.name.now
    (λ k within. let before : k < length c.args.entries.now = simp length-map at within in c.loop-number.invariant k (omega arith))
