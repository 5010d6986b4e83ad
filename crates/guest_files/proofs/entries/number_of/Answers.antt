-- The first entry of the name is the first file of it.
use Rattle.std.proofs.Common.{◌<◌, ◌∙◌, below_more, false, true, length, map, sym, arith}
use Rattle.std.proofs.lemmas.List.{length-map}
use Rattle.guest_files.specs.Entries.{guest_file}
use Rattle.guest_files.proofs.Names.{entry_named, found, missing}
use Rattle.guest_files.proofs.entries.number_of.Goals as goal

pub returns-then-is_named-clause-number : goal.returns-then-is_named-clause-number
returns-then-is_named-clause-number c =
    let within : c.loop-number.number < length c.args.entries.now = omega arith in
    found (map guest_file c.args.entries.now) c.args.name.now c.loop-number.number (simp length-map (omega arith)) c.loop-number.invariant
    (entry_named c.args.entries.now c.loop-number.number c.index-entries-number.result c.args.name.now true within
    c.index-entries-number.is (sym c.is_named.ensures ∙ c.if-is_named.true))

pub loop-number-preserved : goal.loop-number-preserved
loop-number-preserved c =
    let within : c.loop-number.number < length c.args.entries.now = omega arith in
    below_more _ _ c.loop-number.invariant
    (entry_named c.args.entries.now c.loop-number.number c.index-entries-number.result c.args.name.now false within
    c.index-entries-number.is (sym c.is_named.ensures ∙ c.if-is_named.false))

pub returns-clause-number : goal.returns-clause-number
returns-clause-number c =
    missing (map guest_file c.args.entries.now) c.args.name.now
    (λ k within. let before : k < length c.args.entries.now = simp length-map at within in c.loop-number.invariant k (omega arith))
