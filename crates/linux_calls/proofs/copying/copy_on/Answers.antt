use Rattle.std.proofs.Common.{◌∙◌, ap, arith}
use Rattle.linux_calls.specs.Rest.{ProgressValue, rest_of}
use Rattle.linux_calls.specs.View.{view_of, with_parts}
use Rattle.linux_calls.proofs.CopyLemmas.{copies_whole, copies_away}
use Rattle.std.proofs.Common.{◌*◌, refl, rules, subst, sym}
use Rattle.linux_calls.specs.Units.{GoesOn, copying_from, standing_at}
use Rattle.guest_transfers.specs.Pieces.{single}
use Rattle.guest_transfers.specs.declared.kinds.Stop.TheVariants.{Whole, Away}
use Rattle.linux_calls.proofs.FileMoves.{reads_keep}
use Rattle.linux_calls.proofs.WaitLemmas.{kept_table, copying_goes}
use Rattle.linux_calls.proofs.copying.copy_on.Goals as goal

pub returns-in-Whole-clause-does : goal.returns-in-Whole-clause-does
returns-in-Whole-clause-does c =
    let count = rw c.rsi.ensures at c.pages_up-count.ensures.value in
    let fd = rw c.get.ensures at c.low-fd.ensures in
    copies_whole (view_of c.args.w.now) c.args.at c.args.from c.copy_file.new.pages c.in-Whole.field-0 (rw (count, fd, c.get-offset.ensures) at c.in-Whole.ensures.reads)

pub returns-in-Away-clause-does : goal.returns-in-Away-clause-does
returns-in-Away-clause-does c swap base =
    let count = rw c.rsi.ensures at c.pages_up-count.ensures.value in
    let fd = rw c.get.ensures at c.low-fd.ensures in
    let stops = rw count at c.in-Away.ensures.stops in
    let less = stops.1 in
    ap (λ (p : ProgressValue). rest_of p (with_parts swap (let v = view_of c.args.w.now in record v { pages = c.copy_file.new.pages }) base)) c.wait.ensures
    ∙ copies_away (view_of c.args.w.now) c.args.at c.args.from c.copy_file.new.pages c.in-Away.done c.in-Away.slot stops.0 (omega arith)
    (rw (count, fd, c.get-offset.ensures) at c.in-Away.ensures.reads) swap base

pub returns-in-Whole-clause-kept : goal.returns-in-Whole-clause-kept
returns-in-Whole-clause-kept c =
    kept_table c.args.w.now _ c.copy_file.new.pages (search rules)
    (reads_keep c.args.w.now.pages.now c.copy_file.new.pages (single c.args.at (c.pages_up-count.result * 4096)) c.args.from c.args.w.now.files.now c.low-fd.result c.get-offset.result
    (Whole c.in-Whole.field-0) c.in-Whole.ensures.reads) c.requires.fit (refl, refl)

pub returns-in-Away-clause-kept : goal.returns-in-Away-clause-kept
returns-in-Away-clause-kept c =
    kept_table c.args.w.now _ c.copy_file.new.pages (search rules)
    (reads_keep c.args.w.now.pages.now c.copy_file.new.pages (single c.args.at (c.pages_up-count.result * 4096)) c.args.from c.args.w.now.files.now c.low-fd.result c.get-offset.result
    (Away c.in-Away.done c.in-Away.slot) c.in-Away.ensures.reads) c.requires.fit (refl, refl)

pub returns-in-Away-clause-waits : goal.returns-in-Away-clause-waits
returns-in-Away-clause-waits c =
    let count = rw c.rsi.ensures at c.pages_up-count.ensures.value in
    let low = c.requires.can.low in
    let v = view_of c.args.w.now in
    let at = standing_at v (copying_from c.args.at c.args.from v.progress.pieces) in
    let keeps = reads_keep v.pages c.copy_file.new.pages (single c.args.at (c.pages_up-count.result * 4096)) c.args.from v.files c.low-fd.result c.get-offset.result
    (Away c.in-Away.done c.in-Away.slot) c.in-Away.ensures.reads in
    subst (λ (p : ProgressValue). GoesOn at (standing_at (record v { pages = c.copy_file.new.pages }) p)) (sym c.wait.ensures)
    (copying_goes v c.copy_file.new.pages c.args.at c.args.from c.in-Away.done c.in-Away.slot (omega (arith, low)) keeps (rw count at c.in-Away.ensures.stops))
