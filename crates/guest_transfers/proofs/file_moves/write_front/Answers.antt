use Rattle.std.proofs.Common.{sym, arith, length}
use Rattle.guest_files.specs.Moves.{write_refusal}
use Rattle.guest_transfers.proofs.FileLemmas.{never_refused, write_passes, written_nothing}
use Rattle.guest_transfers.proofs.file_moves.write_front.Goals as goal

pub returns-then-at-from-clause-written : goal.returns-then-at-from-clause-written
returns-then-at-from-clause-written c =
    sym (written_nothing c.args.files.now c.args.fd c.args.at c.args.bytes.now (omega (arith, c.if-at-from.true, c.from.ensures, c.cap.ensures.value)))

pub unreachable-requires : goal.unreachable-requires
unreachable-requires c =
    never_refused (write_refusal c.args.files.now c.args.fd c.args.at (length c.args.bytes.now)) _ c.in-Err.field-0
    (write_passes c.args.files.now c.args.fd c.args.at (length c.args.bytes.now) c.requires (omega (arith, c.if-at-from.false, c.from.ensures, c.cap.type_inv))
    (omega (arith, c.if-at-from.false, c.from.ensures, c.cap.ensures.value))) c.in-Err.ensures.answer
