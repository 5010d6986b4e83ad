use Rattle.std.proofs.Common.{refl, arith}
use Rattle.guest_files.specs.Moves.{read_refusal}
use Rattle.guest_transfers.proofs.FileLemmas.{never_refused, none_behind, read_passes}
use Rattle.guest_transfers.proofs.file_moves.read_front.Goals as goal

pub returns-then-at-from-clause-count : goal.returns-then-at-from-clause-count
returns-then-at-from-clause-count c =
    rw (none_behind c.args.files.now c.args.fd c.args.at c.args.most c.cap.ensures.kept (omega (arith, c.if-at-from.true, c.from.ensures, c.cap.ensures.value))) refl

pub returns-then-at-from-clause-bytes : goal.returns-then-at-from-clause-bytes
returns-then-at-from-clause-bytes c =
    rw (none_behind c.args.files.now c.args.fd c.args.at c.args.most c.cap.ensures.kept (omega (arith, c.if-at-from.true, c.from.ensures, c.cap.ensures.value))) refl

pub unreachable-requires : goal.unreachable-requires
unreachable-requires c =
    never_refused (read_refusal c.args.files.now c.args.fd c.args.at) _ c.in-Err.field-0
    (read_passes c.args.files.now c.args.fd c.args.at c.requires.file (omega (arith, c.if-at-from.false, c.from.ensures, c.cap.type_inv))) c.in-Err.ensures.answer
