use Rattle.std.proofs.lemmas.Int.{to_z_pos}
use Rattle.std.specs.Int.{w64, cast_signed}
use Rattle.guest_transfers.proofs.FileLemmas.{never_refused}
use Rattle.linux_calls.proofs.FileMoves.{seek_start}
use Rattle.linux_calls.proofs.transfers.leave_at.Goals as goal

pub unreachable-requires : goal.unreachable-requires
unreachable-requires c =
    let starts = seek_start c.args.files.now c.args.fd c.args.at (cast_signed w64 c.args.at) (to_z_pos w64 c.args.at c.requires.low) c.requires.open c.requires.file c.requires.low in
    never_refused _ _ c.in-Err.field-0 starts.0 c.in-Err.ensures.answer
