use Rattle.std.proofs.Common.{length, take, arith, refl, ap}
use Rattle.guest_pages.specs.Pages.{table_of}
use Rattle.guest_transfers.proofs.FileLemmas.{piece_short}
use Rattle.guest_transfers.proofs.PartLemmas.{ready_write}
use Rattle.guest_transfers.proofs.file_moves.read_part.Goals as goal

pub unreachable-requires : goal.unreachable-requires
unreachable-requires c =
    let came = ap length c.read_front-count.ensures.bytes in
    ready_write (table_of c.args.pages.now) c.args.addr c.args.part (length (take c.read_front-count.result c.read_front-count.new.into)) _ _ c.requires.ready
    (omega (arith, came, piece_short c.args.files.now c.args.fd c.args.at c.args.part)) c.in-Err.ensures.answer refl
