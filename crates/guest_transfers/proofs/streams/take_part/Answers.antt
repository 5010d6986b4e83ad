use Rattle.std.proofs.Common.{refl, arith, take, length}
use Rattle.std.proofs.lemmas.List.{length-take}
use Rattle.guest_pages.specs.Pages.{table_of}
use Rattle.guest_transfers.proofs.PartLemmas.{ready_write}
use Rattle.guest_transfers.proofs.streams.take_part.Goals as goal

pub unreachable-requires : goal.unreachable-requires
unreachable-requires g c =
    ready_write (table_of c.args.pages.now) c.args.at c.args.part (length (take c.in-Ok.n c.take_front.new.into)) _ _ c.requires.ready
    (omega (arith, length-take c.in-Ok.n c.take_front.new.into, c.in-Ok.ensures.within)) c.in-Err-write.ensures.answer refl
