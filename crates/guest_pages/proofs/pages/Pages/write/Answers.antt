use Rattle.std.proofs.Common.{arith}
use Rattle.guest_pages.proofs.Writes.{writes_on}
use Rattle.guest_pages.proofs.pages.Pages.write.Goals as goal

pub loop-done-preserved : goal.loop-done-preserved
loop-done-preserved c = (
  c.write_chunk-done.ensures.within,
  writes_on c.args.self.now _ _ c.args.addr c.args.bytes.now c.loop-done.done c.write_chunk-done.result (omega arith) c.write_chunk-done.ensures.within c.loop-done.invariant.1 c.write_chunk-done.ensures.chunk,
)
