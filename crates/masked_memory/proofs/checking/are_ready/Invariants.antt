use Rattle.std.proofs.Common.{◌-◌, ◌*◌}
use Rattle.guest_pages.specs.Pages.{table_of}
use Rattle.masked_memory.specs.Parts.{AreFree}
use Rattle.masked_memory.proofs.checking.are_ready.Given as goal

abbrev pub invariant-loop-from : goal.invariant-loop-from
invariant-loop-from l = AreFree (table_of l.pages) l.kind l.addr l.width l.mask 0 l.from

abbrev pub decreases-loop-from : goal.decreases-loop-from
decreases-loop-from l = l.lanes * l.width - l.from
