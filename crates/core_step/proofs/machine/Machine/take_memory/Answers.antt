use Rattle.std.proofs.Common.{sym}
use Rattle.guest_pages.specs.Pages.{table_of}
use Rattle.core_step.proofs.Walks.{operand-stops}
use Rattle.core_step.proofs.Takings.{taken-shown}
use Rattle.core_step.proofs.machine.Machine.take_memory.Goals as goal

pub returns-in-Ok : goal.returns-in-Ok
returns-in-Ok c =
    taken-shown c.args.self.now c.args.kind c.args.addr c.args.size c.bytes-2.result c.number.result c.in-Ok.bytes.now c.bytes-2.ensures.value
    c.in-Ok.ensures.answer c.in-Ok.ensures.bytes c.number.ensures.value c.number.ensures.fits

pub returns-in-Err : goal.returns-in-Err
returns-in-Err c =
    operand-stops (table_of c.args.self.now.pages) c.args.kind c.args.addr c.args.size c.in-Err.miss
    (rw (sym c.bytes-2.ensures.value) c.in-Err.ensures.answer)
