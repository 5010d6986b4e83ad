use Rattle.std.proofs.Common.{◌∙◌, ap, sym}
use Rattle.guest_pages.specs.Table.{blocked}
use Rattle.guest_pages.specs.Pages.{table_of}
use Rattle.core_step.proofs.Walks.{operand-stops}
use Rattle.core_step.proofs.Takings.{answer-passes, answer-stops, taken-loaded}
use Rattle.core_step.proofs.machine.Machine.take_across.Goals as goal

pub returns-in-Ok : goal.returns-in-Ok
returns-in-Ok c =
    let stop = blocked (table_of c.args.self.now.pages) c.args.kind c.args.addr in
    taken-loaded c.args.self.now c.args.kind c.args.addr c.args.size c.bytes-in-Ok.result c.load.result c.bytes-in-Ok.ensures.value
    (ap stop (c.bytes-in-Ok.ensures.value ∙ sym c.bytes.ensures.value ∙ sym c.from.ensures)
    ∙ answer-passes (stop c.from.result) c.in-Ok.field-0 c.in-Ok.ensures.answer)
    c.load.ensures.value c.load.ensures.fits

pub returns-in-Err : goal.returns-in-Err
returns-in-Err c =
    let stop = blocked (table_of c.args.self.now.pages) c.args.kind c.args.addr in
    operand-stops (table_of c.args.self.now.pages) c.args.kind c.args.addr c.args.size c.in-Err.miss
    (ap stop (sym c.bytes.ensures.value ∙ sym c.from.ensures) ∙ answer-stops (stop c.from.result) c.in-Err.miss c.in-Err.ensures.answer)
