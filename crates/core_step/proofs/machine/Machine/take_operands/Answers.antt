use Rattle.std.proofs.Common.{◌∙◌}
use Rattle.guest_pages.specs.Pages.{table_of}
use Rattle.core_step.proofs.Walks.{source-stops, source-passes}
use Rattle.core_step.proofs.machine.Machine.take_operands.Goals as goal

pub returns-in-Ok-take_old : goal.returns-in-Ok-take_old
returns-in-Ok-take_old c = record {
  ready = source-passes (table_of c.args.self.now.pages) c.args.i.now c.in-Ok.ensures.ready ∙ c.in-Ok-take_old.ensures.ready;
  source = c.in-Ok.ensures;
  destination = c.in-Ok-take_old.ensures;
}

pub returns-in-Err-take_old : goal.returns-in-Err-take_old
returns-in-Err-take_old c =
    source-passes (table_of c.args.self.now.pages) c.args.i.now c.in-Ok.ensures.ready ∙ c.in-Err-take_old.ensures

pub returns-in-Err : goal.returns-in-Err
returns-in-Err c = source-stops (table_of c.args.self.now.pages) c.args.i.now c.in-Err.stop c.in-Err.ensures
