use Rattle.std.proofs.Common.{◌∙◌}
use Rattle.linux_calls.specs.View.{view_of}
use Rattle.linux_calls.proofs.Entered.{entered_goes_on, entered_fits}
use Rattle.linux_calls.proofs.tests.answer_with.Goals as goal

pub loop-preserved : goal.loop-preserved
loop-preserved c =
    let parts = c.in-Need.ensures.parts in
    let before = c.loop.invariant.parts in
    record {
      can_go_on = entered_goes_on (view_of c.answer.new.w) c.enter_zeros.new.pages c.enter_zeros.ensures.perms c.answer.new.w.progress.now.stage
          c.in-Need.ensures.needs.can_go_on;
      fit = entered_fits (view_of c.answer.new.w) c.enter_zeros.new.pages c.enter_zeros.ensures.perms c.enter_zeros.ensures.count c.in-Need.ensures.pages.fit;
      parts = record {
        gprs = parts.gprs ∙ before.gprs;
        fs = parts.fs ∙ before.fs;
        gs = parts.gs ∙ before.gs;
        pages = parts.pages ∙ before.pages;
        regions = parts.regions ∙ before.regions;
        files = parts.files ∙ before.files;
        random = parts.random ∙ before.random;
        progress = parts.progress ∙ before.progress;
        steps = parts.steps ∙ before.steps;
      };
    }
