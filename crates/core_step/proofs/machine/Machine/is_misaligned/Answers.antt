use Rattle.std.proofs.Common.{Option, ap, sym, ◌∙◌}
use Rattle.core_step.specs.declared.forms.Alignment.{Alignment}
use Rattle.core_step.specs.Plan.{next_of}
use Rattle.core_step.specs.Forms.{is_misaligned_by}
use Rattle.core_step.specs.Machine.{state_of}
use Rattle.core_step.proofs.machine.Machine.is_misaligned.Goals as goal

pub returns-in-Some : goal.returns-in-Some
unfolding is_misaligned_by
returns-in-Some c w =
    let s = state_of c.args.self.now w in
    c.is_broken.ensures w
    ∙ ap (λ (a : Option Alignment). is_misaligned_by a (next_of c.args.p.now.len s) s) (sym c.in-Some.is)
