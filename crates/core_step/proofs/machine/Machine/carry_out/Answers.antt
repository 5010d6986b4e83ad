use Rattle.std.proofs.Common.{subst, sym}
use Rattle.core_step.specs.declared.forms.PlanForm.{PlanForm}
use Rattle.core_step.specs.Plan.{next_of}
use Rattle.core_step.specs.Forms.{plan_by_form}
use Rattle.core_step.specs.Machine.{state_of, IsCarriedOut}
use Rattle.core_step.proofs.machine.Machine.carry_out.Goals as goal

pub returns-in-Clears : goal.returns-in-Clears
returns-in-Clears c =
    let old = c.args.self.now in
    let P : PlanForm → Type 0 = λ form.
    IsCarriedOut
    (λ w. plan_by_form form c.args.p.now.decoded.fields (next_of c.args.p.now.len (state_of old w)) (state_of old w))
    old c.carry_out_clearing.new.self c.carry_out_clearing.result in
    subst P (sym c.in-Clears.is) c.carry_out_clearing.ensures

pub returns-in-Identifies : goal.returns-in-Identifies
returns-in-Identifies c =
    let old = c.args.self.now in
    let P : PlanForm → Type 0 = λ form.
    IsCarriedOut
    (λ w. plan_by_form form c.args.p.now.decoded.fields (next_of c.args.p.now.len (state_of old w)) (state_of old w))
    old c.carry_out_identifying.new.self c.carry_out_identifying.result in
    subst P (sym c.in-Identifies.is) c.carry_out_identifying.ensures
