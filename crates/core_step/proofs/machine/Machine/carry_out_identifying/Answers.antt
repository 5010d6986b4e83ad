use Rattle.std.proofs.Common.{refl, inl}
use Rattle.guest_pages.specs.Pages.{table_of}
use Rattle.core_step.specs.declared.kinds.Plan.TheVariants.{Identifies}
use Rattle.core_step.proofs.Steps.{walk-none}
use Rattle.core_step.proofs.machine.Machine.carry_out_identifying.Goals as goal

pub returns : goal.returns
returns c = record {
  found = Identifies (record { next = c.args.next });
  is = λ w. refl;
  fits = tt;
  end = inl (record { ready = λ w. walk-none (table_of c.args.self.now.pages); left = c.identify.ensures });
}
