use Rattle.std.proofs.Common.{refl, ap, inl, inr}
use Rattle.core_step.specs.declared.kinds.Plan.TheVariants.{Plain}
use Rattle.core_step.proofs.machine.Machine.carry_out_plain.Goals as goal

pub returns-in-Ok : goal.returns-in-Ok
returns-in-Ok c = record {
  found = Plain c.instruction-i.result;
  is = λ w. ap Plain (c.instruction-i.ensures.is w);
  fits = c.instruction-i.ensures.fits;
  end = inl (record { ready = λ w. c.in-Ok.ensures.ready; left = c.complete.ensures });
}

pub returns-in-Err : goal.returns-in-Err
returns-in-Err c = record {
  found = Plain c.instruction-i.result;
  is = λ w. ap Plain (c.instruction-i.ensures.is w);
  fits = c.instruction-i.ensures.fits;
  end = inr (record { stop = c.in-Err.stop; stops = λ w. c.in-Err.ensures; answer = c.answer.ensures; same = refl });
}
