use Rattle.std.proofs.Common.{refl, ap, inl, inr}
use Rattle.core_step.specs.declared.kinds.Plan.TheVariants.{OnStrings}
use Rattle.core_step.proofs.machine.Machine.carry_out_strings.Goals as goal

pub returns-in-Ok : goal.returns-in-Ok
returns-in-Ok c = record {
  found = OnStrings c.on_strings-i.result;
  is = λ w. ap OnStrings (c.on_strings-i.ensures w);
  fits = tt;
  end = inl (record { ready = λ w. c.in-Ok.ensures; left = c.pass_strings.ensures });
}

pub returns-in-Err : goal.returns-in-Err
returns-in-Err c = record {
  found = OnStrings c.on_strings-i.result;
  is = λ w. ap OnStrings (c.on_strings-i.ensures w);
  fits = tt;
  end = inr (record { stop = c.in-Err.stop; stops = λ w. c.in-Err.ensures; answer = c.answer.ensures; same = refl });
}
