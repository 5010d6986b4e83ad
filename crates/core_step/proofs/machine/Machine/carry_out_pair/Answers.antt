use Rattle.std.proofs.Common.{refl, ap, inl, inr}
use Rattle.core_step.specs.declared.kinds.Plan.TheVariants.{OnPair}
use Rattle.guest_pages.specs.Pages.{table_of}
use Rattle.core_step.proofs.Walks.{pair-free}
use Rattle.core_step.proofs.machine.Machine.carry_out_pair.Goals as goal

pub exchange-requires-clause-ready : goal.exchange-requires-clause-ready
exchange-requires-clause-ready c = pair-free (table_of c.args.self.now.pages) c.on_pair-i.result c.in-Ok.ensures

pub returns-in-Ok : goal.returns-in-Ok
returns-in-Ok c = record {
  found = OnPair c.on_pair-i.result;
  is = λ w. ap OnPair (c.on_pair-i.ensures w);
  fits = tt;
  end = inl (record { ready = λ w. c.in-Ok.ensures; left = c.exchange.ensures });
}

pub returns-in-Err : goal.returns-in-Err
returns-in-Err c = record {
  found = OnPair c.on_pair-i.result;
  is = λ w. ap OnPair (c.on_pair-i.ensures w);
  fits = tt;
  end = inr (record { stop = c.in-Err.stop; stops = λ w. c.in-Err.ensures; answer = c.answer.ensures; same = refl });
}
