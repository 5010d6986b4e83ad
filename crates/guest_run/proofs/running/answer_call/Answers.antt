use Rattle.std.proofs.Common.{refl}
use Rattle.guest_run.proofs.running.answer_call.Goals as goal

pub returns : goal.returns
returns g c =
    let e = c.answer.ensures in
    record {
      keeps = refl;
      pages = rw e.parts.steps at e.pages;
      follows = rw e.parts.steps at e.follows;
      tells = e.tells;
      needs = rw e.parts.steps at e.needs;
      cause = e.cause;
      waits = rw e.parts.steps at e.waits;
      swap = e.swap;
    }
