use Rattle.std.proofs.Common.{ap, refl}
use Rattle.host_edge.specs.Causes.{Counts}
use Rattle.swap_pager.proofs.Pagings.{swap_open}
use Rattle.guest_run.specs.Tally.{tally}
use Rattle.guest_run.proofs.LeftLemmas.{brought-ready}
use Rattle.guest_run.proofs.running.bring.Goals as goal

pub bring-requires-clause-open : goal.bring-requires-clause-open
bring-requires-clause-open g c = swap_open _ _ _ _ c.requires.pages c.limit.ensures.counts c.requires.away

pub returns-in-Ok-clause-brings : goal.returns-in-Ok-clause-brings
returns-in-Ok-clause-brings g c = record {
  again = refl;
  keeps = refl;
  brought = c.in-Ok.ensures.brought;
  memory = c.in-Ok.ensures.memory;
  pages = c.in-Ok.ensures.can_page c.requires.pages;
  ready = brought-ready _ _ _ c.limit.ensures.ordered c.requires.away c.requires.pages.least refl c.in-Ok.ensures.brought;
  loads = c.in-Ok.ensures.loads;
  still = tt;
  files = c.in-Ok.ensures.files;
  opened_is = c.in-Ok.ensures.opened;
  cause = λ take out err. ap (λ (counts : Counts). tally counts take out err) c.in-Ok.ensures.cause;
}
