use Rattle.core_step.specs.Kept.{fetched_of}
use Rattle.core_step.proofs.FetchLemmas.{fetches-whole}
use Rattle.core_step.proofs.PageCounts.{fetch-touches}
use Rattle.core_step.proofs.machine.Machine.fetch_by.Goals as goal

pub returns-in-Some : goal.returns-in-Some
returns-in-Some c =
    let f = fetches-whole c.args.self.now c.in-Some.bytes (fetched_of c.recall.result.now) c.in-Some.ensures c.recall.ensures.outcome in
    record { whole = f.whole; never = f.never; need = f.need; fits = f.fits; few = fetch-touches c.args.self.now.rip; kept = c.recall.ensures.fits }

pub returns-in-None : goal.returns-in-None
returns-in-None c =
    let f = c.fetch_apart.ensures.fetches in
    record { whole = f.whole; never = f.never; need = f.need; fits = f.fits; few = fetch-touches c.args.self.now.rip; kept = c.fetch_apart.ensures.kept }
