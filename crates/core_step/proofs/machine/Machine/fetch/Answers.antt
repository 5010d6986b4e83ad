use Rattle.core_step.proofs.FetchLemmas.{IsRead, fetches}
use Rattle.core_step.proofs.PageCounts.{fetch-touches}
use Rattle.core_step.proofs.machine.Machine.fetch.Goals as goal

pub returns : goal.returns
returns c =
    let run = c.read_run-run.result in let into = c.read_run-run.new.into in
    let read : IsRead c.args.self.now into run.count run.stop = record {
      most = c.read_run-run.auto.into;
      within = c.read_run-run.ensures.count;
      run = c.read_run-run.ensures.run;
      shown = c.read_run-run.ensures.bytes;
    } in
    let f = fetches c.args.self.now into run.count run.stop c.decode.result c.fetch_outcome.result read c.decode.ensures c.fetch_outcome.ensures in
    record { whole = f.whole; never = f.never; need = f.need; fits = f.fits; few = fetch-touches c.args.self.now.rip }
