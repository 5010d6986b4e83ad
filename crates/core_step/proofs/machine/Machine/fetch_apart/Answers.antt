use Rattle.std.proofs.Common.{◌∙◌}
use Rattle.core_step.proofs.FetchLemmas.{IsRead, fetches, fetches-all}
use Rattle.core_step.specs.Kept.{fetched_of}
use Rattle.core_step.proofs.machine.Machine.fetch_apart.Goals as goal

pub returns-then-run-eq15 : goal.returns-then-run-eq15
returns-then-run-eq15 c =
    let run = c.read_run-run.result in let into = c.read_run-run.new.into in
    let read : IsRead c.args.self.now into run.count run.stop = record {
      most = c.read_run-run.auto.into;
      within = c.read_run-run.ensures.count;
      run = c.read_run-run.ensures.run;
      shown = c.read_run-run.ensures.bytes;
    } in
    let f = fetches-all c.args.self.now into run.count run.stop (fetched_of c.recall.result.now) read c.if-run-eq15.true c.recall.ensures.outcome in
    record { fetches = f; kept = c.recall.ensures.fits }

pub hold-requires : goal.hold-requires
hold-requires c =
    let run = c.read_run-run.result in let into = c.read_run-run.new.into in
    let read : IsRead c.args.self.now into run.count run.stop = record {
      most = c.read_run-run.auto.into;
      within = c.read_run-run.ensures.count;
      run = c.read_run-run.ensures.run;
      shown = c.read_run-run.ensures.bytes;
    } in
    (fetches c.args.self.now into run.count run.stop c.decode.result c.fetch_outcome.result read c.decode.ensures c.fetch_outcome.ensures).fits

pub returns-else-run-eq15 : goal.returns-else-run-eq15
returns-else-run-eq15 c =
    let run = c.read_run-run.result in let into = c.read_run-run.new.into in
    let read : IsRead c.args.self.now into run.count run.stop = record {
      most = c.read_run-run.auto.into;
      within = c.read_run-run.ensures.count;
      run = c.read_run-run.ensures.run;
      shown = c.read_run-run.ensures.bytes;
    } in
    let f = fetches c.args.self.now into run.count run.stop c.decode.result (fetched_of c.hold.result.now) read c.decode.ensures (c.hold.ensures.fetched_is ∙ c.fetch_outcome.ensures) in
    record { fetches = f; kept = c.hold.ensures.fits }
