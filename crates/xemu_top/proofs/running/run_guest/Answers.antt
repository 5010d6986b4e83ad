use Rattle.std.proofs.Common.{map, string_bytes}
use Rattle.guest_run.specs.Guests.{Around, around}
use Rattle.xemu_top.proofs.RunLemmas.{runs-ended, runs-failed, unstopped}
use Rattle.xemu_top.proofs.running.run_guest.Goals as goal

pub returns-in-Exit : goal.returns-in-Exit
returns-in-Exit g c =
    let mid : Around = around (g.H.Host.holds c.run.new.host) (g.H.Host.opened c.run.new.host) (g.H.Host.faults c.run.new.host)
    (g.S.Source.left c.run.new.input) (g.S.Source.faults c.run.new.input) (g.O.Sink.taken c.run.new.out) (g.O.Sink.faults c.run.new.out)
    (g.E.Sink.taken c.run.new.err) (g.E.Sink.faults c.run.new.err) in
    let end = unstopped c.run.result c.in-Exit.is in
    runs-ended (map string_bytes c.args.words.now) c.args.command.now c.args.guest c.run.new.guest _ mid _ c.requires.goes c.requires.steps
    c.run.result end.0 end.1 c.run.ensures c.end_run.result (c.end_run.ensures mid)

pub returns-in-Host : goal.returns-in-Host
returns-in-Host g c =
    let mid : Around = around (g.H.Host.holds c.run.new.host) (g.H.Host.opened c.run.new.host) (g.H.Host.faults c.run.new.host)
    (g.S.Source.left c.run.new.input) (g.S.Source.faults c.run.new.input) (g.O.Sink.taken c.run.new.out) (g.O.Sink.faults c.run.new.out)
    (g.E.Sink.taken c.run.new.err) (g.E.Sink.faults c.run.new.err) in
    rw c.lost.ensures
    (runs-failed (map string_bytes c.args.words.now) c.args.command.now c.args.guest c.run.new.guest _ mid mid c.requires.goes c.requires.steps c.in-Host.call
    (rw c.in-Host.is at c.run.ensures))
