use Rattle.std.proofs.Common.{◌≡◌, ap, subst, map, string_bytes, List, Ok}
use Rattle.machine_state.specs.World.{GuestFile}
use Rattle.guest_files.specs.Entries.{guest_file}
use Rattle.program_load.specs.Load.{Program}
use Rattle.guest_run.specs.Guests.{Around, around}
use Rattle.guest_run.specs.Tally.{Tally}
use Rattle.xemu_top.specs.Command.{on_image, on_program, program_of}
use Rattle.xemu_top.specs.Parts.{DoesWork}
use Rattle.xemu_top.proofs.FileLemmas.{works-ended, works-read}
use Rattle.xemu_top.proofs.TopLemmas.{around-counted, around-same, works-wanting}
use Rattle.xemu_top.proofs.top.on_image.Goals as goal

pub returns-in-Err : goal.returns-in-Err
returns-in-Err g c =
    let words = map string_bytes c.args.words.now in
    let command = c.args.command.now in
    let program : Program = program_of words command c.args.bytes.now c.args.image.now in
    let before : Around = around (g.H.Host.holds c.args.host.now) (g.H.Host.opened c.args.host.now) (g.H.Host.faults c.args.host.now)
    (g.S.Source.left c.args.input.now) (g.S.Source.faults c.args.input.now) (g.O.Sink.taken c.args.out.now) (g.O.Sink.faults c.args.out.now)
    (g.E.Sink.taken c.args.err.now) (g.E.Sink.faults c.args.err.now) in
    let mid : Around = around (g.H.Host.holds c.load_ins.new.host) (g.H.Host.opened c.load_ins.new.host) (g.H.Host.faults c.load_ins.new.host)
    (g.S.Source.left c.args.input.now) (g.S.Source.faults c.args.input.now) (g.O.Sink.taken c.args.out.now) (g.O.Sink.faults c.args.out.now)
    (g.E.Sink.taken c.args.err.now) (g.E.Sink.faults c.args.err.now) in
    let same : mid ≡ record before { tally = mid.tally } = around-counted (g.H.Host.holds c.args.host.now) (g.H.Host.holds c.load_ins.new.host) (g.H.Host.opened c.args.host.now)
    (g.H.Host.opened c.load_ins.new.host) (g.H.Host.faults c.args.host.now) (g.H.Host.faults c.load_ins.new.host) _ _ _ _ _ _ c.in-Err.ensures.holds c.in-Err.ensures.opened in
    works-ended words command program before mid _ c.stop.result same c.in-Err.end c.in-Err.ensures.files.told c.in-Err.ensures.files.end
    (c.in-Err.ensures.cause before.tally) (c.stop.ensures mid)

pub returns-in-Ok-guest_files : goal.returns-in-Ok-guest_files
returns-in-Ok-guest_files g c =
    let words = map string_bytes c.args.words.now in
    let command = c.args.command.now in
    let program : Program = program_of words command c.args.bytes.now c.args.image.now in
    let ins : List GuestFile = map guest_file c.in-Ok.ins.items in
    let before : Around = around (g.H.Host.holds c.args.host.now) (g.H.Host.opened c.args.host.now) (g.H.Host.faults c.args.host.now)
    (g.S.Source.left c.args.input.now) (g.S.Source.faults c.args.input.now) (g.O.Sink.taken c.args.out.now) (g.O.Sink.faults c.args.out.now)
    (g.E.Sink.taken c.args.err.now) (g.E.Sink.faults c.args.err.now) in
    let mid : Around = around (g.H.Host.holds c.load_ins.new.host) (g.H.Host.opened c.load_ins.new.host) (g.H.Host.faults c.load_ins.new.host)
    (g.S.Source.left c.args.input.now) (g.S.Source.faults c.args.input.now) (g.O.Sink.taken c.args.out.now) (g.O.Sink.faults c.args.out.now)
    (g.E.Sink.taken c.args.err.now) (g.E.Sink.faults c.args.err.now) in
    let after : Around = around (g.H.Host.holds c.on_program.new.host) (g.H.Host.opened c.on_program.new.host) (g.H.Host.faults c.on_program.new.host)
    (g.S.Source.left c.on_program.new.input) (g.S.Source.faults c.on_program.new.input) (g.O.Sink.taken c.on_program.new.out) (g.O.Sink.faults c.on_program.new.out)
    (g.E.Sink.taken c.on_program.new.err) (g.E.Sink.faults c.on_program.new.err) in
    let same : mid ≡ before =
    around-same (g.H.Host.holds c.args.host.now) (g.H.Host.holds c.load_ins.new.host) (g.H.Host.opened c.args.host.now)
    (g.H.Host.opened c.load_ins.new.host) (g.H.Host.faults c.args.host.now) (g.H.Host.faults c.load_ins.new.host) _ _ _ _ _ _ c.in-Ok.ensures.holds c.in-Ok.ensures.opened (ap (λ (t : Tally). t.host) (c.in-Ok.ensures.cause before.tally)) in
    works-read words command program before after ins c.on_program.result c.in-Ok.ensures.files.told
    (subst (λ (a : Around). DoesWork words command (λ on. on_program words command program ins on) a after c.on_program.result) same
    (rw c.in-Ok-guest_files.ensures at c.on_program.ensures))

pub returns-in-Err-guest_files : goal.returns-in-Err-guest_files
returns-in-Err-guest_files g c =
    let words = map string_bytes c.args.words.now in
    let command = c.args.command.now in
    let before : Around = around (g.H.Host.holds c.args.host.now) (g.H.Host.opened c.args.host.now) (g.H.Host.faults c.args.host.now)
    (g.S.Source.left c.args.input.now) (g.S.Source.faults c.args.input.now) (g.O.Sink.taken c.args.out.now) (g.O.Sink.faults c.args.out.now)
    (g.E.Sink.taken c.args.err.now) (g.E.Sink.faults c.args.err.now) in
    let mid : Around = around (g.H.Host.holds c.load_ins.new.host) (g.H.Host.opened c.load_ins.new.host) (g.H.Host.faults c.load_ins.new.host)
    (g.S.Source.left c.args.input.now) (g.S.Source.faults c.args.input.now) (g.O.Sink.taken c.args.out.now) (g.O.Sink.faults c.args.out.now)
    (g.E.Sink.taken c.args.err.now) (g.E.Sink.faults c.args.err.now) in
    let same : mid ≡ before =
    around-same (g.H.Host.holds c.args.host.now) (g.H.Host.holds c.load_ins.new.host) (g.H.Host.opened c.args.host.now)
    (g.H.Host.opened c.load_ins.new.host) (g.H.Host.faults c.args.host.now) (g.H.Host.faults c.load_ins.new.host) _ _ _ _ _ _ c.in-Ok.ensures.holds c.in-Ok.ensures.opened (ap (λ (t : Tally). t.host) (c.in-Ok.ensures.cause before.tally)) in
    rw c.lost.ensures (works-wanting words command (on_image words command c.args.bytes.now (Ok c.args.image.now)) before mid same)
