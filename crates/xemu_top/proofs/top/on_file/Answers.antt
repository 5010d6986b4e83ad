use Rattle.std.proofs.Common.{sym, refl, map, string_bytes, Ok, Err}
use Rattle.guest_run.specs.Guests.{Around, around}
use Rattle.xemu_top.specs.declared.ends.End.TheVariants.{Image}
use Rattle.xemu_top.proofs.PartLemmas.{works-stopped}
use Rattle.xemu_top.proofs.TopLemmas.{works-image}
use Rattle.xemu_top.proofs.top.on_file.Goals as goal

pub returns-in-Ok : goal.returns-in-Ok
returns-in-Ok g c =
    works-image (map string_bytes c.args.words.now) c.args.command.now c.args.bytes.now (Ok c.in-Ok.image) _ _ c.on_image.result
    (sym c.in-Ok.ensures.read) c.on_image.ensures

pub returns-in-Err : goal.returns-in-Err
returns-in-Err g c =
    let words = map string_bytes c.args.words.now in
    let command = c.args.command.now in
    let before : Around = around (g.H.Host.holds c.args.host.now) (g.H.Host.opened c.args.host.now) (g.H.Host.faults c.args.host.now)
    (g.S.Source.left c.args.input.now) (g.S.Source.faults c.args.input.now) (g.O.Sink.taken c.args.out.now) (g.O.Sink.faults c.args.out.now)
    (g.E.Sink.taken c.args.err.now) (g.E.Sink.faults c.args.err.now) in
    works-image words command c.args.bytes.now (Err c.in-Err.fault) before _ c.stop.result (sym c.in-Err.ensures.read)
    (works-stopped words command (Image c.in-Err.fault) before _ c.stop.result refl (λ fault is. cc) (c.stop.ensures before))
