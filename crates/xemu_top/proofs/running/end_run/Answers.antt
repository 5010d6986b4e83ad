use Rattle.std.proofs.Common.{◌<◌, arith, get_or, length, map, string_bytes}
use Rattle.std.proofs.lemmas.List.{length-map}
use Rattle.xemu_top.specs.Parts.{with_err, with_host}
use Rattle.xemu_top.proofs.RunLemmas.{finishes-failed, finishes-stored}
use Rattle.xemu_top.proofs.running.end_run.Goals as goal

pub store_files-requires : goal.store_files-requires
store_files-requires g c k d within =
    let outs = c.args.command.now.outs.items in
    let below : get_or outs k d < c.args.command.now.program = (c.requires.command.outs.pairs k d (rw c.as_slice.ensures.value at within)).before in
    let some : c.args.command.now.program < length c.args.words.now = simp length-map at c.requires.command.program in
    rw c.as_slice.ensures.value (omega arith)

pub returns-in-Ok : goal.returns-in-Ok
returns-in-Ok g c a =
    let with_line = with_err a (g.E.Sink.taken c.args.err.now) (g.E.Sink.faults c.args.err.now) in
    let stored = with_host a (g.H.Host.holds c.store_files.new.host) (g.H.Host.opened c.store_files.new.host) (g.H.Host.faults c.store_files.new.host) in
    finishes-stored (map string_bytes c.args.words.now) c.args.command.now c.args.guest _ _ _ c.finish.result
    (rw (c.entries.ensures.files, c.files.ensures, c.as_slice.ensures.value) at (c.in-Ok.ensures with_line))
    (rw (c.report-line.ensures, c.end.ensures, c.steps.ensures, c.end_of-end.ensures, c.end-in-Ok.ensures, c.into_machine.ensures) at (c.finish.ensures stored))

pub returns-in-Err : goal.returns-in-Err
returns-in-Err g c a =
    let with_line = with_err a (g.E.Sink.taken c.args.err.now) (g.E.Sink.faults c.args.err.now) in
    rw c.lost.ensures
    (finishes-failed (map string_bytes c.args.words.now) c.args.command.now c.args.guest _ _ c.in-Err.call
    (rw (c.entries.ensures.files, c.files.ensures, c.as_slice.ensures.value) at (c.in-Err.ensures with_line)))
