use Rattle.std.proofs.Common.{◌∙◌, ap, refl, map, string_bytes, List, ℕ, Some, None}
use Rattle.machine_state.specs.World.{GuestFile}
use Rattle.start_stack.specs.declared.kinds.TooLong.{TooLong}
use Rattle.program_load.specs.Load.{Program}
use Rattle.guest_run.specs.declared.starting.Limits.{Limits}
use Rattle.guest_run.specs.Guests.{Around, around}
use Rattle.guest_run.specs.Starting.{IsPrepared, PrepareRefuses, prepare_calls}
use Rattle.guest_run.specs.Tally.{IsCounted, tally}
use Rattle.xemu_top.specs.declared.ends.End.{End}
use Rattle.xemu_top.specs.Command.{program_of, on_stack}
use Rattle.xemu_top.proofs.PartLemmas.{works-stopped}
use Rattle.xemu_top.proofs.StartLemmas.{Starts, fits-where-host, goes-on, path-none, refusal-is, works-run, works-stack, works-then, works-unstarted}
use Rattle.xemu_top.proofs.TopLemmas.{of_words}
use Rattle.xemu_top.proofs.top.on_program.Goals as goal

pub run_guest-requires-clause-is_guest : goal.run_guest-requires-clause-is_guest
run_guest-requires-clause-is_guest g c = c.in-Ok-prepare.ensures.guest _ _ _ _ _ _

pub returns-in-Ok-prepare : goal.returns-in-Ok-prepare
returns-in-Ok-prepare g c =
    let words = map string_bytes c.args.words.now in
    let command = c.args.command.now in
    let program : Program = program_of words command c.args.bytes.now c.args.image.now in
    let files : List GuestFile = c.args.files.files in
    let limits : Limits = record { pages = command.pages; resident = command.resident; cap = command.cap; budget = command.budget; seed = command.seed } in
    let before : Around = around (g.H.Host.holds c.args.host.now) (g.H.Host.opened c.args.host.now) (g.H.Host.faults c.args.host.now)
    (g.S.Source.left c.args.input.now) (g.S.Source.faults c.args.input.now) (g.O.Sink.taken c.args.out.now) (g.O.Sink.faults c.args.out.now)
    (g.E.Sink.taken c.args.err.now) (g.E.Sink.faults c.args.err.now) in
    let mid : Around = around (g.H.Host.holds c.prepare.new.host) (g.H.Host.opened c.prepare.new.host) (g.H.Host.faults c.prepare.new.host)
    (g.S.Source.left c.args.input.now) (g.S.Source.faults c.args.input.now) (g.O.Sink.taken c.args.out.now) (g.O.Sink.faults c.args.out.now)
    (g.E.Sink.taken c.args.err.now) (g.E.Sink.faults c.args.err.now) in
    let starts : Starts before mid = record { held = c.in-Ok-prepare.ensures.held; streams = refl } in
    let way = goes-on words command before mid starts
    (λ none. c.in-Ok-prepare.ensures.unopened (path-none _ c.swap_path.result command.swap c.swap_path.ensures none))
    (c.in-Ok-prepare.ensures.cause _ _ _) in
    let prepared : IsPrepared program limits files (g.H.Host.holds c.prepare.new.host) c.in-Ok-prepare.guest =
    of_words (λ (p : Program). IsPrepared p limits files (g.H.Host.holds c.prepare.new.host) c.in-Ok-prepare.guest) words command
    c.args.bytes.now c.args.image.now _ _ c.arguments.ensures.value (ap (map string_bytes) c.deref.ensures.value ∙ c.in-Ok.ensures)
    (rw c.limits_of.ensures at c.in-Ok-prepare.ensures.prepared) in
    works-stack words command program files None before _ c.run_guest.result prepared.short
    (works-run words command before mid starts program files c.in-Ok-prepare.guest _ c.run_guest.result prepared.stands c.run_guest.ensures way)

pub returns-in-Err-TooLong : goal.returns-in-Err-TooLong
returns-in-Err-TooLong g c =
    let words = map string_bytes c.args.words.now in
    let command = c.args.command.now in
    let program : Program = program_of words command c.args.bytes.now c.args.image.now in
    let files : List GuestFile = c.args.files.files in
    let before : Around = around (g.H.Host.holds c.args.host.now) (g.H.Host.opened c.args.host.now) (g.H.Host.faults c.args.host.now)
    (g.S.Source.left c.args.input.now) (g.S.Source.faults c.args.input.now) (g.O.Sink.taken c.args.out.now) (g.O.Sink.faults c.args.out.now)
    (g.E.Sink.taken c.args.err.now) (g.E.Sink.faults c.args.err.now) in
    let mid : Around = around (g.H.Host.holds c.prepare.new.host) (g.H.Host.opened c.prepare.new.host) (g.H.Host.faults c.prepare.new.host)
    (g.S.Source.left c.args.input.now) (g.S.Source.faults c.args.input.now) (g.O.Sink.taken c.args.out.now) (g.O.Sink.faults c.args.out.now)
    (g.E.Sink.taken c.args.err.now) (g.E.Sink.faults c.args.err.now) in
    let starts : Starts before mid = record { held = c.in-Err-TooLong.ensures.held; streams = refl } in
    let fault : TooLong = c.in-Err-TooLong.fault in
    let way = goes-on words command before mid starts
    (λ none. c.in-Err-TooLong.ensures.unopened (path-none _ c.swap_path.result command.swap c.swap_path.ensures none))
    (rw c.in-Err-TooLong.field-0-is at (c.in-Err-TooLong.ensures.cause (g.S.Source.faults c.args.input.now) (g.O.Sink.faults c.args.out.now)
    (g.E.Sink.faults c.args.err.now))) in
    let refused : PrepareRefuses program c.in-Err-TooLong.field-0 =
    of_words (λ (p : Program). PrepareRefuses p c.in-Err-TooLong.field-0) words command
    c.args.bytes.now c.args.image.now _ _ c.arguments.ensures.value (ap (map string_bytes) c.deref.ensures.value ∙ c.in-Ok.ensures)
    (rw c.limits_of.ensures at c.in-Err-TooLong.ensures.refused) in
    works-stack words command program files (Some fault) before _ c.stop.result (refusal-is program c.in-Err-TooLong.field-0 fault c.in-Err-TooLong.field-0-is refused)
    (works-then words command before mid starts (λ on. on_stack words command program files (Some fault) on) _ c.stop.result way
    (works-stopped words command (End.Start fault) mid _ c.stop.result refl (λ f is. cc) (c.stop.ensures mid)))

pub returns-in-Err-Host : goal.returns-in-Err-Host
returns-in-Err-Host g c =
    let words = map string_bytes c.args.words.now in
    let command = c.args.command.now in
    let program : Program = program_of words command c.args.bytes.now c.args.image.now in
    let files : List GuestFile = c.args.files.files in
    let before : Around = around (g.H.Host.holds c.args.host.now) (g.H.Host.opened c.args.host.now) (g.H.Host.faults c.args.host.now)
    (g.S.Source.left c.args.input.now) (g.S.Source.faults c.args.input.now) (g.O.Sink.taken c.args.out.now) (g.O.Sink.faults c.args.out.now)
    (g.E.Sink.taken c.args.err.now) (g.E.Sink.faults c.args.err.now) in
    let mid : Around = around (g.H.Host.holds c.prepare.new.host) (g.H.Host.opened c.prepare.new.host) (g.H.Host.faults c.prepare.new.host)
    (g.S.Source.left c.args.input.now) (g.S.Source.faults c.args.input.now) (g.O.Sink.taken c.args.out.now) (g.O.Sink.faults c.args.out.now)
    (g.E.Sink.taken c.args.err.now) (g.E.Sink.faults c.args.err.now) in
    let starts : Starts before mid = record { held = c.in-Err-Host.ensures.held; streams = refl } in
    let call = c.in-Err-Host.call in
    let cause : (take out err : ℕ) → IsCounted (prepare_calls c.swap_path.result) (Some call) (tally (g.H.Host.faults c.args.host.now) take out err)
    (tally (g.H.Host.faults c.prepare.new.host) take out err) =
    λ take out err. rw c.in-Err-Host.field-0-is at (c.in-Err-Host.ensures.cause take out err) in
    let refused : PrepareRefuses program c.in-Err-Host.field-0 =
    of_words (λ (p : Program). PrepareRefuses p c.in-Err-Host.field-0) words command
    c.args.bytes.now c.args.image.now _ _ c.arguments.ensures.value (ap (map string_bytes) c.deref.ensures.value ∙ c.in-Ok.ensures)
    (rw c.limits_of.ensures at c.in-Err-Host.ensures.refused) in
    rw c.lost-in-Err-Host.ensures
    (works-stack words command program files None before mid _ (fits-where-host program c.in-Err-Host.field-0 call c.in-Err-Host.field-0-is refused)
    (works-unstarted words command before mid starts program files _ c.swap_path.result call c.swap_path.ensures (cause 0 0 0).0
    (λ none. c.in-Err-Host.ensures.unopened (path-none _ c.swap_path.result command.swap c.swap_path.ensures none)) (cause _ _ _)))
