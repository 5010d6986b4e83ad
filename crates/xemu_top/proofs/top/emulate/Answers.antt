use Rattle.std.proofs.Common.{sym, subst, length, map, string_bytes, Ok, Result}
use Rattle.command_words.specs.declared.kinds.Command.{Command}
use Rattle.command_words.specs.declared.kinds.WordFault.{WordFault}
use Rattle.guest_run.specs.Guests.{Around, around}
use Rattle.guest_run.specs.Tally.{IsCounted}
use Rattle.xemu_top.specs.Command.{calls_made}
use Rattle.xemu_top.specs.Headline.{failed_call}
use Rattle.xemu_top.proofs.TopLemmas.{complete, meets-read, refused-answer, refused-cause, refused-headline, refused-refusal, refused-words, refuses-read}
use Rattle.xemu_top.proofs.top.emulate.Goals as goal

pub returns-in-Ok-clause-headline : goal.returns-in-Ok-clause-headline
returns-in-Ok-clause-headline g c told held now was then on stands =
    meets-read (map string_bytes c.args.words.now) (Ok c.in-Ok.command) (sym c.in-Ok.ensures.read) on now.page c.on_command.result _
    (c.on_command.ensures.meets held now was then told on stands)

pub returns-in-Ok-clause-refusal : goal.returns-in-Ok-clause-refusal
returns-in-Ok-clause-refusal g c held was on files =
    refuses-read (map string_bytes c.args.words.now) (Ok c.in-Ok.command) (sym c.in-Ok.ensures.read) on c.on_command.result.end
    (c.on_command.ensures.refuses held was on files)

pub returns-in-Ok-clause-complete : goal.returns-in-Ok-clause-complete
returns-in-Ok-clause-complete g c runnable none =
    let words = map string_bytes c.args.words.now in
    let command : Command = c.in-Ok.command in
    let before : Around = around (g.H.Host.holds c.args.host.now) (g.H.Host.opened c.args.host.now) (g.H.Host.faults c.args.host.now)
    (g.S.Source.left c.args.input.now) (g.S.Source.faults c.args.input.now) (g.O.Sink.taken c.args.out.now) (g.O.Sink.faults c.args.out.now)
    (g.E.Sink.taken c.args.err.now) (g.E.Sink.faults c.args.err.now) in
    let after : Around = around (g.H.Host.holds c.on_command.new.host) (g.H.Host.opened c.on_command.new.host) (g.H.Host.faults c.on_command.new.host)
    (g.S.Source.left c.on_command.new.input) (g.S.Source.faults c.on_command.new.input) (g.O.Sink.taken c.on_command.new.out) (g.O.Sink.faults c.on_command.new.out)
    (g.E.Sink.taken c.on_command.new.err) (g.E.Sink.faults c.on_command.new.err) in
    complete (g.H.Host.holds c.args.host.now) words c.on_command.result.end before.tally after.tally
    (λ held was on files. refuses-read words (Ok command) (sym c.in-Ok.ensures.read) on c.on_command.result.end
    (c.on_command.ensures.refuses held was on files))
    runnable
    (subst (λ (r : Result Command WordFault). IsCounted (calls_made r) (failed_call c.on_command.result.end) before.tally after.tally)
    c.in-Ok.ensures.read c.on_command.ensures.passes.cause)
    none

pub returns-in-Err-clause-headline : goal.returns-in-Err-clause-headline
returns-in-Err-clause-headline g c =
    let words = map string_bytes c.args.words.now in
    let before : Around = around (g.H.Host.holds c.args.host.now) (g.H.Host.opened c.args.host.now) (g.H.Host.faults c.args.host.now)
    (g.S.Source.left c.args.input.now) (g.S.Source.faults c.args.input.now) (g.O.Sink.taken c.args.out.now) (g.O.Sink.faults c.args.out.now)
    (g.E.Sink.taken c.args.err.now) (g.E.Sink.faults c.args.err.now) in
    let after : Around = around (g.H.Host.holds c.args.host.now) (g.H.Host.opened c.args.host.now) (g.H.Host.faults c.args.host.now)
    (g.S.Source.left c.args.input.now) (g.S.Source.faults c.args.input.now) (g.O.Sink.taken c.args.out.now) (g.O.Sink.faults c.args.out.now)
    (g.E.Sink.taken c.stop.new.err) (g.E.Sink.faults c.stop.new.err) in
    λ told held now was then on stands. refused-headline words c.in-Err.fault before after c.stop.result (sym c.in-Err.ensures.read) (c.stop.ensures before) on now.page stands

pub returns-in-Err-clause-refusal : goal.returns-in-Err-clause-refusal
returns-in-Err-clause-refusal g c =
    let words = map string_bytes c.args.words.now in
    let before : Around = around (g.H.Host.holds c.args.host.now) (g.H.Host.opened c.args.host.now) (g.H.Host.faults c.args.host.now)
    (g.S.Source.left c.args.input.now) (g.S.Source.faults c.args.input.now) (g.O.Sink.taken c.args.out.now) (g.O.Sink.faults c.args.out.now)
    (g.E.Sink.taken c.args.err.now) (g.E.Sink.faults c.args.err.now) in
    let after : Around = around (g.H.Host.holds c.args.host.now) (g.H.Host.opened c.args.host.now) (g.H.Host.faults c.args.host.now)
    (g.S.Source.left c.args.input.now) (g.S.Source.faults c.args.input.now) (g.O.Sink.taken c.args.out.now) (g.O.Sink.faults c.args.out.now)
    (g.E.Sink.taken c.stop.new.err) (g.E.Sink.faults c.stop.new.err) in
    λ held was on files. refused-refusal words c.in-Err.fault before after c.stop.result (sym c.in-Err.ensures.read) (c.stop.ensures before) on

pub returns-in-Err-clause-cause : goal.returns-in-Err-clause-cause
returns-in-Err-clause-cause g c =
    let words = map string_bytes c.args.words.now in
    let before : Around = around (g.H.Host.holds c.args.host.now) (g.H.Host.opened c.args.host.now) (g.H.Host.faults c.args.host.now)
    (g.S.Source.left c.args.input.now) (g.S.Source.faults c.args.input.now) (g.O.Sink.taken c.args.out.now) (g.O.Sink.faults c.args.out.now)
    (g.E.Sink.taken c.args.err.now) (g.E.Sink.faults c.args.err.now) in
    let after : Around = around (g.H.Host.holds c.args.host.now) (g.H.Host.opened c.args.host.now) (g.H.Host.faults c.args.host.now)
    (g.S.Source.left c.args.input.now) (g.S.Source.faults c.args.input.now) (g.O.Sink.taken c.args.out.now) (g.O.Sink.faults c.args.out.now)
    (g.E.Sink.taken c.stop.new.err) (g.E.Sink.faults c.stop.new.err) in
    refused-cause words c.in-Err.fault before after c.stop.result (sym c.in-Err.ensures.read) (c.stop.ensures before)

pub returns-in-Err-clause-words : goal.returns-in-Err-clause-words
returns-in-Err-clause-words g c =
    let words = map string_bytes c.args.words.now in
    let before : Around = around (g.H.Host.holds c.args.host.now) (g.H.Host.opened c.args.host.now) (g.H.Host.faults c.args.host.now)
    (g.S.Source.left c.args.input.now) (g.S.Source.faults c.args.input.now) (g.O.Sink.taken c.args.out.now) (g.O.Sink.faults c.args.out.now)
    (g.E.Sink.taken c.args.err.now) (g.E.Sink.faults c.args.err.now) in
    let after : Around = around (g.H.Host.holds c.args.host.now) (g.H.Host.opened c.args.host.now) (g.H.Host.faults c.args.host.now)
    (g.S.Source.left c.args.input.now) (g.S.Source.faults c.args.input.now) (g.O.Sink.taken c.args.out.now) (g.O.Sink.faults c.args.out.now)
    (g.E.Sink.taken c.stop.new.err) (g.E.Sink.faults c.stop.new.err) in
    refused-words words c.in-Err.fault before after c.stop.result (sym c.in-Err.ensures.read) (c.stop.ensures before) (length c.args.words.now)

pub returns-in-Err-clause-status : goal.returns-in-Err-clause-status
returns-in-Err-clause-status g c =
    let words = map string_bytes c.args.words.now in
    let before : Around = around (g.H.Host.holds c.args.host.now) (g.H.Host.opened c.args.host.now) (g.H.Host.faults c.args.host.now)
    (g.S.Source.left c.args.input.now) (g.S.Source.faults c.args.input.now) (g.O.Sink.taken c.args.out.now) (g.O.Sink.faults c.args.out.now)
    (g.E.Sink.taken c.args.err.now) (g.E.Sink.faults c.args.err.now) in
    let after : Around = around (g.H.Host.holds c.args.host.now) (g.H.Host.opened c.args.host.now) (g.H.Host.faults c.args.host.now)
    (g.S.Source.left c.args.input.now) (g.S.Source.faults c.args.input.now) (g.O.Sink.taken c.args.out.now) (g.O.Sink.faults c.args.out.now)
    (g.E.Sink.taken c.stop.new.err) (g.E.Sink.faults c.stop.new.err) in
    (refused-answer words c.in-Err.fault before after c.stop.result (sym c.in-Err.ensures.read) (c.stop.ensures before)).status

pub returns-in-Err-clause-no_machine : goal.returns-in-Err-clause-no_machine
returns-in-Err-clause-no_machine g c =
    let words = map string_bytes c.args.words.now in
    let before : Around = around (g.H.Host.holds c.args.host.now) (g.H.Host.opened c.args.host.now) (g.H.Host.faults c.args.host.now)
    (g.S.Source.left c.args.input.now) (g.S.Source.faults c.args.input.now) (g.O.Sink.taken c.args.out.now) (g.O.Sink.faults c.args.out.now)
    (g.E.Sink.taken c.args.err.now) (g.E.Sink.faults c.args.err.now) in
    let after : Around = around (g.H.Host.holds c.args.host.now) (g.H.Host.opened c.args.host.now) (g.H.Host.faults c.args.host.now)
    (g.S.Source.left c.args.input.now) (g.S.Source.faults c.args.input.now) (g.O.Sink.taken c.args.out.now) (g.O.Sink.faults c.args.out.now)
    (g.E.Sink.taken c.stop.new.err) (g.E.Sink.faults c.stop.new.err) in
    (refused-answer words c.in-Err.fault before after c.stop.result (sym c.in-Err.ensures.read) (c.stop.ensures before)).no_machine

pub returns-in-Err-clause-tells : goal.returns-in-Err-clause-tells
returns-in-Err-clause-tells g c =
    let words = map string_bytes c.args.words.now in
    let before : Around = around (g.H.Host.holds c.args.host.now) (g.H.Host.opened c.args.host.now) (g.H.Host.faults c.args.host.now)
    (g.S.Source.left c.args.input.now) (g.S.Source.faults c.args.input.now) (g.O.Sink.taken c.args.out.now) (g.O.Sink.faults c.args.out.now)
    (g.E.Sink.taken c.args.err.now) (g.E.Sink.faults c.args.err.now) in
    let after : Around = around (g.H.Host.holds c.args.host.now) (g.H.Host.opened c.args.host.now) (g.H.Host.faults c.args.host.now)
    (g.S.Source.left c.args.input.now) (g.S.Source.faults c.args.input.now) (g.O.Sink.taken c.args.out.now) (g.O.Sink.faults c.args.out.now)
    (g.E.Sink.taken c.stop.new.err) (g.E.Sink.faults c.stop.new.err) in
    (c.stop.ensures before).keeps.streams
