use Rattle.std.proofs.Common.{◌≡◌, refl, subst, map, string_bytes, Ok}
use Rattle.elf_image.specs.Checks.{image_read}
use Rattle.guest_run.specs.Guests.{Around, around}
use Rattle.xemu_top.specs.declared.loading.Loaded.TheVariants.{Whole, Long, Memory}
use Rattle.xemu_top.specs.Command.{on_image, on_words}
use Rattle.xemu_top.specs.Parts.{DoesWork}
use Rattle.xemu_top.proofs.TopLemmas.{around-counted, around-same, counts-none, works-long, works-not_loaded, works-wanting, works-whole}
use Rattle.xemu_top.proofs.top.on_command.Goals as goal

pub returns-in-Whole : goal.returns-in-Whole
returns-in-Whole g c =
    let words = map string_bytes c.args.words.now in
    let command = c.args.command.now in
    let before : Around = around (g.H.Host.holds c.args.host.now) (g.H.Host.opened c.args.host.now) (g.H.Host.faults c.args.host.now)
    (g.S.Source.left c.args.input.now) (g.S.Source.faults c.args.input.now) (g.O.Sink.taken c.args.out.now) (g.O.Sink.faults c.args.out.now)
    (g.E.Sink.taken c.args.err.now) (g.E.Sink.faults c.args.err.now) in
    let mid : Around = around (g.H.Host.holds c.load_file.new.host) (g.H.Host.opened c.load_file.new.host) (g.H.Host.faults c.load_file.new.host)
    (g.S.Source.left c.args.input.now) (g.S.Source.faults c.args.input.now) (g.O.Sink.taken c.args.out.now) (g.O.Sink.faults c.args.out.now)
    (g.E.Sink.taken c.args.err.now) (g.E.Sink.faults c.args.err.now) in
    let after : Around = around (g.H.Host.holds c.on_file.new.host) (g.H.Host.opened c.on_file.new.host) (g.H.Host.faults c.on_file.new.host)
    (g.S.Source.left c.on_file.new.input) (g.S.Source.faults c.on_file.new.input) (g.O.Sink.taken c.on_file.new.out) (g.O.Sink.faults c.on_file.new.out)
    (g.E.Sink.taken c.on_file.new.err) (g.E.Sink.faults c.on_file.new.err) in
    let same : mid ≡ before =
    around-same (g.H.Host.holds c.args.host.now) (g.H.Host.holds c.load_file.new.host) (g.H.Host.opened c.args.host.now)
    (g.H.Host.opened c.load_file.new.host) (g.H.Host.faults c.args.host.now) (g.H.Host.faults c.load_file.new.host) _ _ _ _ _ _ c.in-Whole.ensures.holds c.in-Whole.ensures.opened (counts-none (Whole c.in-Whole.bytes) _ _ refl c.in-Whole.ensures.cause) in
    works-whole words command before after c.in-Whole.bytes.items c.on_file.result (λ held was. rw c.text_at.ensures at (c.in-Whole.ensures.file held was))
    (subst (λ (a : Around). DoesWork words command (on_image words command c.in-Whole.bytes.items (image_read c.in-Whole.bytes.items command.pages)) a after c.on_file.result) same
    (rw c.deref.ensures.value at c.on_file.ensures))

pub returns-in-Long : goal.returns-in-Long
returns-in-Long g c =
    let words = map string_bytes c.args.words.now in
    let command = c.args.command.now in
    let before : Around = around (g.H.Host.holds c.args.host.now) (g.H.Host.opened c.args.host.now) (g.H.Host.faults c.args.host.now)
    (g.S.Source.left c.args.input.now) (g.S.Source.faults c.args.input.now) (g.O.Sink.taken c.args.out.now) (g.O.Sink.faults c.args.out.now)
    (g.E.Sink.taken c.args.err.now) (g.E.Sink.faults c.args.err.now) in
    let mid : Around = around (g.H.Host.holds c.load_file.new.host) (g.H.Host.opened c.load_file.new.host) (g.H.Host.faults c.load_file.new.host)
    (g.S.Source.left c.args.input.now) (g.S.Source.faults c.args.input.now) (g.O.Sink.taken c.args.out.now) (g.O.Sink.faults c.args.out.now)
    (g.E.Sink.taken c.args.err.now) (g.E.Sink.faults c.args.err.now) in
    let after : Around = around (g.H.Host.holds c.load_file.new.host) (g.H.Host.opened c.load_file.new.host) (g.H.Host.faults c.load_file.new.host)
    (g.S.Source.left c.args.input.now) (g.S.Source.faults c.args.input.now) (g.O.Sink.taken c.args.out.now) (g.O.Sink.faults c.args.out.now)
    (g.E.Sink.taken c.stop.new.err) (g.E.Sink.faults c.stop.new.err) in
    let same : mid ≡ before =
    around-same (g.H.Host.holds c.args.host.now) (g.H.Host.holds c.load_file.new.host) (g.H.Host.opened c.args.host.now)
    (g.H.Host.opened c.load_file.new.host) (g.H.Host.faults c.args.host.now) (g.H.Host.faults c.load_file.new.host) _ _ _ _ _ _ c.in-Long.ensures.holds c.in-Long.ensures.opened (counts-none (Long) _ _ refl c.in-Long.ensures.cause) in
    subst (λ (a : Around). DoesWork words command (on_words words (Ok command)) a after c.stop.result) same
    (works-long words command mid after c.stop.result
    (λ held was. rw c.text_at.ensures at (c.in-Long.ensures.file held (rw c.in-Long.ensures.holds at was))) (c.stop.ensures mid))

pub returns-in-Failed : goal.returns-in-Failed
returns-in-Failed g c =
    let words = map string_bytes c.args.words.now in
    let command = c.args.command.now in
    let before : Around = around (g.H.Host.holds c.args.host.now) (g.H.Host.opened c.args.host.now) (g.H.Host.faults c.args.host.now)
    (g.S.Source.left c.args.input.now) (g.S.Source.faults c.args.input.now) (g.O.Sink.taken c.args.out.now) (g.O.Sink.faults c.args.out.now)
    (g.E.Sink.taken c.args.err.now) (g.E.Sink.faults c.args.err.now) in
    let mid : Around = around (g.H.Host.holds c.load_file.new.host) (g.H.Host.opened c.load_file.new.host) (g.H.Host.faults c.load_file.new.host)
    (g.S.Source.left c.args.input.now) (g.S.Source.faults c.args.input.now) (g.O.Sink.taken c.args.out.now) (g.O.Sink.faults c.args.out.now)
    (g.E.Sink.taken c.args.err.now) (g.E.Sink.faults c.args.err.now) in
    let same : mid ≡ record before { tally = mid.tally } = around-counted (g.H.Host.holds c.args.host.now) (g.H.Host.holds c.load_file.new.host) (g.H.Host.opened c.args.host.now)
    (g.H.Host.opened c.load_file.new.host) (g.H.Host.faults c.args.host.now) (g.H.Host.faults c.load_file.new.host) _ _ _ _ _ _ c.in-Failed.ensures.holds c.in-Failed.ensures.opened in
    rw c.lost.ensures (works-not_loaded words command before mid same (c.in-Failed.ensures.cause command.program before.tally))

pub returns-in-Memory : goal.returns-in-Memory
returns-in-Memory g c =
    let words = map string_bytes c.args.words.now in
    let command = c.args.command.now in
    let before : Around = around (g.H.Host.holds c.args.host.now) (g.H.Host.opened c.args.host.now) (g.H.Host.faults c.args.host.now)
    (g.S.Source.left c.args.input.now) (g.S.Source.faults c.args.input.now) (g.O.Sink.taken c.args.out.now) (g.O.Sink.faults c.args.out.now)
    (g.E.Sink.taken c.args.err.now) (g.E.Sink.faults c.args.err.now) in
    let mid : Around = around (g.H.Host.holds c.load_file.new.host) (g.H.Host.opened c.load_file.new.host) (g.H.Host.faults c.load_file.new.host)
    (g.S.Source.left c.args.input.now) (g.S.Source.faults c.args.input.now) (g.O.Sink.taken c.args.out.now) (g.O.Sink.faults c.args.out.now)
    (g.E.Sink.taken c.args.err.now) (g.E.Sink.faults c.args.err.now) in
    let same : mid ≡ before =
    around-same (g.H.Host.holds c.args.host.now) (g.H.Host.holds c.load_file.new.host) (g.H.Host.opened c.args.host.now)
    (g.H.Host.opened c.load_file.new.host) (g.H.Host.faults c.args.host.now) (g.H.Host.faults c.load_file.new.host) _ _ _ _ _ _ c.in-Memory.ensures.holds c.in-Memory.ensures.opened (counts-none (Memory) _ _ refl c.in-Memory.ensures.cause) in
    rw c.lost-in-Memory.ensures (works-wanting words command (on_words words (Ok command)) before mid same)
