use Rattle.std.proofs.Common.{◌∙◌, ◌-◌, ◌+◌, get_or, drop, sym, ap, cond, Bool, arith}
use Rattle.std.proofs.lemmas.List.{drop_all}
use Rattle.elf_image.specs.declared.kinds.Segment.{Segment}
use Rattle.elf_image.specs.Fields.{e_phoff}
use Rattle.elf_image.specs.Segments.{headers_at}
use Rattle.elf_image.proofs.SegmentLemmas.{headers_at-drop, headers_at-none}
use Rattle.elf_image.proofs.image.headers_at.Goals as goal

abbrev none : Segment
none = record { addr = 0; file_at = 0; file_len = 0; mem_len = 0; perms = record { 0 = 0 } }

pub returns-then-has_headers : goal.returns-then-has_headers
returns-then-has_headers c =
    let bytes = c.args.bytes.now in
    let xs = c.args.segments.now in
    let i = c.loop-segment.segment-index in
    let s = get_or xs i none in
    rw c.e_phoff.ensures
    (sym (headers_at-drop bytes xs i none c.loop-segment-test.true
    ∙ ap (λ (b : Bool). cond b (s.addr + (e_phoff bytes - s.file_at)) (headers_at bytes (drop (i + 1) xs))) (sym c.has_headers.ensures ∙ c.if-has_headers.true))
    ∙ c.loop-segment.invariant)

pub loop-segment-preserved : goal.loop-segment-preserved
loop-segment-preserved c =
    let bytes = c.args.bytes.now in
    let xs = c.args.segments.now in
    let i = c.loop-segment.segment-index in
    let s = get_or xs i none in
    sym (headers_at-drop bytes xs i none c.loop-segment-test.true
    ∙ ap (λ (b : Bool). cond b (s.addr + (e_phoff bytes - s.file_at)) (headers_at bytes (drop (i + 1) xs))) (sym c.has_headers.ensures ∙ c.if-has_headers.false))
    ∙ c.loop-segment.invariant

pub returns : goal.returns
returns c =
    sym (headers_at-none c.args.bytes.now)
    ∙ sym (ap (headers_at c.args.bytes.now) (drop_all c.loop-segment.segment-index c.args.segments.now (omega arith)))
    ∙ c.loop-segment.invariant
