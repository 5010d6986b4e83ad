use Rattle.std.proofs.Common.{◌∙◌, sym, ap}
use Rattle.elf_image.specs.declared.fields.ProgramHeader.{ProgramHeader}
use Rattle.elf_image.proofs.CheckLemmas.{not-placed}
use Rattle.elf_image.proofs.segments.place_segment.Goals as goal

pub returns-then-not-ends_low-clause-answer : goal.returns-then-not-ends_low-clause-answer
returns-then-not-ends_low-clause-answer c =
    not-placed c.args.bytes.now c.args.earlier.now c.args.place c.program_header-header.result.addr c.base-base.result
    c.program_header-header.result.mem_len
    (ap (λ (header : ProgramHeader). header.addr) c.program_header-header.ensures)
    c.base-base.ensures.value
    (ap (λ (header : ProgramHeader). header.mem_len) c.program_header-header.ensures)
    (sym c.ends_low.ensures ∙ c.if-not-ends_low.true)
