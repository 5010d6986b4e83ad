use Rattle.std.proofs.Common.{◌∙◌, sym}
use Rattle.elf_image.proofs.SegmentLemmas.{page_behind-last}
use Rattle.elf_image.proofs.image.page_behind.Goals as goal

pub returns-in-Some-clause-page : goal.returns-in-Some-clause-page
returns-in-Some-clause-page c = c.end_page.ensures ∙ sym (page_behind-last c.args.segments.now c.in-Some.segment.now (sym c.in-Some.ensures.value))
