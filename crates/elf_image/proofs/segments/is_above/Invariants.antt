use Rattle.std.proofs.Common.{◌≡◌, nat_le, true, take}
use Rattle.std.specs.List.{list_all}
use Rattle.elf_image.specs.Segments.{end_page}
use Rattle.elf_image.proofs.segments.is_above.Given as goal

abbrev pub invariant-loop-segment : goal.invariant-loop-segment
invariant-loop-segment l = list_all (λ segment. nat_le (end_page segment) l.page) (take l.segment-index l.segments) ≡ true
