use Rattle.std.proofs.Common.{◌≡◌, ◌≤◌, ◌*◌, ◌^◌, take}
use Rattle.elf_image.specs.Segments.{page_sum}
use Rattle.elf_image.proofs.segments.page_sum.Given as goal

abbrev pub invariant-loop-segment : goal.invariant-loop-segment
invariant-loop-segment l = record {
  sum : l.sum ≡ page_sum (take l.segment-index l.segments);
  low : l.sum ≤ 2 ^ 35 * l.segment-index;
}
