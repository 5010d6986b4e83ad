use Rattle.std.proofs.Common.{◌≡◌, ◌≤◌, None, All, length}
use Rattle.elf_image.specs.Segments.{segments_before, EndsLow}
use Rattle.elf_image.specs.Checks.{first_fault, program_checks}
use Rattle.elf_image.proofs.segments.read_segments.Given as goal

abbrev pub invariant-loop-number : goal.invariant-loop-number
invariant-loop-number l = record {
  passed : first_fault (program_checks l.bytes l.number) ≡ None;
  segments : l.segments.items ≡ segments_before l.bytes l.number;
  most : length l.segments.items ≤ l.number;
  low : All EndsLow l.segments.items;
}
