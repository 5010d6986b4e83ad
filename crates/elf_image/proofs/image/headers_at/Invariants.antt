use Rattle.std.proofs.Common.{◌≡◌, drop}
use Rattle.elf_image.specs.Segments.{headers_at}
use Rattle.elf_image.proofs.image.headers_at.Given as goal

abbrev pub invariant-loop-segment : goal.invariant-loop-segment
invariant-loop-segment l = headers_at l.bytes (drop l.segment-index l.segments) ≡ headers_at l.bytes l.segments
