use Rattle.std.proofs.Common.{◌≡◌, ◌+◌, ◌<◌, ◌≤◌, ℕ, length, if◌then◌else◌, get_or}
use Rattle.masked_memory.specs.Parts.{is_in}
use Rattle.masked_memory.proofs.parts.Part.copy_bytes.Given as goal

abbrev pub invariant-loop-k : goal.invariant-loop-k
invariant-loop-k g l = record {
  len : length l.to ≡ length l.initial.to;
  done : (k : ℕ) → k < l.k → get_or l.to k 0 ≡ (if is_in g.row.W l.mask (l.self.from + k) then get_or l.from k 0 else get_or l.initial.to k 0);
  rest : (k : ℕ) → l.k ≤ k → get_or l.to k 0 ≡ get_or l.initial.to k 0;
}
