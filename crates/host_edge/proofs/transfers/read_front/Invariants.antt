-- The front of the buffer was read, and its rest stays.
use Rattle.std.proofs.Common.{◌≡◌, ◌-◌, ◌≤◌, drop, length, take}
use Rattle.std.specs.Io.KnownBytes.{Consumes}
use Rattle.host_edge.proofs.transfers.read_front.Given as goal

abbrev pub invariant-loop-count : goal.invariant-loop-count
invariant-loop-count g l = record {
  fits : l.count ≤ length l.into;
  rest : drop l.count l.into ≡ drop l.count l.initial.into;
  bytes : Consumes (g.R.Read.remaining l.initial.reader) (g.R.Read.remaining l.reader) (take l.count l.into);
}

abbrev pub decreases-loop-count : goal.decreases-loop-count
decreases-loop-count g l = length l.initial.into - l.count
