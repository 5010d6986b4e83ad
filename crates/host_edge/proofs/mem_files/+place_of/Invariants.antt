use Rattle.std.proofs.Common.{length}
use Rattle.host_edge.proofs.mem_files.+place_of.Given as goal

abbrev pub decreases-place_of : goal.decreases-place_of
decreases-place_of l = length l.entries.now
