use Rattle.std.proofs.Common.{length}
use Rattle.host_edge.proofs.mem_files.MemFiles.+fill.Given as goal

abbrev pub decreases-fill : goal.decreases-fill
decreases-fill l = length l.files.now
