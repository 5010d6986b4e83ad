-- The bytes that are taken are the front of those that were left.
use Rattle.std.proofs.Common.{sym, arith}
use Rattle.std.proofs.lemmas.Grind.{common_steps}
use Rattle.std.proofs.lemmas.List.{drop-drop}
use Rattle.host_edge.proofs.StreamLemmas.{takes-front}
use Rattle.host_edge.proofs.mem_source.MemSourceSource.take.Goals as goal

pub returns-clause-bytes : goal.returns-clause-bytes
returns-clause-bytes c =
    rw (← c.self.view_is)
    (takes-front _ _ _ _ c.self.inside.most _ (sym (drop-drop _ c.self.inside.at c.self.inside.bytes.items))
    (grind (arith, common_steps)) (grind (arith, common_steps)) c.self.invariant.1 c.requires)
