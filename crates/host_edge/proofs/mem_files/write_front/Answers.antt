use Rattle.std.proofs.Common.{arith}
use Rattle.std.proofs.lemmas.Grind.{common_steps}
use Rattle.host_edge.proofs.LayoutLemmas.{file_in_front}
use Rattle.host_edge.proofs.mem_files.write_front.Goals as goal

pub returns-clause-held : goal.returns-clause-held
returns-clause-held c =
    file_in_front _ _ _ c.args.path.now c.args.content.now c.args.start _ _
    (omega arith) (omega arith) (grind (arith, common_steps)) c.write_at.ensures.items c.write_at-2.ensures.items
