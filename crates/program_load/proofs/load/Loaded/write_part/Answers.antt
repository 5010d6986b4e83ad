use Rattle.program_load.proofs.FillLemmas.{can_written}
use Rattle.program_load.proofs.load.Loaded.write_part.Goals as goal

pub returns-clause-can : goal.returns-clause-can
returns-clause-can g c = can_written c.bring.new.self.pages c.write.new.self _ _ c.args.addr c.args.bytes.now c.in-Ok-write.ensures.ok c.in-Ok.ensures.can
