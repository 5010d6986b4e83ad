use Rattle.std.proofs.Common.{length, false, arith}
use Rattle.region_map.specs.declared.kinds.Change.TheVariants.{Map}
use Rattle.region_map.specs.Ranges.{is_in}
use Rattle.program_load.specs.Load.{stack_first, stack_end}
use Rattle.program_load.proofs.FillLemmas.{can_changed}
use Rattle.program_load.proofs.PageLemmas.{mapped_writable}
use Rattle.program_load.proofs.load.Loaded.load_stack.Goals as goal

pub write-requires-clause-allowed : goal.write-requires-clause-allowed
write-requires-clause-allowed g c =
    mapped_writable false stack_first stack_end c.stack_pointer.result (length c.args.stack.now) c.args.self.now.pages c.map.new.self.pages c.map.ensures.change.pages
    (omega arith) (omega arith) (omega arith)

pub write-requires-clause-can : goal.write-requires-clause-can
write-requires-clause-can g c =
    can_changed (Map (record { 0 = 3 }) false) (is_in stack_first stack_end) c.args.self.now.pages c.map.new.self.pages _ _ c.map.ensures.change.pages c.requires.ready.can
