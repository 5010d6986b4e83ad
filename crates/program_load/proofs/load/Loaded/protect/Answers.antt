use Rattle.std.proofs.Common.{ℕ, ◌+◌, ◌-◌, ◌*◌, ◌/◌, arith}
use Rattle.machine_state.specs.Memory.{page_size}
use Rattle.program_load.proofs.PageLemmas.{protect_allowed}
use Rattle.program_load.proofs.load.Loaded.protect.Goals as goal

pub unreachable-requires : goal.unreachable-requires
unreachable-requires c =
    let from : ℕ = c.args.first * 4096 / page_size in
    let to : ℕ = from + (c.args.end - c.args.first) in
    protect_allowed c.args.self.now.pages c.args.self.now.regions.regions c.args.perms c.args.first c.args.end from to c.in-Err.field-0 (omega arith) (omega arith)
    c.requires.mapped c.requires.few c.requires.room c.in-Err.ensures.answer
