use Rattle.std.proofs.Common.{ℕ, ◌+◌, ◌-◌, ◌*◌, ◌/◌, refl, arith}
use Rattle.machine_state.specs.Memory.{page_size}
use Rattle.program_load.proofs.PageLemmas.{map_allowed}
use Rattle.program_load.proofs.load.Loaded.map.Goals as goal

pub unreachable-requires : goal.unreachable-requires
unreachable-requires c =
    let from : ℕ = c.args.first * 4096 / page_size in
    let to : ℕ = from + (c.args.end - c.args.first) in
    map_allowed c.args.self.now.pages c.args.self.now.regions.regions (record { 0 = 3 }) c.args.file from to c.requires.fit (omega arith) (omega arith) (omega arith)
    (record { few = c.requires.room.few; room = omega arith }) (c.in-Err.ensures.full.0 refl)
