-- Where an instruction's operand in memory may stand (SDM volume 1, 14.9; volume 3, 6.15).
use Rattle.std.specs.Prelude.{ℕ, ◌%◌, ◌==◌, Bool, false, not, ◌&&◌}
use Rattle.machine_state.specs.State.{State}
use Rattle.row_table.specs.declared.kinds.Align.{Align}
use Rattle.row_table.specs.declared.kinds.Align.TheVariants.{Free, Sixteen, Size}
use Rattle.row_table.specs.declared.kinds.Row.{Row}
use Rattle.row_table.specs.declared.kinds.Decoded.{Decoded}
use Rattle.row_table.specs.Tuples.{vector_bytes}
use Rattle.core_step.specs.Address.{is_memory}
use Rattle.core_step.specs.Vectors.{address_in}
use Rattle.core_step.specs.Plan.{next_of}

-- whether an address isn't the multiple that the row's rule wants
abbrev pub breaks : Align → (l addr : ℕ) → Bool
breaks Free l addr = false
breaks Sixteen l addr = not (addr % 16 == 0)
breaks Size l addr = not (addr % vector_bytes l == 0)

-- whether ModRM names memory at such an address
unfoldable pub is_misaligned : Row → Decoded → (len : ℕ) → State → Bool
is_misaligned row d len s =
    breaks row.align d.fields.l (address_in row d (next_of len s) s) && is_memory d.fields
