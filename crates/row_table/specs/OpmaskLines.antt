-- The words in which the listing of the opmask rows is written.
use Rattle.std.specs.Prelude.{ℕ, List, [], ◌∷◌}
use Rattle.row_table.specs.declared.kinds.Operands.{Operands}
use Rattle.row_table.specs.declared.kinds.Level.TheVariants.{V4}
use Rattle.row_table.specs.declared.kinds.Row.{Row}
use Rattle.row_table.specs.declared.operations.Op.TheVariants.{Mask}
use Rattle.row_table.specs.declared.operations.MaskOp.{MaskOp}
use Rattle.row_table.specs.Lines.{vex, np, p66, pf2, without_w, with_w}

-- a row of VEX on opmask registers, where L is 0, from x86-64-v4 on: its opcode, operands, operation and the bits of the opmasks
abbrev pub opmask : ℕ → Operands → MaskOp → ℕ → Row
opmask opcode operands op width = record (vex opcode operands (Mask op)) { width = width; level = V4 }

-- where L is 1
abbrev pub with_l : Row → Row
with_l r = record r { lengths = 2 }

-- from a row for each width: with NP 16 bits and with W 64, with 66 8 bits and with W 32
abbrev pub by_mark : (ℕ → Row) → List Row
by_mark row = np (without_w (row 16)) ∷ np (with_w (row 64)) ∷ p66 (without_w (row 8)) ∷ p66 (with_w (row 32)) ∷ []

-- the same of a move from or to a general register: with NP 16 bits, with 66 8, with F2 32 and with W 64
abbrev pub by_general_mark : (ℕ → Row) → List Row
by_general_mark row =
    np (without_w (row 16)) ∷ p66 (without_w (row 8)) ∷ pf2 (without_w (row 32)) ∷ pf2 (with_w (row 64)) ∷ []
