-- The row table: the rows in order of class, map and opcode.
use Rattle.std.specs.Prelude.{ℕ, ◌+◌, ◌*◌, List, ◌++◌}
use Rattle.row_table.specs.declared.kinds.Class.{Class}
use Rattle.row_table.specs.declared.kinds.Class.TheVariants.{Legacy, Vex, Evex}
use Rattle.row_table.specs.declared.kinds.Row.{Row}
use Rattle.row_table.specs.declared.table.TheConstants.{ROWS, STARTS}
use Rattle.row_table.specs.Legacy.{legacy}
use Rattle.row_table.specs.Vex.{vex_rows}
use Rattle.row_table.specs.Evex.{evex_rows}

abbrev pub class_number : Class → ℕ
class_number Legacy = 0
class_number Vex = 1
class_number Evex = 2

-- class, map and opcode as one number
abbrev pub place : Class → ℕ → ℕ → ℕ
place class map opcode = class_number class * 1024 + map * 256 + opcode

abbrev pub row_place : Row → ℕ
row_place r = place r.class r.map r.opcode

-- the row table, in order of place; rows of one place stand as the listing has them
unfoldable pub rows : List Row
rows = legacy ++ vex_rows ++ evex_rows

-- the rows as the code has them
unfoldable pub table : List Row
table = ROWS

-- where the rows of each place begin, as the code has it
unfoldable pub starts : List ℕ
starts = STARTS
