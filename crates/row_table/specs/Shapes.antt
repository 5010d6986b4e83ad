-- What a row's operands say of the bytes behind its opcode.
use Rattle.std.specs.Prelude.{ℕ, zero, suc, ◌%◌, ◌==◌, nat_lt, nat_le, Bool, true, false, ◌&&◌, Option, Some, None, if◌then◌else◌}
use Rattle.row_table.specs.declared.kinds.Operands.{Operands}
use Rattle.row_table.specs.declared.kinds.Form.{Form}
use Rattle.row_table.specs.declared.kinds.Form.TheVariants.{Either, Memory, Register, Exactly}
use Rattle.row_table.specs.declared.kinds.Row.{Row}
use Rattle.row_table.specs.declared.kinds.Shape.{Shape}
use Rattle.row_table.specs.Letters.{layout_of}

-- the one-byte opcodes F6 and F7 have an immediate where ModRM.reg is 0 (Intel SDM volume 2, group 3)
abbrev pub immediate_at : ℕ → ℕ → (spelled : ℕ) → ℕ
immediate_at zero opcode spelled = if opcode == 0xF6 then 13 else (if opcode == 0xF7 then 14 else spelled)
immediate_at (suc map) opcode spelled = spelled

-- which bytes follow the row's opcode
abbrev pub shape_of : Row → Shape
shape_of r =
    let layout = layout_of r.operands in
    record { modrm = layout.modrm; imm = immediate_at r.map r.opcode layout.immediate }

-- the kinds of operand in ModRM.r/m
abbrev pub form_of : Operands → Form
form_of operands = (layout_of operands).form

-- a ModRM byte from C0 up names a register
abbrev pub form_fits : Form → Option ℕ → Bool
form_fits Either modrm = true
form_fits Memory None = false
form_fits Memory (Some byte) = nat_lt byte 0xC0
form_fits Register None = false
form_fits Register (Some byte) = nat_le 0xC0 byte
form_fits (Exactly wanted) None = false
form_fits (Exactly wanted) (Some byte) = byte == wanted

-- a SIB byte follows ModRM where mod is not 3 and r/m is 4 (Intel SDM volume 2, table 2-2)
abbrev pub sib_wanted : Option ℕ → Bool
sib_wanted None = false
sib_wanted (Some m) = nat_lt m 0xC0 && (m % 8 == 4)
