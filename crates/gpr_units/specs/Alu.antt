-- Sums, differences and logic of n bits: a value, and the seven flags.
use Rattle.std.specs.Prelude.{ℕ, ◌+◌, ◌-◌, ◌%◌, ◌^◌, pos, ◌+ℤ◌, ◌-ℤ◌, Bool, true, false, nat_le, nat_lt, if◌then◌else◌, bit_and, bit_or, bit_xor}
use Rattle.gpr_flags.specs.declared.kinds.Flags.{Flags}
use Rattle.gpr_flags.specs.Numbers.{signed_of}
use Rattle.gpr_flags.specs.Flags.{value_flags}
use Rattle.row_table.specs.declared.operations.Op.{Op}
use Rattle.row_table.specs.declared.operations.Op.TheVariants.{Gpr}
use Rattle.row_table.specs.declared.operations.GprOp.{GprOp}
use Rattle.row_table.specs.declared.operations.GprOp.TheVariants.{Add, Or, Adc, Sbb, And, Sub, Xor, Cmp, Test, Not, Neg, Inc, Dec, Mul, Imul, Div, Idiv, Mulx, Adcx, Adox}
use Rattle.gpr_units.specs.Numbers.{is_outside}

-- what an operation gives: a value of n bits, and the flags
pub record Scalar : Type 0 where
  pub value : ℕ
  pub flags : Flags

-- a flag as the carry of a sum
abbrev pub carry_of : Bool → ℕ
carry_of set = if set then 1 else 0

-- CF is the carry out of the highest bit, AF that out of bit 3, and OF says that the signed sum is none of n bits (SDM volume
-- 1, 3.4.3.1)
abbrev pub sum_value : (n a b carry : ℕ) → ℕ
sum_value n a b carry = (a + b + carry) % 2 ^ n

abbrev pub sum_carry : (n a b carry : ℕ) → Bool
sum_carry n a b carry = nat_le (2 ^ n) (a + b + carry)

abbrev pub sum_flags : (n a b carry : ℕ) → Flags → Flags
sum_flags n a b carry f = value_flags n (sum_value n a b carry) (record f {
  cf = sum_carry n a b carry;
  af = nat_le 16 (a % 16 + b % 16 + carry);
  ovf = is_outside true n (signed_of n a +ℤ signed_of n b +ℤ pos carry);
})

abbrev pub sum : (n a b carry : ℕ) → Flags → Scalar
sum n a b carry f = record { value = sum_value n a b carry; flags = sum_flags n a b carry f }

-- the same of a difference, with borrows for carries
abbrev pub difference_value : (n a b borrow : ℕ) → ℕ
difference_value n a b borrow = (a + 2 ^ n - (b + borrow)) % 2 ^ n

abbrev pub difference_flags : (n a b borrow : ℕ) → Flags → Flags
difference_flags n a b borrow f = value_flags n (difference_value n a b borrow) (record f {
  cf = nat_lt a (b + borrow);
  af = nat_lt (a % 16) (b % 16 + borrow);
  ovf = is_outside true n (signed_of n a -ℤ signed_of n b -ℤ pos borrow);
})

abbrev pub difference : (n a b borrow : ℕ) → Flags → Scalar
difference n a b borrow f = record { value = difference_value n a b borrow; flags = difference_flags n a b borrow f }

-- a logical value clears CF and OF; AF, which the SDM leaves open, stays (this program's own)
abbrev pub logic_flags : (n value : ℕ) → Flags → Flags
logic_flags n value f = value_flags n value (record f { cf = false; ovf = false })

abbrev pub logic : (n value : ℕ) → Flags → Scalar
logic n value f = record { value = value; flags = logic_flags n value f }

-- the same, where CF stays
abbrev pub keeping_carry : (old : Flags) → Scalar → Scalar
keeping_carry old s = record s { flags = record s.flags { cf = old.cf } }

-- the same, where the value goes nowhere
abbrev pub comparing : (a : ℕ) → Scalar → Scalar
comparing a s = record s { value = a }

-- the operations, each by its page in SDM volume 2, at numbers a and b of n bits; an operation of one operand takes a
unfoldable pub scalar_of : GprOp → (n a b : ℕ) → Flags → Scalar
scalar_of Add n a b f = sum n a b 0 f
scalar_of Or n a b f = logic n (bit_or a b) f
scalar_of Adc n a b f = sum n a b (carry_of f.cf) f
scalar_of Sbb n a b f = difference n a b (carry_of f.cf) f
scalar_of And n a b f = logic n (bit_and a b) f
scalar_of Sub n a b f = difference n a b 0 f
scalar_of Xor n a b f = logic n (bit_xor a b) f
scalar_of Cmp n a b f = comparing a (difference n a b 0 f)
scalar_of Test n a b f = comparing a (logic n (bit_and a b) f)
scalar_of Not n a b f = record { value = 2 ^ n - 1 - a; flags = f }
scalar_of Neg n a b f = difference n 0 a 0 f
scalar_of Inc n a b f = keeping_carry f (sum n a 1 0 f)
scalar_of Dec n a b f = keeping_carry f (difference n a 1 0 f)
scalar_of Adcx n a b f =
    record { value = sum_value n a b (carry_of f.cf); flags = record f { cf = sum_carry n a b (carry_of f.cf) } }
scalar_of Adox n a b f =
    record { value = sum_value n a b (carry_of f.ovf); flags = record f { ovf = sum_carry n a b (carry_of f.ovf) } }
scalar_of _ n a b f = record { value = a; flags = f }

-- whether it is one of the operations above
abbrev pub is_alu : Op → Bool
is_alu (Gpr Mul) = false
is_alu (Gpr Imul) = false
is_alu (Gpr Div) = false
is_alu (Gpr Idiv) = false
is_alu (Gpr Mulx) = false
is_alu (Gpr _) = true
is_alu _ = false

-- what an operation gives for any operands, whose bits from bit n up don't count
unfoldable pub alu_scalar : Op → (n a b : ℕ) → Flags → Scalar
alu_scalar (Gpr op) n a b f = scalar_of op n (a % 2 ^ n) (b % 2 ^ n) f
alu_scalar _ n a b f = record { value = a % 2 ^ n; flags = f }

abbrev pub alu_value : Op → (n a b : ℕ) → Flags → ℕ
alu_value op n a b f = (alu_scalar op n a b f).value

abbrev pub alu_flags : Op → (n a b : ℕ) → Flags → Flags
alu_flags op n a b f = (alu_scalar op n a b f).flags
