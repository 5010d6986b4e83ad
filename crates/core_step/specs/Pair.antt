-- CMPXCHG8B and CMPXCHG16B (SDM volume 2, CMPXCHG8B/CMPXCHG16B).
use Rattle.std.specs.Prelude.{ℕ, ◌+◌, ◌*◌, ◌/◌, ◌^◌, ◌==◌, Bool, if◌then◌else◌, List, [], ◌∷◌, slice_index}
use Rattle.byteorder.specs.Endian.{little_bytes}
use Rattle.machine_state.specs.declared.kinds.Kind.TheVariants.{Write}
use Rattle.machine_state.specs.Memory.{written, number_at}
use Rattle.machine_state.specs.State.{State}
use Rattle.gpr_flags.specs.Registers.{RAX, RCX, RDX, RBX, with_register}
use Rattle.row_table.specs.declared.kinds.Row.{Row}
use Rattle.row_table.specs.declared.kinds.Decoded.{Decoded}
use Rattle.machine_state.specs.declared.kinds.Access.{Access}
use Rattle.core_step.specs.declared.sizes.Size.{Size}
use Rattle.core_step.specs.declared.sizes.Size.TheVariants.{Double, Quad}
use Rattle.core_step.specs.declared.acted.Acted.TheVariants.{Done}
use Rattle.core_step.specs.declared.pair.PairPlan.{PairPlan}
use Rattle.core_step.specs.Size.{bytes_in, bits_in, cut}
use Rattle.core_step.specs.Address.{address_of}
use Rattle.core_step.specs.declared.kinds.StackUse.TheVariants.{Aside}
use Rattle.core_step.specs.Operands.{bases_for}
use Rattle.core_step.specs.Effect.{Processor, Effect}

-- the size of each half: 32 bits, or 64 in the row of 128
abbrev pub half_in : Row → Size
half_in row = if row.width == 64 then Double else Quad

-- the instruction of a row and its fields
unfoldable pub pair_of : Row → Decoded → (next : ℕ) → State → PairPlan
pair_of row d next s = record {
  half = half_in row;
  addr = address_of d.fields d.disp s.gprs (bases_for Aside (half_in row) s next);
  next = next;
}

-- the bytes of both halves
abbrev pub pair_bytes : PairPlan → ℕ
pair_bytes i = 2 * bytes_in i.half

abbrev pub pair_write : PairPlan → Access
pair_write i = record { kind = Write; addr = i.addr; len = pair_bytes i }

-- the access list
abbrev pub pair_access : PairPlan → List Access
pair_access i = pair_write i ∷ []

-- ---- what comes of it
-- two registers' parts of this size as one number
abbrev pub joined : Size → (high low : ℕ) → ℕ
joined half high low = cut half high * 2 ^ bits_in half + cut half low

-- what stands in memory
unfoldable pub pair_at : PairPlan → (ℕ → ℕ) → ℕ
pair_at i byte = number_at byte i.addr (pair_bytes i)

-- whether that is rdx and rax
abbrev pub is_equal : Size → (found : ℕ) → List ℕ → Bool
is_equal half found gprs = found == joined half (slice_index gprs RDX) (slice_index gprs RAX)

-- the registers with the two halves of a number in rdx and rax
abbrev pub pair_loaded : Size → (found : ℕ) → List ℕ → List ℕ
pair_loaded half found gprs =
    with_register RDX (bits_in half) (cut half (found / 2 ^ bits_in half)) (with_register RAX (bits_in half) (cut half found) gprs)

-- what goes to memory: rcx and rbx
abbrev pub pair_stored : PairPlan → List ℕ → (ℕ → ℕ) → ℕ → ℕ
pair_stored i gprs byte =
    written byte i.addr (little_bytes (pair_bytes i) (joined i.half (slice_index gprs RCX) (slice_index gprs RBX)))

unfoldable pub gprs_exchanged : PairPlan → (found : ℕ) → List ℕ → List ℕ
gprs_exchanged i found gprs = if is_equal i.half found gprs then gprs else pair_loaded i.half found gprs

unfoldable pub byte_exchanged : PairPlan → (found : ℕ) → List ℕ → (ℕ → ℕ) → ℕ → ℕ
byte_exchanged i found gprs byte = if is_equal i.half found gprs then pair_stored i gprs byte else byte

-- the effect, by what stood in memory
abbrev pub exchanged : PairPlan → (found : ℕ) → Processor → (ℕ → ℕ) → Effect
exchanged i found p byte = record {
  acted = Done;
  processor = record p {
    gprs = gprs_exchanged i found p.gprs;
    flags = record p.flags { zf = is_equal i.half found p.gprs };
    rip = i.next;
    steps = p.steps + 1;
  };
  byte = byte_exchanged i found p.gprs byte;
}

-- the effect, by the bytes of memory
abbrev pub pair_effect : PairPlan → Processor → (ℕ → ℕ) → Effect
pair_effect i p byte = exchanged i (pair_at i byte) p byte
