-- Where a row's operands stand and what of them follows the opcode, by the letters of the opcode maps (Intel SDM volume 2,
-- appendix A.2.1 and A.2.2).
use Rattle.std.specs.Prelude.{ℕ, zero, suc, ◌+◌, Option, Some, None, List, [], ◌∷◌}
use Rattle.std.specs.List.{list_any}
use Rattle.std.specs.Option.{is_some}
use Rattle.row_table.specs.declared.kinds.Operands.{Operands}
use Rattle.row_table.specs.declared.kinds.Operands.TheVariants.{Implied, OpcodeReg, RaxOpcodeReg, OpcodeRegIb, OpcodeRegIv, Ib, Iw, Iz, Jb, Jz, AlIb, RaxIz, AlOb, RaxOv, ObAl, OvRax, Eb, Ev, EbGb, EvGv, GbEb, GvEv, GvEb, GvEw, GvEd, EbIb, EvIb, EvIz, EbOne, EvOne, EbCl, EvCl, GvEvIb, GvEvIz, EvGvIb, EvGvCl, GvM, MvGv, M as MemoryAlone, R as RegisterAlone, ByteD0, GyByEy, GyEyBy, ByEy, GyEyIb, VxHxWx, VxHxWxIb, VxHxWdq, VxHxWxLx, VxWx, VxWdq, VxWxIb, VxWxXmm0, WxVx, WxVxIb, HxWxIb, HxUxIb, UxIb, VxMx, VxMxIb, MxVx, VxHxMx, VxHxMxIb, MxHxVx, VxHxUx, VxHxUxIb, UxHxVx, VxUx, VxUxIb, UxVx, VxEv, EvVx, VxEvIb, VxHxEvIb, EvVxIb, VxRv, GvUx, GvUxIb, VxVm, VxVmHx, VmVx, KxHxWx, KxHxWxIb, KxUx, VxKx, KxKx, KxKxKx, KxKxIb, KxKm, MxKx, KxRv, GvKx}
use Rattle.row_table.specs.declared.kinds.Spot.{Spot}
use Rattle.row_table.specs.declared.kinds.Spot.TheVariants.{Absent, Reg, Rm, Vvvv, OpcodeReg as InOpcode, Rax, Cl, Memory as InMemory, VectorMemory, Offset, Immediate, Relative, One as NumberOne, VectorReg, VectorRm, VectorVvvv, VectorImmediate, Xmm0, OpmaskReg, OpmaskRm, OpmaskVvvv}
use Rattle.row_table.specs.declared.kinds.Extent.{Extent}
use Rattle.row_table.specs.declared.kinds.Extent.TheVariants.{Own, Byte, Word, Double, DoubleQuad, Sized, Scalar, Limited, Vector}
use Rattle.row_table.specs.declared.kinds.Place.{Place}
use Rattle.row_table.specs.declared.kinds.Form.{Form}
use Rattle.row_table.specs.declared.kinds.Form.TheVariants.{Either, Memory, Register, Exactly}
use Rattle.row_table.specs.declared.kinds.Layout.{Layout}

-- A letter of the maps with a small letter for the size. Of opmask registers, for which the maps have none, KV, KH, KU and KW
-- stand where V, H, U and W do, and have the row's size, as memory in such a place has; VM is memory with a vector index; Z is the
-- register in the opcode; rAX, CL and XMM0 are these registers, and One the number 1; Exact is a ModRM byte without an operand.
pub data Letter : Type 0 where
  E : Extent → Letter
  G : Extent → Letter
  B : Extent → Letter
  R : Extent → Letter
  M : Extent → Letter
  O : Extent → Letter
  I : Extent → Letter
  J : Extent → Letter
  V : Extent → Letter
  H : Extent → Letter
  U : Extent → Letter
  W : Extent → Letter
  L : Extent → Letter
  VM : Extent → Letter
  KV : Extent → Letter
  KH : Extent → Letter
  KU : Extent → Letter
  KW : Extent → Letter
  Z : Extent → Letter
  rAX : Extent → Letter
  CL : Letter
  XMM0 : Letter
  One : Letter
  Exact : ℕ → Letter

-- ---- small letters
abbrev b : Extent
b = Byte

abbrev w : Extent
w = Word

abbrev d : Extent
d = Double

abbrev dq : Extent
dq = DoubleQuad

abbrev v : Extent
v = Sized

abbrev y : Extent
y = Scalar

abbrev z : Extent
z = Limited

abbrev x : Extent
x = Vector

abbrev own : Extent
own = Own

abbrev AL : Letter
AL = rAX b

-- ---- lists of operands, each by its letters
unfoldable pub letters : Operands → List Letter
letters Implied = []
letters OpcodeReg = Z v ∷ []
letters RaxOpcodeReg = rAX v ∷ Z v ∷ []
letters OpcodeRegIb = Z b ∷ I b ∷ []
letters OpcodeRegIv = Z v ∷ I v ∷ []
letters Ib = I b ∷ []
letters Iw = I w ∷ []
letters Iz = I z ∷ []
letters Jb = J b ∷ []
letters Jz = J z ∷ []
letters AlIb = AL ∷ I b ∷ []
letters RaxIz = rAX v ∷ I z ∷ []
letters AlOb = AL ∷ O b ∷ []
letters RaxOv = rAX v ∷ O v ∷ []
letters ObAl = O b ∷ AL ∷ []
letters OvRax = O v ∷ rAX v ∷ []
letters Eb = E b ∷ []
letters Ev = E v ∷ []
letters EbGb = E b ∷ G b ∷ []
letters EvGv = E v ∷ G v ∷ []
letters GbEb = G b ∷ E b ∷ []
letters GvEv = G v ∷ E v ∷ []
letters GvEb = G v ∷ E b ∷ []
letters GvEw = G v ∷ E w ∷ []
letters GvEd = G v ∷ E d ∷ []
letters EbIb = E b ∷ I b ∷ []
letters EvIb = E v ∷ I b ∷ []
letters EvIz = E v ∷ I z ∷ []
letters EbOne = E b ∷ One ∷ []
letters EvOne = E v ∷ One ∷ []
letters EbCl = E b ∷ CL ∷ []
letters EvCl = E v ∷ CL ∷ []
letters GvEvIb = G v ∷ E v ∷ I b ∷ []
letters GvEvIz = G v ∷ E v ∷ I z ∷ []
letters EvGvIb = E v ∷ G v ∷ I b ∷ []
letters EvGvCl = E v ∷ G v ∷ CL ∷ []
letters GvM = G v ∷ M own ∷ []
letters MvGv = M v ∷ G v ∷ []
letters MemoryAlone = M own ∷ []
letters RegisterAlone = R own ∷ []
letters ByteD0 = Exact 0xD0 ∷ []
letters GyByEy = G y ∷ B y ∷ E y ∷ []
letters GyEyBy = G y ∷ E y ∷ B y ∷ []
letters ByEy = B y ∷ E y ∷ []
letters GyEyIb = G y ∷ E y ∷ I b ∷ []
letters VxHxWx = V x ∷ H x ∷ W x ∷ []
letters VxHxWxIb = V x ∷ H x ∷ W x ∷ I b ∷ []
letters VxHxWdq = V x ∷ H x ∷ W dq ∷ []
letters VxHxWxLx = V x ∷ H x ∷ W x ∷ L x ∷ []
letters VxWx = V x ∷ W x ∷ []
letters VxWdq = V x ∷ W dq ∷ []
letters VxWxIb = V x ∷ W x ∷ I b ∷ []
letters VxWxXmm0 = V x ∷ W x ∷ XMM0 ∷ []
letters WxVx = W x ∷ V x ∷ []
letters WxVxIb = W x ∷ V x ∷ I b ∷ []
letters HxWxIb = H x ∷ W x ∷ I b ∷ []
letters HxUxIb = H x ∷ U x ∷ I b ∷ []
letters UxIb = U x ∷ I b ∷ []
letters VxMx = V x ∷ M x ∷ []
letters VxMxIb = V x ∷ M x ∷ I b ∷ []
letters MxVx = M x ∷ V x ∷ []
letters VxHxMx = V x ∷ H x ∷ M x ∷ []
letters VxHxMxIb = V x ∷ H x ∷ M x ∷ I b ∷ []
letters MxHxVx = M x ∷ H x ∷ V x ∷ []
letters VxHxUx = V x ∷ H x ∷ U x ∷ []
letters VxHxUxIb = V x ∷ H x ∷ U x ∷ I b ∷ []
letters UxHxVx = U x ∷ H x ∷ V x ∷ []
letters VxUx = V x ∷ U x ∷ []
letters VxUxIb = V x ∷ U x ∷ I b ∷ []
letters UxVx = U x ∷ V x ∷ []
letters VxEv = V x ∷ E y ∷ []
letters EvVx = E y ∷ V x ∷ []
letters VxEvIb = V x ∷ E y ∷ I b ∷ []
letters VxHxEvIb = V x ∷ H x ∷ E y ∷ I b ∷ []
letters EvVxIb = E y ∷ V x ∷ I b ∷ []
letters VxRv = V x ∷ R y ∷ []
letters GvUx = G y ∷ U x ∷ []
letters GvUxIb = G y ∷ U x ∷ I b ∷ []
letters VxVm = V x ∷ VM x ∷ []
letters VxVmHx = V x ∷ VM x ∷ H x ∷ []
letters VmVx = VM x ∷ V x ∷ []
letters KxHxWx = KV own ∷ H x ∷ W x ∷ []
letters KxHxWxIb = KV own ∷ H x ∷ W x ∷ I b ∷ []
letters KxUx = KV own ∷ U x ∷ []
letters VxKx = V x ∷ KU own ∷ []
letters KxKx = KV own ∷ KU own ∷ []
letters KxKxKx = KV own ∷ KH own ∷ KU own ∷ []
letters KxKxIb = KV own ∷ KU own ∷ I b ∷ []
letters KxKm = KV own ∷ KW own ∷ []
letters MxKx = M own ∷ KV own ∷ []
letters KxRv = KV own ∷ R y ∷ []
letters GvKx = G y ∷ KU own ∷ []

-- ---- what a letter says
abbrev pub standing : Spot → Extent → Place
standing spot size = record { spot = spot; size = size }

abbrev pub nowhere : Place
nowhere = standing Absent Own

abbrev pub place_of : Letter → Place
place_of (E s) = standing Rm s
place_of (G s) = standing Reg s
place_of (B s) = standing Vvvv s
place_of (R s) = standing Rm s
place_of (M s) = standing InMemory s
place_of (O s) = standing Offset s
place_of (I s) = standing Immediate s
place_of (J s) = standing Relative s
place_of (V s) = standing VectorReg s
place_of (H s) = standing VectorVvvv s
place_of (U s) = standing VectorRm s
place_of (W s) = standing VectorRm s
place_of (L s) = standing VectorImmediate s
place_of (VM s) = standing VectorMemory s
place_of (KV s) = standing OpmaskReg s
place_of (KH s) = standing OpmaskVvvv s
place_of (KU s) = standing OpmaskRm s
place_of (KW s) = standing OpmaskRm s
place_of (Z s) = standing InOpcode s
place_of (rAX s) = standing Rax s
place_of CL = standing Cl Byte
place_of XMM0 = standing Xmm0 Vector
place_of One = standing NumberOne Byte
place_of (Exact byte) = nowhere

-- the kinds of operand that it takes in ModRM, where it needs ModRM: M alone is memory only, and R, U and KU are registers only
abbrev pub asks_of_modrm : Letter → Option Form
asks_of_modrm (E s) = Some Either
asks_of_modrm (G s) = Some Either
asks_of_modrm (B s) = None
asks_of_modrm (R s) = Some Register
asks_of_modrm (M s) = Some Memory
asks_of_modrm (O s) = None
asks_of_modrm (I s) = None
asks_of_modrm (J s) = None
asks_of_modrm (V s) = Some Either
asks_of_modrm (H s) = None
asks_of_modrm (U s) = Some Register
asks_of_modrm (W s) = Some Either
asks_of_modrm (L s) = None
asks_of_modrm (VM s) = Some Memory
asks_of_modrm (KV s) = Some Either
asks_of_modrm (KH s) = None
asks_of_modrm (KU s) = Some Register
asks_of_modrm (KW s) = Some Either
asks_of_modrm (Z s) = None
asks_of_modrm (rAX s) = None
asks_of_modrm CL = None
asks_of_modrm XMM0 = None
asks_of_modrm One = None
asks_of_modrm (Exact byte) = Some (Exactly byte)

-- the size code of an immediate: 1 and 2 bytes, 10 for 2 or 4 bytes by operand size, 11 for 2, 4 or 8
abbrev pub immediate_code : Extent → ℕ
immediate_code Byte = 1
immediate_code Word = 2
immediate_code Double = 4
immediate_code Limited = 10
immediate_code Sized = 11
immediate_code Own = 0
immediate_code DoubleQuad = 0
immediate_code Scalar = 0
immediate_code Vector = 0

-- that of a place in the code: a jump's operand size is 64 bits, so z is always 4 bytes (Intel SDM volume 1, 6.3.7)
abbrev pub relative_code : Extent → ℕ
relative_code Byte = 1
relative_code Limited = 4
relative_code Word = 0
relative_code Double = 0
relative_code Sized = 0
relative_code Own = 0
relative_code DoubleQuad = 0
relative_code Scalar = 0
relative_code Vector = 0

-- the size code of what follows for it: of an address without ModRM 12, 8 bytes or 4 with 67
abbrev pub code_of : Letter → ℕ
code_of (E s) = 0
code_of (G s) = 0
code_of (B s) = 0
code_of (R s) = 0
code_of (M s) = 0
code_of (O s) = 12
code_of (I s) = immediate_code s
code_of (J s) = relative_code s
code_of (V s) = 0
code_of (H s) = 0
code_of (U s) = 0
code_of (W s) = 0
code_of (L s) = 1
code_of (VM s) = 0
code_of (KV s) = 0
code_of (KH s) = 0
code_of (KU s) = 0
code_of (KW s) = 0
code_of (Z s) = 0
code_of (rAX s) = 0
code_of CL = 0
code_of XMM0 = 0
code_of One = 0
code_of (Exact byte) = 0

-- ---- what a list of letters says
abbrev pub place_at : ℕ → List Letter → Place
place_at n [] = nowhere
place_at zero (l ∷ ls) = place_of l
place_at (suc n) (l ∷ ls) = place_at n ls

-- both restrictions; at most one letter of a list is in ModRM.r/m
abbrev pub narrowed : Option Form → Form → Form
narrowed None form = form
narrowed (Some Either) form = form
narrowed (Some Memory) form = Memory
narrowed (Some Register) form = Register
narrowed (Some (Exactly byte)) form = Exactly byte

abbrev pub form_in : List Letter → Form
form_in [] = Either
form_in (l ∷ ls) = narrowed (asks_of_modrm l) (form_in ls)

-- at most one letter of a list has bytes of its own
abbrev pub code_in : List Letter → ℕ
code_in [] = 0
code_in (l ∷ ls) = code_of l + code_in ls

abbrev pub spelled_by : List Letter → Layout
spelled_by ls = record {
  first = place_at 0 ls;
  second = place_at 1 ls;
  third = place_at 2 ls;
  fourth = place_at 3 ls;
  modrm = list_any (λ l. is_some (asks_of_modrm l)) ls;
  immediate = code_in ls;
  form = form_in ls;
}

-- what a list of operands says
unfoldable pub layout_of : Operands → Layout
layout_of operands = spelled_by (letters operands)
