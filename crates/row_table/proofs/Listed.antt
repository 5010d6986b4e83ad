-- The code's table has the layout of each list of operands at the number of its variant.
use Rattle.std.proofs.Common.{◌≡◌, ◌<◌, map, length, slice_get, get_or, refl, sym, ap, ◌∙◌}
use Rattle.std.proofs.Common.{Some as some}
use Rattle.std.specs.Option.{option_map}
use Rattle.std.proofs.lemmas.Option.{slice_get-map, slice_get_within, get_or_from_slice_get}
use denote.Enum.Declared.{tag_of}
use Rattle.row_table.specs.contracts.kinds.Operands.{the_type}
use Rattle.row_table.specs.declared.kinds.Operands.{Operands}
use Rattle.row_table.specs.declared.kinds.Operands.TheVariants.{Implied, OpcodeReg, RaxOpcodeReg, OpcodeRegIb, OpcodeRegIv, Ib, Iw, Iz, Jb, Jz, AlIb, RaxIz, AlOb, RaxOv, ObAl, OvRax, Eb, Ev, EbGb, EvGv, GbEb, GvEv, GvEb, GvEw, GvEd, EbIb, EvIb, EvIz, EbOne, EvOne, EbCl, EvCl, GvEvIb, GvEvIz, EvGvIb, EvGvCl, GvM, MvGv, M, R, ByteD0, GyByEy, GyEyBy, ByEy, GyEyIb, VxHxWx, VxHxWxIb, VxHxWdq, VxHxWxLx, VxWx, VxWdq, VxWxIb, VxWxXmm0, WxVx, WxVxIb, HxWxIb, HxUxIb, UxIb, VxMx, VxMxIb, MxVx, VxHxMx, VxHxMxIb, MxHxVx, VxHxUx, VxHxUxIb, UxHxVx, VxUx, VxUxIb, UxVx, VxEv, EvVx, VxEvIb, VxHxEvIb, EvVxIb, VxRv, GvUx, GvUxIb, VxVm, VxVmHx, VmVx, KxHxWx, KxHxWxIb, KxUx, VxKx, KxKx, KxKxKx, KxKxIb, KxKm, MxKx, KxRv, GvKx}
use Rattle.row_table.specs.declared.kinds.Layout.{Layout}
use Rattle.row_table.specs.Letters.{layout_of, letters}
use Rattle.row_table.specs.Order.{order, layouts}

in-order : map layout_of order ≡ layouts
unfolding order layouts layout_of letters
in-order = refl

at-number : (o : Operands) → slice_get order (tag_of the_type o) ≡ some o
unfolding order
at-number Implied = refl
at-number OpcodeReg = refl
at-number RaxOpcodeReg = refl
at-number OpcodeRegIb = refl
at-number OpcodeRegIv = refl
at-number Ib = refl
at-number Iw = refl
at-number Iz = refl
at-number Jb = refl
at-number Jz = refl
at-number AlIb = refl
at-number RaxIz = refl
at-number AlOb = refl
at-number RaxOv = refl
at-number ObAl = refl
at-number OvRax = refl
at-number Eb = refl
at-number Ev = refl
at-number EbGb = refl
at-number EvGv = refl
at-number GbEb = refl
at-number GvEv = refl
at-number GvEb = refl
at-number GvEw = refl
at-number GvEd = refl
at-number EbIb = refl
at-number EvIb = refl
at-number EvIz = refl
at-number EbOne = refl
at-number EvOne = refl
at-number EbCl = refl
at-number EvCl = refl
at-number GvEvIb = refl
at-number GvEvIz = refl
at-number EvGvIb = refl
at-number EvGvCl = refl
at-number GvM = refl
at-number MvGv = refl
at-number M = refl
at-number R = refl
at-number ByteD0 = refl
at-number GyByEy = refl
at-number GyEyBy = refl
at-number ByEy = refl
at-number GyEyIb = refl
at-number VxHxWx = refl
at-number VxHxWxIb = refl
at-number VxHxWdq = refl
at-number VxHxWxLx = refl
at-number VxWx = refl
at-number VxWdq = refl
at-number VxWxIb = refl
at-number VxWxXmm0 = refl
at-number WxVx = refl
at-number WxVxIb = refl
at-number HxWxIb = refl
at-number HxUxIb = refl
at-number UxIb = refl
at-number VxMx = refl
at-number VxMxIb = refl
at-number MxVx = refl
at-number VxHxMx = refl
at-number VxHxMxIb = refl
at-number MxHxVx = refl
at-number VxHxUx = refl
at-number VxHxUxIb = refl
at-number UxHxVx = refl
at-number VxUx = refl
at-number VxUxIb = refl
at-number UxVx = refl
at-number VxEv = refl
at-number EvVx = refl
at-number VxEvIb = refl
at-number VxHxEvIb = refl
at-number EvVxIb = refl
at-number VxRv = refl
at-number GvUx = refl
at-number GvUxIb = refl
at-number VxVm = refl
at-number VxVmHx = refl
at-number VmVx = refl
at-number KxHxWx = refl
at-number KxHxWxIb = refl
at-number KxUx = refl
at-number VxKx = refl
at-number KxKx = refl
at-number KxKxKx = refl
at-number KxKxIb = refl
at-number KxKm = refl
at-number MxKx = refl
at-number KxRv = refl
at-number GvKx = refl

listed : (o : Operands) → slice_get layouts (tag_of the_type o) ≡ some (layout_of o)
listed o =
    ap (λ ls. slice_get ls (tag_of the_type o)) (sym in-order)
    ∙ (slice_get-map layout_of order (tag_of the_type o) ∙ ap (option_map layout_of) (at-number o))

pub number-within : (o : Operands) → tag_of the_type o < length layouts
number-within o = slice_get_within layouts (tag_of the_type o) (layout_of o) (listed o)

pub layout-at : (o : Operands) (d : Layout) → get_or layouts (tag_of the_type o) d ≡ layout_of o
layout-at o d = get_or_from_slice_get layouts (tag_of the_type o) (layout_of o) d (listed o)
