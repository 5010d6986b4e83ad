-- The lists of operands in the order of their variants, which is that of the code's table of layouts.
use Rattle.std.specs.Prelude.{List, [], ◌∷◌}
use Rattle.row_table.specs.declared.kinds.Operands.{Operands}
use Rattle.row_table.specs.declared.kinds.Operands.TheVariants.{Implied, OpcodeReg, RaxOpcodeReg, OpcodeRegIb, OpcodeRegIv, Ib, Iw, Iz, Jb, Jz, AlIb, RaxIz, AlOb, RaxOv, ObAl, OvRax, Eb, Ev, EbGb, EvGv, GbEb, GvEv, GvEb, GvEw, GvEd, EbIb, EvIb, EvIz, EbOne, EvOne, EbCl, EvCl, GvEvIb, GvEvIz, EvGvIb, EvGvCl, GvM, MvGv, M, R, ByteD0, GyByEy, GyEyBy, ByEy, GyEyIb, VxHxWx, VxHxWxIb, VxHxWdq, VxHxWxLx, VxWx, VxWdq, VxWxIb, VxWxXmm0, WxVx, WxVxIb, HxWxIb, HxUxIb, UxIb, VxMx, VxMxIb, MxVx, VxHxMx, VxHxMxIb, MxHxVx, VxHxUx, VxHxUxIb, UxHxVx, VxUx, VxUxIb, UxVx, VxEv, EvVx, VxEvIb, VxHxEvIb, EvVxIb, VxRv, GvUx, GvUxIb, VxVm, VxVmHx, VmVx, KxHxWx, KxHxWxIb, KxUx, VxKx, KxKx, KxKxKx, KxKxIb, KxKm, MxKx, KxRv, GvKx}
use Rattle.row_table.specs.declared.kinds.Layout.{Layout}
use Rattle.row_table.specs.declared.layouts.TheConstants.{LAYOUTS}

unfoldable pub order : List Operands
order =
    Implied ∷ OpcodeReg ∷ RaxOpcodeReg ∷ OpcodeRegIb ∷ OpcodeRegIv ∷ Ib ∷ Iw ∷ Iz ∷ Jb ∷ Jz ∷ AlIb ∷ RaxIz ∷ AlOb
    ∷ RaxOv ∷ ObAl ∷ OvRax ∷ Eb ∷ Ev ∷ EbGb ∷ EvGv ∷ GbEb ∷ GvEv ∷ GvEb ∷ GvEw ∷ GvEd ∷ EbIb ∷ EvIb ∷ EvIz ∷ EbOne
    ∷ EvOne ∷ EbCl ∷ EvCl ∷ GvEvIb ∷ GvEvIz ∷ EvGvIb ∷ EvGvCl ∷ GvM ∷ MvGv ∷ M ∷ R ∷ ByteD0 ∷ GyByEy ∷ GyEyBy ∷ ByEy
    ∷ GyEyIb ∷ VxHxWx ∷ VxHxWxIb ∷ VxHxWdq ∷ VxHxWxLx ∷ VxWx ∷ VxWdq ∷ VxWxIb ∷ VxWxXmm0 ∷ WxVx ∷ WxVxIb ∷ HxWxIb
    ∷ HxUxIb ∷ UxIb ∷ VxMx ∷ VxMxIb ∷ MxVx ∷ VxHxMx ∷ VxHxMxIb ∷ MxHxVx ∷ VxHxUx ∷ VxHxUxIb ∷ UxHxVx ∷ VxUx ∷ VxUxIb
    ∷ UxVx ∷ VxEv ∷ EvVx ∷ VxEvIb ∷ VxHxEvIb ∷ EvVxIb
    ∷ VxRv ∷ GvUx ∷ GvUxIb ∷ VxVm ∷ VxVmHx ∷ VmVx ∷ KxHxWx ∷ KxHxWxIb ∷ KxUx ∷ VxKx ∷ KxKx ∷ KxKxKx ∷ KxKxIb ∷ KxKm
    ∷ MxKx ∷ KxRv ∷ GvKx ∷ []

-- the layouts as the code has them
unfoldable pub layouts : List Layout
layouts = LAYOUTS
