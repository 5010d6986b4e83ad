-- The instructions of EVEX, in the order of the SDM's opcode maps (Intel SDM volume 2, appendix A.3), by map and opcode: a comment
-- gives what a line of the map says, and the term below it the rows. A name that ends in D and Q is that of two instructions, of 32
-- bits without W and of 64 with W, and so does one that ends in B and W, of 8 and 16 bits.
use Rattle.std.specs.Prelude.{List, [], ◌∷◌, ◌++◌, map}
use Rattle.row_table.specs.declared.kinds.Operands.TheVariants.{VxWx, WxVx, WxVxIb, VxMx, MxVx, VxHxMx, VxHxUx, VxEv, EvVx, VxHxEvIb, EvVxIb, VxRv, GvUxIb, KxUx, VxKx}
use Rattle.row_table.specs.declared.kinds.Tuple.TheVariants.{Full, HalfMem, QuarterMem, EighthMem, T2}
use Rattle.row_table.specs.declared.kinds.Row.{Row}
use Rattle.row_table.specs.declared.operations.Op.TheVariants.{Lane, Cross, Width, Mac}
use Rattle.row_table.specs.declared.operations.LaneOp.TheVariants.{Padd, Psub, Padds, Paddus, Psubs, Psubus, Pavg, Pminu, Pmaxu, Pmins, Pmaxs, Pand, Pandn, Por, Pxor, Pabs, Pcmpeq, Pcmpgt, Vpcmpu, Vpcmp, Vptestm, Vptestnm, Psrl, Psra, Psll, Vpsrlv, Vpsrav, Vpsllv, Vpror, Vprol, Vprorv, Vprolv, Vpternlog, Andp, Andnp, Orp, Xorp, Movdqa, Movdqu, Movap, Movup, Movntp, Movntdq, Movntdqa, Movd, Movq, Movlp, Movhp, MovhpStore, Movhlps, Movlhps}
use Rattle.row_table.specs.declared.operations.CrossOp.TheVariants.{Punpckl, Punpckh, Packss, Packus, Pshufb, Pshufd, Pshufhw, Pshuflw, Palignr, Valign, Vperm, Vpermp, Vpermq, Vpermpd, Vpermi2, Vpermt2, Vpermilp, VpermilpIb, Shuf, Unpckl, Unpckh, Vshuf, Broadcast, Broadcast2, Broadcast4, Broadcast8, Vpbroadcastm, Vpmovm2, Vpmov2m, Insert128, Insert256, Extract128, Extract256, Pinsr, Pextr, Psrldq, Pslldq}
use Rattle.row_table.specs.declared.operations.WidthOp.TheVariants.{Pmovsxb, Pmovsxw, Pmovsxd, Pmovzxb, Pmovzxw, Pmovzxd, Vpmovusw, Vpmovusd, Vpmovusq, Vpmovsw, Vpmovsd, Vpmovsq, Vpmovw, Vpmovd, Vpmovq}
use Rattle.row_table.specs.declared.operations.MacOp.TheVariants.{Pmull, Pmulh, Pmulhu, Pmuludq, Pmuldq, Pmulhrs, Vplzcnt, Vpconflict, Vpopcnt, Vpshufbitqmb, Vpshld, Vpshrd, Vpshldv, Vpshrdv, Pmaddwd, Psadbw, Pmaddubsw, Vpdpbusd, Vpdpbusds, Vpdpwssd, Vpdpwssds, Vpmadd52lu, Vpmadd52hu, Vpmultishiftqb, Vdbpsadbw}
use Rattle.row_table.specs.Lines.{digit, without_w, with_w, p66, pf3, pf2, by_w_of, in_map}
use Rattle.row_table.specs.VectorLines.{in_memory, element, read_whole, of_128, to_its_size, by_float}
use Rattle.row_table.specs.EvexLines.{evex, both, lanes, lanes_by, shuffled, shuffled_by, one_shuffled_by, doubles_packed, summed, counted, shifted, compared, compared_by, moved, unmasked, element_moved, half_moved, of_registers, half_of_register, register_moved, from_256, blended, closed_up, spread_out, narrowed, resizing, part_of_128, part_of_256}

-- ---- the map of 0F (table A-3)
-- 10 to 57
abbrev evex_10 : List Row
evex_10 =
    -- NP 10, 66 10; NP 11, 66 11: VMOVUPS, VMOVUPD Vx,Wx; Wx,Vx
    by_float (λ width. moved 0x10 VxWx width (Lane Movup)) ++ by_float (λ width. moved 0x11 WxVx width (Lane Movup))
    -- NP 12, 66 12, memory only: VMOVLPS, VMOVLPD from memory; NP 12 of registers: VMOVHLPS; NP 13, 66 13, memory only: to memory
    ++ half_moved 0x12 VxHxMx (Lane Movlp) ++ half_of_register 0x12 VxHxUx (Lane Movhlps) ∷ half_moved 0x13 MxVx (Lane Movlp)
    -- NP 14, 66 14; NP 15, 66 15: VUNPCKLPS, VUNPCKLPD; VUNPCKHPS, VUNPCKHPD
    ++ by_float (λ width. shuffled 0x14 width (Cross Unpckl)) ++ by_float (λ width. shuffled 0x15 width (Cross Unpckh))
    -- NP 16, 66 16, memory only: VMOVHPS, VMOVHPD from memory; NP 16 of registers: VMOVLHPS; NP 17, 66 17, memory only: to memory
    ++ half_moved 0x16 VxHxMx (Lane Movhp) ++ half_of_register 0x16 VxHxUx (Lane Movlhps) ∷ half_moved 0x17 MxVx (Lane MovhpStore)
    -- NP 28, 66 28; NP 29, 66 29: VMOVAPS, VMOVAPD Vx,Wx; Wx,Vx; NP 2B, 66 2B, memory only: VMOVNTPS, VMOVNTPD
    ++ by_float (λ width. to_its_size (moved 0x28 VxWx width (Lane Movap)))
    ++ by_float (λ width. to_its_size (moved 0x29 WxVx width (Lane Movap)))
    ++ by_float (λ width. unmasked (to_its_size (moved 0x2B MxVx width (Lane Movntp))))
    -- NP 54 to 57, 66 54 to 57: VANDPS, VANDNPS, VORPS, VXORPS, and of PD
    ++ by_float (λ width. lanes 0x54 width (Lane Andp)) ++ by_float (λ width. lanes 0x55 width (Lane Andnp))
    ++ by_float (λ width. lanes 0x56 width (Lane Orp)) ++ by_float (λ width. lanes 0x57 width (Lane Xorp))

-- 60 to 6F
abbrev evex_60 : List Row
evex_60 =
    -- 66 60 to 63: VPUNPCKLBW, VPUNPCKLWD, VPUNPCKLDQ, VPACKSSWB
    p66 (shuffled 0x60 8 (Cross Punpckl)) ∷ p66 (shuffled 0x61 16 (Cross Punpckl)) ∷ p66 (shuffled 0x62 32 (Cross Punpckl))
    ∷ p66 (shuffled 0x63 8 (Cross Packss))
    -- 66 64 to 67: VPCMPGTB, VPCMPGTW, VPCMPGTD, VPACKUSWB
    ∷ p66 (compared 0x64 8 (Lane Pcmpgt)) ∷ p66 (compared 0x65 16 (Lane Pcmpgt)) ∷ p66 (compared 0x66 32 (Lane Pcmpgt))
    ∷ p66 (shuffled 0x67 8 (Cross Packus))
    -- 66 68 to 6B: VPUNPCKHBW, VPUNPCKHWD, VPUNPCKHDQ, VPACKSSDW; 66 6C, 6D: VPUNPCKLQDQ, VPUNPCKHQDQ
    ∷ p66 (shuffled 0x68 8 (Cross Punpckh)) ∷ p66 (shuffled 0x69 16 (Cross Punpckh)) ∷ p66 (shuffled 0x6A 32 (Cross Punpckh))
    ∷ p66 (doubles_packed 0x6B (Cross Packss))
    ∷ p66 (shuffled 0x6C 64 (Cross Punpckl)) ∷ p66 (shuffled 0x6D 64 (Cross Punpckh)) ∷ []
    -- 66 6E: VMOVD, VMOVQ Vx,Ey
    ++ both (λ width. p66 (element_moved 0x6E VxEv width (Lane Movd)))
    -- 66 6F: VMOVDQA32, VMOVDQA64 Vx,Wx; F3 6F: VMOVDQU32, VMOVDQU64; F2 6F: VMOVDQU8, VMOVDQU16
    ++ both (λ width. p66 (to_its_size (moved 0x6F VxWx width (Lane Movdqa))))
    ++ both (λ width. pf3 (moved 0x6F VxWx width (Lane Movdqu))) ++ by_w_of 8 16 (λ width. pf2 (moved 0x6F VxWx width (Lane Movdqu)))

-- 70 to 7F
abbrev evex_70 : List Row
evex_70 =
    -- 66 70, F3 70, F2 70: VPSHUFD, VPSHUFHW, VPSHUFLW by Ib
    p66 (one_shuffled_by 0x70 32 (Cross Pshufd)) ∷ pf3 (one_shuffled_by 0x70 16 (Cross Pshufhw))
    ∷ pf2 (one_shuffled_by 0x70 16 (Cross Pshuflw))
    -- 66 71 /2, /4, /6: VPSRLW, VPSRAW, VPSLLW by Ib
    ∷ p66 (digit 2 (shifted 0x71 16 (Lane Psrl))) ∷ p66 (digit 4 (shifted 0x71 16 (Lane Psra)))
    ∷ p66 (digit 6 (shifted 0x71 16 (Lane Psll))) ∷ []
    -- 66 72 /0, /1, /2, /4, /6: VPRORD and Q, VPROLD and Q, VPSRLD, VPSRAD and Q, VPSLLD by Ib
    ++ both (λ width. p66 (digit 0 (shifted 0x72 width (Lane Vpror)))) ++ both (λ width. p66 (digit 1 (shifted 0x72 width (Lane Vprol))))
    ++ p66 (digit 2 (shifted 0x72 32 (Lane Psrl))) ∷ both (λ width. p66 (digit 4 (shifted 0x72 width (Lane Psra))))
    ++ p66 (digit 6 (shifted 0x72 32 (Lane Psll)))
    -- 66 73 /2, /3, /6, /7: VPSRLQ, VPSRLDQ, VPSLLQ, VPSLLDQ by Ib
    ∷ p66 (digit 2 (shifted 0x73 64 (Lane Psrl))) ∷ p66 (digit 3 (unmasked (shifted 0x73 8 (Cross Psrldq))))
    ∷ p66 (digit 6 (shifted 0x73 64 (Lane Psll))) ∷ p66 (digit 7 (unmasked (shifted 0x73 8 (Cross Pslldq))))
    -- 66 74, 75, 76: VPCMPEQB, VPCMPEQW, VPCMPEQD
    ∷ p66 (compared 0x74 8 (Lane Pcmpeq)) ∷ p66 (compared 0x75 16 (Lane Pcmpeq)) ∷ p66 (compared 0x76 32 (Lane Pcmpeq)) ∷ []
    -- 66 7E: VMOVD, VMOVQ Ey,Vx; F3 7E: VMOVQ Vx,Wx of 64 bits
    ++ both (λ width. p66 (element_moved 0x7E EvVx width (Lane Movd))) ++ pf3 (element_moved 0x7E VxWx 64 (Lane Movq))
    -- 66 7F: VMOVDQA32, VMOVDQA64 Wx,Vx; F3 7F: VMOVDQU32, VMOVDQU64; F2 7F: VMOVDQU8, VMOVDQU16
    ∷ both (λ width. p66 (to_its_size (moved 0x7F WxVx width (Lane Movdqa))))
    ++ both (λ width. pf3 (moved 0x7F WxVx width (Lane Movdqu))) ++ by_w_of 8 16 (λ width. pf2 (moved 0x7F WxVx width (Lane Movdqu)))

-- C4 to DF
abbrev evex_c4 : List Row
evex_c4 =
    -- 66 C4: VPINSRW; 66 C5, registers only: VPEXTRW; NP C6, 66 C6: VSHUFPS, VSHUFPD by Ib
    p66 (element_moved 0xC4 VxHxEvIb 16 (Cross Pinsr)) ∷ p66 (of_128 (register_moved 0xC5 GvUxIb 16 (Cross Pextr)))
    ∷ by_float (λ width. shuffled_by 0xC6 width (Cross Shuf))
    -- 66 D1, D2, D3: VPSRLW, VPSRLD, VPSRLQ; 66 D4, D5: VPADDQ, VPMULLW; 66 D6: VMOVQ Wx,Vx of 64 bits
    ++ p66 (counted 0xD1 16 (Lane Psrl)) ∷ p66 (counted 0xD2 32 (Lane Psrl)) ∷ p66 (counted 0xD3 64 (Lane Psrl))
    ∷ p66 (lanes 0xD4 64 (Lane Padd)) ∷ p66 (lanes 0xD5 16 (Mac Pmull)) ∷ p66 (element_moved 0xD6 WxVx 64 (Lane Movq))
    -- 66 D8 to DB: VPSUBUSB, VPSUBUSW, VPMINUB, VPANDD and Q
    ∷ p66 (lanes 0xD8 8 (Lane Psubus)) ∷ p66 (lanes 0xD9 16 (Lane Psubus)) ∷ p66 (lanes 0xDA 8 (Lane Pminu))
    ∷ both (λ width. p66 (lanes 0xDB width (Lane Pand)))
    -- 66 DC to DF: VPADDUSB, VPADDUSW, VPMAXUB, VPANDND and Q
    ++ p66 (lanes 0xDC 8 (Lane Paddus)) ∷ p66 (lanes 0xDD 16 (Lane Paddus)) ∷ p66 (lanes 0xDE 8 (Lane Pmaxu))
    ∷ both (λ width. p66 (lanes 0xDF width (Lane Pandn)))

-- E0 to EF
abbrev evex_e0 : List Row
evex_e0 =
    -- 66 E0 to E3: VPAVGB, VPSRAW, VPSRAD and Q, VPAVGW
    p66 (lanes 0xE0 8 (Lane Pavg)) ∷ p66 (counted 0xE1 16 (Lane Psra)) ∷ both (λ width. p66 (counted 0xE2 width (Lane Psra)))
    ++ p66 (lanes 0xE3 16 (Lane Pavg))
    -- 66 E4, E5: VPMULHUW, VPMULHW; 66 E7, memory only: VMOVNTDQ
    ∷ p66 (lanes 0xE4 16 (Mac Pmulhu)) ∷ p66 (lanes 0xE5 16 (Mac Pmulh)) ∷ p66 (unmasked (to_its_size (moved 0xE7 MxVx 32 (Lane Movntdq))))
    -- 66 E8 to EB: VPSUBSB, VPSUBSW, VPMINSW, VPORD and Q
    ∷ p66 (lanes 0xE8 8 (Lane Psubs)) ∷ p66 (lanes 0xE9 16 (Lane Psubs)) ∷ p66 (lanes 0xEA 16 (Lane Pmins))
    ∷ both (λ width. p66 (lanes 0xEB width (Lane Por)))
    -- 66 EC to EF: VPADDSB, VPADDSW, VPMAXSW, VPXORD and Q
    ++ p66 (lanes 0xEC 8 (Lane Padds)) ∷ p66 (lanes 0xED 16 (Lane Padds)) ∷ p66 (lanes 0xEE 16 (Lane Pmaxs))
    ∷ both (λ width. p66 (lanes 0xEF width (Lane Pxor)))

-- F1 to FE
abbrev evex_f1 : List Row
evex_f1 =
    -- 66 F1, F2, F3: VPSLLW, VPSLLD, VPSLLQ
    p66 (counted 0xF1 16 (Lane Psll)) ∷ p66 (counted 0xF2 32 (Lane Psll)) ∷ p66 (counted 0xF3 64 (Lane Psll))
    -- 66 F4, F5, F6: VPMULUDQ, VPMADDWD, VPSADBW
    ∷ p66 (lanes 0xF4 64 (Mac Pmuludq)) ∷ p66 (summed 0xF5 32 (Mac Pmaddwd)) ∷ p66 (unmasked (summed 0xF6 64 (Mac Psadbw)))
    -- 66 F8 to FB: VPSUBB, VPSUBW, VPSUBD, VPSUBQ
    ∷ p66 (lanes 0xF8 8 (Lane Psub)) ∷ p66 (lanes 0xF9 16 (Lane Psub)) ∷ p66 (lanes 0xFA 32 (Lane Psub)) ∷ p66 (lanes 0xFB 64 (Lane Psub))
    -- 66 FC, FD, FE: VPADDB, VPADDW, VPADDD
    ∷ p66 (lanes 0xFC 8 (Lane Padd)) ∷ p66 (lanes 0xFD 16 (Lane Padd)) ∷ p66 (lanes 0xFE 32 (Lane Padd)) ∷ []

unfoldable pub evex_0f : List Row
evex_0f = evex_10 ++ evex_60 ++ evex_70 ++ evex_c4 ++ evex_e0 ++ evex_f1

-- ---- the map of 0F38 (table A-4)
-- 00 to 16
abbrev evex_38_00 : List Row
evex_38_00 =
    -- 66 00: VPSHUFB; 66 04: VPMADDUBSW; 66 0B: VPMULHRSW; 66 0C, 0D: VPERMILPS, VPERMILPD
    p66 (shuffled 0x00 8 (Cross Pshufb)) ∷ p66 (read_whole (lanes 0x04 16 (Mac Pmaddubsw))) ∷ p66 (lanes 0x0B 16 (Mac Pmulhrs))
    ∷ p66 (shuffled 0x0C 32 (Cross Vpermilp)) ∷ p66 (shuffled 0x0D 64 (Cross Vpermilp))
    -- 66 10, 11, 12 with W: VPSRLVW, VPSRAVW, VPSLLVW; F3 10, 11, 12, 13 without W: VPMOVUSWB, VPMOVUSDB, VPMOVUSQB, VPMOVUSDW
    ∷ p66 (with_w (lanes 0x10 16 (Lane Vpsrlv))) ∷ pf3 (narrowed 0x10 HalfMem 8 (Width Vpmovusw))
    ∷ p66 (with_w (lanes 0x11 16 (Lane Vpsrav))) ∷ pf3 (narrowed 0x11 QuarterMem 8 (Width Vpmovusd))
    ∷ p66 (with_w (lanes 0x12 16 (Lane Vpsllv))) ∷ pf3 (narrowed 0x12 EighthMem 8 (Width Vpmovusq))
    ∷ pf3 (narrowed 0x13 HalfMem 16 (Width Vpmovusd))
    -- 66 14, 15: VPRORVD and Q, VPROLVD and Q; F3 14, 15 without W: VPMOVUSQW, VPMOVUSQD
    ∷ both (λ width. p66 (lanes 0x14 width (Lane Vprorv))) ++ pf3 (narrowed 0x14 QuarterMem 16 (Width Vpmovusq))
    ∷ both (λ width. p66 (lanes 0x15 width (Lane Vprolv))) ++ pf3 (narrowed 0x15 HalfMem 32 (Width Vpmovusq))
    -- 66 16: VPERMPS and VPERMPD, from 256 bits on
    ∷ both (λ width. p66 (from_256 (shuffled 0x16 width (Cross Vpermp))))

-- 18 to 1F
abbrev evex_38_18 : List Row
evex_38_18 = map p66 (
    -- 18: VBROADCASTSS; 19, from 256 bits on: VBROADCASTF32X2 without W, VBROADCASTSD with W
    element (evex 0x18 VxWx 32 (Cross Broadcast)) ∷ from_256 (in_memory T2 (evex 0x19 VxWx 32 (Cross Broadcast2)))
    ∷ from_256 (element (evex 0x19 VxWx 64 (Cross Broadcast)))
    -- 1A, memory only: VBROADCASTF32X4, VBROADCASTF64X2; 1B, memory only: VBROADCASTF32X8, VBROADCASTF64X4
    ∷ part_of_128 (evex 0x1A VxMx 32 (Cross Broadcast4)) (evex 0x1A VxMx 64 (Cross Broadcast2))
    ++ part_of_256 (evex 0x1B VxMx 32 (Cross Broadcast8)) (evex 0x1B VxMx 64 (Cross Broadcast4))
    -- 1C, 1D, 1E, 1F: VPABSB, VPABSW, VPABSD, VPABSQ
    ++ evex 0x1C VxWx 8 (Lane Pabs) ∷ evex 0x1D VxWx 16 (Lane Pabs) ∷ evex 0x1E VxWx 32 (Lane Pabs) ∷ evex 0x1F VxWx 64 (Lane Pabs) ∷ [])

-- 20 to 2B
abbrev evex_38_20 : List Row
evex_38_20 =
    -- 66 20 to 25: VPMOVSXBW, VPMOVSXBD, VPMOVSXBQ, VPMOVSXWD, VPMOVSXWQ, VPMOVSXDQ
    -- F3 20 to 25: VPMOVSWB, VPMOVSDB, VPMOVSQB, VPMOVSDW, VPMOVSQW, VPMOVSQD
    resizing 0x20 (Width Pmovsxb) (Width Pmovsxw) (Width Pmovsxd) (Width Vpmovsw) (Width Vpmovsd) (Width Vpmovsq)
    -- 66 26, F3 26: VPTESTMB and W, VPTESTNMB and W; 66 27, F3 27: VPTESTMD and Q, VPTESTNMD and Q
    ++ by_w_of 8 16 (λ width. p66 (compared 0x26 width (Lane Vptestm))) ++ by_w_of 8 16 (λ width. pf3 (compared 0x26 width (Lane Vptestnm)))
    ++ both (λ width. p66 (compared 0x27 width (Lane Vptestm))) ++ both (λ width. pf3 (compared 0x27 width (Lane Vptestnm)))
    -- 66 28: VPMULDQ; F3 28: VPMOVM2B and W Vx,Kx; 66 29: VPCMPEQQ; F3 29: VPMOVB2M and W Kx,Ux
    ++ p66 (lanes 0x28 64 (Mac Pmuldq)) ∷ by_w_of 8 16 (λ width. pf3 (register_moved 0x28 VxKx width (Cross Vpmovm2)))
    ++ p66 (compared 0x29 64 (Lane Pcmpeq)) ∷ by_w_of 8 16 (λ width. pf3 (register_moved 0x29 KxUx width (Cross Vpmov2m)))
    -- 66 2A, memory only: VMOVNTDQA; F3 2A: VPBROADCASTMB2Q Vx,Kx; 66 2B: VPACKUSDW
    ++ p66 (unmasked (to_its_size (moved 0x2A VxMx 32 (Lane Movntdqa)))) ∷ pf3 (register_moved 0x2A VxKx 64 (Cross Vpbroadcastm))
    ∷ p66 (doubles_packed 0x2B (Cross Packus)) ∷ []

-- 30 to 3F
abbrev evex_38_30 : List Row
evex_38_30 =
    -- 66 30 to 35: VPMOVZXBW, VPMOVZXBD, VPMOVZXBQ, VPMOVZXWD, VPMOVZXWQ, VPMOVZXDQ
    -- F3 30 to 35: VPMOVWB, VPMOVDB, VPMOVQB, VPMOVDW, VPMOVQW, VPMOVQD
    resizing 0x30 (Width Pmovzxb) (Width Pmovzxw) (Width Pmovzxd) (Width Vpmovw) (Width Vpmovd) (Width Vpmovq)
    -- 66 36: VPERMD and Q, from 256 bits on; 66 37: VPCMPGTQ
    ++ both (λ width. p66 (from_256 (shuffled 0x36 width (Cross Vperm)))) ++ p66 (compared 0x37 64 (Lane Pcmpgt))
    -- 66 38, 39: VPMINSB, VPMINSD and Q; F3 38: VPMOVM2D and Q Vx,Kx; F3 39: VPMOVD2M and Q Kx,Ux
    ∷ p66 (lanes 0x38 8 (Lane Pmins)) ∷ both (λ width. pf3 (register_moved 0x38 VxKx width (Cross Vpmovm2)))
    ++ both (λ width. p66 (lanes 0x39 width (Lane Pmins))) ++ both (λ width. pf3 (register_moved 0x39 KxUx width (Cross Vpmov2m)))
    -- 66 3A, 3B: VPMINUW, VPMINUD and Q; F3 3A: VPBROADCASTMW2D Vx,Kx
    ++ p66 (lanes 0x3A 16 (Lane Pminu)) ∷ pf3 (register_moved 0x3A VxKx 32 (Cross Vpbroadcastm))
    ∷ both (λ width. p66 (lanes 0x3B width (Lane Pminu)))
    -- 66 3C to 3F: VPMAXSB, VPMAXSD and Q, VPMAXUW, VPMAXUD and Q
    ++ p66 (lanes 0x3C 8 (Lane Pmaxs)) ∷ both (λ width. p66 (lanes 0x3D width (Lane Pmaxs)))
    ++ p66 (lanes 0x3E 16 (Lane Pmaxu)) ∷ both (λ width. p66 (lanes 0x3F width (Lane Pmaxu)))

-- 40 to 5B
abbrev evex_38_40 : List Row
evex_38_40 = map p66 (
    -- 40: VPMULLD and Q; 44: VPLZCNTD and Q; 45, 46, 47: VPSRLVD and Q, VPSRAVD and Q, VPSLLVD and Q
    both (λ width. lanes 0x40 width (Mac Pmull)) ++ both (λ width. evex 0x44 VxWx width (Mac Vplzcnt))
    ++ both (λ width. lanes 0x45 width (Lane Vpsrlv)) ++ both (λ width. lanes 0x46 width (Lane Vpsrav))
    ++ both (λ width. lanes 0x47 width (Lane Vpsllv))
    -- 50 to 53: VPDPBUSD, VPDPBUSDS, VPDPWSSD, VPDPWSSDS; 54, 55: VPOPCNTB and W, VPOPCNTD and Q
    ++ lanes 0x50 32 (Mac Vpdpbusd) ∷ lanes 0x51 32 (Mac Vpdpbusds) ∷ lanes 0x52 32 (Mac Vpdpwssd) ∷ lanes 0x53 32 (Mac Vpdpwssds)
    ∷ by_w_of 8 16 (λ width. evex 0x54 VxWx width (Mac Vpopcnt)) ++ both (λ width. evex 0x55 VxWx width (Mac Vpopcnt))
    -- 58: VPBROADCASTD; 59: VBROADCASTI32X2 without W, VPBROADCASTQ with W
    ++ element (evex 0x58 VxWx 32 (Cross Broadcast)) ∷ in_memory T2 (evex 0x59 VxWx 32 (Cross Broadcast2))
    ∷ element (evex 0x59 VxWx 64 (Cross Broadcast))
    -- 5A, memory only: VBROADCASTI32X4, VBROADCASTI64X2; 5B, memory only: VBROADCASTI32X8, VBROADCASTI64X4
    ∷ part_of_128 (evex 0x5A VxMx 32 (Cross Broadcast4)) (evex 0x5A VxMx 64 (Cross Broadcast2))
    ++ part_of_256 (evex 0x5B VxMx 32 (Cross Broadcast8)) (evex 0x5B VxMx 64 (Cross Broadcast4)))

-- 62 to 7F
abbrev evex_38_62 : List Row
evex_38_62 = map p66 (
    -- 62, 63: VPEXPANDB and W, VPCOMPRESSB and W; 64, 66: VPBLENDMD and Q, VPBLENDMB and W
    by_w_of 8 16 (λ width. spread_out 0x62 width) ++ by_w_of 8 16 (λ width. closed_up 0x63 width)
    ++ both (λ width. blended 0x64 width) ++ by_w_of 8 16 (λ width. blended 0x66 width)
    -- 70, 71: VPSHLDVW with W, VPSHLDVD and Q; 72, 73: VPSHRDVW with W, VPSHRDVD and Q
    ++ with_w (lanes 0x70 16 (Mac Vpshldv)) ∷ both (λ width. lanes 0x71 width (Mac Vpshldv))
    ++ with_w (lanes 0x72 16 (Mac Vpshrdv)) ∷ both (λ width. lanes 0x73 width (Mac Vpshrdv))
    -- 75, 76, 77: VPERMI2B and W, VPERMI2D and Q, VPERMI2PS and VPERMI2PD
    ++ by_w_of 8 16 (λ width. shuffled 0x75 width (Cross Vpermi2)) ++ both (λ width. shuffled 0x76 width (Cross Vpermi2))
    ++ both (λ width. shuffled 0x77 width (Cross Vpermi2))
    -- 78, 79 without W: VPBROADCASTB, VPBROADCASTW Vx,Wx
    ++ without_w (element (evex 0x78 VxWx 8 (Cross Broadcast))) ∷ without_w (element (evex 0x79 VxWx 16 (Cross Broadcast)))
    -- 7A, 7B without W, and 7C, registers only: VPBROADCASTB, VPBROADCASTW, VPBROADCASTD and Q Vx,Ry
    ∷ without_w (of_registers (evex 0x7A VxRv 8 (Cross Broadcast))) ∷ without_w (of_registers (evex 0x7B VxRv 16 (Cross Broadcast)))
    ∷ both (λ width. of_registers (evex 0x7C VxRv width (Cross Broadcast)))
    -- 7D, 7E, 7F: VPERMT2B and W, VPERMT2D and Q, VPERMT2PS and VPERMT2PD
    ++ by_w_of 8 16 (λ width. shuffled 0x7D width (Cross Vpermt2)) ++ both (λ width. shuffled 0x7E width (Cross Vpermt2))
    ++ both (λ width. shuffled 0x7F width (Cross Vpermt2)))

-- 83 to C4
abbrev evex_38_83 : List Row
evex_38_83 = map p66 (
    -- 83 with W: VPMULTISHIFTQB, with broadcast of 64 bits; 89, 8B: VPEXPANDD and Q, VPCOMPRESSD and Q; 8D: VPERMB and W
    with_w (in_memory Full (shuffled 0x83 8 (Mac Vpmultishiftqb))) ∷ both (λ width. spread_out 0x89 width)
    ++ both (λ width. closed_up 0x8B width) ++ by_w_of 8 16 (λ width. shuffled 0x8D width (Cross Vperm))
    -- 8F without W: VPSHUFBITQMB Kx,Hx,Wx; B4, B5: VPMADD52LUQ, VPMADD52HUQ; C4: VPCONFLICTD and Q
    ++ without_w (read_whole (compared 0x8F 8 (Mac Vpshufbitqmb))) ∷ lanes 0xB4 64 (Mac Vpmadd52lu) ∷ lanes 0xB5 64 (Mac Vpmadd52hu)
    ∷ both (λ width. read_whole (evex 0xC4 VxWx width (Mac Vpconflict))))

unfoldable pub evex_0f38 : List Row
evex_0f38 = evex_38_00 ++ evex_38_18 ++ evex_38_20 ++ evex_38_30 ++ evex_38_40 ++ evex_38_62 ++ evex_38_83

-- ---- the map of 0F3A (table A-5), all with 66 and by Ib
-- 00 to 25
abbrev evex_3a_00 : List Row
evex_3a_00 = map p66 (
    -- 00, 01, from 256 bits on: VPERMQ, VPERMPD; 03: VALIGND and Q; 04, 05: VPERMILPS, VPERMILPD; 0F: VPALIGNR
    from_256 (one_shuffled_by 0x00 64 (Cross Vpermq)) ∷ from_256 (one_shuffled_by 0x01 64 (Cross Vpermpd))
    ∷ both (λ width. shuffled_by 0x03 width (Cross Valign)) ++ one_shuffled_by 0x04 32 (Cross VpermilpIb)
    ∷ one_shuffled_by 0x05 64 (Cross VpermilpIb) ∷ shuffled_by 0x0F 8 (Cross Palignr)
    -- 14, 15, 16: VPEXTRB, VPEXTRW, VPEXTRD and Q Ey,Vx,Ib
    ∷ element_moved 0x14 EvVxIb 8 (Cross Pextr) ∷ element_moved 0x15 EvVxIb 16 (Cross Pextr)
    ∷ both (λ width. element_moved 0x16 EvVxIb width (Cross Pextr))
    -- 18, 19: VINSERTF32X4 and VINSERTF64X2, VEXTRACTF32X4 and VEXTRACTF64X2
    ++ part_of_128 (shuffled_by 0x18 32 (Cross Insert128)) (shuffled_by 0x18 64 (Cross Insert128))
    ++ part_of_128 (evex 0x19 WxVxIb 32 (Cross Extract128)) (evex 0x19 WxVxIb 64 (Cross Extract128))
    -- 1A, 1B: VINSERTF32X8 and VINSERTF64X4, VEXTRACTF32X8 and VEXTRACTF64X4
    ++ part_of_256 (shuffled_by 0x1A 32 (Cross Insert256)) (shuffled_by 0x1A 64 (Cross Insert256))
    ++ part_of_256 (evex 0x1B WxVxIb 32 (Cross Extract256)) (evex 0x1B WxVxIb 64 (Cross Extract256))
    -- 1E, 1F: VPCMPUD and Q, VPCMPD and Q; 20, 22: VPINSRB, VPINSRD and Q Vx,Hx,Ey,Ib
    ++ both (λ width. compared_by 0x1E width (Lane Vpcmpu)) ++ both (λ width. compared_by 0x1F width (Lane Vpcmp))
    ++ element_moved 0x20 VxHxEvIb 8 (Cross Pinsr) ∷ both (λ width. element_moved 0x22 VxHxEvIb width (Cross Pinsr))
    -- 23, from 256 bits on: VSHUFF32X4 and VSHUFF64X2; 25: VPTERNLOGD and Q
    ++ both (λ width. from_256 (shuffled_by 0x23 width (Cross Vshuf))) ++ both (λ width. lanes_by 0x25 width (Lane Vpternlog)))

-- 38 to 73
abbrev evex_3a_38 : List Row
evex_3a_38 = map p66 (
    -- 38, 39: VINSERTI32X4 and VINSERTI64X2, VEXTRACTI32X4 and VEXTRACTI64X2
    part_of_128 (shuffled_by 0x38 32 (Cross Insert128)) (shuffled_by 0x38 64 (Cross Insert128))
    ++ part_of_128 (evex 0x39 WxVxIb 32 (Cross Extract128)) (evex 0x39 WxVxIb 64 (Cross Extract128))
    -- 3A, 3B: VINSERTI32X8 and VINSERTI64X4, VEXTRACTI32X8 and VEXTRACTI64X4
    ++ part_of_256 (shuffled_by 0x3A 32 (Cross Insert256)) (shuffled_by 0x3A 64 (Cross Insert256))
    ++ part_of_256 (evex 0x3B WxVxIb 32 (Cross Extract256)) (evex 0x3B WxVxIb 64 (Cross Extract256))
    -- 3E, 3F: VPCMPUB and W, VPCMPB and W; 42 without W: VDBPSADBW; 43, from 256 bits on: VSHUFI32X4 and VSHUFI64X2
    ++ by_w_of 8 16 (λ width. compared_by 0x3E width (Lane Vpcmpu)) ++ by_w_of 8 16 (λ width. compared_by 0x3F width (Lane Vpcmp))
    ++ without_w (shuffled_by 0x42 16 (Mac Vdbpsadbw)) ∷ both (λ width. from_256 (shuffled_by 0x43 width (Cross Vshuf)))
    -- 70, 71: VPSHLDW with W, VPSHLDD and Q; 72, 73: VPSHRDW with W, VPSHRDD and Q
    ++ with_w (lanes_by 0x70 16 (Mac Vpshld)) ∷ both (λ width. lanes_by 0x71 width (Mac Vpshld))
    ++ with_w (lanes_by 0x72 16 (Mac Vpshrd)) ∷ both (λ width. lanes_by 0x73 width (Mac Vpshrd)))

unfoldable pub evex_0f3a : List Row
evex_0f3a = evex_3a_00 ++ evex_3a_38

-- the rows of EVEX
unfoldable pub evex_rows : List Row
evex_rows = in_map 1 evex_0f ++ in_map 2 evex_0f38 ++ in_map 3 evex_0f3a
