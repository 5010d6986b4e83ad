-- The vector instructions that have rows both of the legacy class, as SSE, and of VEX, as AVX, in the order of the SDM's opcode maps
-- (Intel SDM volume 2, appendix A.3): a comment gives what a line of the map says, and the term below it the rows. Where a comment
-- names two sources, the first is the destination itself in SSE, and in vvvv in AVX.
use Rattle.std.specs.Prelude.{List, [], ◌∷◌, ◌++◌, map}
use Rattle.row_table.specs.declared.kinds.Operands.TheVariants.{VxWx, WxVx, VxMx, MxVx, VxHxMx, VxUx, UxVx, VxHxUx, UxHxVx, VxUxIb, VxHxUxIb, VxMxIb, VxHxMxIb, VxEv, EvVx, GvUx, GvUxIb}
use Rattle.row_table.specs.declared.kinds.Row.{Row}
use Rattle.row_table.specs.declared.operations.Op.TheVariants.{Lane, Cross, Width, Mac, Vector}
use Rattle.row_table.specs.declared.operations.LaneOp.TheVariants.{Padd, Psub, Padds, Paddus, Psubs, Psubus, Pavg, Pminu, Pmaxu, Pmins, Pmaxs, Pand, Pandn, Por, Pxor, Psign, Pabs, Pcmpeq, Pcmpgt, Psrl, Psra, Psll, Andp, Andnp, Orp, Xorp, Movdqa, Movdqu, Movap, Movup, Movntp, Movntdq, Movntdqa, Lddqu, Movd, Movq, Movss, MovssLoad, Movsd, MovsdLoad, Movlp, Movhp, MovhpStore, Movhlps, Movlhps, Movddup, Movsldup, Movshdup}
use Rattle.row_table.specs.declared.operations.CrossOp.TheVariants.{Punpckl, Punpckh, Packss, Packus, Pshufb, Pshufd, Pshufhw, Pshuflw, Palignr, Shuf, Unpckl, Unpckh, Pblend, Blendp, Pextr, Insertps, InsertpsLoad, Extractps, Psrldq, Pslldq}
use Rattle.row_table.specs.declared.operations.WidthOp.TheVariants.{Pmovsxb, Pmovsxw, Pmovsxd, Pmovzxb, Pmovzxw, Pmovzxd}
use Rattle.row_table.specs.declared.operations.MacOp.TheVariants.{Pmull, Pmulh, Pmulhu, Pmuludq, Pmuldq, Pmulhrs, Phadd, Phadds, Phsub, Phsubs, Phminposu, Pmaddwd, Psadbw, Pmaddubsw, Mpsadbw}
use Rattle.row_table.specs.declared.operations.VectorOp.TheVariants.{Ptest, Pmovmskb, Movmskp}
use Rattle.row_table.specs.Lines.{digit, np, p66, pf3, pf2, by_w}
use Rattle.row_table.specs.VectorLines.{Coding, Sse, Avx, coded, vector, two_sources, one_source, two_sources_by, one_source_by, by_count, by_number, to_its_size, element, read_whole, of_128, of_256, whatever_length, by_float, element_by_float, widening, lane_inserted, lane_extracted}

-- ---- the map of 0F (table A-3)
-- F2 12: MOVDDUP, of 128 bits from memory of 64 bits
abbrev movddup : Coding → List Row
movddup Sse = pf2 (element (vector Sse 0x12 VxWx 64 (Lane Movddup))) ∷ []
movddup Avx =
    pf2 (of_128 (element (vector Avx 0x12 VxWx 64 (Lane Movddup)))) ∷ pf2 (of_256 (vector Avx 0x12 VxWx 64 (Lane Movddup))) ∷ []

-- 10 to 17
abbrev pub simd_10 : Coding → List Row
simd_10 c =
    -- NP 10, 66 10: MOVUPS, MOVUPD Vx,Wx
    by_float (λ width. vector c 0x10 VxWx width (Lane Movup))
    -- F3 10, F2 10: MOVSS, MOVSD from memory; of registers, the low element of the second source over the first
    ++ pf3 (element (whatever_length c (vector c 0x10 VxMx 32 (Lane MovssLoad))))
    ∷ pf3 (whatever_length c (vector c 0x10 (coded c VxUx VxHxUx) 32 (Lane Movss)))
    ∷ pf2 (element (whatever_length c (vector c 0x10 VxMx 64 (Lane MovsdLoad))))
    ∷ pf2 (whatever_length c (vector c 0x10 (coded c VxUx VxHxUx) 64 (Lane Movsd))) ∷ []
    -- NP 11, 66 11: MOVUPS, MOVUPD Wx,Vx
    ++ by_float (λ width. vector c 0x11 WxVx width (Lane Movup))
    -- F3 11, F2 11: MOVSS, MOVSD to memory; of registers as 10, with the destination in ModRM.r/m
    ++ pf3 (element (whatever_length c (vector c 0x11 MxVx 32 (Lane Movss))))
    ∷ pf3 (whatever_length c (vector c 0x11 (coded c UxVx UxHxVx) 32 (Lane Movss)))
    ∷ pf2 (element (whatever_length c (vector c 0x11 MxVx 64 (Lane Movsd))))
    ∷ pf2 (whatever_length c (vector c 0x11 (coded c UxVx UxHxVx) 64 (Lane Movsd))) ∷ []
    -- NP 12, 66 12, memory only: MOVLPS, MOVLPD from memory, with the first source; NP 12 of registers: MOVHLPS
    ++ element_by_float (vector c 0x12 (coded c VxMx VxHxMx) 64 (Lane Movlp))
    ++ np (of_128 (vector c 0x12 (coded c VxUx VxHxUx) 64 (Lane Movhlps))) ∷ []
    -- F3 12, F2 12: MOVSLDUP, MOVDDUP
    ++ pf3 (one_source c 0x12 32 (Lane Movsldup)) ∷ movddup c
    -- NP 13, 66 13, memory only: MOVLPS, MOVLPD to memory
    ++ element_by_float (vector c 0x13 MxVx 64 (Lane Movlp))
    -- NP 14, 66 14; NP 15, 66 15: UNPCKLPS, UNPCKLPD; UNPCKHPS, UNPCKHPD
    ++ by_float (λ width. two_sources c 0x14 width (Cross Unpckl)) ++ by_float (λ width. two_sources c 0x15 width (Cross Unpckh))
    -- NP 16, 66 16, memory only: MOVHPS, MOVHPD from memory, with the first source; NP 16 of registers: MOVLHPS
    ++ element_by_float (vector c 0x16 (coded c VxMx VxHxMx) 64 (Lane Movhp))
    ++ np (of_128 (vector c 0x16 (coded c VxUx VxHxUx) 64 (Lane Movlhps))) ∷ []
    -- F3 16: MOVSHDUP
    ++ pf3 (one_source c 0x16 32 (Lane Movshdup)) ∷ []
    -- NP 17, 66 17, memory only: MOVHPS, MOVHPD to memory
    ++ element_by_float (vector c 0x17 MxVx 64 (Lane MovhpStore))

-- 28 to 2B
abbrev pub simd_28 : Coding → List Row
simd_28 c =
    -- NP 28, 66 28; NP 29, 66 29: MOVAPS, MOVAPD Vx,Wx; Wx,Vx
    by_float (λ width. to_its_size (vector c 0x28 VxWx width (Lane Movap)))
    ++ by_float (λ width. to_its_size (vector c 0x29 WxVx width (Lane Movap)))
    -- NP 2B, 66 2B, memory only: MOVNTPS, MOVNTPD
    ++ by_float (λ width. to_its_size (vector c 0x2B MxVx width (Lane Movntp)))

-- 50 to 57
abbrev pub simd_50 : Coding → List Row
simd_50 c =
    -- NP 50, 66 50, registers only: MOVMSKPS, MOVMSKPD
    by_float (λ width. vector c 0x50 GvUx width (Vector Movmskp))
    -- NP 54 to 57, 66 54 to 57: ANDPS, ANDNPS, ORPS, XORPS, and of PD
    ++ by_float (λ width. two_sources c 0x54 width (Lane Andp)) ++ by_float (λ width. two_sources c 0x55 width (Lane Andnp))
    ++ by_float (λ width. two_sources c 0x56 width (Lane Orp)) ++ by_float (λ width. two_sources c 0x57 width (Lane Xorp))

-- 60 to 6F
abbrev pub simd_60 : Coding → List Row
simd_60 c =
    -- 66 60 to 63: PUNPCKLBW, PUNPCKLWD, PUNPCKLDQ, PACKSSWB
    p66 (two_sources c 0x60 8 (Cross Punpckl)) ∷ p66 (two_sources c 0x61 16 (Cross Punpckl))
    ∷ p66 (two_sources c 0x62 32 (Cross Punpckl)) ∷ p66 (two_sources c 0x63 8 (Cross Packss))
    -- 66 64 to 67: PCMPGTB, PCMPGTW, PCMPGTD, PACKUSWB
    ∷ p66 (two_sources c 0x64 8 (Lane Pcmpgt)) ∷ p66 (two_sources c 0x65 16 (Lane Pcmpgt))
    ∷ p66 (two_sources c 0x66 32 (Lane Pcmpgt)) ∷ p66 (two_sources c 0x67 8 (Cross Packus))
    -- 66 68 to 6B: PUNPCKHBW, PUNPCKHWD, PUNPCKHDQ, PACKSSDW
    ∷ p66 (two_sources c 0x68 8 (Cross Punpckh)) ∷ p66 (two_sources c 0x69 16 (Cross Punpckh))
    ∷ p66 (two_sources c 0x6A 32 (Cross Punpckh)) ∷ p66 (two_sources c 0x6B 16 (Cross Packss))
    -- 66 6C, 6D: PUNPCKLQDQ, PUNPCKHQDQ
    ∷ p66 (two_sources c 0x6C 64 (Cross Punpckl)) ∷ p66 (two_sources c 0x6D 64 (Cross Punpckh)) ∷ []
    -- 66 6E: MOVD, and with W MOVQ, Vx,Ey
    ++ by_w (p66 (of_128 (element (vector c 0x6E VxEv 32 (Lane Movd)))))
    -- 66 6F, F3 6F: MOVDQA, MOVDQU Vx,Wx
    ++ p66 (to_its_size (vector c 0x6F VxWx 32 (Lane Movdqa))) ∷ pf3 (vector c 0x6F VxWx 32 (Lane Movdqu)) ∷ []

-- 70 to 76
abbrev pub simd_70 : Coding → List Row
simd_70 c =
    -- 66 70, F3 70, F2 70: PSHUFD, PSHUFHW, PSHUFLW Vx,Wx,Ib
    p66 (one_source_by c 0x70 32 (Cross Pshufd)) ∷ pf3 (one_source_by c 0x70 16 (Cross Pshufhw))
    ∷ pf2 (one_source_by c 0x70 16 (Cross Pshuflw))
    -- 66 71 /2, /4, /6, registers only: group 12, PSRLW, PSRAW, PSLLW by Ib
    ∷ p66 (digit 2 (by_number c 0x71 16 (Lane Psrl))) ∷ p66 (digit 4 (by_number c 0x71 16 (Lane Psra)))
    ∷ p66 (digit 6 (by_number c 0x71 16 (Lane Psll)))
    -- 66 72 /2, /4, /6, registers only: group 13, PSRLD, PSRAD, PSLLD by Ib
    ∷ p66 (digit 2 (by_number c 0x72 32 (Lane Psrl))) ∷ p66 (digit 4 (by_number c 0x72 32 (Lane Psra)))
    ∷ p66 (digit 6 (by_number c 0x72 32 (Lane Psll)))
    -- 66 73 /2, /3, /6, /7, registers only: group 14, PSRLQ, PSRLDQ, PSLLQ, PSLLDQ by Ib
    ∷ p66 (digit 2 (by_number c 0x73 64 (Lane Psrl))) ∷ p66 (digit 3 (by_number c 0x73 8 (Cross Psrldq)))
    ∷ p66 (digit 6 (by_number c 0x73 64 (Lane Psll))) ∷ p66 (digit 7 (by_number c 0x73 8 (Cross Pslldq)))
    -- 66 74, 75, 76: PCMPEQB, PCMPEQW, PCMPEQD
    ∷ p66 (two_sources c 0x74 8 (Lane Pcmpeq)) ∷ p66 (two_sources c 0x75 16 (Lane Pcmpeq))
    ∷ p66 (two_sources c 0x76 32 (Lane Pcmpeq)) ∷ []

-- 7E, 7F
abbrev pub simd_7e : Coding → List Row
simd_7e c =
    -- 66 7E: MOVD, and with W MOVQ, Ey,Vx
    by_w (p66 (of_128 (element (vector c 0x7E EvVx 32 (Lane Movd)))))
    -- F3 7E: MOVQ Vx,Wx of 64 bits
    ++ pf3 (of_128 (element (vector c 0x7E VxWx 64 (Lane Movq))))
    -- 66 7F, F3 7F: MOVDQA, MOVDQU Wx,Vx
    ∷ p66 (to_its_size (vector c 0x7F WxVx 32 (Lane Movdqa))) ∷ pf3 (vector c 0x7F WxVx 32 (Lane Movdqu)) ∷ []

-- C4 to C6
abbrev pub simd_c4 : Coding → List Row
simd_c4 c =
    -- 66 C4: PINSRW Vx,Ey,Ib; 66 C5, registers only: PEXTRW Gy,Ux,Ib; NP C6, 66 C6: SHUFPS, SHUFPD by Ib
    p66 (lane_inserted c 0xC4 16) ∷ p66 (of_128 (vector c 0xC5 GvUxIb 16 (Cross Pextr)))
    ∷ by_float (λ width. two_sources_by c 0xC6 width (Cross Shuf))

-- D1 to DF
abbrev pub simd_d1 : Coding → List Row
simd_d1 c =
    -- 66 D1, D2, D3: PSRLW, PSRLD, PSRLQ
    p66 (by_count c 0xD1 16 (Lane Psrl)) ∷ p66 (by_count c 0xD2 32 (Lane Psrl)) ∷ p66 (by_count c 0xD3 64 (Lane Psrl))
    -- 66 D4, D5: PADDQ, PMULLW; 66 D6: MOVQ Wx,Vx of 64 bits; 66 D7, registers only: PMOVMSKB
    ∷ p66 (two_sources c 0xD4 64 (Lane Padd)) ∷ p66 (two_sources c 0xD5 16 (Mac Pmull))
    ∷ p66 (of_128 (element (vector c 0xD6 WxVx 64 (Lane Movq))))
    ∷ p66 (vector c 0xD7 GvUx 8 (Vector Pmovmskb))
    -- 66 D8 to DB: PSUBUSB, PSUBUSW, PMINUB, PAND
    ∷ p66 (two_sources c 0xD8 8 (Lane Psubus)) ∷ p66 (two_sources c 0xD9 16 (Lane Psubus))
    ∷ p66 (two_sources c 0xDA 8 (Lane Pminu)) ∷ p66 (two_sources c 0xDB 32 (Lane Pand))
    -- 66 DC to DF: PADDUSB, PADDUSW, PMAXUB, PANDN
    ∷ p66 (two_sources c 0xDC 8 (Lane Paddus)) ∷ p66 (two_sources c 0xDD 16 (Lane Paddus))
    ∷ p66 (two_sources c 0xDE 8 (Lane Pmaxu)) ∷ p66 (two_sources c 0xDF 32 (Lane Pandn)) ∷ []

-- E0 to EF
abbrev pub simd_e0 : Coding → List Row
simd_e0 c =
    -- 66 E0 to E3: PAVGB, PSRAW, PSRAD, PAVGW
    p66 (two_sources c 0xE0 8 (Lane Pavg)) ∷ p66 (by_count c 0xE1 16 (Lane Psra))
    ∷ p66 (by_count c 0xE2 32 (Lane Psra)) ∷ p66 (two_sources c 0xE3 16 (Lane Pavg))
    -- 66 E4, E5: PMULHUW, PMULHW; 66 E7, memory only: MOVNTDQ
    ∷ p66 (two_sources c 0xE4 16 (Mac Pmulhu)) ∷ p66 (two_sources c 0xE5 16 (Mac Pmulh))
    ∷ p66 (to_its_size (vector c 0xE7 MxVx 32 (Lane Movntdq)))
    -- 66 E8 to EB: PSUBSB, PSUBSW, PMINSW, POR
    ∷ p66 (two_sources c 0xE8 8 (Lane Psubs)) ∷ p66 (two_sources c 0xE9 16 (Lane Psubs))
    ∷ p66 (two_sources c 0xEA 16 (Lane Pmins)) ∷ p66 (two_sources c 0xEB 32 (Lane Por))
    -- 66 EC to EF: PADDSB, PADDSW, PMAXSW, PXOR
    ∷ p66 (two_sources c 0xEC 8 (Lane Padds)) ∷ p66 (two_sources c 0xED 16 (Lane Padds))
    ∷ p66 (two_sources c 0xEE 16 (Lane Pmaxs)) ∷ p66 (two_sources c 0xEF 32 (Lane Pxor)) ∷ []

-- F0 to FE
abbrev pub simd_f0 : Coding → List Row
simd_f0 c =
    -- F2 F0, memory only: LDDQU
    pf2 (vector c 0xF0 VxMx 32 (Lane Lddqu))
    -- 66 F1, F2, F3: PSLLW, PSLLD, PSLLQ
    ∷ p66 (by_count c 0xF1 16 (Lane Psll)) ∷ p66 (by_count c 0xF2 32 (Lane Psll)) ∷ p66 (by_count c 0xF3 64 (Lane Psll))
    -- 66 F4, F5, F6: PMULUDQ, PMADDWD, PSADBW
    ∷ p66 (two_sources c 0xF4 64 (Mac Pmuludq)) ∷ p66 (read_whole (two_sources c 0xF5 32 (Mac Pmaddwd)))
    ∷ p66 (read_whole (two_sources c 0xF6 64 (Mac Psadbw)))
    -- 66 F8 to FB: PSUBB, PSUBW, PSUBD, PSUBQ
    ∷ p66 (two_sources c 0xF8 8 (Lane Psub)) ∷ p66 (two_sources c 0xF9 16 (Lane Psub))
    ∷ p66 (two_sources c 0xFA 32 (Lane Psub)) ∷ p66 (two_sources c 0xFB 64 (Lane Psub))
    -- 66 FC, FD, FE: PADDB, PADDW, PADDD
    ∷ p66 (two_sources c 0xFC 8 (Lane Padd)) ∷ p66 (two_sources c 0xFD 16 (Lane Padd))
    ∷ p66 (two_sources c 0xFE 32 (Lane Padd)) ∷ []

-- ---- the map of 0F38 (table A-4), all with 66
-- 00 to 0B
abbrev pub simd_38_00 : Coding → List Row
simd_38_00 c = map p66 (
    -- 00 to 03: PSHUFB, PHADDW, PHADDD, PHADDSW
    two_sources c 0x00 8 (Cross Pshufb) ∷ two_sources c 0x01 16 (Mac Phadd) ∷ two_sources c 0x02 32 (Mac Phadd)
    ∷ two_sources c 0x03 16 (Mac Phadds)
    -- 04 to 07: PMADDUBSW, PHSUBW, PHSUBD, PHSUBSW
    ∷ read_whole (two_sources c 0x04 16 (Mac Pmaddubsw)) ∷ two_sources c 0x05 16 (Mac Phsub) ∷ two_sources c 0x06 32 (Mac Phsub)
    ∷ two_sources c 0x07 16 (Mac Phsubs)
    -- 08, 09, 0A: PSIGNB, PSIGNW, PSIGND; 0B: PMULHRSW
    ∷ two_sources c 0x08 8 (Lane Psign) ∷ two_sources c 0x09 16 (Lane Psign) ∷ two_sources c 0x0A 32 (Lane Psign)
    ∷ two_sources c 0x0B 16 (Mac Pmulhrs) ∷ [])

-- 17: PTEST
abbrev pub simd_38_17 : Coding → List Row
simd_38_17 c = p66 (one_source c 0x17 64 (Vector Ptest)) ∷ []

-- 1C to 2B
abbrev pub simd_38_1c : Coding → List Row
simd_38_1c c = map p66 (
    -- 1C, 1D, 1E: PABSB, PABSW, PABSD
    one_source c 0x1C 8 (Lane Pabs) ∷ one_source c 0x1D 16 (Lane Pabs) ∷ one_source c 0x1E 32 (Lane Pabs)
    -- 20 to 25: PMOVSXBW, PMOVSXBD, PMOVSXBQ, PMOVSXWD, PMOVSXWQ, PMOVSXDQ
    ∷ widening c 0x20 (Width Pmovsxb) (Width Pmovsxw) (Width Pmovsxd)
    -- 28: PMULDQ; 29: PCMPEQQ; 2A, memory only: MOVNTDQA; 2B: PACKUSDW
    ++ two_sources c 0x28 64 (Mac Pmuldq) ∷ two_sources c 0x29 64 (Lane Pcmpeq)
    ∷ to_its_size (vector c 0x2A VxMx 32 (Lane Movntdqa)) ∷ two_sources c 0x2B 16 (Cross Packus) ∷ [])

-- 30 to 35: PMOVZXBW, PMOVZXBD, PMOVZXBQ, PMOVZXWD, PMOVZXWQ, PMOVZXDQ
abbrev pub simd_38_30 : Coding → List Row
simd_38_30 c = map p66 (widening c 0x30 (Width Pmovzxb) (Width Pmovzxw) (Width Pmovzxd))

-- 37 to 41
abbrev pub simd_38_37 : Coding → List Row
simd_38_37 c = map p66 (
    -- 37: PCMPGTQ
    two_sources c 0x37 64 (Lane Pcmpgt)
    -- 38 to 3B: PMINSB, PMINSD, PMINUW, PMINUD
    ∷ two_sources c 0x38 8 (Lane Pmins) ∷ two_sources c 0x39 32 (Lane Pmins)
    ∷ two_sources c 0x3A 16 (Lane Pminu) ∷ two_sources c 0x3B 32 (Lane Pminu)
    -- 3C to 3F: PMAXSB, PMAXSD, PMAXUW, PMAXUD
    ∷ two_sources c 0x3C 8 (Lane Pmaxs) ∷ two_sources c 0x3D 32 (Lane Pmaxs)
    ∷ two_sources c 0x3E 16 (Lane Pmaxu) ∷ two_sources c 0x3F 32 (Lane Pmaxu)
    -- 40: PMULLD; 41: PHMINPOSUW, of 128 bits
    ∷ two_sources c 0x40 32 (Mac Pmull) ∷ of_128 (one_source c 0x41 16 (Mac Phminposu)) ∷ [])

-- ---- the map of 0F3A (table A-5), all with 66 and by Ib
-- 0C to 17
abbrev pub simd_3a_0c : Coding → List Row
simd_3a_0c c = map p66 (
    -- 0C to 0F: BLENDPS, BLENDPD, PBLENDW, PALIGNR
    two_sources_by c 0x0C 32 (Cross Blendp) ∷ two_sources_by c 0x0D 64 (Cross Blendp)
    ∷ two_sources_by c 0x0E 16 (Cross Pblend) ∷ two_sources_by c 0x0F 8 (Cross Palignr)
    -- 14, 15, 16, 17: PEXTRB, PEXTRW, PEXTRD and with W PEXTRQ, EXTRACTPS Ey,Vx,Ib
    ∷ lane_extracted c 0x14 8 (Cross Pextr) ∷ lane_extracted c 0x15 16 (Cross Pextr)
    ∷ by_w (lane_extracted c 0x16 32 (Cross Pextr)) ++ lane_extracted c 0x17 32 (Cross Extractps) ∷ [])

-- 20 to 22
abbrev pub simd_3a_20 : Coding → List Row
simd_3a_20 c = map p66 (
    -- 20: PINSRB Vx,Ey,Ib; 21: INSERTPS of registers, and from memory
    lane_inserted c 0x20 8 ∷ of_128 (vector c 0x21 (coded c VxUxIb VxHxUxIb) 32 (Cross Insertps))
    ∷ of_128 (element (vector c 0x21 (coded c VxMxIb VxHxMxIb) 32 (Cross InsertpsLoad)))
    -- 22: PINSRD, and with W PINSRQ
    ∷ by_w (lane_inserted c 0x22 32))

-- 42: MPSADBW
abbrev pub simd_3a_42 : Coding → List Row
simd_3a_42 c = p66 (two_sources_by c 0x42 16 (Mac Mpsadbw)) ∷ []
