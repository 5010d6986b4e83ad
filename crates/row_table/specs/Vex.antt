-- The instructions of VEX, in the order of the SDM's opcode maps (Intel SDM volume 2, appendix A.3), by map and opcode: a comment
-- gives what a line of the map says, and the term below it the rows. Where it names no vectors, L is 0 unless it says otherwise.
use Rattle.std.specs.Prelude.{List, [], ◌∷◌, ◌++◌}
use Rattle.row_table.specs.declared.kinds.Operands.TheVariants.{Implied, M, GyByEy, GyEyBy, ByEy, GyEyIb, VxHxWx, KxKx, KxKxKx, KxKxIb, KxKm, MxKx, KxRv, GvKx}
use Rattle.row_table.specs.declared.kinds.Row.{Row}
use Rattle.row_table.specs.declared.operations.Op.TheVariants.{Core, Gpr, Bit, Lane, Cross}
use Rattle.row_table.specs.declared.operations.CoreOp.TheVariants.{Ldmxcsr, Stmxcsr, Vzeroupper, Vzeroall}
use Rattle.row_table.specs.declared.operations.GprOp.TheVariants.{Mulx}
use Rattle.row_table.specs.declared.operations.BitOp.TheVariants.{Andn, Blsr, Blsmsk, Blsi, Bzhi, Pext, Pdep, Bextr, Shlx, Sarx, Shrx, Rorx}
use Rattle.row_table.specs.declared.operations.LaneOp.TheVariants.{Vpsrlv, Vpsrav, Vpsllv, Vpmaskmov, Vmaskmov}
use Rattle.row_table.specs.declared.operations.CrossOp.TheVariants.{Vperm, Vpermp, Vpermq, Vpermpd, Vpermilp, VpermilpIb, Vperm2f128, Vperm2i128, Vpblend, Pblendv, Blendvp}
use Rattle.row_table.specs.declared.operations.MaskOp.TheVariants.{Kand, Kandn, Kor, Kxnor, Kxor, Kadd, Kunpck, Knot, Kmov, Kortest, Ktest, Kshiftr, Kshiftl}
use Rattle.row_table.specs.Lines.{vex, digit, without_w, with_w, np, p66, pf3, pf2, by_w, by_w_of, in_map}
use Rattle.row_table.specs.OpmaskLines.{opmask, with_l, by_mark, by_general_mark}
use Rattle.row_table.specs.VectorLines.{Avx, vector, two_sources, two_sources_by, one_source_by, two_sources_by_signs, of_128, of_256, loaded_by_signs, stored_by_signs, lane_broadcast, part_broadcast, part_inserted, part_extracted}
use Rattle.row_table.specs.Simd.{simd_10, simd_28, simd_50, simd_60, simd_70, simd_7e, simd_c4, simd_d1, simd_e0, simd_f0, simd_38_00, simd_38_17, simd_38_1c, simd_38_30, simd_38_37, simd_3a_0c, simd_3a_20, simd_3a_42}

-- the map of 0F (table A-3)
unfoldable pub vex_0f : List Row
vex_0f =
    -- 10 to 2B: those that are vector instructions of the legacy class, too
    simd_10 Avx ++ simd_28 Avx
    -- 41, 42 with L: KAND, KANDN Kx,Kx,Kx; 44: KNOT Kx,Kx
    ++ by_mark (λ width. with_l (opmask 0x41 KxKxKx Kand width)) ++ by_mark (λ width. with_l (opmask 0x42 KxKxKx Kandn width))
    ++ by_mark (λ width. opmask 0x44 KxKx Knot width)
    -- 45, 46, 47, 4A with L: KOR, KXNOR, KXOR, KADD Kx,Kx,Kx
    ++ by_mark (λ width. with_l (opmask 0x45 KxKxKx Kor width)) ++ by_mark (λ width. with_l (opmask 0x46 KxKxKx Kxnor width))
    ++ by_mark (λ width. with_l (opmask 0x47 KxKxKx Kxor width)) ++ by_mark (λ width. with_l (opmask 0x4A KxKxKx Kadd width))
    -- 4B with L: KUNPCK, by the width of what it gives: NP 32 bits and with W 64, 66 16 bits
    ++ np (without_w (with_l (opmask 0x4B KxKxKx Kunpck 32))) ∷ np (with_w (with_l (opmask 0x4B KxKxKx Kunpck 64)))
    ∷ p66 (without_w (with_l (opmask 0x4B KxKxKx Kunpck 16))) ∷ []
    -- 50 to 76: those that are vector instructions of the legacy class, too
    ++ simd_50 Avx ++ simd_60 Avx ++ simd_70 Avx
    -- NP 77: VZEROUPPER of 128 bits, VZEROALL of 256
    ++ np (of_128 (vector Avx 0x77 Implied 64 (Core Vzeroupper))) ∷ np (of_256 (vector Avx 0x77 Implied 64 (Core Vzeroall))) ∷ []
    -- 7E, 7F: those that are vector instructions of the legacy class, too
    ++ simd_7e Avx
    -- 90: KMOV Kx,Kx or memory; 91: KMOV to memory; 92, 93: KMOV from and to a general register
    ++ by_mark (λ width. opmask 0x90 KxKm Kmov width) ++ by_mark (λ width. opmask 0x91 MxKx Kmov width)
    ++ by_general_mark (λ width. opmask 0x92 KxRv Kmov width) ++ by_general_mark (λ width. opmask 0x93 GvKx Kmov width)
    -- 98, 99: KORTEST, KTEST Kx,Kx
    ++ by_mark (λ width. opmask 0x98 KxKx Kortest width) ++ by_mark (λ width. opmask 0x99 KxKx Ktest width)
    -- NP AE /2, /3, memory only: VLDMXCSR and VSTMXCSR of 32 bits
    ++ np (digit 2 (vex 0xAE M (Core Ldmxcsr))) ∷ np (digit 3 (vex 0xAE M (Core Stmxcsr))) ∷ []
    -- C4 to FE: those that are vector instructions of the legacy class, too
    ++ simd_c4 Avx ++ simd_d1 Avx ++ simd_e0 Avx ++ simd_f0 Avx

-- the map of 0F38 (table A-4), where y is 32 bits, and 64 with W
unfoldable pub vex_0f38 : List Row
vex_0f38 =
    -- 00 to 0B: those that are vector instructions of the legacy class, too
    simd_38_00 Avx
    -- 66 0C, 0D, 16 without W: VPERMILPS, VPERMILPD, VPERMPS of 256 bits Vx,Hx,Wx
    ++ p66 (without_w (two_sources Avx 0x0C 32 (Cross Vpermilp))) ∷ p66 (without_w (two_sources Avx 0x0D 64 (Cross Vpermilp)))
    ∷ p66 (without_w (of_256 (two_sources Avx 0x16 32 (Cross Vpermp)))) ∷ []
    -- 17: that of the legacy class
    ++ simd_38_17 Avx
    -- 66 18, 19 without W: VBROADCASTSS, VBROADCASTSD to 256 bits Vx,Wx; 1A, memory only: VBROADCASTF128 Vx,Mx
    ++ p66 (lane_broadcast 0x18 32) ∷ p66 (of_256 (lane_broadcast 0x19 64)) ∷ p66 (part_broadcast 0x1A) ∷ []
    -- 1C to 2B: those that are vector instructions of the legacy class, too
    ++ simd_38_1c Avx
    -- 66 2C, 2D without W, memory only: VMASKMOVPS, VMASKMOVPD Vx,Hx,Mx; 66 2E, 2F: Mx,Hx,Vx; the mask is in Hx
    ++ p66 (without_w (loaded_by_signs 0x2C 32 (Lane Vmaskmov))) ∷ p66 (without_w (loaded_by_signs 0x2D 64 (Lane Vmaskmov)))
    ∷ p66 (without_w (stored_by_signs 0x2E 32 (Lane Vmaskmov))) ∷ p66 (without_w (stored_by_signs 0x2F 64 (Lane Vmaskmov))) ∷ []
    -- 30 to 35: those of the legacy class; 66 36 without W: VPERMD of 256 bits Vx,Hx,Wx; 37 to 41: those of the legacy class
    ++ simd_38_30 Avx ++ p66 (without_w (of_256 (two_sources Avx 0x36 32 (Cross Vperm)))) ∷ simd_38_37 Avx
    -- 66 45, 46, 47: VPSRLVD and with W VPSRLVQ; VPSRAVD without W; VPSLLVD and with W VPSLLVQ Vx,Hx,Wx
    ++ by_w (p66 (vector Avx 0x45 VxHxWx 32 (Lane Vpsrlv)))
    ++ without_w (p66 (vector Avx 0x46 VxHxWx 32 (Lane Vpsrav))) ∷ []
    ++ by_w (p66 (vector Avx 0x47 VxHxWx 32 (Lane Vpsllv)))
    -- 66 58, 59 without W: VPBROADCASTD, VPBROADCASTQ Vx,Wx; 5A, memory only: VBROADCASTI128 Vx,Mx; 78, 79: VPBROADCASTB, VPBROADCASTW
    ++ p66 (lane_broadcast 0x58 32) ∷ p66 (lane_broadcast 0x59 64) ∷ p66 (part_broadcast 0x5A)
    ∷ p66 (lane_broadcast 0x78 8) ∷ p66 (lane_broadcast 0x79 16) ∷ []
    -- 66 8C, memory only: VPMASKMOVD and with W VPMASKMOVQ Vx,Hx,Mx; 66 8E: Mx,Hx,Vx; the mask is in Hx
    ++ by_w (p66 (loaded_by_signs 0x8C 32 (Lane Vpmaskmov))) ++ by_w (p66 (stored_by_signs 0x8E 32 (Lane Vpmaskmov)))
    -- NP F2: ANDN Gy,By,Ey
    ++ by_w (np (vex 0xF2 GyByEy (Bit Andn)))
    -- NP F3 /1, /2, /3: group 17, BLSR, BLSMSK, BLSI By,Ey
    ++ by_w (np (digit 1 (vex 0xF3 ByEy (Bit Blsr)))) ++ by_w (np (digit 2 (vex 0xF3 ByEy (Bit Blsmsk))))
    ++ by_w (np (digit 3 (vex 0xF3 ByEy (Bit Blsi))))
    -- NP F5, F3 F5, F2 F5: BZHI Gy,Ey,By; PEXT Gy,By,Ey; PDEP Gy,By,Ey
    ++ by_w (np (vex 0xF5 GyEyBy (Bit Bzhi))) ++ by_w (pf3 (vex 0xF5 GyByEy (Bit Pext)))
    ++ by_w (pf2 (vex 0xF5 GyByEy (Bit Pdep)))
    -- F2 F6: MULX Gy,By,Ey: the upper half of the product in Gy, the lower in By
    ++ by_w (pf2 (vex 0xF6 GyByEy (Gpr Mulx)))
    -- NP F7, 66 F7, F3 F7, F2 F7: BEXTR, SHLX, SARX, SHRX Gy,Ey,By
    ++ by_w (np (vex 0xF7 GyEyBy (Bit Bextr))) ++ by_w (p66 (vex 0xF7 GyEyBy (Bit Shlx)))
    ++ by_w (pf3 (vex 0xF7 GyEyBy (Bit Sarx))) ++ by_w (pf2 (vex 0xF7 GyEyBy (Bit Shrx)))

-- the map of 0F3A (table A-5)
unfoldable pub vex_0f3a : List Row
vex_0f3a =
    -- 66 00, 01 with W: VPERMQ, VPERMPD of 256 bits Vx,Wx,Ib; 66 02 without W: VPBLENDD Vx,Hx,Wx,Ib
    p66 (with_w (of_256 (one_source_by Avx 0x00 64 (Cross Vpermq)))) ∷ p66 (with_w (of_256 (one_source_by Avx 0x01 64 (Cross Vpermpd))))
    ∷ p66 (without_w (two_sources_by Avx 0x02 32 (Cross Vpblend)))
    -- 66 04, 05, 06 without W: VPERMILPS, VPERMILPD Vx,Wx,Ib; VPERM2F128 of 256 bits Vx,Hx,Wx,Ib
    ∷ p66 (without_w (one_source_by Avx 0x04 32 (Cross VpermilpIb))) ∷ p66 (without_w (one_source_by Avx 0x05 64 (Cross VpermilpIb)))
    ∷ p66 (without_w (of_256 (two_sources_by Avx 0x06 64 (Cross Vperm2f128)))) ∷ []
    -- 0C to 17: those that are vector instructions of the legacy class, too
    ++ simd_3a_0c Avx
    -- 66 18, 19 without W: VINSERTF128 Vx,Hx,Wx,Ib; VEXTRACTF128 Wx,Vx,Ib
    ++ p66 (part_inserted 0x18) ∷ p66 (part_extracted 0x19) ∷ []
    -- 20 to 22: those that are vector instructions of the legacy class, too
    ++ simd_3a_20 Avx
    -- 66 30, 31: KSHIFTRB and with W KSHIFTRW, KSHIFTRD and with W KSHIFTRQ Kx,Kx,Ib; 32, 33: KSHIFTL
    ++ by_w_of 8 16 (λ width. p66 (opmask 0x30 KxKxIb Kshiftr width)) ++ by_w_of 32 64 (λ width. p66 (opmask 0x31 KxKxIb Kshiftr width))
    ++ by_w_of 8 16 (λ width. p66 (opmask 0x32 KxKxIb Kshiftl width)) ++ by_w_of 32 64 (λ width. p66 (opmask 0x33 KxKxIb Kshiftl width))
    -- 66 38, 39 without W: VINSERTI128 Vx,Hx,Wx,Ib; VEXTRACTI128 Wx,Vx,Ib
    ++ p66 (part_inserted 0x38) ∷ p66 (part_extracted 0x39) ∷ []
    -- 42: that of the legacy class; 66 46 without W: VPERM2I128 of 256 bits Vx,Hx,Wx,Ib
    ++ simd_3a_42 Avx ++ p66 (without_w (of_256 (two_sources_by Avx 0x46 32 (Cross Vperm2i128))))
    -- 66 4A, 4B, 4C without W: VBLENDVPS, VBLENDVPD, VPBLENDVB Vx,Hx,Wx by the signs of Lx
    ∷ p66 (without_w (two_sources_by_signs Avx 0x4A 32 (Cross Blendvp)))
    ∷ p66 (without_w (two_sources_by_signs Avx 0x4B 64 (Cross Blendvp)))
    ∷ p66 (without_w (two_sources_by_signs Avx 0x4C 8 (Cross Pblendv))) ∷ []
    -- F2 F0: RORX Gy,Ey,Ib
    ++ by_w (pf2 (vex 0xF0 GyEyIb (Bit Rorx)))

-- the rows of VEX
unfoldable pub vex_rows : List Row
vex_rows = in_map 1 vex_0f ++ in_map 2 vex_0f38 ++ in_map 3 vex_0f3a
