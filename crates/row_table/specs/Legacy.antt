-- The legacy instructions, in the order of the SDM's opcode maps (Intel SDM volume 2, appendix A.3), by map and
-- opcode: a comment gives what a line of the map says, and the term below it the rows.
use Rattle.std.specs.Prelude.{List, [], ◌∷◌, ◌++◌, flat_map}
use Rattle.row_table.specs.declared.kinds.Operands.TheVariants.{Implied, OpcodeReg, RaxOpcodeReg, OpcodeRegIb, OpcodeRegIv, Ib, Iw, Iz, Jb, Jz, AlIb, RaxIz, AlOb, RaxOv, ObAl, OvRax, Eb, Ev, EbGb, EvGv, GbEb, GvEv, GvEb, GvEw, GvEd, EbIb, EvIb, EvIz, EbOne, EvOne, EbCl, EvCl, GvEvIb, GvEvIz, EvGvIb, EvGvCl, GvM, MvGv, M, R, ByteD0}
use Rattle.row_table.specs.declared.kinds.Row.{Row}
use Rattle.row_table.specs.declared.operations.Op.TheVariants.{Core, Gpr, Bit, String, Cross}
use Rattle.row_table.specs.declared.operations.CoreOp.TheVariants.{Mov, Movsxd, Movzx, Movsx, Movbe, Movnti, Lea, Xchg, Push, Pop, Pushf, Popf, Leave, Call, Ret, Jmp, Jcc, Loopne, Loope, Loop, Jrcxz, Cmovcc, Setcc, Cbw, Cwd, Bswap, Cmc, Clc, Stc, Cld, Std, Sahf, Lahf, Int3, Hlt, Syscall, Rdtsc, Cpuid, Nop, Xadd, Cmpxchg, Cmpxchg8b, Xgetbv, Ldmxcsr, Stmxcsr, Clflush}
use Rattle.row_table.specs.declared.operations.StringOp.TheVariants.{Movs, Cmps, Stos, Lods, Scas}
use Rattle.row_table.specs.declared.operations.GprOp.TheVariants.{Add, Or, Adc, Sbb, And, Sub, Xor, Cmp, Test, Imul, Inc, Dec, Adcx, Adox}
use Rattle.row_table.specs.declared.operations.BitOp.TheVariants.{Shld, Shrd, Bt, Bts, Btr, Btc, Popcnt, Bsf, Tzcnt, Bsr, Lzcnt}
use Rattle.row_table.specs.declared.operations.CrossOp.TheVariants.{Pblendv, Blendvp}
use Rattle.row_table.specs.Lines.{sized, byte, always, scalar, digit, without_w, with_w, np, p66, pf3, aligned, level_3, opcodes, registers, conditions, by_w, arithmetic, group_1, group_2, group_3, group_8, in_map}
use Rattle.row_table.specs.VectorLines.{Sse, two_sources_by_signs}
use Rattle.row_table.specs.Simd.{simd_10, simd_28, simd_50, simd_60, simd_70, simd_7e, simd_c4, simd_d1, simd_e0, simd_f0, simd_38_00, simd_38_17, simd_38_1c, simd_38_30, simd_38_37, simd_3a_0c, simd_3a_20, simd_3a_42}

-- the one-byte map (table A-2)
unfoldable pub one_byte : List Row
one_byte =
    -- 00+8i to 05+8i, i = 0 to 7: ADD, OR, ADC, SBB, AND, SUB, XOR, CMP
    -- Eb,Gb; Ev,Gv; Gb,Eb; Gv,Ev; AL,Ib; rAX,Iz
    arithmetic 0 (Gpr Add) ++ arithmetic 1 (Gpr Or) ++ arithmetic 2 (Gpr Adc) ++ arithmetic 3 (Gpr Sbb)
    ++ arithmetic 4 (Gpr And) ++ arithmetic 5 (Gpr Sub) ++ arithmetic 6 (Gpr Xor) ++ arithmetic 7 (Gpr Cmp)
    -- 50+r, 58+r: PUSH and POP of a register
    ++ registers (sized 0x50 OpcodeReg (Core Push)) ++ registers (sized 0x58 OpcodeReg (Core Pop))
    -- 63: MOVSXD Gv from 32 bits, or 16 where the operand size is 16
    ++ sized 0x63 GvEd (Core Movsxd) ∷ []
    -- 68, 69, 6A, 6B: PUSH Iz; IMUL Gv,Ev,Iz; PUSH Ib; IMUL Gv,Ev,Ib
    ++ sized 0x68 Iz (Core Push) ∷ sized 0x69 GvEvIz (Gpr Imul) ∷ sized 0x6A Ib (Core Push)
    ∷ sized 0x6B GvEvIb (Gpr Imul) ∷ []
    -- 70+cc: Jcc by 1 byte
    ++ conditions (always 0x70 Jb (Core Jcc))
    -- 80, 81, 83: group 1, Eb,Ib; Ev,Iz; Ev,Ib
    ++ group_1 (byte 0x80 EbIb) ++ group_1 (sized 0x81 EvIz) ++ group_1 (sized 0x83 EvIb)
    -- 84, 85: TEST Eb,Gb; Ev,Gv
    ++ byte 0x84 EbGb (Gpr Test) ∷ sized 0x85 EvGv (Gpr Test) ∷ []
    -- 86, 87: XCHG
    ++ byte 0x86 EbGb (Core Xchg) ∷ sized 0x87 EvGv (Core Xchg) ∷ []
    -- 88, 89, 8A, 8B: MOV Eb,Gb; Ev,Gv; Gb,Eb; Gv,Ev
    ++ byte 0x88 EbGb (Core Mov) ∷ sized 0x89 EvGv (Core Mov) ∷ byte 0x8A GbEb (Core Mov)
    ∷ sized 0x8B GvEv (Core Mov) ∷ []
    -- 8D, memory only: LEA
    ++ sized 0x8D GvM (Core Lea) ∷ []
    -- 8F /0: POP Ev
    ++ digit 0 (sized 0x8F Ev (Core Pop)) ∷ []
    -- 90+r: XCHG of rAX; 90 itself is the no-operation
    ++ registers (sized 0x90 RaxOpcodeReg (Core Xchg))
    -- 98, 99: CBW, CWDE, CDQE; CWD, CDQ, CQO
    ++ sized 0x98 Implied (Core Cbw) ∷ sized 0x99 Implied (Core Cwd) ∷ []
    -- 9C, 9D, 9E, 9F: PUSHF, POPF, SAHF, LAHF
    ++ sized 0x9C Implied (Core Pushf) ∷ sized 0x9D Implied (Core Popf)
    ∷ byte 0x9E Implied (Core Sahf) ∷ byte 0x9F Implied (Core Lahf) ∷ []
    -- A0 to A3: MOV between AL or rAX and an address of 8 bytes, or 4 with 67
    ++ byte 0xA0 AlOb (Core Mov) ∷ sized 0xA1 RaxOv (Core Mov) ∷ byte 0xA2 ObAl (Core Mov)
    ∷ sized 0xA3 OvRax (Core Mov) ∷ []
    -- A4, A5, A6, A7: MOVS and CMPS, of bytes and of operand size
    ++ byte 0xA4 Implied (String Movs) ∷ sized 0xA5 Implied (String Movs)
    ∷ byte 0xA6 Implied (String Cmps) ∷ sized 0xA7 Implied (String Cmps) ∷ []
    -- A8, A9: TEST AL,Ib; rAX,Iz
    ++ byte 0xA8 AlIb (Gpr Test) ∷ sized 0xA9 RaxIz (Gpr Test) ∷ []
    -- AA to AF: STOS, LODS and SCAS, of bytes and of operand size
    ++ byte 0xAA Implied (String Stos) ∷ sized 0xAB Implied (String Stos)
    ∷ byte 0xAC Implied (String Lods) ∷ sized 0xAD Implied (String Lods)
    ∷ byte 0xAE Implied (String Scas) ∷ sized 0xAF Implied (String Scas) ∷ []
    -- B0+r, B8+r: MOV of a register and Ib or Iv
    ++ registers (byte 0xB0 OpcodeRegIb (Core Mov)) ++ registers (sized 0xB8 OpcodeRegIv (Core Mov))
    -- C0, C1: group 2, Eb,Ib; Ev,Ib
    ++ group_2 (byte 0xC0 EbIb) ++ group_2 (sized 0xC1 EvIb)
    -- C2, C3: RET with 2 bytes; RET
    ++ always 0xC2 Iw (Core Ret) ∷ always 0xC3 Implied (Core Ret) ∷ []
    -- C6 /0, C7 /0: MOV Eb,Ib; Ev,Iz
    ++ digit 0 (byte 0xC6 EbIb (Core Mov)) ∷ digit 0 (sized 0xC7 EvIz (Core Mov)) ∷ []
    -- C9, CC: LEAVE; INT3
    ++ sized 0xC9 Implied (Core Leave) ∷ always 0xCC Implied (Core Int3) ∷ []
    -- D0, D1, D2, D3: group 2, Eb,1; Ev,1; Eb,CL; Ev,CL
    ++ group_2 (byte 0xD0 EbOne) ++ group_2 (sized 0xD1 EvOne) ++ group_2 (byte 0xD2 EbCl)
    ++ group_2 (sized 0xD3 EvCl)
    -- E0, E1, E2, E3: LOOPNE, LOOPE, LOOP, JRCXZ by 1 byte
    ++ always 0xE0 Jb (Core Loopne) ∷ always 0xE1 Jb (Core Loope) ∷ always 0xE2 Jb (Core Loop)
    ∷ always 0xE3 Jb (Core Jrcxz) ∷ []
    -- E8, E9, EB: CALL and JMP by 4 bytes; JMP by 1
    ++ always 0xE8 Jz (Core Call) ∷ always 0xE9 Jz (Core Jmp) ∷ always 0xEB Jb (Core Jmp) ∷ []
    -- F4, F5: HLT; CMC
    ++ always 0xF4 Implied (Core Hlt) ∷ always 0xF5 Implied (Core Cmc) ∷ []
    -- F6 /0: TEST Eb,Ib; /2 to /7: group 3, Eb
    ++ digit 0 (byte 0xF6 EbIb (Gpr Test)) ∷ group_3 (byte 0xF6 Eb)
    -- F7 /0: TEST Ev,Iz; /2 to /7: group 3, Ev
    ++ digit 0 (sized 0xF7 EvIz (Gpr Test)) ∷ group_3 (sized 0xF7 Ev)
    -- F8, F9, FC, FD: CLC, STC, CLD, STD
    ++ always 0xF8 Implied (Core Clc) ∷ always 0xF9 Implied (Core Stc)
    ∷ always 0xFC Implied (Core Cld) ∷ always 0xFD Implied (Core Std) ∷ []
    -- FE /0, /1: INC and DEC Eb
    ++ digit 0 (byte 0xFE Eb (Gpr Inc)) ∷ digit 1 (byte 0xFE Eb (Gpr Dec)) ∷ []
    -- FF /0, /1, /2, /4, /6: INC, DEC, CALL, JMP, PUSH Ev
    ++ digit 0 (sized 0xFF Ev (Gpr Inc)) ∷ digit 1 (sized 0xFF Ev (Gpr Dec))
    ∷ digit 2 (always 0xFF Ev (Core Call)) ∷ digit 4 (always 0xFF Ev (Core Jmp))
    ∷ digit 6 (sized 0xFF Ev (Core Push)) ∷ []

-- the map of 0F (table A-3)
unfoldable pub two_byte : List Row
two_byte =
    -- NP 01 with the ModRM byte D0: XGETBV
    level_3 (np (scalar 0x01 ByteD0 32 (Core Xgetbv))) ∷ []
    -- 05: SYSCALL
    ++ always 0x05 Implied (Core Syscall) ∷ []
    -- 0D: no-operation with ModRM, without an access
    ++ sized 0x0D Ev (Core Nop) ∷ []
    -- 10 to 17: vector instructions
    ++ simd_10 Sse
    -- 18 to 1F: no-operations with ModRM, without an access
    ++ opcodes 8 (sized 0x18 Ev (Core Nop))
    -- 28 to 2B: vector instructions
    ++ simd_28 Sse
    -- 31: RDTSC
    ++ scalar 0x31 Implied 32 (Core Rdtsc) ∷ []
    -- 40+cc: CMOVcc Gv,Ev
    ++ conditions (sized 0x40 GvEv (Core Cmovcc))
    -- 50 to 76, 7E, 7F: vector instructions
    ++ simd_50 Sse ++ simd_60 Sse ++ simd_70 Sse ++ simd_7e Sse
    -- 80+cc, 90+cc: Jcc by 4 bytes; SETcc Eb
    ++ conditions (always 0x80 Jz (Core Jcc))
    ++ conditions (byte 0x90 Eb (Core Setcc))
    -- A2: CPUID
    ++ scalar 0xA2 Implied 32 (Core Cpuid) ∷ []
    -- A3, A4, A5: BT Ev,Gv; SHLD Ev,Gv,Ib; Ev,Gv,CL
    ++ sized 0xA3 EvGv (Bit Bt) ∷ sized 0xA4 EvGvIb (Bit Shld) ∷ sized 0xA5 EvGvCl (Bit Shld) ∷ []
    -- AB, AC, AD: BTS Ev,Gv; SHRD Ev,Gv,Ib; Ev,Gv,CL
    ++ sized 0xAB EvGv (Bit Bts) ∷ sized 0xAC EvGvIb (Bit Shrd) ∷ sized 0xAD EvGvCl (Bit Shrd) ∷ []
    -- NP AE /2, /3, memory only: LDMXCSR and STMXCSR of 32 bits
    ++ np (digit 2 (scalar 0xAE M 32 (Core Ldmxcsr))) ∷ np (digit 3 (scalar 0xAE M 32 (Core Stmxcsr))) ∷ []
    -- NP AE /5, /6, /7, registers only: the fences, no-operations
    ++ np (digit 5 (always 0xAE R (Core Nop))) ∷ np (digit 6 (always 0xAE R (Core Nop)))
    ∷ np (digit 7 (always 0xAE R (Core Nop))) ∷ []
    -- NP AE /7, memory only: CLFLUSH of a byte
    ++ np (digit 7 (byte 0xAE M (Core Clflush))) ∷ []
    -- AF: IMUL Gv,Ev
    ++ sized 0xAF GvEv (Gpr Imul) ∷ []
    -- B0, B1: CMPXCHG Eb,Gb; Ev,Gv
    ++ byte 0xB0 EbGb (Core Cmpxchg) ∷ sized 0xB1 EvGv (Core Cmpxchg) ∷ []
    -- B3: BTR Ev,Gv
    ++ sized 0xB3 EvGv (Bit Btr) ∷ []
    -- B6, B7: MOVZX from 8 and 16 bits
    ++ sized 0xB6 GvEb (Core Movzx) ∷ sized 0xB7 GvEw (Core Movzx) ∷ []
    -- F3 B8: POPCNT Gv,Ev
    ++ pf3 (sized 0xB8 GvEv (Bit Popcnt)) ∷ []
    -- BA: group 8, Ev,Ib
    ++ group_8 (sized 0xBA EvIb)
    -- BB: BTC Ev,Gv
    ++ sized 0xBB EvGv (Bit Btc) ∷ []
    -- F3 BC, BC: TZCNT, BSF Gv,Ev
    ++ level_3 (pf3 (sized 0xBC GvEv (Bit Tzcnt))) ∷ sized 0xBC GvEv (Bit Bsf) ∷ []
    -- F3 BD, BD: LZCNT, BSR Gv,Ev
    ++ level_3 (pf3 (sized 0xBD GvEv (Bit Lzcnt))) ∷ sized 0xBD GvEv (Bit Bsr) ∷ []
    -- BE, BF: MOVSX from 8 and 16 bits
    ++ sized 0xBE GvEb (Core Movsx) ∷ sized 0xBF GvEw (Core Movsx) ∷ []
    -- C0, C1: XADD Eb,Gb; Ev,Gv
    ++ byte 0xC0 EbGb (Core Xadd) ∷ sized 0xC1 EvGv (Core Xadd) ∷ []
    -- NP C3, memory only: MOVNTI Mv,Gv
    ++ np (sized 0xC3 MvGv (Core Movnti)) ∷ []
    -- C4, C5, C6: vector instructions
    ++ simd_c4 Sse
    -- C7 /1, memory only: CMPXCHG8B, and with W CMPXCHG16B, aligned to 16 bytes
    ++ without_w (digit 1 (scalar 0xC7 M 64 (Core Cmpxchg8b)))
    ∷ aligned (with_w (digit 1 (scalar 0xC7 M 128 (Core Cmpxchg8b)))) ∷ []
    -- C8+r: BSWAP, 32 or 64
    ++ flat_map by_w (registers (scalar 0xC8 OpcodeReg 32 (Core Bswap)))
    -- D1 to FE: vector instructions
    ++ simd_d1 Sse ++ simd_e0 Sse ++ simd_f0 Sse

-- the map of 0F38 (table A-4)
unfoldable pub three_byte : List Row
three_byte =
    -- 00 to 0B: vector instructions
    simd_38_00 Sse
    -- 66 10, 14, 15: PBLENDVB, BLENDVPS, BLENDVPD Vx,Wx by the signs of XMM0
    ++ p66 (two_sources_by_signs Sse 0x10 8 (Cross Pblendv)) ∷ p66 (two_sources_by_signs Sse 0x14 32 (Cross Blendvp))
    ∷ p66 (two_sources_by_signs Sse 0x15 64 (Cross Blendvp)) ∷ []
    -- 17 to 41: vector instructions
    ++ simd_38_17 Sse ++ simd_38_1c Sse ++ simd_38_30 Sse ++ simd_38_37 Sse
    -- NP F0, 66 F0, memory only: MOVBE Gv,Mv
    ++ level_3 (np (sized 0xF0 GvM (Core Movbe))) ∷ level_3 (p66 (sized 0xF0 GvM (Core Movbe)))
    -- NP F1, 66 F1, memory only: MOVBE Mv,Gv
    ∷ level_3 (np (sized 0xF1 MvGv (Core Movbe))) ∷ level_3 (p66 (sized 0xF1 MvGv (Core Movbe))) ∷ []
    -- 66 F6: ADCX Gv,Ev, 32 or 64
    ++ by_w (level_3 (p66 (scalar 0xF6 GvEv 32 (Gpr Adcx))))
    -- F3 F6: ADOX Gv,Ev, 32 or 64
    ++ by_w (level_3 (pf3 (scalar 0xF6 GvEv 32 (Gpr Adox))))

-- the map of 0F3A (table A-5), of vector instructions alone
abbrev three_byte_by : List Row
three_byte_by = simd_3a_0c Sse ++ simd_3a_20 Sse ++ simd_3a_42 Sse

-- the legacy rows
unfoldable pub legacy : List Row
legacy = one_byte ++ in_map 1 two_byte ++ in_map 2 three_byte ++ in_map 3 three_byte_by
