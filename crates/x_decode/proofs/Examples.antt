-- What is seen in known bytes, computed. What is expected is the SDM's, and on want of an instruction this
-- machine's.
use Rattle.std.proofs.Common.{◌≡◌, ℕ, ℤ, pos, [], ◌∷◌, replicate, slice_get, Option, Some, None, refl}
use Rattle.std.specs.Option.{option_map}
use Rattle.row_table.specs.declared.operations.Op.{Op}
use Rattle.row_table.specs.declared.operations.Op.TheVariants.{Core, Lane}
use Rattle.row_table.specs.declared.operations.CoreOp.TheVariants.{Mov, Movbe, Nop, Ret, Vzeroupper}
use Rattle.row_table.specs.declared.operations.LaneOp.TheVariants.{Padd}
use Rattle.row_table.specs.Legacy.{legacy, one_byte, two_byte, three_byte}
use Rattle.row_table.specs.Vex.{vex_rows, vex_0f, vex_0f38, vex_0f3a}
use Rattle.row_table.specs.Evex.{evex_rows, evex_0f, evex_0f38, evex_0f3a}
use Rattle.row_table.specs.Letters.{layout_of, letters}
use Rattle.row_table.specs.Rows.{rows}
use Rattle.row_table.specs.Matching.{fits, matched, shape_at, map_used}
use Rattle.row_table.specs.Spelling.{spelled, uses_vvvv, writes_rm, opmasks_fit}
use Rattle.form_scan.specs.Front.{in_front}
use Rattle.form_scan.specs.Payload.{of_rex, of_vex_two, of_evex}
use Rattle.form_scan.specs.Shaped.{within_limit, number_of, signed_of, fields_of}
use Rattle.form_scan.specs.Reading.{after, lead_at, shaped_head, opcode_at, long_at, escape_at, vex_two_at, evex_at, evex_more_at, evex_last_at, head_at, optional_at, chunk_at, tail_at, fields_at}
use Rattle.form_scan.specs.Scanning.{scanned}
use Rattle.legacy_decode.specs.Lock.{operation_locks, lock_fits}
use Rattle.evex_decode.specs.Scale.{scale_of}
use Rattle.evex_decode.specs.Spelling.{generals_fit, uses_v_high}
use Rattle.x_decode.specs.declared.kinds.Seen.{Seen}
use Rattle.x_decode.specs.declared.kinds.Seen.TheVariants.{Instr, Short, TooLong, Bad}
use Rattle.x_decode.specs.Seeing.{encoding_of, seen}

abbrev length_of : Seen → Option ℕ
length_of (Instr d n) = Some n
length_of Short = None
length_of TooLong = None
length_of Bad = None

abbrev operation_of : Seen → Option Op
operation_of (Instr d n) = option_map (λ r. r.op) (slice_get rows d.row)
operation_of Short = None
operation_of TooLong = None
operation_of Bad = None

abbrev disp_of : Seen → Option ℤ
disp_of (Instr d n) = Some d.disp
disp_of Short = None
disp_of TooLong = None
disp_of Bad = None

-- B0 05: MOV AL, 5
mov : operation_of (seen (0xB0 ∷ 5 ∷ [])) ≡ Some (Core Mov)
unfolding seen scanned within_limit fields_at lead_at in_front after head_at shaped_head of_rex shape_at tail_at optional_at chunk_at fields_of number_of signed_of encoding_of spelled matched fits lock_fits operation_locks writes_rm layout_of letters rows legacy one_byte two_byte three_byte vex_rows vex_0f vex_0f38 vex_0f3a evex_rows evex_0f evex_0f38 evex_0f3a
mov = refl

mov-length : length_of (seen (0xB0 ∷ 5 ∷ [])) ≡ Some 2
unfolding seen scanned within_limit fields_at lead_at in_front after head_at shaped_head of_rex shape_at tail_at optional_at chunk_at fields_of number_of signed_of encoding_of spelled matched fits lock_fits operation_locks writes_rm layout_of letters rows legacy one_byte two_byte three_byte vex_rows vex_0f vex_0f38 vex_0f3a evex_rows evex_0f evex_0f38 evex_0f3a
mov-length = refl

-- F3 C3: RET, since F3 has no meaning before it
ret : operation_of (seen (0xF3 ∷ 0xC3 ∷ [])) ≡ Some (Core Ret)
unfolding seen scanned within_limit fields_at lead_at in_front after head_at shaped_head of_rex shape_at tail_at optional_at chunk_at fields_of number_of signed_of encoding_of spelled matched fits lock_fits operation_locks writes_rm layout_of letters rows legacy one_byte two_byte three_byte vex_rows vex_0f vex_0f38 vex_0f3a evex_rows evex_0f evex_0f38 evex_0f3a
ret = refl

ret-length : length_of (seen (0xF3 ∷ 0xC3 ∷ [])) ≡ Some 2
unfolding seen scanned within_limit fields_at lead_at in_front after head_at shaped_head of_rex shape_at tail_at optional_at chunk_at fields_of number_of signed_of encoding_of spelled matched fits lock_fits operation_locks writes_rm layout_of letters rows legacy one_byte two_byte three_byte vex_rows vex_0f vex_0f38 vex_0f3a evex_rows evex_0f evex_0f38 evex_0f3a
ret-length = refl

-- 66 2E 0F 1F 84 and a displacement: NOP
nop : operation_of (seen (0x66 ∷ 0x2E ∷ 0x0F ∷ 0x1F ∷ 0x84 ∷ replicate 5 0)) ≡ Some (Core Nop)
unfolding seen scanned within_limit fields_at lead_at in_front after escape_at head_at shaped_head of_rex shape_at tail_at optional_at chunk_at fields_of number_of signed_of encoding_of spelled matched fits lock_fits operation_locks writes_rm layout_of letters rows legacy one_byte two_byte three_byte vex_rows vex_0f vex_0f38 vex_0f3a evex_rows evex_0f evex_0f38 evex_0f3a
nop = refl

nop-length : length_of (seen (0x66 ∷ 0x2E ∷ 0x0F ∷ 0x1F ∷ 0x84 ∷ replicate 5 0)) ≡ Some 10
unfolding seen scanned within_limit fields_at lead_at in_front after escape_at head_at shaped_head of_rex shape_at tail_at optional_at chunk_at fields_of number_of signed_of encoding_of spelled matched fits lock_fits operation_locks writes_rm layout_of letters rows legacy one_byte two_byte three_byte vex_rows vex_0f vex_0f38 vex_0f3a evex_rows evex_0f evex_0f38 evex_0f3a
nop-length = refl

-- 66 0F 38 F0 00: MOVBE of 16 bits, in the map of 0F38
movbe : operation_of (seen (0x66 ∷ 0x0F ∷ 0x38 ∷ 0xF0 ∷ 0 ∷ [])) ≡ Some (Core Movbe)
unfolding seen scanned within_limit fields_at lead_at in_front after escape_at long_at map_used opcode_at head_at shaped_head of_rex shape_at tail_at optional_at chunk_at fields_of number_of signed_of encoding_of spelled matched fits lock_fits operation_locks writes_rm layout_of letters rows legacy one_byte two_byte three_byte vex_rows vex_0f vex_0f38 vex_0f3a evex_rows evex_0f evex_0f38 evex_0f3a
movbe = refl

movbe-length : length_of (seen (0x66 ∷ 0x0F ∷ 0x38 ∷ 0xF0 ∷ 0 ∷ [])) ≡ Some 5
unfolding seen scanned within_limit fields_at lead_at in_front after escape_at long_at map_used opcode_at head_at shaped_head of_rex shape_at tail_at optional_at chunk_at fields_of number_of signed_of encoding_of spelled matched fits lock_fits operation_locks writes_rm layout_of letters rows legacy one_byte two_byte three_byte vex_rows vex_0f vex_0f38 vex_0f3a evex_rows evex_0f evex_0f38 evex_0f3a
movbe-length = refl

-- F2 0F 38 F0 C1: CRC32, of which the table has no row; the rows of MOVBE are marked NP and 66
crc32 : seen (0xF2 ∷ 0x0F ∷ 0x38 ∷ 0xF0 ∷ 0xC1 ∷ []) ≡ Bad
unfolding seen scanned within_limit fields_at lead_at in_front after escape_at long_at map_used opcode_at head_at shaped_head of_rex shape_at tail_at optional_at chunk_at fields_of number_of signed_of encoding_of spelled matched fits lock_fits operation_locks writes_rm layout_of letters rows legacy one_byte two_byte three_byte vex_rows vex_0f vex_0f38 vex_0f3a evex_rows evex_0f evex_0f38 evex_0f3a
crc32 = refl

-- 0F 58 C1: ADDPS, of which the table has no row
addps : seen (0x0F ∷ 0x58 ∷ 0xC1 ∷ []) ≡ Bad
unfolding seen scanned within_limit fields_at lead_at in_front after escape_at head_at shaped_head of_rex shape_at tail_at optional_at chunk_at fields_of number_of signed_of encoding_of spelled matched fits lock_fits operation_locks writes_rm layout_of letters rows legacy one_byte two_byte three_byte vex_rows vex_0f vex_0f38 vex_0f3a evex_rows evex_0f evex_0f38 evex_0f3a
addps = refl

-- 66 0F FC C1: PADDB of XMM0 and XMM1
paddb : operation_of (seen (0x66 ∷ 0x0F ∷ 0xFC ∷ 0xC1 ∷ [])) ≡ Some (Lane Padd)
unfolding seen scanned within_limit fields_at lead_at in_front after escape_at head_at shaped_head of_rex shape_at tail_at optional_at chunk_at fields_of number_of signed_of encoding_of spelled matched fits lock_fits operation_locks writes_rm layout_of letters rows legacy one_byte two_byte three_byte vex_rows vex_0f vex_0f38 vex_0f3a evex_rows evex_0f evex_0f38 evex_0f3a
paddb = refl

-- C5 F8 77: VZEROUPPER, without ModRM
vzeroupper : operation_of (seen (0xC5 ∷ 0xF8 ∷ 0x77 ∷ [])) ≡ Some (Core Vzeroupper)
unfolding seen scanned within_limit fields_at lead_at in_front after vex_two_at map_used opcode_at head_at shaped_head of_rex of_vex_two shape_at tail_at optional_at chunk_at fields_of number_of signed_of encoding_of spelled uses_vvvv opmasks_fit matched fits lock_fits operation_locks writes_rm layout_of letters rows legacy one_byte two_byte three_byte vex_rows vex_0f vex_0f38 vex_0f3a evex_rows evex_0f evex_0f38 evex_0f3a
vzeroupper = refl

-- C5 FC 58 C1: VADDPS, of which the table has no row
vaddps : seen (0xC5 ∷ 0xFC ∷ 0x58 ∷ 0xC1 ∷ []) ≡ Bad
unfolding seen scanned within_limit fields_at lead_at in_front after vex_two_at map_used opcode_at head_at shaped_head of_rex of_vex_two shape_at tail_at optional_at chunk_at fields_of number_of signed_of encoding_of spelled matched fits lock_fits operation_locks writes_rm layout_of letters rows legacy one_byte two_byte three_byte vex_rows vex_0f vex_0f38 vex_0f3a evex_rows evex_0f evex_0f38 evex_0f3a
vaddps = refl

-- 62 F1 7D 48 FE 44 24 01: VPADDD of the vector of 64 bytes at RSP + 64
vpaddd : operation_of (seen (0x62 ∷ 0xF1 ∷ 0x7D ∷ 0x48 ∷ 0xFE ∷ 0x44 ∷ 0x24 ∷ 1 ∷ [])) ≡ Some (Lane Padd)
unfolding seen scanned within_limit fields_at lead_at in_front after evex_at evex_more_at evex_last_at map_used opcode_at head_at shaped_head of_rex of_evex shape_at tail_at optional_at chunk_at fields_of number_of signed_of encoding_of spelled uses_vvvv uses_v_high generals_fit opmasks_fit scale_of matched fits lock_fits operation_locks writes_rm layout_of letters rows legacy one_byte two_byte three_byte vex_rows vex_0f vex_0f38 vex_0f3a evex_rows evex_0f evex_0f38 evex_0f3a
vpaddd = refl

vpaddd-displacement : disp_of (seen (0x62 ∷ 0xF1 ∷ 0x7D ∷ 0x48 ∷ 0xFE ∷ 0x44 ∷ 0x24 ∷ 1 ∷ [])) ≡ Some (pos 64)
unfolding seen scanned within_limit fields_at lead_at in_front after evex_at evex_more_at evex_last_at map_used opcode_at head_at shaped_head of_rex of_evex shape_at tail_at optional_at chunk_at fields_of number_of signed_of encoding_of spelled uses_vvvv uses_v_high generals_fit opmasks_fit scale_of matched fits lock_fits operation_locks writes_rm layout_of letters rows legacy one_byte two_byte three_byte vex_rows vex_0f vex_0f38 vex_0f3a evex_rows evex_0f evex_0f38 evex_0f3a
vpaddd-displacement = refl

-- 62 F1 7D 58 FE 44 24 01: the same with broadcast, of the number at RSP + 4
broadcast-displacement : disp_of (seen (0x62 ∷ 0xF1 ∷ 0x7D ∷ 0x58 ∷ 0xFE ∷ 0x44 ∷ 0x24 ∷ 1 ∷ [])) ≡ Some (pos 4)
unfolding seen scanned within_limit fields_at lead_at in_front after evex_at evex_more_at evex_last_at map_used opcode_at head_at shaped_head of_rex of_evex shape_at tail_at optional_at chunk_at fields_of number_of signed_of encoding_of spelled uses_vvvv uses_v_high generals_fit opmasks_fit scale_of matched fits lock_fits operation_locks writes_rm layout_of letters rows legacy one_byte two_byte three_byte vex_rows vex_0f vex_0f38 vex_0f3a evex_rows evex_0f evex_0f38 evex_0f3a
broadcast-displacement = refl

-- 62 F1 7D C8 FE C1: zeroing without a mask
zeroing : seen (0x62 ∷ 0xF1 ∷ 0x7D ∷ 0xC8 ∷ 0xFE ∷ 0xC1 ∷ []) ≡ Bad
unfolding seen scanned within_limit fields_at lead_at in_front after evex_at evex_more_at evex_last_at map_used opcode_at head_at shaped_head of_rex of_evex shape_at tail_at optional_at chunk_at fields_of number_of signed_of encoding_of spelled uses_vvvv uses_v_high generals_fit opmasks_fit scale_of matched fits lock_fits operation_locks writes_rm layout_of letters rows legacy one_byte two_byte three_byte vex_rows vex_0f vex_0f38 vex_0f3a evex_rows evex_0f evex_0f38 evex_0f3a
zeroing = refl

-- F0 31 C0: XOR of a register, where LOCK may not stand
locked : seen (0xF0 ∷ 0x31 ∷ 0xC0 ∷ []) ≡ Bad
unfolding seen scanned within_limit fields_at lead_at in_front after head_at shaped_head of_rex shape_at tail_at optional_at chunk_at fields_of number_of signed_of encoding_of spelled matched fits lock_fits operation_locks writes_rm layout_of letters rows legacy one_byte two_byte three_byte vex_rows vex_0f vex_0f38 vex_0f3a evex_rows evex_0f evex_0f38 evex_0f3a
locked = refl

-- three prefixes alone, and fifteen
few : seen (replicate 3 0x66) ≡ Short
unfolding seen scanned within_limit fields_at lead_at in_front after
few = refl

many : seen (replicate 15 0x66) ≡ TooLong
unfolding seen scanned within_limit fields_at lead_at in_front after
many = refl
