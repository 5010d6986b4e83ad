-- CPUID: what it tells by the leaf in eax and the subleaf in ecx (SDM volume 2, CPUID, table 3-8), and what it does.
use Rattle.std.specs.Prelude.{ℕ, ◌+◌, ◌==◌, if◌then◌else◌, List, slice_index, codes}
use Rattle.byteorder.specs.Endian.{little_number}
use Rattle.gpr_flags.specs.Registers.{RAX, RCX, RDX, RBX, with_register}
use Rattle.core_step.specs.declared.acted.Acted.TheVariants.{Done}
use Rattle.core_step.specs.declared.cpuid.Told.{Told}
use Rattle.core_step.specs.declared.kinds.IdentifyPlan.{IdentifyPlan}
use Rattle.core_step.specs.declared.sizes.Size.TheVariants.{Double}
use Rattle.core_step.specs.Size.{cut}
use Rattle.core_step.specs.Effect.{Processor, Effect}
use Rattle.core_step.specs.Features.{features_1_ecx, features_1_edx, features_7_ebx, features_7_ecx, save_features, extended_ecx, extended_edx}
use Rattle.core_step.specs.declared.save_area.Area.{Area}
use Rattle.core_step.specs.SaveArea.{xcr0, avx_area, opmask_area, zmm_hi256_area, hi16_zmm_area, area_bytes}

-- a leaf or a subleaf that tells nothing
abbrev pub nothing : Told
nothing = record { eax = 0; ebx = 0; ecx = 0; edx = 0 }

-- the name of the processor, four letters of it, the first in the lowest byte
abbrev pub name : ℕ
name = little_number 4 (codes "Xemu")

-- the last leaf, and the last one of those from 80000000H up
abbrev pub last_leaf : ℕ
last_leaf = 0xD

abbrev pub last_extended : ℕ
last_extended = 0x80000001

-- leaf 7: more features
abbrev pub structured_told : (subleaf : ℕ) → Told
structured_told subleaf = if subleaf == 0 then record nothing { ebx = features_7_ebx; ecx = features_7_ecx } else nothing

-- leaf DH: XCR0 and the bytes of a save area with what XCR0 has and with all there is; what XSAVE's kin there is; and of each
-- component from 2 up its size and its offset
abbrev pub told_of : Area → Told
told_of area = record nothing { eax = area.size; ebx = area.offset }

unfoldable pub save_told : (subleaf : ℕ) → Told
save_told subleaf =
    if subleaf == 0 then record { eax = xcr0; ebx = area_bytes; ecx = area_bytes; edx = 0 }
    else if subleaf == 1 then record nothing { eax = save_features }
    else if subleaf == 2 then told_of avx_area
    else if subleaf == 5 then told_of opmask_area
    else if subleaf == 6 then told_of zmm_hi256_area
    else if subleaf == 7 then told_of hi16_zmm_area
    else nothing

unfoldable pub told : (leaf subleaf : ℕ) → Told
told leaf subleaf =
    if leaf == 0 then record { eax = last_leaf; ebx = name; ecx = name; edx = name }
    else if leaf == 1 then record nothing { ecx = features_1_ecx; edx = features_1_edx }
    else if leaf == 7 then structured_told subleaf
    else if leaf == 0xD then save_told subleaf
    else if leaf == 0x80000000 then record nothing { eax = last_extended }
    else if leaf == 0x80000001 then record nothing { ecx = extended_ecx; edx = extended_edx }
    else nothing

-- ---- the instruction
-- what is told goes to four registers, whose upper halves are cleared
abbrev pub with_told : Told → List ℕ → List ℕ
with_told t gprs = with_register RDX 32 t.edx (with_register RCX 32 t.ecx (with_register RBX 32 t.ebx (with_register RAX 32 t.eax gprs)))

unfoldable pub identified : List ℕ → List ℕ
identified gprs = with_told (told (cut Double (slice_index gprs RAX)) (cut Double (slice_index gprs RCX))) gprs

-- it accesses no memory, and changes no flag
abbrev pub identify_effect : IdentifyPlan → Processor → (ℕ → ℕ) → Effect
identify_effect i p byte = record {
  acted = Done;
  processor = record p { gprs = identified p.gprs; rip = i.next; steps = p.steps + 1 };
  byte = byte;
}
