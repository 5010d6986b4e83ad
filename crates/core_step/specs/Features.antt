-- The features of the processor that CPUID tells, and the word of which each is a bit (SDM volume 2, CPUID, tables 3-8, 3-10
-- and 3-11).
use Rattle.std.specs.Prelude.{ℕ, ◌^◌, List, [], ◌∷◌, map, sum}

-- ENHANCED_REP is that of MOVSB and STOSB, WITHOUT_FCS that the x87 state holds no FCS and FDS
pub data Feature : Type 0 where
  SSE3 : Feature
  SSSE3 : Feature
  CMPXCHG16B : Feature
  SSE4_1 : Feature
  MOVBE : Feature
  POPCNT : Feature
  XSAVE : Feature
  OSXSAVE : Feature
  AVX : Feature
  FPU : Feature
  TSC : Feature
  CMPXCHG8B : Feature
  CMOV : Feature
  SSE : Feature
  SSE2 : Feature
  BMI1 : Feature
  AVX2 : Feature
  BMI2 : Feature
  ENHANCED_REP : Feature
  WITHOUT_FCS : Feature
  AVX512F : Feature
  AVX512DQ : Feature
  ADX : Feature
  AVX512_IFMA : Feature
  AVX512CD : Feature
  AVX512BW : Feature
  AVX512VL : Feature
  AVX512_VBMI : Feature
  AVX512_VBMI2 : Feature
  AVX512_VNNI : Feature
  AVX512_BITALG : Feature
  AVX512_VPOPCNTDQ : Feature
  XSAVEOPT : Feature
  LAHF : Feature
  LZCNT : Feature
  SYSCALL : Feature
  EXECUTE_DISABLE : Feature
  INTEL_64 : Feature

-- the number of its bit, and where the SDM says what it stands for
unfoldable pub bit_of : Feature → ℕ
-- leaf 1, ecx
bit_of SSE3 = 0  -- volume 1, 12.4.2
bit_of SSSE3 = 9  -- volume 1, 12.7.2
bit_of CMPXCHG16B = 13  -- volume 2, CMPXCHG8B/CMPXCHG16B
bit_of SSE4_1 = 19  -- volume 1, 12.12.2
bit_of MOVBE = 22  -- volume 2, MOVBE
bit_of POPCNT = 23  -- volume 2, POPCNT
bit_of XSAVE = 26  -- volume 1, 13.2
bit_of OSXSAVE = 27  -- volume 1, 14.3
bit_of AVX = 28  -- volume 1, 14.3
-- leaf 1, edx
bit_of FPU = 0  -- volume 1, 8.1
bit_of TSC = 4  -- volume 2, RDTSC
bit_of CMPXCHG8B = 8  -- volume 2, CMPXCHG8B/CMPXCHG16B
bit_of CMOV = 15  -- volume 2, CMOVcc
bit_of SSE = 25  -- volume 1, 11.6.2
bit_of SSE2 = 26  -- volume 1, 11.6.2
-- leaf 7, ebx
bit_of BMI1 = 3  -- volume 1, 5.1.16
bit_of AVX2 = 5  -- volume 1, 14.7.1
bit_of BMI2 = 8  -- volume 1, 5.1.16
bit_of ENHANCED_REP = 9  -- volume 1, 7.3.9.3
bit_of WITHOUT_FCS = 13  -- volume 1, 8.1.8
bit_of AVX512F = 16  -- volume 1, 15.2
bit_of AVX512DQ = 17  -- volume 1, 15.3
bit_of ADX = 19  -- volume 2, ADCX and ADOX
bit_of AVX512_IFMA = 21  -- volume 2, VPMADD52LUQ
bit_of AVX512CD = 28  -- volume 1, 15.3
bit_of AVX512BW = 30  -- volume 1, 15.3
bit_of AVX512VL = 31  -- volume 1, 15.4
-- leaf 7, ecx
bit_of AVX512_VBMI = 1  -- volume 2, VPMULTISHIFTQB
bit_of AVX512_VBMI2 = 6  -- volume 2, VPCOMPRESSB/VCOMPRESSW
bit_of AVX512_VNNI = 11  -- volume 2, VPDPBUSD
bit_of AVX512_BITALG = 12  -- volume 2, VPSHUFBITQMB
bit_of AVX512_VPOPCNTDQ = 14  -- volume 2, VPOPCNT
-- leaf DH, subleaf 1, eax
bit_of XSAVEOPT = 0  -- volume 1, 13.2
-- leaf 80000001H, ecx
bit_of LAHF = 0  -- volume 2, LAHF
bit_of LZCNT = 5  -- volume 2, LZCNT
-- leaf 80000001H, edx
bit_of SYSCALL = 11  -- volume 2, SYSCALL
bit_of EXECUTE_DISABLE = 20  -- volume 3, 4.6
bit_of INTEL_64 = 29  -- volume 1, 3.2.1

-- a word of 32 bits that has the bits of these features
abbrev pub word : List Feature → ℕ
word features = sum (map (λ feature. 2 ^ bit_of feature) features)

-- ---- the words
abbrev pub features_1_ecx : ℕ
features_1_ecx = word (SSE3 ∷ SSSE3 ∷ CMPXCHG16B ∷ SSE4_1 ∷ MOVBE ∷ POPCNT ∷ XSAVE ∷ OSXSAVE ∷ AVX ∷ [])

abbrev pub features_1_edx : ℕ
features_1_edx = word (FPU ∷ TSC ∷ CMPXCHG8B ∷ CMOV ∷ SSE ∷ SSE2 ∷ [])

abbrev pub features_7_ebx : ℕ
features_7_ebx =
    word (BMI1 ∷ AVX2 ∷ BMI2 ∷ ENHANCED_REP ∷ WITHOUT_FCS ∷ AVX512F ∷ AVX512DQ ∷ ADX ∷ AVX512_IFMA ∷ AVX512CD ∷ AVX512BW
    ∷ AVX512VL ∷ [])

abbrev pub features_7_ecx : ℕ
features_7_ecx = word (AVX512_VBMI ∷ AVX512_VBMI2 ∷ AVX512_VNNI ∷ AVX512_BITALG ∷ AVX512_VPOPCNTDQ ∷ [])

abbrev pub save_features : ℕ
save_features = word (XSAVEOPT ∷ [])

abbrev pub extended_ecx : ℕ
extended_ecx = word (LAHF ∷ LZCNT ∷ [])

abbrev pub extended_edx : ℕ
extended_edx = word (SYSCALL ∷ EXECUTE_DISABLE ∷ INTEL_64 ∷ [])
