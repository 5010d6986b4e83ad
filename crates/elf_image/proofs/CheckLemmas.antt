-- Checks one after the other, and what they show.
use Rattle.std.proofs.Common.{◌≡◌, ℕ, zero, suc, ◌+◌, ◌-◌, ◌<◌, ◌≤◌, Bool, true, false, cond, nat_le, List, [], ◌∷◌, ◌++◌, length, All, Option, Some, None, refl, sym, ◌∙◌, ap, arith, add-one, lit<, length-append}
use Rattle.std.specs.Int.RustNames.{bit_or}
use Rattle.std.proofs.lemmas.List.{append-nil}
use Rattle.std.specs.Option.{option_to_list, IfSome}
use Rattle.std.proofs.lemmas.Bool.{and_parts, and_left, and_right, leb-true, eqb-true, ltb-true}
use Rattle.std.proofs.lemmas.List.Elements.{All-nil, All-push, All-weaker}
use Rattle.std.proofs.lemmas.List.Sums.{AllPass-from_list_all}
use Rattle.gpr_flags.specs.Numbers.{has_bit}
use Rattle.elf_image.specs.declared.kinds.Segment.{Segment}
use Rattle.elf_image.specs.declared.kinds.ImageFault.{ImageFault}
use Rattle.elf_image.specs.Fields.{header_place, p_flags, p_vaddr, p_memsz}
use Rattle.elf_image.specs.Segments.{takes_memory, perms_of, segment_at, first_page, end_page, segments_before, IsSegment, AreAscending, highest_address, base_of}
use Rattle.elf_image.specs.Checks.{Check, first_fault, fits_file, is_placed, header_checks, program_checks}
use Rattle.elf_image.proofs.SegmentLemmas.{ascending-push}

-- what is said of one check's refusal and those behind it
first-on : (b : Bool) (rest more : Option ImageFault) (own fault : ImageFault) → (rest ≡ Some fault → more ≡ Some fault)
    → cond b rest (Some own) ≡ Some fault → cond b more (Some own) ≡ Some fault
first-on true rest more own fault on e = on e
first-on false rest more own fault on e = e

next-on : (b : Bool) (rest more last : Option ImageFault) (own : ImageFault) → (rest ≡ None → more ≡ last)
    → cond b rest (Some own) ≡ None → cond b more (Some own) ≡ last
next-on true rest more last own on e = on e
next-on false rest more last own on e = cc

none-on : (b : Bool) (rest more last : Option ImageFault) (own : ImageFault) → (more ≡ None → (rest ≡ None) × (last ≡ None))
    → cond b more (Some own) ≡ None → (cond b rest (Some own) ≡ None) × (last ≡ None)
none-on true rest more last own on e = on e
none-on false rest more last own on e = cc

-- a refusal by the first of two lists
pub fault-first : (xs ys : List Check) (fault : ImageFault) → first_fault xs ≡ Some fault → first_fault (xs ++ ys) ≡ Some fault
fault-first [] ys fault e = cc
fault-first (x ∷ xs) ys fault e =
    first-on x.passes (first_fault xs) (first_fault (xs ++ ys)) (record { number = x.number; place = x.place }) fault (fault-first xs ys fault) e

-- the refusal by the second, where the first refuses nothing
pub fault-next : (xs ys : List Check) → first_fault xs ≡ None → first_fault (xs ++ ys) ≡ first_fault ys
fault-next [] ys e = refl
fault-next (x ∷ xs) ys e =
    next-on x.passes (first_fault xs) (first_fault (xs ++ ys)) (first_fault ys) (record { number = x.number; place = x.place }) (fault-next xs ys) e

-- where both refuse nothing
pub fault-none : (xs ys : List Check) → first_fault (xs ++ ys) ≡ None → (first_fault xs ≡ None) × (first_fault ys ≡ None)
fault-none [] ys e = (refl, e)
fault-none (x ∷ xs) ys e =
    none-on x.passes (first_fault xs) (first_fault (xs ++ ys)) (first_fault ys) (record { number = x.number; place = x.place }) (fault-none xs ys) e

-- one program header more
pub checks-more : (bytes : List ℕ) (n : ℕ)
    → program_checks bytes (n + 1) ≡ program_checks bytes n ++ header_checks bytes (segments_before bytes n) (header_place bytes n)
unfolding program_checks
checks-more bytes n = rw add-one refl

pub segments-more : (bytes : List ℕ) (n : ℕ)
    → segments_before bytes (n + 1)
    ≡ segments_before bytes n ++ cond (takes_memory bytes (header_place bytes n)) (segment_at bytes (header_place bytes n) ∷ []) []
unfolding segments_before
segments-more bytes n = rw add-one refl

pub checks-none : (bytes : List ℕ) → first_fault (program_checks bytes 0) ≡ None
unfolding program_checks
checks-none bytes = refl

pub segments-none : (bytes : List ℕ) → [] ≡ segments_before bytes 0
unfolding segments_before
segments-none bytes = refl

-- a header that is accepted behind accepted ones
pub checks-on : (bytes : List ℕ) (n : ℕ) → first_fault (program_checks bytes n) ≡ None
    → first_fault (header_checks bytes (segments_before bytes n) (header_place bytes n)) ≡ None
    → first_fault (program_checks bytes (n + 1)) ≡ None
checks-on bytes n e f =
    ap first_fault (checks-more bytes n)
    ∙ fault-next (program_checks bytes n) (header_checks bytes (segments_before bytes n) (header_place bytes n)) e ∙ f

stays : (bytes : List ℕ) (fault : ImageFault) (n more : ℕ) → first_fault (program_checks bytes n) ≡ Some fault
    → first_fault (program_checks bytes (n + more)) ≡ Some fault
stays bytes fault n zero e = let z : n + 0 ≡ n = omega arith in rw z e
stays bytes fault n (suc more) e =
    let z : n + suc more ≡ n + more + 1 = omega arith in
    ap (λ (m : ℕ). first_fault (program_checks bytes m)) z
    ∙ ap first_fault (checks-more bytes (n + more))
    ∙ fault-first (program_checks bytes (n + more)) (header_checks bytes (segments_before bytes (n + more)) (header_place bytes (n + more))) fault
    (stays bytes fault n more e)

-- a header that is refused behind accepted ones
pub checks-stop : (bytes : List ℕ) (fault : ImageFault) (n most : ℕ) → n < most → first_fault (program_checks bytes n) ≡ None
    → first_fault (header_checks bytes (segments_before bytes n) (header_place bytes n)) ≡ Some fault
    → first_fault (program_checks bytes most) ≡ Some fault
checks-stop bytes fault n most h e f =
    let z : n + 1 + (most - (n + 1)) ≡ most = omega arith in
    let here : first_fault (program_checks bytes (n + 1)) ≡ Some fault =
    ap first_fault (checks-more bytes n)
    ∙ fault-next (program_checks bytes n) (header_checks bytes (segments_before bytes n) (header_place bytes n)) e ∙ f in
    ap (λ (m : ℕ). first_fault (program_checks bytes m)) (sym z) ∙ stays bytes fault (n + 1) (most - (n + 1)) here

-- what a header's checks show of its segment
pub checks-show : (bytes : List ℕ) (earlier : List Segment) (header : ℕ) → first_fault (header_checks bytes earlier header) ≡ None
    → takes_memory bytes header ≡ true → (fits_file bytes header ≡ true) × (is_placed earlier (segment_at bytes header) ≡ true)
unfolding header_checks
checks-show bytes earlier header e takes = grind arith

small : (read write execute : Bool) → bit_or (bit_or (cond read 1 0) (cond write 2 0)) (cond execute 4 0) < 8
small true true true = lit< tt
small true true false = lit< tt
small true false true = lit< tt
small true false false = lit< tt
small false true true = lit< tt
small false true false = lit< tt
small false false true = lit< tt
small false false false = lit< tt

pub perms-small : (flags : ℕ) → perms_of flags < 8
unfolding perms_of
perms-small flags = small (has_bit flags 2) (has_bit flags 1) (has_bit flags 0)

-- a segment that passes its checks
pub segment-is : (bytes : List ℕ) (earlier : List Segment) (header : ℕ) → takes_memory bytes header ≡ true → fits_file bytes header ≡ true
    → is_placed earlier (segment_at bytes header) ≡ true
    → IsSegment (length bytes) (segment_at bytes header) × All (λ before. end_page before ≤ first_page (segment_at bytes header)) earlier
unfolding fits_file is_placed segment_at
segment-is bytes earlier header takes fits placed =
    let s = segment_at bytes header in
    let f = and_parts _ _ fits in
    let p = and_parts _ _ placed in
    let q = and_parts _ _ p.0 in
    let r = and_parts _ _ q.0 in
    let high : s.addr + s.mem_len ≤ highest_address = leb-true _ _ q.1 in (
      record {
        some = ltb-true 0 (p_memsz bytes header) (and_parts _ _ takes).1;
        shorter = leb-true _ _ f.0;
        within = leb-true _ _ f.1;
        congruent = eqb-true _ _ r.0;
        low = leb-true _ _ r.1;
        high = omega arith;
        perms = perms-small (p_flags bytes header);
      },
      All-weaker (λ (before : Segment). nat_le (end_page before) (first_page s) ≡ true) (λ (before : Segment). end_page before ≤ first_page s)
          (λ before h. leb-true _ _ h) earlier (AllPass-from_list_all (λ (before : Segment). nat_le (end_page before) (first_page s)) earlier p.1),
    )

segments-push : (bytes : List ℕ) (xs : List Segment) (header : ℕ) → All (IsSegment (length bytes)) xs → AreAscending xs
    → first_fault (header_checks bytes xs header) ≡ None → (b : Bool) → takes_memory bytes header ≡ b
    → All (IsSegment (length bytes)) (xs ++ cond b (segment_at bytes header ∷ []) [])
    × AreAscending (xs ++ cond b (segment_at bytes header ∷ []) [])
segments-push bytes xs header each ascending e true takes =
    let shown = checks-show bytes xs header e takes in
    let is = segment-is bytes xs header takes shown.0 shown.1 in
    (All-push (IsSegment (length bytes)) xs (segment_at bytes header) each is.0, ascending-push xs (segment_at bytes header) ascending is.1)
segments-push bytes xs header each ascending e false takes = rw append-nil (each, ascending)

-- all segments of accepted headers
pub segments-are : (bytes : List ℕ) (n : ℕ) → first_fault (program_checks bytes n) ≡ None
    → All (IsSegment (length bytes)) (segments_before bytes n) × AreAscending (segments_before bytes n)
unfolding program_checks segments_before
segments-are bytes zero e = (All-nil (IsSegment (length bytes)), tt)
segments-are bytes (suc n) e =
    let both = fault-none (program_checks bytes n) (header_checks bytes (segments_before bytes n) (header_place bytes n)) e in
    let before = segments-are bytes n both.0 in
    segments-push bytes (segments_before bytes n) (header_place bytes n) before.0 before.1 both.1 (takes_memory bytes (header_place bytes n)) refl

-- the checks of a header whose place and earlier segments are told otherwise
pub header-same : (bytes : List ℕ) (xs ys : List Segment) (a b : ℕ) → xs ≡ ys → a ≡ b
    → first_fault (header_checks bytes xs a) ≡ first_fault (header_checks bytes ys b)
header-same bytes xs ys a b e f = rw (e, f) refl

pub segment-same : (bytes : List ℕ) (a b : ℕ) → a ≡ b
    → cond (takes_memory bytes a) (segment_at bytes a ∷ []) [] ≡ cond (takes_memory bytes b) (segment_at bytes b ∷ []) []
segment-same bytes a b e = ap (λ (h : ℕ). cond (takes_memory bytes h) (segment_at bytes h ∷ []) []) e

pub all-option : (P : Segment → Type 0) (o : Option Segment) → IfSome o P → All P (option_to_list o)
all-option P None h = All-nil P
all-option P (Some s) h = All-push P [] s (All-nil P) h

pub option-short : (o : Option Segment) → length (option_to_list o) ≤ 1
option-short None = omega arith
option-short (Some s) = omega arith

-- a segment that would end above the highest address
pub not-placed : (bytes : List ℕ) (earlier : List Segment) (header addr base len : ℕ)
    → addr ≡ p_vaddr bytes header → base ≡ base_of bytes → len ≡ p_memsz bytes header
    → nat_le (addr + base + len) highest_address ≡ false → is_placed earlier (segment_at bytes header) ≡ false
unfolding is_placed segment_at
not-placed bytes earlier header addr base len a b l h = and_left _ _ (and_right _ _ (rw (a, b, l) at h))

-- how many segments some headers have at most
pub segments-short : (bytes : List ℕ) (n : ℕ) → length (segments_before bytes n) ≤ n
unfolding segments_before
segments-short bytes zero = omega arith
segments-short bytes (suc n) =
    omega (
      arith,
      segments-short bytes n,
      length-append (segments_before bytes n) (cond (takes_memory bytes (header_place bytes n)) (segment_at bytes (header_place bytes n) ∷ []) []),
      one-short (takes_memory bytes (header_place bytes n)) (segment_at bytes (header_place bytes n)),
    )
  where
    one-short : (b : Bool) (s : Segment) → length (cond b (s ∷ []) []) ≤ 1
    one-short true s = omega arith
    one-short false s = omega arith
