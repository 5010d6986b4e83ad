-- Lemmas on guest memory: an access in parts, an access along one page, and one write after another.
use Rattle.std.proofs.Common.{◌≡◌, ℕ, ◌+◌, ◌-◌, ◌/◌, ◌%◌, ◌^◌, ◌<◌, ◌≤◌, List, [], ◌∷◌, ◌++◌, Bool, true, false, cond, Option, Some, None, length, get_or, zero, suc, refl, sym, ap, ◌∙◌, ⊎_elim, arith, nat_lt, nat_le, ◌&&◌, zero-add, add-zero, take, drop, slice_range}
use Rattle.std.proofs.lemmas.List.{length-take, length-take-le, length-drop, get_or-take, get_or-drop, drop_more}
use Rattle.std.proofs.lemmas.Bool.{cases_lt, le-leb, lt-leb, lt-ltb, le-ltb}
use Rattle.machine_state.specs.declared.kinds.Kind.{Kind}
use Rattle.machine_state.specs.declared.kinds.Miss.{Miss}
use Rattle.machine_state.specs.declared.kinds.Miss.TheVariants.{Away, Denied, NonCanonical}
use Rattle.machine_state.specs.Memory.{page_size, Permissions, permits, is_noncanonical, miss_in, miss_at, or_else, first_miss, bytes_at, written}

pub or_else-assoc : (a b c : Option Miss) → or_else a (or_else b c) ≡ or_else (or_else a b) c
or_else-assoc None b c = refl
or_else-assoc (Some miss) b c = refl

-- a miss or none is that miss
pub or_else_right : (first : Option Miss) → or_else first None ≡ first
or_else_right None = refl
or_else_right (Some miss) = refl

-- where there is no first of two misses, there is neither
pub or_else_none : (a b : Option Miss) → or_else a b ≡ None → (a ≡ None) × (b ≡ None)
or_else_none None b h = (refl, h)
or_else_none (Some miss) b h = cc

pub first_miss-zero : (perms : Permissions) (kind : Kind) (addr : ℕ) → first_miss perms kind addr 0 ≡ None
unfolding first_miss
first_miss-zero perms kind addr = refl

pub first_miss-suc : (perms : Permissions) (kind : Kind) (addr len : ℕ)
    → first_miss perms kind addr (suc len) ≡ or_else (miss_at perms kind addr) (first_miss perms kind (addr + 1) len)
unfolding first_miss
first_miss-suc perms kind addr len = refl

-- an access in two parts
pub first_miss-append : (perms : Permissions) (kind : Kind) (addr k n : ℕ)
    → first_miss perms kind addr (k + n) ≡ or_else (first_miss perms kind addr k) (first_miss perms kind (addr + k) n)
unfolding first_miss
first_miss-append perms kind addr zero n = rw (zero-add, add-zero) refl
first_miss-append perms kind addr (suc k) n =
    let sum : suc k + n ≡ suc (k + n) = omega arith in
    let next : addr + suc k ≡ addr + 1 + k = omega arith in
    rw (sum, next)
    (ap (or_else (miss_at perms kind addr)) (first_miss-append perms kind (addr + 1) k n)
    ∙ or_else-assoc (miss_at perms kind addr) _ _)

-- a part of an access that is allowed is allowed
pub first_miss_part : (perms : Permissions) (kind : Kind) (addr len from n : ℕ) → from + n ≤ len → first_miss perms kind addr len ≡ None
    → first_miss perms kind (addr + from) n ≡ None
first_miss_part perms kind addr len from n within none =
    let split : len ≡ from + (n + (len - from - n)) = omega arith in
    let whole : first_miss perms kind addr (from + (n + (len - from - n))) ≡ None = ap (first_miss perms kind addr) (sym split) ∙ none in
    let rest = or_else_none _ _ (sym (first_miss-append perms kind addr from (n + (len - from - n))) ∙ whole) in
    let part = or_else_none _ _ (sym (first_miss-append perms kind (addr + from) n (len - from - n)) ∙ rest.1) in
    part.0

-- the first byte that isn't allowed, where it is the access's first
pub first_miss_at_once : (perms : Permissions) (kind : Kind) (addr len : ℕ) (miss : Miss) → 0 < len → miss_at perms kind addr ≡ Some miss
    → first_miss perms kind addr len ≡ Some miss
unfolding first_miss
first_miss_at_once perms kind addr zero miss some is = absurd (omega arith)
first_miss_at_once perms kind addr (suc len) miss some is = rw is refl

in_never_away : (page : Option ℕ) (kind : Kind) (addr slot : ℕ) → miss_in page kind addr ≡ Some (Away slot) → ⊥
in_never_away None kind addr slot h = cc
in_never_away (Some perms) kind addr slot h = denied_only (permits kind perms) addr slot h
  where
    denied_only : (b : Bool) (addr slot : ℕ) → cond b None (Some (Denied addr)) ≡ Some (Away slot) → ⊥
    denied_only true addr slot h = cc
    denied_only false addr slot h = cc

at_never_away : (b : Bool) (page : Option ℕ) (kind : Kind) (addr slot : ℕ) → cond b (Some (NonCanonical addr)) (miss_in page kind addr) ≡ Some (Away slot) → ⊥
at_never_away true page kind addr slot h = cc
at_never_away false page kind addr slot h = in_never_away page kind addr slot h

-- the first miss never tells of a page that is away
pub first_miss_never_away : (perms : Permissions) (kind : Kind) (addr len slot : ℕ) → first_miss perms kind addr len ≡ Some (Away slot) → ⊥
unfolding first_miss
first_miss_never_away perms kind addr zero slot h = cc
first_miss_never_away perms kind addr (suc len) slot h =
    either (miss_at perms kind addr) (first_miss perms kind (addr + 1) len)
    (at_never_away (is_noncanonical addr) (perms (addr / page_size)) kind addr slot)
    (first_miss_never_away perms kind (addr + 1) len slot) h
  where
    either : (a b : Option Miss) → (a ≡ Some (Away slot) → ⊥) → (b ≡ Some (Away slot) → ⊥) → or_else a b ≡ Some (Away slot) → ⊥
    either None b one two h = two h
    either (Some miss) b one two h = one h

denied_case : (b : Bool) (addr other : ℕ) → cond b None (Some (Denied addr)) ≡ None → cond b None (Some (Denied other)) ≡ None
denied_case true addr other h = refl
denied_case false addr other h = cc

allowed_in : (page : Option ℕ) (kind : Kind) (addr other : ℕ) → miss_in page kind addr ≡ None → miss_in page kind other ≡ None
allowed_in None kind addr other h = cc
allowed_in (Some perms) kind addr other h = denied_case (permits kind perms) addr other h

allowed_case : (b : Bool) (page : Option ℕ) (kind : Kind) (addr other : ℕ) → cond b (Some (NonCanonical addr)) (miss_in page kind addr) ≡ None
    → cond b (Some (NonCanonical other)) (miss_in page kind other) ≡ None
allowed_case true page kind addr other h = cc
allowed_case false page kind addr other h = allowed_in page kind addr other h

is_noncanonical_page : (addr other : ℕ) → addr / page_size ≡ other / page_size → is_noncanonical addr ≡ is_noncanonical other
is_noncanonical_page addr other same = ⊎_elim
    (λ (low : addr < 0x800000000000). let too : other < 0x800000000000 = omega arith in
    rw (lt-leb (2 ^ 47) addr low, lt-leb (2 ^ 47) other too) refl)
    (λ (high : 0x800000000000 ≤ addr). let too : 0x800000000000 ≤ other = omega arith in
    rw (le-leb (2 ^ 47) addr high, le-leb (2 ^ 47) other too)
    (⊎_elim
    (λ (below : addr < 0xFFFF800000000000). let also : other < 0xFFFF800000000000 = omega arith in
    rw (lt-ltb addr (2 ^ 64 - 2 ^ 47) below, lt-ltb other (2 ^ 64 - 2 ^ 47) also) refl)
    (λ (above : 0xFFFF800000000000 ≤ addr). let also : 0xFFFF800000000000 ≤ other = omega arith in
    rw (le-ltb addr (2 ^ 64 - 2 ^ 47) above, le-ltb other (2 ^ 64 - 2 ^ 47) also) refl)
    (cases_lt addr 0xFFFF800000000000)))
    (cases_lt addr 0x800000000000)

-- a page that allows an access to one of its bytes allows it to each
pub allowed_along : (perms : Permissions) (kind : Kind) (addr other : ℕ) → addr / page_size ≡ other / page_size → miss_at perms kind addr ≡ None
    → miss_at perms kind other ≡ None
allowed_along perms kind addr other same none =
    rw (← is_noncanonical_page addr other same, ← same) (allowed_case (is_noncanonical addr) (perms (addr / page_size)) kind addr other none)

-- the first bytes of a page that allows the access to one of them are passed over
pub first_miss_skip : (perms : Permissions) (kind : Kind) (addr k n : ℕ) → addr % page_size + k ≤ page_size → miss_at perms kind addr ≡ None
    → first_miss perms kind addr (k + n) ≡ first_miss perms kind (addr + k) n
unfolding first_miss
first_miss_skip perms kind addr zero n within none = rw (zero-add, add-zero) refl
first_miss_skip perms kind addr (suc zero) n within none =
    let sum : suc zero + n ≡ suc n = omega arith in
    let next : addr + suc zero ≡ addr + 1 = omega arith in
    rw (sum, next, none) refl
first_miss_skip perms kind addr (suc (suc k)) n within none =
    let sum : suc (suc k) + n ≡ suc (suc k + n) = omega arith in
    let next : addr + suc (suc k) ≡ addr + 1 + suc k = omega arith in
    rw (sum, next, none)
    (first_miss_skip perms kind (addr + 1) (suc k) n (omega arith) (allowed_along perms kind addr (addr + 1) (omega arith) none))

-- an access within one page that allows it to its first byte
pub first_miss_within : (perms : Permissions) (kind : Kind) (addr len : ℕ) → addr % page_size + len ≤ page_size → miss_at perms kind addr ≡ None
    → first_miss perms kind addr len ≡ None
first_miss_within perms kind addr len within none =
    let all : len ≡ len + 0 = sym (add-zero len) in
    ap (first_miss perms kind addr) all ∙ first_miss_skip perms kind addr len 0 within none ∙ first_miss-zero perms kind (addr + len)

pub bytes_at-zero : (byte : ℕ → ℕ) (addr : ℕ) → bytes_at byte addr 0 ≡ []
unfolding bytes_at
bytes_at-zero byte addr = refl

pub length-bytes_at : (byte : ℕ → ℕ) (addr len : ℕ) → length (bytes_at byte addr len) ≡ len
unfolding bytes_at
length-bytes_at byte addr zero = refl
length-bytes_at byte addr (suc len) = ap suc (length-bytes_at byte (addr + 1) len)

-- the bytes of an access in two parts
pub bytes_at-append : (byte : ℕ → ℕ) (addr k n : ℕ) → bytes_at byte addr (k + n) ≡ bytes_at byte addr k ++ bytes_at byte (addr + k) n
unfolding bytes_at
bytes_at-append byte addr zero n = rw (zero-add, add-zero) refl
bytes_at-append byte addr (suc k) n =
    let sum : suc k + n ≡ suc (k + n) = omega arith in
    let next : addr + suc k ≡ addr + 1 + k = omega arith in
    rw (sum, next) (ap (λ (bytes : List ℕ). byte addr ∷ bytes) (bytes_at-append byte (addr + 1) k n))

-- where two memories agree on the bytes of an access, its bytes are the same
pub bytes_at_same : (byte other : ℕ → ℕ) (addr len : ℕ) → ((i : ℕ) → i < len → byte (addr + i) ≡ other (addr + i))
    → bytes_at byte addr len ≡ bytes_at other addr len
unfolding bytes_at
bytes_at_same byte other addr zero same = refl
bytes_at_same byte other addr (suc len) same =
    let here : byte addr ≡ other addr = (rw add-zero at (same 0 (omega arith))) in
    let rest : bytes_at byte (addr + 1) len ≡ bytes_at other (addr + 1) len =
    bytes_at_same byte other (addr + 1) len (λ i h. let e : addr + 1 + i ≡ addr + suc i = omega arith in rw e (same (suc i) (omega arith))) in
    rw (here, rest) refl

-- the bytes that a list has from an index on, where memory agrees with it from an address on
pub bytes_at_listed : (byte : ℕ → ℕ) (addr len : ℕ) (bytes : List ℕ) (at : ℕ) → at + len ≤ length bytes
    → ((i : ℕ) → i < len → byte (addr + i) ≡ get_or bytes (at + i) 0) → take len (drop at bytes) ≡ bytes_at byte addr len
unfolding bytes_at
bytes_at_listed byte addr zero bytes at within same = refl
bytes_at_listed byte addr (suc len) bytes at within same =
    let first : byte addr ≡ get_or bytes at 0 = (rw (add-zero, add-zero) at (same 0 (omega arith))) in
    let inside : at < length bytes = omega arith in
    rw (drop_more bytes at 0 inside, first)
    (ap (λ (rest : List ℕ). get_or bytes at 0 ∷ rest)
    (bytes_at_listed byte (addr + 1) len bytes (at + 1) (omega arith)
    (λ i h. let e : addr + 1 + i ≡ addr + suc i = omega arith in let e2 : at + 1 + i ≡ at + suc i = omega arith in rw (e, e2) (same (suc i) (omega arith)))))

-- the test of a write at an address below it, in it and above it
pub below_write : (from at end : ℕ) → at < from → (nat_le from at && nat_lt at end) ≡ false
below_write from at end h = rw (lt-leb from at h) refl

pub in_write : (from at end : ℕ) → from ≤ at → at < end → (nat_le from at && nat_lt at end) ≡ true
in_write from at end h l = rw (le-leb from at h, lt-ltb at end l) refl

pub above_write : (from at end : ℕ) → from ≤ at → end ≤ at → (nat_le from at && nat_lt at end) ≡ false
above_write from at end h l = rw (le-leb from at h, le-ltb at end l) refl

pub written_below : (byte : ℕ → ℕ) (addr : ℕ) (bytes : List ℕ) (at : ℕ) → at < addr → written byte addr bytes at ≡ byte at
written_below byte addr bytes at h = rw (below_write addr at (addr + length bytes) h) refl

pub written_in : (byte : ℕ → ℕ) (addr : ℕ) (bytes : List ℕ) (at : ℕ) → addr ≤ at → at < addr + length bytes
    → written byte addr bytes at ≡ get_or bytes (at - addr) 0
written_in byte addr bytes at h l = rw (in_write addr at (addr + length bytes) h l) refl

pub written_above : (byte : ℕ → ℕ) (addr : ℕ) (bytes : List ℕ) (at : ℕ) → addr + length bytes ≤ at → written byte addr bytes at ≡ byte at
written_above byte addr bytes at h = rw (above_write addr at (addr + length bytes) (omega arith) h) refl

written_none_at : (byte : ℕ → ℕ) (addr at : ℕ) → written byte addr [] at ≡ byte at
written_none_at byte addr at = ⊎_elim
    (λ (h : at < addr). written_below byte addr [] at h)
    (λ (h : addr ≤ at). written_above byte addr [] at (omega arith))
    (cases_lt at addr)

-- a write of no bytes
pub written_none : (byte : ℕ → ℕ) (addr : ℕ) → written byte addr [] ≡ byte
written_none byte addr = λ i at. written_none_at byte addr at i

pub length_slice : (bytes : List ℕ) (from end : ℕ) → from ≤ end → end ≤ length bytes → length (slice_range bytes from end) ≡ end - from
length_slice bytes from end h l = length-take (end - from) (drop from bytes) ∙ (let rest : length (drop from bytes) ≡ length bytes - from = length-drop from bytes in rw rest (omega arith))

written_on_at : (byte : ℕ → ℕ) (addr : ℕ) (bytes : List ℕ) (from end : ℕ) → from ≤ end → end ≤ length bytes → (at : ℕ)
    → written (written byte addr (take from bytes)) (addr + from) (slice_range bytes from end) at ≡ written byte addr (take end bytes) at
written_on_at byte addr bytes from end h l at =
    let first : length (take from bytes) ≡ from = length-take-le from bytes (omega arith) in
    let whole : length (take end bytes) ≡ end = length-take-le end bytes l in
    let second : length (slice_range bytes from end) ≡ end - from = length_slice bytes from end h l in
    ⊎_elim
    (λ (low : at < addr).
    written_below (written byte addr (take from bytes)) (addr + from) (slice_range bytes from end) at (omega arith)
    ∙ written_below byte addr (take from bytes) at low
    ∙ sym (written_below byte addr (take end bytes) at low))
    (λ (low : addr ≤ at). ⊎_elim
    (λ (mid : at < addr + from).
    let in_first : at - addr < from = omega arith in
    let in_whole : at - addr < end = omega arith in
    written_below (written byte addr (take from bytes)) (addr + from) (slice_range bytes from end) at mid
    ∙ written_in byte addr (take from bytes) at low (rw first mid)
    ∙ get_or-take from bytes (at - addr) 0 in_first
    ∙ sym (written_in byte addr (take end bytes) at low (rw whole (omega arith)) ∙ get_or-take end bytes (at - addr) 0 in_whole))
    (λ (mid : addr + from ≤ at). ⊎_elim
    (λ (high : at < addr + end).
    let in_part : at < addr + from + length (slice_range bytes from end) = rw second (omega arith) in
    let in_second : at - (addr + from) < end - from = omega arith in
    let in_whole : at - addr < end = omega arith in
    let same : from + (at - (addr + from)) ≡ at - addr = omega arith in
    written_in (written byte addr (take from bytes)) (addr + from) (slice_range bytes from end) at mid in_part
    ∙ get_or-take (end - from) (drop from bytes) (at - (addr + from)) 0 in_second
    ∙ get_or-drop from bytes (at - (addr + from)) 0
    ∙ ap (λ (i : ℕ). get_or bytes i 0) same
    ∙ sym (written_in byte addr (take end bytes) at low (rw whole high) ∙ get_or-take end bytes (at - addr) 0 in_whole))
    (λ (high : addr + end ≤ at).
    written_above (written byte addr (take from bytes)) (addr + from) (slice_range bytes from end) at (rw second (omega arith))
    ∙ written_above byte addr (take from bytes) at (rw first mid)
    ∙ sym (written_above byte addr (take end bytes) at (rw whole high)))
    (cases_lt at (addr + end)))
    (cases_lt at (addr + from)))
    (cases_lt at addr)

-- two writes, the second going on where the first ended, are one
pub written_on : (byte : ℕ → ℕ) (addr : ℕ) (bytes : List ℕ) (from end : ℕ) → from ≤ end → end ≤ length bytes
    → written (written byte addr (take from bytes)) (addr + from) (slice_range bytes from end) ≡ written byte addr (take end bytes)
written_on byte addr bytes from end h l = λ i at. written_on_at byte addr bytes from end h l at i
