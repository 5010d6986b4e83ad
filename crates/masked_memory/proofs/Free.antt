-- Bytes and lanes that can be accessed.
use Rattle.std.proofs.Common.{◌≡◌, ℕ, zero, suc, ◌+◌, ◌-◌, ◌*◌, ◌/◌, ◌%◌, ◌^◌, ◌<◌, ◌≤◌, Bool, true, false, cond, [], ◌∷◌, Option, Some, None, Ok, refl, ap, sym, ◌∙◌, arith, add-zero, ⊎_elim}
use Rattle.std.proofs.lemmas.Bool.{cases_lt}
use Rattle.std.proofs.lemmas.Nat.{div_below}
use Rattle.std.proofs.Math.Nat.{suc-mul, mul-le-mul_right}
use Rattle.machine_state.specs.declared.kinds.Kind.{Kind}
use Rattle.machine_state.specs.declared.kinds.Miss.{Miss}
use Rattle.machine_state.specs.declared.kinds.Miss.TheVariants.{NonCanonical, Unmapped}
use Rattle.machine_state.specs.Memory.{page_size, miss_at, is_noncanonical}
use Rattle.machine_state.proofs.MemoryLemmas.{first_miss-zero, allowed_along}
use Rattle.gpr_flags.specs.Numbers.{has_bit}
use Rattle.guest_pages.specs.Table.{Mapped, Table, perms_in, blocked, answer_of}
use Rattle.guest_pages.specs.Pages.{PagesValue, table_of}
use Rattle.guest_pages.specs.Laws.{FitMemory}
use Rattle.guest_pages.specs.Walk.{walk, stop_or}
use Rattle.guest_pages.proofs.Walks.{first_away-zero, blocked_part, blocked_both, blocked_within, ready_here}
use Rattle.masked_memory.specs.Lanes.{lane_place, lane_access, lane_accesses}
use Rattle.masked_memory.specs.Parts.{byte_place, is_in, HasLane, AreFree}
use Rattle.masked_memory.proofs.LaneWalks.{walk-none, walk-on, lane_free, lane-blocked}
use Rattle.masked_memory.proofs.Places.{place_on, lane_at, byte_of_lane}

-- bytes that can be accessed lie in the lower half of the addresses
abbrev pub AreLow : Table → Kind → Type 0
AreLow table kind = (at : ℕ) → blocked table kind at 1 ≡ None → at < 0x800000000000

pub low_pages : (pages : PagesValue) (kind : Kind) → FitMemory pages → AreLow (table_of pages) kind
low_pages pages kind fits at free = by_page (table_of pages (at / page_size)) refl
  where
    unmapped : (b : Bool) (at : ℕ) → cond b (Some (NonCanonical at)) (Some (Unmapped at)) ≡ None → ⊥
    unmapped true at h = cc
    unmapped false at h = cc

    by_page : (page : Option Mapped) → table_of pages (at / page_size) ≡ page → at < 0x800000000000
    by_page None is =
        let here : miss_at (perms_in (table_of pages)) kind at ≡ None = (ready_here (table_of pages) kind at 1 (omega arith) free).0 in
        absurd (unmapped (is_noncanonical at) at (rw is at here))
    by_page (Some mapped) is =
        let low : at / page_size < 2 ^ 47 / page_size = fits.low (at / page_size) (rw is refl) in omega arith

-- bytes each of which can be accessed can be accessed at once
free_bytes : (table : Table) (kind : Kind) (at n : ℕ) → ((j : ℕ) → j < n → blocked table kind (at + j) 1 ≡ None) → blocked table kind at n ≡ None
free_bytes table kind at zero free = rw (first_miss-zero (perms_in table) kind at, first_away-zero table at) refl
free_bytes table kind at (suc n) free =
    let next : suc n ≡ n + 1 = omega arith in
    ap (blocked table kind at) next
    ∙ blocked_both table kind at n 1 (free_bytes table kind at n (λ j h. free j (omega arith))) (free n (omega arith))

-- a page of which one byte can be accessed can be accessed anywhere
free_page : (table : Table) (kind : Kind) (at len j : ℕ) → at % page_size + len ≤ page_size → j < len → blocked table kind (at + j) 1 ≡ None
    → blocked table kind at len ≡ None
free_page table kind at len j within h free =
    let there = ready_here table kind (at + j) 1 (omega arith) free in
    let same : (at + j) / page_size ≡ at / page_size = omega arith in
    blocked_within table kind at len (omega arith) within (allowed_along (perms_in table) kind (at + j) at same there.0)
    ∙ rw same at there.1

-- ---- parts

-- a part that has a lane that can be accessed
pub part_free : (table : Table) (kind : Kind) (addr w mask from len end at : ℕ) → at ≡ byte_place addr from → at % page_size + len ≤ page_size
    → from + len ≤ end → AreFree table kind addr w mask 0 end → HasLane w mask from len → blocked table kind at len ≡ None
part_free table kind addr w mask from len end at is within most free has =
    let after = has.after in
    let before = has.before in
    let byte : has.byte ≡ from + (has.byte - from) = omega arith in
    let place : byte_place addr has.byte ≡ at + (has.byte - from) =
    ap (byte_place addr) byte ∙ place_on addr from (has.byte - from) (omega arith) ∙ ap (λ (a : ℕ). a + (has.byte - from)) (sym is) in
    free_page table kind at len (has.byte - from) within (omega arith)
    (ap (λ (a : ℕ). blocked table kind a 1) (sym place) ∙ free has.byte (omega arith) (omega arith) has.is)

-- the bytes of a part that can be accessed
pub part_asked : (table : Table) (kind : Kind) (addr w mask from len at : ℕ) → at ≡ byte_place addr from → at + len ≤ 0x800000000000
    → blocked table kind at len ≡ None → AreFree table kind addr w mask from len
part_asked table kind addr w mask from len at is low free k after before has =
    let byte : k ≡ from + (k - from) = omega arith in
    let place : byte_place addr k ≡ at + (k - from) =
    ap (byte_place addr) byte ∙ place_on addr from (k - from) (omega arith) ∙ ap (λ (a : ℕ). a + (k - from)) (sym is) in
    ap (λ (a : ℕ). blocked table kind a 1) place ∙ blocked_part table kind at len (k - from) 1 (omega arith) free

-- one part more
pub free_more : (table : Table) (kind : Kind) (addr w mask from len : ℕ) → AreFree table kind addr w mask 0 from
    → AreFree table kind addr w mask from len → AreFree table kind addr w mask 0 (from + len)
free_more table kind addr w mask from len first second k after before has = ⊎_elim
    (λ (below : k < from). first k after (omega arith) has)
    (λ (above : from ≤ k). second k above (omega arith) has)
    (cases_lt k from)

-- ---- lanes

walk_one : (table : Table) (kind : Kind) (place w : ℕ) (has : Bool) → (has ≡ true → blocked table kind place w ≡ None)
    → walk table (cond has (record { kind = kind; addr = place; len = w } ∷ []) []) ≡ None
unfolding walk
walk_one table kind place w true free = ap (λ (miss : Option Miss). stop_or kind miss None) (free refl)
walk_one table kind place w false free = refl

-- a byte of a lane that the mask has
lane_byte : (w mask i j : ℕ) → j < w → has_bit mask i ≡ true → is_in w mask (i * w + j) ≡ true
lane_byte w mask i j h has = ap (has_bit mask) (lane_at w i j h) ∙ has

-- a lane whose bytes can be accessed
lane_is_free : (table : Table) (kind : Kind) (addr w mask i n : ℕ) → w < 256 → AreLow table kind → AreFree table kind addr w mask 0 (n * w)
    → i < n → has_bit mask i ≡ true → blocked table kind (lane_place addr w i) w ≡ None
lane_is_free table kind addr w mask i n small low free h has =
    let rise : suc i * w ≤ n * w = mul-le-mul_right w h in
    let within : i * w + w ≤ n * w = omega (arith, suc-mul i w) in
    let at_byte : (j : ℕ) → j < w → blocked table kind (byte_place addr (i * w + j)) 1 ≡ None =
    λ j q. free (i * w + j) (omega arith) (omega arith) (lane_byte w mask i j q has) in
    free_bytes table kind (lane_place addr w i) w
    (λ j q.
    let first : blocked table kind (byte_place addr (i * w)) 1 ≡ None =
    ap (λ (k : ℕ). blocked table kind (byte_place addr k) 1) (sym (add-zero (i * w))) ∙ at_byte 0 (omega arith) in
    let under : byte_place addr (i * w) < 0x800000000000 = low (byte_place addr (i * w)) first in
    ap (λ (a : ℕ). blocked table kind a 1) (sym (place_on addr (i * w) j (omega arith))) ∙ at_byte j q)

lanes_are_free : (table : Table) (kind : Kind) (addr w mask n k : ℕ) → w < 256 → AreLow table kind → AreFree table kind addr w mask 0 (n * w)
    → k ≤ n → walk table (lane_accesses kind addr w mask k) ≡ None
unfolding lane_access
lanes_are_free table kind addr w mask n zero small low free h = walk-none table kind addr w mask
lanes_are_free table kind addr w mask n (suc k) small low free h =
    let next : suc k ≡ k + 1 = omega arith in
    ap (λ (m : ℕ). walk table (lane_accesses kind addr w mask m)) next
    ∙ walk-on table kind addr w mask k (lanes_are_free table kind addr w mask n k small low free (omega arith))
    (walk_one table kind (lane_place addr w k) w (has_bit mask k) (lane_is_free table kind addr w mask k n small low free (omega arith)))

-- where the bytes of the lanes can be accessed, no lane stops the walk
pub lanes_free : (table : Table) (kind : Kind) (addr w mask n : ℕ) → w < 256 → AreLow table kind → AreFree table kind addr w mask 0 (n * w)
    → walk table (lane_accesses kind addr w mask n) ≡ None
lanes_free table kind addr w mask n small low free = lanes_are_free table kind addr w mask n n small low free (omega arith)

-- and where none does, they can be
pub walked_free : (table : Table) (kind : Kind) (addr w mask n : ℕ) → 0 < w → AreLow table kind → walk table (lane_accesses kind addr w mask n) ≡ None
    → AreFree table kind addr w mask 0 (n * w)
walked_free table kind addr w mask n some low walked k after before has =
    let i : ℕ = k / w in
    let j : ℕ = k % w in
    let parts = byte_of_lane w k some in
    let lane : i < n = div_below k w n some (omega arith) in
    let free : blocked table kind (lane_place addr w i) w ≡ None =
    lane-blocked table kind addr w mask i (lane_free table kind addr w mask i n walked lane) has in
    let here : blocked table kind (lane_place addr w i + j) 1 ≡ None =
    blocked_part table kind (lane_place addr w i) w j 1 (let q : j < w = parts.1 in omega arith) free in
    let under : lane_place addr w i + j < 0x800000000000 = low (lane_place addr w i + j) here in
    let place : byte_place addr k ≡ lane_place addr w i + j =
    ap (byte_place addr) (sym parts.0) ∙ place_on addr (i * w) j (omega arith) in
    ap (λ (a : ℕ). blocked table kind a 1) place ∙ here

-- the bytes of a lane that can be accessed have addresses one behind the other
pub lane_low : (table : Table) (kind : Kind) (addr w mask n i : ℕ) → 0 < w → AreLow table kind → walk table (lane_accesses kind addr w mask n) ≡ None
    → i < n → has_bit mask i ≡ true → byte_place addr (i * w) + w ≤ 2 ^ 64
lane_low table kind addr w mask n i some low walked h has =
    let free : blocked table kind (lane_place addr w i) w ≡ None =
    lane-blocked table kind addr w mask i (lane_free table kind addr w mask i n walked h) has in
    let last : blocked table kind (lane_place addr w i + (w - 1)) 1 ≡ None =
    blocked_part table kind (lane_place addr w i) w (w - 1) 1 (omega arith) free in
    let under : lane_place addr w i + (w - 1) < 0x800000000000 = low (lane_place addr w i + (w - 1)) last in
    omega arith

-- an answer without a miss
pub ready_none : (miss : Option Miss) (u : Unit {0}) → Ok u ≡ answer_of miss → miss ≡ None
ready_none None u e = refl
ready_none (Some miss) u e = cc
