-- Lemmas on paths that are read part by part.
use Rattle.std.proofs.Common.{◌≡◌, ℕ, zero, suc, ◌+◌, ◌-◌, ◌≤◌, ◌<◌, ◌==◌, List, [], ◌∷◌, ◌++◌, Bool, true, false, cond, not, min, ◌%◌, Option, Some, None, nat_lt, refl, sym, ap, ◌∙◌, arith, ⊎_elim, take, length, append-nil, zero-add, add-zero}
use Rattle.std.specs.List.{position_or_len}
use Rattle.std.specs.Option.{option_map}
use Rattle.std.proofs.lemmas.List.{take-append-le}
use Rattle.std.proofs.Math.Seq.{take-append-add}
use Rattle.std.proofs.lemmas.Bool.{cases_lt, ne_eqb, lt-ltb, le-ltb}
use Rattle.machine_state.specs.declared.kinds.Kind.TheVariants.{Read}
use Rattle.machine_state.specs.declared.kinds.Access.{Access}
use Rattle.machine_state.specs.declared.kinds.Miss.{Miss}
use Rattle.machine_state.specs.Memory.{Memory, Swap, first_miss, miss_at, bytes_at, allowed_run, page_size}
use Rattle.machine_state.proofs.MemoryLemmas.{first_miss-suc, or_else_none, bytes_at-zero}
use Rattle.guest_pages.specs.Table.{blocked, perms_in}
use Rattle.guest_pages.specs.Pages.{PagesValue, byte_of, memory_of, table_of}
use Rattle.guest_transfers.specs.Moves.{IsPathReady, blocked_access}
use Rattle.guest_transfers.specs.Pieces.{part_at, single}
use Rattle.guest_transfers.proofs.PartLemmas.{asked-single, blocked_rest, ready_more, single_part}
use Rattle.guest_transfers.specs.Paths.{Text, TooLong, Fault, end_of, path_at, path_in, path_max}

-- ---- the first 0
end-cons : (x : ℕ) (xs : List ℕ) → end_of (x ∷ xs) ≡ cond (x == 0) (Some 0) (option_map suc (end_of xs))
end-cons x xs = by (x == 0)
  where
    place : ℕ
    place = position_or_len (λ byte. byte == 0) xs

    by : (b : Bool) → cond (nat_lt (cond (not b) (1 + place) 0) (suc (length xs))) (Some (cond (not b) (1 + place) 0)) None
        ≡ cond b (Some 0) (option_map suc (cond (nat_lt place (length xs)) (Some place) None))
    by true = rw (lt-ltb 0 (suc (length xs)) (omega arith)) refl
    by false = ⊎_elim
        (λ (inside : place < length xs).
        let next : 1 + place ≡ suc place = omega arith in
        rw (lt-ltb place (length xs) inside, lt-ltb (1 + place) (suc (length xs)) (omega arith), next) refl)
        (λ (past : length xs ≤ place). rw (le-ltb place (length xs) past, le-ltb (1 + place) (suc (length xs)) (omega arith)) refl)
        (cases_lt place (length xs))

none_left : (o : Option ℕ) → option_map suc o ≡ None → o ≡ None
none_left None h = refl
none_left (Some n) h = cc

append_case : (b : Bool) (o p : Option ℕ) (n end : ℕ) → cond b (Some 0) (option_map suc o) ≡ None → (o ≡ None → p ≡ Some (n + end))
    → cond b (Some 0) (option_map suc p) ≡ Some (suc n + end)
append_case true o p n end none rest = cc
append_case false o p n end none rest =
    let sum : suc (n + end) ≡ suc n + end = omega arith in
    rw (rest (none_left o none), sum) refl

-- where the bytes so far have no 0, it is that of the bytes behind them
pub end-append : (xs ys : List ℕ) (end : ℕ) → end_of xs ≡ None → end_of ys ≡ Some end → end_of (xs ++ ys) ≡ Some (length xs + end)
end-append [] ys end none some = rw zero-add some
end-append (x ∷ xs) ys end none some =
    end-cons x (xs ++ ys) ∙ append_case (x == 0) (end_of xs) (end_of (xs ++ ys)) (length xs) end (sym (end-cons x xs) ∙ none) (λ left. end-append xs ys end left some)

found_at : (o : Option ℕ) (end : ℕ) → option_map suc o ≡ Some end → (place : ℕ) × (o ≡ Some place) × (end ≡ suc place)
found_at None end h = cc
found_at (Some n) end h = (n, refl, cc)

within_case : (b : Bool) (o p : Option ℕ) (n end : ℕ) → cond b (Some 0) (option_map suc o) ≡ Some end → ((place : ℕ) → o ≡ Some place → (place < n) × (p ≡ Some place))
    → (end < suc n) × (cond b (Some 0) (option_map suc p) ≡ Some end)
within_case true o p n end is rest = let zero_is : 0 ≡ end = cc in (omega (arith, zero_is), ap Some zero_is)
within_case false o p n end is rest =
    let place = found_at o end is in
    let there = rest place.0 place.1 in
    let next = place.2 in
    let inside = there.0 in
    (omega (arith, next, inside), ap (option_map suc) there.1 ∙ ap Some (sym next))

none_case : (b : Bool) (o p : Option ℕ) → cond b (Some 0) (option_map suc o) ≡ None → (o ≡ None → p ≡ None) → cond b (Some 0) (option_map suc p) ≡ None
none_case true o p none rest = cc
none_case false o p none rest = rw (rest (none_left o none)) refl

-- a first 0 stays it where more bytes follow
pub end-within : (xs ys : List ℕ) (end : ℕ) → end_of xs ≡ Some end → (end < length xs) × (end_of (xs ++ ys) ≡ Some end)
end-within [] ys end some = cc
end-within (x ∷ xs) ys end some =
    let both = within_case (x == 0) (end_of xs) (end_of (xs ++ ys)) (length xs) end (sym (end-cons x xs) ∙ some) (λ place there. end-within xs ys place there) in
    (both.0, end-cons x (xs ++ ys) ∙ both.1)

-- where neither has a 0, both have none
pub end-none : (xs ys : List ℕ) → end_of xs ≡ None → end_of ys ≡ None → end_of (xs ++ ys) ≡ None
end-none [] ys none more = more
end-none (x ∷ xs) ys none more =
    end-cons x (xs ++ ys) ∙ none_case (x == 0) (end_of xs) (end_of (xs ++ ys)) (sym (end-cons x xs) ∙ none) (λ left. end-none xs ys left more)

-- ---- the bytes of a path
run-next : (memory : Memory) (addr most : ℕ) → miss_at memory.perms Read addr ≡ None
    → allowed_run memory Read addr (suc most) ≡ memory.byte addr ∷ allowed_run memory Read (addr + 1) most
unfolding allowed_run
run-next memory addr most none = rw (allowed_run, none) refl

bytes-next : (byte : ℕ → ℕ) (addr n : ℕ) → bytes_at byte addr (suc n) ≡ byte addr ∷ bytes_at byte (addr + 1) n
unfolding bytes_at
bytes-next byte addr n = refl

-- bytes that can be read stand at the front
pub run_on : (memory : Memory) (addr n most : ℕ) → first_miss memory.perms Read addr n ≡ None → n ≤ most
    → allowed_run memory Read addr most ≡ bytes_at memory.byte addr n ++ allowed_run memory Read (addr + n) (most - n)
run_on memory addr zero most none le =
    let all : most - 0 ≡ most = omega arith in
    rw (all, add-zero addr, bytes_at-zero memory.byte addr) refl
run_on memory addr (suc n) zero none le = absurd (omega arith)
run_on memory addr (suc n) (suc most) none le =
    let both : (miss_at memory.perms Read addr ≡ None) × (first_miss memory.perms Read (addr + 1) n ≡ None) = or_else_none _ _ (sym (first_miss-suc memory.perms Read addr n) ∙ none) in
    let place : addr + suc n ≡ addr + 1 + n = omega arith in
    let left : suc most - suc n ≡ most - n = omega arith in
    rw (place, left, run-next memory addr most both.0, bytes-next memory.byte addr n) (ap (λ (xs : List ℕ). memory.byte addr ∷ xs) (run_on memory (addr + 1) n most both.1 (omega arith)))

-- none stand there from a byte on that can't
pub run_ended : (memory : Memory) (addr most : ℕ) (miss : Miss) → miss_at memory.perms Read addr ≡ Some miss → allowed_run memory Read addr most ≡ []
unfolding allowed_run
run_ended memory addr zero miss is = refl
run_ended memory addr (suc most) miss is = rw (allowed_run, is) refl

pub run_none : (memory : Memory) (addr : ℕ) → allowed_run memory Read addr 0 ≡ []
unfolding allowed_run
run_none memory addr = refl

-- ---- what comes of a path
-- its bytes are those before the first 0
pub path_text : (text bytes rest : List ℕ) (end : ℕ) → end_of text ≡ None → end_of bytes ≡ Some end → path_in (text ++ (bytes ++ rest)) ≡ Text (text ++ take end bytes)
path_text text bytes rest end none some =
    let found = end-within bytes rest end some in
    let inside = found.0 in
    rw (end-append text (bytes ++ rest) end none found.1, take-append-add text (bytes ++ rest) end, take-append-le end bytes rest (omega arith)) refl

pub path_long : (bytes : List ℕ) → length bytes ≡ path_max → end_of bytes ≡ None → path_in bytes ≡ TooLong
path_long bytes len none = rw (none, len) refl

pub path_fault : (bytes : List ℕ) → length bytes < path_max → end_of bytes ≡ None → path_in bytes ≡ Fault
path_fault bytes short none = rw (none, ne_eqb (length bytes) path_max (λ e. absurd (omega (arith, e)))) refl

-- ---- paths in memory
module _ (pages : PagesValue) (addr : ℕ) (w : Swap) (text : List ℕ) (n : ℕ) (count : length text ≡ n) (text_is : text ≡ bytes_at (byte_of pages w) addr n) (readable : first_miss (perms_in (table_of pages)) Read addr n ≡ None) (none : end_of text ≡ None) where
  run_text : n ≤ path_max → allowed_run (memory_of pages w) Read addr path_max ≡ text ++ allowed_run (memory_of pages w) Read (addr + n) (path_max - n)
  unfolding memory_of
  run_text le = run_on (memory_of pages w) addr n path_max readable le ∙ ap (λ (xs : List ℕ). xs ++ allowed_run (memory_of pages w) Read (addr + n) (path_max - n)) (sym text_is)

  run_part : (len most : ℕ) (bytes : List ℕ) → bytes ≡ bytes_at (byte_of pages w) (addr + n) len → first_miss (perms_in (table_of pages)) Read (addr + n) len ≡ None → len ≤ most
      → allowed_run (memory_of pages w) Read (addr + n) most ≡ bytes ++ allowed_run (memory_of pages w) Read (addr + n + len) (most - len)
  unfolding memory_of
  run_part len most bytes is part le =
      run_on (memory_of pages w) (addr + n) len most part le ∙ ap (λ (xs : List ℕ). xs ++ allowed_run (memory_of pages w) Read (addr + n + len) (most - len)) (sym is)

  run_miss : (most : ℕ) (miss : Miss) → miss_at (perms_in (table_of pages)) Read (addr + n) ≡ Some miss → allowed_run (memory_of pages w) Read (addr + n) most ≡ []
  unfolding memory_of
  run_miss most miss is = run_ended (memory_of pages w) (addr + n) most miss is

  pub found_path : (len end : ℕ) (bytes : List ℕ) → bytes ≡ bytes_at (byte_of pages w) (addr + n) len → first_miss (perms_in (table_of pages)) Read (addr + n) len ≡ None
      → n + len ≤ path_max → end_of bytes ≡ Some end → path_at (memory_of pages w) addr ≡ Text (text ++ take end bytes)
  found_path len end bytes is part le some =
      ap path_in (run_text (omega arith) ∙ ap (λ (xs : List ℕ). text ++ xs) (run_part len (path_max - n) bytes is part (omega arith)))
      ∙ path_text text bytes (allowed_run (memory_of pages w) Read (addr + n + len) (path_max - n - len)) end none some

  pub long_path : n ≡ path_max → path_at (memory_of pages w) addr ≡ TooLong
  long_path whole =
      let left : path_max - n ≡ 0 = omega (arith, whole) in
      ap path_in (run_text (omega (arith, whole)) ∙ ap (λ (xs : List ℕ). text ++ xs) (ap (allowed_run (memory_of pages w) Read (addr + n)) left ∙ run_none (memory_of pages w) (addr + n)) ∙ append-nil text)
      ∙ path_long text (count ∙ whole) none

  pub fault_path : (miss : Miss) → n < path_max → miss_at (perms_in (table_of pages)) Read (addr + n) ≡ Some miss → path_at (memory_of pages w) addr ≡ Fault
  fault_path miss less is =
      ap path_in (run_text (omega arith) ∙ ap (λ (xs : List ℕ). text ++ xs) (run_miss (path_max - n) miss is) ∙ append-nil text)
      ∙ path_fault text (omega (arith, count)) none

-- one more part of a path is ready
pub path_ready_more : (pages : PagesValue) (addr n len to : ℕ) → IsPathReady pages addr n → n < path_max → len ≡ min (path_max - n) (page_size - (addr + n) % page_size)
    → blocked (table_of pages) Read (addr + n) len ≡ None → to ≤ n + len → IsPathReady pages addr to
path_ready_more pages addr n len to ready less is free le =
    let part : Access = record { kind = Read; addr = addr + n; len = len } in
    let here : part ≡ part_at Read (single addr path_max) n = rw is (sym (single_part Read addr path_max n less)) in
    ready_more (blocked_access (table_of pages)) (blocked_rest (table_of pages)) Read (single addr path_max) 0 n to part here ready (omega (arith, less, asked-single addr path_max)) free le
