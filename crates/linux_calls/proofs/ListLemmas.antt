-- Lists of buffers, in parts.
use Rattle.std.proofs.Common.{◌≡◌, ℕ, zero, suc, ◌+◌, ◌-◌, ◌*◌, ◌≤◌, false, not, List, [], ◌∷◌, ◌++◌, length, Option, Some, None, IsSome}
use Rattle.std.proofs.lemmas.Bool.{cases_lt}
use Rattle.std.proofs.Common.{◌<◌, ◌⊎◌, inl, inr, ⊎_elim, Result, is_none, Err, refl, sym, ap, ◌∙◌, subst, arith, add-zero, append_assoc, length-append}
use Rattle.machine_state.specs.Memory.{Swap, miss_at, first_miss, or_else}
use Rattle.machine_state.specs.World.{World}
use Rattle.machine_state.specs.declared.kinds.Kind.TheVariants.{Read}
use Rattle.machine_state.specs.declared.kinds.Miss.{Miss}
use Rattle.machine_state.proofs.MemoryLemmas.{first_miss_part, first_miss-append, first_miss-suc, or_else_none}
use Rattle.guest_pages.specs.Table.{perms_in, blocked, first_away}
use Rattle.guest_pages.specs.Pages.{PagesValue, table_of, byte_of, memory_of}
use Rattle.guest_pages.proofs.Walks.{blocked_part}
use Rattle.guest_files.specs.Checks.{first_failing}
use Rattle.guest_files.specs.Errnos.{einval}
use Rattle.guest_transfers.specs.Pieces.{asked, most_asked}
use Rattle.guest_transfers.specs.Buffers.{buffer_at, buffers_at, most_buffers, record_size}
use Rattle.guest_transfers.specs.Moves.{AreRead, AreReadable, ListFaults, ListWaits, record_place}
use Rattle.guest_transfers.specs.declared.kinds.Piece.{Piece}
use Rattle.linux_calls.specs.declared.kinds.Halt.{Halt}
use Rattle.linux_calls.specs.declared.kinds.Halt.TheVariants.{Need, Refused}
use Rattle.linux_calls.specs.declared.kinds.Stage.TheVariants.{Listing}
use Rattle.linux_calls.specs.declared.kinds.Transfer.{Transfer}
use Rattle.linux_calls.specs.Errnos.{efault}
use Rattle.linux_calls.specs.Call.{Called, refuses, unless, rsi, rdx}
use Rattle.linux_calls.specs.Transfers.{joined_transfer, list_rest}
use Rattle.linux_calls.specs.Rest.{listing_rest, rest_of, transfer_of}
use Rattle.linux_calls.specs.View.{View, with_parts}
use Rattle.linux_calls.specs.Waiting.{IsListed, IsListedBy, IsNeeded}
use Rattle.linux_calls.specs.Following.{DoesPart}
use Rattle.linux_calls.specs.Units.{GoesOn, WaitsIn, list_rank, listing_from, moving_from, record_pages, standing_at, unit_pages, unit_rank}
use Rattle.linux_calls.proofs.UnitLemmas.{left_le}
use Rattle.linux_calls.proofs.WaitLemmas.{waits_below}

buffers-append : (byte : ℕ → ℕ) (at m n : ℕ) → buffers_at byte at (m + n) ≡ buffers_at byte at m ++ buffers_at byte (at + record_size * m) n
unfolding buffers_at
buffers-append byte at zero n =
    let sum : 0 + n ≡ n = omega arith in
    let place : at + 16 * 0 ≡ at = omega arith in
    rw (sum, place) refl
buffers-append byte at (suc m) n =
    let sum : suc m + n ≡ suc (m + n) = omega arith in
    let place : at + 16 * suc m ≡ at + 16 + 16 * m = omega arith in
    rw (sum, place) (ap (λ (ps : List Piece). buffer_at byte at ∷ ps) (buffers-append byte (at + 16) m n))

length-buffers : (byte : ℕ → ℕ) (at n : ℕ) → length (buffers_at byte at n) ≡ n
unfolding buffers_at
length-buffers byte at zero = refl
length-buffers byte at (suc n) = ap suc (length-buffers byte (at + 16) n)

pub no_swap : Swap
no_swap page = []

-- what was read is behind what stood there
pub longer : (pages : PagesValue) (addr : ℕ) (old new : List Piece) → AreRead pages addr old new (length new) → length old ≤ length new
longer pages addr old new read =
    let all = ap (λ (ps : List Piece). length ps) (read no_swap) in
    let more = length-append old (buffers_at (byte_of pages no_swap) (record_place addr (length old)) (length new - length old)) in
    omega arith

module _ (transfer : Transfer) (v : View) (old new : List Piece) where
  abbrev addr : ℕ
  addr = rsi v.gprs

  abbrev count : ℕ
  count = rdx v.gprs

  free : (len : ℕ) → AreReadable v.pages addr old len → first_miss (perms_in (table_of v.pages)) Read (record_place addr (length old)) len ≡ None
  free len readable = (or_else_none (first_miss (perms_in (table_of v.pages)) Read (record_place addr (length old)) len) (first_away (table_of v.pages) (record_place addr (length old)) len) readable).0

  pub list_whole : AreRead v.pages addr old new count → AreReadable v.pages addr old (record_size * (count - length old)) → (swap : Swap) (base : World)
      → list_rest transfer old (with_parts swap v base) ≡ joined_transfer transfer new (with_parts swap v base)
  unfolding list_rest memory_of
  list_whole read readable swap base = rw (free (record_size * (count - length old)) readable) (ap (λ (ps : List Piece). joined_transfer transfer ps (with_parts swap v base)) (sym (read swap)))

  missed : ListFaults v.pages addr count old → (o : Option Miss) → first_miss (perms_in (table_of v.pages)) Read (record_place addr (length old)) (record_size * (count - length old)) ≡ o → is_none o ≡ false
  missed faults None e = absurd (
      let within = faults.within in
      let one = first_miss_part (perms_in (table_of v.pages)) Read (record_place addr (length old)) (record_size * (count - length old)) faults.done 1 (omega arith) e in
      let here = or_else_none (miss_at (perms_in (table_of v.pages)) Read (record_place addr (length old) + faults.done)) (first_miss (perms_in (table_of v.pages)) Read (record_place addr (length old) + faults.done + 1) 0)
      (sym (first_miss-suc (perms_in (table_of v.pages)) Read (record_place addr (length old) + faults.done) 0) ∙ one) in
      let never : IsSome {T = Miss} None = subst (λ (o : Option Miss). IsSome o) here.0 faults.denied in cc
      )
  missed faults (Some miss) e = refl

  pub list_fault : ListFaults v.pages addr count old → (swap : Swap) (base : World) → list_rest transfer old (with_parts swap v base) ≡ refuses efault (with_parts swap v base)
  unfolding list_rest memory_of
  list_fault faults swap base =
      rw (missed faults (first_miss (perms_in (table_of v.pages)) Read (record_place addr (length old)) (record_size * (count - length old))) refl) refl

  checked : Option Miss → List Piece → World → Called
  checked o pieces w = unless (first_failing ((not (is_none o), efault) ∷ [])) w (joined_transfer transfer pieces w)

  pub list_more : (slot : ℕ) → AreRead v.pages addr old new (length new) → ListWaits v.pages addr count old new slot → (swap : Swap) (base : World)
      → list_rest transfer new (with_parts swap v base) ≡ list_rest transfer old (with_parts swap v base)
  unfolding list_rest memory_of checked
  list_more slot read waits swap base =
      let w = with_parts swap v base in
      let byte = byte_of v.pages swap in
      let perms = perms_in (table_of v.pages) in
      let le = longer v.pages addr old new read in
      let within = waits.within in
      let done_is = waits.here in
      let k = length new - length old in
      let left = count - length new in
      let from = record_place addr (length old) in
      let all : count - length old ≡ k + left = omega arith in
      let bytes : record_size * (count - length old) ≡ record_size * k + record_size * left = omega arith in
      let there : record_place addr (length new) ≡ from + record_size * k = omega arith in
      let front : first_miss perms Read (from + 0) (record_size * k) ≡ None =
      first_miss_part perms Read from (waits.done - record_size * length old) 0 (record_size * k) (omega arith) (free (waits.done - record_size * length old) waits.before) in
      let front_is : first_miss perms Read from (record_size * k) ≡ None = ap (λ (n : ℕ). first_miss perms Read n (record_size * k)) (sym (add-zero from)) ∙ front in
      let misses : first_miss perms Read (record_place addr (length new)) (record_size * left) ≡ first_miss perms Read from (record_size * (count - length old)) =
      ap (λ (n : ℕ). first_miss perms Read n (record_size * left)) there
      ∙ ap (λ (o : Option Miss). or_else o (first_miss perms Read (from + record_size * k) (record_size * left))) (sym front_is)
      ∙ sym (first_miss-append perms Read from (record_size * k) (record_size * left)) ∙ ap (first_miss perms Read from) (sym bytes) in
      let pieces : new ++ buffers_at byte (record_place addr (length new)) left ≡ old ++ buffers_at byte from (count - length old) =
      ap (λ (ps : List Piece). ps ++ buffers_at byte (record_place addr (length new)) left) (read swap)
      ∙ ap (λ (n : ℕ). old ++ buffers_at byte from k ++ buffers_at byte n left) there
      ∙ append_assoc old (buffers_at byte from k) (buffers_at byte (from + record_size * k) left)
      ∙ ap (λ (ps : List Piece). old ++ ps) (sym (buffers-append byte from k left))
      ∙ ap (λ (n : ℕ). old ++ buffers_at byte from n) (sym all) in
      ap (λ (o : Option Miss). checked o (new ++ buffers_at byte (record_place addr (length new)) left) w) misses
      ∙ ap (λ (ps : List Piece). checked (first_miss perms Read from (record_size * (count - length old))) ps w) pieces

  abbrev listing : View
  listing = record v { progress = record { stage = Listing; pieces = new } }

  pub list_away : (slot : ℕ) → transfer_of v.gprs v.files 0 ≡ Some transfer → AreRead v.pages addr old new (length new) → ListWaits v.pages addr count old new slot
      → DoesPart (list_rest transfer old) v listing (Err (Need slot))
  unfolding rest_of
  list_away slot is read waits swap base =
      ap (λ (t : Option Transfer). listing_rest t new (with_parts swap v base)) is ∙ list_more slot read waits swap base

  pub list_needs : (slot : ℕ) → transfer_of v.gprs v.files 0 ≡ Some transfer → IsListed transfer → count ≤ most_buffers → AreRead v.pages addr old new (length new)
      → ListWaits v.pages addr count old new slot → IsNeeded listing slot
  list_needs slot is listed most read waits =
      let le = longer v.pages addr old new read in
      let within = waits.within in
      let done_is = waits.here in
      let there : record_place addr (length new) ≡ record_place addr (length old) + record_size * (length new - length old) = omega arith in
      let part = blocked_part (table_of v.pages) Read (record_place addr (length old)) (waits.done - record_size * length old) (record_size * (length new - length old)) (waits.done - record_size * length new) (omega arith) waits.before in
      record {
        needs = record {
          done = waits.done;
          within = waits.within;
          here = waits.here;
          begins = waits.begins;
          place = waits.place;
          before = ap (λ (n : ℕ). blocked (table_of v.pages) Read n (waits.done - record_size * length new)) there ∙ part;
          away = waits.away;
        };
        can_go_on = record {
          listed = subst (λ (t : Option Transfer). IsListedBy t) (sym is) listed;
          most = most;
          within = omega arith;
          place = waits.place;
        };
      }

  -- a list that waits has more of its records, or stands at the same one
  pub list_goes : (slot : ℕ) → count ≤ most_buffers → AreRead v.pages addr old new (length new) → ListWaits v.pages addr count old new slot
      → GoesOn (standing_at v (listing_from old)) listing
  unfolding unit_rank unit_pages
  list_goes slot most read waits =
      let le = longer v.pages addr old new read in
      let within = waits.within in
      record {
        most = omega arith;
        unit = ⊎_elim
            (λ (less : length old < length new). inl (omega arith))
            (λ (none : length new ≤ length old). inr (
            let same : length new ≡ length old = omega arith in
            record { rank = ap (list_rank v.gprs) same; pages = ap (record_pages v.gprs) same; table = refl; recent = refl }))
            (cases_lt (length old) (length new));
        calls = refl;
      }

  -- a list that was read goes on with its transfer
  pub list_joins : (after : View) (result : Result ℕ Halt) → (most_asked < asked new → result ≡ Err (Refused einval))
      → WaitsIn (standing_at v (moving_from new 0)) after result → WaitsIn (standing_at v (listing_from old)) after result
  unfolding unit_rank
  list_joins after result refused waits = ⊎_elim
      (λ (more : most_asked < asked new). subst (λ (r : Result ℕ Halt). WaitsIn (standing_at v (listing_from old)) after r) (sym (refused more)) tt)
      (λ (fit : asked new ≤ most_asked).
      let le = left_le new 0 in
      waits_below (standing_at v (listing_from old)) (standing_at v (moving_from new 0)) after result (omega (arith, le, fit)) (omega arith) refl waits)
      (cases_lt most_asked (asked new))
