-- Lemmas on lists of buffers that are read record by record.
use Rattle.std.proofs.Common.{◌≡◌, ℕ, zero, suc, ◌+◌, ◌-◌, ◌*◌, ◌%◌, ◌≤◌, ◌<◌, ◌^◌, inl, inr, List, [], ◌∷◌, ◌++◌, Some, min, length, refl, sym, ap, ◌∙◌, arith, ⊎_elim}
use Rattle.machine_state.specs.declared.kinds.Kind.TheVariants.{Read}
use Rattle.machine_state.specs.declared.kinds.Miss.{Miss}
use Rattle.machine_state.specs.declared.kinds.Miss.TheVariants.{Away}
use Rattle.machine_state.specs.Memory.{page_size}
use Rattle.guest_pages.specs.Table.{blocked}
use Rattle.guest_pages.specs.Pages.{PagesValue, table_of}
use Rattle.guest_pages.proofs.Walks.{blocked_both, blocked_first}
use Rattle.guest_transfers.specs.declared.kinds.Piece.{Piece}
use Rattle.guest_transfers.specs.Buffers.{buffer_at, buffers_at, record_size}
use Rattle.guest_transfers.specs.Moves.{AreReadable, ListFaults, ListWaits, record_place}
use Rattle.guest_transfers.specs.Parts.{IsDenied, RecordStops}
use Rattle.guest_transfers.proofs.PartLemmas.{denied_first, single_part}

pub buffers-none : (byte : ℕ → ℕ) (addr : ℕ) → buffers_at byte addr 0 ≡ []
unfolding buffers_at
buffers-none byte addr = refl

-- a record more
pub buffers-next : (byte : ℕ → ℕ) (addr count : ℕ) → buffers_at byte addr (count + 1) ≡ buffers_at byte addr count ++ buffer_at byte (addr + record_size * count) ∷ []
unfolding buffers_at
buffers-next byte addr zero =
    let place : addr ≡ addr + record_size * 0 = omega arith in
    ap (λ (at : ℕ). buffer_at byte at ∷ []) place
buffers-next byte addr (suc count) =
    let sum : suc count + 1 ≡ suc (count + 1) = omega arith in
    let place : addr + record_size + record_size * count ≡ addr + record_size * suc count = omega arith in
    rw (sum, ← place) (ap (λ (rest : List Piece). buffer_at byte addr ∷ rest) (buffers-next byte (addr + record_size) count))

-- ---- where a list stops
module _ (pages : PagesValue) (addr count : ℕ) (old new : List Piece) (after : length old ≤ length new) (less : length new < count) (place : record_place addr (length new) < 2 ^ 64)
    (readable : AreReadable pages addr old (record_size * (length new - length old))) (miss : Miss) (stops : RecordStops (table_of pages) (record_place addr (length new)) miss) where
  before_it : AreReadable pages addr old (record_size * length new + stops.skip - record_size * length old)
  before_it =
      let sum : record_size * length new + stops.skip - record_size * length old ≡ record_size * (length new - length old) + stops.skip = omega arith in
      let there : record_place addr (length old) + record_size * (length new - length old) ≡ record_place addr (length new) = omega arith in
      rw sum (blocked_both (table_of pages) Read (record_place addr (length old)) (record_size * (length new - length old)) stops.skip readable (rw there stops.before))

  pub list_waits : (slot : ℕ) → miss ≡ Away slot → ListWaits pages addr count old new slot
  list_waits slot is =
      let skip = stops.skip in
      let short = stops.within in
      let done : ℕ = record_size * length new + skip in
      let here : record_place addr (length new) + skip ≡ addr + done = omega arith in
      let inside : done < record_size * count = omega (arith, short) in
      let own : ℕ = min (record_size - skip) (page_size - (addr + done) % page_size) in
      let whole : ℕ = min (record_size * count - done) (page_size - (addr + done) % page_size) in
      let stopped : blocked (table_of pages) Read (addr + done) own ≡ Some miss = rw here at stops.stopped in
      let first : blocked (table_of pages) Read (addr + done) 1 ≡ blocked (table_of pages) Read (addr + done) own =
      blocked_first (table_of pages) Read (addr + done) own (omega (arith, short)) (omega (arith, short)) in
      let all : blocked (table_of pages) Read (addr + done) 1 ≡ blocked (table_of pages) Read (addr + done) whole =
      blocked_first (table_of pages) Read (addr + done) whole (omega (arith, inside)) (omega (arith, inside)) in
      record {
        done = done;
        within = less;
        here = omega (arith, short);
        begins = ⊎_elim (λ (none : skip ≡ 0). inl (omega (arith, none))) (λ (page : (record_place addr (length new) + skip) % page_size ≡ 0). inr (omega (arith, page))) stops.begins;
        place = place;
        before = before_it;
        away = rw (single_part Read addr (record_size * count) done inside) (sym all ∙ first ∙ stopped ∙ ap Some is);
      }

  pub list_faults : IsDenied miss → ListFaults pages addr count old
  list_faults denied =
      let short = stops.within in
      let low : record_place addr (length old) + (record_size * length new + stops.skip - record_size * length old) ≡ record_place addr (length new) + stops.skip = omega arith in
      let first = denied_first (table_of pages) Read (record_place addr (length new) + stops.skip) (min (record_size - stops.skip) (page_size - (record_place addr (length new) + stops.skip) % page_size)) miss
      (omega (arith, short)) (omega (arith, short)) stops.stopped denied in
      record {
        done = record_size * length new + stops.skip - record_size * length old;
        within = omega (arith, short);
        before = before_it;
        denied = rw (low, first.1) refl;
      }
