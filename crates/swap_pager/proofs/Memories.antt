-- Lemmas on the memory that pages and a swap stand for, where a page leaves or comes.
use Rattle.std.proofs.Common.{◌≡◌, ◌≢◌, ℕ, ◌/◌, ◌%◌, ◌<◌, ◌==◌, List, Bool, true, false, cond, Option, Some, None, is_some, ◌⊎◌, inl, inr, get_or, refl, sym, ap, ◌∙◌, arith, subst, ⊎_elim}
use Rattle.std.specs.Option.{option_map}
use Rattle.std.proofs.lemmas.Bool.{eq-eqb, ne_eqb, cases_eq, false≢true}
use Rattle.machine_state.specs.Memory.{page_size, Swap, Permissions}
use Rattle.host_edge.specs.Files.{Held}
use Rattle.guest_pages.specs.declared.entry.Mark.{Mark}
use Rattle.guest_pages.specs.declared.entry.Mark.TheVariants.{Fresh, Saved, Written}
use Rattle.guest_pages.specs.Table.{Mapped, Table, perms_in, with_entry}
use Rattle.guest_pages.specs.Pages.{PagesValue, table_of, byte_of, mark_of, is_swapped, memory_of}
use Rattle.guest_pages.specs.Changes.{AreBytesOf, IsLeft, IsEntered, Marks, away_byte, is_kept, is_unsaved}
use Rattle.guest_pages.specs.Order.{is_recent}
use Rattle.guest_pages.specs.Together.{AreClean, is_clean}
use Rattle.guest_pages.proofs.Laws.{pages_slots}
use Rattle.guest_pages.proofs.Togethers.{pages_placed, byte_elsewhere}
use Rattle.swap_pager.specs.Bringing.{IsSaved, framed_by}

-- what a swap holds where a page gave its frame up: the page's bytes if it had unsaved ones, and no other change
pub record IsSwapAfter (pages : PagesValue) (slot page : ℕ) (unsaved : Bool) (swap after : Swap) : Type 0 where
  pub others : (other : ℕ) → other ≢ slot → after other ≡ swap other
  pub read : unsaved ≡ false → after slot ≡ swap slot
  pub written : unsaved ≡ true → AreBytesOf pages page (after slot)

pub saved_after : (unsaved : Bool) (pages : PagesValue) (slot page : ℕ) (held : Held) (before now : Option Held) → before ≡ Some held → IsSaved unsaved pages slot page before now
    → (after : Held) × (now ≡ Some after) × IsSwapAfter pages slot page unsaved held.page after.page
saved_after true pages slot page held before now told saved =
    let there = saved.related held told in
    let puts = there.2 in (
      there.0,
      there.1,
      record {
        others = λ other apart. puts.put.others.pages other apart;
        read = λ h. absurd (false≢true (sym h));
        written = λ h. subst (λ (bytes : List ℕ). AreBytesOf pages page bytes) (sym puts.put.is_put) puts.are;
      },
    )
saved_after false pages slot page held before now told same =
    (held, same ∙ told, record { others = λ other apart. refl; read = λ h. refl; written = λ h. absurd (false≢true h) })

-- a page in a frame has one of the three marks
mark_case : (mark : Option Mark) → is_some mark ≡ true → (is_clean mark ≡ true) × (is_unsaved mark ≡ false) ⊎ (mark ≡ Some Written)
mark_case None h = absurd (false≢true h)
mark_case (Some Fresh) h = inl (refl, refl)
mark_case (Some Saved) h = inl (refl, refl)
mark_case (Some Written) h = inr refl

module _ (old new : PagesValue) (page : ℕ) (mapped : Mapped) (there : table_of old page ≡ Some mapped) (resident : mapped.resident ≡ true) (left : IsLeft old new page mapped) (swap after : Swap)
    (saved : IsSwapAfter old mapped.slot page (is_unsaved (mark_of old page)) swap after) (clean : AreClean old swap) where
  here : (addr : ℕ) → addr / page_size ≡ page → away_byte (is_kept (mark_of old page)) (after mapped.slot) (addr % page_size) ≡ byte_of old swap addr
  here addr on = ⊎_elim
      (λ (h : (is_clean (mark_of old page) ≡ true) × (is_unsaved (mark_of old page) ≡ false)).
      rw (saved.read h.1) (sym (clean.clean page mapped there h.0 addr on)))
      (λ (marked : mark_of old page ≡ Some Written).
      let bytes = saved.written (rw marked refl) in
      rw marked (sym (bytes.shown swap addr on)))
      (mark_case (mark_of old page) (let placed = pages_placed old swap page mapped there in placed.frame ∙ resident))

  off : (addr : ℕ) → addr / page_size ≢ page → byte_of old after addr ≡ byte_of old swap addr
  off addr apart = byte_elsewhere old addr after swap (λ other is.
      saved.others other.slot (λ same. apart ((pages_slots old).apart (addr / page_size) page other mapped is there same)))

  -- memory stays where a page leaves
  pub left_byte : (addr : ℕ) → byte_of new after addr ≡ byte_of old swap addr
  left_byte addr = ⊎_elim
      (λ (on : addr / page_size ≡ page). left.byte after addr ∙ rw (eq-eqb (addr / page_size) page on) (here addr on))
      (λ (apart : addr / page_size ≢ page). left.byte after addr ∙ rw (ne_eqb (addr / page_size) page apart) (off addr apart))
      (cases_eq (addr / page_size) page)

  -- and what wasn't written equals what the swap or the zeros give
  pub left_clean : AreClean new after
  left_clean = record {
    clean = λ other entry is unwritten addr on. ⊎_elim
        (λ (same : other ≡ page).
        let gone : mark_of new other ≡ None = ap (λ (m : Marks). m other) left.marks ∙ rw (eq-eqb other page same) refl in
        absurd (false≢true (rw gone at unwritten)))
        (λ (apart : other ≢ page).
        let mark : mark_of new other ≡ mark_of old other = ap (λ (m : Marks). m other) left.marks ∙ rw (ne_eqb other page apart) refl in
        let was : table_of old other ≡ Some entry = sym (ap (λ (t : Table). t other) left.table ∙ rw (ne_eqb other page apart) refl) ∙ is in
        let slots : after entry.slot ≡ swap entry.slot = saved.others entry.slot (λ same. apart ((pages_slots old).apart other page entry mapped was there same)) in
        left_byte addr ∙ clean.clean other entry was (rw (← mark) unwritten) addr on ∙ rw (mark, slots) refl)
        (cases_eq other page);
  }

kept_case : (swapped : Bool) → is_kept (Some (cond swapped Saved Fresh)) ≡ swapped
kept_case true = refl
kept_case false = refl

module _ (old new : PagesValue) (page : ℕ) (mapped : Mapped) (bytes : List ℕ) (there : table_of old page ≡ Some mapped) (away : mapped.resident ≡ false) (entered : IsEntered old new page mapped bytes) (swap : Swap)
    (are : (at : ℕ) → at < page_size → get_or bytes at 0 ≡ away_byte (is_swapped old page) (swap mapped.slot) at) where
  -- memory stays where a page comes
  pub entered_byte : (addr : ℕ) → byte_of new swap addr ≡ byte_of old swap addr
  entered_byte addr = ⊎_elim
      (λ (on : addr / page_size ≡ page).
      let placed = pages_placed old swap page mapped there in
      entered.byte swap addr ∙ rw (eq-eqb (addr / page_size) page on) (are (addr % page_size) (omega arith) ∙ sym (placed.away away addr on)))
      (λ (apart : addr / page_size ≢ page). entered.byte swap addr ∙ rw (ne_eqb (addr / page_size) page apart) refl)
      (cases_eq (addr / page_size) page)

  pub entered_clean : AreClean old swap → AreClean new swap
  entered_clean clean = record {
    clean = λ other entry is unwritten addr on. ⊎_elim
        (λ (same : other ≡ page).
        let placed = pages_placed old swap page mapped there in
        let mark : mark_of new other ≡ Some (cond (is_swapped old page) Saved Fresh) = ap (λ (m : Marks). m other) entered.marks ∙ rw (eq-eqb other page same) refl in
        let slot : mapped.slot ≡ entry.slot = some_slot mapped entry (sym (ap (λ (t : Table). t other) entered.table ∙ rw (eq-eqb other page same) refl) ∙ is) in
        entered_byte addr ∙ placed.away away addr (on ∙ same) ∙ rw (mark, kept_case (is_swapped old page), slot) refl)
        (λ (apart : other ≢ page).
        let mark : mark_of new other ≡ mark_of old other = ap (λ (m : Marks). m other) entered.marks ∙ rw (ne_eqb other page apart) refl in
        let was : table_of old other ≡ Some entry = sym (ap (λ (t : Table). t other) entered.table ∙ rw (ne_eqb other page apart) refl) ∙ is in
        entered_byte addr ∙ clean.clean other entry was (rw (← mark) unwritten) addr on ∙ rw mark refl)
        (cases_eq other page);
  }
    where
      some_slot : (a b : Mapped) → ◌≡◌ {A = Option Mapped} (Some (record a { resident = true })) (Some b) → a.slot ≡ b.slot
      some_slot a b e = ap (λ (o : Option Mapped). slot_or o) e
        where
          slot_or : Option Mapped → ℕ
          slot_or None = a.slot
          slot_or (Some m) = m.slot

-- a table's entries, but for which pages are in frames
abbrev pub away_entry : Mapped → Mapped
away_entry mapped = record mapped { resident = false }

abbrev pub bare : Option Mapped → Option Mapped
bare entry = option_map away_entry entry

framed_case : (b : Bool) (mapped : Mapped) (resident : Bool) (before : Option Mapped) → (b ≡ true → before ≡ Some mapped)
    → bare (cond b (Some (record mapped { resident = resident })) before) ≡ bare before
framed_case true mapped resident before is = rw (is refl) refl
framed_case false mapped resident before is = refl

-- a page that leaves or comes keeps its slot and permissions
pub bare_kept : (old new : PagesValue) (page : ℕ) (mapped : Mapped) (resident : Bool) → table_of old page ≡ Some mapped
    → table_of new ≡ with_entry (table_of old) page (Some (record mapped { resident = resident })) → (other : ℕ) → bare (table_of new other) ≡ bare (table_of old other)
bare_kept old new page mapped resident there table other =
    ap (λ (t : Table). bare (t other)) table ∙ ⊎_elim
    (λ (same : other ≡ page). framed_case (other == page) mapped resident (table_of old other) (λ h. ap (table_of old) same ∙ there))
    (λ (apart : other ≢ page). framed_case (other == page) mapped resident (table_of old other) (λ h. absurd (false≢true (sym (ne_eqb other page apart) ∙ h))))
    (cases_eq other page)

bare_perms : (entry other : Option Mapped) → bare entry ≡ bare other → option_map (λ m. m.perms) entry ≡ option_map (λ m. m.perms) other
bare_perms entry other same = perms_bare entry ∙ ap (λ (o : Option Mapped). option_map (λ m. m.perms) o) same ∙ sym (perms_bare other)
  where
    perms_bare : (entry : Option Mapped) → option_map (λ m. m.perms) entry ≡ option_map (λ m. m.perms) (bare entry)
    perms_bare None = refl
    perms_bare (Some m) = refl

-- the memory of tables that are so alike
pub same_memory : (old new : PagesValue) (swap after : Swap) → ((page : ℕ) → bare (table_of new page) ≡ bare (table_of old page)) → ((addr : ℕ) → byte_of new after addr ≡ byte_of old swap addr)
    → memory_of new after ≡ memory_of old swap
unfolding memory_of
same_memory old new swap after tables bytes =
    let perms : perms_in (table_of new) ≡ perms_in (table_of old) = λ i page. bare_perms (table_of new page) (table_of old page) (tables page) i in
    let byte : byte_of new after ≡ byte_of old swap = λ i addr. bytes addr i in
    ap (λ (p : Permissions). record { perms = p; byte = byte_of new after }) perms
    ∙ ap (λ (b : ℕ → ℕ). record { perms = perms_in (table_of old); byte = b }) byte

-- the table of pages whose order tells which are in frames
pub framed_table : (recent : List ℕ) (now before : Option Mapped) → bare now ≡ bare before → ((mapped : Mapped) → now ≡ Some mapped → is_recent recent mapped.slot ≡ mapped.resident)
    → now ≡ option_map (framed_by recent) before
framed_table recent None None same has = refl
framed_table recent None (Some m) same has = cc
framed_table recent (Some n) None same has = cc
framed_table recent (Some n) (Some m) same has =
    let bares : record n { resident = false } ≡ record m { resident = false } = some_same _ _ same in
    let slot : n.slot ≡ m.slot = ap (λ (x : Mapped). x.slot) bares in
    let perms : n.perms ≡ m.perms = ap (λ (x : Mapped). x.perms) bares in
    let in_frame : is_recent recent m.slot ≡ n.resident = rw (← slot) (has n refl) in
    rw (in_frame, ← slot, ← perms) refl
  where
    some_same : (a b : Mapped) → ◌≡◌ {A = Option Mapped} (Some a) (Some b) → a ≡ b
    some_same a b e = cc
