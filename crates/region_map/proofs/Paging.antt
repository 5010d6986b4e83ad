-- Pages where a range of them changes.
use Rattle.std.proofs.Common.{◌≡◌, ◌≢◌, ℕ, ◌+◌, ◌/◌, ◌≤◌, ◌<◌, ◌==◌, Bool, true, false, cond, ◌||◌, Option, Some, None, is_some, IsSome, refl, sym, ◌∙◌, ap, subst, arith, ⊎_elim}
use Rattle.std.proofs.lemmas.Bool.{cases_eq, eq-eqb, ne_eqb}
use Rattle.std.proofs.lemmas.Bool.Decides.{nat_tests, Decides-eqb}
use Rattle.std.specs.Option.{option_map}
use Rattle.machine_state.specs.Memory.{page_size, Swap, zeroed}
use Rattle.machine_state.specs.declared.permissions.Perms.{Perms}
use Rattle.guest_pages.specs.declared.entry.Mark.{Mark}
use Rattle.guest_pages.specs.Table.{Mapped, Table, with_entry}
use Rattle.guest_pages.specs.Pages.{PagesValue, table_of, byte_of, mark_of, mapped_count}
use Rattle.guest_pages.specs.Changes.{KeepsSize, KeepsPage, IsMapped, IsUnmapped, IsProtected, with_perms, with_mark}
use Rattle.region_map.specs.declared.kinds.Change.{Change}
use Rattle.region_map.specs.declared.kinds.Change.TheVariants.{Map, Unmap, Protect}
use Rattle.region_map.specs.Ranges.{page_end, is_in}
use Rattle.region_map.specs.Changes.{IsFresh, IsGone, HasPerms, Stays, IsChanged, AreChanged}
use Rattle.region_map.specs.Lists.{count_below, AreTallied, CanChange, CanChangeAll}
use Rattle.region_map.proofs.Natures.{in_true, in_is, in_above}
use Rattle.region_map.proofs.Tallies.{count_one, count_less, count_same}

abbrev one : Bool → ℕ
one b = cond b 1 0

is_eq : (a b : ℕ) → (a == b) ≡ true → a ≡ b
is_eq a b e = (Decides-eqb a b).0 e

same_eqb : (a : ℕ) → (a == a) ≡ true
same_eqb a = eq-eqb a a refl

out_ne : (a b : ℕ) → (a == b) ≡ false → a ≢ b
out_ne a b e same = let is : (a == b) ≡ true = eq-eqb a b same in cc

-- where other pages stay, by their tables, bytes and marks
stay_out : (old new : PagesValue) (page other : ℕ) (entry : Option Mapped) (mark : Option Mark) → table_of new ≡ with_entry (table_of old) page entry
    → ((swap : Swap) → byte_of new swap ≡ zeroed (byte_of old swap) page) → mark_of new ≡ with_mark (mark_of old) page mark → (other == page) ≡ false → Stays old new other
stay_out old new page other entry mark table byte marks out = record {
  table = ap (λ (t : Table). t other) table ∙ rw out refl;
  kept = record {
    mark = ap (λ (m : ℕ → Option Mark). m other) marks ∙ rw out refl;
    bytes = λ swap addr e. let there : (addr / page_size == page) ≡ false = rw e out in ap (λ (f : ℕ → ℕ). f addr) (byte swap) ∙ rw there refl;
  };
}

-- the page itself
table_in : (old new : PagesValue) (page : ℕ) (entry : Option Mapped) → table_of new ≡ with_entry (table_of old) page entry → table_of new page ≡ entry
table_in old new page entry table = ap (λ (t : Table). t page) table ∙ rw (same_eqb page) refl

mark_in : (old new : PagesValue) (page : ℕ) (mark : Option Mark) → mark_of new ≡ with_mark (mark_of old) page mark → mark_of new page ≡ mark
mark_in old new page mark marks = ap (λ (m : ℕ → Option Mark). m page) marks ∙ rw (same_eqb page) refl

zero_in : (old new : PagesValue) (page : ℕ) → ((swap : Swap) → byte_of new swap ≡ zeroed (byte_of old swap) page)
    → (swap : Swap) (addr : ℕ) → addr / page_size ≡ page → byte_of new swap addr ≡ 0
zero_in old new page byte swap addr e = let there : (addr / page_size == page) ≡ true = eq-eqb (addr / page_size) page e in
    ap (λ (f : ℕ → ℕ). f addr) (byte swap) ∙ rw there refl

pub map_changes : (old new : PagesValue) (page : ℕ) (perms : Perms) (file : Bool) → IsMapped old new page perms.0 → AreChanged (Map perms file) (λ other. other == page) old new
map_changes old new page perms file m = record {
  size = m.size;
  inside = λ other e. subst (λ (p : ℕ). IsFresh old new perms.0 p) (sym (is_eq other page e)) fresh;
  outside = λ other e. stay_out old new page other (Some m.entry) _ m.table m.byte m.marks e;
}
  where
    fresh : IsFresh old new perms.0 page
    fresh = record {
      entry = m.entry;
      table = table_in old new page (Some m.entry) m.table;
      perms_are = m.perms_are;
      away = m.away;
      slot_stays = m.slot_stays;
      bytes = zero_in old new page m.byte;
      mark = mark_in old new page _ m.marks;
    }

pub unmap_changes : (old new : PagesValue) (page : ℕ) → IsUnmapped old new page → AreChanged Unmap (λ other. other == page) old new
unmap_changes old new page m = record {
  size = m.size;
  inside = λ other e. subst (λ (p : ℕ). IsGone new p) (sym (is_eq other page e)) gone;
  outside = λ other e. stay_out old new page other None None m.table m.byte m.marks e;
}
  where
    gone : IsGone new page
    gone = record { table = table_in old new page None m.table; bytes = zero_in old new page m.byte; mark = mark_in old new page None m.marks }

pub protect_changes : (old new : PagesValue) (page : ℕ) (perms : Perms) → IsProtected old new page perms.0 → AreChanged (Protect perms) (λ other. other == page) old new
protect_changes old new page perms m = record {
  size = m.size;
  inside = λ other e. subst (λ (p : ℕ). HasPerms old new perms.0 p) (sym (is_eq other page e)) has;
  outside = λ other e. record { table = ap (λ (t : Table). t other) m.table ∙ rw e refl; kept = kept other };
}
  where
    kept : (other : ℕ) → KeepsPage old new other
    kept other = record { mark = ap (λ (k : ℕ → Option Mark). k other) m.marks; bytes = λ swap addr e. ap (λ (f : ℕ → ℕ). f addr) (m.byte swap) }

    has : HasPerms old new perms.0 page
    has = record { table = table_in old new page _ m.table; kept = kept page }

-- how many are mapped
abbrev mapped_in : PagesValue → ℕ → Bool
mapped_in pages page = is_some (table_of pages page)

tally_one : (old new : PagesValue) (page : ℕ) (entry : Option Mapped) → page < page_end → table_of new ≡ with_entry (table_of old) page entry
    → count_below (mapped_in new) page_end + one (mapped_in old page) ≡ count_below (mapped_in old) page_end + one (is_some entry)
tally_one old new page entry low table =
    let same : (other : ℕ) → other ≢ page → mapped_in new other ≡ mapped_in old other = λ other ne.
    ap (λ (t : Table). is_some (t other)) table ∙ rw (ne_eqb other page ne) refl in
    let here : mapped_in new page ≡ is_some entry = ap (λ (o : Option Mapped). is_some o) (table_in old new page entry table) in
    let counts = count_one (mapped_in new) (mapped_in old) page_end page same low in
    rw here at counts

tally_of : (old new before after : ℕ) (was : Bool) → old ≡ before → after + one was ≡ before + 1 → new ≡ old + cond was 0 1 → new ≡ after
tally_of old new before after true e f g = omega arith
tally_of old new before after false e f g = omega arith

tally_off : (old new before after : ℕ) (was : Bool) → old ≡ before → after + one was ≡ before + 0 → new + cond was 1 0 ≡ old → new ≡ after
tally_off old new before after true e f g = omega arith
tally_off old new before after false e f g = omega arith

pub map_tallies : (old new : PagesValue) (page perms : ℕ) → page < page_end → IsMapped old new page perms → AreTallied old → AreTallied new
map_tallies old new page perms low m t = record {
  count = tally_of (mapped_count old) (mapped_count new) (count_below (mapped_in old) page_end) (count_below (mapped_in new) page_end) (mapped_in old page)
      t.count (tally_one old new page (Some m.entry) low m.table) m.count;
}

pub unmap_tallies : (old new : PagesValue) (page : ℕ) → page < page_end → IsUnmapped old new page → AreTallied old → AreTallied new
unmap_tallies old new page low m t = record {
  count = tally_off (mapped_count old) (mapped_count new) (count_below (mapped_in old) page_end) (count_below (mapped_in new) page_end) (mapped_in old page)
      t.count (tally_one old new page None low m.table) m.count;
}

pub protect_tallies : (old new : PagesValue) (page perms : ℕ) → IsProtected old new page perms → AreTallied old → AreTallied new
protect_tallies old new page perms m t = record {
  count = m.count ∙ t.count ∙ sym (count_same (mapped_in new) (mapped_in old) page_end (λ other lt. same other));
}
  where
    is_same : (o : Option Mapped) → is_some (option_map (with_perms perms) o) ≡ is_some o
    is_same None = refl
    is_same (Some e) = refl

    same : (other : ℕ) → mapped_in new other ≡ mapped_in old other
    same other = ⊎_elim
        (λ (e : other ≡ page). ap (λ (t : Table). is_some (t other)) m.table ∙ rw (eq-eqb other page e) (is_same (table_of old page) ∙ ap (mapped_in old) (sym e)))
        (λ (ne : other ≢ page). ap (λ (t : Table). is_some (t other)) m.table ∙ rw (ne_eqb other page ne) refl)
        (cases_eq other page)

-- changes one after the other
stay_both : (old between new : PagesValue) (page : ℕ) → Stays old between page → Stays between new page → Stays old new page
stay_both old between new page a b = record {
  table = b.table ∙ a.table;
  kept = record { mark = b.kept.mark ∙ a.kept.mark; bytes = λ swap addr e. b.kept.bytes swap addr e ∙ a.kept.bytes swap addr e };
}

pub stay_change : (change : Change) (old between new : PagesValue) (page : ℕ) → KeepsSize old between → Stays old between page → IsChanged change between new page → IsChanged change old new page
stay_change (Map perms file) old between new page size a b = record {
  entry = b.entry;
  table = b.table;
  perms_are = b.perms_are;
  away = b.away;
  slot_stays = λ mapped e. b.slot_stays mapped (a.table ∙ e);
  bytes = b.bytes;
  mark = b.mark;
}
stay_change Unmap old between new page size a b = b
stay_change (Protect perms) old between new page size a b = record {
  table = b.table ∙ ap (option_map (with_perms perms.0)) a.table;
  kept = record { mark = b.kept.mark ∙ a.kept.mark; bytes = λ swap addr e. b.kept.bytes swap addr e ∙ a.kept.bytes swap addr e };
}

change_stay : (change : Change) (old between new : PagesValue) (page : ℕ) → IsChanged change old between page → Stays between new page → IsChanged change old new page
change_stay (Map perms file) old between new page a b = record {
  entry = a.entry;
  table = b.table ∙ a.table;
  perms_are = a.perms_are;
  away = a.away;
  slot_stays = a.slot_stays;
  bytes = λ swap addr e. b.kept.bytes swap addr e ∙ a.bytes swap addr e;
  mark = b.kept.mark ∙ a.mark;
}
change_stay Unmap old between new page a b = record {
  table = b.table ∙ a.table;
  bytes = λ swap addr e. b.kept.bytes swap addr e ∙ a.bytes swap addr e;
  mark = b.kept.mark ∙ a.mark;
}
change_stay (Protect perms) old between new page a b = record {
  table = b.table ∙ a.table;
  kept = record { mark = b.kept.mark ∙ a.kept.mark; bytes = λ swap addr e. b.kept.bytes swap addr e ∙ a.kept.bytes swap addr e };
}

change_twice : (change : Change) (old between new : PagesValue) (page : ℕ) → KeepsSize old between → IsChanged change old between page → IsChanged change between new page → IsChanged change old new page
change_twice (Map perms file) old between new page size a b = record {
  entry = b.entry;
  table = b.table;
  perms_are = b.perms_are;
  away = b.away;
  slot_stays = λ mapped e. b.slot_stays a.entry a.table ∙ a.slot_stays mapped e;
  bytes = b.bytes;
  mark = b.mark;
}
change_twice Unmap old between new page size a b = b
change_twice (Protect perms) old between new page size a b = record {
  table = b.table ∙ ap (option_map (with_perms perms.0)) a.table ∙ twice (table_of old page);
  kept = record { mark = b.kept.mark ∙ a.kept.mark; bytes = λ swap addr e. b.kept.bytes swap addr e ∙ a.kept.bytes swap addr e };
}
  where
    twice : (o : Option Mapped) → option_map (with_perms perms.0) (option_map (with_perms perms.0) o) ≡ option_map (with_perms perms.0) o
    twice None = refl
    twice (Some m) = refl

pub change_both : (change : Change) (some others all : ℕ → Bool) (old between new : PagesValue) → AreChanged change some old between → AreChanged change others between new
    → ((page : ℕ) → all page ≡ (some page || others page)) → AreChanged change all old new
change_both change some others all old between new a b is = record {
  size = record { frames = b.size.frames ∙ a.size.frames; pages = b.size.pages ∙ a.size.pages };
  inside = λ page e. inside page (some page) (others page) refl refl (sym (is page) ∙ e);
  outside = λ page e. outside page (some page) (others page) refl refl (sym (is page) ∙ e);
}
  where
    inside : (page : ℕ) (x y : Bool) → some page ≡ x → others page ≡ y → (x || y) ≡ true → IsChanged change old new page
    inside page true true e f h = change_twice change old between new page a.size (a.inside page e) (b.inside page f)
    inside page true false e f h = change_stay change old between new page (a.inside page e) (b.outside page f)
    inside page false true e f h = stay_change change old between new page a.size (a.outside page e) (b.inside page f)
    inside page false false e f h = cc

    outside : (page : ℕ) (x y : Bool) → some page ≡ x → others page ≡ y → (x || y) ≡ false → Stays old new page
    outside page true y e f h = cc
    outside page false true e f h = cc
    outside page false false e f h = stay_both old between new page (a.outside page e) (b.outside page f)

-- nothing changes at first
pub change_none : (change : Change) (which : ℕ → Bool) (pages : PagesValue) → ((page : ℕ) → which page ≡ false) → AreChanged change which pages pages
change_none change which pages none = record {
  size = record { frames = refl; pages = refl };
  inside = λ page e. absurd (let out = none page in cc);
  outside = λ page e. record { table = refl; kept = record { mark = refl; bytes = λ swap addr e. refl } };
}

pub change_same : (change : Change) (which other : ℕ → Bool) (old new : PagesValue) → AreChanged change which old new → ((page : ℕ) → other page ≡ which page)
    → AreChanged change other old new
change_same change which other old new a is = record {
  size = a.size;
  inside = λ page e. a.inside page (sym (is page) ∙ e);
  outside = λ page e. a.outside page (sym (is page) ∙ e);
}

in_none : (from page : ℕ) → is_in from from page ≡ false
in_none from page = grind (arith, nat_tests)

pub change_first : (change : Change) (from : ℕ) (pages : PagesValue) → AreChanged change (is_in from from) pages pages
change_first change from pages = change_none change (is_in from from) pages (in_none from)

in_next : (from at page : ℕ) → from ≤ at → is_in from (at + 1) page ≡ (is_in from at page || page == at)
in_next from at page h = grind (arith, nat_tests)

pub change_next : (change : Change) (from at : ℕ) (old between new : PagesValue) → from ≤ at → AreChanged change (is_in from at) old between
    → AreChanged change (λ other. other == at) between new → AreChanged change (is_in from (at + 1)) old new
change_next change from at old between new h a b = change_both change (is_in from at) (λ other. other == at) (is_in from (at + 1)) old between new a b (λ page. in_next from at page h)

-- each page of a range can be changed when those below it are
pub can_next : (change : Change) (from to at : ℕ) (old between : PagesValue) → from ≤ at → at < to → to ≤ page_end → CanChangeAll change old from to
    → AreChanged change (is_in from at) old between → (AreTallied old → AreTallied between) → CanChange change between at
can_next (Map perms file) from to at old between le lt low can a tallied = λ none.
    let t = tallied can.0 in
    let out : is_some (table_of between at) ≡ false = rw none refl in
    let is : (is_in from to at || is_some (table_of old at)) ≡ true = rw (in_true from to at le lt) refl in
    let less : count_below (mapped_in between) page_end < count_below (λ page. is_in from to page || mapped_in old page) page_end =
    count_less (mapped_in between) (λ page. is_in from to page || mapped_in old page) page_end at (λ page e. more page (is_in from at page) refl e) (omega arith) out is in
    let count = t.count in
    let room = can.1 in
    let size = a.size.pages in
    omega arith
  where
    more : (page : ℕ) (b : Bool) → is_in from at page ≡ b → mapped_in between page ≡ true → (is_in from to page || mapped_in old page) ≡ true
    more page true e h = let bounds = in_is from at page e in rw (in_true from to page bounds.0 (omega (arith, bounds.1))) refl
    more page false e h =
        let same : mapped_in old page ≡ true = ap (λ (o : Option Mapped). is_some o) (sym (a.outside page e).table) ∙ h in
        rw same (or_true (is_in from to page))
      where
        or_true : (x : Bool) → (x || true) ≡ true
        or_true true = refl
        or_true false = refl
can_next Unmap from to at old between le lt low can a tallied = tt
can_next (Protect perms) from to at old between le lt low can a tallied =
    subst (λ (o : Option Mapped). IsSome o) (sym (a.outside at (in_above from at at (omega arith))).table) (can at (in_true from to at le lt))
