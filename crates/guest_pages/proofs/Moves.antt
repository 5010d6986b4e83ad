-- Lemmas on a page that gives its frame up or gets one.
use Rattle.std.proofs.Common.{◌≡◌, ℕ, ◌+◌, ◌/◌, ◌%◌, ◌<◌, List, [], ◌∷◌, ◌++◌, Bool, true, false, cond, Option, Some, None, IfSome, length, get_or, set, reverse, count_by, refl, sym, ap, ◌∙◌, arith, subst}
use Rattle.std.specs.Borrow.{Bor}
use Rattle.std.specs.Option.{option_copied}
use Rattle.std.proofs.lemmas.Bool.{false≢true}
use Rattle.std.proofs.lemmas.List.{append-nil, reverse-append}
use Rattle.machine_state.specs.Memory.{page_size}
use Rattle.guest_pages.specs.declared.entry.Entry.{Entry}
use Rattle.guest_pages.specs.declared.entry.Mark.TheVariants.{Fresh, Saved, Written}
use Rattle.guest_pages.specs.declared.entry.Place.{Place}
use Rattle.guest_pages.specs.declared.entry.Place.TheVariants.{Resident, Zeros, Swapped}
use Rattle.guest_pages.specs.declared.lists.Lists.{Lists}
use Rattle.guest_pages.specs.Entry.{is_resident, is_in_frame, is_on_swap, mark_in, place_byte, place_unsaved, slot_unsaved, place_left, entry_left, place_entered, entry_entered, slot_left, slot_entered}
use Rattle.guest_pages.specs.Table.{Mapped}
use Rattle.guest_pages.specs.Pages.{PagesValue}
use Rattle.guest_pages.specs.Changes.{AreBytesOf, IsLeft, IsEntered, away_byte, is_kept}
use Rattle.guest_pages.specs.Lists.{among}
use Rattle.guest_pages.specs.Order.{IsSlotOf, HasPage, IsResidentIn, IsAwayIn, without}
use Rattle.guest_pages.specs.Slots.{IsSeatOf, AreApart, CanTake, IsInOrder, with_last}
use Rattle.guest_pages.proofs.Seats.{take_seat, sound_taken}
use Rattle.guest_pages.proofs.Takes.{taken, entry_mapped, size_taken, table_taken, byte_taken, mark_taken, mark_at, swapped_taken, count_kept, frames_taken}
use Rattle.guest_pages.proofs.Files.{filed_same}
use Rattle.guest_pages.proofs.Orders.{ordered_put, without_same, order_without}
use Rattle.guest_pages.proofs.Protects.{byte_seated}
use Rattle.guest_pages.proofs.Laws.{framed_slot}
use Rattle.guest_pages.proofs.Brings.{slot_entry, swapped_at}

-- what the pages keep where a slot's page, which stays, gives its frame up or gets a free one
pub order_moved : (slots : List (Option Entry)) (frames free free' capacity capacity' : ℕ) (lists : Lists) (order order' : List ℕ) (room room' page k : ℕ) (entry after : Entry) (given : Bool)
    → IsSeatOf slots page k → get_or slots k None ≡ Some entry → entry.page ≡ page → after.page ≡ entry.page → is_resident after.place ≡ given
    → free' + cond given 1 0 ≡ free + cond (is_resident entry.place) 1 0 → capacity' ≡ capacity → order' ≡ with_last given k (without k order) → room' ≡ room
    → IsInOrder slots frames free capacity lists order room → IsInOrder (set slots k (Some after)) frames free' capacity' lists order' room'
order_moved slots frames free free' capacity capacity' lists order order' room room' page k entry after given seat is page_is same resident moved_frame capacity_is order_is room_is whole =
    let after_is : after.page ≡ page = same ∙ page_is in
    let can : CanTake slots after.page k = rw after_is (take_seat slots page k whole.kept.sound.apart seat) in
    let low : after.page < 0x800000000 = rw after_is (whole.kept.sound.low k page seat.within seat.here) in
    let counts : count_by is_in_frame (set slots k (Some after)) + cond (is_resident entry.place) 1 0 ≡ count_by is_in_frame slots + cond given 1 0 =
    rw (is, resident) at (frames_taken slots k after seat.within) in
    record {
      kept = record {
        sound = sound_taken slots k after can low whole.kept.sound;
        shares = record { shared = (let before = whole.kept.shares.shared in omega arith); room = rw capacity_is whole.kept.shares.room };
        filed = filed_same slots lists k (Some after) seat.within (rw (is, same) refl) whole.kept.filed;
      };
      ordered = rw (order_is, ← resident) (ordered_put slots order k (Some after) seat.within whole.ordered);
      some = whole.some;
      room_is = rw room_is whole.room_is;
    }

left_away : (place : Place) → is_resident (place_left place) ≡ false
left_away (Resident bytes Fresh) = refl
left_away (Resident bytes Saved) = refl
left_away (Resident bytes Written) = refl
left_away Zeros = refl
left_away Swapped = refl

left_byte : (place : Place) (saved : List ℕ) (at : ℕ) → is_resident place ≡ true → place_byte saved (place_left place) at ≡ away_byte (is_kept (mark_in place)) saved at
left_byte (Resident bytes Fresh) saved at h = refl
left_byte (Resident bytes Saved) saved at h = refl
left_byte (Resident bytes Written) saved at h = refl
left_byte Zeros saved at h = absurd (false≢true h)
left_byte Swapped saved at h = absurd (false≢true h)

left_mark : (place : Place) → mark_in (place_left place) ≡ None
left_mark (Resident bytes Fresh) = refl
left_mark (Resident bytes Saved) = refl
left_mark (Resident bytes Written) = refl
left_mark Zeros = refl
left_mark Swapped = refl

left_swapped : (place : Place) → is_resident place ≡ true → is_on_swap (place_left place) ≡ is_kept (mark_in place)
left_swapped (Resident bytes Fresh) h = refl
left_swapped (Resident bytes Saved) h = refl
left_swapped (Resident bytes Written) h = refl
left_swapped Zeros h = absurd (false≢true h)
left_swapped Swapped h = absurd (false≢true h)

entered_resident : (bytes : List ℕ) (place : Place) → is_resident (place_entered bytes place) ≡ true
entered_resident bytes (Resident held mark) = refl
entered_resident bytes Zeros = refl
entered_resident bytes Swapped = refl

entered_byte : (bytes : List ℕ) (place : Place) (saved : List ℕ) (at : ℕ) → is_resident place ≡ false → place_byte saved (place_entered bytes place) at ≡ get_or bytes at 0
entered_byte bytes (Resident held mark) saved at h = absurd (false≢true (sym h))
entered_byte bytes Zeros saved at h = refl
entered_byte bytes Swapped saved at h = refl

entered_mark : (bytes : List ℕ) (place : Place) → is_resident place ≡ false → mark_in (place_entered bytes place) ≡ Some (cond (is_on_swap place) Saved Fresh)
entered_mark bytes (Resident held mark) h = absurd (false≢true (sym h))
entered_mark bytes Zeros h = refl
entered_mark bytes Swapped h = refl

entered_here : (bytes : List ℕ) (place : Place) → is_on_swap (place_entered bytes place) ≡ false
entered_here bytes (Resident held mark) = refl
entered_here bytes Zeros = refl
entered_here bytes Swapped = refl

module _ (pages : PagesValue) (page k : ℕ) (entry : Entry) (apart : AreApart pages.slots) (seat : IsSeatOf pages.slots page k) (is : get_or pages.slots k None ≡ Some entry) (page_is : entry.page ≡ page)
    (recent : List ℕ) where
  can : CanTake pages.slots entry.page k
  can = rw page_is (take_seat pages.slots page k apart seat)

  -- the pages where one gave its frame up
  pub left_there : is_resident entry.place ≡ true → recent ≡ without k pages.recent → IsLeft pages (taken pages k (entry_left entry) recent) page (entry_mapped k entry)
  left_there resident recent_is = record {
    size = size_taken pages k (entry_left entry) recent;
    table = table_taken pages k (entry_left entry) recent can ∙ rw (page_is, left_away entry.place) refl;
    byte = λ swap addr.
        byte_taken pages k (entry_left entry) recent can swap addr
        ∙ rw (page_is, left_byte entry.place (swap k) (addr % page_size) resident, mark_at pages page k entry seat is) refl;
    marks = mark_taken pages k (entry_left entry) recent can ∙ rw (page_is, left_mark entry.place) refl;
    swapped = λ other. swapped_taken pages k (entry_left entry) recent can other
        ∙ rw (page_is, left_swapped entry.place resident, mark_at pages page k entry seat is) refl;
    recent = recent_is;
    count = count_kept pages k (entry_left entry) entry recent seat.within is;
  }

  -- the pages where one got a frame
  pub entered_there : (bytes : List ℕ) → is_resident entry.place ≡ false → recent ≡ k ∷ pages.recent
      → IsEntered pages (taken pages k (entry_entered bytes entry) recent) page (entry_mapped k entry) bytes
  entered_there bytes away recent_is = record {
    size = size_taken pages k (entry_entered bytes entry) recent;
    table = table_taken pages k (entry_entered bytes entry) recent can ∙ rw (page_is, entered_resident bytes entry.place) refl;
    byte = λ swap addr.
        byte_taken pages k (entry_entered bytes entry) recent can swap addr
        ∙ rw (page_is, entered_byte bytes entry.place (swap k) (addr % page_size) away) refl;
    marks = mark_taken pages k (entry_entered bytes entry) recent can
        ∙ rw (page_is, entered_mark bytes entry.place away, swapped_at pages page k entry seat is) refl;
    swapped = λ other. swapped_taken pages k (entry_entered bytes entry) recent can other ∙ rw (page_is, entered_here bytes entry.place) refl;
    recent = recent_is;
    count = count_kept pages k (entry_entered bytes entry) entry recent seat.within is;
  }

unsaved_byte : (place : Place) (bytes saved : List ℕ) (at : ℕ) → place_unsaved place ≡ Some bytes → place_byte saved place at ≡ get_or bytes at 0
unsaved_byte (Resident held Fresh) bytes saved at h = cc
unsaved_byte (Resident held Saved) bytes saved at h = cc
unsaved_byte (Resident held Written) bytes saved at h = let same : held ≡ bytes = cc in ap (λ (b : List ℕ). get_or b at 0) same
unsaved_byte Zeros bytes saved at h = cc
unsaved_byte Swapped bytes saved at h = cc

-- the bytes that a slot's page has unsaved are the page's
pub unsaved_bytes : (pages : PagesValue) (slot page : ℕ) (mapped : Mapped) (result : Option (Bor (List ℕ))) → AreApart pages.slots → IsSlotOf pages slot page mapped
    → option_copied result ≡ slot_unsaved (get_or pages.slots slot None) → IfSome result (λ bytes. length bytes.now ≡ page_size) → IfSome result (λ bytes. AreBytesOf pages page bytes.now)
unsaved_bytes pages slot page mapped None apart spot is whole = tt
unsaved_bytes pages slot page mapped (Some bytes) apart spot is whole =
    let there = slot_entry pages slot page mapped apart spot in
    let place : place_unsaved there.0.place ≡ Some bytes.now = sym (rw there.2 at is) in
    record {
      whole = whole;
      shown = λ swap addr on.
          let seat : IsSeatOf pages.slots (addr / page_size) slot = rw on there.1 in
          byte_seated pages slot there.0 swap addr seat there.2 ∙ unsaved_byte there.0.place bytes.now (swap slot) (addr % page_size) place;
    }

among_some : (k : ℕ) (order : List ℕ) → among k order ≡ true → 0 < length order
among_some k [] h = absurd (false≢true h)
among_some k (n ∷ order) h = omega arith

-- where a page is in a frame there is room for another free one
pub free_room : (slots : List (Option Entry)) (frames free capacity room k : ℕ) (lists : Lists) (order : List ℕ) → IsInOrder slots frames free capacity lists order room
    → is_in_frame (get_or slots k None) ≡ true → free < capacity
free_room slots frames free capacity room k lists order whole resident =
    let some : 0 < length order = among_some k order (whole.ordered.has k ∙ resident) in
    let count = whole.ordered.count in
    let shared = whole.kept.shares.shared in
    let holds = whole.kept.shares.room in
    omega arith

-- the slot of a page that is in a frame or away
pub slot_seat : (pages : PagesValue) (slot page : ℕ) (mapped : Mapped) → AreApart pages.slots → IsSlotOf pages slot page mapped
    → (entry : Entry) × (IsSeatOf pages.slots page slot) × (get_or pages.slots slot None ≡ Some entry) × (entry.page ≡ page) × (entry_mapped slot entry ≡ mapped)
slot_seat pages slot page mapped apart spot =
    let there = framed_slot pages page mapped apart spot.is in
    subst (λ (k : ℕ). (entry : Entry) × (IsSeatOf pages.slots page k) × (get_or pages.slots k None ≡ Some entry) × (entry.page ≡ page) × (entry_mapped k entry ≡ mapped))
    spot.slot_is (there.0, there.1, there.2, there.3, there.4)

pub slot_framed : (pages : PagesValue) (slot : ℕ) (resident : Bool) → AreApart pages.slots → HasPage pages slot resident → is_in_frame (get_or pages.slots slot None) ≡ resident
slot_framed pages slot resident apart has =
    let there = slot_seat pages slot has.page has.mapped apart has.there in
    rw there.2 (ap (λ (m : Mapped). m.resident) there.4 ∙ has.resident_is)

module _ (pages : PagesValue) (slot free free' capacity capacity' room room' : ℕ) (lists : Lists) (order order' : List ℕ) (recent : pages.recent ≡ reverse order)
    (whole : IsInOrder pages.slots pages.frames free capacity lists order room) (capacity_is : capacity' ≡ capacity) (room_is : room' ≡ room) where
  apart : AreApart pages.slots
  apart = whole.kept.sound.apart

  -- the page in a slot gave its frame up
  pub leave_kept : (held : Option Entry) → held ≡ get_or pages.slots slot None → IsResidentIn pages slot → free' ≡ free + 1 → order' ≡ without slot order
      → IsInOrder (set pages.slots slot (slot_left held)) pages.frames free' capacity' lists order' room'
  leave_kept held read has given order_is =
      let there = slot_seat pages slot has.page has.mapped apart has.there in
      let resident : is_resident there.0.place ≡ true = ap (λ (m : Mapped). m.resident) there.4 ∙ has.resident_is in
      rw (read, there.2)
      (order_moved pages.slots pages.frames free free' capacity capacity' lists order order' room room' has.page slot there.0 (entry_left there.0) false
      there.1 there.2 there.3 refl (left_away there.0.place) (rw resident (omega arith)) capacity_is (order_is ∙ sym (append-nil (without slot order))) room_is whole)

  pub leave_there : (held : Option Entry) → held ≡ get_or pages.slots slot None → IsResidentIn pages slot → order' ≡ without slot order
      → (page : ℕ) (mapped : Mapped) → IsSlotOf pages slot page mapped
      → IsLeft pages (record { frames = pages.frames; slots = set pages.slots slot (slot_left held); recent = reverse order' }) page mapped
  leave_there held read has order_is page mapped spot =
      let there = slot_seat pages slot page mapped apart spot in
      let resident : is_resident there.0.place ≡ true = rw there.2 at (slot_framed pages slot true apart has) in
      subst (λ (m : Mapped). IsLeft pages (record { frames = pages.frames; slots = set pages.slots slot (slot_left held); recent = reverse order' }) page m) there.4
      (rw (read, there.2)
      (left_there pages page slot there.0 apart there.1 there.2 there.3 (reverse order') resident (rw (order_is, recent) (order_without slot order))))

  -- the page in a slot got a frame
  pub enter_kept : (held : Option Entry) (bytes : List ℕ) → held ≡ get_or pages.slots slot None → IsAwayIn pages slot → free' + 1 ≡ free → order' ≡ order ++ slot ∷ []
      → IsInOrder (set pages.slots slot (slot_entered bytes held)) pages.frames free' capacity' lists order' room'
  enter_kept held bytes read has given order_is =
      let there = slot_seat pages slot has.page has.mapped apart has.there in
      let away : is_resident there.0.place ≡ false = ap (λ (m : Mapped). m.resident) there.4 ∙ has.resident_is in
      let out : among slot order ≡ false = whole.ordered.has slot ∙ slot_framed pages slot false apart has in
      rw (read, there.2)
      (order_moved pages.slots pages.frames free free' capacity capacity' lists order order' room room' has.page slot there.0 (entry_entered bytes there.0) true
      there.1 there.2 there.3 refl (entered_resident bytes there.0.place) (rw away (omega arith)) capacity_is (rw (without_same slot order out) order_is) room_is whole)

  pub enter_there : (held : Option Entry) (bytes : List ℕ) → held ≡ get_or pages.slots slot None → IsAwayIn pages slot → order' ≡ order ++ slot ∷ []
      → (page : ℕ) (mapped : Mapped) → IsSlotOf pages slot page mapped
      → IsEntered pages (record { frames = pages.frames; slots = set pages.slots slot (slot_entered bytes held); recent = reverse order' }) page mapped bytes
  enter_there held bytes read has order_is page mapped spot =
      let there = slot_seat pages slot page mapped apart spot in
      let away : is_resident there.0.place ≡ false = rw there.2 at (slot_framed pages slot false apart has) in
      subst (λ (m : Mapped). IsEntered pages (record { frames = pages.frames; slots = set pages.slots slot (slot_entered bytes held); recent = reverse order' }) page m bytes) there.4
      (rw (read, there.2)
      (entered_there pages page slot there.0 apart there.1 there.2 there.3 (reverse order') bytes away (rw (order_is, recent) (reverse-append order (slot ∷ [])))))
