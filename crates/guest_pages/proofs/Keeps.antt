-- Lemmas on what the pages keep of their slots, frames and lists.
use Rattle.std.proofs.Common.{◌≡◌, ℕ, ◌+◌, ◌<◌, ◌≤◌, List, false, cond, Option, Some, None, length, get_or, set, refl, ◌∙◌, arith, count_by}
use Rattle.guest_pages.specs.declared.lists.Lists.{Lists}
use Rattle.guest_pages.specs.declared.entry.Entry.{Entry}
use Rattle.guest_pages.specs.Entry.{is_in_frame, is_resident}
use Rattle.guest_pages.specs.Lists.{AreListed, moved}
use Rattle.guest_pages.specs.Pages.{PagesValue, resident_count}
use Rattle.guest_pages.specs.Slots.{IsSeatOf, CanTake, AreShared, IsKept, IsInOrder, bucket_of, home_in}
use Rattle.guest_pages.specs.Order.{without}
use Rattle.guest_pages.proofs.Orders.{ordered_put, ordered_same}
use Rattle.std.proofs.lemmas.List.{append-nil}
use Rattle.guest_pages.proofs.Seats.{take_seat, sound_taken, sound_emptied}
use Rattle.guest_pages.proofs.Takes.{frames_taken, frames_emptied}
use Rattle.guest_pages.proofs.Files.{filed_same, filed_put}

-- a slot's entry changes, of the same page, in a frame or not as before
pub kept_changed : (slots : List (Option Entry)) (frames free capacity : ℕ) (lists : Lists) (page k : ℕ) (entry after : Entry) → IsSeatOf slots page k
    → get_or slots k None ≡ Some entry → entry.page ≡ page → after.page ≡ entry.page → is_resident after.place ≡ is_resident entry.place
    → IsKept slots frames free capacity lists → IsKept (set slots k (Some after)) frames free capacity lists
kept_changed slots frames free capacity lists page k entry after seat is page_is same resident kept =
    let after_is : after.page ≡ page = same ∙ page_is in
    let can : CanTake slots after.page k = rw after_is (take_seat slots page k kept.sound.apart seat) in
    let low : after.page < 0x800000000 = rw after_is (kept.sound.low k page seat.within seat.here) in
    let counts : count_by is_in_frame (set slots k (Some after)) + cond (is_resident entry.place) 1 0 ≡ count_by is_in_frame slots + cond (is_resident entry.place) 1 0 =
    rw (is, resident) at (frames_taken slots k after seat.within) in
    record {
      sound = sound_taken slots k after can low kept.sound;
      shares = record { shared = (let before = kept.shares.shared in omega arith); room = kept.shares.room };
      filed = filed_same slots lists k (Some after) seat.within (rw (is, same) refl) kept.filed;
    }

-- a slot is given to a page that is away, and the frame of its page before is free
pub kept_filled : (slots : List (Option Entry)) (frames free free' capacity capacity' : ℕ) (old new : Lists) (k : ℕ) (entry : Entry) → CanTake slots entry.page k
    → entry.page < 0x800000000 → is_resident entry.place ≡ false → free' ≡ free + cond (is_in_frame (get_or slots k None)) 1 0 → capacity' ≡ capacity
    → AreListed new (moved (home_in slots) k (bucket_of entry.page (length slots))) → length new.heads.items ≡ length old.heads.items → length new.nexts.items ≡ length old.nexts.items
    → IsKept slots frames free capacity old → IsKept (set slots k (Some entry)) frames free' capacity' new
kept_filled slots frames free free' capacity capacity' old new k entry can low away given room listed heads nexts kept =
    let counts : count_by is_in_frame (set slots k (Some entry)) + cond (is_in_frame (get_or slots k None)) 1 0 ≡ count_by is_in_frame slots + 0 =
    rw away at (frames_taken slots k entry can.within) in
    record {
      sound = sound_taken slots k entry can low kept.sound;
      shares = record { shared = (let before = kept.shares.shared in omega arith); room = rw room kept.shares.room };
      filed = filed_put slots old new k (Some entry) can.within kept.filed listed heads nexts;
    }

-- a slot gives its page up, and the frame is free
pub kept_emptied : (slots : List (Option Entry)) (frames free free' capacity capacity' : ℕ) (old new : Lists) (k : ℕ) → k < length slots
    → free' ≡ free + cond (is_in_frame (get_or slots k None)) 1 0 → capacity' ≡ capacity
    → AreListed new (moved (home_in slots) k (length slots)) → length new.heads.items ≡ length old.heads.items → length new.nexts.items ≡ length old.nexts.items
    → IsKept slots frames free capacity old → IsKept (set slots k None) frames free' capacity' new
kept_emptied slots frames free free' capacity capacity' old new k within given room listed heads nexts kept =
    let counts = frames_emptied slots k within in
    record {
      sound = sound_emptied slots k within kept.sound;
      shares = record { shared = (let before = kept.shares.shared in omega arith); room = rw room kept.shares.room };
      filed = filed_put slots old new k None within kept.filed listed heads nexts;
    }

-- and the order where an entry changes
pub order_changed : (slots : List (Option Entry)) (frames free capacity : ℕ) (lists : Lists) (order : List ℕ) (room page k : ℕ) (entry after : Entry) → IsSeatOf slots page k
    → get_or slots k None ≡ Some entry → entry.page ≡ page → after.page ≡ entry.page → is_resident after.place ≡ is_resident entry.place
    → IsInOrder slots frames free capacity lists order room → IsInOrder (set slots k (Some after)) frames free capacity lists order room
order_changed slots frames free capacity lists order room page k entry after seat is page_is same resident whole = record {
  kept = kept_changed slots frames free capacity lists page k entry after seat is page_is same resident whole.kept;
  ordered = ordered_same slots order k (Some after) seat.within (rw is resident) whole.ordered;
  some = whole.some;
  room_is = whole.room_is;
}

-- and where a slot is given to a page
pub order_filled : (slots : List (Option Entry)) (frames free free' capacity capacity' : ℕ) (old new : Lists) (order order' : List ℕ) (room room' k : ℕ) (entry : Entry)
    → CanTake slots entry.page k → entry.page < 0x800000000 → is_resident entry.place ≡ false → free' ≡ free + cond (is_in_frame (get_or slots k None)) 1 0
    → capacity' ≡ capacity → AreListed new (moved (home_in slots) k (bucket_of entry.page (length slots))) → length new.heads.items ≡ length old.heads.items
    → length new.nexts.items ≡ length old.nexts.items → order' ≡ without k order → room' ≡ room
    → IsInOrder slots frames free capacity old order room → IsInOrder (set slots k (Some entry)) frames free' capacity' new order' room'
order_filled slots frames free free' capacity capacity' old new order order' room room' k entry can low away given has listed heads nexts order_is room_is whole = record {
  kept = kept_filled slots frames free free' capacity capacity' old new k entry can low away given has listed heads nexts whole.kept;
  ordered = rw (order_is, ← append-nil (without k order)) (rw away at (ordered_put slots order k (Some entry) can.within whole.ordered));
  some = whole.some;
  room_is = rw room_is whole.room_is;
}

-- and where a slot gives its page up
pub order_emptied : (slots : List (Option Entry)) (frames free free' capacity capacity' : ℕ) (old new : Lists) (order order' : List ℕ) (room room' k : ℕ) → k < length slots
    → free' ≡ free + cond (is_in_frame (get_or slots k None)) 1 0 → capacity' ≡ capacity
    → AreListed new (moved (home_in slots) k (length slots)) → length new.heads.items ≡ length old.heads.items → length new.nexts.items ≡ length old.nexts.items
    → order' ≡ without k order → room' ≡ room
    → IsInOrder slots frames free capacity old order room → IsInOrder (set slots k None) frames free' capacity' new order' room'
order_emptied slots frames free free' capacity capacity' old new order order' room room' k within given has listed heads nexts order_is room_is whole = record {
  kept = kept_emptied slots frames free free' capacity capacity' old new k within given has listed heads nexts whole.kept;
  ordered = rw (order_is, ← append-nil (without k order)) (ordered_put slots order k None within whole.ordered);
  some = whole.some;
  room_is = rw room_is whole.room_is;
}

-- no more pages are in frames than there are frames
pub kept_few : (pages : PagesValue) (free capacity : ℕ) → AreShared pages.slots pages.frames free capacity → resident_count pages ≤ pages.frames
unfolding resident_count
kept_few pages free capacity shares = let shared = shares.shared in omega arith
