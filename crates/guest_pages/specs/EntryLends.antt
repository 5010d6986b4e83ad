-- What a place, a mapped page and a slot end as, where a part of the page was lent.
use Rattle.std.specs.Prelude.{ℕ, List, Option}
use Rattle.std.specs.Borrow.{Lends, MutBor, Fml, u8, Array}
use Rattle.std.specs.contracts.option.Option.{the_row as option_row}
use Rattle.guest_pages.specs.declared.entry.Entry.{Entry}
use Rattle.guest_pages.specs.declared.entry.Place.{Place}
use Rattle.guest_pages.specs.Entry.{place_with, entry_with, slot_with}
use Rattle.guest_pages.specs.contracts.entry.Place.{the_row as place_row}
use Rattle.guest_pages.specs.contracts.entry.Entry.{the_row as entry_row}

abbrev pub LendsPlace : MutBor Place → ℕ → MutBor (List ℕ) → Fml
LendsPlace place at part = Lends place_row (Array u8 0) place part (place_with place.now at)

abbrev pub LendsEntry : MutBor Entry → ℕ → MutBor (List ℕ) → Fml
LendsEntry entry at part = Lends entry_row (Array u8 0) entry part (entry_with entry.now at)

abbrev pub LendsSlot : MutBor (Option Entry) → ℕ → MutBor (List ℕ) → Fml
LendsSlot slot at part = Lends (option_row entry_row) (Array u8 0) slot part (slot_with slot.now at)
