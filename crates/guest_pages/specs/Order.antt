-- The order in which pages were brought.
use Rattle.std.specs.Prelude.{ℕ, ◌==◌, ◌≡◌, Bool, not, List, [], ◌∷◌, ◌++◌, Option, Some, None, nat_eq, true, false}
use Rattle.std.specs.List.{filter, list_any, IsDistinct}
use Rattle.guest_pages.specs.Table.{Mapped}
use Rattle.guest_pages.specs.Pages.{PagesValue, table_of}

-- the order without a slot
abbrev pub without : ℕ → List ℕ → List ℕ
without slot recent = filter (λ other. not (other == slot)) recent

-- the order without a page, if that is mapped
abbrev pub without_page : Option Mapped → List ℕ → List ℕ
without_page None recent = recent
without_page (Some mapped) recent = without mapped.slot recent

-- whether a slot is in the order
abbrev pub is_recent : List ℕ → ℕ → Bool
is_recent recent slot = list_any (λ other. slot == other) recent

-- this page is in this slot
pub record IsSlotOf (pages : PagesValue) (slot page : ℕ) (mapped : Mapped) : Type 0 where
  pub is : table_of pages page ≡ Some mapped
  pub slot_is : mapped.slot ≡ slot

-- the page in this slot is in a frame, or away
pub record HasPage (pages : PagesValue) (slot : ℕ) (resident : Bool) : Type 0 where
  pub page : ℕ
  pub mapped : Mapped
  pub there : IsSlotOf pages slot page mapped
  pub resident_is : mapped.resident ≡ resident

abbrev pub IsResidentIn : PagesValue → ℕ → Type 0
IsResidentIn pages slot = HasPage pages slot true

abbrev pub IsAwayIn : PagesValue → ℕ → Type 0
IsAwayIn pages slot = HasPage pages slot false

-- the order names the slots of the pages in frames, each once, and no others
pub record AreOrdered (pages : PagesValue) : Type 0 where
  pub once : IsDistinct nat_eq pages.recent
  pub has : (page : ℕ) (mapped : Mapped) → table_of pages page ≡ Some mapped → is_recent pages.recent mapped.slot ≡ mapped.resident
  pub only : (slot : ℕ) → is_recent pages.recent slot ≡ true → IsResidentIn pages slot

-- this slot is the last of the order: its page was brought first
pub record IsFirstBrought (recent : List ℕ) (slot : ℕ) : Type 0 where
  pub later : List ℕ
  pub is : recent ≡ later ++ slot ∷ []
