-- What pages end as, where a part of a page was lent.
use Rattle.std.specs.Prelude.{ℕ, List}
use Rattle.std.specs.Borrow.{Lends, MutBor, Fml, u8, Array}
use Rattle.guest_pages.specs.Pages.{PagesValue, lent}
use Rattle.guest_pages.specs.contracts.pages.Pages.{the_row}

-- once the loan of the bytes from an address on ends, the pages have there what it left
abbrev pub LendsPages : MutBor PagesValue → ℕ → MutBor (List ℕ) → Fml
LendsPages pages addr part = Lends the_row (Array u8 0) pages part (lent pages.now addr)
