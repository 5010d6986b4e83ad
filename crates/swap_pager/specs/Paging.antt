-- Pages and a host with which each page that is away can be brought.
use Rattle.std.specs.Prelude.{ℕ, ◌≡◌, ◌<◌, ◌≤◌, length, Option, Some}
use Rattle.host_edge.specs.Files.{Held}
use Rattle.guest_pages.specs.Pages.{PagesValue}
use Rattle.guest_pages.specs.Together.{AreClean, NoneSwapped}

-- each page has a frame, and then none is on the swap, or a swap with as many pages is open; where the host tells its swap, pages
-- that weren't written equal what it or the zeros give
pub record CanPage (pages : PagesValue) (held : Option Held) (opened : ℕ) : Type 0 where
  pub least : 8 ≤ pages.frames
  pub fit : pages.frames ≤ length pages.slots
  pub none : pages.frames ≡ length pages.slots → NoneSwapped pages
  pub over : pages.frames < length pages.slots → length pages.slots ≤ opened
  pub clean : (told : Held) → held ≡ Some told → AreClean pages told.page
