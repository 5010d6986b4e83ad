-- What a frame ends as, where a part of it was lent.
use Rattle.std.specs.Prelude.{ℕ, List}
use Rattle.std.specs.Borrow.{Lends, MutBor, Fml, u8, Array}
use Rattle.guest_pages.specs.Bytes.{put_at}
use Rattle.guest_pages.specs.contracts.frame.Frame.{the_row}

abbrev pub LendsFrame : MutBor (List ℕ) → ℕ → MutBor (List ℕ) → Fml
LendsFrame frame at part = Lends the_row (Array u8 0) frame part (put_at frame.now at)
