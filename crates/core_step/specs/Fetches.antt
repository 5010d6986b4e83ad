-- What a machine fetches, some of whose pages may be away.
use Rattle.std.specs.Prelude.{ℕ, ◌≡◌, ◌↔◌}
use Rattle.machine_state.specs.Memory.{Swap}
use Rattle.guest_pages.specs.Pages.{table_of, byte_of}
use Rattle.core_step.specs.declared.fetching.Fetched.{Fetched}
use Rattle.core_step.specs.declared.fetching.Fetched.TheVariants.{Need}
use Rattle.core_step.specs.declared.machine.Machine.{Machine}
use Rattle.core_step.specs.Fetch.{NeedsPage, IsFetched, IsFetchFit, fetched}
use Rattle.core_step.specs.Machine.{state_of}

-- whatever the swap, an answer is what the written machine fetches, or the page is needed that it names
pub record Fetches (m : Machine) (answer : Fetched) : Type 0 where
  pub whole : (w : Swap) → IsFetched (state_of m w) answer
  pub never : (w : Swap) (slot : ℕ) → fetched (state_of m w) ≡ Need slot → ⊥
  pub need : (w : Swap) (slot : ℕ) → (answer ≡ Need slot) ↔ NeedsPage (table_of m.pages) (byte_of m.pages w) m.rip slot
  pub fits : IsFetchFit answer
