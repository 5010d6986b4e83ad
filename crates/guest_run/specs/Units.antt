-- The units of a step: what is fetched, performed, and answered with pages in frames together; and how far a step is from its end.
use Rattle.std.specs.Prelude.{ℕ, zero, suc, ◌≡◌, ◌≤◌, ◌<◌, ◌+◌, ◌-◌, ◌*◌, ◌/◌, ◌^◌, ◌==◌, ◌++◌, min, Bool, true, false, ⊤, List, [], ◌∷◌, length, Option, Some, None, Result, Ok, Err}
use Rattle.std.specs.List.{list_any, prefix_len}
use Rattle.machine_state.specs.Memory.{page_size, Swap}
use Rattle.machine_state.specs.declared.kinds.Access.{Access}
use Rattle.host_edge.specs.declared.outside.HostCall.{HostCall}
use Rattle.guest_pages.specs.Table.{Table, Mapped}
use Rattle.guest_pages.specs.Pages.{table_of}
use Rattle.host_edge.specs.Files.{Held}
use Rattle.core_step.specs.Act.{act, performed}
use Rattle.core_step.specs.Machine.{accesses, state_of}
use Rattle.core_step.specs.Pages.{fetch_accesses}
use Rattle.linux_calls.specs.Units.{unit_pages, unit_rank}
use Rattle.guest_run.specs.declared.guest.Guest.{Guest}
use Rattle.guest_run.specs.declared.guest.Phase.{Phase}
use Rattle.guest_run.specs.declared.guest.Phase.TheVariants.{Fetch, Perform, Answer}
use Rattle.guest_run.specs.declared.running.Tried.{Tried}
use Rattle.guest_run.specs.declared.running.Tried.TheVariants.{Again, Done}
use Rattle.guest_run.specs.Guests.{view_in}
use Rattle.guest_run.specs.Loads.{units_after}

-- ---- the pages of accesses
-- those under so many bytes from an address on, byte by byte
unfoldable pub pages_under : (addr len : ℕ) → List ℕ
pages_under addr zero = []
pages_under addr (suc len) = (addr / page_size) ∷ pages_under (addr + 1) len

unfoldable pub pages_of : List Access → List ℕ
pages_of [] = []
pages_of (access ∷ rest) = pages_under access.addr access.len ++ pages_of rest

-- no access list depends on what the swap holds
abbrev pub no_swap : Swap
no_swap = λ page. []

-- the pages of the next unit
abbrev pub phase_pages : Phase → Guest → List ℕ
phase_pages Fetch g = pages_of (fetch_accesses g.machine.rip)
phase_pages (Perform d len) g = pages_of (accesses d len (state_of g.machine no_swap))
phase_pages Answer g = unit_pages (view_in g)

-- ---- how many of them were brought last
abbrev pub is_slot : Option Mapped → ℕ → Bool
is_slot None slot = false
is_slot (Some mapped) slot = slot == mapped.slot

-- whether a slot is that of one of these pages
unfoldable pub is_of : Table → List ℕ → ℕ → Bool
is_of table pages slot = list_any (λ page. is_slot (table page) slot) pages

abbrev pub ready_of : Table → List ℕ → (recent : List ℕ) → ℕ
ready_of table pages recent = prefix_len (is_of table pages) recent

unfoldable pub ready : Guest → ℕ
ready g = ready_of (table_of g.machine.pages) (phase_pages g.phase g) g.machine.pages.recent

-- all slots of these pages are those of at most four
pub record AreFew (table : Table) (pages : List ℕ) : Type 0 where
  pub of : List ℕ
  pub few : length of ≤ 4
  pub are : (slot : ℕ) → is_of table pages slot ≡ true → is_of table of slot ≡ true

-- ---- how many units a step has at most before its end: a fetch comes before the instruction, and that before the units of its call
abbrev pub phase_rank : Phase → Guest → ℕ
phase_rank Fetch g = 2 ^ 64 + 2
phase_rank (Perform d len) g = 2 ^ 64 + 1
phase_rank Answer g = unit_rank (view_in g)

-- the next unit waits for the page in a slot: there is one, and that is one of the few pages that it has
pub record UnitWaits (g : Guest) (slot : ℕ) : Type 0 where
  pub few : AreFew (table_of g.machine.pages) (phase_pages g.phase g)
  pub of : is_of (table_of g.machine.pages) (phase_pages g.phase g) slot ≡ true
  pub left : 1 ≤ phase_rank g.phase g

-- ---- how far a step is from its end: each page that is brought is one more of its unit's, and of these there are at most four
unfoldable pub tries_left : Guest → ℕ
tries_left g = 5 * phase_rank g.phase g + (5 - ready g)

abbrev pub IsNearer : Guest → Guest → Result Tried HostCall → Type 0
IsNearer old new (Ok Again) = tries_left new < tries_left old
IsNearer old new (Ok (Done end)) = ⊤
IsNearer old new (Err call) = ⊤

-- where a call goes on, that is still no further from its end than the instruction that makes it
abbrev pub IsLow : Guest → Result Tried HostCall → Type 0
IsLow old (Ok Again) = tries_left old ≤ 5 * 2 ^ 64 + 5
IsLow old (Ok (Done end)) = ⊤
IsLow old (Err call) = ⊤

-- ---- how many units a step has before its end, where the swap holds this
abbrev pub phase_units : Phase → Swap → Guest → ℕ
phase_units Fetch swap g = 2 + units_after (act (state_of g.machine swap))
phase_units (Perform d len) swap g = 1 + units_after (performed d len (state_of g.machine swap))
phase_units Answer swap g = unit_rank (view_in g)

-- how many pages may still be brought for them: four for each, but for those of the next one that were brought last
unfoldable pub loads_left : Swap → Guest → ℕ
loads_left swap g = 4 * phase_units g.phase swap g - min (ready g) 4

-- no more pages were brought than might be
abbrev pub LoadsFit : (old new : Guest) → (before after : Swap) → Result Tried HostCall → Type 0
LoadsFit old new before after (Ok Again) = new.pager.loads + loads_left after new ≤ old.pager.loads + loads_left before old
LoadsFit old new before after (Ok (Done end)) = new.pager.loads ≤ old.pager.loads + loads_left before old
LoadsFit old new before after (Err call) = new.pager.loads ≤ old.pager.loads + loads_left before old

-- the same while the host tells what its swap holds
abbrev pub LoadsFew : (old new : Guest) → (before after : Option Held) → Result Tried HostCall → Type 0
LoadsFew old new before after result =
    (held now : Held) → before ≡ Some held → after ≡ Some now → LoadsFit old new held.page now.page result
