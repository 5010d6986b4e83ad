-- Lemmas for the tests.
use Rattle.std.proofs.Common.{◌≡◌, ℕ, ◌/◌, Bool, true, false, cond, Option, Some, None, Result, Ok, IsSome, length, refl, sym, ◌∙◌}
use Rattle.std.specs.Option.{option_map}
use Rattle.machine_state.specs.declared.kinds.Kind.{Kind}
use Rattle.machine_state.specs.declared.kinds.Miss.{Miss}
use Rattle.machine_state.specs.declared.kinds.Miss.TheVariants.{NonCanonical}
use Rattle.machine_state.specs.Memory.{page_size, first_miss, miss_at, miss_in, is_noncanonical}
use Rattle.machine_state.proofs.MemoryLemmas.{or_else_none}
use Rattle.guest_pages.specs.Table.{Mapped, perms_in, answer_of}
use Rattle.guest_pages.specs.Pages.{PagesValue, table_of}
use Rattle.guest_pages.specs.Changes.{IsZeroed}

miss_case : (b : Bool) (entry : Option Mapped) (kind : Kind) (addr : ℕ) → cond b (Some (NonCanonical addr)) (miss_in (option_map (λ (m : Mapped). m.perms) entry) kind addr) ≡ None → IsSome entry
miss_case true entry kind addr h = cc
miss_case false None kind addr h = cc
miss_case false (Some mapped) kind addr h = refl

answer_none : (miss : Option Miss) → ◌≡◌ {A = Result (Unit {0}) Miss} (Ok tt) (answer_of miss) → miss ≡ None
answer_none None h = refl
answer_none (Some miss) h = cc

-- a page that may be accessed is mapped
pub allowed_mapped : (pages : PagesValue) (kind : Kind) (addr : ℕ) (answer : Result (Unit {0}) Miss) → answer ≡ answer_of (first_miss (perms_in (table_of pages)) kind addr 1) → answer ≡ Ok tt
    → IsSome (table_of pages (addr / page_size))
unfolding first_miss
allowed_mapped pages kind addr answer is ok =
    let none = answer_none (first_miss (perms_in (table_of pages)) kind addr 1) (sym ok ∙ is) in
    let first = or_else_none (miss_at (perms_in (table_of pages)) kind addr) None none in
    miss_case (is_noncanonical addr) (table_of pages (addr / page_size)) kind addr first.0

-- filling with zeros keeps the number of slots
pub zeroed_slots : (old new : PagesValue) (page : ℕ) → IsSome (table_of old page) → IsZeroed old new page → length new.slots ≡ length old.slots
zeroed_slots old new page some zeroed = by_entry (table_of old page) refl some
  where
    by_entry : (entry : Option Mapped) → table_of old page ≡ entry → IsSome entry → length new.slots ≡ length old.slots
    by_entry None is h = cc
    by_entry (Some mapped) is h = (zeroed mapped is).size.pages
