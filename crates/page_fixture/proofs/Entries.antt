-- Lemmas on a page that is entered.
use Rattle.std.proofs.Common.{◌≡◌, ◌≢◌, ℕ, List, Option, Some, None, IsSome, refl, ap, ⊎_elim}
use Rattle.std.specs.Option.{option_map}
use Rattle.std.proofs.lemmas.Bool.{cases_eq, eq-eqb, ne_eqb}
use Rattle.guest_pages.specs.Table.{Mapped, Table, perms_in}
use Rattle.guest_pages.specs.Pages.{PagesValue, table_of, mapped_count}
use Rattle.guest_pages.specs.Order.{IsSlotOf, IsAwayIn}
use Rattle.guest_pages.specs.Changes.{IsEntered, IsProtected, with_perms}

module _ (old new : PagesValue) (slot : ℕ) (bytes : List ℕ) (away : IsAwayIn old slot)
    (enters : (page : ℕ) (mapped : Mapped) → IsSlotOf old slot page mapped → IsEntered old new page mapped bytes) where
  entered : IsEntered old new away.page away.mapped bytes
  entered = enters away.page away.mapped away.there

  perms_at : (page : ℕ) → perms_in (table_of new) page ≡ perms_in (table_of old) page
  perms_at page = ⊎_elim
      (λ (same : page ≡ away.page).
      rw (entered.table, eq-eqb page away.page same, same, away.there.is) refl)
      (λ (apart : page ≢ away.page). rw (entered.table, ne_eqb page away.page apart) refl)
      (cases_eq page away.page)

  -- the permissions stay
  pub entered_perms : perms_in (table_of new) ≡ perms_in (table_of old)
  entered_perms = λ i page. perms_at page i

  pub entered_count : mapped_count new ≡ mapped_count old
  entered_count = entered.count

some_case : (o other : Option Mapped) → option_map (λ m. m.perms) o ≡ option_map (λ m. m.perms) other → IsSome other → IsSome o
some_case None None same some = some
some_case None (Some m) same some = cc
some_case (Some n) other same some = refl

-- where the permissions stay, the pages that are mapped do
pub perms_some : (old new : PagesValue) (page : ℕ) → perms_in (table_of new) ≡ perms_in (table_of old) → IsSome (table_of old page) → IsSome (table_of new page)
perms_some old new page same some = some_case (table_of new page) (table_of old page) (ap (λ (perms : ℕ → Option ℕ). perms page) same) some

-- a page that gets other permissions stays mapped
pub protected_some : (old new : PagesValue) (page perms : ℕ) → IsProtected old new page perms → IsSome (table_of old page) → IsSome (table_of new page)
protected_some old new page perms protected some = rw (ap (λ (t : Table). t page) protected.table, eq-eqb page page refl) (here (table_of old page) some)
  where
    here : (o : Option Mapped) → IsSome o → IsSome (option_map (with_perms perms) o)
    here None some = some
    here (Some m) some = refl
