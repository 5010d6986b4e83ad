-- The regions after a change of a range.
use Rattle.std.proofs.Common.{◌≡◌, ℕ, ◌<◌, List, ap, sym, ◌∙◌, subst, arith}
use Rattle.machine_state.specs.declared.kinds.Region.{Region}
use Rattle.machine_state.specs.Regions.{AreRegions, nature_at}
use Rattle.region_map.specs.declared.kinds.Change.{Change}
use Rattle.region_map.specs.Ranges.{changed_regions, IsAfter}
use Rattle.region_map.specs.Lists.{MayChange}
use Rattle.region_map.proofs.Natures.{changed_natures}
use Rattle.region_map.proofs.Ascents.{changed_are}

pub is_after : (change : Change) (from to : ℕ) (old new : List Region) → AreRegions old → from < to → MayChange change from to
    → new ≡ changed_regions change from to old → IsAfter change from to old new
is_after change from to old new are lt may e = record {
  list = e;
  listed = subst AreRegions (sym e) (changed_are change from to old are lt may);
  natures = λ page. ap (λ (xs : List Region). nature_at xs page) e ∙ changed_natures change from to old page are (omega arith);
}
