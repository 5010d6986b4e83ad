use Rattle.std.proofs.Common.{ℕ, ◌<◌, ◌%◌, List, length, slice_index_or, slice_set, arith, subst, sym, ◌∙◌, inl, inr}
use Rattle.std.proofs.lemmas.Bool.{cases_eq}
use Rattle.std.proofs.lemmas.List.{get_or-set_other, length-set}
use Rattle.std.proofs.lemmas.Grind.{get_or-set_at}
use Rattle.core_step.specs.declared.fetch_cache.Sighting.{Sighting}
use Rattle.core_step.specs.Kept.{IsSighting, AreKept}
use Rattle.core_step.proofs.fetch_cache.FetchCache.recall.Goals as goal

-- one more sighting is kept, in the place of another
kept-set : (all : List Sighting) (place : ℕ) (one : Sighting) → AreKept all → IsSighting one.bytes one.kept → AreKept (slice_set all place one)
kept-set all place one kept is = record { count = length-set all place one ∙ kept.count; fetched = each }
  where
    within : (k : ℕ) → k < length (slice_set all place one) → k < length all
    within k h = omega (arith, length-set all place one)

    each : (k : ℕ) (other : Sighting) → k < length (slice_set all place one)
        → IsSighting (slice_index_or (slice_set all place one) k other).bytes (slice_index_or (slice_set all place one) k other).kept
    each k other h =
        let P : Sighting → Type 0 = λ (x : Sighting). IsSighting x.bytes x.kept in
        elim (cases_eq k place) as (λ _. P (slice_index_or (slice_set all place one) k other)) [
          | inl same ↦ subst P (sym (get_or-set_at all place k one other same (omega (arith, within k h)))) is
          | inr apart ↦ subst P (sym (get_or-set_other all place k one other apart)) (kept.fetched k other (within k h))
        ]

pub invariant_of-self : goal.invariant_of-self
invariant_of-self c = kept-set c.self.inside.kept.items (c.args.at % 4096) c.renew.new.self c.self.invariant c.renew.ensures.kept
