-- Pieces of calls, put together.
use Rattle.std.proofs.Common.{◌≡◌, ℕ, IsSome, Result, Ok, Err, refl, sym, ◌∙◌, subst}
use Rattle.machine_state.specs.Memory.{Swap}
use Rattle.machine_state.specs.World.{World as Whole}
use Rattle.linux_calls.specs.declared.world.World.{World}
use Rattle.linux_calls.specs.declared.kinds.Halt.{Halt}
use Rattle.linux_calls.specs.declared.kinds.Halt.TheVariants.{Refused, Need, Failed}
use Rattle.linux_calls.specs.Call.{Called}
use Rattle.linux_calls.specs.Rest.{ProgressValue}
use Rattle.linux_calls.specs.View.{View, view_of, SameParts, KeepsPages, with_parts}
use Rattle.linux_calls.specs.Outside.{Streams, standing_in, with_standing}
use Rattle.linux_calls.specs.Waiting.{NeedsIn}
use Rattle.linux_calls.specs.Units.{KeepsSwap, WaitsIn, standing_at}
use Rattle.linux_calls.specs.Following.{Comes, ComesTo, DoesPart, Faults, IsCaused, Kept, TakesInput, Works, failed_in}
use Rattle.linux_calls.proofs.MoveLemmas.{extends_none, ends_none}

-- a piece that touches no stream
pub comes_of_part : (work : Whole → Called) (Premise : Type 0) (old new : View) (s : Streams) (result : Result ℕ Halt) → DoesPart work old new result → Comes work Premise old new s s result
comes_of_part work Premise old new s (Ok value) does = λ swap base told premise. (standing_in base, told, does swap base)
comes_of_part work Premise old new s (Err (Refused errno)) does = λ swap base told premise. (standing_in base, told, does swap base)
comes_of_part work Premise old new s (Err (Need slot)) does = λ swap base told premise. (
  standing_in base,
  told,
  (does swap base, record { out = extends_none base.out; err = extends_none base.err; left = ends_none base.left }),
)
comes_of_part work Premise old new s (Err (Failed call)) does = absurd does

no_cause : (work : Whole → Called) (old new : View) (result : Result ℕ Halt) (f : Faults) → DoesPart work old new result → IsCaused (failed_in result) f f
no_cause work old new (Ok value) f does = refl
no_cause work old new (Err (Refused errno)) f does = refl
no_cause work old new (Err (Need slot)) f does = refl
no_cause work old new (Err (Failed call)) f does = absurd does

pub works_of_part : (at : ProgressValue) (work : Whole → Called) (old new : World) (s : Streams) (f : Faults) (result : Result ℕ Halt) → Kept old new
    → DoesPart work (view_of old) (view_of new) result → NeedsIn (view_of new) result → WaitsIn (standing_at (view_of old) at) (view_of new) result
    → Works at work old new s s f f result
works_of_part at work old new s f result kept does needs waits = record {
  kept = kept;
  comes = comes_of_part work (TakesInput (view_of old) → IsSome s.left) (view_of old) (view_of new) s result does;
  tells = record { left = refl; out = refl; err = refl };
  needs = needs;
  waits = waits;
  cause = no_cause work (view_of old) (view_of new) result f does;
}

-- under a weaker premise
pub comes_under : (work : Whole → Called) (P Q : Type 0) (old new : View) (s s' : Streams) (result : Result ℕ Halt) → (Q → P) → Comes work P old new s s' result → Comes work Q old new s s' result
comes_under work P Q old new s s' result implies comes = λ swap base told q. comes swap base told (implies q)

-- the same piece of an equal call
pub comes_as : (work other : Whole → Called) (Premise : Type 0) (old new : View) (s s' : Streams) (result : Result ℕ Halt)
    → ((swap : Swap) (base : Whole) → work (with_parts swap old base) ≡ other (with_parts swap old base)) → Comes other Premise old new s s' result → Comes work Premise old new s s' result
comes_as work other Premise old new s s' result same comes = λ swap base told premise.
    let here = comes swap base told premise in
    (here.0, here.1, by_result (other (with_parts swap old base)) (work (with_parts swap old base)) (with_parts swap old base) (with_parts swap new (with_standing base here.0)) result (sym (same swap base)) here.2)
  where
    by_result : (to also : Called) (from now : Whole) (result : Result ℕ Halt) → to ≡ also → ComesTo to from now new.progress result → ComesTo also from now new.progress result
    by_result to also from now result e h = subst (λ (x : Called). ComesTo x from now new.progress result) e h

pub works_as : (at : ProgressValue) (work other : Whole → Called) (old new : World) (s s' : Streams) (f f' : Faults) (result : Result ℕ Halt)
    → ((swap : Swap) (base : Whole) → work (with_parts swap (view_of old) base) ≡ other (with_parts swap (view_of old) base)) → Works at other old new s s' f f' result → Works at work old new s s' f f' result
works_as at work other old new s s' f f' result same works = record {
  kept = works.kept;
  comes = comes_as work other (TakesInput (view_of old) → IsSome s.left) (view_of old) (view_of new) s s' result same works.comes;
  tells = works.tells;
  needs = works.needs;
  waits = works.waits;
  cause = works.cause;
}

pub works_same : {at : ProgressValue} {work other : Whole → Called} {old new : World} {s s' : Streams} {f f' : Faults} {result : Result ℕ Halt}
    → Works at other old new s s' f f' result → ((swap : Swap) (base : Whole) → work (with_parts swap (view_of old) base) ≡ other (with_parts swap (view_of old) base))
    → Works at work old new s s' f f' result
works_same {at} {work} {other} {old} {new} {s} {s'} {f} {f'} {result} works same = works_as at work other old new s s' f f' result same works

-- a piece from parts that differ in their progress alone
pub works_from : {at : ProgressValue} {work : Whole → Called} {old mid new : World} {s s' : Streams} {f f' : Faults} {result : Result ℕ Halt} (progress : ProgressValue)
    → Works at work mid new s s' f f' result → SameParts old mid → view_of mid ≡ record (view_of old) { progress = progress } → Works at work old new s s' f f' result
works_from {at} {work} {old} {mid} {new} {s} {s'} {f} {f'} {result} progress works parts view =
    let now : View = record (view_of old) { progress = progress } in
    let pages : KeepsPages now (view_of new) = subst (λ (v : View). KeepsPages v (view_of new)) view works.kept.pages in
    let same = works.kept.parts in
    record {
      kept = record {
        parts = record {
          gprs = same.gprs ∙ parts.gprs;
          fs = same.fs ∙ parts.fs;
          gs = same.gs ∙ parts.gs;
          pages = same.pages ∙ parts.pages;
          regions = same.regions ∙ parts.regions;
          files = same.files ∙ parts.files;
          random = same.random ∙ parts.random;
          progress = same.progress ∙ parts.progress;
          steps = same.steps ∙ parts.steps;
        };
        pages = record { fit = pages.fit; size = pages.size };
        swap = subst (λ (v : View). KeepsSwap v.pages (view_of new).pages) view works.kept.swap;
      };
      comes = subst (λ (v : View). Comes work (TakesInput v → IsSome s.left) v (view_of new) s s' result) view works.comes;
      tells = works.tells;
      needs = works.needs;
      waits = subst (λ (v : View). WaitsIn (standing_at v at) (view_of new) result) view works.waits;
      cause = works.cause;
    }

pub works_part : {at : ProgressValue} {work : Whole → Called} {old new : World} {s : Streams} {f : Faults} {result : Result ℕ Halt} → Kept old new
    → DoesPart work (view_of old) (view_of new) result → NeedsIn (view_of new) result → WaitsIn (standing_at (view_of old) at) (view_of new) result
    → Works at work old new s s f f result
works_part {at} {work} {old} {new} {s} {f} {result} kept does needs waits = works_of_part at work old new s f result kept does needs waits

-- the same piece of a call that stands elsewhere
pub works_at : {at also : ProgressValue} {work : Whole → Called} {old new : World} {s s' : Streams} {f f' : Faults} {result : Result ℕ Halt} → Works at work old new s s' f f' result
    → (WaitsIn (standing_at (view_of old) at) (view_of new) result → WaitsIn (standing_at (view_of old) also) (view_of new) result) → Works also work old new s s' f f' result
works_at {at} {also} {work} {old} {new} {s} {s'} {f} {f'} {result} works goes = record {
  kept = works.kept;
  comes = works.comes;
  tells = works.tells;
  needs = works.needs;
  waits = goes works.waits;
  cause = works.cause;
}

pub works_standing : {at also : ProgressValue} {work : Whole → Called} {old new : World} {s s' : Streams} {f f' : Faults} {result : Result ℕ Halt} → Works at work old new s s' f f' result
    → at ≡ also → Works also work old new s s' f f' result
works_standing {at} {also} {work} {old} {new} {s} {s'} {f} {f'} {result} works same =
    subst (λ (p : ProgressValue). Works p work old new s s' f f' result) same works
