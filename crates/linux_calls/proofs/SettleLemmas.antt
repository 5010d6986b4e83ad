-- How a piece of a call becomes its end.
use Rattle.std.proofs.Common.{◌≡◌, ℕ, Contains, IsSome, Result, Ok, Err, ℤ, refl, sym, ap, ◌∙◌, subst}
use Rattle.std.specs.Int.{w64, cast_unsigned}
use Rattle.machine_state.specs.Memory.{Swap}
use Rattle.machine_state.specs.World.{World as Whole}
use Rattle.host_edge.specs.declared.outside.HostCall.{HostCall}
use Rattle.linux_calls.specs.declared.kinds.CallEnd.{CallEnd}
use Rattle.linux_calls.specs.declared.kinds.CallEnd.TheVariants.{Value, Exit, Need as NeedEnd, Host}
use Rattle.linux_calls.specs.declared.kinds.Halt.{Halt}
use Rattle.linux_calls.specs.declared.kinds.Halt.TheVariants.{Refused, Need, Failed}
use Rattle.linux_calls.specs.Call.{Called, Gives, answered, gives, negative}
use Rattle.linux_calls.specs.Rest.{calls_in_call, rest_of}
use Rattle.linux_calls.specs.View.{View, KeepsPages, StandsFor, with_parts}
use Rattle.linux_calls.specs.Outside.{Standing, Streams, AreTold, Between, standing_in, with_standing}
use Rattle.linux_calls.specs.Following.{Comes, FollowsAt, IsValue, KeepsAside, Settles, TakesInput, answered_view}

module _ (old mid : View) (s s' : Streams) where
  abbrev Came : Result ℕ Halt → Type 0
  Came result = Comes (rest_of old.progress) (TakesInput old → IsSome s.left) old mid s s' result

  -- a call with an answer
  valued : (new : View) (value : ℕ) (given : ℤ) → new ≡ answered_view mid value → cast_unsigned w64 given ≡ value
      → ((swap : Swap) (base : Whole) → AreTold s (standing_in base) → (TakesInput old → IsSome s.left)
      → (on : Standing) × AreTold s' on × (rest_of old.progress (with_parts swap old base) ≡ gives value (with_parts swap mid (with_standing base on))))
      → FollowsAt old new s s' (Value given)
  valued new value given is_new is_value comes swap from stands told =
      let came = comes swap from stands.streams_are told in
      let now = with_parts swap mid (with_standing from came.0) in
      let to : rest_of old.progress from ≡ gives value now = ap (rest_of old.progress) (sym stands.parts) ∙ came.2 in
      let P : Called → Type 0 = λ x. (x.outcome ≡ Gives (cast_unsigned w64 given)) × StandsFor swap new s' x.world × KeepsAside from x.world in
      subst P (sym to) (
        ap (λ (n : ℕ). Gives n) (sym is_value),
        subst (λ (v : View). StandsFor swap v s' (answered now value)) (sym is_new) (record { parts = refl; streams_are = came.1 }),
        record { flags = refl; rip = refl; extended = refl },
      )

  waiting : (slot : ℕ) → Came (Err (Need slot)) → FollowsAt old mid s s' (NeedEnd slot)
  waiting slot comes swap from stands told =
      let came = comes swap from stands.streams_are told in
      let came_to = came.2 in
      record {
        now = with_parts swap mid (with_standing from came.0);
        stands = record { parts = refl; streams_are = came.1 };
        aside = record { flags = refl; rip = refl; extended = refl };
        rest = came_to.0 ∙ ap (rest_of old.progress) stands.parts;
        grown = came_to.1;
      }

  failing : (call : HostCall) → Came (Err (Failed call)) → FollowsAt old mid s s' (Host call)
  failing call comes swap from stands told =
      let came = comes swap from stands.streams_are told in
      let came_to = came.2 in
      record {
        on = came.0;
        told = came.1;
        made = subst (λ (w : Whole). Contains (calls_in_call w) call) stands.parts came_to.0;
        between = subst (λ (w : Whole). Between (standing_in from) (standing_in (rest_of old.progress w).world) came.0) stands.parts came_to.1;
      }

  by_value : (new : View) (value : ℕ) (end : CallEnd) → new ≡ answered_view mid value → IsValue end value
      → ((swap : Swap) (base : Whole) → AreTold s (standing_in base) → (TakesInput old → IsSome s.left)
      → (on : Standing) × AreTold s' on × (rest_of old.progress (with_parts swap old base) ≡ gives value (with_parts swap mid (with_standing base on))))
      → FollowsAt old new s s' end
  by_value new value (Value given) is_new is_value comes = valued new value given is_new is_value comes
  by_value new value (Exit code) is_new is_value comes = absurd is_value
  by_value new value (NeedEnd slot) is_new is_value comes = absurd is_value
  by_value new value (Host call) is_new is_value comes = absurd is_value

  pub follows : (new : View) (result : Result ℕ Halt) (end : CallEnd) → Came result → Settles result mid new end → FollowsAt old new s s' end
  follows new (Ok value) end comes settles = by_value new value end settles.0 settles.1 comes
  follows new (Err (Refused errno)) end comes settles = by_value new (negative errno) end settles.0 settles.1 comes
  follows new (Err (Need slot)) end comes settles =
      subst (λ (e : CallEnd). FollowsAt old new s s' e) (sym settles.1) (subst (λ (v : View). FollowsAt old v s s' (NeedEnd slot)) (sym settles.0) (waiting slot comes))
  follows new (Err (Failed call)) end comes settles =
      subst (λ (e : CallEnd). FollowsAt old new s s' e) (sym settles.1) (subst (λ (v : View). FollowsAt old v s s' (Host call)) (sym settles.0) (failing call comes))

  pub pages_kept : (new : View) (result : Result ℕ Halt) (end : CallEnd) → KeepsPages old mid → Settles result mid new end → KeepsPages old new
  pages_kept new (Ok value) end keeps settles = subst (λ (v : View). KeepsPages old v) (sym settles.0) (record { fit = keeps.fit; size = keeps.size })
  pages_kept new (Err (Refused errno)) end keeps settles = subst (λ (v : View). KeepsPages old v) (sym settles.0) (record { fit = keeps.fit; size = keeps.size })
  pages_kept new (Err (Need slot)) end keeps settles = subst (λ (v : View). KeepsPages old v) (sym settles.0) keeps
  pages_kept new (Err (Failed call)) end keeps settles = subst (λ (v : View). KeepsPages old v) (sym settles.0) keeps
