-- Lines on the error output, and the ends of commands that they say.
use Rattle.std.proofs.Common.{◌≡◌, ◌∙◌, ℕ, ◌≤◌, ◌++◌, List, [], length, false, Option, Some, None, IsSome, is_some, Ok, Err, IsTrue, refl, sym, ap, arith, take, drop, append-nil, append_assoc, take-append-drop, inl, inr}
use Rattle.machine_state.specs.Memory.{Swap}
use Rattle.machine_state.specs.State.{State}
use Rattle.host_edge.specs.declared.outside.HostCall.{HostCall}
use Rattle.host_edge.specs.declared.outside.HostCall.TheVariants.{PutErr}
use Rattle.host_edge.specs.Causes.{Rose}
use Rattle.host_edge.specs.Streams.{Puts, told}
use Rattle.linux_calls.specs.Outside.{IsTold}
use Rattle.core_step.specs.declared.machine.Machine.{Machine}
use Rattle.guest_run.specs.Outside.{Outside}
use Rattle.guest_run.specs.Guests.{Around}
use Rattle.xemu_top.specs.declared.ends.End.{End}
use Rattle.xemu_top.specs.declared.ends.End.TheVariants.{Exit, Killed, Budget, Words, Image, Start, Host, Memory}
use Rattle.xemu_top.specs.Command.{ended, line_piece, said}
use Rattle.xemu_top.specs.Headline.{IsLeft, MeetsWork, failed_call, is_own}
use Rattle.xemu_top.specs.Parts.{Ends, KeepsHost, Says, StandsAround, answer_of, with_err}
use Rattle.xemu_top.proofs.WorkLemmas.{fails-first, meets-failed, tell-none}

-- ---- what a stream has, where it is told
-- after all bytes were put
told-all : (old new : Option (List ℕ)) (bytes o : List ℕ) → is_some new ≡ is_some old
    → (IsSome old → told new ≡ told old ++ bytes) → IsTold old o → IsTold new (o ++ bytes)
told-all old None bytes o tells all is = tt
told-all None (Some now) bytes o tells all is = cc
told-all (Some was) (Some now) bytes o tells all is = ap (λ (xs : List ℕ). xs ++ bytes) is ∙ sym (all refl)

-- after a front of them was put
told-front : (old new : Option (List ℕ)) (bytes o : List ℕ) → is_some new ≡ is_some old
    → (IsSome old → (n : ℕ) × (n ≤ length bytes) × (told new ≡ told old ++ take n bytes)) → IsTold old o
    → (n : ℕ) × IsTold new (o ++ take n bytes)
told-front old None bytes o tells front is = (0, tt)
told-front None (Some now) bytes o tells front is = cc
told-front (Some was) (Some now) bytes o tells front is =
    let f = front refl in (f.0, ap (λ (xs : List ℕ). xs ++ take f.0 bytes) is ∙ sym f.2)

-- a front and the rest are all that is put
front-whole : (start bytes : List ℕ) (n : ℕ) → start ++ bytes ≡ (start ++ take n bytes) ++ drop n bytes
front-whole start bytes n = sym (append_assoc start _ _ ∙ ap (λ (xs : List ℕ). start ++ xs) (take-append-drop n bytes))

-- ---- a line
module _ (E : Type 0) (a : Around) (given given' : Option (List ℕ)) (faults faults' : ℕ) (line : List ℕ) where
  abbrev before : Around
  before = with_err a given faults

  abbrev after : Around
  after = with_err a given' faults'

  keeps-host : is_some given' ≡ is_some given → KeepsHost before after
  keeps-host tells = record { held = refl; opened = refl; streams = record { left = refl; out = refl; err = tells } }

  pub says-whole : Puts {E = E} given given' line (Ok tt) → faults' ≡ faults → Says line before after (Ok tt)
  says-whole puts kept = record {
    whole = λ on is. record {
      files_are = is.files_are;
      streams_are = record {
        left = is.streams_are.left;
        out = is.streams_are.out;
        err = told-all given given' line on.err puts.tells puts.all is.streams_are.err;
      };
    };
    front = tt;
    keeps = keeps-host puts.tells;
    cause = ap (λ (n : ℕ). record a.tally { err = n }) kept;
    call = tt;
  }

  pub says-front : (e : E) → Puts {E = E} given given' line (Err e) → Rose faults faults' → Says line before after (Err PutErr)
  says-front e puts rose = record {
    whole = tt;
    front = λ on is.
        let f = told-front given given' line on.err puts.tells puts.front is.streams_are.err in
        record {
          now = record on { err = on.err ++ take f.0 line };
          stands = record {
            files_are = is.files_are;
            streams_are = record { left = is.streams_are.left; out = is.streams_are.out; err = f.1 };
          };
          may = record {
            made = (0, omega arith, refl);
            streams = record {
              has = record { out = ([], sym (append-nil on.out)); err = (take f.0 line, refl); left = ([], refl) };
              within = record { out = ([], sym (append-nil on.out)); err = (drop f.0 line, front-whole on.err line f.0); left = ([], refl) };
            };
            files = refl;
          };
        };
    keeps = keeps-host puts.tells;
    cause = ((0, omega arith, refl), rose, refl);
    call = refl;
  }

-- ---- an end, behind its line
own-no_call : (end : End) → IsTrue (is_own end) → failed_call end ≡ None
own-no_call (Exit code) own = refl
own-no_call (Killed signal) own = refl
own-no_call Budget own = refl
own-no_call (Words fault) own = refl
own-no_call (Image fault) own = refl
own-no_call (Start fault) own = refl
own-no_call (Host call) own = cc
own-no_call Memory own = refl

own-no_host : (end : End) (call : HostCall) → IsTrue (is_own end) → end ≡ Host call → ⊥
own-no_host end call own is = let none : None ≡ Some call = sym (own-no_call end own) ∙ ap failed_call is in cc

own-no_memory : (end : End) → IsTrue (is_own end) → end ≡ Memory → ⊥
own-no_memory end own is = let e : is_own end ≡ false = ap is_own is in cc

module _ (end : End) (machine : Option Machine) (before after : Around) where
  -- the end itself, whatever stands then
  own-end : (line : Option (List ℕ)) (swap : Swap) (state : Option State) (on now : Outside) (own : IsTrue (is_own end)) → IsLeft swap machine state
      → (ended line end state on).outcome ≡ record { end = end; machine = state; outside = now }
      → StandsAround after now → MeetsWork (ended line end state on) on swap (answer_of end machine) (StandsAround after)
  own-end line swap state on now own left is stands = record {
    gives = λ _. rw is (record { end = refl; machine = left; outside_is = stands });
    stands = λ call h. absurd (own-no_host end call own h);
    nothing = λ h. absurd (own-no_memory end own h);
  }

  pub ends-said : (line : List ℕ) → Says line before after (Ok tt) → Ends (Some line) end machine before after (answer_of end machine)
  ends-said line says = record {
    meets = λ own swap state left on stands. own-end (Some line) swap state on (said line on) own left refl (says.whole on stands);
    silent = λ h. cc;
    is = inl refl;
    keeps = says.keeps;
    cause = λ own. rw (own-no_call end own) says.cause;
  }

  pub ends-not_said : (line : List ℕ) (call : HostCall) → Says line before after (Err call)
      → Ends (Some line) end machine before after (answer_of (Host call) None)
  ends-not_said line call says = record {
    meets = λ own swap state left on stands.
        let failed = says.front on stands in
        meets-failed swap (StandsAround after) (ended (Some line) end state on) on 74 call
        (record { now = failed.now; stands = failed.stands; may = fails-first (line_piece line on) [] call failed.now failed.may });
    silent = λ h. cc;
    is = inr (ap (λ (c : HostCall). answer_of (Host c) None) says.call);
    keeps = says.keeps;
    cause = λ own. says.cause;
  }

pub ends-silent : (end : End) (machine : Option Machine) (a : Around) → Ends None end machine a a (answer_of end machine)
ends-silent end machine a = record {
  meets = λ own swap state left on stands. own-end end machine a a None swap state on on own left refl stands;
  silent = λ h. (refl, refl);
  is = inl refl;
  keeps = record { held = refl; opened = refl; streams = tell-none a.streams };
  cause = λ own. rw (own-no_call end own) refl;
}
