-- The parts of the command before the run.
use Rattle.std.proofs.Common.{◌≡◌, ◌∙◌, ℕ, List, [], ◌∷◌, false, Option, Some, None, IfSome, IsTrue, Ok, refl, sym, ap, subst, map, inl, inr, ◌⊎◌}
use Rattle.machine_state.specs.State.{State}
use Rattle.host_edge.specs.declared.outside.HostCall.{HostCall}
use Rattle.host_edge.specs.declared.outside.HostCall.TheVariants.{PutErr}
use Rattle.host_edge.specs.Files.{Held, Becomes}
use Rattle.linux_calls.specs.Following.{StillTell}
use Rattle.command_words.specs.declared.kinds.Command.{Command}
use Rattle.command_words.specs.declared.kinds.WordFault.{WordFault}
use Rattle.guest_run.specs.Outside.{Outside}
use Rattle.guest_run.specs.Trail.{Piece, FailsOn}
use Rattle.guest_run.specs.Guests.{Around}
use Rattle.guest_run.specs.Tally.{Tally, IsCounted}
use Rattle.xemu_top.specs.declared.ends.End.{End}
use Rattle.xemu_top.specs.declared.ends.End.TheVariants.{Words, Host, Memory}
use Rattle.xemu_top.specs.declared.ends.Ended.{Ended}
use Rattle.xemu_top.specs.Files.{path_at}
use Rattle.xemu_top.specs.Lines.{refusal_line}
use Rattle.xemu_top.specs.Command.{Work, behind, command_calls, ended, stopped}
use Rattle.xemu_top.specs.Headline.{IsAnswer, IsTooLong, KeepsOtherFiles, MeetsWork, failed_call, is_own, refusal_in}
use Rattle.xemu_top.specs.Parts.{DoesWork, Ends, Passes, StandsAround, answer_of}
use Rattle.xemu_top.proofs.WorkLemmas.{counted-among, makes-err, meets-behind, meets-failed, meets-memory, others-same, others-then, tell-then}

-- the files of a host that tells them
pub files-told : (a : Around) (held : Held) (on : Outside) → a.held ≡ Some held → StandsAround a on → on.files ≡ held.file
files-told a held on is stands = subst (λ (h : Option Held). IfSome h (λ held. on.files ≡ held.file)) is stands.files_are

-- what stands on the outside stands there while the host tells the same files and the streams tell the same
pub record IsStill (before after : Around) : Type 0 where
  pub stands : (on : Outside) → StandsAround before on → StandsAround after on

pub still-same : (a : Around) → IsStill a a
still-same a = record { stands = λ on h. h }

-- and while only counts change
pub still-counted : (before after : Around) → after ≡ record before { tally = after.tally } → IsStill before after
still-counted before after same = record {
  stands = λ on stands.
      subst (λ (a : Around). StandsAround a on) (sym same) (record { files_are = stands.files_are; streams_are = stands.streams_are });
}

module _ (words : List (List ℕ)) (command : Command) where
  abbrev paths : List (List ℕ)
  paths = map (path_at words) command.outs.items

  -- ---- what holds whatever is told
  -- a way to a part on which no call failed
  pub record GoesOn (before mid : Around) : Type 0 where
    pub held : Becomes (KeepsOtherFiles paths) before.held mid.held
    pub streams : StillTell before.streams mid.streams
    pub opened : command.swap ≡ None → mid.opened ≡ before.opened
    pub tally : mid.tally ≡ before.tally

  pub passes-then : (before mid after : Around) (ended : Ended) → GoesOn before mid → Passes words command mid after ended
      → Passes words command before after ended
  passes-then before mid after ended way h = record {
    answer = h.answer;
    held = others-then paths before.held mid.held after.held way.held h.held;
    streams = tell-then before.streams mid.streams after.streams way.streams h.streams;
    opened = λ none. h.opened none ∙ way.opened none;
    cause = subst (λ (t : Tally). IsCounted (command_calls command) (failed_call ended.end) t after.tally) way.tally h.cause;
    too_long = h.too_long;
  }

  -- a part that ends by a call that failed
  pub passes-failed : (before after : Around) (call : HostCall) → Becomes (KeepsOtherFiles paths) before.held after.held
      → StillTell before.streams after.streams → (command.swap ≡ None → after.opened ≡ before.opened)
      → IsCounted (command_calls command) (Some call) before.tally after.tally → Passes words command before after (answer_of (Host call) None)
  passes-failed before after call held streams opened cause = record {
    answer = record { status = refl; no_machine = λ own. refl };
    held = held;
    streams = streams;
    opened = opened;
    cause = cause;
    too_long = λ fault is. cc;
  }

  -- a part in which memory was wanting
  pub passes-memory : (before after : Around) → GoesOn before after → Passes words command before after (answer_of Memory None)
  passes-memory before after way = record {
    answer = record { status = refl; no_machine = λ own. refl };
    held = way.held;
    streams = way.streams;
    opened = way.opened;
    cause = way.tally;
    too_long = λ fault is. cc;
  }

  -- ---- whole parts
  -- work that is other work behind some pieces, by the files alone
  abbrev IsBehind : (work rest : Outside → Work) → (front : Outside → List Piece) → Around → Type 0
  IsBehind work rest front before =
      (held : Held) → before.held ≡ Some held → (on : Outside) → on.files ≡ held.file → work on ≡ behind (front on) (rest on)

  pub works-behind : (work rest : Outside → Work) (front : Outside → List Piece) (before after : Around) (ended : Ended)
      → IsBehind work rest front before → DoesWork words command rest before after ended → DoesWork words command work before after ended
  works-behind work rest front before after ended is h = record {
    meets = λ held now was then told on stands.
        subst (λ (w : Work). MeetsWork w on now.page ended (StandsAround after)) (sym (is held was on (files-told before held on was stands)))
        (meets-behind now.page ended (StandsAround after) (front on) (rest on) on (h.meets held now was then told on stands));
    refuses = λ held was on files own.
        h.refuses held was on files own ∙ ap (λ (w : Work). refusal_in w.outcome.end) (sym (is held was on files));
    passes = h.passes;
  }

  -- a call on the outside failed in a piece that changes nothing
  pub works-failed : (work : Outside → Work) (before after : Around) (call : HostCall) → IsStill before after
      → ((held : Held) → before.held ≡ Some held → (on : Outside) → on.files ≡ held.file → FailsOn (work on).pieces call on)
      → Passes words command before after (answer_of (Host call) None) → DoesWork words command work before after (answer_of (Host call) None)
  works-failed work before after call same fails passes = record {
    meets = λ held now was then told on stands.
        meets-failed now.page (StandsAround after) (work on) on 74 call (record {
          now = on;
          stands = same.stands on stands;
          may = fails held was on (files-told before held on was stands);
        });
    refuses = λ held was on files own. cc;
    passes = passes;
  }

  -- memory was wanting
  pub works-memory : (work : Outside → Work) (before after : Around) → IsStill before after
      → Passes words command before after (answer_of Memory None) → DoesWork words command work before after (answer_of Memory None)
  works-memory work before after same passes = record {
    meets = λ held now was then told on stands. meets-memory now.page (StandsAround after) (work on) on 71 (same.stands on stands);
    refuses = λ held was on files own. cc;
    passes = passes;
  }

  -- ---- refusals
  ended-end : (line : Option (List ℕ)) (end : End) (machine : Option State) (on : Outside) → (ended line end machine on).outcome.end ≡ end
  ended-end None end machine on = refl
  ended-end (Some line) end machine on = refl

  module _ (end : End) (before after : Around) (result : Ended) (own : IsTrue (is_own end))
      (fits : (fault : WordFault) → end ≡ Words fault → IsTooLong (Ok command) fault) (ends : Ends (refusal_line end) end None before after result) where
    abbrev Is : Type 0
    Is = (result ≡ answer_of end None) ⊎ (result ≡ answer_of (Host PutErr) None)

    by_refusal : (on : Outside) → IsTrue (is_own result.end) → Is → refusal_in result.end ≡ refusal_in (stopped end on).outcome.end
    by_refusal on own_result (inl is) =
        ap (λ (r : Ended). refusal_in r.end) is ∙ ap (λ (e : End). refusal_in e) (sym (ended-end (refusal_line end) end None on))
    by_refusal on own_result (inr is) = absurd (let e : is_own result.end ≡ false = ap (λ (r : Ended). is_own r.end) is in cc)

    by_answer : Is → IsAnswer result
    by_answer (inl is) = rw is (record { status = refl; no_machine = λ own. refl })
    by_answer (inr is) = rw is (record { status = refl; no_machine = λ own. refl })

    by_words : Is → (fault : WordFault) → result.end ≡ Words fault → IsTooLong (Ok command) fault
    by_words (inl is) fault e = fits fault (sym (ap (λ (r : Ended). r.end) is) ∙ e)
    by_words (inr is) fault e = absurd (let f : Host PutErr ≡ Words fault = sym (ap (λ (r : Ended). r.end) is) ∙ e in cc)

    pub works-stopped : DoesWork words command (stopped end) before after result
    works-stopped = record {
      meets = λ held now was then told on stands. ends.meets own now.page None tt on stands;
      refuses = λ held was on files own_result. by_refusal on own_result ends.is;
      passes = record {
        answer = by_answer ends.is;
        held = others-same paths before.held after.held ends.keeps.held;
        streams = ends.keeps.streams;
        opened = λ none. ends.keeps.opened;
        cause = counted-among (PutErr ∷ []) (command_calls command) (failed_call result.end) before.tally after.tally (makes-err command) (ends.cause own);
        too_long = by_words ends.is;
      };
    }
