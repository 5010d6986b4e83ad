-- Work, its pieces, and the counts of its calls.
use Rattle.std.proofs.Common.{◌≡◌, ◌∙◌, ℕ, ◌++◌, List, [], ◌∷◌, zero, suc, slice_get, Option, Some, None, is_some, refl, sym, ap, subst, arith, append-nil, map}
use Rattle.std.specs.List.{Contains}
use Rattle.std.proofs.lemmas.List.Elements.{Contains-append_left, Contains-append_right}
use Rattle.machine_state.specs.Memory.{Swap}
use Rattle.host_edge.specs.declared.outside.HostCall.{HostCall}
use Rattle.host_edge.specs.declared.outside.HostCall.TheVariants.{Load, Store, SwapGet, SwapPut, Take, PutOut, PutErr}
use Rattle.host_edge.specs.Files.{Held, Becomes, KeepsFiles}
use Rattle.linux_calls.specs.Outside.{Standing, Streams, Grown, Between}
use Rattle.linux_calls.specs.Following.{StillTell}
use Rattle.command_words.specs.declared.kinds.Command.{Command}
use Rattle.guest_run.specs.Outside.{Outside, Leaves, standing_on}
use Rattle.guest_run.specs.Trail.{Piece, FailsIn, FailsOn}
use Rattle.guest_run.specs.Tally.{Tally, IsCounted, NoneRose, count_of}
use Rattle.guest_run.specs.Following.{run_calls}
use Rattle.guest_run.proofs.RunLemmas.{fails-later}
use Rattle.host_edge.specs.Causes.{Rose}
use Rattle.xemu_top.specs.declared.ends.End.{End}
use Rattle.xemu_top.specs.declared.ends.Ended.{Ended}
use Rattle.xemu_top.specs.Command.{Work, behind, still, command_calls, opening_calls}
use Rattle.xemu_top.specs.Headline.{MeetsWork, KeepsOtherFiles}

-- ---- counts
-- what counts among some calls counts among more
pub counted-among : (calls more : List HostCall) (failed : Option HostCall) (old new : Tally)
    → ((call : HostCall) → Contains calls call → Contains more call) → IsCounted calls failed old new → IsCounted more failed old new
counted-among calls more None old new among h = h
counted-among calls more (Some call) old new among h = (among call h.0, h.1, h.2)

-- where no count rose no call failed
pub not-failed : (calls : List HostCall) (failed : Option HostCall) (old new : Tally) → IsCounted calls failed old new → NoneRose calls old new
    → failed ≡ None
not-failed calls None old new h none = refl
not-failed calls (Some call) old new h none =
    absurd (subst (λ (c : HostCall). Rose (count_of c old) (count_of c new) → ⊥) h.0.2 (none h.0.0 call h.0.1) h.1)

-- ---- the calls of a command
module _ (command : Command) where
  abbrev later : List HostCall
  later = opening_calls command.swap ++ (map (λ place. Load place) command.ins.items ++ map (λ place. Store place) command.outs.items)

  abbrev first : List HostCall
  first = Load command.program ∷ run_calls

  pub makes-load : Contains (command_calls command) (Load command.program)
  makes-load = (0, omega arith, refl)

  pub makes-run : (call : HostCall) → Contains run_calls call → Contains (command_calls command) call
  makes-run call h = Contains-append_left first later call (Contains-append_right (Load command.program ∷ []) run_calls call h)

  pub makes-err : (call : HostCall) → Contains (PutErr ∷ []) call → Contains (command_calls command) call
  makes-err call h = makes-run call (Contains-append_right (SwapGet ∷ SwapPut ∷ Take ∷ PutOut ∷ []) (PutErr ∷ []) call h)

  pub makes-opening : (call : HostCall) → Contains (opening_calls command.swap) call → Contains (command_calls command) call
  makes-opening call h = Contains-append_right first later call (Contains-append_left (opening_calls command.swap) _ call h)

  pub makes-ins : (call : HostCall) → Contains (map (λ place. Load place) command.ins.items) call → Contains (command_calls command) call
  makes-ins call h =
      Contains-append_right first later call (Contains-append_right (opening_calls command.swap) _ call
      (Contains-append_left (map (λ place. Load place) command.ins.items) _ call h))

  pub makes-outs : (call : HostCall) → Contains (map (λ place. Store place) command.outs.items) call → Contains (command_calls command) call
  makes-outs call h =
      Contains-append_right first later call (Contains-append_right (opening_calls command.swap) _ call
      (Contains-append_right (map (λ place. Load place) command.ins.items) _ call h))

-- ---- calls that failed on a longer trail
pub fails-front : (front behind : List Piece) (call : HostCall) (now : Outside) → FailsOn front call now → FailsOn (front ++ behind) call now
fails-front front behind call now h = record { index = h.index; piece = h.piece; is = found front h.index h.is; fails = h.fails }
  where
    found : (xs : List Piece) (i : ℕ) → slice_get xs i ≡ Some h.piece → slice_get (xs ++ behind) i ≡ Some h.piece
    found [] i e = cc
    found (x ∷ xs) zero e = e
    found (x ∷ xs) (suc i) e = found xs i e

pub fails-back : (front rest : List Piece) (call : HostCall) (now : Outside) → FailsOn rest call now → FailsOn (front ++ rest) call now
fails-back [] rest call now h = h
fails-back (x ∷ front) rest call now h = fails-later x (front ++ rest) call now (fails-back front rest call now h)

pub fails-first : (piece : Piece) (rest : List Piece) (call : HostCall) (now : Outside) → FailsIn piece call now → FailsOn (piece ∷ rest) call now
fails-first piece rest call now h = record { index = 0; piece = piece; is = refl; fails = h }

-- ---- streams that are as they were
pub grown-none : (on : Standing) → Grown on on
grown-none on = record { out = ([], sym (append-nil on.out)); err = ([], sym (append-nil on.err)); left = ([], refl) }

pub between-none : (on : Standing) → Between on on on
between-none on = record { has = grown-none on; within = grown-none on }

pub still-fails : (calls : List HostCall) (on : Outside) (call : HostCall) → Contains calls call → FailsIn (still calls on) call on
still-fails calls on call made = record { made = made; streams = between-none (standing_on on); files = refl }

-- ---- what is told
pub tell-none : (s : Streams) → StillTell s s
tell-none s = record { left = refl; out = refl; err = refl }

pub tell-then : (a b c : Streams) → StillTell a b → StillTell b c → StillTell a c
tell-then a b c first second =
    record { left = second.left ∙ first.left; out = second.out ∙ first.out; err = second.err ∙ first.err }

module _ (paths : List (List ℕ)) where
  pub others-none : (held : Option Held) → Becomes (KeepsOtherFiles paths) held held
  others-none held = record { tells = refl; related = λ h is. (h, is, λ path others. refl) }

  pub others-same : (a b : Option Held) → b ≡ a → Becomes (KeepsOtherFiles paths) a b
  others-same a b same = record { tells = ap (λ (h : Option Held). is_some h) same; related = λ h is. (h, same ∙ is, λ path others. refl) }

  pub others-files : (a b : Option Held) → Becomes KeepsFiles a b → Becomes (KeepsOtherFiles paths) a b
  others-files a b h = record {
    tells = h.tells;
    related = λ held is.
        let after = h.related held is in
        (after.0, after.1, λ path others. ap (λ (files : List ℕ → Option (List ℕ)). files path) after.2);
  }

  pub others-then : (a b c : Option Held) → Becomes (KeepsOtherFiles paths) a b → Becomes (KeepsOtherFiles paths) b c
      → Becomes (KeepsOtherFiles paths) a c
  others-then a b c first second = record {
    tells = second.tells ∙ first.tells;
    related = λ held is.
        let mid = first.related held is in
        let last = second.related mid.0 mid.1 in
        (last.0, last.1, λ path others. last.2 path others ∙ mid.2 path others);
  }

-- ---- work behind other pieces
module _ (swap : Swap) (ended : Ended) (Stands : Outside → Type 0) (front : List Piece) (work : Work) where
  -- that changed nothing
  pub meets-behind : (on : Outside) → MeetsWork work on swap ended Stands → MeetsWork (behind front work) on swap ended Stands
  meets-behind on h = record {
    gives = h.gives;
    stands = λ call is.
        let left = h.stands call is in
        record { now = left.now; stands = left.stands; may = fails-back front work.pieces call left.now left.may };
    nothing = h.nothing;
  }

  -- that changed something, where memory isn't wanting any more
  pub meets-from : (from on : Outside) → (ended.end ≡ End.Memory → ⊥) → MeetsWork work on swap ended Stands
      → MeetsWork (behind front work) from swap ended Stands
  meets-from from on found h = record {
    gives = h.gives;
    stands = λ call is.
        let left = h.stands call is in
        record { now = left.now; stands = left.stands; may = fails-back front work.pieces call left.now left.may };
    nothing = λ is. absurd (found is);
  }

-- ---- ends that aren't the command's own
module _ (swap : Swap) (Stands : Outside → Type 0) (work : Work) (on : Outside) where
  -- a call on the outside failed
  pub meets-failed : (status : ℕ) (call : HostCall) → Leaves Stands (FailsOn work.pieces call)
      → MeetsWork work on swap (record { status = status; end = End.Host call; machine = None }) Stands
  meets-failed status call left = record {
    gives = λ own. cc;
    stands = λ other is. let same : call ≡ other = cc in subst (λ (c : HostCall). Leaves Stands (FailsOn work.pieces c)) same left;
    nothing = λ is. cc;
  }

  -- memory was wanting
  pub meets-memory : (status : ℕ) → Stands on
      → MeetsWork work on swap (record { status = status; end = End.Memory; machine = None }) Stands
  meets-memory status stands = record { gives = λ own. cc; stands = λ call is. cc; nothing = λ is. stands }
