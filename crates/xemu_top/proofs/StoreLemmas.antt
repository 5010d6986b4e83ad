-- The stores of the guest's files.
use Rattle.std.proofs.Common.{◌≡◌, ◌≢◌, ◌∙◌, ℕ, ◌<◌, ◌++◌, List, [], ◌∷◌, length, get_or, Bool, true, false, if◌then◌else◌, Option, Some, None, IfSome, Ok, Err, refl, sym, ap, subst, arith, append-nil, append_assoc, map, fold}
use Rattle.std.specs.List.{Contains}
use Rattle.std.specs.Str.{bytes_eq}
use Rattle.std.proofs.lemmas.List.Elements.{Contains-append_left, Contains-append_right}
use Rattle.std.proofs.lemmas.List.Sums.{fold-append}
use Rattle.std.proofs.lemmas.List.{get_or-map, map-append}
use Rattle.std.proofs.lemmas.Slice.Eq.{bytes_eq-Decides}
use Rattle.host_edge.specs.declared.outside.HostCall.{HostCall}
use Rattle.host_edge.specs.declared.outside.HostCall.TheVariants.{Store}
use Rattle.host_edge.specs.Causes.{Counts, HasCause}
use Rattle.host_edge.specs.Files.{Held, Becomes, KeepsOthers, StoreMeets, Stores as StoresBytes}
use Rattle.machine_state.specs.World.{GuestFile, no_file}
use Rattle.guest_files.specs.declared.entries.Entry.{Entry}
use Rattle.guest_files.specs.Entries.{guest_file}
use Rattle.guest_files.specs.Files.{file_of}
use Rattle.guest_files.specs.Open.{number_of}
use Rattle.command_words.specs.Pairs.{name_at}
use Rattle.linux_calls.specs.Outside.{Between}
use Rattle.guest_run.specs.Outside.{Outside, standing_on}
use Rattle.guest_run.specs.Trail.{Piece, FailsOn}
use Rattle.guest_run.specs.Guests.{Around}
use Rattle.guest_run.specs.Tally.{Tally, IsCounted}
use Rattle.xemu_top.specs.Files.{file_named, path_at}
use Rattle.xemu_top.specs.Command.{Stores, store_piece, stored, stores, with_store}
use Rattle.xemu_top.specs.Parts.{KeepsRest, StoresFile, StoresFiles, with_host}
use Rattle.xemu_top.proofs.WorkLemmas.{between-none, counted-among, fails-back, fails-first, fails-front}

-- ---- one store
-- the files once bytes are stored are those of a host that stored them
files-stored : (path bytes : List ℕ) (held after : Held) → StoresBytes path bytes held after
    → (λ other. if bytes_eq other path then Some bytes else held.file other) ≡ after.file
files-stored path bytes held after stores i other = at_path (bytes_eq other path) refl i
  where
    at_path : (b : Bool) → bytes_eq other path ≡ b → (if b then Some bytes else held.file other) ≡ after.file other
    at_path true e = sym (subst (λ (p : List ℕ). after.file p ≡ Some bytes) (sym ((bytes_eq-Decides other path).0 e)) stores.stored)
    at_path false e = sym (stores.others.files other (λ same. let t : true ≡ false = sym ((bytes_eq-Decides other path).1 same) ∙ e in cc))

-- what may stand after a store that failed
record IsLeft (path : List ℕ) (held' : Option Held) (on : Outside) : Type 0 where
  now : Outside
  streams : now ≡ record on { files = now.files }
  files : IfSome held' (λ h. now.files ≡ h.file)
  others : (other : List ℕ) → other ≢ path → now.files other ≡ on.files other

module _ (path bytes : List ℕ) (held held' : Option Held) (on : Outside) where
  -- what stands after a store
  stands-stored : Becomes (StoresBytes path bytes) held held' → IfSome held (λ h. on.files ≡ h.file)
      → IfSome held' (λ h. (stored path bytes on).files ≡ h.file)
  stands-stored becomes files = by_held held held' becomes files
    where
      by_held : (a b : Option Held) → Becomes (StoresBytes path bytes) a b → IfSome a (λ h. on.files ≡ h.file)
          → IfSome b (λ h. (stored path bytes on).files ≡ h.file)
      by_held None None becomes files = tt
      by_held None (Some h) becomes files = absurd (let e : true ≡ false = becomes.tells in cc)
      by_held (Some h) b becomes files =
          let after = becomes.related h refl in
          subst (λ (o : Option Held). IfSome o (λ h. (stored path bytes on).files ≡ h.file)) (sym after.1)
          (ap (λ (f : List ℕ → Option (List ℕ)). λ other. if bytes_eq other path then Some bytes else f other) files
          ∙ files-stored path bytes h after.0 after.2)

  -- and after one that failed
  stands-failed : Becomes (KeepsOthers path) held held' → IfSome held (λ h. on.files ≡ h.file) → IsLeft path held' on
  stands-failed becomes files = by_held held held' becomes files
    where
      by_held : (a b : Option Held) → Becomes (KeepsOthers path) a b → IfSome a (λ h. on.files ≡ h.file) → IsLeft path b on
      by_held None None becomes files = record { now = on; streams = refl; files = tt; others = λ other ne. refl }
      by_held None (Some h) becomes files = absurd (let e : true ≡ false = becomes.tells in cc)
      by_held (Some h) b becomes files =
          let after = becomes.related h refl in
          record {
            now = record on { files = after.0.file };
            streams = refl;
            files = subst (λ (o : Option Held). IfSome o (λ h. after.0.file ≡ h.file)) (sym after.1) refl;
            others = λ other ne. after.2.files other ne ∙ sym (ap (λ (f : List ℕ → Option (List ℕ)). f other) files);
          }

-- no other file and no page is another than it was
rest-kept : (path : List ℕ) (held held' : Option Held) → Becomes (KeepsOthers path) held held' → Becomes (KeepsRest (path ∷ [])) held held'
rest-kept path held held' becomes = record {
  tells = becomes.tells;
  related = λ h is.
      let after = becomes.related h is in (
        after.0,
        after.1,
        record {
          files = λ other outside. after.2.files other (λ same. outside (0, omega arith, sym same));
          pages = after.2.pages;
        },
      );
}

others-of : (path bytes : List ℕ) (held held' : Option Held) → Becomes (StoresBytes path bytes) held held' → Becomes (KeepsOthers path) held held'
others-of path bytes held held' becomes = record {
  tells = becomes.tells;
  related = λ h is. let after = becomes.related h is in (after.0, after.1, after.2.others);
}

pub rest-none : (paths : List (List ℕ)) (held : Option Held) → Becomes (KeepsRest paths) held held
rest-none paths held = record { tells = refl; related = λ h is. (h, is, record { files = λ other all. refl; pages = refl }) }

module _ (E : Type 0) (place : ℕ) (path : List ℕ) (file : GuestFile) (a : Around) (held held' : Option Held) (opened opened' : ℕ)
    (counts counts' : Counts) where
  abbrev before : Around
  before = with_host a held opened counts

  abbrev after : Around
  after = with_host a held' opened' counts'

  pub file-stored : file.exists ≡ true → StoreMeets {E = E} held held' path file.content (Ok tt) → opened' ≡ opened
      → HasCause {T = Unit {0}} {E = E} counts.store counts'.store (Ok tt) → counts' ≡ record counts { store = counts'.store }
      → StoresFile place path file before after (Ok tt)
  file-stored there meets same cause others = record {
    whole = λ done stands. rw there (record {
      files_are = stands-stored path file.content held held' done.outside meets.stores stands.files_are;
      streams_are = stands.streams_are;
    });
    front = tt;
    held = rest-kept path held held' (others-of path file.content held held' meets.stores);
    opened = same;
    streams = refl;
    cause = ap (λ (c : Counts). record a.tally { host = c }) (others ∙ ap (λ (n : ℕ). record counts { store = n }) cause.kept);
  }

  pub file-not_stored : (e : E) → file.exists ≡ true → StoreMeets {E = E} held held' path file.content (Err e) → opened' ≡ opened
      → HasCause {T = Unit {0}} {E = E} counts.store counts'.store (Err e) → counts' ≡ record counts { store = counts'.store }
      → StoresFile place path file before after (Err (Store place))
  file-not_stored e there meets same cause others = record {
    whole = tt;
    front = (
      there,
      λ on stands.
          let left = stands-failed path file.content held held' on meets.failed stands.files_are in
          record {
            now = record on { files = left.now.files };
            stands = record { files_are = left.files; streams_are = stands.streams_are };
            may = record { made = (0, omega arith, refl); streams = between-stored on; files = left.others };
          },
    );
    held = rest-kept path held held' meets.failed;
    opened = same;
    streams = refl;
    cause = ((0, omega arith, refl), cause.failed, ap (λ (c : Counts). record a.tally { host = c }) others);
  }
    where
      between-stored : (on : Outside) → Between (standing_on on) (standing_on on) (standing_on on)
      between-stored on = between-none (standing_on on)

-- a file that doesn't exist isn't stored
pub file-absent : (place : ℕ) (path : List ℕ) (file : GuestFile) (a : Around) → file.exists ≡ false → StoresFile place path file a a (Ok tt)
file-absent place path file a absent = record {
  whole = λ done stands. rw absent stands;
  front = tt;
  held = rest-none (path ∷ []) a.held;
  opened = refl;
  streams = refl;
  cause = refl;
}

-- the file of an entry that was found by its name
pub named-entry : (entries : List Entry) (name : List ℕ) (number : ℕ) (entry : Entry) → Some number ≡ number_of (map guest_file entries) name
    → number < length entries → entry ≡ get_or entries number entry → file_named (map guest_file entries) name ≡ guest_file entry
named-entry entries name number entry found within is =
    ap (λ (n : Option ℕ). file_of (map guest_file entries) n) (sym found)
    ∙ (get_or-map guest_file entries number entry no_file within ∙ ap guest_file (sym is))

-- ---- the stores of some places
module _ (words : List (List ℕ)) (files : List GuestFile) where
  abbrev file_at : ℕ → GuestFile
  file_at place = file_named files (name_at words place)

  abbrev next : Stores → ℕ → Stores
  next done place = with_store place (path_at words place) (file_at place) done

  abbrev none : Outside → Stores
  none on = record { pieces = []; outside = on }

  -- one place more
  stores-next : (places : List ℕ) (place : ℕ) (on : Outside) → stores words files (places ++ place ∷ []) on ≡ next (stores words files places on) place
  unfolding stores
  stores-next places place on = fold-append next (none on) places (place ∷ [])

  next-there : (done : Stores) (place : ℕ) → (file_at place).exists ≡ true → next done place ≡ record {
    pieces = done.pieces ++ store_piece place (path_at words place) (file_at place).content done.outside ∷ [];
    outside = stored (path_at words place) (file_at place).content done.outside;
  }
  next-there done place is = rw is refl

  next-absent : (done : Stores) (place : ℕ) → (file_at place).exists ≡ false → next done place ≡ done
  next-absent done place is = rw is refl

  -- what was done stays in front
  abbrev Grows : Stores → Stores → Type 0
  Grows done to = (more : List Piece) × (to.pieces ≡ done.pieces ++ more)

  next-grows : (done : Stores) (place : ℕ) → Grows done (next done place)
  next-grows done place = by_exists (file_at place).exists refl
    where
      by_exists : (b : Bool) → (file_at place).exists ≡ b → Grows done (next done place)
      by_exists true is = (store_piece place (path_at words place) (file_at place).content done.outside ∷ [], ap (λ (s : Stores). s.pieces) (next-there done place is))
      by_exists false is = ([], ap (λ (s : Stores). s.pieces) (next-absent done place is) ∙ sym (append-nil done.pieces))

  fold-grows : (places : List ℕ) (done : Stores) → Grows done (fold next done places)
  fold-grows [] done = ([], sym (append-nil done.pieces))
  fold-grows (place ∷ places) done =
      let first = next-grows done place in
      let later = fold-grows places (next done place) in
      (first.0 ++ later.0, later.1 ∙ ap (λ (xs : List Piece). xs ++ later.0) first.1 ∙ append_assoc done.pieces first.0 later.0)

  stores-grow : (front rest : List ℕ) (on : Outside) → Grows (stores words files front on) (stores words files (front ++ rest) on)
  unfolding stores
  stores-grow front rest on =
      let later = fold-grows rest (fold next (none on) front) in
      (later.0, ap (λ (s : Stores). s.pieces) (fold-append next (none on) front rest) ∙ later.1)

  -- ---- some places, and one more
  abbrev paths_at : List ℕ → List (List ℕ)
  paths_at places = map (path_at words) places

  abbrev calls_at : List ℕ → List HostCall
  calls_at places = map (λ place. Store place) places

  pub stores-none : (a : Around) → StoresFiles words files [] a a (Ok tt)
  unfolding stores
  stores-none a = record {
    whole = λ on stands. stands;
    front = tt;
    held = rest-none [] a.held;
    opened = refl;
    streams = refl;
    cause = refl;
  }

  -- what keeps the files at other paths than some keeps those at other paths than more
  rest-among : (paths more : List (List ℕ)) (p q : Option Held) → ((path : List ℕ) → Contains paths path → Contains more path)
      → Becomes (KeepsRest paths) p q → Becomes (KeepsRest more) p q
  rest-among paths more p q among h = record {
    tells = h.tells;
    related = λ held is.
        let after = h.related held is in
        (after.0, after.1, record { files = λ path outside. after.2.files path (λ c. outside (among path c)); pages = after.2.pages });
  }

  rest-then : (paths : List (List ℕ)) (p q r : Option Held) → Becomes (KeepsRest paths) p q → Becomes (KeepsRest paths) q r
      → Becomes (KeepsRest paths) p r
  rest-then paths p q r first second = record {
    tells = second.tells ∙ first.tells;
    related = λ held is.
        let mid = first.related held is in
        let last = second.related mid.0 mid.1 in (
          last.0,
          last.1,
          record {
            files = λ path outside. last.2.files path outside ∙ mid.2.files path outside;
            pages = last.2.pages ∙ mid.2.pages;
          },
        );
  }

  -- one of some places
  module _ (xs : List ℕ) (place : ℕ) (rest : List ℕ) where
    one-call : (other : HostCall) → Contains (Store place ∷ []) other → Contains (calls_at (xs ++ place ∷ rest)) other
    one-call other is =
        rw (map-append (λ place. Store place) xs (place ∷ rest))
        (Contains-append_right (calls_at xs) (calls_at (place ∷ rest)) other (Contains-append_left (Store place ∷ []) (calls_at rest) other is))

    one-path : (other : List ℕ) → Contains (path_at words place ∷ []) other → Contains (paths_at (xs ++ place ∷ rest)) other
    one-path other is =
        rw (map-append (path_at words) xs (place ∷ rest))
        (Contains-append_right (paths_at xs) (paths_at (place ∷ rest)) other
        (Contains-append_left (path_at words place ∷ []) (paths_at rest) other is))

    front-path : (other : List ℕ) → Contains (paths_at xs) other → Contains (paths_at (xs ++ place ∷ rest)) other
    front-path other is =
        rw (map-append (path_at words) xs (place ∷ rest)) (Contains-append_left (paths_at xs) (paths_at (place ∷ rest)) other is)

    rest-more : (p q r : Option Held) → Becomes (KeepsRest (paths_at xs)) p q → Becomes (KeepsRest (path_at words place ∷ [])) q r
        → Becomes (KeepsRest (paths_at (xs ++ place ∷ rest))) p r
    rest-more p q r first second =
        let all : List (List ℕ) = paths_at (xs ++ place ∷ rest) in
        rest-then all p q r (rest-among (paths_at xs) all p q front-path first)
        (rest-among (path_at words place ∷ []) all q r one-path second)

  pub stores-more : (xs : List ℕ) (place : ℕ) (a b c : Around) → StoresFiles words files xs a b (Ok tt)
      → StoresFile place (path_at words place) (file_at place) b c (Ok tt) → StoresFiles words files (xs ++ place ∷ []) a c (Ok tt)
  stores-more xs place a b c first second = record {
    whole = λ on stands. rw (stores-next xs place on) (second.whole (stores words files xs on) (first.whole on stands));
    front = tt;
    held = rest-more xs place [] a.held b.held c.held first.held second.held;
    opened = second.opened ∙ first.opened;
    streams = second.streams ∙ first.streams;
    cause = second.cause ∙ first.cause;
  }

  pub stores-stop : (xs : List ℕ) (place : ℕ) (rest : List ℕ) (a b c : Around) (call : HostCall) → StoresFiles words files xs a b (Ok tt)
      → StoresFile place (path_at words place) (file_at place) b c (Err call) → StoresFiles words files (xs ++ place ∷ rest) a c (Err call)
  stores-stop xs place rest a b c call first second = record {
    whole = tt;
    front = λ on stands.
        let so_far = stores words files xs on in
        let left = second.front.1 so_far.outside (first.whole on stands) in
        let piece = store_piece place (path_at words place) (file_at place).content so_far.outside in
        record {
          now = left.now;
          stands = left.stands;
          may = on_all on left.now (fails-back so_far.pieces (piece ∷ []) call left.now (fails-first piece [] call left.now left.may));
        };
    held = rest-more xs place rest a.held b.held c.held first.held second.held;
    opened = second.opened ∙ first.opened;
    streams = second.streams ∙ first.streams;
    cause = subst (λ (t : Tally). IsCounted (calls_at (xs ++ place ∷ rest)) (Some call) t c.tally) first.cause
        (counted-among (Store place ∷ []) (calls_at (xs ++ place ∷ rest)) (Some call) b.tally c.tally (one-call xs place rest) second.cause);
  }
    where
      -- the piece stands among those of all the places
      on_all : (on now : Outside)
          → FailsOn ((stores words files xs on).pieces ++ store_piece place (path_at words place) (file_at place).content (stores words files xs on).outside ∷ []) call now
          → FailsOn (stores words files (xs ++ place ∷ rest) on).pieces call now
      on_all on now fails =
          let so_far = stores words files xs on in
          let with_one : (stores words files (xs ++ place ∷ []) on).pieces ≡ so_far.pieces ++ store_piece place (path_at words place) (file_at place).content so_far.outside ∷ []
          = ap (λ (s : Stores). s.pieces) (stores-next xs place on ∙ next-there so_far place second.front.0) in
          let grown = stores-grow (xs ++ place ∷ []) rest on in
          let all : (stores words files (xs ++ place ∷ rest) on).pieces ≡ (stores words files (xs ++ place ∷ []) on).pieces ++ grown.0
          = ap (λ (ps : List ℕ). (stores words files ps on).pieces) (sym (append_assoc xs (place ∷ []) rest)) ∙ grown.1 in
          subst (λ (ps : List Piece). FailsOn ps call now) (sym all)
          (fails-front (stores words files (xs ++ place ∷ []) on).pieces grown.0 call now
          (subst (λ (ps : List Piece). FailsOn ps call now) (sym with_one) fails))
