-- The bytes that a fetch could read, and what is fetched from all that it may read.
use Rattle.std.proofs.Common.{◌≡◌, ℕ, zero, suc, ◌+◌, ◌-◌, ◌/◌, ◌%◌, ◌<◌, ◌≤◌, ◌↔◌, inl, inr, List, [], ◌∷◌, ◌++◌, Option, Some, None, refl, sym, ◌∙◌, ap, arith, take, drop, length, add-zero, append-nil, subst, MatchOption}
use Rattle.std.proofs.lemmas.Bool.{cases_lt}
use Rattle.std.proofs.lemmas.List.{length-append, length-take-le, length-drop, take_all}
use Rattle.std.proofs.lemmas.Slice.{take-put_mid}
use borrow.Rule.Slice.PartMut.{put_mid}
use Rattle.machine_state.specs.declared.kinds.Kind.{Kind}
use Rattle.machine_state.specs.declared.kinds.Kind.TheVariants.{Execute}
use Rattle.machine_state.specs.declared.kinds.Miss.{Miss}
use Rattle.machine_state.specs.declared.kinds.Miss.TheVariants.{Unmapped, Denied, NonCanonical, Away}
use Rattle.machine_state.specs.Memory.{page_size, Memory, Permissions, Swap, miss_at, or_else, first_miss, bytes_at, allowed_run}
use Rattle.machine_state.specs.State.{State}
use Rattle.machine_state.proofs.MemoryLemmas.{or_else_right, or_else_none, first_miss-append, first_miss-zero, first_miss_at_once, first_miss_never_away, length-bytes_at}
use Rattle.guest_pages.specs.Table.{Table, blocked, first_away, away_at, perms_in}
use Rattle.guest_pages.specs.Pages.{table_of, byte_of, memory_of}
use Rattle.guest_pages.proofs.Walks.{away_at-away, blocked_both, blocked_first, blocked_part, first_away-zero}
use Rattle.row_table.specs.declared.kinds.Decoded.{Decoded}
use Rattle.x_decode.specs.declared.kinds.Seen.{Seen}
use Rattle.x_decode.specs.declared.kinds.Seen.TheVariants.{Instr, Short, TooLong, Bad}
use Rattle.x_decode.specs.Seeing.{seen, InRange, IsInstr, IsSeen}
use Rattle.core_step.specs.declared.fetching.Fetched.{Fetched}
use Rattle.core_step.specs.declared.fetching.Fetched.TheVariants.{Need}
use Rattle.core_step.specs.declared.machine.Machine.{Machine}
use Rattle.core_step.specs.Act.{act, act_on}
use Rattle.core_step.specs.Machine.{state_of}
use Rattle.core_step.specs.Fetch.{IsRun, IsFetched, IsFetchFit, IsOutcome, NeedsPage, fetched, outcome, stopped}
use Rattle.core_step.specs.Fetches.{Fetches}
use Rattle.core_step.proofs.Steps.{IsDenial}

-- there isn't both something and nothing
some-none : {A : Type 0} (option : Option A) (x : A) → option ≡ None → option ≡ Some x → ⊥
some-none option x none some = cc

-- what keeps one byte from being had
blocked-one : (table : Table) (kind : Kind) (addr : ℕ)
    → blocked table kind addr 1 ≡ or_else (miss_at (perms_in table) kind addr) (away_at (table (addr / page_size)))
unfolding first_miss first_away
blocked-one table kind addr =
    rw (or_else_right (miss_at (perms_in table) kind addr), or_else_right (away_at (table (addr / page_size)))) refl

-- an access of no bytes can be made
blocked-zero : (table : Table) (kind : Kind) (addr : ℕ) → blocked table kind addr 0 ≡ None
blocked-zero table kind addr = rw (first_miss-zero (perms_in table) kind addr) (first_away-zero table addr)

-- a byte's miss is never Away
miss_at-never_away : (perms : Permissions) (kind : Kind) (addr slot : ℕ) → miss_at perms kind addr ≡ Some (Away slot) → ⊥
miss_at-never_away perms kind addr slot e =
    first_miss_never_away perms kind addr 1 slot (first_miss_at_once perms kind addr 1 (Away slot) (omega arith) e)

-- of two misses the second, where the first can't be
or_else-second : (first other : Option Miss) (miss : Miss) → (first ≡ Some miss → ⊥) → or_else first other ≡ Some miss → (first ≡ None) × (other ≡ Some miss)
or_else-second None other miss apart e = (refl, e)
or_else-second (Some here) other miss apart e = absurd (apart e)

-- of two misses the first, where the second can't be
or_else-first : (first other : Option Miss) (miss : Miss) → (other ≡ Some miss → ⊥) → or_else first other ≡ Some miss → first ≡ Some miss
or_else-first None other miss apart e = absurd (apart e)
or_else-first (Some here) other miss apart e = e

-- a byte on an away page is allowed
blocked-away : (table : Table) (kind : Kind) (addr slot : ℕ) → blocked table kind addr 1 ≡ Some (Away slot)
    → (miss_at (perms_in table) kind addr ≡ None) × (away_at (table (addr / page_size)) ≡ Some (Away slot))
blocked-away table kind addr slot e =
    or_else-second _ _ _ (miss_at-never_away (perms_in table) kind addr slot) (sym (blocked-one table kind addr) ∙ e)

-- a byte that can't be had, and isn't on an away page, isn't allowed
blocked-missed : (table : Table) (kind : Kind) (addr : ℕ) (miss : Miss) → IsDenial miss
    → blocked table kind addr 1 ≡ Some miss → miss_at (perms_in table) kind addr ≡ Some miss
blocked-missed table kind addr miss there e =
    or_else-first _ _ _ (λ away. let slot = away_at-away (table (addr / page_size)) miss away in there slot.0 slot.1) (sym (blocked-one table kind addr) ∙ e)

-- so many bytes can be fetched, and those behind them, which lie on one page, can't
pub run-stopped : (table : Table) (addr most count len : ℕ) (miss : Miss) → count < most → blocked table Execute addr count ≡ None
    → 0 < len → (addr + count) % page_size + len ≤ page_size → blocked table Execute (addr + count) len ≡ Some miss → IsRun table addr most count (Some miss)
run-stopped table addr most count len miss fewer ready some within stop =
    record { ready = ready; end = (fewer, blocked_first table Execute (addr + count) len some within ∙ stop) }

-- the same, where they are the first of all
pub run-missed : (table : Table) (addr most len : ℕ) (miss : Miss) → 0 < most → 0 < len → addr % page_size + len ≤ page_size
    → blocked table Execute addr len ≡ Some miss → IsRun table addr most 0 (Some miss)
run-missed table addr most len miss fewer some within stop =
    let place : addr + 0 ≡ addr = add-zero addr in
    run-stopped table addr most 0 len miss fewer (blocked-zero table Execute addr) some (rw place within) (rw place stop)

-- all bytes can be fetched: the first of them, and those behind
pub run-whole : (table : Table) (addr here most : ℕ) → here ≤ most → blocked table Execute addr here ≡ None
    → blocked table Execute (addr + here) (most - here) ≡ None → IsRun table addr most most None
run-whole table addr here most within before next =
    let sum : here + (most - here) ≡ most = omega arith in
    record { ready = ap (blocked table Execute addr) (sym sum) ∙ blocked_both table Execute addr here (most - here) before next; end = refl }

-- a list whose elements from an index on were written keeps its length
pub rest-length : (here : ℕ) (into rest : List ℕ) → here ≤ length into → length rest ≡ length into - here
    → length (put_mid here (length into - here) into rest) ≡ length into
rest-length here into rest within count =
    let k : ℕ = length into - here in
    omega (
      arith,
      length-append (take here into) (rest ++ drop k (drop here into)),
      length-append rest (drop k (drop here into)),
      length-take-le here into within,
      length-drop k (drop here into),
      length-drop here into,
      count,
    )

-- and what was written stands behind those before
pub rest-bytes : (here : ℕ) (into rest : List ℕ) → here ≤ length into → length rest ≡ length into - here
    → take (length (put_mid here (length into - here) into rest)) (put_mid here (length into - here) into rest) ≡ take here into ++ rest
rest-bytes here into rest within count =
    take-put_mid here (length into - here) into rest _ (rest-length here into rest within count ∙ omega (arith, within, count)) within

-- the allowed bytes from an address up begin with the bytes of an access that is allowed
allowed_run-front : (memory : Memory) (kind : Kind) (addr count more : ℕ) → first_miss memory.perms kind addr count ≡ None
    → allowed_run memory kind addr (count + more) ≡ bytes_at memory.byte addr count ++ allowed_run memory kind (addr + count) more
unfolding bytes_at first_miss allowed_run
allowed_run-front memory kind addr zero more allowed =
    let all : 0 + more ≡ more = omega arith in rw (add-zero, all) refl
allowed_run-front memory kind addr (suc count) more allowed =
    let both = or_else_none (miss_at memory.perms kind addr) _ allowed in
    let all : suc count + more ≡ suc (count + more) = omega arith in
    let place : addr + 1 + count ≡ addr + suc count = omega arith in
    ap (allowed_run memory kind addr) all ∙ rw (both.0, allowed_run)
    (ap (λ (bytes : List ℕ). memory.byte addr ∷ bytes) (allowed_run-front memory kind (addr + 1) count more both.1) ∙ rw place refl)

-- no bytes are allowed from one on that isn't
allowed_run-stop : (memory : Memory) (kind : Kind) (addr most : ℕ) (miss : Miss) → miss_at memory.perms kind addr ≡ Some miss
    → allowed_run memory kind addr most ≡ []
unfolding allowed_run
allowed_run-stop memory kind addr zero miss e = refl
allowed_run-stop memory kind addr (suc most) miss e = rw (e, allowed_run) refl

-- what is fetched, by what is seen in the allowed bytes and the first that isn't
fetched-is : (s : State) → fetched s ≡ outcome (seen (allowed_run s.memory Execute s.rip 15)) (first_miss s.memory.perms Execute s.rip 15)
unfolding fetched
fetched-is s = refl

-- so many bytes at the instruction pointer could be read
pub record AtRip (s : State) (table : Table) (count : ℕ) (bytes : List ℕ) : Type 0 where
  pub perms : s.memory.perms ≡ perms_in table
  pub ready : blocked table Execute s.rip count ≡ None
  pub shown : bytes ≡ bytes_at s.memory.byte s.rip count

-- the allowed bytes begin with those that could be read
allowed-bytes : (s : State) (table : Table) (count : ℕ) (bytes : List ℕ) → AtRip s table count bytes → count ≤ 15
    → allowed_run s.memory Execute s.rip 15 ≡ bytes ++ allowed_run s.memory Execute (s.rip + count) (15 - count)
allowed-bytes s table count bytes read le =
    let split : 15 ≡ count + (15 - count) = omega arith in
    let allowed : first_miss s.memory.perms Execute s.rip count ≡ None = rw read.perms (or_else_none _ (first_away table s.rip count) read.ready).0 in
    ap (allowed_run s.memory Execute s.rip) split ∙ allowed_run-front s.memory Execute s.rip count (15 - count) allowed
    ∙ ap (λ (front : List ℕ). front ++ allowed_run s.memory Execute (s.rip + count) (15 - count)) (sym read.shown)

-- the first byte that isn't allowed is behind those that could be read
first-behind : (s : State) (table : Table) (count : ℕ) (bytes : List ℕ) → AtRip s table count bytes → count ≤ 15
    → first_miss s.memory.perms Execute s.rip 15 ≡ first_miss s.memory.perms Execute (s.rip + count) (15 - count)
first-behind s table count bytes read le =
    let split : 15 ≡ count + (15 - count) = omega arith in
    let allowed : first_miss s.memory.perms Execute s.rip count ≡ None = rw read.perms (or_else_none _ (first_away table s.rip count) read.ready).0 in
    ap (first_miss s.memory.perms Execute s.rip) split ∙ first_miss-append s.memory.perms Execute s.rip count (15 - count) ∙ rw allowed refl

-- what is seen in the bytes that could be read is seen in all, unless they are short
fetched-known : (s : State) (table : Table) (count : ℕ) (bytes : List ℕ) (what : Seen) → AtRip s table count bytes → count ≤ 15
    → ((more : List ℕ) → seen (bytes ++ more) ≡ what) → fetched s ≡ outcome what (first_miss s.memory.perms Execute s.rip 15)
fetched-known s table count bytes what read le stays =
    fetched-is s ∙ ap (λ (all : List ℕ). outcome (seen all) (first_miss s.memory.perms Execute s.rip 15)) (allowed-bytes s table count bytes read le)
    ∙ ap (λ (v : Seen). outcome v (first_miss s.memory.perms Execute s.rip 15)) (stays (allowed_run s.memory Execute (s.rip + count) (15 - count)))

-- bytes that are short, where no further one is allowed
fetched-short : (s : State) (table : Table) (count : ℕ) (bytes : List ℕ) → AtRip s table count bytes → count ≤ 15 → Short ≡ seen bytes
    → allowed_run s.memory Execute (s.rip + count) (15 - count) ≡ []
    → fetched s ≡ stopped (first_miss s.memory.perms Execute (s.rip + count) (15 - count))
fetched-short s table count bytes read le short none =
    let whole : allowed_run s.memory Execute s.rip 15 ≡ bytes =
    allowed-bytes s table count bytes read le ∙ ap (λ (more : List ℕ). bytes ++ more) none ∙ append-nil bytes in
    fetched-is s ∙ ap (λ (all : List ℕ). outcome (seen all) (first_miss s.memory.perms Execute s.rip 15)) whole
    ∙ ap (λ (v : Seen). outcome v (first_miss s.memory.perms Execute s.rip 15)) (sym short)
    ∙ ap stopped (first-behind s table count bytes read le)

-- short bytes up to one that isn't allowed
fetched-stopped : (s : State) (table : Table) (count : ℕ) (bytes : List ℕ) (miss : Miss) → AtRip s table count bytes → count < 15 → Short ≡ seen bytes
    → IsDenial miss → blocked table Execute (s.rip + count) 1 ≡ Some miss → stopped (Some miss) ≡ fetched s
fetched-stopped s table count bytes miss read below short there stop =
    let next : miss_at s.memory.perms Execute (s.rip + count) ≡ Some miss = rw read.perms (blocked-missed table Execute (s.rip + count) miss there stop) in
    sym (fetched-short s table count bytes read (omega arith) short (allowed_run-stop s.memory Execute (s.rip + count) (15 - count) miss next)
    ∙ ap stopped (first_miss_at_once s.memory.perms Execute (s.rip + count) (15 - count) miss (omega arith) next))

-- what comes of the bytes that could be read is what is fetched from all; fifteen bytes are never short
outcome-is : (s : State) (table : Table) (count : ℕ) (stop : Option Miss) (bytes : List ℕ) (what : Seen) → AtRip s table count bytes
    → count ≤ 15 → IsRun table s.rip 15 count stop → what ≡ seen bytes → ((what ≡ Short → ⊥) → (more : List ℕ) → seen (bytes ++ more) ≡ what)
    → (what ≡ Short → length bytes < 15) → IsFetched s (outcome what stop)
outcome-is s table count stop bytes (Instr d len) read le run is stays few = sym (fetched-known s table count bytes _ read le (stays (λ e. cc)))
outcome-is s table count stop bytes TooLong read le run is stays few = sym (fetched-known s table count bytes _ read le (stays (λ e. cc)))
outcome-is s table count stop bytes Bad read le run is stays few = sym (fetched-known s table count bytes _ read le (stays (λ e. cc)))
outcome-is s table count None bytes Short read le run is stays few =
    let long : length bytes ≡ count = ap length read.shown ∙ length-bytes_at s.memory.byte s.rip count in
    absurd (omega (arith, long, few refl, run.end))
outcome-is s table count (Some (Unmapped addr)) bytes Short read le run is stays few = fetched-stopped s table count bytes _ read run.end.0 is (λ slot e. cc) run.end.1
outcome-is s table count (Some (Denied addr)) bytes Short read le run is stays few = fetched-stopped s table count bytes _ read run.end.0 is (λ slot e. cc) run.end.1
outcome-is s table count (Some (NonCanonical addr)) bytes Short read le run is stays few = fetched-stopped s table count bytes _ read run.end.0 is (λ slot e. cc) run.end.1
outcome-is s table count (Some (Away slot)) bytes Short read le run is stays few = tt

-- no page is needed on whole memory
never-needs : (what : Seen) (stop : Option Miss) (slot : ℕ) → ((other : ℕ) → stop ≡ Some (Away other) → ⊥) → outcome what stop ≡ Need slot → ⊥
never-needs (Instr d len) stop slot there e = cc
never-needs TooLong stop slot there e = cc
never-needs Bad stop slot there e = cc
never-needs Short None slot there e = cc
never-needs Short (Some (Unmapped addr)) slot there e = cc
never-needs Short (Some (Denied addr)) slot there e = cc
never-needs Short (Some (NonCanonical addr)) slot there e = cc
never-needs Short (Some (Away other)) slot there e = there other refl

pub fetched-never_needs : (s : State) (slot : ℕ) → fetched s ≡ Need slot → ⊥
fetched-never_needs s slot e =
    never-needs _ _ slot (λ other. first_miss_never_away s.memory.perms Execute s.rip 15 other) (sym (fetched-is s) ∙ e)

-- a step, by what is fetched
pub act-fetched : (s : State) (answer : Fetched) → answer ≡ fetched s → act s ≡ act_on answer s
unfolding act
act-fetched s answer is = ap (λ (v : Fetched). act_on v s) (sym is)

-- a fetch that stops is no instruction
stopped-fits : (stop : Option Miss) → IsFetchFit (stopped stop)
stopped-fits None = tt
stopped-fits (Some (Unmapped addr)) = tt
stopped-fits (Some (Denied addr)) = tt
stopped-fits (Some (NonCanonical addr)) = tt
stopped-fits (Some (Away slot)) = tt

-- an instruction that was fetched is one that was seen
pub outcome-fits : (bytes : List ℕ) (what : Seen) (stop : Option Miss) → InRange bytes what
    → ((d : Decoded) (n : ℕ) → what ≡ Instr d n → IsInstr bytes d n) → IsFetchFit (outcome what stop)
outcome-fits bytes (Instr d n) stop within instr = ((instr d n refl).decoded, within.1, within.3)
outcome-fits bytes Short stop within instr = stopped-fits stop
outcome-fits bytes TooLong stop within instr = tt
outcome-fits bytes Bad stop within instr = tt

-- a run ends at the page that is needed
NeedsPage-end : (table : Table) (byte : ℕ → ℕ) (addr slot count : ℕ) (stop : Option Miss) → IsRun table addr 15 count stop
    → (needs : NeedsPage table byte addr slot) → (count ≡ needs.count) × (stop ≡ Some (Away slot))
NeedsPage-end table byte addr slot count stop run needs = at_end stop run.end
  where
    away : blocked table Execute (addr + needs.count) 1 ≡ Some (Away slot)
    away = blocked-one table Execute (addr + needs.count) ∙ rw (needs.allowed, needs.away) refl

    not_more : needs.count < count → ⊥
    not_more h = some-none _ _ (blocked_part table Execute addr count needs.count 1 (omega arith) run.ready) away

    at_end : (stop : Option Miss) → MatchOption stop (count ≡ 15) (λ miss. (count < 15) × (blocked table Execute (addr + count) 1 ≡ Some miss))
        → (count ≡ needs.count) × (stop ≡ Some (Away slot))
    at_end None end = absurd (not_more (omega (arith, needs.fewer, end)))
    at_end (Some miss) end =
        let not_fewer : count < needs.count → ⊥ = λ h. some-none _ _ (blocked_part table Execute addr needs.count count 1 (omega arith) needs.ready) end.1 in
        let same : count ≡ needs.count = elim (cases_lt count needs.count) as (λ _. count ≡ needs.count) [
          | inl less ↦ absurd (not_fewer less)
          | inr above ↦ elim (cases_lt needs.count count) as (λ _. count ≡ needs.count) [ inl more ↦ absurd (not_more more) | inr below ↦ omega arith ]
        ] in
        let here : blocked table Execute (addr + needs.count) 1 ≡ Some miss = rw same at end.1 in
        (same, sym here ∙ away)

-- a byte that needs a page is on an away page
stopped-away : (stop : Option Miss) (slot : ℕ) → stopped stop ≡ Need slot → stop ≡ Some (Away slot)
stopped-away None slot e = cc
stopped-away (Some (Unmapped addr)) slot e = cc
stopped-away (Some (Denied addr)) slot e = cc
stopped-away (Some (NonCanonical addr)) slot e = cc
stopped-away (Some (Away other)) slot e = cc

-- a fetch that needs a page is short of it
outcome-away : (what : Seen) (stop : Option Miss) (slot : ℕ) → outcome what stop ≡ Need slot → (what ≡ Short) × (stop ≡ Some (Away slot))
outcome-away (Instr d len) stop slot e = cc
outcome-away TooLong stop slot e = cc
outcome-away Bad stop slot e = cc
outcome-away Short stop slot e = (refl, stopped-away stop slot e)

-- a run that stops at an away page
run-away : (table : Table) (addr count slot : ℕ) (stop : Option Miss) → stop ≡ Some (Away slot) → IsRun table addr 15 count stop
    → (count < 15) × (blocked table Execute (addr + count) 1 ≡ Some (Away slot))
run-away table addr count slot None e run = cc
run-away table addr count slot (Some miss) e run = (run.end.0, run.end.1 ∙ e)

-- a page is needed exactly where the bytes that could be read are short, up to that page
outcome-needs : (table : Table) (byte : ℕ → ℕ) (addr count slot : ℕ) (stop : Option Miss) (bytes : List ℕ) (what : Seen)
    → IsRun table addr 15 count stop → bytes ≡ bytes_at byte addr count → what ≡ seen bytes
    → (outcome what stop ≡ Need slot) ↔ NeedsPage table byte addr slot
outcome-needs table byte addr count slot stop bytes what run shown is = (
  λ e.
      let end : (count < 15) × (blocked table Execute (addr + count) 1 ≡ Some (Away slot)) = run-away table addr count slot stop (outcome-away what stop slot e).1 run in
      let page : (miss_at (perms_in table) Execute (addr + count) ≡ None) × (away_at (table ((addr + count) / page_size)) ≡ Some (Away slot)) =
      blocked-away table Execute (addr + count) slot end.1 in
      record {
        count = count;
        fewer = end.0;
        ready = run.ready;
        short = ap seen (sym shown) ∙ sym is ∙ (outcome-away what stop slot e).0;
        allowed = page.0;
        away = page.1;
      },
  λ needs.
      let end : (count ≡ needs.count) × (stop ≡ Some (Away slot)) = NeedsPage-end table byte addr slot count stop run needs in
      let short : what ≡ Short = is ∙ ap seen shown ∙ ap (λ (n : ℕ). seen (bytes_at byte addr n)) end.0 ∙ needs.short in
      ap (λ (v : Seen). outcome v stop) short ∙ ap stopped end.1,
)

-- ---- a fetch, by the bytes that could be read at the instruction pointer and by what they are seen as
pub record IsRead (m : Machine) (into : List ℕ) (count : ℕ) (stop : Option Miss) : Type 0 where
  pub most : length into ≡ 15
  pub within : count ≤ length into
  pub run : IsRun (table_of m.pages) m.rip (length into) count stop
  pub shown : (w : Swap) → take count into ≡ bytes_at (byte_of m.pages w) m.rip count

pub fetches : (m : Machine) (into : List ℕ) (count : ℕ) (stop : Option Miss) (what : Seen) (answer : Fetched) → IsRead m into count stop
    → IsSeen (take count into) what → answer ≡ outcome what stop → Fetches m answer
unfolding memory_of
fetches m into count stop what answer read is e = subst (Fetches m) (sym e) (record { whole = whole; never = λ w. fetched-never_needs (state_of m w); need = need; fits = fits })
  where
    run : IsRun (table_of m.pages) m.rip 15 count stop
    run = rw read.most at read.run

    whole : (w : Swap) → IsFetched (state_of m w) (outcome what stop)
    whole w =
        outcome-is (state_of m w) (table_of m.pages) count stop (take count into) what
        (record { perms = refl; ready = run.ready; shown = read.shown w }) (omega (arith, read.most, read.within)) run
        is.value is.stays (λ e. (is.short.0 e).few)

    need : (w : Swap) (slot : ℕ) → (outcome what stop ≡ Need slot) ↔ NeedsPage (table_of m.pages) (byte_of m.pages w) m.rip slot
    need w slot =
        outcome-needs (table_of m.pages) (byte_of m.pages w) m.rip count slot stop (take count into) what run (read.shown w) is.value

    fits : IsFetchFit (outcome what stop)
    fits = outcome-fits (take count into) what stop is.within (λ d n e. (is.instr d n).0 e)

-- where as many bytes could be read as were asked for, nothing stopped the next one
unstopped : (table : Table) (addr most count : ℕ) (stop : Option Miss) → IsRun table addr most count stop → count ≡ most → stop ≡ None
unstopped table addr most count None run all = refl
unstopped table addr most count (Some miss) run all = absurd (omega (arith, run.end.0))

-- and those bytes are all
pub fetches-all : (m : Machine) (into : List ℕ) (count : ℕ) (stop : Option Miss) (answer : Fetched) → IsRead m into count stop → count ≡ 15
    → IsOutcome into answer → Fetches m answer
fetches-all m into count stop answer read all of =
    let none : stop ≡ None = unstopped (table_of m.pages) m.rip (length into) count stop read.run (omega (arith, read.most)) in
    let whole : take count into ≡ into = take_all count into (omega (arith, read.most)) in
    fetches m into count stop of.what answer read (subst (λ (bytes : List ℕ). IsSeen bytes of.what) (sym whole) of.seen)
    (of.is ∙ ap (outcome of.what) (sym none))

-- and so they are where they could be read at once
pub fetches-whole : (m : Machine) (bytes : List ℕ) (answer : Fetched)
    → (blocked (table_of m.pages) Execute m.rip 15 ≡ None) × ((w : Swap) → bytes ≡ bytes_at (byte_of m.pages w) m.rip 15)
    → IsOutcome bytes answer → Fetches m answer
fetches-whole m bytes answer read of = fetches-all m bytes 15 None answer is-read refl of
  where
    count : length bytes ≡ 15
    count = ap length (read.1 (λ slot. [])) ∙ length-bytes_at (byte_of m.pages (λ slot. [])) m.rip 15

    is-read : IsRead m bytes 15 None
    is-read = record {
      most = count;
      within = omega (arith, count);
      run = record { ready = read.0; end = sym count };
      shown = λ w. take_all 15 bytes (omega (arith, count)) ∙ read.1 w;
    }
