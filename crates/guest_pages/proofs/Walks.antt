-- Lemmas on an access that goes along pages.
use Rattle.std.proofs.Common.{◌≡◌, ℕ, ◌+◌, ◌-◌, ◌/◌, ◌%◌, ◌<◌, ◌≤◌, Bool, true, false, if◌then◌else◌, Option, Some, None, zero, suc, refl, sym, ap, ◌∙◌, arith, zero-add, add-zero}
use Rattle.machine_state.specs.declared.kinds.Kind.{Kind}
use Rattle.machine_state.specs.declared.kinds.Miss.{Miss}
use Rattle.machine_state.specs.Memory.{page_size, first_miss, miss_at, or_else}
use Rattle.machine_state.proofs.MemoryLemmas.{or_else-assoc, or_else_right, or_else_none, first_miss_part, first_miss_within, first_miss_at_once, first_miss_skip, first_miss-zero, first_miss-append}
use Rattle.machine_state.specs.declared.kinds.Miss.TheVariants.{Away}
use Rattle.std.specs.Option.{option_map}
use Rattle.guest_pages.specs.Pages.{PagesValue, table_of}
use Rattle.guest_pages.specs.Slots.{IsWalked}
use Rattle.guest_pages.specs.Table.{Mapped, Table, perms_in, away_at, first_away, blocked}

pub first_away-zero : (table : Table) (addr : ℕ) → first_away table addr 0 ≡ None
unfolding first_away
first_away-zero table addr = refl

-- an access in two parts
pub first_away-append : (table : Table) (addr k n : ℕ) → first_away table addr (k + n) ≡ or_else (first_away table addr k) (first_away table (addr + k) n)
unfolding first_away
first_away-append table addr zero n = rw (zero-add, add-zero) refl
first_away-append table addr (suc k) n =
    let sum : suc k + n ≡ suc (k + n) = omega arith in
    let next : addr + suc k ≡ addr + 1 + k = omega arith in
    rw (sum, next) (ap (or_else (away_at (table (addr / page_size)))) (first_away-append table (addr + 1) k n) ∙ or_else-assoc (away_at (table (addr / page_size))) _ _)

first_away_part : (table : Table) (addr len from n : ℕ) → from + n ≤ len → first_away table addr len ≡ None → first_away table (addr + from) n ≡ None
first_away_part table addr len from n within none =
    let split : len ≡ from + (n + (len - from - n)) = omega arith in
    let whole : first_away table addr (from + (n + (len - from - n))) ≡ None = ap (first_away table addr) (sym split) ∙ none in
    let rest = or_else_none _ _ (sym (first_away-append table addr from (n + (len - from - n))) ∙ whole) in
    let part = or_else_none _ _ (sym (first_away-append table (addr + from) n (len - from - n)) ∙ rest.1) in
    part.0

-- a part of an access that can be made can be made
pub blocked_part : (table : Table) (kind : Kind) (addr len from n : ℕ) → from + n ≤ len → blocked table kind addr len ≡ None
    → blocked table kind (addr + from) n ≡ None
blocked_part table kind addr len from n within none =
    let both = or_else_none (first_miss (perms_in table) kind addr len) (first_away table addr len) none in
    rw (first_miss_part (perms_in table) kind addr len from n within both.0) (first_away_part table addr len from n within both.1)

away_twice : (a : Option Miss) → or_else a a ≡ a
away_twice None = refl
away_twice (Some miss) = refl

-- an access within one page, which is away or not
pub first_away_within : (table : Table) (addr len : ℕ) → 0 < len → addr % page_size + len ≤ page_size → first_away table addr len ≡ away_at (table (addr / page_size))
unfolding first_away
first_away_within table addr zero some within = absurd (omega arith)
first_away_within table addr (suc zero) some within = or_else_right (away_at (table (addr / page_size)))
first_away_within table addr (suc (suc len)) some within =
    let same : (addr + 1) / page_size ≡ addr / page_size = omega arith in
    let rest : first_away table (addr + 1) (suc len) ≡ away_at (table (addr / page_size)) =
    first_away_within table (addr + 1) (suc len) (omega arith) (omega arith) ∙ ap (λ (page : ℕ). away_at (table page)) same in
    rw rest (away_twice (away_at (table (addr / page_size))))

-- what keeps an access within one page from being made, where the page grants it
pub blocked_within : (table : Table) (kind : Kind) (addr len : ℕ) → 0 < len → addr % page_size + len ≤ page_size → miss_at (perms_in table) kind addr ≡ None
    → blocked table kind addr len ≡ away_at (table (addr / page_size))
blocked_within table kind addr len some within none =
    rw (first_miss_within (perms_in table) kind addr len within none) (first_away_within table addr len some within)

-- an access whose first byte isn't allowed
pub blocked_at_once : (table : Table) (kind : Kind) (addr len : ℕ) (miss : Miss) → 0 < len → miss_at (perms_in table) kind addr ≡ Some miss
    → blocked table kind addr len ≡ Some miss
blocked_at_once table kind addr len miss some is = rw (first_miss_at_once (perms_in table) kind addr len miss some is) refl

-- what keeps an access within one page from being made keeps its first byte from being had: all bytes of a page share
-- their permissions, and are in a frame or not together
pub blocked_first : (table : Table) (kind : Kind) (addr len : ℕ) → 0 < len → addr % page_size + len ≤ page_size
    → blocked table kind addr 1 ≡ blocked table kind addr len
blocked_first table kind addr len some within = by_first (miss_at (perms_in table) kind addr) refl
  where
    by_first : (first : Option Miss) → miss_at (perms_in table) kind addr ≡ first → blocked table kind addr 1 ≡ blocked table kind addr len
    by_first None is =
        blocked_within table kind addr 1 (omega arith) (omega arith) is ∙ sym (blocked_within table kind addr len some within is)
    by_first (Some miss) is =
        blocked_at_once table kind addr 1 miss (omega arith) is ∙ sym (blocked_at_once table kind addr len miss some is)

-- an access in two parts that can be made can be made
pub blocked_both : (table : Table) (kind : Kind) (addr k n : ℕ) → blocked table kind addr k ≡ None → blocked table kind (addr + k) n ≡ None
    → blocked table kind addr (k + n) ≡ None
blocked_both table kind addr k n before next =
    let first = or_else_none (first_miss (perms_in table) kind addr k) (first_away table addr k) before in
    let last = or_else_none (first_miss (perms_in table) kind (addr + k) n) (first_away table (addr + k) n) next in
    let allowed : first_miss (perms_in table) kind addr (k + n) ≡ None = first_miss-append (perms_in table) kind addr k n ∙ rw (first.0, last.0) refl in
    rw allowed (first_away-append table addr k n ∙ rw (first.1, last.1) refl)

-- what keeps a mapped page's bytes from being had is that it is away
pub away_at-away : (mapped : Option Mapped) (miss : Miss) → away_at mapped ≡ Some miss → (slot : ℕ) × (miss ≡ Away slot)
away_at-away None miss e = cc
away_at-away (Some mapped) miss e = away mapped.resident e
  where
    away : (resident : Bool) → (if resident then None else Some (Away mapped.slot)) ≡ Some miss → (slot : ℕ) × (miss ≡ Away slot)
    away true e = cc
    away false e = (mapped.slot, cc)

-- and so of an access's pages
pub first_away-away : (table : Table) (addr len : ℕ) (miss : Miss) → first_away table addr len ≡ Some miss → (slot : ℕ) × (miss ≡ Away slot)
unfolding first_away
first_away-away table addr zero miss e = cc
first_away-away table addr (suc len) miss e =
    either (away_at (table (addr / page_size))) (first_away table (addr + 1) len) (away_at-away (table (addr / page_size)) miss)
    (first_away-away table (addr + 1) len miss) e
  where
    either : (first later : Option Miss) → (first ≡ Some miss → (slot : ℕ) × (miss ≡ Away slot))
        → (later ≡ Some miss → (slot : ℕ) × (miss ≡ Away slot)) → or_else first later ≡ Some miss → (slot : ℕ) × (miss ≡ Away slot)
    either None later one two e = two e
    either (Some why) later one two e = one e

none_away : (table : Table) (addr len : ℕ) → ((page : ℕ) → away_at (table page) ≡ None) → first_away table addr len ≡ None
unfolding first_away
none_away table addr zero all = refl
none_away table addr (suc len) all = rw (all (addr / page_size)) (none_away table (addr + 1) len all)

-- where every mapped page is in a frame, nothing but a miss keeps an access from being made
pub blocked_resident : (table : Table) (kind : Kind) (addr len : ℕ) → ((page : ℕ) → away_at (table page) ≡ None)
    → blocked table kind addr len ≡ first_miss (perms_in table) kind addr len
blocked_resident table kind addr len all = rw (none_away table addr len all) (or_else_right (first_miss (perms_in table) kind addr len))

-- of an access that can be made, the first byte is allowed and its page is in a frame
pub ready_here : (table : Table) (kind : Kind) (addr len : ℕ) → 0 < len → blocked table kind addr len ≡ None
    → (miss_at (perms_in table) kind addr ≡ None) × (away_at (table (addr / page_size)) ≡ None)
unfolding first_miss first_away
ready_here table kind addr zero some none = absurd (omega arith)
ready_here table kind addr (suc len) some none =
    let both = or_else_none (first_miss (perms_in table) kind addr (suc len)) (first_away table addr (suc len)) none in
    ((or_else_none _ _ both.0).0, (or_else_none _ _ both.1).0)

-- an access is walked up to an address, from which so many bytes are left: those before are allowed, and the first page away
-- among theirs is in this slot
pub record WalksOn (pages : PagesValue) (kind : Kind) (addr len at left : ℕ) (away : Option ℕ) : Type 0 where
  pub end : at + left ≡ addr + len
  pub more : 0 < len → 0 < left
  pub allowed : first_miss (perms_in (table_of pages)) kind addr len ≡ first_miss (perms_in (table_of pages)) kind at left
  pub away_is : first_away (table_of pages) addr len ≡ or_else (option_map Away away) (first_away (table_of pages) at left)

-- the walk goes on past bytes of one page that grants the access
pub walks_on : (pages : PagesValue) (kind : Kind) (addr len at left n : ℕ) (away next : Option ℕ) → WalksOn pages kind addr len at left away
    → 0 < n → n < left → at % page_size + n ≤ page_size → miss_at (perms_in (table_of pages)) kind at ≡ None
    → option_map Away next ≡ or_else (option_map Away away) (away_at (table_of pages (at / page_size))) → WalksOn pages kind addr len (at + n) (left - n) next
walks_on pages kind addr len at left n away next walks some fewer within grants is =
    let split : left ≡ n + (left - n) = omega arith in
    record {
      end = (let e = walks.end in omega arith);
      more = λ h. omega arith;
      allowed = walks.allowed ∙ ap (first_miss (perms_in (table_of pages)) kind at) split ∙ first_miss_skip (perms_in (table_of pages)) kind at n (left - n) within grants;
      away_is =
          walks.away_is
          ∙ ap (λ (m : ℕ). or_else (option_map Away away) (first_away (table_of pages) at m)) split
          ∙ rw (first_away-append (table_of pages) at n (left - n), first_away_within (table_of pages) at n some within, is)
          (or_else-assoc (option_map Away away) (away_at (table_of pages (at / page_size))) (first_away (table_of pages) (at + n) (left - n)));
    }

-- the walk ends on a page that grants the access
pub walked_at : (pages : PagesValue) (kind : Kind) (addr len at left : ℕ) (away next : Option ℕ) → WalksOn pages kind addr len at left away
    → 0 < left → at % page_size + left ≤ page_size → miss_at (perms_in (table_of pages)) kind at ≡ None
    → option_map Away next ≡ or_else (option_map Away away) (away_at (table_of pages (at / page_size))) → IsWalked pages kind addr len next
walked_at pages kind addr len at left away next walks some within grants is = record {
  allowed = walks.allowed ∙ first_miss_within (perms_in (table_of pages)) kind at left within grants;
  away_is = walks.away_is ∙ ap (or_else (option_map Away away)) (first_away_within (table_of pages) at left some within) ∙ sym is;
}

-- the walk ends where no bytes are left
pub walked_out : (pages : PagesValue) (kind : Kind) (addr len at left : ℕ) (away : Option ℕ) → WalksOn pages kind addr len at left away → left ≡ 0
    → IsWalked pages kind addr len away
walked_out pages kind addr len at left away walks none = record {
  allowed = walks.allowed ∙ ap (first_miss (perms_in (table_of pages)) kind at) none ∙ first_miss-zero (perms_in (table_of pages)) kind at;
  away_is =
      walks.away_is
      ∙ ap (λ (m : ℕ). or_else (option_map Away away) (first_away (table_of pages) at m)) none
      ∙ ap (or_else (option_map Away away)) (first_away-zero (table_of pages) at)
      ∙ or_else_right (option_map Away away);
}

-- the walk meets a byte that isn't allowed
pub walk_misses : (pages : PagesValue) (kind : Kind) (addr len at left : ℕ) (away : Option ℕ) (miss : Miss) → WalksOn pages kind addr len at left away
    → 0 < left → miss_at (perms_in (table_of pages)) kind at ≡ Some miss → first_miss (perms_in (table_of pages)) kind addr len ≡ Some miss
walk_misses pages kind addr len at left away miss walks some is = walks.allowed ∙ first_miss_at_once (perms_in (table_of pages)) kind at left miss some is
