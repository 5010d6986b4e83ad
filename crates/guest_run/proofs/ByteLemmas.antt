-- A byte of a guest's memory, where its page is in a frame, and where it is brought.
use Rattle.std.proofs.Common.{◌≡◌, ◌∙◌, ℕ, ◌/◌, Bool, true, false, cond, List, Option, Some, None, is_some, is_none, Result, Ok, Err, refl, sym, ap, arith, subst}
use Rattle.std.specs.Prelude.{slice_index_or}
use Rattle.std.specs.Option.{option_map}
use Rattle.std.specs.Result.{result_ok}
use Rattle.std.proofs.lemmas.Bool.{eq-eqb}
use Rattle.host_edge.specs.declared.outside.HostCall.{HostCall}
use Rattle.host_edge.specs.Causes.{Counts}
use Rattle.host_edge.specs.Files.{Held}
use Rattle.machine_state.specs.declared.kinds.Kind.TheVariants.{Read}
use Rattle.machine_state.specs.declared.kinds.Miss.{Miss}
use Rattle.machine_state.specs.declared.kinds.Miss.TheVariants.{Away}
use Rattle.machine_state.specs.Memory.{Memory, Permissions, Swap, bytes_at, first_miss, miss_at, or_else, page_size}
use Rattle.machine_state.specs.World.{World}
use Rattle.machine_state.proofs.MemoryLemmas.{first_miss_never_away}
use Rattle.guest_pages.specs.Table.{Mapped, away_at, blocked, first_away, perms_in}
use Rattle.guest_pages.specs.Pages.{PagesValue, byte_of, memory_of, table_of}
use Rattle.swap_pager.specs.Bringing.{IsBrought, framed_by}
use Rattle.linux_calls.specs.Outside.{Streams}
use Rattle.guest_run.specs.declared.guest.Guest.{Guest}
use Rattle.guest_run.specs.declared.running.Tried.{Tried}
use Rattle.guest_run.specs.Guests.{Around, StandsFor, around}
use Rattle.guest_run.specs.Following.{IsGuest}
use Rattle.guest_run.specs.Paging.{Brings}
use Rattle.guest_run.specs.Bytes.{IsRead, Tells, byte_in, unless_missed}
use Rattle.guest_run.proofs.TryLemmas.{files-same, some-held}
use Rattle.guest_run.proofs.StepLemmas.{brought-stands, fit-brought, perms-brought, with_pages}

-- ---- what keeps one byte from being read
no_miss : (m a : Option Miss) → or_else (or_else m None) (or_else a None) ≡ None → m ≡ None
no_miss None a h = refl
no_miss (Some miss) a h = cc

some_miss : (m : Option Miss) (entry : Option Mapped) (miss : Miss) → or_else (or_else m None) (or_else (away_at entry) None) ≡ Some miss
    → ((slot : ℕ) → miss ≡ Away slot → ⊥) → m ≡ Some miss
some_miss (Some other) entry miss h here = h
some_miss None None miss h here = cc
some_miss None (Some mapped) miss h here = by_resident mapped.resident h
  where
    by_resident : (resident : Bool) → or_else (cond resident None (Some (Away mapped.slot))) None ≡ Some miss → None ≡ Some miss
    by_resident true h = h
    by_resident false h = absurd (let same : miss ≡ Away mapped.slot = cc in here mapped.slot same)

away_miss : (m : Option Miss) (a : Option Miss) (slot : ℕ) → (or_else m None ≡ Some (Away slot) → ⊥) → or_else (or_else m None) (or_else a None) ≡ Some (Away slot)
    → (m ≡ None) × (a ≡ Some (Away slot))
away_miss None None slot never h = cc
away_miss None (Some miss) slot never h = (refl, h)
away_miss (Some miss) a slot never h = absurd (never h)

module _ (pages : PagesValue) (addr : ℕ) where
  abbrev denied : Option Miss
  denied = miss_at (perms_in (table_of pages)) Read addr

  abbrev Blocked : Option Miss → Type 0
  Blocked miss = blocked (table_of pages) Read addr 1 ≡ miss

  pub allowed-here : Blocked None → denied ≡ None
  unfolding first_miss first_away
  allowed-here h = no_miss denied (away_at (table_of pages (addr / page_size))) h

  pub denied-here : (miss : Miss) → Blocked (Some miss) → ((slot : ℕ) → miss ≡ Away slot → ⊥) → denied ≡ Some miss
  unfolding first_miss first_away
  denied-here miss h here = some_miss denied (table_of pages (addr / page_size)) miss h here

  pub away-here : (slot : ℕ) → Blocked (Some (Away slot)) → (denied ≡ None) × (away_at (table_of pages (addr / page_size)) ≡ Some (Away slot))
  unfolding first_miss first_away
  away-here slot h = away_miss denied (away_at (table_of pages (addr / page_size))) slot (first_miss_never_away (perms_in (table_of pages)) Read addr 1 slot) h

  pub byte-here : (swap : Swap) (byte : ℕ) → denied ≡ None → byte ≡ byte_of pages swap addr → Some byte ≡ byte_in (memory_of pages swap) addr
  unfolding memory_of
  byte-here swap byte allowed is = ap Some is ∙ ap (λ (miss : Option Miss). unless_missed miss (byte_of pages swap addr)) (sym allowed)

  pub no_byte-here : (swap : Swap) (miss : Miss) → denied ≡ Some miss → None ≡ byte_in (memory_of pages swap) addr
  unfolding memory_of
  no_byte-here swap miss is = ap (λ (miss : Option Miss). unless_missed miss (byte_of pages swap addr)) (sym is)

-- the first of the bytes that are shown
pub first-shown : (byte : ℕ → ℕ) (addr : ℕ) (shown : List ℕ) → shown ≡ bytes_at byte addr 1 → slice_index_or shown 0 0 ≡ byte addr
unfolding bytes_at
first-shown byte addr shown is = rw is refl

-- a read of a byte that nothing keeps from being read
pub read-ready : (pages : PagesValue) (addr : ℕ) (result : Result ℕ Miss) → IsRead pages addr result → blocked (table_of pages) Read addr 1 ≡ None
    → (byte : ℕ) × (result_ok result ≡ Some byte) × ((swap : Swap) → byte ≡ byte_of pages swap addr)
read-ready pages addr (Ok byte) is ready = (byte, refl, is.1)
read-ready pages addr (Err miss) is ready = absurd (let no_way : None ≡ Some miss = sym ready ∙ is in cc)

-- a page that was brought is in a frame
resident-brought : (old new : PagesValue) (page slot : ℕ) → IsBrought old new slot → away_at (table_of old page) ≡ Some (Away slot) → away_at (table_of new page) ≡ None
resident-brought old new page slot brought away = ap away_at (brought.table page) ∙ by_entry (table_of old page) away
  where
    head : (mapped : ℕ) → ◌≡◌ {A = Option Miss} (Some (Away mapped)) (Some (Away slot)) → mapped ≡ slot
    head mapped h = cc

    by_entry : (entry : Option Mapped) → away_at entry ≡ Some (Away slot) → away_at (option_map (framed_by new.recent) entry) ≡ None
    by_entry None h = cc
    by_entry (Some mapped) h = by_resident mapped.resident h
      where
        by_resident : (resident : Bool) → cond resident None (Some (Away mapped.slot)) ≡ Some (Away slot) → away_at (Some (framed_by new.recent mapped)) ≡ None
        by_resident true h = cc
        by_resident false h = rw (brought.recent, eq-eqb mapped.slot slot (head mapped.slot h)) refl

pub here-brought : (old new : PagesValue) (addr slot : ℕ) → IsBrought old new slot → blocked (table_of old) Read addr 1 ≡ Some (Away slot)
    → blocked (table_of new) Read addr 1 ≡ None
unfolding first_miss first_away
here-brought old new addr slot brought away =
    let was = away-here old addr slot away in
    let allowed : miss_at (perms_in (table_of new)) Read addr ≡ None =
    ap (λ (perms : Permissions). miss_at perms Read addr) (perms-brought old new slot brought) ∙ was.0 in
    rw (allowed, resident-brought old new (addr / page_size) slot brought was.1) refl

-- ---- a byte that is told at once
memory-is : (swap : Swap) (g : Guest) (s : Streams) (w : World) → StandsFor swap g s w → memory_of g.machine.pages swap ≡ w.state.memory
memory-is swap g s w stands = ap (λ (x : World). x.state.memory) stands.parts

pub told-here : (addr : ℕ) (g : Guest) (a : Around) (byte : Option ℕ) → g.failed ≡ false → is_some byte ≡ is_none (denied g.machine.pages addr)
    → ((swap : Swap) → byte ≡ byte_in (memory_of g.machine.pages swap) addr) → Tells addr g g a a (Ok byte)
told-here addr g a byte works readable is = record {
  follows = record {
    keeps = files-same a.held;
    leads = λ held now h h' told from stands.
        let same : held ≡ now = some-held held now (sym h ∙ h') in (
          is held.page ∙ ap (λ (m : Memory). byte_in m addr) (memory-is held.page g a.streams from stands),
          subst (λ (x : Held). StandsFor x.page g a.streams from) same stands,
        );
  };
  shown = is;
  readable = readable;
  keeps = λ i. record g { failed = works i };
  guest = λ guest. guest;
  opened = refl;
  cause = refl;
  loads = omega arith;
}

-- ---- a byte whose page is brought
module _ (addr : ℕ) (g new : Guest) (slot : ℕ) (h h' : Option Held) (o o' : ℕ) (f f' : Counts) (left out err : Option (List ℕ)) (take puts err_puts : ℕ)
    (works : g.failed ≡ false) (away : blocked (table_of g.machine.pages) Read addr 1 ≡ Some (Away slot)) where
  abbrev before : Around
  before = around h o f left take out puts err err_puts

  abbrev after : Around
  after = around h' o' f' left take out puts err err_puts

  brought-guest : (tried : Tried) → Brings g new slot h h' o o' f f' (Ok tried) → IsGuest g before → IsGuest new after
  brought-guest tried b guest = subst (λ (x : Guest). IsGuest x after) (sym b.keeps) (record {
    between = record {
      phase = guest.between.phase;
      begins = guest.between.begins;
      fit = fit-brought g new slot b.brought guest.between.fit;
      pages = b.pages;
    };
    works = works;
    signal = guest.signal;
  })

  told-byte : (tried : Tried) → Brings g new slot h h' o o' f f' (Ok tried) → (byte : ℕ) → ((swap : Swap) → byte ≡ byte_of new.machine.pages swap addr)
      → Tells addr g new before after (Ok (Some byte))
  told-byte tried b byte is =
      let allowed = allowed-here new.machine.pages addr (here-brought g.machine.pages new.machine.pages addr slot b.brought away) in
      let shown : (swap : Swap) → Some byte ≡ byte_in (memory_of new.machine.pages swap) addr =
      λ swap. byte-here new.machine.pages addr swap byte allowed (is swap) in
      record {
        follows = record {
          keeps = b.files;
          leads = λ held now is_held is' told from stands.
              let mem = b.memory.related held is_held in
              let same : mem.0 ≡ now = some-held mem.0 now (sym mem.1 ∙ is') in
              let memory : memory_of new.machine.pages now.page ≡ memory_of g.machine.pages held.page =
              subst (λ (x : Held). memory_of new.machine.pages x.page ≡ memory_of g.machine.pages held.page) same mem.2.memory in (
                shown now.page ∙ ap (λ (m : Memory). byte_in m addr) (memory ∙ memory-is held.page g before.streams from stands),
                subst (λ (x : Guest). StandsFor now.page x before.streams from) (sym b.keeps)
                    (brought-stands g new slot before.streams held.page now.page from b.brought memory stands),
              );
        };
        shown = shown;
        readable = sym (ap is_none (away-here g.machine.pages addr slot away).0);
        keeps = b.keeps ∙ λ i. record (with_pages g new) { failed = works i };
        guest = brought-guest tried b;
        opened = b.opened_is;
        cause = b.cause take puts err_puts;
        loads = let loads = b.loads in grind (arith, loads);
      }

  pub told-brought : (tried : Tried) → Brings g new slot h h' o o' f f' (Ok tried) → (answer : Option ℕ) (byte : ℕ) → answer ≡ Some byte
      → ((swap : Swap) → byte ≡ byte_of new.machine.pages swap addr) → Tells addr g new before after (Ok answer)
  told-brought tried b answer byte same is = subst (λ (given : Option ℕ). Tells addr g new before after (Ok given)) (sym same) (told-byte tried b byte is)

  pub told-failed : (call : HostCall) → Brings g new slot h h' o o' f f' (Err call) → Tells addr g (record new { failed = true }) before after (Err call)
  told-failed call b = record {
    follows = record { keeps = b.files; leads = λ held now is is' told from stands. (tt, tt) };
    shown = tt;
    readable = tt;
    keeps = λ i. record (b.keeps i) { failed = true };
    guest = tt;
    opened = b.opened_is;
    cause = b.cause take puts err_puts;
    loads = let still = b.still in omega (arith, still);
  }
