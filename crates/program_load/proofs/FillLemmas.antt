-- Pages that are brought and written while a program is loaded.
use Rattle.std.proofs.Common.{◌≡◌, ℕ, ◌+◌, ◌-◌, ◌/◌, ◌%◌, ◌<◌, ◌≤◌, Bool, true, false, cond, List, ◌∷◌, length, Option, Some, None, is_some, Result, Err, refl, sym, ◌∙◌, ap, subst, arith, take, slice_range}
use Rattle.std.specs.Option.{option_map}
use Rattle.std.proofs.lemmas.Bool.{eq-eqb}
use Rattle.machine_state.specs.declared.kinds.Kind.TheVariants.{Write}
use Rattle.machine_state.specs.declared.kinds.Miss.{Miss}
use Rattle.machine_state.specs.declared.kinds.Miss.TheVariants.{Away}
use Rattle.machine_state.specs.declared.kinds.Region.{Region}
use Rattle.machine_state.specs.Memory.{page_size, Memory, Swap, first_miss, written}
use Rattle.machine_state.specs.Regions.{FitRegions}
use Rattle.machine_state.proofs.MemoryLemmas.{written_on, first_miss_part, length_slice}
use Rattle.host_edge.specs.declared.outside.HostCall.{HostCall}
use Rattle.host_edge.specs.Causes.{Counts}
use Rattle.host_edge.specs.Files.{Held, Becomes}
use Rattle.guest_pages.specs.Table.{Mapped, Table, perms_in, away_at, blocked, answer_of}
use Rattle.guest_pages.specs.Pages.{PagesValue, table_of, byte_of, memory_of}
use Rattle.guest_pages.specs.Changes.{KeepsSize, IsBlank, IsWritten}
use Rattle.guest_pages.specs.Order.{is_recent}
use Rattle.guest_pages.specs.Together.{AreClean, NoneSwapped}
use Rattle.guest_pages.proofs.Carries.{keeps_written}
use Rattle.guest_pages.proofs.Togethers.{clean_blank, clean_written, none_blank, none_table}
use Rattle.guest_pages.proofs.Walks.{first_away_within, first_away-away}
use Rattle.region_map.specs.declared.kinds.Change.{Change}
use Rattle.region_map.specs.Changes.{AreChanged}
use Rattle.region_map.specs.Calls.{FitPages}
use Rattle.region_map.proofs.Swaps.{clean_changed, none_changed}
use Rattle.swap_pager.specs.Bringing.{IsBrought, KeepsMemory, framed_by}
use Rattle.swap_pager.specs.Paging.{CanPage}
use Rattle.program_load.specs.Faults.{IsSwapCaused}
use Rattle.program_load.specs.Loading.{KeepsPerms, HaveBytes, KeepsHost}

-- ---- pages and a host
-- they stay so where pages change at most so
can_keep : (old new : PagesValue) (held : Option Held) (opened : ℕ) → KeepsSize old new → ((swap : Swap) → AreClean old swap → AreClean new swap) → (NoneSwapped old → NoneSwapped new)
    → CanPage old held opened → CanPage new held opened
can_keep old new held opened size clean none can = record {
  least = rw size.frames can.least;
  fit = rw (size.frames, size.pages) can.fit;
  none = λ whole. none (can.none (sym size.frames ∙ whole ∙ size.pages));
  over = λ over. rw size.pages (can.over (rw (size.frames, size.pages) at over));
  clean = λ told is. clean told.page (can.clean told is);
}

pub can_written : (old new : PagesValue) (held : Option Held) (opened addr : ℕ) (bytes : List ℕ) → IsWritten old new addr bytes → CanPage old held opened → CanPage new held opened
can_written old new held opened addr bytes w can =
    can_keep old new held opened w.size (λ swap. clean_written old new swap addr bytes w) (none_table old new (keeps_written old new addr bytes w)) can

pub can_changed : (change : Change) (which : ℕ → Bool) (old new : PagesValue) (held : Option Held) (opened : ℕ) → AreChanged change which old new → CanPage old held opened → CanPage new held opened
can_changed change which old new held opened a can =
    can_keep old new held opened a.size (λ swap. clean_changed change which old new swap a) (none_changed change which old new a) can

pub can_blank : (pages : PagesValue) (frames most : ℕ) (held : Option Held) (opened : ℕ) → IsBlank pages frames most → 8 ≤ frames → frames ≤ most → (frames < most → most ≤ opened) → CanPage pages held opened
can_blank pages frames most held opened blank least fit over = record {
  least = rw blank.frames_are least;
  fit = rw (blank.frames_are, blank.pages_are) fit;
  none = λ whole. none_blank pages frames most blank;
  over = λ less. rw blank.pages_are (over (rw (blank.frames_are, blank.pages_are) at less));
  clean = λ told is. clean_blank pages told.page frames most blank;
}

-- ---- permissions
framed_perms : (recent : List ℕ) (entry : Option Mapped) → option_map (λ (m : Mapped). m.perms) (option_map (framed_by recent) entry) ≡ option_map (λ (m : Mapped). m.perms) entry
framed_perms recent None = refl
framed_perms recent (Some mapped) = refl

pub perms_brought : (old new : PagesValue) (slot : ℕ) → IsBrought old new slot → KeepsPerms old new
perms_brought old new slot b = record {
  size = b.size;
  perms = λ i page. (ap (option_map (λ (m : Mapped). m.perms)) (b.table page) ∙ framed_perms new.recent (table_of old page)) i;
  count = b.count;
}

pub perms_written : (old new : PagesValue) (addr : ℕ) (bytes : List ℕ) → IsWritten old new addr bytes → KeepsPerms old new
perms_written old new addr bytes w = record { size = w.size; perms = ap (λ (t : Table). perms_in t) w.table; count = w.count }

pub perms_same : (pages : PagesValue) → KeepsPerms pages pages
perms_same pages = record { size = record { frames = refl; pages = refl }; perms = refl; count = refl }

pub size_both : (old between new : PagesValue) → KeepsSize old between → KeepsSize between new → KeepsSize old new
size_both old between new a b = record { frames = b.frames ∙ a.frames; pages = b.pages ∙ a.pages }

pub perms_both : (old between new : PagesValue) → KeepsPerms old between → KeepsPerms between new → KeepsPerms old new
perms_both old between new a b = record { size = size_both old between new a.size b.size; perms = b.perms ∙ a.perms; count = b.count ∙ a.count }

pub perms_fit : (old new : PagesValue) (regions : List Region) → KeepsPerms old new → FitPages old regions → FitPages new regions
perms_fit old new regions keeps fit = record {
  perms = subst (λ (p : ℕ → Option ℕ). FitRegions p regions) (sym keeps.perms) fit.perms;
  count = keeps.count ∙ fit.count;
}

-- ---- the page that is brought is in a frame
recent_first : (slot : ℕ) (rest : List ℕ) → is_recent (slot ∷ rest) slot ≡ true
recent_first slot rest = rw (eq-eqb slot slot refl) refl

away_slot : (recent : List ℕ) (entry : Option Mapped) (slot : ℕ) → away_at entry ≡ Some (Away slot) → is_recent recent slot ≡ true → away_at (option_map (framed_by recent) entry) ≡ None
away_slot recent None slot away first = refl
away_slot recent (Some mapped) slot away first = by_frame mapped.resident away
  where
    slot_of : Option Miss → ℕ → ℕ
    slot_of None n = n
    slot_of (Some (Away k)) n = k
    slot_of (Some _) n = n

    by_frame : (resident : Bool) → cond resident None (Some (Away mapped.slot)) ≡ Some (Away slot) → away_at (Some (framed_by recent mapped)) ≡ None
    by_frame true e = cc
    by_frame false e = let same : mapped.slot ≡ slot = ap (λ (o : Option Miss). slot_of o 0) e in rw (same, first) refl

pub brought_ready : (old new : PagesValue) (addr len slot : ℕ) → 0 < len → addr % page_size + len ≤ page_size → first_miss (perms_in (table_of old)) Write addr len ≡ None
    → blocked (table_of old) Write addr len ≡ Some (Away slot) → IsBrought old new slot → blocked (table_of new) Write addr len ≡ None
brought_ready old new addr len slot some within allowed waits b =
    let away : away_at (table_of old (addr / page_size)) ≡ Some (Away slot) = sym (first_away_within (table_of old) addr len some within) ∙ (rw allowed at waits) in
    let first : is_recent new.recent slot ≡ true = (let is = b.recent in rw is (recent_first slot _)) in
    let there : away_at (table_of new (addr / page_size)) ≡ None = rw (b.table (addr / page_size)) (away_slot new.recent (table_of old (addr / page_size)) slot away first) in
    let perms = (perms_brought old new slot b).perms in
    rw (perms, allowed) (first_away_within (table_of new) addr len some within ∙ there)

-- ---- bytes
pub bytes_same : (change : (ℕ → ℕ) → ℕ → ℕ) (old new : PagesValue) (held : Option Held) → ((swap : Swap) → byte_of new swap ≡ change (byte_of old swap))
    → Becomes (HaveBytes change old new) held held
bytes_same change old new held is = record { tells = refl; related = λ told there. (told, there, record { byte = is told.page }) }

pub bytes_kept : (old new : PagesValue) (held after : Option Held) → Becomes (KeepsMemory old new) held after → Becomes (HaveBytes (λ byte. byte) old new) held after
unfolding memory_of
bytes_kept old new held after becomes = record {
  tells = becomes.tells;
  related = λ told there.
      let r = becomes.related told there in
      let same = r.2.memory in
      (r.0, r.1, record { byte = ap (λ (m : Memory). m.byte) same });
}

pub bytes_both : (first then : (ℕ → ℕ) → ℕ → ℕ) (old between new : PagesValue) (held middle after : Option Held) → Becomes (HaveBytes first old between) held middle
    → Becomes (HaveBytes then between new) middle after → Becomes (HaveBytes (λ byte. then (first byte)) old new) held after
bytes_both first then old between new held middle after a b = record {
  tells = b.tells ∙ a.tells;
  related = λ told there.
      let r = a.related told there in
      let s = b.related r.0 r.1 in
      let one = r.2.byte in
      let two = s.2.byte in
      (s.0, s.1, record { byte = two ∙ ap then one });
}

pub bytes_as : (change other : (ℕ → ℕ) → ℕ → ℕ) (old new : PagesValue) (held after : Option Held) → ((byte : ℕ → ℕ) (addr : ℕ) → change byte addr ≡ other byte addr)
    → Becomes (HaveBytes change old new) held after → Becomes (HaveBytes other old new) held after
bytes_as change other old new held after same becomes = record {
  tells = becomes.tells;
  related = λ told there.
      let r = becomes.related told there in
      let is = r.2.byte in
      (r.0, r.1, record { byte = is ∙ (λ i addr. same (byte_of old told.page) addr i) });
}

-- what memory is where a host tells its swap after it all
pub bytes_told : (change : (ℕ → ℕ) → ℕ → ℕ) (old new : PagesValue) (held after : Option Held) (told : Held) → Becomes (HaveBytes change old new) held after → after ≡ Some told
    → (before : Held) × (byte_of new told.page ≡ change (byte_of old before.page))
bytes_told change old new None after told becomes is = absurd (let e = sym (ap is_some is) ∙ becomes.tells in cc)
bytes_told change old new (Some before) after told becomes is =
    let r = becomes.related before refl in
    let same : r.0 ≡ told = some_same r.0 told (sym r.1 ∙ is) in
    (before, subst (λ (h : Held). byte_of new h.page ≡ change (byte_of old before.page)) same r.2.byte)
  where
    some_same : (a b : Held) → ◌≡◌ {A = Option Held} (Some a) (Some b) → a ≡ b
    some_same a b e = cc

-- a part more is written
pub bytes_on : (old between new : PagesValue) (held middle after : Option Held) (addr : ℕ) (bytes : List ℕ) (from end : ℕ) → from ≤ end → end ≤ length bytes
    → Becomes (HaveBytes (λ byte. written byte addr (take from bytes)) old between) held middle
    → Becomes (HaveBytes (λ byte. written byte (addr + from) (slice_range bytes from end)) between new) middle after
    → Becomes (HaveBytes (λ byte. written byte addr (take end bytes)) old new) held after
bytes_on old between new held middle after addr bytes from end up within a b =
    bytes_as (λ byte. written (written byte addr (take from bytes)) (addr + from) (slice_range bytes from end)) (λ byte. written byte addr (take end bytes)) old new held after
    (λ byte at. ap (λ (f : ℕ → ℕ). f at) (written_on byte addr bytes from end up within))
    (bytes_both (λ byte. written byte addr (take from bytes)) (λ byte. written byte (addr + from) (slice_range bytes from end)) old between new held middle after a b)

-- ---- the host
pub host_same : (held : Option Held) (opened : ℕ) → KeepsHost held held opened opened
host_same held opened = record { files = record { tells = refl; related = λ told there. (told, there, refl) }; opened_is = refl }

pub host_both : (held middle after : Option Held) (opened between now : ℕ) → KeepsHost held middle opened between → KeepsHost middle after between now → KeepsHost held after opened now
host_both held middle after opened between now a b = record {
  files = record {
    tells = (let one = a.files.tells in let two = b.files.tells in two ∙ one);
    related = λ told there.
        let r = a.files.related told there in
        let s = b.files.related r.0 r.1 in
        (s.0, s.1, s.2 ∙ r.2);
  };
  opened_is = b.opened_is ∙ a.opened_is;
}

pub cause_after : (result : Result (Unit {0}) HostCall) (old between new : Counts) → between ≡ old → IsSwapCaused result between new → IsSwapCaused result old new
cause_after result old between new same caused = subst (λ (counts : Counts). IsSwapCaused result counts new) same caused

-- ---- answers
-- an access was refused for this
pub refused_by : (answer : Result (Unit {0}) Miss) (miss : Option Miss) (why : Miss) → answer ≡ answer_of miss → answer ≡ Err why → miss ≡ Some why
refused_by answer None why is refused = absurd (let e = sym refused ∙ is in cc)
refused_by answer (Some other) why is refused = (let e = sym refused ∙ is in cc)

-- what is allowed and was refused is away
pub refused_away : (table : Table) (addr len : ℕ) (answer : Result (Unit {0}) Miss) (why : Miss) → first_miss (perms_in table) Write addr len ≡ None
    → answer ≡ answer_of (blocked table Write addr len) → answer ≡ Err why → (slot : ℕ) × (why ≡ Away slot)
refused_away table addr len answer why allowed is refused =
    first_away-away table addr len why (rw allowed at (refused_by answer (blocked table Write addr len) why is refused))

-- a part of what is allowed, where permissions are the same
pub part_allowed : (old new : PagesValue) (addr : ℕ) (bytes : List ℕ) (from end : ℕ) → from ≤ end → end ≤ length bytes → KeepsPerms old new
    → first_miss (perms_in (table_of old)) Write addr (length bytes) ≡ None → first_miss (perms_in (table_of new)) Write (addr + from) (length (slice_range bytes from end)) ≡ None
part_allowed old new addr bytes from end up within keeps allowed =
    let size : length (slice_range bytes from end) ≡ end - from = length_slice bytes from end up within in
    let perms = keeps.perms in
    rw (size, perms) (first_miss_part (perms_in (table_of old)) Write addr (length bytes) from (end - from) (omega arith) allowed)
