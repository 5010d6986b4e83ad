-- Pages that are mapped, and files that are copied to them.
use Rattle.std.proofs.Common.{◌≡◌, ◌≢◌, ℕ, zero, suc, ◌+◌, ◌-◌, ◌*◌, ◌/◌, ◌%◌, ◌^◌, ◌≤◌, ◌<◌, ◌==◌, ◌⊎◌, inl, inr, min, Bool, true, false}
use Rattle.std.proofs.Common.{cond, not, ◌&&◌, List, [], ◌∷◌, length, Option, Some, None, Result, Ok, Err, refl, sym, ap, ◌∙◌, subst}
use Rattle.std.proofs.Common.{arith, zero-add, nat_le, eq-eqb}
use Rattle.std.proofs.lemmas.Bool.{cases_lt, cases_eq, le-leb, leb-true, ne_eqb}
use Rattle.std.specs.Option.{option_map}
use Rattle.machine_state.specs.Memory.{Swap, page_size, written}
use Rattle.machine_state.specs.World.{World}
use Rattle.machine_state.specs.declared.kinds.Region.{Region}
use Rattle.machine_state.proofs.MemoryLemmas.{written_none}
use Rattle.guest_pages.specs.Pages.{PagesValue}
use Rattle.guest_files.specs.Files.{FilesValue, AreFiles}
use Rattle.guest_files.specs.Moves.{content_at, read_piece}
use Rattle.guest_transfers.specs.Pieces.{asked, pieces_from, single, spread}
use Rattle.guest_transfers.specs.Moves.{Moved, Reads as ReadsTo}
use Rattle.guest_transfers.specs.declared.kinds.Stop.TheVariants.{Whole, Away}
use Rattle.guest_transfers.proofs.Along.{from_inside, spread_front, spread_none, written-append}
use Rattle.guest_transfers.proofs.FileLemmas.{none_behind}
use Rattle.region_map.specs.Ranges.{changed_regions}
use Rattle.region_map.specs.Calls.{RegionsValue, FitPages, IsChange, IsFreeBelow, IsHighest, NoneIn, PassLimits, highest_end, is_mapped}
use Rattle.region_map.specs.Calls.{lowest_page, pages_up}
use Rattle.linux_calls.specs.declared.kinds.Halt.{Halt}
use Rattle.linux_calls.specs.declared.kinds.Halt.TheVariants.{Need, Refused, Failed as FailedHalt}
use Rattle.linux_calls.specs.declared.kinds.Stage.TheVariants.{Copying}
use Rattle.linux_calls.specs.Errnos.{enomem}
use Rattle.linux_calls.specs.Call.{Called, gives, with_bytes, r9, rsi}
use Rattle.linux_calls.specs.Mapping.{copy_rest, filled_from, given_end, is_free, last_below, mapped_at, mapped_descriptor, mmap_bytes}
use Rattle.linux_calls.specs.Mapping.{mmap_change, some_in}
use Rattle.linux_calls.specs.Rest.{rest_of}
use Rattle.linux_calls.specs.View.{View, with_parts}
use Rattle.linux_calls.specs.Following.{DoesPart}
use Rattle.linux_calls.specs.Waiting.{mapped_bytes}
use Rattle.linux_calls.proofs.RangeLemmas.{none_some, limits_kept, limits_passed}
use Rattle.linux_calls.proofs.ChangeLemmas.{world_changed_below}
use Rattle.linux_calls.proofs.MoveLemmas.{world_moved}
use Rattle.linux_calls.proofs.FileMoves.{pieces_on}
use Rattle.linux_calls.proofs.ZeroLemmas.{some_none}

abbrev with_byte : World → (ℕ → ℕ) → World
with_byte w byte = record w { state = record w.state { memory = record w.state.memory { byte = byte } } }

-- a file has no bytes behind the last offset
pub copied_none : (v : View) (at : ℕ) → AreFiles v.files → v.files.cap < 2 ^ 32 → 2 ^ 63 ≤ r9 v.gprs → (swap : Swap) (base : World)
    → copy_rest at 0 (with_parts swap v base) ≡ gives at (with_parts swap v base)
unfolding copy_rest
copied_none v at are most past swap base =
    let w = with_parts swap v base in
    let none : mmap_bytes w 0 ≡ [] = none_behind v.files (mapped_descriptor v.gprs) (r9 v.gprs + 0) (mapped_bytes v.gprs - 0) are (omega arith) in
    ap (λ (bytes : List ℕ). gives at (with_bytes w (at + 0) bytes)) none ∙ ap (λ (f : ℕ → ℕ). gives at (with_byte w f)) (written_none w.state.memory.byte (at + 0))

-- bytes along one piece
spread_one : (byte : ℕ → ℕ) (at count from : ℕ) (bytes : List ℕ) → from + length bytes ≤ count → spread byte (pieces_from (single at count) from) bytes ≡ written byte (at + from) bytes
spread_one byte at count from [] within = spread_none byte (pieces_from (single at count) from) ∙ sym (written_none byte (at + from))
spread_one byte at count from (b ∷ bytes) within =
    let some : from < count = omega arith in
    rw (from_inside (record { addr = at; len = count }) [] from some) (spread_front byte (record { addr = at + from; len = count - from }) [] (b ∷ bytes) (omega arith))

module _ (v : View) (at from : ℕ) (pages : PagesValue) where
  abbrev copied : View
  copied = record v { pages = pages }

  world_copied : (bytes : List ℕ) (swap : Swap) (base : World) → Moved v.pages pages (single at (mapped_bytes v.gprs)) from bytes
      → with_bytes (with_parts swap v base) (at + from) bytes ≡ with_parts swap copied base
  world_copied bytes swap base moved =
      let w = with_parts swap v base in
      let within : from + length bytes ≤ mapped_bytes v.gprs = (let m = moved.within in omega (arith, m, zero-add (mapped_bytes v.gprs))) in
      ap (λ (f : ℕ → ℕ). with_byte w f) (sym (spread_one w.state.memory.byte at (mapped_bytes v.gprs) from bytes within))
      ∙ world_moved v pages swap base (single at (mapped_bytes v.gprs)) from bytes moved

  pub copies_whole : (done : ℕ) → ReadsTo v.pages pages (single at (mapped_bytes v.gprs)) from v.files (mapped_descriptor v.gprs) (r9 v.gprs) (Whole done)
      → DoesPart (copy_rest at from) v copied (Ok at)
  unfolding copy_rest
  copies_whole done reads swap base =
      let count = mapped_bytes v.gprs in
      let all : asked (single at count) ≡ count = zero-add count in
      let moved = subst (λ (n : ℕ). Moved v.pages pages (single at count) from (read_piece v.files (mapped_descriptor v.gprs) (r9 v.gprs + from) (n - from))) all reads.1 in
      ap (gives at) (world_copied (mmap_bytes (with_parts swap v base) from) swap base moved)

  copies_more : (done : ℕ) (w : World) → from ≤ done → done ≤ pages_up (rsi w.state.gprs) * page_size → done ≡ from + length (read_piece (record { files = w.files; places = w.descriptors; cap = w.cap }) (mapped_descriptor w.state.gprs) (r9 w.state.gprs + from) (done - from))
      → copy_rest at done (with_bytes w (at + from) (read_piece (record { files = w.files; places = w.descriptors; cap = w.cap }) (mapped_descriptor w.state.gprs) (r9 w.state.gprs + from) (done - from))) ≡ copy_rest at from w
  unfolding copy_rest
  copies_more done w after within count_is =
      let files : FilesValue = record { files = w.files; places = w.descriptors; cap = w.cap } in
      let fd = mapped_descriptor w.state.gprs in
      let offset = r9 w.state.gprs in
      let count = pages_up (rsi w.state.gprs) * page_size in
      let byte = w.state.memory.byte in
      let bytes = read_piece files fd (offset + from) (done - from) in
      let more = read_piece files fd (offset + done) (count - done) in
      let place : at + done ≡ at + from + length bytes = omega arith in
      ap (λ (n : ℕ). gives at (with_byte w (written (written byte (at + from) bytes) n more))) place
      ∙ ap (λ (f : ℕ → ℕ). gives at (with_byte w f)) (written-append byte (at + from) bytes more)
      ∙ ap (λ (xs : List ℕ). gives at (with_bytes w (at + from) xs)) (pieces_on (content_at files fd) offset from done count after within)

  pub copies_away : (done slot : ℕ) → from ≤ done → done ≤ mapped_bytes v.gprs → ReadsTo v.pages pages (single at (mapped_bytes v.gprs)) from v.files (mapped_descriptor v.gprs) (r9 v.gprs) (Away done slot)
      → (swap : Swap) (base : World) → rest_of (record { stage = Copying at done; pieces = v.progress.pieces }) (with_parts swap copied base) ≡ copy_rest at from (with_parts swap v base)
  unfolding rest_of
  copies_away done slot after within reads swap base =
      ap (λ (w : World). copy_rest at done w) (sym (world_copied (read_piece v.files (mapped_descriptor v.gprs) (r9 v.gprs + from) (done - from)) swap base reads.1))
      ∙ copies_more done (with_parts swap v base) after within reads.0

-- ---- what is mapped
module _ (v : View) (from : ℕ) (pages : PagesValue) (regions : RegionsValue) where
  pub mapped_then : (PassLimits v.pages (changed_regions (mmap_change v.gprs) from (from + pages_up (rsi v.gprs)) v.regions.regions) → ⊥)
      → IsChange (mmap_change v.gprs) from (from + pages_up (rsi v.gprs)) v.regions.regions regions.regions v.pages pages → FitPages pages regions.regions
      → regions.heap ≡ v.regions.heap → regions.at ≡ v.regions.at → (swap : Swap) (base : World)
      → mapped_at from (with_parts swap v base) ≡ filled_from (from * page_size) (with_parts swap (record v { pages = pages; regions = regions }) base)
  unfolding mapped_at
  mapped_then never is fit heap at swap base =
      rw (limits_kept v.pages (changed_regions (mmap_change v.gprs) from (from + pages_up (rsi v.gprs)) v.regions.regions) never)
      (ap (filled_from (from * page_size)) (world_changed_below v (mmap_change v.gprs) from (from + pages_up (rsi v.gprs)) pages regions swap base is fit heap at))

  pub mapped_refused : PassLimits v.pages (changed_regions (mmap_change v.gprs) from (from + pages_up (rsi v.gprs)) v.regions.regions) → regions ≡ v.regions → pages ≡ v.pages
      → DoesPart (mapped_at from) v (record v { pages = pages; regions = regions }) (Err (Refused enomem))
  unfolding mapped_at
  mapped_refused pass same_regions same_pages =
      rw (same_regions, same_pages) (λ swap base. rw (limits_passed v.pages (changed_regions (mmap_change v.gprs) from (from + pages_up (rsi v.gprs)) v.regions.regions) pass) refl)

  pub part_then : (work other : World → Called) (new : View) (result : Result ℕ Halt)
      → ((swap : Swap) (base : World) → work (with_parts swap v base) ≡ other (with_parts swap (record v { pages = pages; regions = regions }) base))
      → DoesPart other (record v { pages = pages; regions = regions }) new result → DoesPart work v new result
  part_then work other new (Ok value) same does = λ swap base. same swap base ∙ does swap base
  part_then work other new (Err (Refused errno)) same does = λ swap base. same swap base ∙ does swap base
  part_then work other new (Err (Need slot)) same does = λ swap base. does swap base ∙ sym (same swap base)
  part_then work other new (Err (FailedHalt call)) same does = does

-- ---- free places
free_is : (regions : List Region) (end count page : ℕ) → lowest_page ≤ page → page + count ≤ end → NoneIn (is_mapped regions) page (page + count) → is_free regions end count page ≡ true
free_is regions end count page low high none = rw (le-leb lowest_page page low, le-leb (page + count) end high, none_some (is_mapped regions) page count none) refl

pub record IsFreeAt (regions : List Region) (end count page : ℕ) : Type 0 where
  pub low : lowest_page ≤ page
  pub high : page + count ≤ end
  pub none : NoneIn (is_mapped regions) page (page + count)

pub free_at : (regions : List Region) (end count page : ℕ) → is_free regions end count page ≡ true → IsFreeAt regions end count page
free_at regions end count page e = here (nat_le lowest_page page) refl (nat_le (page + count) end) refl (some_in (is_mapped regions) page count) refl e
  where
    here : (a : Bool) → nat_le lowest_page page ≡ a → (b : Bool) → nat_le (page + count) end ≡ b → (c : Bool) → some_in (is_mapped regions) page count ≡ c → (a && b && not c) ≡ true → IsFreeAt regions end count page
    here false low b high c some h = cc
    here true low false high c some h = cc
    here true low true high true some h = cc
    here true low true high false some h = record { low = leb-true lowest_page page low; high = leb-true (page + count) end high; none = some_none (is_mapped regions) page count some }

place_is : (regions : List Region) (end count page top : ℕ) → end ≤ highest_end → (page + count) * page_size ≤ top → is_free regions end count page ≡ true → IsFreeBelow regions top count (page * page_size)
place_is regions end count page top below ends e =
    let free = free_at regions end count page e in
    let high = free.high in
    record { page = page; addr_is = refl; low = free.low; high = omega arith; ends = omega arith; free = free.none }

-- the highest number that passes a test
last_none : (test : ℕ → Bool) (n : ℕ) → ((other : ℕ) → other < n → test other ≡ false) → last_below test n ≡ None
unfolding last_below
last_none test zero none = refl
last_none test (suc n) none =
    let here : test n ≡ false = none n (omega arith) in
    rw here (last_none test n (λ other lt. none other (omega arith)))

last_is : (test : ℕ → Bool) (n page : ℕ) → page < n → test page ≡ true → ((other : ℕ) → page < other → other < n → test other ≡ false) → last_below test n ≡ Some page
unfolding last_below
last_is test zero page lt is none = absurd (omega arith)
last_is test (suc n) page lt is none = either (cases_lt page n) (λ below. last_is test n page below is (λ other above under. none other above (omega arith)))
  where
    either : (page < n) ⊎ (n ≤ page) → (page < n → last_below test n ≡ Some page) → cond (test n) (Some n) (last_below test n) ≡ Some page
    either (inl below) rest = let here : test n ≡ false = none n below (omega arith) in rw here (rest below)
    either (inr at) rest =
        let same : n ≡ page = omega arith in
        rw (same, is) refl

not_true : (b : Bool) → (b ≡ true → ⊥) → b ≡ false
not_true true h = absurd (h refl)
not_true false h = refl

-- the highest free place, by pages
pub highest_is : (regions : List Region) (count : ℕ) (o : Option ℕ) → 0 < count → IsHighest (IsFreeBelow regions 0x7FFFF0000000 count) o
    → option_map (λ addr. addr / page_size) o ≡ last_below (is_free regions given_end count) given_end
highest_is regions count None some none = sym (last_none (is_free regions given_end count) given_end (λ other lt. not_true (is_free regions given_end count other) (λ e.
    none (other * page_size) (place_is regions given_end count other 0x7FFFF0000000 (omega arith) (let f = free_at regions given_end count other e in let h = f.high in omega arith) e))))
highest_is regions count (Some addr) some highest =
    let place = highest.0 in
    let addr_is = place.addr_is in
    let low = place.low in
    let ends = place.ends in
    let page_of : addr / page_size ≡ place.page = omega arith in
    let high : place.page + count ≤ given_end = omega arith in
    ap (λ (n : ℕ). let p : Option ℕ = Some n in p) page_of
    ∙ sym (last_is (is_free regions given_end count) given_end place.page (omega arith) (free_is regions given_end count place.page low high place.free) (λ other above lt.
    not_true (is_free regions given_end count other) (λ e.
    let f = free_at regions given_end count other e in
    let h = f.high in
    let no_more = highest.1 (other * page_size) (place_is regions given_end count other 0x7FFFF0000000 (omega arith) (omega arith) e) in
    absurd (omega arith))))

pub highest_bounds : (regions : List Region) (count addr : ℕ) → IsFreeBelow regions 0x7FFFF0000000 count addr → (lowest_page ≤ addr / page_size) × (addr / page_size + count ≤ highest_end)
highest_bounds regions count addr place =
    let addr_is = place.addr_is in
    let low = place.low in
    let high = place.high in
    (omega arith, omega arith)

-- a hint is free where the highest place that ends with it is there
module _ (regions : List Region) (hint count top : ℕ) (some : 0 < count) (few : count ≤ highest_end) (page : hint % page_size ≡ 0) (top_is : top ≡ min (hint + count * page_size) (2 ^ 64 - 1)) where
  hint_place : is_free regions highest_end count (hint / page_size) ≡ true → IsFreeBelow regions top count hint
  hint_place e =
      let f = free_at regions highest_end count (hint / page_size) e in
      let h = f.high in
      let low = f.low in
      record { page = hint / page_size; addr_is = omega arith; low = f.low; high = f.high; ends = omega arith; free = f.none }

  pub hint_none : IsHighest (IsFreeBelow regions top count) None → is_free regions highest_end count (hint / page_size) ≡ false
  hint_none none = not_true (is_free regions highest_end count (hint / page_size)) (λ e. none hint (hint_place e))

  pub hint_some : (addr : ℕ) → IsHighest (IsFreeBelow regions top count) (Some addr) → (addr == hint) ≡ is_free regions highest_end count (hint / page_size)
  hint_some addr highest = either (cases_eq addr hint)
    where
      either : (addr ≡ hint) ⊎ (addr ≢ hint) → (addr == hint) ≡ is_free regions highest_end count (hint / page_size)
      either (inl same) =
          let place = highest.0 in
          let addr_is = place.addr_is in
          let page_of : hint / page_size ≡ place.page = omega arith in
          eq-eqb addr hint same ∙ sym (ap (is_free regions highest_end count) page_of ∙ free_is regions highest_end count place.page place.low place.high place.free)
      either (inr apart) =
          ne_eqb addr hint apart ∙ sym (not_true (is_free regions highest_end count (hint / page_size)) (λ e.
          let place = highest.0 in
          let ends = place.ends in
          let above = highest.1 hint (hint_place e) in
          apart (omega arith)))
