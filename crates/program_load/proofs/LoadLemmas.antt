-- What the memory of a program holds once its segments are loaded.
use Rattle.std.proofs.Common.{◌≡◌, ℕ, zero, suc, ◌+◌, ◌-◌, ◌*◌, ◌/◌, ◌<◌, ◌≤◌, Bool, true, false, cond, List, [], ◌∷◌, ◌++◌, length, All, refl, sym, ◌∙◌, ap, arith, ⊎_elim, get_or, take, nat_le, nat_lt, ◌&&◌, Option, Some, slice_range}
use Rattle.std.specs.List.{fold}
use Rattle.std.proofs.lemmas.Bool.{cases_lt}
use Rattle.std.proofs.lemmas.List.{take_more, length-take-le}
use Rattle.std.proofs.lemmas.List.Elements.{All-nil, All-cons, All-head, All-tail, All-get_or, All-take, All-weaker}
use Rattle.std.proofs.lemmas.List.Sums.{sum_by-cons, sum_by_more_le}
use Rattle.machine_state.specs.declared.kinds.Region.{Region}
use Rattle.machine_state.specs.Memory.{page_size, Swap, written}
use Rattle.machine_state.specs.Regions.{AreRegions, page_sum, nature_at, perms_of, most_regions}
use Rattle.machine_state.proofs.MemoryLemmas.{below_write, above_write}
use Rattle.host_edge.specs.Files.{Held, Becomes}
use Rattle.guest_pages.specs.Table.{perms_in}
use Rattle.guest_pages.specs.Pages.{PagesValue, table_of, byte_of, memory_of}
use Rattle.region_map.specs.declared.kinds.Change.TheVariants.{Map, Protect}
use Rattle.region_map.specs.Ranges.{page_end, is_in, changed_regions, IsAfter}
use Rattle.region_map.specs.Changes.{AreChanged}
use Rattle.region_map.specs.Calls.{FitPages, RegionsValue}
use Rattle.region_map.proofs.After.{is_after}
use Rattle.region_map.proofs.Bounds.{changed_bounds}
use Rattle.elf_image.specs.declared.kinds.Image.{Image}
use Rattle.elf_image.specs.declared.kinds.Segment.{Segment}
use Rattle.elf_image.specs.Segments.{first_page, end_page, page_count, page_sum as segment_sum, stack_pages, IsSegment, AreAscending}
use Rattle.start_stack.specs.Stack.{stack_top, stack_size, stack_pointer}
use Rattle.start_stack.proofs.StackLemmas.{stack-length}
use Rattle.program_load.specs.Load.{Program, ArePartsOf, with_segment, has_byte, file_byte, first_regions, first_memory, stack_first, stack_end}
use Rattle.program_load.specs.Loading.{HaveRoom, HaveBytes, with_zeros, with_bytes}
use Rattle.program_load.proofs.PageLemmas.{room_maps, mapped_then, mapped_bytes, protected_bytes, segment_written}
use Rattle.program_load.proofs.FillLemmas.{bytes_same, bytes_both, bytes_as, bytes_told}

-- ---- regions
pub record AreFew (regions : List Region) (more pages : ℕ) (all : List Region) : Type 0 where
  pub listed : AreRegions all
  pub few : length all ≤ length regions + 2 * more
  pub sum : page_sum all ≤ page_sum regions + pages

segment_few : (len : ℕ) (s : Segment) (regions : List Region) → IsSegment len s → AreRegions regions → AreFew regions 1 (page_count s) (with_segment regions s)
segment_few len s regions is are =
    let some = is.some in
    let high = is.high in
    let lt : first_page s < end_page s = omega arith in
    let low : end_page s ≤ page_end = omega arith in
    let after = is_after (Map s.perms true) (first_page s) (end_page s) regions (with_segment regions s) are lt (is.perms, low) refl in
    let bounds = changed_bounds (Map s.perms true) (first_page s) (end_page s) regions (with_segment regions s) are (omega arith) low after in
    record { listed = after.listed; few = omega (arith, bounds.0); sum = omega (arith, bounds.1) }

-- the regions of segments
pub segments_few : (len : ℕ) (xs : List Segment) (regions : List Region) → All (IsSegment len) xs → AreRegions regions
    → AreFew regions (length xs) (segment_sum xs) (fold with_segment regions xs)
segments_few len [] regions each are = record { listed = are; few = omega arith; sum = omega arith }
segments_few len (x ∷ xs) regions each are =
    let one = segment_few len x regions (All-head (IsSegment len) x xs each) are in
    let rest = segments_few len xs (with_segment regions x) (All-tail (IsSegment len) x xs each) one.listed in
    let sum = sum_by-cons page_count x xs in
    record { listed = rest.listed; few = omega (arith, one.few, rest.few); sum = omega (arith, one.sum, rest.sum) }

-- there is room for the next of them
pub next_room : (len : ℕ) (xs : List Segment) (i : ℕ) (d : Segment) (pages : PagesValue) (regions : List Region) → i < length xs → All (IsSegment len) xs
    → length xs ≤ 64 → segment_sum xs ≤ length pages.slots → regions ≡ fold with_segment [] (take i xs) → HaveRoom pages regions (page_count (get_or xs i d))
next_room len xs i d pages regions lt each most few regions_are =
    let so_far = segments_few len (take i xs) [] (All-take (IsSegment len) i xs each) tt in
    let count : length (take i xs) ≡ i = length-take-le i xs (omega arith) in
    let sum = sum_by_more_le page_count xs i d lt in
    rw regions_are (record { few = omega (arith, so_far.few); room = omega (arith, so_far.sum) })

-- and for the stack's pages behind all
pub stack_room : (len : ℕ) (xs : List Segment) (pages : PagesValue) (regions : List Region) → All (IsSegment len) xs → length xs ≤ 64
    → segment_sum xs + stack_pages ≤ length pages.slots → regions ≡ fold with_segment [] xs → HaveRoom pages regions stack_pages
stack_room len xs pages regions each most few regions_are =
    let all = segments_few len xs [] each tt in
    rw regions_are (record { few = omega (arith, all.few); room = omega (arith, all.sum) })

-- a segment's pages as they are mapped and then given their permissions
pub segment_regions : (len first end : ℕ) (s : Segment) (old between now : List Region) → IsSegment len s → AreRegions old → first ≡ first_page s → end ≡ end_page s
    → IsAfter (Map (record { 0 = 3 }) true) first end old between → now ≡ between → changed_regions (Protect s.perms) first end now ≡ with_segment old s
segment_regions len first end s old between now is are first_is end_is after same =
    let some = is.some in
    let high = is.high in
    ap (changed_regions (Protect s.perms) first end) same
    ∙ mapped_then (record { 0 = 3 }) s.perms true first end old between are (omega arith) (omega arith) is.perms after
    ∙ ap (λ (n : ℕ). changed_regions (Map s.perms true) n end old) first_is
    ∙ ap (λ (n : ℕ). changed_regions (Map s.perms true) (first_page s) n old) end_is

-- they are within the limits
pub segment_room : (len : ℕ) (s : Segment) (pages : PagesValue) (regions : List Region) → IsSegment len s → FitPages pages regions → HaveRoom pages regions (page_count s)
    → (length (with_segment regions s) ≤ most_regions) × (page_sum (with_segment regions s) ≤ length pages.slots)
segment_room len s pages regions is fit room =
    let some = is.some in
    let high = is.high in
    room_maps pages regions s.perms true (first_page s) (end_page s) fit.perms.listed is.perms (omega arith) (omega arith) room

-- ---- bytes
-- a segment has no byte on a page that isn't its own
has_byte-above : (len page : ℕ) (s : Segment) (addr : ℕ) → IsSegment len s → end_page s ≤ page → page ≤ addr / page_size → has_byte s addr ≡ false
has_byte-above len page s addr is ends at =
    let shorter = is.shorter in
    above_write s.addr addr (s.addr + s.file_len) (omega arith) (omega arith)

pub file_byte-nil : (bytes : List ℕ) (addr : ℕ) → file_byte bytes [] addr ≡ 0
unfolding file_byte
file_byte-nil bytes addr = refl

file_byte-cons : (bytes : List ℕ) (s : Segment) (xs : List Segment) (addr : ℕ)
    → file_byte bytes (s ∷ xs) addr ≡ cond (has_byte s addr) (get_or bytes (s.file_at + (addr - s.addr)) 0) (file_byte bytes xs addr)
unfolding file_byte
file_byte-cons bytes s xs addr = refl

-- segments that end below a page have no byte on it
file_byte-apart : (bytes : List ℕ) (len page : ℕ) (xs ys : List Segment) (addr : ℕ) → All (IsSegment len) xs → All (λ x. end_page x ≤ page) xs
    → page ≤ addr / page_size → file_byte bytes (xs ++ ys) addr ≡ file_byte bytes ys addr
file_byte-apart bytes len page [] ys addr each below at = refl
file_byte-apart bytes len page (x ∷ xs) ys addr each below at =
    let none = has_byte-above len page x addr (All-head (IsSegment len) x xs each) (All-head (λ (y : Segment). end_page y ≤ page) x xs below) at in
    file_byte-cons bytes x (xs ++ ys) addr
    ∙ rw none (file_byte-apart bytes len page xs ys addr (All-tail (IsSegment len) x xs each) (All-tail (λ (y : Segment). end_page y ≤ page) x xs below) at)

file_byte-none : (bytes : List ℕ) (len page : ℕ) (xs : List Segment) (addr : ℕ) → All (IsSegment len) xs → All (λ x. end_page x ≤ page) xs
    → page ≤ addr / page_size → file_byte bytes xs addr ≡ 0
file_byte-none bytes len page [] addr each below at = file_byte-nil bytes addr
file_byte-none bytes len page (x ∷ xs) addr each below at =
    let none = has_byte-above len page x addr (All-head (IsSegment len) x xs each) (All-head (λ (y : Segment). end_page y ≤ page) x xs below) at in
    file_byte-cons bytes x xs addr
    ∙ rw none (file_byte-none bytes len page xs addr (All-tail (IsSegment len) x xs each) (All-tail (λ (y : Segment). end_page y ≤ page) x xs below) at)

-- a segment more that doesn't have the byte
file_byte-push : (bytes : List ℕ) (xs : List Segment) (s : Segment) (addr : ℕ) → has_byte s addr ≡ false → file_byte bytes (xs ++ s ∷ []) addr ≡ file_byte bytes xs addr
file_byte-push bytes [] s addr none = file_byte-cons bytes s [] addr ∙ rw none refl
file_byte-push bytes (x ∷ xs) s addr none =
    file_byte-cons bytes x (xs ++ s ∷ []) addr
    ∙ ap (cond (has_byte x addr) (get_or bytes (x.file_at + (addr - x.addr)) 0)) (file_byte-push bytes xs s addr none)
    ∙ sym (file_byte-cons bytes x xs addr)

-- one segment more, above all those before it
file_byte-more : (bytes : List ℕ) (len : ℕ) (xs : List Segment) (s : Segment) (addr : ℕ) → All (IsSegment len) xs → All (λ x. end_page x ≤ first_page s) xs
    → with_bytes bytes s (file_byte bytes xs) addr ≡ file_byte bytes (xs ++ s ∷ []) addr
file_byte-more bytes len xs s addr each below = ⊎_elim
    (λ (low : addr / page_size < first_page s).
    let none : has_byte s addr ≡ false = below_write s.addr addr (s.addr + s.file_len) (omega arith) in
    let out : is_in (first_page s) (end_page s) (addr / page_size) ≡ false = below_write (first_page s) (addr / page_size) (end_page s) low in
    rw (none, out) (sym (file_byte-push bytes xs s addr none)))
    (λ (high : first_page s ≤ addr / page_size).
    let zero_before = file_byte-none bytes len (first_page s) xs addr each below high in
    let zeros : with_zeros (first_page s) (end_page s) (file_byte bytes xs) addr ≡ 0 = zero_both (is_in (first_page s) (end_page s) (addr / page_size)) (file_byte bytes xs addr) zero_before in
    ap (cond (has_byte s addr) (get_or bytes (s.file_at + (addr - s.addr)) 0)) (zeros ∙ sym (file_byte-nil bytes addr))
    ∙ sym (file_byte-cons bytes s [] addr)
    ∙ sym (file_byte-apart bytes len (first_page s) xs (s ∷ []) addr each below high))
    (cases_lt (addr / page_size) (first_page s))
  where
    zero_both : (b : Bool) (n : ℕ) → n ≡ 0 → cond b 0 n ≡ 0
    zero_both true n e = refl
    zero_both false n e = e

-- segments that ascend: those before one are below it
ascending-at : (xs : List Segment) (i : ℕ) (d : Segment) → i < length xs → AreAscending xs → All (λ x. end_page x ≤ first_page (get_or xs i d)) (take i xs)
ascending-at [] i d lt asc = absurd (omega arith)
ascending-at (x ∷ xs) zero d lt asc = All-nil (λ (y : Segment). end_page y ≤ first_page x)
ascending-at (x ∷ xs) (suc i) d lt asc =
    All-cons (λ (y : Segment). end_page y ≤ first_page (get_or xs i d)) x (take i xs)
    (All-get_or (λ (y : Segment). end_page x ≤ first_page y) xs i d (omega arith) asc.0)
    (ascending-at xs i d (omega arith) asc.1)

-- the bytes of the segments so far, and of one more
pub bytes_more : (bytes : List ℕ) (len : ℕ) (xs : List Segment) (i : ℕ) (d : Segment) (byte : ℕ → ℕ) (addr : ℕ) → i < length xs → All (IsSegment len) xs → AreAscending xs
    → byte addr ≡ file_byte bytes (take i xs) addr → with_bytes bytes (get_or xs i d) byte addr ≡ file_byte bytes (take (i + 1) xs) addr
bytes_more bytes len xs i d byte addr lt each asc so_far =
    let s = get_or xs i d in
    ap (λ (n : ℕ). cond (has_byte s addr) (get_or bytes (s.file_at + (addr - s.addr)) 0) (cond (is_in (first_page s) (end_page s) (addr / page_size)) 0 n)) so_far
    ∙ file_byte-more bytes len (take i xs) s addr (All-take (IsSegment len) i xs each) (ascending-at xs i d lt asc)
    ∙ ap (λ (ys : List Segment). file_byte bytes ys addr) (sym (take_more xs i d lt))

-- the bytes once a segment's pages are mapped, filled and given their permissions
pub segment_bytes : (old mapped filled new : PagesValue) (held after : Option Held) (bytes : List ℕ) (s : Segment) (first end : ℕ) (part : List ℕ) → first ≡ first_page s → end ≡ end_page s
    → part ≡ slice_range bytes s.file_at (s.file_at + s.file_len) → s.file_at + s.file_len ≤ length bytes → AreChanged (Map (record { 0 = 3 }) true) (is_in first end) old mapped
    → Becomes (HaveBytes (λ byte. written byte s.addr part) mapped filled) held after → AreChanged (Protect s.perms) (is_in first end) filled new
    → Becomes (HaveBytes (with_bytes bytes s) old new) held after
segment_bytes old mapped filled new held after bytes s first end part first_is end_is part_is within one written_is two =
    let zeros : Becomes (HaveBytes (with_zeros first end) old mapped) held held =
    bytes_same (with_zeros first end) old mapped held (λ swap i addr. mapped_bytes (record { 0 = 3 }) true first end old mapped one swap addr i) in
    let given : Becomes (HaveBytes (λ byte. byte) filled new) after after = bytes_same (λ byte. byte) filled new after (λ swap i addr. protected_bytes s.perms first end filled new two swap addr i) in
    let filled_is = bytes_both (with_zeros first end) (λ byte. written byte s.addr part) old mapped filled held held after zeros written_is in
    bytes_as (λ byte. written (with_zeros first end byte) s.addr part) (with_bytes bytes s) old new held after
    (λ byte addr.
    ap (λ (bs : List ℕ). written (with_zeros first end byte) s.addr bs addr) part_is
    ∙ segment_written bytes s (with_zeros first end byte) addr within
    ∙ ap (λ (n : ℕ). cond (has_byte s addr) (get_or bytes (s.file_at + (addr - s.addr)) 0) (with_zeros n end byte addr)) first_is
    ∙ ap (λ (n : ℕ). cond (has_byte s addr) (get_or bytes (s.file_at + (addr - s.addr)) 0) (with_zeros (first_page s) n byte addr)) end_is)
    (bytes_both (λ byte. written (with_zeros first end byte) s.addr part) (λ byte. byte) old filled new held after after filled_is given)

-- before the first segment all bytes are 0
pub bytes_first : (bytes : List ℕ) (pages : PagesValue) (held : Option Held) → ((swap : Swap) (addr : ℕ) → byte_of pages swap addr ≡ 0)
    → Becomes (HaveBytes (λ byte. file_byte bytes []) pages pages) held held
bytes_first bytes pages held zeros = bytes_same (λ byte. file_byte bytes []) pages pages held (λ swap i addr. (zeros swap addr ∙ sym (file_byte-nil bytes addr)) i)

-- and after one more they are the file's
pub bytes_next : (bytes : List ℕ) (len : ℕ) (xs : List Segment) (i : ℕ) (d : Segment) (old between new : PagesValue) (held middle after : Option Held) → i < length xs → All (IsSegment len) xs → AreAscending xs
    → Becomes (HaveBytes (λ byte. file_byte bytes (take i xs)) old between) held middle → Becomes (HaveBytes (with_bytes bytes (get_or xs i d)) between new) middle after
    → Becomes (HaveBytes (λ byte. file_byte bytes (take (i + 1) xs)) old new) held after
bytes_next bytes len xs i d old between new held middle after lt each ascending a b =
    bytes_as (λ byte. with_bytes bytes (get_or xs i d) (file_byte bytes (take i xs))) (λ byte. file_byte bytes (take (i + 1) xs)) old new held after
    (λ byte addr. bytes_more bytes len xs i d (file_byte bytes (take i xs)) addr lt each ascending refl)
    (bytes_both (λ byte. file_byte bytes (take i xs)) (with_bytes bytes (get_or xs i d)) old between new held middle after a b)

-- the stack's pages are mapped and filled
pub stack_bytes : (old mapped filled : PagesValue) (held after : Option Held) (from : ℕ) (start : List ℕ) → from ≡ stack_top - length start
    → AreChanged (Map (record { 0 = 3 }) false) (is_in stack_first stack_end) old mapped → Becomes (HaveBytes (λ byte. written byte from start) mapped filled) held after
    → Becomes (HaveBytes (λ byte. written (with_zeros stack_first stack_end byte) (stack_top - length start) start) old filled) held after
stack_bytes old mapped filled held after from start from_is one written_is =
    let zeros : Becomes (HaveBytes (with_zeros stack_first stack_end) old mapped) held held =
    bytes_same (with_zeros stack_first stack_end) old mapped held (λ swap i addr. mapped_bytes (record { 0 = 3 }) false stack_first stack_end old mapped one swap addr i) in
    bytes_as (λ byte. written (with_zeros stack_first stack_end byte) from start) (λ byte. written (with_zeros stack_first stack_end byte) (stack_top - length start) start) old filled held after
    (λ byte addr. ap (λ (n : ℕ). written (with_zeros stack_first stack_end byte) n start addr) from_is)
    (bytes_both (with_zeros stack_first stack_end) (λ byte. written byte from start) old mapped filled held held after zeros written_is)

-- ---- the first memory
-- no segment has a byte on the stack's pages
stack_zeros : (bytes : List ℕ) (len : ℕ) (xs : List Segment) (addr : ℕ) (byte : ℕ) → All (IsSegment len) xs → byte ≡ file_byte bytes xs addr
    → cond (is_in stack_first stack_end (addr / page_size)) 0 byte ≡ file_byte bytes xs addr
stack_zeros bytes len xs addr byte each e = ⊎_elim
    (λ (low : addr / page_size < stack_first). rw (below_write stack_first (addr / page_size) stack_end low) e)
    (λ (high : stack_first ≤ addr / page_size).
    let below : All (λ (x : Segment). end_page x ≤ stack_first) xs = All-weaker (IsSegment len) (λ (x : Segment). end_page x ≤ stack_first) (λ x is. let up = is.high in omega arith) xs each in
    let none = file_byte-none bytes len stack_first xs addr each below high in
    zero_both (is_in stack_first stack_end (addr / page_size)) (e ∙ none) ∙ sym none)
    (cases_lt (addr / page_size) stack_first)
  where
    zero_both : (b : Bool) → byte ≡ 0 → cond b 0 byte ≡ 0
    zero_both true h = refl
    zero_both false h = h

pub first_memory-is : (pages : PagesValue) (swap : Swap) (regions : List Region) (program : Program) (bytes : List ℕ) (image : Image) (start : List ℕ) (len : ℕ) (before : ℕ → ℕ)
    → ArePartsOf program bytes image start → All (IsSegment len) image.segments.items → regions ≡ first_regions image → FitPages pages regions
    → ((addr : ℕ) → before addr ≡ file_byte bytes image.segments.items addr)
    → byte_of pages swap ≡ written (with_zeros stack_first stack_end before) (stack_top - length start) start → memory_of pages swap ≡ first_memory program
unfolding memory_of first_memory
first_memory-is pages swap regions program bytes image start len before are each regions_are fit segments byte = λ i. record {
  perms = λ page. perms page i;
  byte = λ addr. (ap (λ (f : ℕ → ℕ). f addr) byte ∙ bytes_are addr ∙ program_bytes addr) i;
}
  where
    perms : (page : ℕ) → perms_in (table_of pages) page ≡ perms_of (nature_at (first_regions program.image) page)
    perms page = sym (fit.perms.perms_are page) ∙ ap (λ (rs : List Region). perms_of (nature_at rs page)) (regions_are ∙ ap first_regions are.image_is)

    bytes_are : (addr : ℕ) → written (with_zeros stack_first stack_end before) (stack_top - length start) start addr
        ≡ written (file_byte bytes image.segments.items) (stack_top - length start) start addr
    bytes_are addr =
        ap (cond (nat_le (stack_top - length start) addr && nat_lt addr (stack_top - length start + length start)) (get_or start (addr - (stack_top - length start)) 0))
        (stack_zeros bytes len image.segments.items addr (before addr) each (segments addr))

    size : length start ≡ stack_size program.args program.env
    size = ap length are.stack_is ∙ stack-length program.image program.args program.env program.seed

    program_bytes : (addr : ℕ) → written (file_byte bytes image.segments.items) (stack_top - length start) start addr ≡ (first_memory program).byte addr
    program_bytes addr =
        ap (λ (bs : List ℕ). written (file_byte bs image.segments.items) (stack_top - length start) start addr) are.bytes_are
        ∙ ap (λ (im : Image). written (file_byte program.bytes im.segments.items) (stack_top - length start) start addr) are.image_is
        ∙ ap (λ (n : ℕ). written (file_byte program.bytes program.image.segments.items) (stack_top - n) start addr) size
        ∙ ap (λ (st : List ℕ). written (file_byte program.bytes program.image.segments.items) (stack_pointer program.args program.env) st addr) are.stack_is

-- segments and stack are loaded one after the other
pub loaded_memory : (blank filled pages : PagesValue) (before middle after : Option Held) (told : Held) (regions : List Region) (program : Program) (bytes : List ℕ) (image : Image) (start : List ℕ)
    (xs : List Segment) (len : ℕ) → ArePartsOf program bytes image start → All (IsSegment len) image.segments.items → xs ≡ image.segments.items → regions ≡ first_regions image → FitPages pages regions
    → Becomes (HaveBytes (λ byte. file_byte bytes xs) blank filled) before middle
    → Becomes (HaveBytes (λ byte. written (with_zeros stack_first stack_end byte) (stack_top - length start) start) filled pages) middle after
    → after ≡ Some told → memory_of pages told.page ≡ first_memory program
loaded_memory blank filled pages before middle after told regions program bytes image start xs len are each xs_are regions_are fit segments stack told_is =
    let put = λ (byte : ℕ → ℕ). written (with_zeros stack_first stack_end byte) (stack_top - length start) start in
    let is = bytes_told (λ byte. put (file_byte bytes xs)) blank pages before after told
    (bytes_both (λ byte. file_byte bytes xs) put blank filled pages before middle after segments stack) told_is in
    first_memory-is pages told.page regions program bytes image start len (file_byte bytes xs) are each regions_are fit
    (λ addr. ap (λ (ys : List Segment). file_byte bytes ys addr) xs_are) is.1

-- regions with an empty heap, part by part
pub regions_value : (value : RegionsValue) (regions : List Region) (heap : ℕ) → value.regions ≡ regions → value.heap ≡ heap → value.at ≡ heap
    → value ≡ record { regions = regions; heap = heap; at = heap }
regions_value value regions heap e f g = λ i. record { regions = e i; heap = f i; at = g i }
