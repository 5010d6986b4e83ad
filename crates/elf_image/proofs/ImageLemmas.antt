-- The image that is read.
use Rattle.std.proofs.Common.{◌≡◌, ℕ, ◌+◌, ◌*◌, ◌%◌, ◌^◌, ◌≤◌, Bool, true, false, cond, List, [], ◌∷◌, ◌++◌, length, All, Option, Some, None, Ok, Err, refl, ◌∙◌, ap, subst, arith, le_trans, mul-le-mul_left}
use Rattle.std.proofs.lemmas.Bool.{and_parts, leb-true, ltb-true}
use Rattle.std.proofs.lemmas.List.Elements.{All-nil, All-head, All-tail, All-cons, All-weaker}
use Rattle.arrayvec.specs.ArrayVec.{ArrayVec}
use Rattle.machine_state.specs.Memory.{page_size}
use Rattle.elf_image.specs.declared.kinds.Image.{Image}
use Rattle.elf_image.specs.declared.kinds.Segment.{Segment}
use Rattle.elf_image.specs.declared.kinds.ImageFault.{ImageFault}
use Rattle.elf_image.specs.Fields.{e_entry, e_phnum, header_place, file_header_size}
use Rattle.elf_image.specs.Segments.{base_of, first_page, end_page, page_behind, segments_of, headers_at, image_of, page_sum, stack_pages, longest_file, highest_address, EndsLow, IsSegment, AreAscending, IsImage}
use Rattle.elf_image.specs.Checks.{check, first_fault, identity_checks, file_checks, program_checks, has_room, checks, image_or, image_read}
use Rattle.elf_image.proofs.CheckLemmas.{fault-first, fault-next, fault-none, segments-are, segments-short}

-- a file that passes each part of the checks
pub passed-all : (bytes : List ℕ) (pages : ℕ) → first_fault (identity_checks bytes) ≡ None → first_fault (file_checks bytes) ≡ None
    → first_fault (program_checks bytes (e_phnum bytes)) ≡ None → has_room (segments_of bytes) pages ≡ true → first_fault (checks bytes pages) ≡ None
unfolding checks
passed-all bytes pages i f p r =
    let room = check 14 56 (has_room (segments_of bytes) pages) ∷ [] in
    fault-next ((identity_checks bytes ++ file_checks bytes) ++ program_checks bytes (e_phnum bytes)) room
    (fault-next (identity_checks bytes ++ file_checks bytes) (program_checks bytes (e_phnum bytes)) (fault-next (identity_checks bytes) (file_checks bytes) i ∙ f) ∙ p)
    ∙ ap (λ (b : Bool). cond b None (Some (record { number = 14; place = 56 }))) r

-- a file that is refused by one part
refused-front : (bytes : List ℕ) (pages : ℕ) (fault : ImageFault) → first_fault (identity_checks bytes ++ file_checks bytes) ≡ Some fault
    → first_fault (checks bytes pages) ≡ Some fault
unfolding checks
refused-front bytes pages fault e =
    fault-first ((identity_checks bytes ++ file_checks bytes) ++ program_checks bytes (e_phnum bytes)) (check 14 56 (has_room (segments_of bytes) pages) ∷ []) fault
    (fault-first (identity_checks bytes ++ file_checks bytes) (program_checks bytes (e_phnum bytes)) fault e)

pub refused-identity : (bytes : List ℕ) (pages : ℕ) (fault : ImageFault) → first_fault (identity_checks bytes) ≡ Some fault
    → first_fault (checks bytes pages) ≡ Some fault
refused-identity bytes pages fault i = refused-front bytes pages fault (fault-first (identity_checks bytes) (file_checks bytes) fault i)

pub refused-file : (bytes : List ℕ) (pages : ℕ) (fault : ImageFault) → first_fault (identity_checks bytes) ≡ None
    → first_fault (file_checks bytes) ≡ Some fault → first_fault (checks bytes pages) ≡ Some fault
refused-file bytes pages fault i f = refused-front bytes pages fault (fault-next (identity_checks bytes) (file_checks bytes) i ∙ f)

pub refused-program : (bytes : List ℕ) (pages : ℕ) (fault : ImageFault) → first_fault (identity_checks bytes) ≡ None
    → first_fault (file_checks bytes) ≡ None → first_fault (program_checks bytes (e_phnum bytes)) ≡ Some fault
    → first_fault (checks bytes pages) ≡ Some fault
unfolding checks
refused-program bytes pages fault i f p =
    fault-first ((identity_checks bytes ++ file_checks bytes) ++ program_checks bytes (e_phnum bytes)) (check 14 56 (has_room (segments_of bytes) pages) ∷ []) fault
    (fault-next (identity_checks bytes ++ file_checks bytes) (program_checks bytes (e_phnum bytes)) (fault-next (identity_checks bytes) (file_checks bytes) i ∙ f) ∙ p)

pub refused-room : (bytes : List ℕ) (pages : ℕ) → first_fault (identity_checks bytes) ≡ None
    → first_fault (file_checks bytes) ≡ None → first_fault (program_checks bytes (e_phnum bytes)) ≡ None
    → has_room (segments_of bytes) pages ≡ false → first_fault (checks bytes pages) ≡ Some (record { number = 14; place = 56 })
unfolding checks
refused-room bytes pages i f p r =
    let room = check 14 56 (has_room (segments_of bytes) pages) ∷ [] in
    fault-next ((identity_checks bytes ++ file_checks bytes) ++ program_checks bytes (e_phnum bytes)) room
    (fault-next (identity_checks bytes ++ file_checks bytes) (program_checks bytes (e_phnum bytes)) (fault-next (identity_checks bytes) (file_checks bytes) i ∙ f) ∙ p)
    ∙ ap (λ (b : Bool). cond b None (Some (record { number = 14; place = 56 }))) r

-- what the checks show
pub identity-shows : (bytes : List ℕ) → first_fault (identity_checks bytes) ≡ None → (file_header_size ≤ length bytes) × (length bytes ≤ longest_file)
unfolding identity_checks
identity-shows bytes e = grind arith

pub file-shows : (bytes : List ℕ) → first_fault (file_checks bytes) ≡ None → (e_phnum bytes ≤ 64) × (header_place bytes (e_phnum bytes) ≤ length bytes)
unfolding file_checks
file-shows bytes e = grind arith

pub record IsAccepted (bytes : List ℕ) (pages : ℕ) : Type 0 where
  pub len : file_header_size ≤ length bytes
  pub short : length bytes ≤ longest_file
  pub count : e_phnum bytes ≤ 64
  pub table : header_place bytes (e_phnum bytes) ≤ length bytes
  pub each : All (IsSegment (length bytes)) (segments_of bytes)
  pub ascending : AreAscending (segments_of bytes)
  pub room : has_room (segments_of bytes) pages ≡ true

if-none : (b : Bool) (fault : ImageFault) → cond b None (Some fault) ≡ None → b ≡ true
if-none true fault e = refl
if-none false fault e = cc

pub accepted : (bytes : List ℕ) (pages : ℕ) → first_fault (checks bytes pages) ≡ None → IsAccepted bytes pages
unfolding checks
accepted bytes pages e =
    let room = check 14 56 (has_room (segments_of bytes) pages) ∷ [] in
    let a = fault-none ((identity_checks bytes ++ file_checks bytes) ++ program_checks bytes (e_phnum bytes)) room e in
    let b = fault-none (identity_checks bytes ++ file_checks bytes) (program_checks bytes (e_phnum bytes)) a.0 in
    let c = fault-none (identity_checks bytes) (file_checks bytes) b.0 in
    let are = segments-are bytes (e_phnum bytes) b.1 in
    record {
      len = (identity-shows bytes c.0).0;
      short = (identity-shows bytes c.0).1;
      count = (file-shows bytes c.1).0;
      table = (file-shows bytes c.1).1;
      each = are.0;
      ascending = are.1;
      room = if-none (has_room (segments_of bytes) pages) (record { number = 14; place = 56 }) a.1;
    }

first-end : (s : Segment) → first_page s ≤ end_page s
first-end s = omega arith

-- the page behind the last of segments is behind each of them
pub behind-each : (xs : List Segment) → AreAscending xs → All (λ s. end_page s ≤ page_behind xs) xs
behind-each [] ascending = All-nil (λ (s : Segment). end_page s ≤ 0)
behind-each (x ∷ []) ascending =
    All-cons (λ (s : Segment). end_page s ≤ end_page x) x [] (omega arith) (All-nil (λ (s : Segment). end_page s ≤ end_page x))
behind-each (x ∷ (y ∷ ys)) ascending =
    let rest = behind-each (y ∷ ys) ascending.1 in
    let next : end_page y ≤ page_behind (y ∷ ys) = All-head (λ (s : Segment). end_page s ≤ page_behind (y ∷ ys)) y ys rest in
    let touch : end_page x ≤ first_page y = All-head (λ (s : Segment). end_page x ≤ first_page s) y ys ascending.0 in
    All-cons (λ (s : Segment). end_page s ≤ page_behind (y ∷ ys)) x (y ∷ ys) (le_trans touch (le_trans (first-end y) next)) rest

pub behind-low : (len : ℕ) (xs : List Segment) → All (IsSegment len) xs → page_size * page_behind xs ≤ highest_address
behind-low len [] each = omega arith
behind-low len (x ∷ []) each = (All-head (IsSegment len) x [] each).high
behind-low len (x ∷ (y ∷ ys)) each = behind-low len (y ∷ ys) (All-tail (IsSegment len) x (y ∷ ys) each)

whole-page : (n : ℕ) → (page_size * n) % page_size ≡ 0
whole-page n = omega arith

-- an accepted image
pub image-is : (bytes : List ℕ) (pages : ℕ) → first_fault (checks bytes pages) ≡ None → IsImage (length bytes) pages (image_of bytes)
unfolding image_of has_room
image-is bytes pages e =
    let all = accepted bytes pages e in
    let xs = segments_of bytes in
    let room = and_parts _ _ all.room in
    record {
      some = ltb-true 0 (length xs) room.0;
      most = le_trans (segments-short bytes (e_phnum bytes)) all.count;
      each = all.each;
      ascending = all.ascending;
      few = leb-true (page_sum xs + stack_pages) pages room.1;
      behind = All-weaker (λ (s : Segment). end_page s ≤ page_behind xs) (λ (s : Segment). page_size * end_page s ≤ page_size * page_behind xs)
          (λ s h. mul-le-mul_left page_size h) xs (behind-each xs all.ascending);
      heap = whole-page (page_behind xs);
      heap_high = behind-low (length bytes) xs all.each;
      short = all.short;
    }

-- the image, part by part
pub image-parts : (bytes : List ℕ) (entry phdr phnum heap : ℕ) (segments : ArrayVec Segment)
    → entry ≡ (e_entry bytes + base_of bytes) % 2 ^ 64 → phdr ≡ headers_at bytes (segments_of bytes) → phnum ≡ e_phnum bytes
    → heap ≡ page_size * page_behind (segments_of bytes) → segments.items ≡ segments_of bytes
    → image_of bytes ≡ record { entry = entry; phdr = phdr; phnum = phnum; heap = heap; segments = segments }
unfolding image_of
image-parts bytes entry phdr phnum heap segments a b c d e = rw (a, b, c, d, ← e) refl

pub read-is : (bytes : List ℕ) (pages : ℕ) → first_fault (checks bytes pages) ≡ None → image_read bytes pages ≡ Ok (image_of bytes)
unfolding image_read
read-is bytes pages e = ap (image_or bytes) e

pub read-refused : (bytes : List ℕ) (pages : ℕ) (fault : ImageFault) → first_fault (checks bytes pages) ≡ Some fault → image_read bytes pages ≡ Err fault
unfolding image_read
read-refused bytes pages fault e = ap (image_or bytes) e

-- segments of an accepted image end low
pub ends-low : (len : ℕ) (xs : List Segment) → All (IsSegment len) xs → All EndsLow xs
ends-low len xs each = All-weaker (IsSegment len) EndsLow (λ s is. (let high = is.high in omega arith)) xs each

-- what is read of a file is an accepted image
pub read-image : (bytes : List ℕ) (pages : ℕ) (image : Image) → image_read bytes pages ≡ Ok image → IsImage (length bytes) pages image
unfolding image_read
read-image bytes pages image e = here (first_fault (checks bytes pages)) refl e
  where
    here : (o : Option ImageFault) → first_fault (checks bytes pages) ≡ o → image_or bytes o ≡ Ok image → IsImage (length bytes) pages image
    here None none read = let same : image_of bytes ≡ image = cc in subst (IsImage (length bytes) pages) same (image-is bytes pages none)
    here (Some fault) some read = cc
