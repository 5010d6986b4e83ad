-- What storing a file and putting a page do to what a host in memory tells.
use Rattle.std.proofs.Common.{◌≡◌, ◌≢◌, ℕ, ◌+◌, ◌*◌, ◌≤◌, ◌<◌, ◌⊎◌, inl, inr, true, false, cond, List, [], ◌∷◌, length, take, Option, Some, refl, ap, subst, sym, ◌∙◌, arith}
use Rattle.std.proofs.lemmas.Slice.Eq.{bytes_eq-Decides}
use Rattle.std.specs.Str.{bytes_eq}
use Rattle.host_edge.proofs.ByteLemmas.{read_above, read_below, read_written}
use Rattle.host_edge.specs.Files.{Becomes, Held, page_len, PutsPage, Stores}
use Rattle.host_edge.specs.MemHost.{page_in, with_page}
use Rattle.host_edge.specs.NamedFiles.{NamedFile, file_in, stored, without}

-- a file of another path is found as before once one is taken away
file_in-without : (files : List NamedFile) (path other : List ℕ) → other ≢ path →
    file_in (without path files) other ≡ file_in files other
file_in-without [] path other differs = refl
file_in-without (file ∷ files) path other differs =
    let before = file_in-without files path other differs in
    elim (bytes_eq file.path path) as (λ b. bytes_eq file.path path ≡ b
    → file_in (cond b files (file ∷ without path files)) other ≡ cond (bytes_eq file.path other) (Some file.bytes) (file_in files other)) [
      | true ↦ (λ same.
          let here : file.path ≡ path = (bytes_eq-Decides file.path path).0 same in
          elim (bytes_eq file.path other) as (λ b. bytes_eq file.path other ≡ b
          → file_in files other ≡ cond b (Some file.bytes) (file_in files other)) [
            | true ↦ (λ found. absurd (differs (sym ((bytes_eq-Decides file.path other).0 found) ∙ here)))
            | false ↦ (λ _. refl)
          ] refl)
      | false ↦ (λ _. ap (cond (bytes_eq file.path other) (Some file.bytes)) before)
    ] refl

-- the file is found once it is stored
file_in-stored : (files : List NamedFile) (path bytes : List ℕ) → file_in (stored files path bytes) path ≡ Some bytes
file_in-stored files path bytes = rw ((bytes_eq-Decides path path).1 refl) refl

-- every other file is found as before
file_in-stored_other : (files : List NamedFile) (path bytes other : List ℕ) → other ≢ path →
    file_in (stored files path bytes) other ≡ file_in files other
file_in-stored_other files path bytes other differs =
    elim (bytes_eq path other) as (λ b. bytes_eq path other ≡ b
    → cond b (Some bytes) (file_in (without path files) other) ≡ file_in files other) [
      | true ↦ (λ found. absurd (differs (sym ((bytes_eq-Decides path other).0 found))))
      | false ↦ (λ _. file_in-without files path other differs)
    ] refl

-- what relates two told contents relates what was told
pub becomes_told : (Related : Held → Held → Type 0) (old new : Held) → Related old new → Becomes Related (Some old) (Some new)
becomes_told Related old new related = record {
  tells = refl;
  related = λ held is. (new, refl, subst (λ h. Related h new) (cc) related);
}

-- a store makes the file hold the bytes and leaves the others
pub stores_file : (files : List NamedFile) (page : ℕ → List ℕ) (path bytes : List ℕ) →
    Stores path bytes (record { file = file_in files; page = page }) (record { file = file_in (stored files path bytes); page = page })
stores_file files page path bytes = record {
  stored = file_in-stored files path bytes;
  others = record {
    files = λ other differs. file_in-stored_other files path bytes other differs;
    pages = refl;
  };
}

-- two numbers that differ are in order
in_order : (a b : ℕ) → a ≢ b → (a < b) ⊎ (b < a)
in_order a b differ = grind arith

-- another page than the one that is put is as before
page_in-with_page_other : (swap : List ℕ) (page : ℕ) (bytes : List ℕ) (other : ℕ) →
    length bytes ≡ page_len → page * page_len + page_len ≤ length swap → other ≢ page →
    page_in (with_page swap page bytes) other ≡ page_in swap other
page_in-with_page_other swap page bytes other is_page within differs =
    elim (in_order other page differs) as (λ _. page_in (with_page swap page bytes) other ≡ page_in swap other) [
      | inl below ↦ read_below swap bytes (page * page_len) (other * page_len) page_len (omega arith) (omega arith)
      | inr above ↦ ap (take page_len) (read_above swap bytes (page * page_len) (other * page_len) (omega arith) (omega arith))
    ]

-- a put makes the page the bytes and leaves the others
pub puts_page : (file : List ℕ → Option (List ℕ)) (swap : List ℕ) (page : ℕ) (bytes : List ℕ) →
    length bytes ≡ page_len → page * page_len + page_len ≤ length swap →
    PutsPage page bytes (record { file = file; page = page_in swap }) (record { file = file; page = page_in (with_page swap page bytes) })
puts_page file swap page bytes is_page within = record {
  is_put = read_written swap bytes (page * page_len) page_len is_page within;
  others = record {
    files = refl;
    pages = λ other differs. page_in-with_page_other swap page bytes other is_page within differs;
  };
}

-- a page that is told is the page
pub page_told : (file : List ℕ → Option (List ℕ)) (page : ℕ → List ℕ) (held : Held) (at : ℕ) →
    Some (record { file = file; page = page }) ≡ Some held → page at ≡ held.page at
page_told file page held at is =
    let whole : Held = record { file = file; page = page } in
    let same : whole ≡ held = cc in
    ap (λ h. h.page at) same
