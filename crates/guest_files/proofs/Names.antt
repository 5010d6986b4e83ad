-- The file with a name, by its first place.
use Rattle.std.proofs.Common.{◌≡◌, ◌≢◌, ℕ, ◌<◌, Bool, true, false, List, length, get_or, map, Some, None, ap, sym, ◌∙◌, arith}
use Rattle.std.proofs.lemmas.List.{get_or-map, get_or_default}
use Rattle.std.proofs.lemmas.List.Sums.{position_or_len_is}
use Rattle.std.specs.List.{AllPairs, position_or_len}
use Rattle.std.specs.Prelude.{string_bytes}
use Rattle.std.specs.Str.{bytes_eq}
use Rattle.machine_state.specs.World.{GuestFile, no_file}
use Rattle.guest_files.specs.Entries.{guest_file}
use Rattle.guest_files.specs.Open.{number_of}
use Rattle.guest_files.specs.declared.entries.Entry.{Entry}

-- the first file that has the name is found
pub found : (files : List GuestFile) (name : List ℕ) (number : ℕ) → number < length files →
    ((k : ℕ) → k < number → bytes_eq (get_or files k no_file).name name ≡ false) →
    bytes_eq (get_or files number no_file).name name ≡ true → Some number ≡ number_of files name
unfolding number_of
found files name number within before here =
    let at : position_or_len (λ file. bytes_eq file.name name) files ≡ number =
    position_or_len_is (λ file. bytes_eq file.name name) files number no_file (omega arith) before (λ _. here) in
    rw at (grind (arith, within))

-- none is where no file has it
pub missing : (files : List GuestFile) (name : List ℕ) →
    ((k : ℕ) → k < length files → bytes_eq (get_or files k no_file).name name ≡ false) → None ≡ number_of files name
unfolding number_of
missing files name none =
    let at : position_or_len (λ file. bytes_eq file.name name) files ≡ length files =
    position_or_len_is (λ file. bytes_eq file.name name) files (length files) no_file (omega arith) none (λ h. absurd (omega (arith, h))) in
    rw at (grind arith)

-- whether an entry has the name is whether its file has it
pub entry_named : (entries : List Entry) (number : ℕ) (entry : Entry) (name : List ℕ) (b : Bool) → number < length entries →
    entry ≡ get_or entries number entry → bytes_eq (string_bytes entry.name) name ≡ b →
    bytes_eq (get_or (map guest_file entries) number no_file).name name ≡ b
entry_named entries number entry name b within is named =
    let same : get_or (map guest_file entries) number no_file ≡ guest_file entry =
    get_or-map guest_file entries number entry no_file within ∙ ap guest_file (sym is) in
    ap (λ (file : GuestFile). bytes_eq file.name name) same ∙ named

-- where each name is found at its own file, the names are different
pub distinct_names : (files : List GuestFile) → ((k : ℕ) → k < length files → number_of files (get_or files k no_file).name ≡ Some k) →
    AllPairs (λ a b. a.name ≢ b.name) files
distinct_names files own = λ i j d below within same.
    let one : get_or files i d ≡ get_or files i no_file = get_or_default files i d no_file (omega arith) in
    let other : get_or files j d ≡ get_or files j no_file = get_or_default files j d no_file within in
    let name : (get_or files i no_file).name ≡ (get_or files j no_file).name =
    ap (λ (f : GuestFile). f.name) (sym one) ∙ (same ∙ ap (λ (f : GuestFile). f.name) other) in
    let equal : Some i ≡ Some j = sym (own i (omega arith)) ∙ (ap (number_of files) name ∙ own j within) in
    let numbers : i ≡ j = (cc) in
    omega (arith, numbers, below)
