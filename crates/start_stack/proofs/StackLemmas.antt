-- Texts and addresses one after the other.
use Rattle.std.proofs.Common.{◌≡◌, ℕ, zero, suc, ◌+◌, ◌-◌, ◌*◌, ◌<◌, ◌≤◌, List, [], ◌∷◌, ◌++◌, length, get_or, take, map, replicate, refl, sym, ◌∙◌, ap, subst, arith, add-one, append_assoc, length-append, String, Global, string_bytes}
use Rattle.std.specs.List.{flat_map, take-map}
use Rattle.std.proofs.lemmas.List.{take_more, map-append, append-nil, length-replicate, flat_map_more, get_or-map}
use Rattle.std.proofs.lemmas.List.Concat.{flat_map-append}
use Rattle.std.proofs.lemmas.List.Sums.{sum_by_push, sum_by-cons, sum_by-take-le}
use Rattle.byteorder.specs.Endian.{little_bytes}
use Rattle.machine_state.specs.Random.{next_random}
use Rattle.elf_image.specs.declared.kinds.Image.{Image}
use Rattle.start_stack.specs.declared.kinds.Places.{Places}
use Rattle.start_stack.specs.Stack.{with_zero, text_size, addresses, strings, strings_size, path_of, platform, random_bytes, vector, vector_size, auxiliary_vector, places_of, args_at, env_at, pair_of, stack, stack_size, used_size}

-- one text more
pub texts-more : (texts : List (String Global)) (i : ℕ) (d : String Global) → i < length texts
    → map string_bytes (take (i + 1) texts) ≡ map string_bytes (take i texts) ++ string_bytes (get_or texts i d) ∷ []
texts-more texts i d h = ap (map string_bytes) (take_more texts i d h) ∙ map-append string_bytes (take i texts) (get_or texts i d ∷ [])

pub size-more : (texts : List (String Global)) (i : ℕ) (d : String Global) → i < length texts
    → text_size (map string_bytes (take (i + 1) texts)) ≡ text_size (map string_bytes (take i texts)) + (length (string_bytes (get_or texts i d)) + 1)
size-more texts i d h =
    ap text_size (texts-more texts i d h) ∙ sum_by_push (λ (text : List ℕ). length text + 1) (map string_bytes (take i texts)) (string_bytes (get_or texts i d))

-- the addresses with one text more
pub addresses-push : (at : ℕ) (xs : List (List ℕ)) (x : List ℕ) → addresses at (xs ++ x ∷ []) ≡ addresses at xs ++ (at + text_size xs) ∷ []
unfolding addresses
addresses-push at [] x = ap (λ (n : ℕ). n ∷ []) (omega arith)
addresses-push at (y ∷ ys) x =
    let e : at + (length y + 1) + text_size ys ≡ at + text_size (y ∷ ys) = omega (arith, sum_by-cons (λ (text : List ℕ). length text + 1) y ys) in
    ap (λ (zs : List ℕ). at ∷ zs) (addresses-push (at + (length y + 1)) ys x ∙ ap (λ (n : ℕ). addresses (at + (length y + 1)) ys ++ n ∷ []) e)

-- how long the parts are
words-length : (xs : List ℕ) → length (flat_map (little_bytes 8) xs) ≡ 8 * length xs
words-length [] = refl
words-length (x ∷ xs) = omega (arith, length-append (little_bytes 8 x) (flat_map (little_bytes 8) xs), words-length xs)

addresses-length : (at : ℕ) (xs : List (List ℕ)) → length (addresses at xs) ≡ length xs
unfolding addresses
addresses-length at [] = refl
addresses-length at (x ∷ xs) = omega (arith, addresses-length (at + (length x + 1)) xs)

texts-length : (xs : List (List ℕ)) → length (flat_map with_zero xs) ≡ text_size xs
texts-length [] = refl
texts-length (x ∷ xs) =
    omega (arith, length-append (with_zero x) (flat_map with_zero xs), length-append x (0 ∷ []), texts-length xs, sum_by-cons (λ (text : List ℕ). length text + 1) x xs)

pub strings-length : (args env : List (List ℕ)) (seed : ℕ) → length (strings args env seed) ≡ strings_size args env
unfolding strings
strings-length args env seed =
    omega (
      arith,
      length-append (flat_map with_zero args ++ flat_map with_zero env ++ with_zero (path_of args) ++ with_zero platform) (random_bytes seed),
      length-append (flat_map with_zero args ++ flat_map with_zero env ++ with_zero (path_of args)) (with_zero platform),
      length-append (flat_map with_zero args ++ flat_map with_zero env) (with_zero (path_of args)),
      length-append (flat_map with_zero args) (flat_map with_zero env),
      length-append (path_of args) (0 ∷ []),
      texts-length args,
      texts-length env,
    )

pub vector-length : (image : Image) (args env : List (List ℕ)) → length (flat_map (little_bytes 8) (vector image args env)) ≡ vector_size args env
unfolding vector auxiliary_vector
vector-length image args env =
    let places = places_of args env in
    let last = flat_map pair_of (auxiliary_vector image places) in
    omega (
      arith,
      words-length (vector image args env),
      length-append (length args ∷ [] ++ addresses (args_at args env) args ++ 0 ∷ [] ++ addresses (env_at args env) env ++ 0 ∷ []) last,
      length-append (length args ∷ [] ++ addresses (args_at args env) args ++ 0 ∷ [] ++ addresses (env_at args env) env) (0 ∷ []),
      length-append (length args ∷ [] ++ addresses (args_at args env) args ++ 0 ∷ []) (addresses (env_at args env) env),
      length-append (length args ∷ [] ++ addresses (args_at args env) args) (0 ∷ []),
      length-append (length args ∷ []) (addresses (args_at args env) args),
      addresses-length (args_at args env) args,
      addresses-length (env_at args env) env,
    )

pub stack-length : (image : Image) (args env : List (List ℕ)) (seed : ℕ) → length (stack image args env seed) ≡ stack_size args env
unfolding stack stack_size
stack-length image args env seed =
    let front = flat_map (little_bytes 8) (vector image args env) in
    let between : List ℕ = replicate (stack_size args env - used_size args env) 0 in
    omega (
      arith,
      length-append (front ++ between ++ strings args env seed) (replicate {A = ℕ} 8 0),
      length-append (front ++ between) (strings args env seed),
      length-append front between,
      length-replicate {A = ℕ} (stack_size args env - used_size args env) 0,
      vector-length image args env,
      strings-length args env seed,
    )

-- lists that are appended part by part
pub numbers-parts : (f : ℕ → List ℕ) (first last : ℕ) (xs ys zs old : List ℕ)
    → (((((old ++ f first) ++ flat_map f xs) ++ f last) ++ flat_map f ys) ++ f last) ++ flat_map f zs
    ≡ old ++ flat_map f (first ∷ [] ++ xs ++ last ∷ [] ++ ys ++ last ∷ [] ++ zs)
numbers-parts f first last xs ys zs old = simp (flat_map-append, append_assoc, append-nil)

pub lists-parts : (old a b c d e f : List ℕ) → (((((old ++ a) ++ b) ++ c) ++ d) ++ e) ++ f ≡ old ++ (a ++ b ++ c ++ d ++ (e ++ f))
lists-parts old a b c d e f = simp append_assoc

-- one zero more
zeros-push : (n : ℕ) → replicate {A = ℕ} (suc n) 0 ≡ replicate n 0 ++ 0 ∷ []
zeros-push zero = refl
zeros-push (suc n) = ap (λ (xs : List ℕ). 0 ∷ xs) (zeros-push n)

pub zeros-more : (n : ℕ) → replicate {A = ℕ} (n + 1) 0 ≡ replicate n 0 ++ 0 ∷ []
zeros-more n = rw add-one (zeros-push n)

-- the texts so far are no longer than all of them
pub size-within : (texts : List (String Global)) (n : ℕ) → text_size (map string_bytes (take n texts)) ≤ text_size (map string_bytes texts)
size-within texts n =
    subst (λ (xs : List (List ℕ)). text_size xs ≤ text_size (map string_bytes texts)) (take-map string_bytes n texts)
    (sum_by-take-le (λ (text : List ℕ). length text + 1) (map string_bytes texts) n)

-- the addresses of no text, and of one text more
pub addresses-none : (old : List ℕ) (at : ℕ) → old ≡ old ++ flat_map (little_bytes 8) (addresses at [])
unfolding addresses
addresses-none old at = sym (append-nil old)

pub addresses-more : (old : List ℕ) (at next : ℕ) (texts : List (String Global)) (i : ℕ) (d : String Global) → i < length texts
    → next ≡ at + text_size (map string_bytes (take i texts))
    → (old ++ flat_map (little_bytes 8) (addresses at (map string_bytes (take i texts)))) ++ little_bytes 8 next
    ≡ old ++ flat_map (little_bytes 8) (addresses at (map string_bytes (take (i + 1) texts)))
addresses-more old at next texts i d h e =
    let xs : List (List ℕ) = map string_bytes (take i texts) in
    ap (λ (n : ℕ). (old ++ flat_map (little_bytes 8) (addresses at xs)) ++ little_bytes 8 n) e
    ∙ flat_map_more (little_bytes 8) old (addresses at xs) (at + text_size xs)
    ∙ ap (λ (zs : List ℕ). old ++ flat_map (little_bytes 8) zs)
    (sym (ap (addresses at) (texts-more texts i d h) ∙ addresses-push at xs (string_bytes (get_or texts i d))))

-- the vector, the strings and the stack, part by part
pub vector-parts : (image : Image) (args env : List (List ℕ)) (places : Places) (first : ℕ) (old : List ℕ)
    → places ≡ places_of args env → first ≡ length args
    → (((((old ++ little_bytes 8 first) ++ flat_map (little_bytes 8) (addresses places.args args)) ++ little_bytes 8 0)
    ++ flat_map (little_bytes 8) (addresses places.env env)) ++ little_bytes 8 0)
    ++ flat_map (little_bytes 8) (flat_map pair_of (auxiliary_vector image places))
    ≡ old ++ flat_map (little_bytes 8) (vector image args env)
unfolding vector
vector-parts image args env places first old p f =
    rw (p, f)
    (numbers-parts (little_bytes 8) (length args) 0 (addresses (args_at args env) args) (addresses (env_at args env) env)
    (flat_map pair_of (auxiliary_vector image (places_of args env))) old)

pub strings-parts : (args env : List (List ℕ)) (seed : ℕ) (path : List ℕ) (first second : ℕ) (old : List ℕ)
    → path ≡ path_of args → first ≡ next_random seed → second ≡ next_random first
    → (((((old ++ flat_map with_zero args) ++ flat_map with_zero env) ++ with_zero path) ++ with_zero platform) ++ little_bytes 8 first)
    ++ little_bytes 8 second
    ≡ old ++ strings args env seed
unfolding strings
strings-parts args env seed path first second old p f s =
    rw (p, s, f)
    (lists-parts old (flat_map with_zero args) (flat_map with_zero env) (with_zero (path_of args)) (with_zero platform)
    (little_bytes 8 (next_random seed)) (little_bytes 8 (next_random (next_random seed))))

pub stack-parts : (image : Image) (args env : List (List ℕ)) (seed between : ℕ) (old : List ℕ) → old ≡ []
    → between ≡ stack_size args env - used_size args env
    → (((old ++ flat_map (little_bytes 8) (vector image args env)) ++ replicate between 0) ++ strings args env seed) ++ replicate 8 0
    ≡ stack image args env seed
unfolding stack
stack-parts image args env seed between old o b = rw (o, b) refl

-- the first argument is the path
pub path-is : (args : List (String Global)) (d : String Global) → 0 < length args → string_bytes (get_or args 0 d) ≡ path_of (map string_bytes args)
path-is args d h = sym (get_or-map string_bytes args 0 d [] h)
