-- Lists of regions: joined from the front and from the end.
use Rattle.std.proofs.Common.{◌≡◌, ◌≢◌, ℕ, ◌+◌, ◌≤◌, ◌<◌, ◌==◌, Bool, true, false, cond, ◌&&◌, List, [], ◌∷◌, ◌++◌, length, refl, sym, ◌∙◌, ap, arith, add_assoc, append_assoc, map, None, Result, Ok, Err, OnOk, OnErr}
use Rattle.std.proofs.lemmas.Bool.Decides.{Decides-eqb}
use Rattle.std.proofs.lemmas.List.{map-append}
use Rattle.std.specs.Bool.{beq}
use Rattle.std.specs.Cmp.{booleans_Decides}
use Rattle.machine_state.specs.declared.kinds.Region.{Region}
use Rattle.machine_state.specs.Regions.{Nature, nature_of, end_of}
use Rattle.region_map.specs.Ranges.{same_nature, touches, joined, merged, part, parts}
use Rattle.region_map.specs.Lists.{appended, appended_all, given}

abbrev with_next : Region → Region → Region
with_next region next = record region { count = region.count + next.count }

both : (a b : Bool) → (a && b) ≡ true → (a ≡ true) × (b ≡ true)
both true true e = (refl, refl)
both true false e = cc
both false b e = cc

pub nature_same : (one other : Nature) → same_nature one other ≡ true → one ≡ other
nature_same one other e =
    let parts = both (one.perms == other.perms) (beq one.file other.file) e in
    let perms : one.perms ≡ other.perms = (Decides-eqb one.perms other.perms).0 parts.0 in
    let file : one.file ≡ other.file = (booleans_Decides one.file other.file).0 parts.1 in
    rw (perms, file) refl

pub same_refl : (nature : Nature) → same_nature nature nature ≡ true
same_refl nature = rw ((Decides-eqb nature.perms nature.perms).1 refl, (booleans_Decides nature.file nature.file).1 refl) refl

pub touch_is : (region next : Region) → touches region next ≡ true → (end_of region ≡ next.first) × (nature_of region ≡ nature_of next)
touch_is region next e =
    let parts = both (end_of region == next.first) (same_nature (nature_of region) (nature_of next)) e in
    ((Decides-eqb (end_of region) next.first).0 parts.0, nature_same (nature_of region) (nature_of next) parts.1)

abbrev touch_test : (ends first : ℕ) (one other : Nature) → Bool
touch_test ends first one other = (ends == first) && same_nature one other

touch_all : (ends : ℕ) (nature : Nature) → touch_test ends ends nature nature ≡ true
touch_all ends nature = rw ((Decides-eqb ends ends).1 refl) (same_refl nature)

pub touch_not : (region next : Region) → touches region next ≡ false → end_of region ≡ next.first → nature_of region ≢ nature_of next
touch_not region next e ends same =
    let here : touches region next ≡ true =
    ap (λ (n : ℕ). touch_test n next.first (nature_of region) (nature_of next)) ends
    ∙ ap (λ (n : Nature). touch_test next.first next.first n (nature_of next)) same
    ∙ touch_all next.first (nature_of next) in
    cc

-- whether a region touches the next depends on its end and its nature
touch_end : (one other next : Region) → end_of one ≡ end_of other → nature_of one ≡ nature_of other → touches one next ≡ touches other next
touch_end one other next ends same =
    ap (λ (n : ℕ). touch_test n next.first (nature_of one) (nature_of next)) ends
    ∙ ap (λ (n : Nature). touch_test (end_of other) next.first n (nature_of next)) same

-- a region behind the last of some
pub appended_last : (xs : List Region) (last next : Region) → appended (xs ++ last ∷ []) next ≡ xs ++ joined last (next ∷ [])
appended_last [] last next = refl
appended_last (x ∷ []) last next = refl
appended_last (x ∷ (y ∷ ys)) last next = ap (λ (zs : List Region). x ∷ zs) (appended_last (y ∷ ys) last next)

joined_appended : (x : Region) (ys : List Region) (r : Region) → appended (joined x ys) r ≡ joined x (appended ys r)
joined_appended x [] r = refl
joined_appended x (y ∷ (z ∷ zs)) r = here (touches x y)
  where
    here : (b : Bool) → appended (cond b (with_next x y ∷ z ∷ zs) (x ∷ y ∷ z ∷ zs)) r ≡ cond b (with_next x y ∷ appended (z ∷ zs) r) (x ∷ y ∷ appended (z ∷ zs) r)
    here true = refl
    here false = refl
joined_appended x (y ∷ []) r = here (touches x y) (touches y r) refl refl
  where
    here : (b c : Bool) → touches x y ≡ b → touches y r ≡ c → appended (joined x (y ∷ [])) r ≡ joined x (joined y (r ∷ []))
    here true true e f =
        let is = touch_is x y e in
        let ends : end_of (with_next x y) ≡ end_of y = omega (arith, is.0) in
        let next : touches (with_next x y) r ≡ true = touch_end (with_next x y) y r ends is.1 ∙ f in
        let left : appended (joined x (y ∷ [])) r ≡ record x { count = (x.count + y.count) + r.count } ∷ [] = rw e (rw next refl) in
        let right : joined x (joined y (r ∷ [])) ≡ record x { count = x.count + (y.count + r.count) } ∷ [] = rw f (rw e refl) in
        left ∙ ap (λ (n : ℕ). record x { count = n } ∷ []) (add_assoc x.count y.count r.count) ∙ sym right
    here true false e f =
        let is = touch_is x y e in
        let ends : end_of (with_next x y) ≡ end_of y = omega (arith, is.0) in
        let next : touches (with_next x y) r ≡ false = touch_end (with_next x y) y r ends is.1 ∙ f in
        let left : appended (joined x (y ∷ [])) r ≡ with_next x y ∷ r ∷ [] = rw e (rw next refl) in
        let right : joined x (joined y (r ∷ [])) ≡ with_next x y ∷ r ∷ [] = rw f (rw e refl) in
        left ∙ sym right
    here false true e f =
        let left : appended (joined x (y ∷ [])) r ≡ x ∷ with_next y r ∷ [] = rw e (rw f refl) in
        let right : joined x (joined y (r ∷ [])) ≡ x ∷ with_next y r ∷ [] = rw f (rw e refl) in
        left ∙ sym right
    here false false e f =
        let left : appended (joined x (y ∷ [])) r ≡ x ∷ y ∷ r ∷ [] = rw e (rw f refl) in
        let right : joined x (joined y (r ∷ [])) ≡ x ∷ y ∷ r ∷ [] = rw f (rw e refl) in
        left ∙ sym right

pub appended_merged : (xs : List Region) (r : Region) → appended (merged xs) r ≡ merged (xs ++ r ∷ [])
appended_merged [] r = refl
appended_merged (x ∷ xs) r = joined_appended x (merged xs) r ∙ ap (joined x) (appended_merged xs r)

-- regions put behind others one by one
pub appended_parts : (xs ys : List Region) → appended_all (merged xs) ys ≡ merged (xs ++ ys)
appended_parts xs [] = ap merged (sym (append_nil xs))
  where
    append_nil : (zs : List Region) → zs ++ [] ≡ zs
    append_nil [] = refl
    append_nil (z ∷ zs) = ap (λ (ws : List Region). z ∷ ws) (append_nil zs)
appended_parts xs (y ∷ ys) =
    ap (λ (zs : List Region). appended_all zs ys) (appended_merged xs y) ∙ appended_parts (xs ++ y ∷ []) ys ∙ ap merged (append_assoc xs (y ∷ []) ys)

pub appended_both : (done xs ys : List Region) → appended_all done (xs ++ ys) ≡ appended_all (appended_all done xs) ys
appended_both done [] ys = refl
appended_both done (x ∷ xs) ys = appended_both (appended done x) xs ys

-- none gets lost
pub appended_longer : (xs : List Region) (r : Region) → length xs ≤ length (appended xs r)
appended_longer [] r = omega arith
appended_longer (x ∷ []) r = here (touches x r)
  where
    here : (b : Bool) → 1 ≤ length (cond b (with_next x r ∷ []) (x ∷ r ∷ []))
    here true = omega arith
    here false = omega arith
appended_longer (x ∷ (y ∷ ys)) r = let rest = appended_longer (y ∷ ys) r in omega arith

pub all_longer : (done xs : List Region) → length done ≤ length (appended_all done xs)
all_longer done [] = omega arith
all_longer done (x ∷ xs) =
    let one = appended_longer done x in
    let rest = all_longer (appended done x) xs in
    omega arith

-- a part of them is no longer than all
pub parts_longer : (done : List Region) (f : Region → Region) (from to : ℕ) (x : Region) (rest : List Region)
    → length (appended_all done (map f (part from to x))) ≤ length (appended_all done (map f (parts from to (x ∷ rest))))
parts_longer done f from to x rest =
    let e : appended_all done (map f (parts from to (x ∷ rest))) ≡ appended_all (appended_all done (map f (part from to x))) (map f (parts from to rest)) =
    ap (appended_all done) (map-append f (part from to x) (parts from to rest)) ∙ appended_both done (map f (part from to x)) (map f (parts from to rest)) in
    rw e (all_longer (appended_all done (map f (part from to x))) (map f (parts from to rest)))

map_same : (xs : List Region) → map (given None) xs ≡ xs
map_same [] = refl
map_same (x ∷ xs) = ap (λ (ys : List Region). x ∷ ys) (map_same xs)

-- three lists put behind none
pub appended_three : (one two three : List Region) (after_one after_two after_three : List Region) → after_one ≡ appended_all [] (map (given None) one)
    → after_two ≡ appended_all after_one two → after_three ≡ appended_all after_two (map (given None) three) → after_three ≡ merged (one ++ two ++ three)
appended_three one two three after_one after_two after_three e f g =
    let first : after_one ≡ merged one = e ∙ ap (appended_all []) (map_same one) ∙ appended_parts [] one in
    let second : after_two ≡ merged (one ++ two) = f ∙ ap (λ (xs : List Region). appended_all xs two) first ∙ appended_parts one two in
    g ∙ ap (appended_all after_two) (map_same three) ∙ ap (λ (xs : List Region). appended_all xs three) second ∙ appended_parts (one ++ two) three

-- what is too long at first is too long at the end
pub longer_two : (one two three : List Region) (after_one : List Region) (most : ℕ) → after_one ≡ appended_all [] (map (given None) one)
    → most < length (appended_all after_one two) → most < length (merged (one ++ two ++ three))
longer_two one two three after_one most e long =
    let after_two = appended_all after_one two in
    let same : appended_all after_two (map (given None) three) ≡ merged (one ++ two ++ three) = appended_three one two three after_one after_two _ e refl refl in
    let more = all_longer after_two (map (given None) three) in
    rw (← same) (omega arith)

pub longer_one : (one two three : List Region) (most : ℕ) → most < length (appended_all [] (map (given None) one)) → most < length (merged (one ++ two ++ three))
longer_one one two three most long =
    let after_one = appended_all [] (map (given None) one) in
    let more = all_longer after_one two in
    longer_two one two three after_one most refl (omega arith)

pub on_err : {A E : Type 0} (P : Type 0) (r : Result A E) → P → OnErr r P
on_err P (Ok x) p = tt
on_err P (Err e) p = p

pub on_ok : {A E : Type 0} (P : Type 0) (r : Result A E) → P → OnOk r P
on_ok P (Ok x) p = p
on_ok P (Err e) p = tt
