-- The checks behind the last word.
use Rattle.std.proofs.Common.{◌≡◌, ℕ, Bool, true, false, cond, ◌||◌, nat_le, List, [], ◌∷◌, ◌++◌, Option, Some, None, is_some, refl, sym, ◌∙◌, ap}
use Rattle.command_words.specs.declared.kinds.Given.{Given}
use Rattle.command_words.specs.declared.kinds.WordFault.{WordFault}
use Rattle.command_words.specs.Reading.{Check, first_fault, pages_of, frames_of, resident_checks, last_checks}

-- checks in two parts
behind : (front back : List Check) (o : Option WordFault) → first_fault front ≡ None → first_fault back ≡ o → first_fault (front ++ back) ≡ o
behind [] back o e b = b
behind (x ∷ front) back o e b = one x.passes (record { word = x.word; kind = x.kind }) (first_fault front) (first_fault (front ++ back)) e (λ h. behind front back o h b)
  where
    one : (passes : Bool) (f : WordFault) (p q : Option WordFault) → cond passes p (Some f) ≡ None → (p ≡ None → q ≡ o) → cond passes q (Some f) ≡ o
    one true f p q e h = h e
    one false f p q e h = cc

before : (front back : List Check) (fault : WordFault) → first_fault front ≡ Some fault → first_fault (front ++ back) ≡ Some fault
before [] back fault e = cc
before (x ∷ front) back fault e = one x.passes (record { word = x.word; kind = x.kind }) (first_fault front) (first_fault (front ++ back)) e (before front back fault)
  where
    one : (passes : Bool) (f : WordFault) (p q : Option WordFault) → cond passes p (Some f) ≡ Some fault → (p ≡ Some fault → q ≡ Some fault)
        → cond passes q (Some f) ≡ Some fault
    one true f p q e h = h e
    one false f p q e h = e

parts : (front back : List Check) → first_fault (front ++ back) ≡ None → (first_fault front ≡ None) × (first_fault back ≡ None)
parts [] back e = (refl, e)
parts (x ∷ front) back e = one x.passes (record { word = x.word; kind = x.kind }) (first_fault front) (first_fault (front ++ back)) e (parts front back)
  where
    one : (passes : Bool) (f : WordFault) (p q : Option WordFault) → cond passes q (Some f) ≡ None
        → (q ≡ None → (p ≡ None) × (first_fault back ≡ None)) → (cond passes p (Some f) ≡ None) × (first_fault back ≡ None)
    one true f p q e h = h e
    one false f p q e h = cc

passes : (b : Bool) (f : WordFault) → cond b None (Some f) ≡ None → b ≡ true
passes true f e = refl
passes false f e = cc

module _ (given : Given) where
  pub frames-refused : (fault : WordFault) → first_fault (resident_checks given.resident (pages_of given)) ≡ Some fault → first_fault (last_checks given) ≡ Some fault
  unfolding last_checks
  frames-refused fault e = before (resident_checks given.resident (pages_of given)) _ fault e

  pub swap-checked : (b : Bool) (o : Option WordFault) → first_fault (resident_checks given.resident (pages_of given)) ≡ None
      → b ≡ (nat_le (pages_of given) (frames_of given) || is_some given.swap) → cond b None (Some (record { word = 0; kind = 9 })) ≡ o
      → first_fault (last_checks given) ≡ o
  unfolding last_checks
  swap-checked b o e s h =
      behind (resident_checks given.resident (pages_of given)) _ o e
      (ap (λ (b : Bool). cond b None (Some (record { word = 0; kind = 9 }))) (sym s) ∙ h)

  -- where none refuses, each is passed
  pub last-pass : first_fault (last_checks given) ≡ None
      → (first_fault (resident_checks given.resident (pages_of given)) ≡ None)
      × ((nat_le (pages_of given) (frames_of given) || is_some given.swap) ≡ true)
  unfolding last_checks
  last-pass e =
      let both = parts (resident_checks given.resident (pages_of given)) _ e in
      (both.0, passes (nat_le (pages_of given) (frames_of given) || is_some given.swap) (record { word = 0; kind = 9 }) both.1)
