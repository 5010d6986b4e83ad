-- The first check that fails, where checks stand behind one another.
use Rattle.std.proofs.Common.{◌≡◌, ℕ, zero, suc, ◌<◌, true, false, cond, List, [], ◌∷◌, ◌++◌, length, get_or, Some, None, refl, arith}
use Rattle.guest_files.specs.Checks.{Check, first_failing}
use Rattle.guest_files.specs.declared.errno.Errno.{Errno}

-- a check that fails is the first also where more stand behind it
pub refused_early : (checks more : List Check) (errno : Errno) → first_failing checks ≡ Some errno → first_failing (checks ++ more) ≡ Some errno
refused_early [] more errno fails = (cc)
refused_early (check ∷ checks) more errno fails =
    elim check.0 as (λ b. cond b (Some check.1) (first_failing checks) ≡ Some errno → cond b (Some check.1) (first_failing (checks ++ more)) ≡ Some errno) [
      | true ↦ (λ here. here)
      | false ↦ refused_early checks more errno
    ] fails

-- where none fails, the others decide
pub refused_late : (checks more : List Check) → first_failing checks ≡ None → first_failing (checks ++ more) ≡ first_failing more
refused_late [] more passes = refl
refused_late (check ∷ checks) more passes =
    elim check.0 as (λ b. cond b (Some check.1) (first_failing checks) ≡ None → cond b (Some check.1) (first_failing (checks ++ more)) ≡ first_failing more) [
      | true ↦ (λ here. (cc))
      | false ↦ refused_late checks more
    ] passes

-- and each of them passes
pub each_passes : (checks : List Check) (k : ℕ) (d : Check) → first_failing checks ≡ None → k < length checks → (get_or checks k d).0 ≡ false
each_passes [] k d passes within = absurd (omega (arith, within))
each_passes (check ∷ checks) zero d passes within =
    elim check.0 as (λ b. cond b (Some check.1) (first_failing checks) ≡ None → b ≡ false) [
      | true ↦ (λ here. (cc))
      | false ↦ (λ _. refl)
    ] passes
each_passes (check ∷ checks) (suc k) d passes within =
    elim check.0 as (λ b. cond b (Some check.1) (first_failing checks) ≡ None → (get_or checks k d).0 ≡ false) [
      | true ↦ (λ here. (cc))
      | false ↦ (λ rest. each_passes checks k d rest (omega (arith, within)))
    ] passes
