-- Lemmas on the machine state.
use Rattle.std.proofs.Common.{◌<◌, ◌^◌, ℕ, ◌∷◌, replicate, refl, arith}
use Rattle.std.proofs.lemmas.List.{length-replicate}
use Rattle.std.proofs.lemmas.List.Elements.{All-replicate, All-cons}
use Rattle.machine_state.specs.Memory.{AreBytes}
use Rattle.machine_state.specs.State.{initial_x87, initial_extended, IsVector, IsExtended}

zero_vector : IsVector (replicate 64 0)
zero_vector = record { len = length-replicate {A = ℕ} 64 0; bytes = All-replicate (λ byte. byte < 256) 64 0 (omega arith) }

x87_bytes : AreBytes (127 ∷ 3 ∷ replicate 102 0)
x87_bytes =
    All-cons (λ byte. byte < 256) 127 (3 ∷ replicate 102 0) (omega arith)
    (All-cons (λ byte. byte < 256) 3 (replicate 102 0) (omega arith) (All-replicate (λ byte. byte < 256) 102 0 (omega arith)))

pub initial_is : IsExtended initial_extended
unfolding initial_extended initial_x87
initial_is = record {
  vectors = length-replicate 32 (replicate {A = ℕ} 64 0);
  vector = All-replicate IsVector 32 (replicate {A = ℕ} 64 0) zero_vector;
  masks = length-replicate {A = ℕ} 8 0;
  mask = All-replicate (λ (number : ℕ). number < 2 ^ 64) 8 0 (omega arith);
  mxcsr = omega arith;
  x87_len = refl;
  x87_bytes = x87_bytes;
  x87_zero = refl;
  restored = record { at = tt; kept = omega arith; without_x87 = refl };
}
