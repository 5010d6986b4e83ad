-- The numbers that are taken from the operands of an instruction.
use Rattle.std.proofs.Common.{◌≡◌, ◌∙◌, ℕ, ◌*◌, ◌^◌, ◌<◌, List, Option, Some, None, Result, Ok, Err, refl, ap, sym, subst}
use Rattle.byteorder.specs.Endian.{little_number}
use Rattle.machine_state.specs.declared.kinds.Kind.{Kind}
use Rattle.machine_state.specs.declared.kinds.Miss.{Miss}
use Rattle.machine_state.specs.Memory.{Swap, number_at, bytes_at}
use Rattle.guest_pages.specs.Table.{blocked, answer_of}
use Rattle.guest_pages.specs.Pages.{table_of, byte_of}
use Rattle.guest_pages.specs.Changes.{IsShown}
use Rattle.core_step.specs.declared.sizes.Size.{Size}
use Rattle.core_step.specs.declared.kinds.Operand.TheVariants.{Memory}
use Rattle.core_step.specs.declared.machine.Machine.{Machine}
use Rattle.core_step.specs.Size.{bytes_in}
use Rattle.core_step.specs.Plain.{value_of}
use Rattle.core_step.specs.Taken.{IsTaken}
use Rattle.core_step.proofs.Walks.{operand-passes}

-- what keeps an access from being made is what the pages answer
pub answer-passes : (miss : Option Miss) (u : Unit {0}) → Ok u ≡ answer_of miss → miss ≡ None
answer-passes None u e = refl
answer-passes (Some miss) u e = cc

pub answer-stops : (found : Option Miss) (miss : Miss) → ◌≡◌ {A = Result (Unit {0}) Miss} (Err miss) (answer_of found) → found ≡ Some miss
answer-stops None miss e = cc
answer-stops (Some found) miss e = cc

-- a number that was loaded
pub taken-loaded : (m : Machine) (kind : Kind) (addr : ℕ) (size : Size) (len number : ℕ) → len ≡ bytes_in size
    → blocked (table_of m.pages) kind addr len ≡ None → ((w : Swap) → number ≡ number_at (byte_of m.pages w) addr len) → number < 2 ^ (8 * len)
    → IsTaken m kind (Memory addr) size number
unfolding value_of
taken-loaded m kind addr size len number e none value fits = record {
  ready = operand-passes (table_of m.pages) kind addr size (ap (blocked (table_of m.pages) kind addr) (sym e) ∙ none);
  value = λ w. value w ∙ ap (number_at (byte_of m.pages w) addr) e;
  fits = subst (λ (n : ℕ). number < 2 ^ (8 * n)) e fits;
}

-- a number in bytes that were looked at
pub taken-shown : (m : Machine) (kind : Kind) (addr : ℕ) (size : Size) (len number : ℕ) (shown : List ℕ) → len ≡ bytes_in size
    → blocked (table_of m.pages) kind addr len ≡ None → IsShown m.pages addr len shown → number ≡ little_number (bytes_in size) shown
    → number < 2 ^ (8 * bytes_in size) → IsTaken m kind (Memory addr) size number
taken-shown m kind addr size len number shown e none is value fits =
    taken-loaded m kind addr size len number e none
    (λ w. value ∙ ap (little_number (bytes_in size)) (is.bytes w) ∙ ap (λ (n : ℕ). little_number n (bytes_at (byte_of m.pages w) addr len)) (sym e))
    (subst (λ (n : ℕ). number < 2 ^ (8 * n)) (sym e) fits)
