-- Records that calls write.
use Rattle.std.proofs.Common.{◌≡◌, ℕ, List, length, Option, Some, None, Result, Ok, Err, ◌∙◌, refl, sym, subst}
use Rattle.machine_state.specs.declared.kinds.Kind.TheVariants.{Write}
use Rattle.machine_state.specs.declared.kinds.Miss.{Miss}
use Rattle.machine_state.specs.declared.kinds.Miss.TheVariants.{Unmapped, Denied, NonCanonical, Away}
use Rattle.machine_state.specs.Memory.{Swap, first_miss, written, or_else}
use Rattle.machine_state.specs.World.{World}
use Rattle.machine_state.proofs.MemoryLemmas.{or_else_none}
use Rattle.guest_pages.specs.Table.{perms_in, blocked, first_away, answer_of}
use Rattle.guest_pages.specs.Pages.{PagesValue, table_of, memory_of}
use Rattle.guest_pages.specs.Changes.{IsWritten}
use Rattle.guest_pages.proofs.Walks.{first_away-away}
use Rattle.linux_calls.specs.declared.kinds.Halt.{Halt}
use Rattle.linux_calls.specs.declared.kinds.Halt.TheVariants.{Refused, Need, Failed}
use Rattle.linux_calls.specs.Call.{Called}
use Rattle.linux_calls.specs.Errnos.{efault}
use Rattle.linux_calls.specs.Records.{put_record}
use Rattle.linux_calls.specs.View.{View, with_parts}
use Rattle.linux_calls.specs.Following.{Does, halt_of}
use Rattle.linux_calls.specs.Waiting.{NeedsRecordIn}

pub answered-ok : (o : Option Miss) → Ok tt ≡ answer_of o → o ≡ None
answered-ok None h = refl
answered-ok (Some other) h = cc

pub answered-err : (o : Option Miss) (miss : Miss) → Err miss ≡ answer_of o → o ≡ Some miss
answered-err None miss h = cc
answered-err (Some other) miss h = cc

-- memory after bytes were written
pub memory_written : (old new : PagesValue) (swap : Swap) (addr : ℕ) (bytes : List ℕ) → IsWritten old new addr bytes
    → memory_of new swap ≡ record (memory_of old swap) { byte = written (memory_of old swap).byte addr bytes }
unfolding memory_of
memory_written old new swap addr bytes is = rw (is.table, is.byte swap) refl

-- what isn't a page that is away is a miss of memory
either : (a b : Option Miss) (miss : Miss) → or_else a b ≡ Some miss → (b ≡ Some miss → ⊥) → a ≡ Some miss
either None b miss e never = absurd (never e)
either (Some other) b miss e never = e

-- a call that does what another does
pub does_as : (work other : World → Called) (old new : View) (result : Result ℕ Halt) → ((swap : Swap) (base : World) → work (with_parts swap old base) ≡ other (with_parts swap old base))
    → Does other old new result → Does work old new result
does_as work other old new (Ok value) same does = λ swap base. same swap base ∙ does swap base
does_as work other old new (Err (Refused errno)) same does = λ swap base. same swap base ∙ does swap base
does_as work other old new (Err (Need slot)) same does = does
does_as work other old new (Err (Failed call)) same does = does

module _ (v : View) (addr : ℕ) (bytes : List ℕ) where
  pub record_put : (pages : PagesValue) → blocked (table_of v.pages) Write addr (length bytes) ≡ None → IsWritten v.pages pages addr bytes
      → Does (put_record addr bytes) v (record v { pages = pages }) (Ok 0)
  unfolding memory_of
  record_put pages ready is swap base =
      let none = or_else_none (first_miss (perms_in (table_of v.pages)) Write addr (length bytes)) (first_away (table_of v.pages) addr (length bytes)) ready in
      rw (none.0, is.table, is.byte swap, is.size.pages) refl

  missed : (miss : Miss) → blocked (table_of v.pages) Write addr (length bytes) ≡ Some miss → ((slot : ℕ) → miss ≡ Away slot → ⊥)
      → Does (put_record addr bytes) v v (Err (Refused efault))
  unfolding memory_of
  missed miss is never swap base =
      let some = either (first_miss (perms_in (table_of v.pages)) Write addr (length bytes)) (first_away (table_of v.pages) addr (length bytes)) miss is
      (λ e. let h = first_away-away (table_of v.pages) addr (length bytes) miss e in never h.0 h.1) in
      rw some refl

  by_miss : (miss : Miss) → blocked (table_of v.pages) Write addr (length bytes) ≡ Some miss → Does (put_record addr bytes) v v (Err (halt_of miss))
  by_miss (Unmapped at) is = missed (Unmapped at) is (λ slot e. cc)
  by_miss (Denied at) is = missed (Denied at) is (λ slot e. cc)
  by_miss (NonCanonical at) is = missed (NonCanonical at) is (λ slot e. cc)
  by_miss (Away slot) is = refl

  pub record_missed : (pages : PagesValue) (halt : Halt) (miss : Miss) → pages ≡ v.pages → halt ≡ halt_of miss
      → blocked (table_of v.pages) Write addr (length bytes) ≡ Some miss → Does (put_record addr bytes) v (record v { pages = pages }) (Err halt)
  record_missed pages halt miss same by is =
      subst (λ (h : Halt). Does (put_record addr bytes) v (record v { pages = pages }) (Err h)) (sym by)
      (subst (λ (p : PagesValue). Does (put_record addr bytes) v (record v { pages = p }) (Err (halt_of miss))) (sym same) (by_miss miss is))

  needs : (miss : Miss) → blocked (table_of v.pages) Write addr (length bytes) ≡ Some miss → NeedsRecordIn v addr (length bytes) (Err (halt_of miss))
  needs (Unmapped at) is = tt
  needs (Denied at) is = tt
  needs (NonCanonical at) is = tt
  needs (Away slot) is = is

  pub record_needs : (pages : PagesValue) (halt : Halt) (miss : Miss) → pages ≡ v.pages → halt ≡ halt_of miss
      → blocked (table_of v.pages) Write addr (length bytes) ≡ Some miss → NeedsRecordIn (record v { pages = pages }) addr (length bytes) (Err halt)
  record_needs pages halt miss same by is =
      subst (λ (h : Halt). NeedsRecordIn (record v { pages = pages }) addr (length bytes) (Err h)) (sym by)
      (subst (λ (p : PagesValue). NeedsRecordIn (record v { pages = p }) addr (length bytes) (Err (halt_of miss))) (sym same) (needs miss is))
