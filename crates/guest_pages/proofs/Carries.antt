-- Lemmas on what a chain of accesses keeps of the pages.
use Rattle.std.proofs.Common.{◌≡◌, ℕ, ◌+◌, ◌/◌, ◌<◌, ◌≤◌, List, length, true, false, ◌⊎◌, inl, inr, Some, ◌&&◌, nat_lt, nat_le, refl, ◌∙◌, sym, ⊎_elim, arith}
use Rattle.std.proofs.lemmas.Bool.{cases_lt, cases_Bool, false≢true}
use Rattle.machine_state.specs.Memory.{page_size}
use Rattle.machine_state.proofs.MemoryLemmas.{below_write, above_write}
use Rattle.guest_pages.specs.declared.entry.Mark.TheVariants.{Written}
use Rattle.guest_pages.specs.Pages.{PagesValue, mark_of}
use Rattle.guest_pages.specs.Changes.{KeepsPage, KeepsTable, IsWritten, touches}
use Rattle.guest_pages.proofs.Marks.{touch_there}

-- a write has no byte on a page that it doesn't touch
off_page : (addr len page at : ℕ) → touches addr len page ≡ false → at / page_size ≡ page → (nat_le addr at && nat_lt at (addr + len)) ≡ false
off_page addr len page at off on = ⊎_elim
    (λ (low : at < addr). below_write addr at (addr + len) low)
    (λ (low : addr ≤ at). ⊎_elim
    (λ (high : at < addr + len). absurd (false≢true (sym off ∙ touch_there addr len page (omega arith) (omega arith) (omega arith))))
    (λ (high : addr + len ≤ at). above_write addr at (addr + len) low high)
    (cases_lt at (addr + len)))
    (cases_lt at addr)

page_written : (old new : PagesValue) (addr : ℕ) (bytes : List ℕ) → IsWritten old new addr bytes → (page : ℕ)
    → KeepsPage old new page ⊎ (mark_of new page ≡ Some Written)
page_written old new addr bytes is page = ⊎_elim
    (λ (on : touches addr (length bytes) page ≡ true). inr (rw (is.marks, on) refl))
    (λ (off : touches addr (length bytes) page ≡ false). inl (record {
      mark = rw (is.marks, off) refl;
      bytes = λ swap at on. rw (is.byte swap, off_page addr (length bytes) page at off on) refl;
    }))
    (cases_Bool (touches addr (length bytes) page))

-- a write keeps the table
pub keeps_written : (old new : PagesValue) (addr : ℕ) (bytes : List ℕ) → IsWritten old new addr bytes → KeepsTable old new
keeps_written old new addr bytes is = record { size = is.size; table = is.table; recent = is.recent; count = is.count; pages = page_written old new addr bytes is }

pub keeps_same : (pages : PagesValue) → KeepsTable pages pages
keeps_same pages = record {
  size = record { frames = refl; pages = refl };
  table = refl;
  recent = refl;
  count = refl;
  pages = λ page. inl (record { mark = refl; bytes = λ swap addr on. refl });
}

page_on : (old mid new : PagesValue) (page : ℕ) → KeepsPage old mid page ⊎ (mark_of mid page ≡ Some Written) → KeepsPage mid new page ⊎ (mark_of new page ≡ Some Written)
    → KeepsPage old new page ⊎ (mark_of new page ≡ Some Written)
page_on old mid new page first (inr marked) = inr marked
page_on old mid new page (inr marked) (inl kept) = inr (kept.mark ∙ marked)
page_on old mid new page (inl first) (inl second) =
    inl (record { mark = second.mark ∙ first.mark; bytes = λ swap addr on. second.bytes swap addr on ∙ first.bytes swap addr on })

-- what two chains keep, the second going on from the first
pub keeps_on : (old mid new : PagesValue) → KeepsTable old mid → KeepsTable mid new → KeepsTable old new
keeps_on old mid new first second = record {
  size = record { frames = second.size.frames ∙ first.size.frames; pages = second.size.pages ∙ first.size.pages };
  table = second.table ∙ first.table;
  recent = second.recent ∙ first.recent;
  count = second.count ∙ first.count;
  pages = λ page. page_on old mid new page (first.pages page) (second.pages page);
}
