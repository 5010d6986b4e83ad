-- Lemmas on a page that is brought.
use Rattle.std.proofs.Common.{◌≡◌, ℕ, ◌<◌, ◌≤◌, ◌==◌, List, ◌∷◌, ◌++◌, Bool, true, false, cond, Option, Some, is_some, length, take, drop, get_or, refl, sym, ap, ◌∙◌, arith, subst, ⊎_elim}
use Rattle.std.proofs.lemmas.Bool.{cases_lt}
use Rattle.std.proofs.lemmas.List.{take_all, take-append-le}
use Rattle.machine_state.specs.Memory.{page_size, Swap}
use Rattle.host_edge.specs.Files.{Held, Becomes}
use Rattle.guest_pages.specs.Table.{Mapped}
use Rattle.guest_pages.specs.Pages.{PagesValue, table_of, byte_of, mark_of, is_swapped, mapped_count}
use Rattle.guest_pages.specs.Changes.{KeepsSize, IsEntered, away_byte, is_unsaved}
use Rattle.guest_pages.specs.Order.{AreOrdered, IsSlotOf, IsAwayIn}
use Rattle.guest_pages.specs.Together.{AreClean, AreTogether}
use Rattle.guest_pages.proofs.Togethers.{pages_placed}
use Rattle.swap_pager.specs.Bringing.{IsBrought, KeepsMemory, IsSaved, LetsGo}
use Rattle.swap_pager.specs.Stages.{HasRoom, AreAwayBytes}
use Rattle.swap_pager.proofs.Memories.{IsSwapAfter, saved_after, left_byte, left_clean, entered_byte, entered_clean, bare, bare_kept, same_memory, framed_table}
use Rattle.swap_pager.proofs.Rooms.{still_away}

-- the sizes, tables and counts once a frame is free
record IsAlike (old new : PagesValue) : Type 0 where
  size : KeepsSize old new
  tables : (page : ℕ) → bare (table_of new page) ≡ bare (table_of old page)
  count : mapped_count new ≡ mapped_count old

room_alike : (old new : PagesValue) (held after : Option Held) → HasRoom old new held after → IsAlike old new
room_alike old new held after room = ⊎_elim
    (λ (free : length old.recent < old.frames).
    subst (λ (pages : PagesValue). IsAlike old pages) (sym (room.free free).0) (record { size = record { frames = refl; pages = refl }; tables = λ page. refl; count = refl }))
    (λ (full : old.frames ≤ length old.recent).
    let gone = room.gone full in
    let first = gone.0 in
    let left = gone.1 in
    record { size = left.size; tables = bare_kept old new first.page first.mapped false first.there.is left.table; count = left.count })
    (cases_lt (length old.recent) old.frames)

-- memory once a frame is free
room_memory : (old new : PagesValue) (before now : Option Held) (held : Held) → HasRoom old new before now → before ≡ Some held → AreClean old held.page
    → (after : Held) × (now ≡ Some after) × ((addr : ℕ) → byte_of new after.page addr ≡ byte_of old held.page addr) × AreClean new after.page
room_memory old new before now held room told clean = ⊎_elim
    (λ (free : length old.recent < old.frames).
    let same = room.free free in
    (held, same.1 ∙ told, (λ addr. ap (λ (pages : PagesValue). byte_of pages held.page addr) same.0), subst (λ (pages : PagesValue). AreClean pages held.page) (sym same.0) clean))
    (λ (full : old.frames ≤ length old.recent).
    let gone = room.gone full in
    let first = gone.0 in
    let left = gone.1 in
    let there = saved_after (is_unsaved (mark_of old first.page)) old first.slot first.page held before now told gone.2 in
    let after = there.0 in
    let swap : IsSwapAfter old first.mapped.slot first.page (is_unsaved (mark_of old first.page)) held.page after.page =
    subst (λ (slot : ℕ). IsSwapAfter old slot first.page (is_unsaved (mark_of old first.page)) held.page after.page) (sym first.there.slot_is) there.2 in (
      after,
      there.1,
      (λ addr. left_byte old new first.page first.mapped first.there.is first.resident left held.page after.page swap clean addr),
      left_clean old new first.page first.mapped first.there.is first.resident left held.page after.page swap clean,
    ))
    (cases_lt (length old.recent) old.frames)

saved_tells : (unsaved : Bool) (pages : PagesValue) (slot page : ℕ) (before now : Option Held) → IsSaved unsaved pages slot page before now → is_some now ≡ is_some before
saved_tells true pages slot page before now saved = saved.tells
saved_tells false pages slot page before now same = ap is_some same

room_tells : (old new : PagesValue) (before now : Option Held) → HasRoom old new before now → is_some now ≡ is_some before
room_tells old new before now room = ⊎_elim
    (λ (free : length old.recent < old.frames). ap is_some (room.free free).1)
    (λ (full : old.frames ≤ length old.recent).
    let gone = room.gone full in
    saved_tells (is_unsaved (mark_of old gone.0.page)) old gone.0.slot gone.0.page before now gone.2)
    (cases_lt (length old.recent) old.frames)

-- what stands in a buffer of a page's length once it was filled
pub filled : (into items bytes : List ℕ) (len : ℕ) → bytes ≡ take len (into ++ drop (length into) items) → len ≡ length into → bytes ≡ into
filled into items bytes len is same =
    is ∙ take-append-le len into (drop (length into) items) (omega arith) ∙ take_all len into (omega arith)

module _ (old mid new : PagesValue) (before now : Option Held) (slot : ℕ) (bytes : List ℕ) (room : HasRoom old mid before now) (has : IsAwayIn old slot)
    (enters : (page : ℕ) (mapped : Mapped) → IsSlotOf mid slot page mapped → IsEntered mid new page mapped bytes) (ordered : AreOrdered new) where
  away : IsAwayIn mid slot
  away = still_away old mid before now slot room has

  entered : IsEntered mid new away.page away.mapped bytes
  entered = enters away.page away.mapped away.there

  alike : IsAlike old mid
  alike = room_alike old mid before now room

  tables : (page : ℕ) → bare (table_of new page) ≡ bare (table_of old page)
  tables page = bare_kept mid new away.page away.mapped true away.there.is entered.table page ∙ alike.tables page

  recent : new.recent ≡ slot ∷ mid.recent
  recent = entered.recent ∙ ap (λ (k : ℕ). k ∷ mid.recent) away.there.slot_is

  none_case : (b : Bool) (swapped : Bool) → swapped ≡ false → cond b false swapped ≡ false
  none_case true swapped h = refl
  none_case false swapped h = h

  -- the page is in a frame, as the one brought last
  pub brought : IsBrought old new slot
  brought = record {
    size = record { frames = entered.size.frames ∙ alike.size.frames; pages = entered.size.pages ∙ alike.size.pages };
    recent = recent ∙ ap (λ (rest : List ℕ). slot ∷ rest) room.recent;
    table = λ page. framed_table new.recent (table_of new page) (table_of old page) (tables page) (λ mapped is. ordered.has page mapped is);
    count = entered.count ∙ alike.count;
    none = λ free none. record {
      none = λ page. entered.swapped page ∙ none_case (page == away.page) (is_swapped mid page) (ap (λ (pages : PagesValue). is_swapped pages page) (room.free free).0 ∙ none.none page);
    };
  }

  together : (swap : Swap) → AreClean new swap → AreTogether new swap
  together swap clean = record {
    frames = (let is = recent in let some = room.room in let frames = entered.size.frames in rw is (omega arith));
    places = λ page mapped is. pages_placed new swap page mapped is;
    clean = clean;
    order = ordered;
  }

  -- memory is as it was, where the page got its bytes
  pub memory_kept : ((held : Held) → before ≡ Some held → AreClean old held.page) → ((held : Held) → now ≡ Some held → AreAwayBytes mid slot held bytes) → Becomes (KeepsMemory old new) before now
  memory_kept clean got = record {
    tells = room_tells old mid before now room;
    related = λ held told.
        let there = room_memory old mid before now held room told (clean held told) in
        let after = there.0 in
        let are : (at : ℕ) → at < page_size → get_or bytes at 0 ≡ away_byte (is_swapped mid away.page) (after.page away.mapped.slot) at =
        λ at within. (got after there.1).bytes_are away.page away.mapped away.there at within ∙ ap (λ (k : ℕ). away_byte (is_swapped mid away.page) (after.page k) at) (sym away.there.slot_is) in (
          after,
          there.1,
          record {
            memory = same_memory old new held.page after.page tables (λ addr.
                entered_byte mid new away.page away.mapped bytes away.there.is away.resident_is entered after.page are addr ∙ there.2 addr);
            together = together after.page (entered_clean mid new away.page away.mapped bytes away.there.is away.resident_is entered after.page are there.3);
          },
        );
  }

-- what the host holds then
pub lets_go : (old new : PagesValue) (before now : Option Held) → HasRoom old new before now → LetsGo old before now
lets_go old new before now room = record { free = λ free. (room.free free).1; gone = λ full. (let gone = room.gone full in (gone.0, gone.2)) }
