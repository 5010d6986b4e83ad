use Rattle.std.proofs.Common.{◌≡◌, ◌∙◌, ◌+◌, ◌-◌, ◌*◌, List, [], ◌∷◌, ◌++◌, None, length, ap, sym, refl, arith, append_assoc, append-nil}
use Rattle.machine_state.specs.declared.kinds.Kind.TheVariants.{Read}
use Rattle.machine_state.proofs.MemoryLemmas.{first_miss-zero}
use Rattle.guest_pages.specs.Pages.{byte_of, table_of}
use Rattle.guest_pages.specs.Table.{blocked, perms_in}
use Rattle.guest_pages.proofs.Walks.{blocked_both, first_away-zero}
use Rattle.guest_transfers.specs.declared.kinds.Piece.{Piece}
use Rattle.guest_transfers.specs.Buffers.{buffer_at, buffers_at, record_size}
use Rattle.guest_transfers.specs.Moves.{record_place}
use Rattle.guest_transfers.specs.Parts.{RecordStops}
use Rattle.guest_transfers.proofs.BufferLemmas.{buffers-none, buffers-next, list_waits, list_faults}
use Rattle.guest_transfers.proofs.buffers.read_list.Goals as goal

pub loop-list-init : goal.loop-list-init
loop-list-init c =
    let old = c.args.list.now.items in
    let none : length old - length old ≡ 0 = omega arith in
    record {
      after = omega arith;
      within = c.requires.within;
      place = c.requires.place;
      read = λ w. rw (none, buffers-none (byte_of c.args.pages.now w) (record_place c.args.addr (length old))) (sym (append-nil old));
      before = rw (none, first_miss-zero (perms_in (table_of c.args.pages.now)) Read (record_place c.args.addr (length old))) (first_away-zero (table_of c.args.pages.now) (record_place c.args.addr (length old)));
    }

pub loop-list-preserved : goal.loop-list-preserved
loop-list-preserved c =
    let old = c.args.list.now.items in
    let list = c.loop-list.list.items in
    let inv = c.loop-list.invariant in
    let after = inv.after in
    let n = c.len-in-loop-list.ensures.value in
    let free : blocked (table_of c.args.pages.now) Read (record_place c.args.addr (length list)) record_size ≡ None = rw n at c.in-Ok.ensures.answer in
    let len : length c.push.new.self.items ≡ length list + 1 = c.push.ensures.len in
    let count : length list + 1 - length old ≡ length list - length old + 1 = omega (arith, after) in
    let there : record_place c.args.addr (length old) + record_size * (length list - length old) ≡ record_place c.args.addr (length list) = omega (arith, after) in
    let sum : record_size * (length list - length old + 1) ≡ record_size * (length list - length old) + record_size = omega arith in
    record {
      after = omega (arith, len, after);
      within = omega (arith, len, c.loop-list-test.true, c.len.ensures.value);
      place = omega (arith, len, n, c.in-Ok.ensures.low);
      read = λ w.
          let byte = byte_of c.args.pages.now w in
          let from = record_place c.args.addr (length old) in
          let last : c.buffer.result ≡ buffer_at byte (from + record_size * (length list - length old)) = c.buffer.ensures w ∙ rw (n, there) refl in
          rw (len, count, buffers-next byte from (length list - length old))
          (c.push.ensures.items
          ∙ ap (λ (xs : List Piece). xs ++ c.buffer.result ∷ []) (inv.read w)
          ∙ append_assoc old (buffers_at byte from (length list - length old)) (c.buffer.result ∷ [])
          ∙ ap (λ (piece : Piece). old ++ (buffers_at byte from (length list - length old) ++ piece ∷ [])) last);
      before = rw (len, count, sum) (blocked_both (table_of c.args.pages.now) Read (record_place c.args.addr (length old)) (record_size * (length list - length old)) record_size inv.before (rw there free));
    }

pub returns-in-Some : goal.returns-in-Some
returns-in-Some c =
    let inv = c.loop-list.invariant in
    let n = c.len-in-loop-list.ensures.value in
    let stops : RecordStops (table_of c.args.pages.now) (record_place c.args.addr (length c.loop-list.list.items)) c.in-Err.miss = rw n at c.in-Err.ensures.answer in (
      inv.read,
      list_waits c.args.pages.now c.args.addr c.args.count c.args.list.now.items c.loop-list.list.items inv.after (omega (arith, c.loop-list-test.true, c.len.ensures.value)) inv.place inv.before
          c.in-Err.miss stops c.in-Some.slot c.in-Some.ensures,
    )

pub returns-in-None : goal.returns-in-None
returns-in-None c =
    let inv = c.loop-list.invariant in
    let n = c.len-in-loop-list.ensures.value in
    let stops : RecordStops (table_of c.args.pages.now) (record_place c.args.addr (length c.loop-list.list.items)) c.in-Err.miss = rw n at c.in-Err.ensures.answer in
    list_faults c.args.pages.now c.args.addr c.args.count c.args.list.now.items c.loop-list.list.items inv.after (omega (arith, c.loop-list-test.true, c.len.ensures.value)) inv.place inv.before
    c.in-Err.miss stops c.in-None.ensures
