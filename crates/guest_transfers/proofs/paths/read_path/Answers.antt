use Rattle.std.proofs.Common.{◌≡◌, ◌∙◌, ◌+◌, ◌-◌, ◌%◌, ◌≤◌, ◌<◌, ℕ, List, [], ◌++◌, take, None, Some, is_some, min, length, inl, inr, ap, sym, refl, arith}
use Rattle.std.proofs.lemmas.List.{length-append, length-take}
use Rattle.machine_state.specs.declared.kinds.Kind.TheVariants.{Read}
use Rattle.machine_state.specs.Memory.{bytes_at, first_miss, page_size}
use Rattle.machine_state.proofs.MemoryLemmas.{bytes_at-append, bytes_at-zero, first_miss-append, first_miss-zero, or_else_none}
use Rattle.guest_pages.specs.Pages.{byte_of, table_of}
use Rattle.guest_pages.specs.Table.{blocked, first_away, perms_in}
use Rattle.guest_transfers.specs.Moves.{blocked_access}
use Rattle.guest_transfers.specs.Paths.{path_max}
use Rattle.guest_transfers.specs.Pieces.{single}
use Rattle.guest_transfers.proofs.PartLemmas.{denied_first, ready_none, single_part}
use Rattle.guest_transfers.proofs.PathLemmas.{end-none, end-within, fault_path, found_path, long_path, path_ready_more}
use Rattle.guest_transfers.proofs.paths.read_path.Goals as goal

pub loop-text-init : goal.loop-text-init
loop-text-init c = rw c.new-text.ensures (record {
  within = omega arith;
  bytes = λ w. sym (bytes_at-zero (byte_of c.args.pages.now w) c.args.addr);
  more = refl;
  readable = first_miss-zero (perms_in (table_of c.args.pages.now)) Read c.args.addr;
  ready = ready_none (blocked_access (table_of c.args.pages.now)) Read (single c.args.addr path_max) 0 0 (omega arith);
  begins = λ less. inl refl;
  low = λ some. absurd (omega arith);
})

pub returns-in-Some : goal.returns-in-Some
returns-in-Some c =
    let text = c.loop-text.text.items in
    let inv = c.loop-text.invariant in
    let n = c.len-in-loop-text.ensures.value in
    let free : blocked (table_of c.args.pages.now) Read (c.args.addr + length text) c.min-len.result ≡ None = rw n at c.in-Ok.ensures.answer in
    let part = (or_else_none (first_miss (perms_in (table_of c.args.pages.now)) Read (c.args.addr + length text) c.min-len.result) (first_away (table_of c.args.pages.now) (c.args.addr + length text) c.min-len.result) free).0 in
    let m = c.len-in-loop-text-2.ensures.value in
    let less : length text < path_max = omega (arith, c.loop-text-test.true, c.len.ensures.value) in
    let len : c.min-len.result ≡ min (path_max - length text) (page_size - (c.args.addr + length text) % page_size) = omega (arith, c.min-len.ensures, n, m) in
    let end = sym c.end.ensures ∙ c.in-Some.is in
    let within = (end-within c.in-Ok.bytes.now [] c.in-Some.end end).0 in
    let short : length (take c.in-Some.end c.in-Ok.bytes.now) ≤ c.in-Some.end = omega (arith, length-take c.in-Some.end c.in-Ok.bytes.now) in
    let count = length-append text (take c.in-Some.end c.in-Ok.bytes.now) in
    rw c.put.ensures (
      λ w. (
          let bytes : c.in-Ok.bytes.now ≡ bytes_at (byte_of c.args.pages.now w) (c.args.addr + length text) c.min-len.result = c.in-Ok.ensures.bytes.bytes w ∙ rw n refl in
          found_path c.args.pages.now c.args.addr w text (length text) refl (inv.bytes w) inv.readable inv.more c.min-len.result c.in-Some.end c.in-Ok.bytes.now bytes part
          (omega (arith, c.min-len.ensures, c.len-in-loop-text-2.ensures.value, inv.within)) end),
      path_ready_more c.args.pages.now c.args.addr (length text) c.min-len.result (length (text ++ take c.in-Some.end c.in-Ok.bytes.now) + 1) inv.ready less len free
          (omega (arith, within, short, count, c.in-Ok.ensures.bytes.len_is)),
    )

pub loop-text-preserved : goal.loop-text-preserved
loop-text-preserved c =
    let text = c.loop-text.text.items in
    let inv = c.loop-text.invariant in
    let n = c.len-in-loop-text.ensures.value in
    let m = c.len-in-loop-text-2.ensures.value in
    let len = c.min-len.result in
    let free : blocked (table_of c.args.pages.now) Read (c.args.addr + length text) len ≡ None = rw n at c.in-Ok.ensures.answer in
    let part = (or_else_none (first_miss (perms_in (table_of c.args.pages.now)) Read (c.args.addr + length text) len) (first_away (table_of c.args.pages.now) (c.args.addr + length text) len) free).0 in
    let count : length (text ++ c.in-Ok.bytes.now) ≡ length text + len = length-append text c.in-Ok.bytes.now ∙ rw c.in-Ok.ensures.bytes.len_is refl in
    rw c.put-in-None.ensures (record {
      within = omega (arith, count, c.min-len.ensures, m, inv.within);
      bytes = λ w.
          rw count (ap (λ (xs : List ℕ). xs ++ c.in-Ok.bytes.now) (inv.bytes w)
          ∙ ap (λ (xs : List ℕ). bytes_at (byte_of c.args.pages.now w) c.args.addr (length text) ++ xs) (c.in-Ok.ensures.bytes.bytes w ∙ rw n refl)
          ∙ sym (bytes_at-append (byte_of c.args.pages.now w) c.args.addr (length text) len));
      more = end-none text c.in-Ok.bytes.now inv.more (sym c.end.ensures ∙ c.in-None.is);
      readable = rw count (first_miss-append (perms_in (table_of c.args.pages.now)) Read c.args.addr (length text) len ∙ rw (inv.readable, part) refl);
      ready =
          path_ready_more c.args.pages.now c.args.addr (length text) len (length (text ++ c.in-Ok.bytes.now)) inv.ready (omega (arith, c.loop-text-test.true, c.len.ensures.value))
          (omega (arith, c.min-len.ensures, n, m)) free (omega (arith, count));
      begins = λ less. inr (omega (arith, less, count, c.min-len.ensures, n, m));
      low = λ some. omega (arith, count, c.in-Ok.ensures.low, n);
    })

pub returns-in-Some-away : goal.returns-in-Some-away
returns-in-Some-away c =
    let text = c.loop-text.text.items in
    let inv = c.loop-text.invariant in
    let n = c.len-in-loop-text.ensures.value in
    let m = c.len-in-loop-text-2.ensures.value in
    let less : length text < path_max = omega (arith, c.loop-text-test.true, c.len.ensures.value) in
    let len : c.min-len.result ≡ min (path_max - length text) (page_size - (c.args.addr + length text) % page_size) = omega (arith, c.min-len.ensures, n, m) in
    let stopped : blocked (table_of c.args.pages.now) Read (c.args.addr + length text) c.min-len.result ≡ Some c.in-Err.miss = rw n at c.in-Err.ensures.answer in
    record {
      done = length text;
      within = less;
      begins = inv.begins less;
      readable = inv.readable;
      more = λ w. rw (← inv.bytes w) inv.more;
      ready = inv.ready;
      away = rw (single_part Read c.args.addr path_max (length text) less, ← len) (stopped ∙ ap Some c.in-Some-away.ensures);
    }

pub returns-in-None-away : goal.returns-in-None-away
returns-in-None-away c =
    let text = c.loop-text.text.items in
    let inv = c.loop-text.invariant in
    let n = c.len-in-loop-text.ensures.value in
    let m = c.len-in-loop-text-2.ensures.value in
    let less : length text < path_max = omega (arith, c.loop-text-test.true, c.len.ensures.value) in
    let stopped : blocked (table_of c.args.pages.now) Read (c.args.addr + length text) c.min-len.result ≡ Some c.in-Err.miss = rw n at c.in-Err.ensures.answer in
    let first = denied_first (table_of c.args.pages.now) Read (c.args.addr + length text) c.min-len.result c.in-Err.miss (omega (arith, c.min-len.ensures, n, m, less)) (omega (arith, c.min-len.ensures, n, m))
    stopped c.in-None-away.ensures in (
      λ w. fault_path c.args.pages.now c.args.addr w text (length text) refl (inv.bytes w) inv.readable inv.more first.0 less first.1,
      record { done = length text; within = less; ready = inv.ready; denied = ap is_some first.1 },
    )

pub returns : goal.returns
returns c =
    let text = c.loop-text.text.items in
    let inv = c.loop-text.invariant in
    let whole : length text ≡ path_max = omega (arith, c.loop-text-test.false, c.len.ensures.value, inv.within) in (
      λ w. long_path c.args.pages.now c.args.addr w text (length text) refl (inv.bytes w) inv.readable inv.more whole,
      rw whole at inv.ready,
    )
