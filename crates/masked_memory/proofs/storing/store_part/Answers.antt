use Rattle.std.proofs.Common.{◌≡◌, ◌+◌, ◌-◌, ℕ, List, length, drop, take, get_or, cond, ap, arith, ◌∙◌}
use Rattle.std.proofs.lemmas.Simd.{get_or-chunk}
use Rattle.guest_pages.specs.Pages.{byte_of}
use Rattle.machine_state.specs.Memory.{written}
use Rattle.masked_memory.specs.Parts.{byte_place, is_in}
use Rattle.masked_memory.proofs.Loads.{byte-at, part_is}
use Rattle.masked_memory.proofs.Stores.{part_written, none_stored}
use Rattle.masked_memory.proofs.storing.store_part.Goals as goal

pub returns-then-has_lane-clause-byte : goal.returns-then-has_lane-clause-byte
returns-then-has_lane-clause-byte g c s addr fits is =
    let from : ℕ = c.args.part.from in
    let len : ℕ = c.args.part.len in
    let bytes : List ℕ = c.args.from.now in
    let byte : ℕ → ℕ = byte_of c.args.pages.now s in
    let held : List ℕ = c.lend_ready-bytes.result.now in
    let held_len : length held ≡ len = c.lend_ready-bytes.ensures.len in
    let new_len : length c.copy.new.to ≡ len = c.copy.ensures.copied.len ∙ held_len in
    let one_page = c.requires.one_page in
    (c.lend_ready-bytes.ensures.written c.copy.new.to new_len).byte s
    ∙ ap (λ (at : ℕ). written byte at c.copy.new.to) is
    ∙ part_written addr g.row.W c.args.mask from len bytes c.copy.new.to byte fits (omega arith) (omega arith) new_len
    (λ j h.
    let source : get_or (take (from + len - from) (drop from bytes)) j 0 ≡ get_or bytes (from + j) 0 =
    ap (λ (xs : List ℕ). get_or xs j 0) (part_is from len bytes) ∙ get_or-chunk from len bytes j 0 h in
    let memory : get_or held j 0 ≡ byte (byte_place addr from + j) =
    ap (λ (xs : List ℕ). get_or xs j 0) (c.lend_ready-bytes.ensures.bytes.bytes s) ∙ byte-at byte c.args.part.addr len j h ∙ ap (λ (at : ℕ). byte (at + j)) is in
    c.copy.ensures.copied.byte j (omega arith) ∙ (λ i. cond (is_in g.row.W c.args.mask (from + j)) (source i) (memory i)))

pub returns-else-has_lane-clause-byte : goal.returns-else-has_lane-clause-byte
returns-else-has_lane-clause-byte g c s addr fits is =
    none_stored addr g.row.W c.args.mask c.args.part.from (c.args.part.from + c.args.part.len) c.args.from.now (byte_of c.args.pages.now s)
    (c.has_lane.ensures.none c.if-has_lane.false)
