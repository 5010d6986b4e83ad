use Rattle.std.proofs.Common.{◌≡◌, ◌+◌, ◌-◌, length, None, Some, Option, sym, ◌∙◌, arith}
use Rattle.std.proofs.lemmas.Slice.{take-put_mid}
use Rattle.machine_state.specs.declared.kinds.Miss.{Miss}
use Rattle.guest_pages.specs.Pages.{table_of}
use Rattle.guest_pages.proofs.Walks.{blocked_part}
use Rattle.guest_pages.proofs.Shows.{shown_on}
use Rattle.guest_pages.proofs.pages.Pages.read_chunk.Goals as goal

pub unreachable-requires : goal.unreachable-requires
unreachable-requires c =
    let ready = blocked_part (table_of c.args.self.now) c.args.kind c.args.addr (length c.args.into.now) c.args.done (c.chunk_end-end.result - c.args.done) (omega arith) c.requires.ready in
    let never : ◌≡◌ {A = Option Miss} (Some c.in-Err.field-0) None = sym c.in-Err.ensures.answer ∙ ready in
    cc

pub returns-clause-shown : goal.returns-clause-shown
returns-clause-shown c =
    let bytes = c.in-Ok.ensures.bytes in
    let ends : c.chunk_end-end.result ≡ c.args.done + length c.copy_from_slice.new.self = (rw c.copy_from_slice.ensures.after (let l = bytes.len_is in omega arith)) in
    rw (take-put_mid c.args.done (c.chunk_end-end.result - c.args.done) c.args.into.now c.copy_from_slice.new.self c.chunk_end-end.result ends (omega arith), c.copy_from_slice.ensures.after)
    (shown_on c.args.self.now c.args.addr c.args.done c.chunk_end-end.result _ _ (omega arith) c.requires.so_far bytes)
