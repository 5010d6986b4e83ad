use Rattle.std.proofs.Common.{◌≡◌, ◌-◌, ◌∙◌, arith, ap, length, sym}
use Rattle.machine_state.specs.Memory.{bytes_at}
use Rattle.guest_pages.specs.Pages.{table_of, byte_of}
use Rattle.guest_pages.proofs.Shows.{shown_on}
use Rattle.core_step.proofs.FetchLemmas.{run-stopped, run-whole, rest-length, rest-bytes}
use Rattle.core_step.proofs.fetching.read_rest.Goals as goal

pub returns-in-Err-clause-run : goal.returns-in-Err-clause-run
returns-in-Err-clause-run c =
    run-stopped (table_of c.args.pages.now) c.args.addr (length c.args.into.now) c.args.here (length c.args.into.now - c.args.here) c.in-Err.miss
    c.requires.more c.requires.ready (omega arith) (omega arith) c.in-Err.ensures.answer

pub returns-clause-run : goal.returns-clause-run
returns-clause-run c =
    let count : length c.copy_from_slice.new.self ≡ length c.args.into.now - c.args.here = rw c.copy_from_slice.ensures.after c.in-Ok.ensures.bytes.len_is in
    rw (rest-length c.args.here c.args.into.now c.copy_from_slice.new.self (omega arith) count)
    (run-whole (table_of c.args.pages.now) c.args.addr c.args.here (length c.args.into.now) (omega arith) c.requires.ready c.in-Ok.ensures.answer)

pub returns-clause-bytes : goal.returns-clause-bytes
returns-clause-bytes c w =
    let count : length c.copy_from_slice.new.self ≡ length c.args.into.now - c.args.here = rw c.copy_from_slice.ensures.after c.in-Ok.ensures.bytes.len_is in
    let whole = shown_on c.args.pages.now c.args.addr c.args.here (length c.args.into.now) _ _ (omega arith) c.requires.shown c.in-Ok.ensures.bytes in
    rest-bytes c.args.here c.args.into.now c.copy_from_slice.new.self (omega arith) count
    ∙ rw c.copy_from_slice.ensures.after (whole.bytes w)
    ∙ ap (bytes_at (byte_of c.args.pages.now w) c.args.addr) (sym (rest-length c.args.here c.args.into.now c.copy_from_slice.new.self (omega arith) count))
