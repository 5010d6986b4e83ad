use Rattle.std.proofs.Common.{◌≡◌, ◌∙◌, true, sym, refl}
use Rattle.linux_calls.specs.Call.{low, rdi}
use Rattle.linux_calls.specs.Records.{clock_gettime_call, is_clock, put_record}
use Rattle.linux_calls.specs.View.{view_of}
use Rattle.linux_calls.proofs.RecordLemmas.{does_as}
use Rattle.linux_calls.proofs.records.clock_gettime.Goals as goal

pub returns-clause-does : goal.returns-clause-does
unfolding clock_gettime_call
returns-clause-does c =
    let clock : is_clock (low (rdi c.args.w.now.gprs.now)) ≡ true = rw c.rdi.ensures at (rw c.low.ensures at (sym c.is_clock.ensures ∙ c.if-not-is_clock.false)) in
    does_as clock_gettime_call (put_record c.rsi-addr.result c.bytes.result.now) (view_of c.args.w.now) (view_of c.put_record.new.w) c.put_record.result
    (λ swap base. rw (clock, c.rsi-addr.ensures, c.bytes.ensures, c.time_record-fields.ensures.bytes) refl) c.put_record.ensures.does
