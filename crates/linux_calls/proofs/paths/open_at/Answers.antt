use Rattle.std.proofs.Common.{◌∙◌}
use Rattle.guest_transfers.specs.Paths.{Text, TooLong, Fault}
use Rattle.linux_calls.specs.View.{view_of}
use Rattle.linux_calls.proofs.PathLemmas.{opened_path}
use Rattle.linux_calls.proofs.ListLemmas.{no_swap}
use Rattle.linux_calls.proofs.PassLemmas.{text_passes, fault_passes}
use Rattle.linux_calls.proofs.paths.open_at.Goals as goal

pub returns-in-TooLong-clause-does : goal.returns-in-TooLong-clause-does
returns-in-TooLong-clause-does c swap base = opened_path (view_of c.args.w.now) c.args.fd c.args.addr c.args.flags TooLong c.in-TooLong.ensures.0 swap base

pub returns-in-Fault-clause-does : goal.returns-in-Fault-clause-does
returns-in-Fault-clause-does c swap base = opened_path (view_of c.args.w.now) c.args.fd c.args.addr c.args.flags Fault c.in-Fault.ensures.0 swap base

pub returns-in-Ok-clause-does : goal.returns-in-Ok-clause-does
returns-in-Ok-clause-does c swap base =
    opened_path (view_of c.args.w.now) c.args.fd c.args.addr c.args.flags (Text c.as_slice.result.now) (λ swap. rw c.as_slice.ensures.value (c.in-Text.ensures.0 swap)) swap base
    ∙ c.in-Ok.ensures.does swap base

pub returns-in-Err-clause-does : goal.returns-in-Err-clause-does
returns-in-Err-clause-does c swap base =
    opened_path (view_of c.args.w.now) c.args.fd c.args.addr c.args.flags (Text c.as_slice.result.now) (λ swap. rw c.as_slice.ensures.value (c.in-Text.ensures.0 swap)) swap base
    ∙ c.in-Err.ensures.does swap base

pub returns-in-Ok-clause-exact : goal.returns-in-Ok-clause-exact
returns-in-Ok-clause-exact c = text_passes c.args.w.now.pages.now c.args.addr c.in-Text.path.items (c.in-Text.ensures.0 no_swap) c.in-Text.ensures.1

pub returns-in-Err-clause-exact : goal.returns-in-Err-clause-exact
returns-in-Err-clause-exact c = text_passes c.args.w.now.pages.now c.args.addr c.in-Text.path.items (c.in-Text.ensures.0 no_swap) c.in-Text.ensures.1

pub returns-in-Fault-clause-exact : goal.returns-in-Fault-clause-exact
returns-in-Fault-clause-exact c = fault_passes c.args.w.now.pages.now c.args.addr c.in-Fault.ensures.1
