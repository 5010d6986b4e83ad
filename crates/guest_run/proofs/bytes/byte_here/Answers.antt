use Rattle.guest_pages.specs.Pages.{byte_of}
use Rattle.guest_run.proofs.ByteLemmas.{first-shown}
use Rattle.guest_run.proofs.bytes.byte_here.Goals as goal

pub returns-in-Ok : goal.returns-in-Ok
returns-in-Ok c = (c.in-Ok.ensures.answer, λ swap. first-shown (byte_of c.args.pages.now swap) c.args.addr c.in-Ok.bytes.now (c.in-Ok.ensures.bytes.bytes swap))
