use Rattle.std.proofs.Common.{◌≤◌, refl, ap, ◌∙◌, replicate, length-take-le}
use Rattle.machine_state.specs.Memory.{bytes_at}
use Rattle.guest_pages.specs.Pages.{byte_of}
use Rattle.vec_step.proofs.Padding.{padded_is}
use Rattle.vec_step.proofs.performing.load_whole.Goals as goal

pub returns : goal.returns
returns c = λ w.
    let within : c.from-count.result ≤ 64 = rw c.from-count.ensures c.requires.most in
    rw c.from-count.ensures
    (padded_is (bytes_at (byte_of c.args.pages.now w) c.args.addr c.args.len) c.read_ready.new.into _ c.args.len refl
    (c.read_ready.ensures w
    ∙ ap (λ n. bytes_at (byte_of c.args.pages.now w) c.args.addr n) (length-take-le c.from-count.result (replicate 64 0) within ∙ c.from-count.ensures)))
