use Rattle.linux_calls.specs.View.{view_of}
use Rattle.linux_calls.proofs.FileMoves.{reads_do}
use Rattle.std.proofs.Common.{refl, rules}
use Rattle.machine_state.specs.declared.kinds.Kind.TheVariants.{Write}
use Rattle.linux_calls.proofs.FileMoves.{reads_keep}
use Rattle.linux_calls.proofs.WaitLemmas.{kept_table, ends_at_there, moving_waits_at}
use Rattle.linux_calls.proofs.transfers.read_on.Goals as goal

pub returns-clause-does : goal.returns-clause-does
returns-clause-does c =
    reads_do (view_of c.args.w.now) c.args.fd c.args.at c.args.moves c.args.from c.read_file-stop.new.pages c.read_file-stop.result (view_of c.finish_at.new.w) c.finish_at.result
    c.requires.is (rw c.pieces.ensures at c.read_file-stop.ensures.reads) (rw c.pieces.ensures at c.read_file-stop.ensures.stops) c.finish_at.ensures.ends

pub returns-clause-kept : goal.returns-clause-kept
returns-clause-kept c =
    kept_table c.args.w.now c.finish_at.new.w c.read_file-stop.new.pages (search rules)
    (reads_keep c.args.w.now.pages.now c.read_file-stop.new.pages c.pieces.result.now c.args.from c.args.w.now.files.now c.args.fd c.args.at c.read_file-stop.result c.read_file-stop.ensures.reads)
    c.requires.fit
    (ends_at_there c.read_file-stop.result c.args.fd c.args.at c.args.moves (let v = view_of c.args.w.now in record v { pages = c.read_file-stop.new.pages }) (view_of c.finish_at.new.w)
    c.finish_at.result c.finish_at.ensures.ends)

pub returns-clause-waits : goal.returns-clause-waits
returns-clause-waits c =
    moving_waits_at (view_of c.args.w.now) c.read_file-stop.new.pages c.args.w.now.files.now c.args.w.now.random.now c.args.from Write c.requires.can.most
    (reads_keep c.args.w.now.pages.now c.read_file-stop.new.pages c.pieces.result.now c.args.from c.args.w.now.files.now c.args.fd c.args.at c.read_file-stop.result c.read_file-stop.ensures.reads)
    c.read_file-stop.result c.args.fd c.args.at c.args.moves (view_of c.finish_at.new.w) c.finish_at.result (λ done slot e. refl) (rw c.pieces.ensures at c.read_file-stop.ensures.stops)
    c.finish_at.ensures.ends
