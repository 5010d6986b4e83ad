use Rattle.std.proofs.Common.{sym, length}
use Rattle.machine_state.proofs.MemoryLemmas.{bytes_at-zero}
use Rattle.guest_pages.specs.Pages.{table_of, byte_of}
use Rattle.core_step.proofs.FetchLemmas.{run-missed}
use Rattle.core_step.proofs.fetching.read_run.Goals as goal

pub returns-in-Err-clause-run : goal.returns-in-Err-clause-run
returns-in-Err-clause-run c =
    run-missed (table_of c.args.pages.now) c.args.addr (length c.args.into.now) c.count_on_page-here.result c.in-Err.miss c.requires.some
    c.count_on_page-here.ensures.some c.count_on_page-here.ensures.one_page c.in-Err.ensures.answer

pub returns-in-Err-clause-bytes : goal.returns-in-Err-clause-bytes
returns-in-Err-clause-bytes c w = sym (bytes_at-zero (byte_of c.args.pages.now w) c.args.addr)
