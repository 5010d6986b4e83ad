-- The page that is put is read back, and the others as before.
use Rattle.std.proofs.Common.{arith}
use Rattle.std.proofs.lemmas.Grind.{common_steps}
use Rattle.host_edge.specs.Files.{PutsPage}
use Rattle.host_edge.specs.NamedFiles.{file_in}
use Rattle.host_edge.proofs.HostLemmas.{becomes_told, puts_page}
use Rattle.host_edge.proofs.mem_host.MemHostHost.swap_put.Goals as goal

pub returns-clause-files : goal.returns-clause-files
returns-clause-files c =
    let is_opened = rw (← c.self.view_is) at c.requires.is_opened in
    rw (← c.self.view_is) (record {
      puts = becomes_told (PutsPage c.args.page c.args.from.now) _ _
          (rw c.write_at.ensures.items
          (puts_page (file_in c.self.inside.files.files) c.self.inside.swap.items c.args.page c.args.from.now
          c.requires.is_page (grind (arith, common_steps))));
      failed = tt;
    })
