-- The page is handed back, and what is held stays.
use Rattle.std.proofs.Common.{◌∙◌, refl}
use Rattle.host_edge.specs.MemHost.{page_in}
use Rattle.host_edge.proofs.HostLemmas.{page_told}
use Rattle.host_edge.proofs.mem_host.MemHostHost.swap_get.Goals as goal

pub returns-clause-files : goal.returns-clause-files
returns-clause-files c =
    rw (← c.self.view_is) (record {
      keeps = refl;
      page_is = λ held is. c.read_at.ensures ∙ rw (c.requires.is_page, c.deref-2.ensures.value) refl
          ∙ page_told _ (page_in c.self.inside.swap.items) held c.args.page is;
    })
