-- The file that is stored is found, and the others as before.
use Rattle.host_edge.specs.Files.{Stores}
use Rattle.host_edge.specs.MemHost.{page_in}
use Rattle.host_edge.proofs.HostLemmas.{becomes_told, stores_file}
use Rattle.host_edge.proofs.mem_host.MemHostHost.store.Goals as goal

pub returns-clause-files : goal.returns-clause-files
returns-clause-files c =
    let path = c.args.path.now in
    let bytes = c.args.bytes.now in
    rw (← c.self.view_is) (record {
      stores = becomes_told (Stores path bytes) _ _
          (rw c.put.ensures (stores_file c.self.inside.files.files (page_in c.self.inside.swap.items) path bytes));
      failed = tt;
    })
