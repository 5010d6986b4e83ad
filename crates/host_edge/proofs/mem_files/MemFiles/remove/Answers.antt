-- Where no file has the path, the files stay.
use Rattle.std.proofs.Common.{arith, refl, ◌≡◌, None}
use Rattle.std.proofs.lemmas.Grind.{common_steps}
use Rattle.host_edge.specs.NamedFiles.{file_in}
use Rattle.host_edge.proofs.LayoutLemmas.{without_none}
use Rattle.host_edge.proofs.mem_files.MemFiles.remove.Goals as goal

pub returns-in_default : goal.returns-in_default
returns-in_default c =
    let none : file_in c.args.self.now.files c.args.path.now ≡ None =
    rw (← c.self.view_is) (grind (arith, common_steps, c.in_default.ensures)) in
    rw (without_none _ _ none) refl
