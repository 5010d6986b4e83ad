use Rattle.elf_image.proofs.ImageLemmas.{read-image}
use Rattle.elf_image.proofs.laws.image_law.Goals as goal

pub returns : goal.returns
returns c = read-image
