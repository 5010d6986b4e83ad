use Rattle.std.proofs.Common.{◌∙◌, ap, refl}
use Rattle.guest_files.specs.Files.{FilesValue}
use Rattle.elf_image.specs.declared.kinds.Image.{Image}
use Rattle.guest_run.proofs.StartLemmas.{is_prepared}
use Rattle.guest_run.proofs.starting.start.Goals as goal

pub returns-clause-prepared : goal.returns-clause-prepared
returns-clause-prepared g c = λ program parts size seed.
    let loaded = c.in_ok-loaded.ensures in
    let machine = c.first_machine.ensures in
    let files = c.files.view_is in
    is_prepared program _ _ _ _
    (λ told is. machine.state program told.page (ap (λ (image : Image). image.entry) parts.image_is) size (loaded.memory program parts told is))
    (rw machine.pages loaded.size.1)
    (ap (λ (x : FilesValue). x.cap) files ∙ c.requires.files.0)
    (ap (λ (x : FilesValue). x.places) files ∙ c.requires.files.1)
    (ap (λ (x : FilesValue). x.files) files)
    (rw (← parts.image_is) loaded.regions)
    (c.random_after.ensures ∙ rw seed refl)
    machine.steps refl refl (rw (← size) c.requires.short)
