-- The place stays that of its file.
use Rattle.std.proofs.Common.{◌∙◌, ap, sym}
use Rattle.guest_files.specs.Checks.{file_number}
use Rattle.guest_files.proofs.MoveLemmas.{seek_kept}
use Rattle.guest_files.proofs.files.Files.seek.Goals as goal

pub invariant_of-self : goal.invariant_of-self
invariant_of-self c =
    seek_kept c.self.inside.entries.items c.self.inside.places c.self.inside.cap c.args.fd c.in-Some.place c.in-Some-file.number
    c.in-Some-offset_from.at c.self.invariant (rw (← c.self.view_is) at c.in-Some.ensures.value)
    (c.in-Some-file.ensures.number ∙ ap file_number (sym c.in-Some.ensures.value)) c.in-Some-offset_from.ensures.within
