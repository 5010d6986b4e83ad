use Rattle.std.proofs.Common.{◌≡◌, ◌∙◌, List, true, false, sym, ap}
use Rattle.std.proofs.lemmas.Result.{err_from_is_err_and}
use Rattle.elf_image.specs.declared.kinds.Segment.{Segment}
use Rattle.elf_image.specs.Segments.{segments_of}
use Rattle.elf_image.specs.Checks.{has_room}
use Rattle.elf_image.proofs.ImageLemmas.{passed-all, refused-identity, refused-file, refused-program, refused-room}
use Rattle.elf_image.proofs.image.check_all.Goals as goal

pub returns-in_err-check_identity-clause-answer : goal.returns-in_err-check_identity-clause-answer
returns-in_err-check_identity-clause-answer c =
    let p = err_from_is_err_and c.from_residual.result c.from_residual.ensures.1 in
    rw (p.1, p.2) (refused-identity c.args.bytes.now c.args.pages _ c.in_err-check_identity.ensures.answer)

pub returns-in_err-check_file-clause-answer : goal.returns-in_err-check_file-clause-answer
returns-in_err-check_file-clause-answer c =
    let p = err_from_is_err_and c.from_residual-in_err-check_file.result c.from_residual-in_err-check_file.ensures.1 in
    rw (p.1, p.2) (refused-file c.args.bytes.now c.args.pages _ c.in_ok-check_identity.ensures.answer c.in_err-check_file.ensures.answer)

pub returns-in_err-segments-clause-answer : goal.returns-in_err-segments-clause-answer
returns-in_err-segments-clause-answer c =
    let p = err_from_is_err_and c.from_residual-in_err-segments.result c.from_residual-in_err-segments.ensures.1 in
    rw (p.1, p.2)
    (refused-program c.args.bytes.now c.args.pages _ c.in_ok-check_identity.ensures.answer c.in_ok-check_file.ensures.answer c.in_err-segments.ensures.answer)

pub returns-in_err-check-clause-answer : goal.returns-in_err-check-clause-answer
returns-in_err-check-clause-answer c =
    let p = err_from_is_err_and c.from_residual-in_err-check.result c.from_residual-in_err-check.ensures.1 in
    let bytes = c.args.bytes.now in
    let room : has_room (segments_of bytes) c.args.pages ≡ false =
    ap (λ (xs : List Segment). has_room xs c.args.pages) (sym (c.as_slice.ensures.value ∙ c.in_ok-segments.ensures.segments))
    ∙ sym c.has_room.ensures ∙ c.in_err-check.ensures.0 in
    rw (p.1, p.2, c.in_err-check.ensures.1)
    (refused-room bytes c.args.pages c.in_ok-check_identity.ensures.answer c.in_ok-check_file.ensures.answer c.in_ok-segments.ensures.answer room)

pub returns-clause-answer : goal.returns-clause-answer
returns-clause-answer c =
    let bytes = c.args.bytes.now in
    let room : has_room (segments_of bytes) c.args.pages ≡ true =
    ap (λ (xs : List Segment). has_room xs c.args.pages) (sym (c.as_slice.ensures.value ∙ c.in_ok-segments.ensures.segments))
    ∙ sym c.has_room.ensures ∙ c.in_ok-check.ensures in
    passed-all bytes c.args.pages c.in_ok-check_identity.ensures.answer c.in_ok-check_file.ensures.answer c.in_ok-segments.ensures.answer room
