use Rattle.std.proofs.Common.{◌≡◌, ◌∙◌, ℕ, ◌+◌, ◌*◌, ◌%◌, ◌^◌, All, length, Ok, Result, sym, ap, subst, refl}
use Rattle.std.proofs.lemmas.Result.{err_from_is_err_and}
use Rattle.machine_state.specs.Memory.{page_size}
use Rattle.elf_image.specs.declared.kinds.Image.{Image}
use Rattle.elf_image.specs.declared.kinds.ImageFault.{ImageFault}
use Rattle.elf_image.specs.Segments.{image_of, page_behind, headers_at, EndsLow, IsSegment, IsImage}
use Rattle.elf_image.proofs.ImageLemmas.{accepted, image-is, image-parts, read-is, read-refused, ends-low}
use Rattle.elf_image.proofs.image.read_image.Goals as goal

pub returns-in_err-segments-clause-read : goal.returns-in_err-segments-clause-read
returns-in_err-segments-clause-read c =
    let p = err_from_is_err_and c.from_residual.result c.from_residual.ensures.1 in
    rw (p.1, p.2) (sym (read-refused c.args.bytes.now c.args.pages _ c.in_err-segments.ensures.answer))

pub e_entry-requires : goal.e_entry-requires
e_entry-requires c = (accepted c.args.bytes.now c.args.pages c.in_ok-segments.ensures.answer).len

pub base-requires : goal.base-requires
base-requires c = (accepted c.args.bytes.now c.args.pages c.in_ok-segments.ensures.answer).len

pub e_phnum-requires : goal.e_phnum-requires
e_phnum-requires c = (accepted c.args.bytes.now c.args.pages c.in_ok-segments.ensures.answer).len

pub headers_at-requires-clause-len : goal.headers_at-requires-clause-len
headers_at-requires-clause-len c = (accepted c.args.bytes.now c.args.pages c.in_ok-segments.ensures.answer).len

pub headers_at-requires-clause-table : goal.headers_at-requires-clause-table
headers_at-requires-clause-table c = (accepted c.args.bytes.now c.args.pages c.in_ok-segments.ensures.answer).table

pub headers_at-requires-clause-each : goal.headers_at-requires-clause-each
headers_at-requires-clause-each c =
    subst (All (IsSegment (length c.args.bytes.now))) (sym (c.as_slice.ensures.value ∙ c.in_ok-segments.ensures.segments))
    (accepted c.args.bytes.now c.args.pages c.in_ok-segments.ensures.answer).each

pub page_behind-requires : goal.page_behind-requires
page_behind-requires c =
    subst (All EndsLow) (sym (c.as_slice-2.ensures.value ∙ c.in_ok-segments.ensures.segments))
    (ends-low (length c.args.bytes.now) _ (accepted c.args.bytes.now c.args.pages c.in_ok-segments.ensures.answer).each)

pub returns-clause-read : goal.returns-clause-read
returns-clause-read c =
    let bytes = c.args.bytes.now in
    let image : image_of bytes ≡ record {
      entry = (c.e_entry.result + c.base.result) % 2 ^ 64;
      phdr = c.headers_at.result;
      phnum = c.e_phnum.result;
      heap = page_size * c.page_behind.result;
      segments = c.in_ok-segments.segments;
    } =
    image-parts bytes _ _ _ _ _ (rw (c.e_entry.ensures, c.base.ensures.value) refl)
    (c.headers_at.ensures ∙ ap (headers_at bytes) (c.as_slice.ensures.value ∙ c.in_ok-segments.ensures.segments))
    c.e_phnum.ensures
    (ap (λ (n : ℕ). page_size * n) (c.page_behind.ensures.page ∙ ap page_behind (c.as_slice-2.ensures.value ∙ c.in_ok-segments.ensures.segments)))
    c.in_ok-segments.ensures.segments in
    sym (read-is bytes c.args.pages c.in_ok-segments.ensures.answer ∙ ap (λ (i : Image). let r : Result Image ImageFault = Ok i in r) image)

pub returns-clause-image : goal.returns-clause-image
returns-clause-image c =
    let bytes = c.args.bytes.now in
    let image : image_of bytes ≡ record {
      entry = (c.e_entry.result + c.base.result) % 2 ^ 64;
      phdr = c.headers_at.result;
      phnum = c.e_phnum.result;
      heap = page_size * c.page_behind.result;
      segments = c.in_ok-segments.segments;
    } =
    image-parts bytes _ _ _ _ _ (rw (c.e_entry.ensures, c.base.ensures.value) refl)
    (c.headers_at.ensures ∙ ap (headers_at bytes) (c.as_slice.ensures.value ∙ c.in_ok-segments.ensures.segments))
    c.e_phnum.ensures
    (ap (λ (n : ℕ). page_size * n) (c.page_behind.ensures.page ∙ ap page_behind (c.as_slice-2.ensures.value ∙ c.in_ok-segments.ensures.segments)))
    c.in_ok-segments.ensures.segments in
    subst (IsImage (length bytes) c.args.pages) image (image-is bytes c.args.pages c.in_ok-segments.ensures.answer)
