use Rattle.std.specs.Option.{option_to_list}
use Rattle.std.proofs.Common.{length-append, ◌+◌, ◌*◌, ◌≡◌, ◌∙◌, ◌++◌, List, length, sym, ap, subst, arith, All}
use Rattle.std.proofs.lemmas.Result.{err_from_is_err_and}
use Rattle.std.proofs.lemmas.List.Elements.{All-nil, All-append}
use Rattle.elf_image.specs.declared.kinds.Segment.{Segment}
use Rattle.elf_image.specs.Segments.{segments_before, EndsLow}
use Rattle.elf_image.specs.Fields.{header_place}
use Rattle.elf_image.proofs.CheckLemmas.{checks-none, segments-none, checks-on, segments-more, checks-stop, all-option, option-short, header-same, segment-same}
use Rattle.elf_image.proofs.segments.read_segments.Goals as goal

pub loop-number-init : goal.loop-number-init
loop-number-init c = record {
  passed = checks-none c.args.bytes.now;
  segments = c.new-segments.ensures ∙ segments-none c.args.bytes.now;
  most = omega (arith, ap length c.new-segments.ensures);
  low = subst (All EndsLow) (sym c.new-segments.ensures) (All-nil EndsLow);
}

pub returns-in_err-segment-clause-answer : goal.returns-in_err-segment-clause-answer
returns-in_err-segment-clause-answer c =
    let bytes = c.args.bytes.now in
    let n = c.loop-number.number in
    let p = err_from_is_err_and c.from_residual.result c.from_residual.ensures.1 in
    rw (p.1, p.2)
    (checks-stop bytes _ n _ (omega arith) c.loop-number.invariant.passed
    (header-same bytes _ _ _ _ (sym (c.as_slice.ensures.value ∙ c.loop-number.invariant.segments)) (omega arith) ∙ c.in_err-segment.ensures.answer))

pub loop-number-preserved : goal.loop-number-preserved
loop-number-preserved c =
    let bytes = c.args.bytes.now in
    let n = c.loop-number.number in
    let items = c.loop-number.segments.items in
    let more = option_to_list c.in_ok-segment.segment in
    let place : c.e_phoff.result + 56 * n ≡ header_place bytes n = omega arith in
    record {
      passed = checks-on bytes n c.loop-number.invariant.passed
          (header-same bytes _ _ _ _ (sym (c.as_slice.ensures.value ∙ c.loop-number.invariant.segments)) (sym place) ∙ c.in_ok-segment.ensures.answer);
      segments = c.add.ensures
          ∙ ap (λ (xs : List Segment). xs ++ more) c.loop-number.invariant.segments
          ∙ ap (λ (ys : List Segment). segments_before bytes n ++ ys) (c.in_ok-segment.ensures.segment ∙ segment-same bytes _ _ place)
          ∙ sym (segments-more bytes n);
      most = omega (arith, ap length c.add.ensures, length-append items more, option-short c.in_ok-segment.segment);
      low = subst (All EndsLow) (sym c.add.ensures)
          (All-append EndsLow items more c.loop-number.invariant.low (all-option EndsLow c.in_ok-segment.segment c.in_ok-segment.ensures.low));
    }
