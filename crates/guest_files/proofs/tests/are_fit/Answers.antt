-- Each entry is fit, and is found by its name.
use Rattle.std.proofs.Common.{◌≡◌, ◌<◌, Some, true, ap, arith, below_more, get_or, length, map, sym, ◌∙◌}
use Rattle.std.proofs.lemmas.Grind.{common_steps}
use Rattle.std.proofs.lemmas.List.{get_or_default, length-map}
use Rattle.machine_state.specs.World.{no_file}
use Rattle.guest_files.specs.Entries.{guest_file}
use Rattle.guest_files.specs.Open.{number_of}
use Rattle.guest_files.proofs.Keeping.{file_of_entry}
use Rattle.guest_files.proofs.Names.{distinct_names}
use Rattle.guest_files.proofs.tests.are_fit.Goals as goal

pub loop-index-preserved : goal.loop-index-preserved
loop-index-preserved c =
    let entries = c.args.entries.now in
    let files = map guest_file entries in
    let at = c.loop-index.index in
    let entry = c.index-entries-index.result in
    let within : at < length entries = omega arith in
    let here : get_or files at no_file ≡ guest_file entry = file_of_entry entries at entry within c.index-entries-index.is in
    let fits : c.is_fit.result ≡ true = grind (arith, common_steps) in
    let found : number_of files c.as_bytes.result.now ≡ Some at =
    sym c.in-Some.ensures.number ∙ ap (λ n. Some n) c.if-number-index.true in
    record {
      fit = below_more _ _ c.loop-index.invariant.fit (rw here (c.is_fit.ensures fits));
      own = below_more _ _ c.loop-index.invariant.own (rw here (rw c.as_bytes.ensures.value at found));
    }

pub returns : goal.returns
returns c =
    let files = map guest_file c.args.entries.now in
    let len : length files ≡ length c.args.entries.now = length-map c.args.entries.now guest_file in
    λ _. record {
      count = rw len (omega arith);
      fit = λ k d within.
          let before : k < c.loop-index.index = omega (arith, within, len) in
          rw (get_or_default files k d no_file within) (c.loop-index.invariant.fit k before);
      distinct = distinct_names files (λ k within. c.loop-index.invariant.own k (omega (arith, within, len)));
    }
