use Rattle.std.proofs.Common.{sym, ◌∙◌}
use Rattle.linux_calls.specs.Mapping.{is_hole}
use Rattle.linux_calls.specs.View.{view_of}
use Rattle.linux_calls.proofs.ZeroLemmas.{some_none, not_hole, mapped_there, discarded_done}
use Rattle.linux_calls.proofs.mapping.discard.Goals as goal

pub has_file_page-requires-clause-low : goal.has_file_page-requires-clause-low
has_file_page-requires-clause-low c = λ page low high.
    let none = some_none (is_hole c.args.w.now.regions.now.regions) c.args.first c.args.count c.requires.whole page low high in
    let mapped = not_hole c.args.w.now.regions.now.regions page none in
    mapped.1

pub zero_pages-requires-clause-low : goal.zero_pages-requires-clause-low
zero_pages-requires-clause-low c = λ page low high.
    let none = some_none (is_hole c.args.w.now.regions.now.regions) c.args.first c.args.count c.requires.whole page low high in
    let mapped = not_hole c.args.w.now.regions.now.regions page none in
    mapped.1

pub zero_pages-requires-clause-mapped : goal.zero_pages-requires-clause-mapped
zero_pages-requires-clause-mapped c = λ page low high.
    let none = some_none (is_hole c.args.w.now.regions.now.regions) c.args.first c.args.count c.requires.whole page low high in
    let mapped = not_hole c.args.w.now.regions.now.regions page none in
    mapped_there c.args.w.now.pages.now c.args.w.now.regions.now.regions page c.requires.fit mapped.0

pub returns-clause-does : goal.returns-clause-does
returns-clause-does c =
    discarded_done (view_of c.args.w.now) c.args.first c.args.count c.zero_pages.new.pages (sym c.has_file_page.ensures ∙ c.if-has_file_page.false) c.zero_pages.ensures
