use Rattle.std.proofs.Common.{◌≡◌, ◌+◌, ◌∙◌, ap, length, true, arith}
use Rattle.machine_state.proofs.MemoryLemmas.{length_slice}
use Rattle.region_map.specs.declared.kinds.Change.TheVariants.{Map, Protect}
use Rattle.region_map.specs.Ranges.{is_in, changed_regions}
use Rattle.region_map.specs.Calls.{RegionsValue}
use Rattle.program_load.specs.Load.{with_segment}
use Rattle.program_load.proofs.FillLemmas.{can_changed}
use Rattle.program_load.proofs.PageLemmas.{mapped_writable}
use Rattle.program_load.proofs.LoadLemmas.{segment_regions, segment_room, segment_bytes}
use Rattle.program_load.proofs.load.Loaded.load_segment.Goals as goal
use Rattle.program_load.proofs.load.Loaded.load_segment.Goals.{In-Ok}
use Rattle.program_load.proofs.load.Loaded.load_segment.Given.{Over}

pub write-requires-clause-allowed : goal.write-requires-clause-allowed
write-requires-clause-allowed g c =
    let s = c.args.segment.now in
    let some = c.requires.segment.some in
    let shorter = c.requires.segment.shorter in
    let high = c.requires.segment.high in
    let size : length c.part.result.now ≡ s.file_len =
    ap length c.part.ensures ∙ length_slice c.args.bytes.now s.file_at (s.file_at + s.file_len) (omega arith) c.requires.segment.within ∙ omega arith in
    mapped_writable true c.first_page-first.result c.end_page-end.result s.addr (length c.part.result.now) c.args.self.now.pages c.map.new.self.pages c.map.ensures.change.pages
    (omega arith) (omega arith) (omega arith)

pub write-requires-clause-can : goal.write-requires-clause-can
write-requires-clause-can g c =
    can_changed (Map (record { 0 = 3 }) true) (is_in c.first_page-first.result c.end_page-end.result) c.args.self.now.pages c.map.new.self.pages _ _ c.map.ensures.change.pages c.requires.ready.can

regions_are : (g : Over) (c : In-Ok g)
    → changed_regions (Protect c.args.segment.now.perms) c.first_page-first.result c.end_page-end.result c.write.new.self.regions.regions
    ≡ with_segment c.args.self.now.regions.regions c.args.segment.now
regions_are g c =
    segment_regions (length c.args.bytes.now) c.first_page-first.result c.end_page-end.result c.args.segment.now c.args.self.now.regions.regions c.map.new.self.regions.regions
    c.write.new.self.regions.regions c.requires.segment c.requires.ready.fit.perms.listed c.first_page-first.ensures c.end_page-end.ensures c.map.ensures.change.regions
    (ap (λ (r : RegionsValue). r.regions) c.write.ensures.regions)

pub protect-requires-clause-few : goal.protect-requires-clause-few
protect-requires-clause-few g c =
    let same = regions_are g (goal.at.protect-requires-clause-few g c).In-Ok in
    rw same (segment_room (length c.args.bytes.now) c.args.segment.now c.args.self.now.pages c.args.self.now.regions.regions c.requires.segment c.requires.ready.fit c.requires.room).0

pub protect-requires-clause-room : goal.protect-requires-clause-room
protect-requires-clause-room g c =
    let same = regions_are g (goal.at.protect-requires-clause-room g c).In-Ok in
    let room = (segment_room (length c.args.bytes.now) c.args.segment.now c.args.self.now.pages c.args.self.now.regions.regions c.requires.segment c.requires.ready.fit c.requires.room).1 in
    let first = c.map.ensures.change.pages.size.pages in
    let second = c.in-Ok.ensures.perms.size.pages in
    rw same (omega arith)

pub returns-clause-regions : goal.returns-clause-regions
returns-clause-regions g c = c.protect.ensures.change.regions.list ∙ regions_are g (goal.at.returns-clause-regions g c).In-Ok

pub returns-clause-bytes : goal.returns-clause-bytes
returns-clause-bytes g c =
    segment_bytes c.args.self.now.pages c.map.new.self.pages c.write.new.self.pages c.protect.new.self.pages _ _ c.args.bytes.now c.args.segment.now c.first_page-first.result c.end_page-end.result
    c.part.result.now c.first_page-first.ensures c.end_page-end.ensures c.part.ensures c.requires.segment.within c.map.ensures.change.pages c.in-Ok.ensures.bytes c.protect.ensures.change.pages

pub returns-clause-ready : goal.returns-clause-ready
returns-clause-ready g c = record {
  fit = c.protect.ensures.fit;
  can = can_changed (Protect c.args.segment.now.perms) (is_in c.first_page-first.result c.end_page-end.result) c.write.new.self.pages c.protect.new.self.pages _ _ c.protect.ensures.change.pages c.in-Ok.ensures.can;
}
