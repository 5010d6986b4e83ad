use Rattle.std.proofs.Common.{◌∙◌, ap, sym, refl, length, get_or, List, [], arith}
use Rattle.std.proofs.lemmas.List.Sums.{fold_more}
use Rattle.machine_state.specs.declared.kinds.Region.{Region}
use Rattle.elf_image.specs.declared.kinds.Segment.{Segment}
use Rattle.program_load.specs.Load.{with_segment}
use Rattle.program_load.proofs.FillLemmas.{host_same, host_both, size_both}
use Rattle.program_load.proofs.LoadLemmas.{bytes_first, bytes_next, next_room}
use Rattle.program_load.proofs.load.Loaded.load_segments.Goals as goal

pub loop-segment-init : goal.loop-segment-init
loop-segment-init g c = record {
  regions = c.requires.none;
  bytes = bytes_first c.args.bytes.now c.args.self.now.pages _ c.requires.zeros;
  heap = refl;
  at = refl;
  ready = c.requires.ready;
  size = record { frames = refl; pages = refl };
  host = host_same _ _;
  counts = refl;
}

pub load_segment-requires-clause-room : goal.load_segment-requires-clause-room
load_segment-requires-clause-room g c =
    let size = c.loop-segment.invariant.size.pages in
    next_room (length c.args.bytes.now) c.args.segments.now c.loop-segment.segment-index _ c.loop-segment.self.pages c.loop-segment.self.regions.regions
    c.loop-segment-test.true c.requires.each c.requires.most (omega (arith, c.requires.few)) c.loop-segment.invariant.regions

pub loop-segment-preserved : goal.loop-segment-preserved
loop-segment-preserved g c =
    let xs = c.args.segments.now in
    let i = c.loop-segment.segment-index in
    let d : Segment = record { addr = 0; file_at = 0; file_len = 0; mem_len = 0; perms = record { 0 = 0 } } in
    let was = c.loop-segment.invariant in
    let now = c.in-Ok.ensures in
    record {
      regions = now.regions
          ∙ ap (λ (rs : List Region). with_segment rs (get_or xs i d)) was.regions
          ∙ sym (fold_more with_segment [] xs i d c.loop-segment-test.true);
      bytes = bytes_next c.args.bytes.now (length c.args.bytes.now) xs i d c.args.self.now.pages c.loop-segment.self.pages c.load_segment.new.self.pages _ _ _ c.loop-segment-test.true c.requires.each
          c.requires.ascending was.bytes now.bytes;
      heap = now.heap.0 ∙ was.heap;
      at = now.heap.1 ∙ was.at;
      ready = now.ready;
      size = size_both c.args.self.now.pages c.loop-segment.self.pages c.load_segment.new.self.pages was.size now.size;
      host = host_both _ _ _ _ _ _ was.host now.host;
      counts = now.cause ∙ was.counts;
    }
