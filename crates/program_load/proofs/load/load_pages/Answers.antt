use Rattle.std.proofs.Common.{◌≡◌, ◌∙◌, ap, sym, subst, List, length, All, [], arith}
use Rattle.std.specs.List.{fold}
use Rattle.machine_state.specs.declared.kinds.Region.{Region}
use Rattle.elf_image.specs.Segments.{page_sum, IsSegment, AreAscending}
use Rattle.elf_image.proofs.ImageLemmas.{read-image}
use Rattle.program_load.specs.Load.{with_segment, with_stack, first_regions}
use Rattle.program_load.proofs.LoadLemmas.{stack_room, loaded_memory, regions_value}
use Rattle.program_load.proofs.load.load_pages.Goals as goal

pub new-requires-clause-page : goal.new-requires-clause-page
new-requires-clause-page g c = (read-image c.args.bytes.now c.args.most c.args.image.now c.requires.image).heap

pub load_segments-requires-clause-each : goal.load_segments-requires-clause-each
load_segments-requires-clause-each g c =
    subst (All (IsSegment (length c.args.bytes.now))) (sym c.as_slice.ensures.value) (read-image c.args.bytes.now c.args.most c.args.image.now c.requires.image).each

pub load_segments-requires-clause-ascending : goal.load_segments-requires-clause-ascending
load_segments-requires-clause-ascending g c =
    subst AreAscending (sym c.as_slice.ensures.value) (read-image c.args.bytes.now c.args.most c.args.image.now c.requires.image).ascending

pub load_segments-requires-clause-few : goal.load_segments-requires-clause-few
load_segments-requires-clause-few g c =
    let few = (read-image c.args.bytes.now c.args.most c.args.image.now c.requires.image).few in
    let same : page_sum c.as_slice.result.now ≡ page_sum c.args.image.now.segments.items = ap page_sum c.as_slice.ensures.value in
    let size = c.in_ok-loaded.ensures.size.1 in
    omega arith

pub load_segments-requires-clause-ready : goal.load_segments-requires-clause-ready
load_segments-requires-clause-ready g c = c.in_ok-loaded.ensures.ready _ _ c.requires.open

pub load_stack-requires-clause-room : goal.load_stack-requires-clause-room
load_stack-requires-clause-room g c =
    let is = read-image c.args.bytes.now c.args.most c.args.image.now c.requires.image in
    let few = is.few in
    let size = c.in_ok-load_segments.ensures.size.pages ∙ c.in_ok-loaded.ensures.size.1 in
    stack_room (length c.args.bytes.now) c.args.image.now.segments.items c.load_segments.new.self.pages c.load_segments.new.self.regions.regions is.each is.most (omega arith)
    (c.in_ok-load_segments.ensures.regions ∙ ap (fold with_segment []) c.as_slice.ensures.value)

pub returns-clause-memory : goal.returns-clause-memory
unfolding first_regions
returns-clause-memory g c program are held told =
    let is = read-image c.args.bytes.now c.args.most c.args.image.now c.requires.image in
    loaded_memory c.in_ok-loaded.loaded.pages c.load_segments.new.self.pages c.load_stack.new.self.pages _ _ _ held c.load_stack.new.self.regions.regions program c.args.bytes.now c.args.image.now
    c.args.stack.now c.as_slice.result.now (length c.args.bytes.now) are is.each c.as_slice.ensures.value
    (c.in_ok-load_stack.ensures.regions ∙ ap (λ (rs : List Region). with_stack rs) (c.in_ok-load_segments.ensures.regions ∙ ap (fold with_segment []) c.as_slice.ensures.value))
    c.in_ok-load_stack.ensures.ready.fit c.in_ok-load_segments.ensures.bytes c.in_ok-load_stack.ensures.bytes told

pub returns-clause-regions : goal.returns-clause-regions
unfolding first_regions
returns-clause-regions g c =
    regions_value c.load_stack.new.self.regions (first_regions c.args.image.now) c.args.image.now.heap
    (c.in_ok-load_stack.ensures.regions ∙ ap (λ (rs : List Region). with_stack rs) (c.in_ok-load_segments.ensures.regions ∙ ap (fold with_segment []) c.as_slice.ensures.value))
    (c.load_stack.ensures.heap.0 ∙ c.load_segments.ensures.heap.0 ∙ c.in_ok-loaded.ensures.heap.heap)
    (c.load_stack.ensures.heap.1 ∙ c.load_segments.ensures.heap.1 ∙ c.in_ok-loaded.ensures.heap.at)
