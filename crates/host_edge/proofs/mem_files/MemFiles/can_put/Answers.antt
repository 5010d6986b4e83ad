-- What is free, and whether the file's own path is held, decide whether it fits.
use Rattle.std.proofs.Common.{◌≡◌, ◌≤◌, true, false, nat_lt, None, arith, drop, sym, vec_len, length, ◌∙◌}
use Rattle.std.proofs.lemmas.Bool.Decides.{nat_tests}
use Rattle.std.proofs.lemmas.Grind.{common_steps}
use Rattle.host_edge.specs.Layout.{IsPlaced, files_at}
use Rattle.host_edge.specs.NamedFiles.{file_in}
use Rattle.host_edge.proofs.LayoutLemmas.{fits_as_new, fits_in_place}
use Rattle.host_edge.proofs.mem_files.MemFiles.can_put.Goals as goal

pub returns-in-Some : goal.returns-in-Some
returns-in-Some c =
    let held = drop c.self.inside.start c.self.inside.buffer.items in
    let placed : IsPlaced c.self.inside.entries.items held c.args.path.now c.in-Some.place =
    grind (arith, common_steps, c.in-Some.ensures.some) in
    let few : length c.self.inside.entries.items ≤ 64 = grind (arith, c.deref.ensures) in
    let fits = fits_in_place c.self.inside.entries.items held c.args.path.now c.args.bytes.now c.self.inside.start
    (vec_len c.self.inside.buffer) c.in-Some.place c.self.invariant (grind (arith, common_steps)) few placed in
    rw (← c.self.view_is) (c.has_room.ensures ∙ rw (c.as_bytes-path.ensures.value) (sym fits))

pub returns-then-len-lt-FILES : goal.returns-then-len-lt-FILES
returns-then-len-lt-FILES c =
    let held = drop c.self.inside.start c.self.inside.buffer.items in
    let none : file_in (files_at c.self.inside.entries.items held) c.args.path.now ≡ None =
    grind (arith, common_steps, c.in-None.ensures.none) in
    let fits = fits_as_new c.self.inside.entries.items held c.args.path.now c.args.bytes.now c.self.inside.start
    (vec_len c.self.inside.buffer) c.self.invariant (grind (arith, common_steps)) none in
    let few : nat_lt (length c.self.inside.entries.items) 64 ≡ true = grind (arith, nat_tests, c.len.ensures.value) in
    rw (← c.self.view_is) (c.has_room-then-len-lt-FILES.ensures ∙ rw (c.as_bytes-path.ensures.value) (sym (rw few at fits)))

pub returns-else-len-lt-FILES : goal.returns-else-len-lt-FILES
returns-else-len-lt-FILES c =
    let held = drop c.self.inside.start c.self.inside.buffer.items in
    let none : file_in (files_at c.self.inside.entries.items held) c.args.path.now ≡ None =
    grind (arith, common_steps, c.in-None.ensures.none) in
    let fits = fits_as_new c.self.inside.entries.items held c.args.path.now c.args.bytes.now c.self.inside.start
    (vec_len c.self.inside.buffer) c.self.invariant (grind (arith, common_steps)) none in
    let many : nat_lt (length c.self.inside.entries.items) 64 ≡ false = grind (arith, nat_tests, c.len.ensures.value) in
    let full : nat_lt c.len.result 64 ≡ false = grind (arith, nat_tests) in
    rw (← c.self.view_is) (full ∙ sym (rw many at fits))
