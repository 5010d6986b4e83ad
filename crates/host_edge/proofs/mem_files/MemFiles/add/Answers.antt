-- What fits finds room in front of the others, which stay.
use Rattle.std.proofs.Common.{arith, drop, lit<, vec_len}
use Rattle.std.proofs.lemmas.Grind.{common_steps}
use Rattle.host_edge.specs.NamedFiles.{NamedFile}
use Rattle.host_edge.proofs.LayoutLemmas.{room_for}
use Rattle.host_edge.proofs.mem_files.MemFiles.add.Goals as goal

pub write_front-self-inside-requires-clause-room :
    goal.write_front-self-inside-requires-clause-room
write_front-self-inside-requires-clause-room c =
    let file : NamedFile = record { path = c.args.path.now; bytes = c.args.bytes.now } in
    let held = drop c.self.inside.start c.self.inside.buffer.items in
    let room = room_for c.self.inside.entries.items held c.self.inside.start (vec_len c.self.inside.buffer) file
    c.self.invariant (grind (arith, common_steps)) (rw (← c.self.view_is) at c.requires) in
    grind (arith, room.0)

pub insert-requires : goal.insert-requires
insert-requires c =
    let file : NamedFile = record { path = c.args.path.now; bytes = c.args.bytes.now } in
    let held = drop c.self.inside.start c.self.inside.buffer.items in
    let room = room_for c.self.inside.entries.items held c.self.inside.start (vec_len c.self.inside.buffer) file
    c.self.invariant (grind (arith, common_steps)) (rw (← c.self.view_is) at c.requires) in
    (lit< tt, (omega arith, room.1))
