use Rattle.std.proofs.Common.{◌≡◌, ◌*◌, ℕ, true, ap, sym, ◌∙◌}
use Rattle.std.specs.Simd.Lanes.{put_chunk}
use Rattle.gpr_flags.specs.Numbers.{has_bit as has_bit_of}
use Rattle.masked_memory.proofs.Loads.{part_is, part_put}
use Rattle.masked_memory.proofs.parts.copy_lane.Goals as goal

pub returns-then-has_bit : goal.returns-then-has_bit
returns-then-has_bit g c =
    let at : ℕ = c.args.place * g.row.W in
    let has : has_bit_of c.args.mask c.args.lane ≡ true = sym c.has_bit.ensures ∙ c.if-has_bit.true in
    rw has
    (part_put at g.row.W c.args.to.now c.copy_from_slice.new.self c.requires.to_long c.copy_from_slice.ensures.len
    ∙ ap (put_chunk at c.args.to.now) (c.copy_from_slice.ensures.after ∙ part_is at g.row.W c.args.from.now))
