use Rattle.std.proofs.Common.{◌≡◌, ◌+◌, ◌-◌, ◌≤◌, ℕ, List, length, drop, take, arith, ◌∙◌}
use Rattle.guest_pages.specs.Pages.{byte_of}
use Rattle.masked_memory.proofs.Loads.{part_is, part_len, part_put, part_loaded, put_bytes, none_loaded}
use Rattle.masked_memory.proofs.loading.load_part.Goals as goal

pub returns-in-Ok-clause-loaded : goal.returns-in-Ok-clause-loaded
returns-in-Ok-clause-loaded g c s addr is =
    let from : ℕ = c.args.part.from in
    let len : ℕ = c.args.part.len in
    let old : List ℕ = c.args.bytes.now in
    let within : from + len ≤ length old = omega (arith, c.told-bytes) in
    part_loaded (byte_of c.args.pages.now s) addr g.row.W c.args.mask from len c.args.part.addr c.in-Ok.shown.now (take (from + len - from) (drop from old)) c.copy.new.to old _ is
    (omega (arith, c.in-Ok.ensures.low)) (c.in-Ok.ensures.bytes.bytes s) (part_is from len old) within c.copy.ensures.copied
    (part_put from len old c.copy.new.to within c.copy.ensures.copied.len)

pub returns-in-Ok-clause-bytes : goal.returns-in-Ok-clause-bytes
returns-in-Ok-clause-bytes g c =
    let from : ℕ = c.args.part.from in
    let len : ℕ = c.args.part.len in
    let old : List ℕ = c.args.bytes.now in
    let within : from + len ≤ length old = omega (arith, c.told-bytes) in
    let count : length c.copy.new.to ≡ len = c.copy.ensures.copied.len ∙ part_len from len old within in
    rw (part_put from len old c.copy.new.to within c.copy.ensures.copied.len)
    (put_bytes from old c.copy.new.to (omega arith) c.fits-bytes c.copy.ensures.bytes)

pub returns-else-has_lane-clause-loaded : goal.returns-else-has_lane-clause-loaded
returns-else-has_lane-clause-loaded g c s addr is =
    none_loaded (byte_of c.args.pages.now s) addr g.row.W c.args.mask c.args.part.from (c.args.part.from + c.args.part.len) c.args.bytes.now
    (c.has_lane.ensures.none c.if-has_lane.false)
