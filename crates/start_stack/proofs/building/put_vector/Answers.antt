use Rattle.std.proofs.Common.{◌∙◌, string_bytes, map, sym}
use Rattle.std.proofs.lemmas.List.{length-map}
use Rattle.std.proofs.lemmas.Result.{on_ok_weaker}
use Rattle.start_stack.proofs.StackLemmas.{vector-parts}
use Rattle.start_stack.proofs.building.put_vector.Goals as goal

pub returns : goal.returns
returns c =
    on_ok_weaker c.put_auxiliary.result
    (λ e. e
    ∙ rw (
      c.in_ok-put_number-3.ensures,
      c.in_ok-put_addresses-2.ensures,
      c.in_ok-put_number-2.ensures,
      c.in_ok-put_addresses.ensures,
      c.in_ok-put_number.ensures,
      c.auxiliary_vector.ensures,
    )
    (vector-parts c.args.image.now (map string_bytes c.args.args.now) (map string_bytes c.args.env.now) c.places-places.result _
    c.args.stack.now.items c.places-places.ensures (sym (length-map c.args.args.now string_bytes))))
    c.put_auxiliary.ensures
