use Rattle.std.proofs.Common.{◌∙◌, String, Global, string_bytes, map, ap}
use Rattle.std.proofs.lemmas.Result.{on_ok_weaker}
use Rattle.start_stack.proofs.StackLemmas.{strings-parts, path-is}
use Rattle.start_stack.proofs.building.put_strings.Goals as goal

pub returns : goal.returns
returns c =
    on_ok_weaker c.put_number-2.result
    (λ e. e
    ∙ rw (c.in_ok-put_number.ensures, c.in_ok-put_text-2.ensures, c.in_ok-put_text.ensures, c.in_ok-put_texts-2.ensures, c.in_ok-put_texts.ensures)
    (strings-parts (map string_bytes c.args.args.now) (map string_bytes c.args.env.now) c.args.seed _ _ _ c.args.stack.now.items
    (c.as_str.ensures.value ∙ ap (λ (text : String Global). string_bytes text) c.index-args-0.is ∙ path-is c.args.args.now c.index-args-0.result c.requires)
    c.next_random-first.ensures c.next_random.ensures))
    c.put_number-2.ensures
