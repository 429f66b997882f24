use Rattle.std.proofs.Common.{◌≡◌, ◌∙◌, ◌+◌, None, cond, is_some, sym, ap}
use Rattle.std.specs.BTreeMap.{btree_map_len}
use Rattle.std.proofs.lemmas.Map.Text.{btree_map_updates_str}
use Rattle.hierarchy.specs.private.Above.{number_of}
use Rattle.hierarchy.proofs.Guarding.{next_number}
use Rattle.hierarchy.proofs.text_numbers.number_of.Goals as goal

pub returns : goal.returns
returns c =
    let old = c.args.numbers.now in
    let none : number_of old c.args.text.now ≡ None = sym c.in_default.ensures.value in
    let more = c.in_ok-insert.ensures.len ∙ ap (λ o. btree_map_len old + cond (is_some o) 0 1) (c.in_ok-insert.ensures.old ∙ none) in
    next_number old c.insert.new.self c.args.text.now c.requires c.len-number.result c.len-number.ensures.len none
    (λ t. btree_map_updates_str c.args.text.now old c.insert.new.self _ c.in_ok-insert.ensures.updates t) more
