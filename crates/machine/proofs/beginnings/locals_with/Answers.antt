use Rattle.std.proofs.Common.{◌≡◌, ◌++◌, ◌∷◌, [], ◌+◌, ◌≤◌, length, map, take, get_or, sym, ap, ◌∙◌, subst, arith}
use Rattle.std.proofs.lemmas.List.{map-append, take_all, take_more}
use Rattle.machine.specs.declared.items.Value.TheVariants.{Int}
use Rattle.machine.specs.Values.{in_slots, all_slots}
use Rattle.machine.specs.Views.{value_view, locals_of}
use Rattle.machine.proofs.ReadBack.{resized, slots_append}
use Rattle.machine.proofs.beginnings.locals_with.Goals as goal

pub loop-value-preserved : goal.loop-value-preserved
loop-value-preserved c =
    let values = c.args.values.now in
    let i = c.loop-value.value-index in
    let v = value_view (get_or values i Int) in
    let one : take (i + 1) values ≡ take i values ++ get_or values i Int ∷ [] = take_more values i Int c.loop-value-test.true in
    c.in_ok-put_value.ensures
    ∙ ap (λ z. z ++ in_slots (v ∷ [])) c.loop-value.invariant
    ∙ sym (slots_append (map value_view (take i values)) (v ∷ []))
    ∙ ap in_slots (sym (map-append value_view (take i values) (get_or values i Int ∷ [])) ∙ ap (map value_view) (sym one))

pub returns : goal.returns
returns c =
    let values = c.args.values.now in
    let all : take c.loop-value.value-index values ≡ values = take_all c.loop-value.value-index values (omega (arith, c.loop-value-test.false)) in
    let held : locals_of c.loop-value.locals.items ≡ in_slots (map value_view values) = c.loop-value.invariant ∙ ap (λ z. in_slots (map value_view z)) all in
    ap locals_of c.in_ok-resize.ensures.items
    ∙ resized c.loop-value.locals.items c.from-2.result c.loop-value.locals.len (map value_view values) held c.loop-value.locals.ok.0 (omega (arith, c.requires, c.from-2.ensures))
    ∙ ap (λ n. all_slots n (map value_view values)) c.from-2.ensures
