use Rattle.std.proofs.Common.{◌≡◌, ◌++◌, ◌∷◌, [], ◌-◌, List, get_or, sym, ap, ◌∙◌, subst, map}
use Rattle.std.specs.Prelude.{IfOk}
use Rattle.std.proofs.lemmas.List.{map-append}
use Rattle.machine.specs.declared.items.Slot.TheVariants.{Empty}
use Rattle.machine.specs.Values.{second, holds}
use Rattle.machine.specs.Views.{value_view, slot_view, locals_of}
use Rattle.machine.specs.private.Beginnings.{TakesValues}
use Rattle.machine.proofs.ReadBack.{takes_none, behind_first, cut, no_items, is_no_value, second_is, first_no_second, not_empty, not_value, not_half, narrow_result, wide_result}
use Rattle.machine.proofs.held_values.+take_values.Goals as goal

pub returns-then-count-eq0 : goal.returns-then-count-eq0
returns-then-count-eq0 t c = takes_none c.args.count c.are_empty.result c.args.slots.now (map value_view c.args.values.now.items) c.if-count-eq0.true c.are_empty.ensures

pub returns-in_default : goal.returns-in_default
returns-in_default t c = not_empty c.args.count c.if-count-eq0.false (locals_of c.args.slots.now) (no_items slot_view c.args.slots.now c.in_default.len_below)

pub returns-in_default-first : goal.returns-in_default-first
returns-in_default-first t c =
    not_value c.args.count c.if-count-eq0.false (locals_of c.args.slots.now) (locals_of (behind_first c.args.slots.now)) (slot_view (get_or c.args.slots.now 0 Empty))
    (cut slot_view c.args.slots.now Empty c.in-len1-up.len_at_least) (is_no_value (get_or c.args.slots.now 0 Empty) c.in_default-first.not-Value)

pub returns-then-not-is_wide_value : goal.returns-then-not-is_wide_value
returns-then-not-is_wide_value t c =
    let old = map value_view c.args.values.now.items in
    let new = map value_view c.take_values.new.values.items in
    let rest = locals_of (behind_first c.args.slots.now) in
    let v = value_view c.in-Value.value in
    let here : locals_of c.args.slots.now ≡ holds v ∷ rest =
    cut slot_view c.args.slots.now Empty c.in-len1-up.len_at_least ∙ ap (λ s. slot_view s ∷ rest) c.in-Value.is in
    let more : map value_view c.push.new.self.items ≡ old ++ v ∷ [] = ap (map value_view) c.in_ok-push.ensures.items ∙ map-append value_view c.args.values.now.items (c.in-Value.value ∷ []) in
    narrow_result c.args.count c.if-count-eq0.false (locals_of c.args.slots.now) rest old new v c.take_values.result here (sym c.is_wide_value.ensures ∙ c.if-not-is_wide_value.true)
    (subst (λ z. IfOk c.take_values.result (TakesValues (c.args.count - 1) rest z new)) more c.take_values.ensures)

pub returns-in_default-slots : goal.returns-in_default-slots
returns-in_default-slots t c =
    let slots = c.args.slots.now in
    let rest = behind_first slots in
    not_half c.args.count c.if-count-eq0.false (locals_of slots) (locals_of rest) (value_view c.in-Value.value)
    (cut slot_view slots Empty c.in-len1-up.len_at_least ∙ ap (λ s. slot_view s ∷ locals_of rest) c.in-Value.is) (sym c.is_wide_value.ensures ∙ c.if-not-is_wide_value.false)
    (λ others e. let none : [] ≡ second ∷ others = sym (no_items slot_view rest c.in_default-slots.len_below) ∙ e in cc)

pub returns-then-not-is_second : goal.returns-then-not-is_second
returns-then-not-is_second t c =
    let slots = c.args.slots.now in
    let rest = behind_first slots in
    not_half c.args.count c.if-count-eq0.false (locals_of slots) (locals_of rest) (value_view c.in-Value.value)
    (cut slot_view slots Empty c.in-len1-up.len_at_least ∙ ap (λ s. slot_view s ∷ locals_of rest) c.in-Value.is) (sym c.is_wide_value.ensures ∙ c.if-not-is_wide_value.false)
    (λ others e. first_no_second rest Empty c.in-len1-up-slots.len_at_least (sym c.is_second.ensures ∙ c.if-not-is_second.true) others e)

pub returns : goal.returns
returns t c =
    let old = map value_view c.args.values.now.items in
    let new = map value_view c.take_values-2.new.values.items in
    let slots = c.args.slots.now in
    let rest = behind_first slots in
    let others = locals_of (behind_first rest) in
    let v = value_view c.in-Value.value in
    let half : locals_of rest ≡ second ∷ others =
    cut slot_view rest Empty c.in-len1-up-slots.len_at_least ∙ ap (λ z. z ∷ others) (second_is (slot_view (get_or rest 0 Empty)) (sym c.is_second.ensures ∙ c.if-not-is_second.false)) in
    let here : locals_of slots ≡ holds v ∷ second ∷ others =
    cut slot_view slots Empty c.in-len1-up.len_at_least ∙ ap (λ s. slot_view s ∷ locals_of rest) c.in-Value.is ∙ ap (λ z. holds v ∷ z) half in
    let more : map value_view c.push.new.self.items ≡ old ++ v ∷ [] = ap (map value_view) c.in_ok-push.ensures.items ∙ map-append value_view c.args.values.now.items (c.in-Value.value ∷ []) in
    wide_result c.args.count c.if-count-eq0.false (locals_of slots) others old new v c.take_values-2.result here (sym c.is_wide_value.ensures ∙ c.if-not-is_wide_value.false)
    (subst (λ z. IfOk c.take_values-2.result (TakesValues (c.args.count - 1) others z new)) more c.take_values-2.ensures)
