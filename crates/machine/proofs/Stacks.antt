-- Stacks and local variables as the program keeps them.
use Rattle.std.specs.Prelude.{IsTrue, ◌==◌, ◌↔◌, not}
use Rattle.std.proofs.Common.{◌≡◌, ℕ, ◌+◌, ◌-◌, ◌<◌, ◌≤◌, Bool, true, false, ◌&&◌, List, [], ◌∷◌, ◌++◌, length, get_or, drop, map, reverse, refl, ◌∙◌, ap, arith, Some, None, if◌then◌else◌}
use Rattle.std.proofs.lemmas.List.{drop_more, drop_all, reverse-append}
use Rattle.std.proofs.lemmas.Bool.Decides.{nat_tests}
use Rattle.insn.specs.declared.stack.StackForm as raw
use Rattle.insn.specs.Views.{stack_form_view}
use Rattle.machine.specs.declared.items.Value.{Value as RawValue}
use Rattle.machine.specs.declared.items.Slot.{Slot as RawSlot}
use Rattle.machine.specs.Values.{Value, depth_of, units, is_wide_value, is_wide_slot}
use Rattle.machine.specs.private.Decided.{are_form, form_for, is_behind, paired_behind}
use Rattle.machine.specs.Views.{value_view, slot_view, stack_of, locals_of}

-- ---- forms

module _ (forms : List raw.StackForm) (i : ℕ) (d : raw.StackForm) (vs : List Value) where
  here : i < length forms → form_for (map stack_form_view (drop i forms)) vs
      ≡ (if are_form (get_or forms i d).takes.now vs then Some (stack_form_view (get_or forms i d)) else form_for (map stack_form_view (drop (i + 1) forms)) vs)
  here lt = ap (λ z. form_for (map stack_form_view z) vs) (drop_more forms i d lt)

  pub form_next : i < length forms → are_form (get_or forms i d).takes.now vs ≡ false
      → form_for (map stack_form_view (drop i forms)) vs ≡ form_for (map stack_form_view (drop (i + 1) forms)) vs
  form_next lt e = here lt ∙ ap (λ b. if b then Some (stack_form_view (get_or forms i d)) else form_for (map stack_form_view (drop (i + 1) forms)) vs) e

  pub form_here : i < length forms → are_form (get_or forms i d).takes.now vs ≡ true
      → form_for (map stack_form_view (drop i forms)) vs ≡ Some (stack_form_view (get_or forms i d))
  form_here lt e = here lt ∙ ap (λ b. if b then Some (stack_form_view (get_or forms i d)) else form_for (map stack_form_view (drop (i + 1) forms)) vs) e

pub form_end : (forms : List raw.StackForm) (i : ℕ) (vs : List Value) → length forms ≤ i → form_for (map stack_form_view (drop i forms)) vs ≡ None
form_end forms i vs le = ap (λ z. form_for (map stack_form_view z) vs) (drop_all i forms le)

-- ---- units

-- how many units a stack has does not hang on its order
depth_append : (xs ys : List Value) → depth_of (xs ++ ys) ≡ depth_of xs + depth_of ys
depth_append [] ys = omega arith
depth_append (x ∷ xs) ys = omega (arith, depth_append xs ys)

pub depth_reverse : (xs : List Value) → depth_of (reverse xs) ≡ depth_of xs
depth_reverse [] = refl
depth_reverse (x ∷ xs) = ap depth_of (reverse-append (x ∷ []) xs) ∙ depth_append (reverse xs) (x ∷ []) ∙ omega (arith, depth_reverse xs)

abbrev width : RawValue → ℕ
width v = units (is_wide_value (value_view v))

module _ (vs : List RawValue) (i : ℕ) (d : RawValue) (left count : ℕ) (lt : i < length vs) (so_far : depth_of (map value_view vs) + left ≡ count + depth_of (map value_view (drop i vs))) where
  item : depth_of (map value_view (drop i vs)) ≡ width (get_or vs i d) + depth_of (map value_view (drop (i + 1) vs))
  item = ap (λ z. depth_of (map value_view z)) (drop_more vs i d lt)

  pub units_less : width (get_or vs i d) < left → depth_of (map value_view vs) + (left - width (get_or vs i d)) ≡ count + depth_of (map value_view (drop (i + 1) vs))
  units_less le = omega (arith, item)

  pub units_enough : left ≤ width (get_or vs i d) → count ≤ depth_of (stack_of vs)
  units_enough le = omega (arith, item, depth_reverse (map value_view vs))

pub units_end : (vs : List RawValue) (i left count : ℕ) → length vs ≤ i → depth_of (map value_view vs) + left ≡ count + depth_of (map value_view (drop i vs)) → depth_of (stack_of vs) + left ≡ count
units_end vs i left count le so_far =
    let none : depth_of (map value_view (drop i vs)) ≡ 0 = ap (λ z. depth_of (map value_view z)) (drop_all i vs le) in
    omega (arith, none, depth_reverse (map value_view vs))

pub units_test : (units left count : ℕ) → units + left ≡ count → IsTrue (left == 0) ↔ (count ≤ units)
units_test units left count e = (λ t. grind (arith, nat_tests), λ h. grind (arith, nat_tests))

-- ---- second halves

and_true : (a b : Bool) → a ≡ true → (a && b) ≡ b
and_true true b e = refl
and_true false b e = cc

and_false : (a b : Bool) → a ≡ false → (a && b) ≡ false
and_false true b e = cc
and_false false b e = refl

module _ (slots : List RawSlot) (i : ℕ) (d : RawSlot) (wide : Bool) (lt : i < length slots) where
  pair : paired_behind wide (locals_of (drop i slots))
      ≡ (is_behind wide (slot_view (get_or slots i d)) && paired_behind (is_wide_slot (slot_view (get_or slots i d))) (locals_of (drop (i + 1) slots)))
  pair = ap (λ z. paired_behind wide (locals_of z)) (drop_more slots i d lt)

  pub paired_next : is_behind wide (slot_view (get_or slots i d)) ≡ true
      → paired_behind wide (locals_of (drop i slots)) ≡ paired_behind (is_wide_slot (slot_view (get_or slots i d))) (locals_of (drop (i + 1) slots))
  paired_next e = pair ∙ and_true _ _ e

  pub paired_not : is_behind wide (slot_view (get_or slots i d)) ≡ false → paired_behind wide (locals_of (drop i slots)) ≡ false
  paired_not e = pair ∙ and_false _ _ e

pub paired_end : (slots : List RawSlot) (i : ℕ) (wide : Bool) → length slots ≤ i → paired_behind wide (locals_of (drop i slots)) ≡ not wide
paired_end slots i wide le = ap (λ z. paired_behind wide (locals_of z)) (drop_all i slots le)
