-- Tests of forms and of local variables, and what they test.
use Rattle.std.specs.Prelude.{◌&&◌}
use Rattle.std.proofs.Common.{◌≡◌, Bool, true, false, List, [], ◌∷◌, Option, Some, None, option_map, if◌then◌else◌, refl, sym, ap, ◌∙◌, subst, inl, inr}
use Rattle.std.specs.Option.{is_some}
use Rattle.insn.specs.declared.stack.StackPlace.{StackPlace}
use Rattle.insn.specs.declared.stack.StackPlace.TheVariants.{Narrow, Wide}
use Rattle.insn.specs.declared.stack.StackOperator.{StackOperator}
use Rattle.insn.specs.declared.stack.StackForm as raw
use Rattle.insn.specs.Views.{stack_form_view}
use Rattle.insn.specs.Operators.{StackForm, stack_forms}
use Rattle.insn.specs.Offsets.{IsAmong}
use Rattle.machine.specs.Values.{Value, Slot, empty, second, holds, is_wide_value, ArePairedBehind, place_of}
use Rattle.machine.specs.Demands.{State, AreForm, HasForm}
use Rattle.machine.specs.private.Decided.{same_place, are_form, form_for, paired_behind}
use Rattle.machine.proofs.Apart.{table_apart, one_form}

-- ---- tests

pub split : (a b : Bool) → (a && b) ≡ true → (a ≡ true) × (b ≡ true)
split true b e = (refl, e)
split false b e = cc

pub join : (a b : Bool) → a ≡ true → b ≡ true → (a && b) ≡ true
join true b e f = f
join false b e f = cc

-- ---- forms

place_is : (p q : StackPlace) → same_place p q ≡ true → p ≡ q
place_is Narrow Narrow e = refl
place_is Wide Wide e = refl
place_is _ _ e = absurd cc

same_itself : (p : StackPlace) → same_place p p ≡ true
same_itself Narrow = refl
same_itself Wide = refl

form_is : (ps : List StackPlace) (vs : List Value) → are_form ps vs ≡ true → AreForm ps vs
form_is [] vs e = tt
form_is (p ∷ ps) [] e = absurd cc
form_is (p ∷ ps) (v ∷ vs) e = let b = split (same_place p (place_of v)) (are_form ps vs) e in (place_is p (place_of v) b.0, form_is ps vs b.1)

is_form : (ps : List StackPlace) (vs : List Value) → AreForm ps vs → are_form ps vs ≡ true
is_form [] vs e = refl
is_form (p ∷ ps) [] e = absurd e
is_form (p ∷ ps) (v ∷ vs) e = join (same_place p (place_of v)) (are_form ps vs) (subst (λ z. same_place p z ≡ true) e.0 (same_itself p)) (is_form ps vs e.1)

chosen_step : (g f : StackForm) (gs : List StackForm) (vs : List Value) (b : Bool) → are_form g.takes vs ≡ b → (form_for gs vs ≡ Some f → IsAmong f gs × AreForm f.takes vs)
    → (if b then Some g else form_for gs vs) ≡ Some f → IsAmong f (g ∷ gs) × AreForm f.takes vs
chosen_step g f gs vs true fits later e =
    let same : f ≡ g = cc in
    (inl same, subst (λ z. AreForm z.takes vs) (sym same) (form_is g.takes vs fits))
chosen_step g f gs vs false fits later e = let r = later e in (inr r.0, r.1)

pub form_chosen : (fs : List StackForm) (vs : List Value) (f : StackForm) → form_for fs vs ≡ Some f → IsAmong f fs × AreForm f.takes vs
form_chosen [] vs f e = absurd cc
form_chosen (g ∷ gs) vs f e = chosen_step g f gs vs (are_form g.takes vs) refl (form_chosen gs vs f) e

some_step : (g : StackForm) (o : Option StackForm) (b : Bool) → is_some o ≡ true → is_some (if b then Some g else o) ≡ true
some_step g o true e = refl
some_step g o false e = e

pub form_there : (fs : List StackForm) (vs : List Value) (f : StackForm) → IsAmong f fs → AreForm f.takes vs → is_some (form_for fs vs) ≡ true
form_there [] vs f a e = absurd a
form_there (g ∷ gs) vs f (inl a) e =
    let fits : are_form g.takes vs ≡ true = is_form g.takes vs (subst (λ z. AreForm z.takes vs) a e) in
    ap (λ b. is_some (if b then Some g else form_for gs vs)) fits
form_there (g ∷ gs) vs f (inr a) e = some_step g (form_for gs vs) (are_form g.takes vs) (form_there gs vs f a e)

pub some_is : {A : Type 0} → (o : Option A) → is_some o ≡ true → (a : A) × (o ≡ Some a)
some_is None e = absurd cc
some_is (Some a) e = (a, refl)

pub form_tested : (fs : List StackForm) (s : State) → is_some (form_for fs s.stack) ≡ true → HasForm fs s
form_tested fs s e =
    let found = some_is (form_for fs s.stack) e in
    let c = form_chosen fs s.stack found.0 found.1 in
    record { form = found.0; among = c.0; fits = c.1 }

pub form_test : (fs : List StackForm) (s : State) → HasForm fs s → is_some (form_for fs s.stack) ≡ true
form_test fs s h = form_there fs s.stack h.form h.among h.fits

pub same_some : (o : Option raw.StackForm) → is_some o ≡ is_some (option_map stack_form_view o)
same_some None = refl
same_some (Some f) = refl

-- the form that the stack fits is the first one
pub same_form : (operator : StackOperator) (vs : List Value) (f : StackForm) → IsAmong f (stack_forms operator) → AreForm f.takes vs → form_for (stack_forms operator) vs ≡ Some f
same_form operator vs f a e =
    let fs = stack_forms operator in
    let found = some_is (form_for fs vs) (form_there fs vs f a e) in
    let c = form_chosen fs vs found.0 found.1 in
    found.1 ∙ ap Some (one_form fs found.0 f vs (table_apart operator) c.0 a c.1 e)

-- ---- local variables

pub paired_is : (wide : Bool) (ss : List Slot) → paired_behind wide ss ≡ true → ArePairedBehind wide ss
paired_is true [] e = absurd cc
paired_is false [] e = tt
paired_is true (empty ∷ ss) e = absurd cc
paired_is true (second ∷ ss) e = paired_is false ss e
paired_is true (holds v ∷ ss) e = absurd cc
paired_is false (empty ∷ ss) e = paired_is false ss e
paired_is false (second ∷ ss) e = absurd cc
paired_is false (holds v ∷ ss) e = paired_is (is_wide_value v) ss e

pub is_paired : (wide : Bool) (ss : List Slot) → ArePairedBehind wide ss → paired_behind wide ss ≡ true
is_paired true [] e = absurd e
is_paired false [] e = refl
is_paired true (empty ∷ ss) e = absurd e
is_paired true (second ∷ ss) e = is_paired false ss e
is_paired true (holds v ∷ ss) e = absurd e
is_paired false (empty ∷ ss) e = is_paired false ss e
is_paired false (second ∷ ss) e = absurd e
is_paired false (holds v ∷ ss) e = is_paired (is_wide_value v) ss e
