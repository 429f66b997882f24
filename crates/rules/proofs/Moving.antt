-- Instructions that move what is on the stack.
use Rattle.std.proofs.Common.{◌≡◌, ℕ, ◌+◌, ◌<◌, ◌≤◌, Bool, ◌&&◌, true, false, List, [], ◌∷◌, length, get_or, drop, map, refl, ◌∙◌, ap, arith, Some, None, if◌then◌else◌}
use Rattle.std.proofs.lemmas.List.{drop_more, drop_all}
use Rattle.insn.specs.declared.stack.StackPlace.{StackPlace}
use Rattle.insn.specs.declared.stack.StackForm as raw
use Rattle.insn.specs.Operators.{StackForm}
use Rattle.insn.specs.Views.{stack_form_view}
use Rattle.frames.specs.VerificationType.{VerificationType}
use Rattle.rules.specs.After.{fits_place, fits_places, form_for}

-- ---- forms

pub fits_length : (places : List StackPlace) (ts : List VerificationType) → fits_places places ts ≡ true → length places ≤ length ts
fits_length [] ts e = omega arith
fits_length (p ∷ ps) [] e = cc
fits_length (p ∷ ps) (t ∷ ts) e = omega (arith, fits_length ps ts (right (fits_place p t) (fits_places ps ts) e))
  where
    right : (a b : Bool) → (a && b) ≡ true → b ≡ true
    right true b e = e
    right false b e = cc

pub form_next : (forms : List raw.StackForm) (i : ℕ) (d : raw.StackForm) (ts : List VerificationType) → i < length forms → fits_places (get_or forms i d).takes.now ts ≡ false → form_for (map stack_form_view (drop i forms)) ts ≡ form_for (map stack_form_view (drop (i + 1) forms)) ts
form_next forms i d ts lt e = ap (λ z. form_for (map stack_form_view z) ts) (drop_more forms i d lt) ∙ ap (λ b. if b then Some (stack_form_view (get_or forms i d)) else form_for (map stack_form_view (drop (i + 1) forms)) ts) e

pub form_here : (forms : List raw.StackForm) (i : ℕ) (d : raw.StackForm) (ts : List VerificationType) → i < length forms → fits_places (get_or forms i d).takes.now ts ≡ true → form_for (map stack_form_view (drop i forms)) ts ≡ Some (stack_form_view (get_or forms i d))
form_here forms i d ts lt e = ap (λ z. form_for (map stack_form_view z) ts) (drop_more forms i d lt) ∙ ap (λ b. if b then Some (stack_form_view (get_or forms i d)) else form_for (map stack_form_view (drop (i + 1) forms)) ts) e

pub form_end : (forms : List raw.StackForm) (i : ℕ) (ts : List VerificationType) → length forms ≤ i → form_for (map stack_form_view (drop i forms)) ts ≡ None
form_end forms i ts le = ap (λ z. form_for (map stack_form_view z) ts) (drop_all i forms le)

form_step : (g form : StackForm) (gs : List StackForm) (ts : List VerificationType) (b : Bool) → fits_places g.takes ts ≡ b → (form_for gs ts ≡ Some form → fits_places form.takes ts ≡ true) → (if b then Some g else form_for gs ts) ≡ Some form → fits_places form.takes ts ≡ true
form_step g form gs ts true fits later e = cc
form_step g form gs ts false fits later e = later e

pub form_takes : (ts : List VerificationType) (forms : List StackForm) (form : StackForm) → form_for forms ts ≡ Some form → fits_places form.takes ts ≡ true
form_takes ts [] form e = cc
form_takes ts (g ∷ gs) form e = form_step g form gs ts (fits_places g.takes ts) refl (form_takes ts gs form) e
