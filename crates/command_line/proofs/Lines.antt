use Rattle.std.proofs.Common.{◌≡◌, ◌∙◌, Bool, false, ◌||◌, Result, Ok, Err, ap}
use Rattle.std.specs.Prelude.{IfOk}

pub neither : (a b : Bool) → a ≡ false → b ≡ false → (a || b) ≡ false
neither a b x y = ap (λ z. z || b) x ∙ y

pub if_ok : {T E : Type 0} (r : Result T E) (P Q : T → Type 0) → IfOk r P → ((x : T) → P x → Q x) → IfOk r Q
if_ok (Ok x) P Q p f = f x p
if_ok (Err e) P Q p f = p
