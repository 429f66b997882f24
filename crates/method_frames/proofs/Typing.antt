-- Rows of types, read number by number.
use Rattle.std.proofs.Common.{◌≡◌, ◌∙◌, ℕ, ◌+◌, ◌<◌, Bool, List, [], ◌∷◌, ◌++◌, Result, Ok, Err, length, map, take, get_or, reverse, sym, ap, ap₂}
use Rattle.std.specs.Prelude.{IfOk}
use Rattle.std.proofs.lemmas.List.{map-append, map_more, reverse-reverse}
use Rattle.frames.specs.declared.vtype.VType.{VType}
use Rattle.frames.specs.FrameFact.{FrameFact}
use Rattle.frames.specs.VerificationType.{VerificationType, type_of}
use Rattle.type_numbers.specs.Numbers.{Numbering, IsNumber}
use Rattle.type_numbers.specs.Decoding.{type_by, types_by}
use Rattle.type_numbers.proofs.Decoded.{number_read}
use Rattle.method_frames.specs.NumberedFrames.{NumberedFrame, frame_by}
use Rattle.method_frames.proofs.Counting.{types_reverse}

pub typed_more : (s : Numbering) (row : List ℕ) (place n : ℕ) (old new : List VType) (v : VType) → place < length row → map type_of old ≡ types_by s (take place row) → n ≡ get_or row place 0
    → IsNumber s n (type_of v) → new ≡ old ++ v ∷ [] → map type_of new ≡ types_by s (take (place + 1) row)
typed_more s row place n old new v lt e at number pushed =
    ap (map type_of) pushed ∙ map-append type_of old (v ∷ []) ∙ ap (λ ts. ts ++ type_of v ∷ []) e
    ∙ ap (λ t. types_by s (take place row) ++ t ∷ []) (sym (number_read s n (type_of v) number) ∙ ap (type_by s) at)
    ∙ sym (map_more (type_by s) row place 0 lt)

-- a stack is told from the bottom up
pub typed_down : (s : Numbering) (items : List ℕ) (types : List VType) → map type_of types ≡ types_by s (reverse items) → reverse (map type_of types) ≡ types_by s items
typed_down s items types e = ap reverse (e ∙ types_reverse s items) ∙ reverse-reverse (types_by s items)

pub stack_typed : {A E : Type 0} (items : A → List VType) (s : Numbering) (row stack : List ℕ) (r : Result A E) → stack ≡ reverse row → IfOk r (λ v. map type_of (items v) ≡ types_by s row)
    → IfOk r (λ v. reverse (map type_of (items v)) ≡ types_by s stack)
stack_typed items s row stack (Ok v) is e = ap reverse e ∙ sym (types_reverse s row) ∙ ap (types_by s) (sym is)
stack_typed items s row stack (Err x) is e = tt

pub frame_typed : (s : Numbering) (f : NumberedFrame) {ls st : List VerificationType} {flag : Bool} → ls ≡ types_by s f.locals → st ≡ types_by s f.stack → flag ≡ f.flag
    → record { locals = ls; stack = st; flag = flag } ≡ frame_by s f
frame_typed s f {ls} {st} {flag} l t o =
    ap₂ {C = FrameFact} (λ a b. record { locals = a; stack = b; flag = flag }) l t ∙ ap {B = FrameFact} (λ b. record { locals = types_by s f.locals; stack = types_by s f.stack; flag = b }) o
