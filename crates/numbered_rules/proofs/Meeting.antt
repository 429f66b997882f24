-- Whether the type of a number meets an expected type.
use Rattle.std.proofs.Common.{◌≡◌, ◌∙◌, ℕ, false, List, refl, sym, ap₂}
use Rattle.hierarchy.specs.Class.{ClassFact}
use Rattle.hierarchy.specs.Answer.{Outcome}
use Rattle.frames.specs.VerificationType.{VerificationType, uninit_this}
use Rattle.frames.specs.Assignable.{type_answer}
use Rattle.frames.specs.DeclaredFrames.{is_uninit_this}
use Rattle.type_numbers.specs.Numbers.{Numbering, IsNumber, IsGiven}
use Rattle.type_numbers.specs.Decoding.{type_by}
use Rattle.type_numbers.proofs.Decoded.{number_read}
use Rattle.numbered_rules.specs.Expected.{own_or}

-- by the answer for the types that two numbers were given to
pub numbers_answer : (s : Numbering) (n m : ℕ) (r : Outcome) → IsGiven s n → IsGiven s m → ((t u : VerificationType) → IsNumber s n t → IsNumber s m u → r ≡ type_answer s.classes t u) → r ≡ type_answer s.classes (type_by s n) (type_by s m)
numbers_answer s n m r a b h = h a.0 b.0 a.1 b.1 ∙ ap₂ (type_answer s.classes) (sym (number_read s n a.0 a.1)) (sym (number_read s m b.0 b.1))

pub own_or_other : (classes : List ClassFact) (to t : VerificationType) → is_uninit_this t ≡ false → type_answer classes t to ≡ own_or classes to t
own_or_other classes to uninit_this e = cc
own_or_other classes to _ e = refl
