-- Numbers of types, one after the other.
use Rattle.std.proofs.Common.{◌≡◌, ℕ, List, Option, Some, None, option_map, Bor, ap}
use Rattle.std.specs.Prelude.{MatchOption, IsSomeAnd}
use Rattle.frames.specs.declared.vtype.VType.{VType}
use Rattle.frames.specs.declared.vtype.VType.TheVariants.{Class}
use Rattle.frames.specs.VerificationType.{type_of, class}
use Rattle.type_numbers.specs.Numbers.{Numbering, Extends}
use Rattle.type_numbers.proofs.LawsOfNumbers.{extends_on}

-- the type of a class that there may be
pub class_above : (o : Option (Bor (List ℕ))) (r : Option VType) → MatchOption o (r ≡ None) (λ x. IsSomeAnd r (λ t. t ≡ Class x)) → option_map type_of r ≡ option_map class (option_map (λ (x : Bor (List ℕ)). x.now) o)
class_above None r e = ap (option_map type_of) e
class_above (Some x) None e = absurd e
class_above (Some x) (Some t) e = ap (λ (y : VType). Some (type_of y)) e

-- five times a type is given a number
pub extends_through : (a b c d e f : Numbering) → Extends a b → Extends b c → Extends c d → Extends d e → Extends e f → Extends a f
extends_through a b c d e f p q r s t = extends_on a b f p (extends_on b c f q (extends_on c d f r (extends_on d e f s t)))
