-- How many units types take.
use Rattle.std.proofs.Common.{◌≡◌, ℕ, ◌+◌, ◌≤◌, List, [], ◌∷◌, ◌++◌, length, reverse, refl, ◌∙◌, ap, arith}
use Rattle.std.proofs.lemmas.List.{reverse-append}
use Rattle.frames.specs.VerificationType.{VerificationType, top, int, float, long, double, null, class, array, uninit_this, uninit}
use Rattle.frames.specs.FrameAssignable.{width_of}
use Rattle.frames.specs.Slots.{units_of}

-- how many units a stack has does not hang on its order
pub units_append : (xs ys : List VerificationType) → units_of (xs ++ ys) ≡ units_of xs + units_of ys
units_append [] ys = omega arith
units_append (x ∷ xs) ys = omega (arith, units_append xs ys)

pub units_reverse : (xs : List VerificationType) → units_of (reverse xs) ≡ units_of xs
units_reverse [] = refl
units_reverse (x ∷ xs) = ap units_of (reverse-append (x ∷ []) xs) ∙ units_append (reverse xs) (x ∷ []) ∙ omega (arith, units_reverse xs)

width_some : (t : VerificationType) → 1 ≤ width_of t
width_some top = omega arith
width_some int = omega arith
width_some float = omega arith
width_some long = omega arith
width_some double = omega arith
width_some null = omega arith
width_some (class name) = omega arith
width_some (array component) = omega arith
width_some uninit_this = omega arith
width_some (uninit offset) = omega arith

pub width_few : (t : VerificationType) → width_of t ≤ 2
width_few top = omega arith
width_few int = omega arith
width_few float = omega arith
width_few long = omega arith
width_few double = omega arith
width_few null = omega arith
width_few (class name) = omega arith
width_few (array component) = omega arith
width_few uninit_this = omega arith
width_few (uninit offset) = omega arith

pub units_least : (ts : List VerificationType) → length ts ≤ units_of ts
units_least [] = omega arith
units_least (t ∷ ts) = omega (arith, units_least ts, width_some t)

pub units_most : (ts : List VerificationType) → units_of ts ≤ length ts + length ts
units_most [] = omega arith
units_most (t ∷ ts) = omega (arith, units_most ts, width_few t)
