-- A plain instruction branches nowhere, and uses and calls nothing.
use Rattle.std.proofs.Common.{◌≡◌, Bool, true, false, ◌&&◌, is_none, nat_eq, ℤ, List, [], ◌∷◌, length, None, arith, refl}
use Rattle.std.proofs.lemmas.Bool.Decides.{nat_tests}
use Rattle.insn.specs.Meanings as acts
use Rattle.insn.specs.Meanings.{Act, made_index}
use Rattle.classfile.specs.Methods.{Method}
use Rattle.rules.specs.Interfaces.{calls_indirect}
use Rattle.rules.specs.Naming.{names_nothing}
use Rattle.rules.specs.Ways.{goes_on, branch_offsets, is_plain, special_index}
use Rattle.verify.specs.private.pass.Objects.{used_index}

left_holds : (x y : Bool) → (x && y) ≡ true → x ≡ true
left_holds true y e = refl
left_holds false y e = cc

right_holds : (x y : Bool) → (x && y) ≡ true → y ≡ true
right_holds true y e = e
right_holds false y e = cc

is_nil : (xs : List ℤ) → nat_eq (length xs) 0 ≡ true → xs ≡ []
is_nil [] e = refl
is_nil (x ∷ xs) e = let none : length (x ∷ xs) ≡ 0 = grind (arith, nat_tests, e) in absurd (omega (arith, none))

-- the first two of what makes an instruction plain, and the first three
abbrev first_two : Act → Bool
first_two a = goes_on a && nat_eq (length (branch_offsets a)) 0

first_three : (a : Act) → is_plain a ≡ true → (first_two a && is_none (made_index a)) ≡ true
first_three a e = left_holds (first_two a && is_none (made_index a)) (names_nothing a) e

pub nowhere : (a : Act) → is_plain a ≡ true → branch_offsets a ≡ []
nowhere a e = is_nil (branch_offsets a) (right_holds (goes_on a) (nat_eq (length (branch_offsets a)) 0) (left_holds (first_two a) (is_none (made_index a)) (first_three a e)))

pub direct_none : (m : Method Act) (a : Act) → is_plain a ≡ true → calls_indirect m a ≡ false
direct_none m (acts.InvokeSpecial i) e = cc
direct_none m a e = refl

pub uses_none : (release : Bool) (a : Act) → is_plain a ≡ true → used_index release a ≡ None
uses_none release (acts.GetField i) e = cc
uses_none release (acts.PutField i) e = cc
uses_none release (acts.InvokeVirtual i) e = cc
uses_none release (acts.InvokeSpecial i) e = cc
uses_none release a e = refl

pub calls_none : (a : Act) → is_plain a ≡ true → special_index a ≡ None
calls_none (acts.InvokeSpecial i) e = cc
calls_none a e = refl
