-- Objects that are not initialized.
use Rattle.std.proofs.Common.{◌≡◌, ℕ, true, refl, sym, ap, arith}
use Rattle.std.proofs.lemmas.Bool.Decides.{nat_tests}
use Rattle.frames.specs.VerificationType.{VerificationType, top, int, float, long, double, null, class, array, uninit_this, uninit}
use Rattle.frames.specs.Objects.{is_initialized}

-- a type of an object is that of no other one
pub same_object : (object t : VerificationType) → is_initialized object t ≡ true → t ≡ object
same_object top t e = cc
same_object int t e = cc
same_object float t e = cc
same_object long t e = cc
same_object double t e = cc
same_object null t e = cc
same_object (class name) t e = cc
same_object (array component) t e = cc
same_object uninit_this top e = cc
same_object uninit_this int e = cc
same_object uninit_this float e = cc
same_object uninit_this long e = cc
same_object uninit_this double e = cc
same_object uninit_this null e = cc
same_object uninit_this (class name) e = cc
same_object uninit_this (array component) e = cc
same_object uninit_this uninit_this e = refl
same_object uninit_this (uninit offset) e = cc
same_object (uninit at) top e = cc
same_object (uninit at) int e = cc
same_object (uninit at) float e = cc
same_object (uninit at) long e = cc
same_object (uninit at) double e = cc
same_object (uninit at) null e = cc
same_object (uninit at) (class name) e = cc
same_object (uninit at) (array component) e = cc
same_object (uninit at) uninit_this e = cc
same_object (uninit at) (uninit offset) e = ap uninit (sym same)
  where
    same : at ≡ offset
    same = grind (arith, nat_tests, e)
