-- Arrays by the numbers of their dimensions.
use Rattle.std.proofs.Common.{◌≡◌, ℕ, zero, suc, ◌<◌, List, refl, arith}
use Rattle.names.specs.declared.base.Base.{Base}
use Rattle.names.specs.declared.base.Base.TheVariants as bases
use Rattle.names.specs.declared.base.Primitive.{Primitive}
use Rattle.names.specs.Descriptors.{FieldDescriptor, primitive, class, base_of, dimensioned}
use Rattle.hierarchy.specs.Class.{ClassFact}
use Rattle.hierarchy.specs.Answer.{no, yes_if}
use Rattle.frames.specs.Assignable.{component_answer, is_above_arrays}

-- fewer dimensions to more
pub array_below : (classes : List ClassFact) (d e : ℕ) (x : Base) (y : FieldDescriptor) → d < e → component_answer classes (dimensioned d (base_of x)) (dimensioned e y) ≡ no
array_below classes zero zero x y h = absurd (omega arith)
array_below classes zero (suc e) (bases.Primitive p) y h = refl
array_below classes zero (suc e) (bases.Class a) y h = refl
array_below classes (suc d) zero x y h = absurd (omega arith)
array_below classes (suc d) (suc e) x y h = array_below classes d e x y (omega arith)

-- as many
pub array_level : (classes : List ClassFact) (d : ℕ) (x y : FieldDescriptor) → component_answer classes (dimensioned d x) (dimensioned d y) ≡ component_answer classes x y
array_level classes zero x y = refl
array_level classes (suc d) x y = array_level classes d x y

-- more to fewer
pub array_above_primitive : (classes : List ClassFact) (d e : ℕ) (x : FieldDescriptor) (p : Primitive) → e < d → component_answer classes (dimensioned d x) (dimensioned e (primitive p)) ≡ no
array_above_primitive classes zero e x p h = absurd (omega arith)
array_above_primitive classes (suc d) zero x p h = refl
array_above_primitive classes (suc d) (suc e) x p h = array_above_primitive classes d e x p (omega arith)

pub array_above_class : (classes : List ClassFact) (d e : ℕ) (x : FieldDescriptor) (b : List ℕ) → e < d → component_answer classes (dimensioned d x) (dimensioned e (class b)) ≡ yes_if (is_above_arrays b)
array_above_class classes zero e x b h = absurd (omega arith)
array_above_class classes (suc d) zero x b h = refl
array_above_class classes (suc d) (suc e) x b h = array_above_class classes d e x b (omega arith)
