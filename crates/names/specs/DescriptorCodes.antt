-- Types of descriptors are coded, so that a fact which equates two of them has one proof at most.
use Rattle.std.specs.Prelude.{◌≡◌, ◌⊎◌, ℕ, suc, List, refl}
use Rattle.std.specs.Coded.{Coded, code_by, codes}
use Rattle.std.proofs.Common.{ap, inl, inr}
use Rattle.names.specs.declared.base.Primitive.{Primitive}
use Rattle.names.specs.Descriptors.{FieldDescriptor, primitive, class, array, dimensioned}

-- the dimensions, and what is below them
abbrev pub parts_of : FieldDescriptor → ℕ × (Primitive ⊎ List ℕ)
parts_of (primitive p) = (0, inl p)
parts_of (class name) = (0, inr name)
parts_of (array component) = (suc (parts_of component).0, (parts_of component).1)

abbrev pub below_dimensions : Primitive ⊎ List ℕ → FieldDescriptor
below_dimensions (inl p) = primitive p
below_dimensions (inr name) = class name

abbrev pub of_parts : ℕ × (Primitive ⊎ List ℕ) → FieldDescriptor
of_parts x = dimensioned x.0 (below_dimensions x.1)

parts_are_all : (t : FieldDescriptor) → of_parts (parts_of t) ≡ t
parts_are_all (primitive p) = refl
parts_are_all (class name) = refl
parts_are_all (array component) = ap array (parts_are_all component)

coded_primitive : Coded Primitive
coded_primitive = hlevel codes

pub coded_type : Coded FieldDescriptor
coded_type = code_by (ℕ × (Primitive ⊎ List ℕ)) (hlevel (coded_primitive, codes)) parts_of of_parts parts_are_all
