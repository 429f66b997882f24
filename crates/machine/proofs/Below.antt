-- The machine's word for types below types, case by case.
use Rattle.std.proofs.Common.{◌≡◌, ℕ, true, false, List, Some, inl, inr, refl, sym, ◌∙◌, ap, subst}
use Rattle.names.specs.Descriptors.{FieldDescriptor, primitive, class, array}
use Rattle.names.specs.ReferenceTypes.{descriptor_of}
use Rattle.hierarchy.specs.World.{Entry, World}
use Rattle.machine.specs.Heap.{IsBelowByName, IsNoPrimitive, IsBelowClass, IsBelowType}
use Rattle.machine.specs.ByType.{IsOfReferences}
use Rattle.machine.specs.Below.{IsA, same_primitive, below_object, below_interface, below_superclass, array_below_cloneable, array_below_serializable, by_components, BelowIsByCases, ArraysAreBelowThree}

of_references : (x : FieldDescriptor) → IsNoPrimitive x → IsOfReferences x
of_references (primitive p) e = elim e [ ]
of_references (class name) e = tt
of_references (array component) e = tt

no_primitive : (x : FieldDescriptor) → IsOfReferences x → IsNoPrimitive x
no_primitive (primitive p) e = elim e [ ]
no_primitive (class name) e = tt
no_primitive (array component) e = tt

by_name : (w : World) (x : FieldDescriptor) (name : List ℕ) → IsBelowByName w x name → IsA w x (class name)
by_name w (primitive p) name e = elim e [ ]
by_name w (class a) name e = below_superclass e
by_name w (array c) name (inl e) = subst (λ z. IsA w (array c) (class z)) (sym e) array_below_cloneable
by_name w (array c) name (inr e) = subst (λ z. IsA w (array c) (class z)) (sym e) array_below_serializable

by_class : (w : World) (x : FieldDescriptor) (name : List ℕ) → IsBelowClass w x name → IsA w x (class name)
by_class w x name (r, inl e) = subst (λ z. IsA w x (class z)) (sym e) (below_object (of_references x r))
by_class w x name (r, inr (inl i)) = below_interface i.0 (of_references x r) i.1 i.2
by_class w x name (r, inr (inr e)) = by_name w x name e

by_type : (w : World) (x t : FieldDescriptor) → IsBelowType w x t → IsA w x t
by_type w x (primitive p) e = subst (λ z. IsA w z (primitive p)) (sym e) same_primitive
by_type w x (class name) e = by_class w x name e
by_type w (array x) (array t) e = by_components (by_type w x t e)
by_type w (primitive p) (array t) e = elim e [ ]
by_type w (class name) (array t) e = elim e [ ]

is_below : (w : World) (x t : FieldDescriptor) → IsA w x t → IsBelowType w x t
is_below w x t same_primitive = refl
is_below w x t (below_object r) = (no_primitive x r, inl refl)
is_below w x t (below_interface e r i j) = (no_primitive x r, inr (inl (e, i, j)))
is_below w x t (below_superclass c) = (tt, inr (inr c))
is_below w x t array_below_cloneable = (tt, inr (inr (inl refl)))
is_below w x t array_below_serializable = (tt, inr (inr (inr refl)))
is_below w (array x) (array t) (by_components e) = is_below w x t e

pub below_is_by_cases : BelowIsByCases
below_is_by_cases w x t = (by_type w (descriptor_of x) (descriptor_of t), is_below w (descriptor_of x) (descriptor_of t))

one_entry : (w : World) (name : List ℕ) (e f : Entry) → w name ≡ Some e → w name ≡ Some f → e.interface ≡ false → f.interface ≡ true → ⊥
one_entry w name e f i j p q =
    let k : Some e ≡ Some f = sym i ∙ j in
    let l : e ≡ f = cc in
    let n : false ≡ true = sym p ∙ ap (λ z. z.interface) l ∙ q in cc

pub arrays_are_below_three : ArraysAreBelowThree
arrays_are_below_three w c name e i p (r, inl k) = inl k
arrays_are_below_three w c name e i p (r, inr (inl k)) = absurd (one_entry w name e k.0 i k.1 p k.2)
arrays_are_below_three w c name e i p (r, inr (inr (inl k))) = inr (inl k)
arrays_are_below_three w c name e i p (r, inr (inr (inr k))) = inr (inr (inl k))
