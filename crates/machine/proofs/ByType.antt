-- The values of a type are those that fit it in the machine.
use Rattle.std.proofs.Common.{◌≡◌, refl, sym, ap, ◌∙◌}
use Rattle.names.specs.declared.base.Primitive.{Primitive}
use Rattle.names.specs.declared.base.Primitive.TheVariants.{Boolean, Byte, Char, Short, Int, Long, Float, Double}
use Rattle.names.specs.Descriptors.{FieldDescriptor, primitive, class, array}
use Rattle.names.specs.ReferenceTypes.{ReferenceType, class_type, array_type, descriptor_of}
use Rattle.hierarchy.specs.World.{World}
use Rattle.insn.specs.declared.kinds.Kind.{Kind}
use Rattle.insn.specs.Kinds.{computed_as}
use Rattle.machine.specs.Values.{Value, number, null, reference}
use Rattle.machine.specs.Heap.{Heap, FitsReference, FitsField}
use Rattle.machine.specs.ByType.{kind_of, IsOf}

pub computed_so : (p : Primitive) → kind_of p ≡ computed_as p
computed_so Boolean = refl
computed_so Byte = refl
computed_so Char = refl
computed_so Short = refl
computed_so Int = refl
computed_so Long = refl
computed_so Float = refl
computed_so Double = refl

abbrev primitive_in : Primitive → FieldDescriptor → Primitive
primitive_in other (primitive p) = p
primitive_in other (class name) = other
primitive_in other (array component) = other

abbrev kind_in : Kind → Value → Kind
kind_in other (number kind) = kind
kind_in other null = other
kind_in other (reference a) = other

-- ---- what is of a type fits it

pub fits_where : (w : World) (h : Heap) (t : FieldDescriptor) (v : Value) → IsOf w h t v → FitsField w h t v
fits_where w h (primitive p) (number k) e =
    let q : p ≡ e.0 = ap (primitive_in p) e.1 in
    ap number (e.2 ∙ ap kind_of (sym q) ∙ computed_so p)
fits_where w h (primitive p) null e = elim e [ ]
fits_where w h (primitive p) (reference a) e = elim e.0 [ ]
fits_where w h (class name) (number k) e = let q : class name ≡ primitive e.0 = e.1 in cc
fits_where w h (class name) null e = tt
fits_where w h (class name) (reference a) e = (e.1.run_time, e.1.here, e.1.below)
fits_where w h (array c) (number k) e = let q : array c ≡ primitive e.0 = e.1 in cc
fits_where w h (array c) null e = tt
fits_where w h (array c) (reference a) e = (e.1.run_time, e.1.here, e.1.below)

pub reference_where : (w : World) (h : Heap) (t : ReferenceType) (v : Value) → IsOf w h (descriptor_of t) v → FitsReference w h t v
reference_where w h (class_type name) v e = fits_where w h (class name) v e
reference_where w h (array_type c) v e = fits_where w h (array c) v e

-- ---- and the other way

pub number_of : (p : Primitive) (v : Value) → v ≡ number (computed_as p) → (w : World) (h : Heap) → IsOf w h (primitive p) v
number_of p (number k) e w h = (p, refl, ap (kind_in k) e ∙ sym (computed_so p))
number_of p null e w h = cc
number_of p (reference a) e w h = cc

pub type_where : (w : World) (h : Heap) (t : FieldDescriptor) (v : Value) → FitsField w h t v → IsOf w h t v
type_where w h (primitive p) v e = number_of p v e w h
type_where w h (class name) (number k) e = elim e [ ]
type_where w h (class name) null e = tt
type_where w h (class name) (reference a) e = (tt, record { run_time = e.0; here = e.1; below = e.2 })
type_where w h (array c) (number k) e = elim e [ ]
type_where w h (array c) null e = tt
type_where w h (array c) (reference a) e = (tt, record { run_time = e.0; here = e.1; below = e.2 })

pub of_reference : (w : World) (h : Heap) (t : ReferenceType) (v : Value) → FitsReference w h t v → IsOf w h (descriptor_of t) v
of_reference w h (class_type name) v e = type_where w h (class name) v e
of_reference w h (array_type c) v e = type_where w h (array c) v e
