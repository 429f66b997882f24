-- Each type that fits by the verifier's assignability fits in the machine.
use Rattle.std.proofs.Common.{List, refl}
use Rattle.names.specs.ReferenceTypes.{ReferenceType, class_type, array_type, descriptor_of}
use Rattle.hierarchy.specs.World.{World}
use Rattle.hierarchy.specs.Class.{ClassFact}
use Rattle.hierarchy.specs.Rules.{IsHierarchy}
use Rattle.hierarchy.specs.Extends.{Extends}
use Rattle.frames.specs.Slots.{to_reference}
use Rattle.machine.specs.Values.{Value}
use Rattle.machine.specs.Heap.{Heap, IsBelow, FitsReference, FitsField}
use Rattle.verify.specs.FitsBreadth.{IsAssignableTo, HasFits, FitsBreadth}
use Rattle.verify.proofs.safety.Worlds.{world_of_hierarchy, assignable_below}
use Rattle.verify.proofs.safety.Fits.{fits_up}

as_field : (w : World) (h : Heap) (v : Value) (t : ReferenceType) → FitsReference w h t v → FitsField w h (descriptor_of t) v
as_field w h v (class_type n) f = f
as_field w h v (array_type c) f = f

module _ (classes : List ClassFact) (hierarchy : IsHierarchy classes) (w : World) (x : Extends w classes) (h : Heap) where
  below : (t u : ReferenceType) → IsAssignableTo classes t u → IsBelow w t u
  below t u a = assignable_below classes w x (to_reference t) (to_reference u) a t u refl refl

  has_fits : HasFits classes w h
  has_fits = record {
    numbers = λ p. refl;
    nulls = λ t. tt;
    objects = λ a t u here f. (t, here, below t u f);
    values = λ v t u f a. fits_up w h t u v (world_of_hierarchy classes w hierarchy x) f (below t u a);
    fields = λ v t f. as_field w h v t f;
    types = below;
  }

pub fits_breadth : FitsBreadth
fits_breadth classes hierarchy w x h = has_fits classes hierarchy w x h
