-- Elements of arrays, and casts.
use Rattle.std.proofs.Common.{◌≡◌, ℕ, List, [], ◌∷◌, Option, Some, None, sym, ap, ◌∙◌, subst}
use Rattle.names.specs.Descriptors.{FieldDescriptor, primitive, class as class_descriptor, array as array_descriptor}
use Rattle.names.specs.ReferenceTypes.{ReferenceType, class_type, array_type, descriptor_of}
use Rattle.hierarchy.specs.World.{World}
use Rattle.hierarchy.specs.Class.{ClassFact}
use Rattle.hierarchy.specs.Answer.{yes}
use Rattle.insn.specs.declared.kinds.Kind.TheVariants as kinds
use Rattle.insn.specs.OperandStacks.{beneath}
use Rattle.frames.specs.VerificationType.{VerificationType, null as null_type, class, array}
use Rattle.frames.specs.FrameFact.{FrameFact}
use Rattle.frames.specs.Slots.{to_reference}
use Rattle.frames.specs.Conditions.{NoneHolds}
use Rattle.rules.specs.TypingRules as rules
use Rattle.rules.specs.TypingRules.{ExpectedType}
use Rattle.rules.specs.Table.{object_array}
use Rattle.rules.specs.After.{popped, top_of, rest_of, element_of, after}
use Rattle.rules.specs.Rules.{accepts, operands, conditions}
use Rattle.machine.specs.Values.{Value, reference}
use Rattle.machine.specs.Heap.{ready, Object, object, Heap, IsBelowType, FitsReference, FitsField}
use Rattle.machine.specs.Effects as effects
use Rattle.machine.specs.Demands.{State}
use Rattle.machine.specs.Steps.{moved, Does}
use Rattle.verify.proofs.safety.Worlds.{IsWorld}
use Rattle.verify.proofs.safety.Fits.{View, Sound, Fit, Item, Items, Fits, Keeps, keep, both_yes, fits_up}
use Rattle.verify.proofs.safety.Agree.{AreDemanded}
use Rattle.verify.proofs.safety.Plain.{operands_yes, items_beneath, reference_item}

-- ---- checkcast

two_parts : (e : View) (h : Heap) (ws : List ExpectedType) (v : Value) (rest : List Value) (ts : List VerificationType) → AreDemanded ws (effects.demands_of (effects.passes (class_type []))) → Items e h (v ∷ rest) ts → Items e h rest (beneath ws ts)
two_parts e h ws v rest ts a f = items_beneath e h ws (effects.demands_of (effects.passes (class_type []))) (v ∷ rest) ts a f

pub passes_does : (e : View) (ws : List ExpectedType) (gs : List VerificationType) (r : ReferenceType) (s : State) (f : FrameFact) (a : Option Value) (q : ℕ) (t : State) → AreDemanded ws (effects.demands_of (effects.passes r)) → gs ≡ to_reference r ∷ [] → Fits e s f → Does e.world (effects.passes r) s a q t → Keeps e t (popped ws gs f)
passes_does e ws gs r s f a q t w g x d =
    let u : State = moved s q (d.0 ∷ d.1) in
    let fit : Fits e u (popped ws (to_reference r ∷ []) f) = record {
      items = (reference_item e s.heap r d.0 d.3, two_parts e s.heap ws d.0 d.1 f.stack w (subst (λ z. Items e s.heap z f.stack) d.2 x.items));
      slots = x.slots;
      paired = x.paired;
      long = x.long;
      only = x.only;
    } in
    keep e t u (popped ws gs f) d.5 (subst (λ z. Fits e u (popped ws z f)) (sym g) fit)

-- ---- aaload

abbrev type_in : Option Object → ReferenceType
type_in None = class_type []
type_in (Some o) = o.type

-- a value that fits a component fits each class above it
class_item : (e : View) (h : Heap) (y : FieldDescriptor) (n : List ℕ) (v : Value) → IsWorld e.world → IsBelowType e.world y (class_descriptor n) → FitsField e.world h y v → Item e h v (class n)
class_item e h (primitive p) n v iw b g = elim b.0 [ ]
class_item e h (class_descriptor m) n v iw b g = reference_item e h (class_type n) v (fits_up e.world h (class_type m) (class_type n) v iw g b)
class_item e h (array_descriptor c) n v iw b g = reference_item e h (class_type n) v (fits_up e.world h (array_type c) (class_type n) v iw g b)

array_item : (e : View) (h : Heap) (y c : FieldDescriptor) (v : Value) → IsWorld e.world → IsBelowType e.world y (array_descriptor c) → FitsField e.world h y v → Item e h v (array c)
array_item e h (array_descriptor d) c v iw b g = reference_item e h (array_type c) v (fits_up e.world h (array_type d) (array_type c) v iw g b)
array_item e h (primitive p) c v iw b g = elim b [ ]
array_item e h (class_descriptor m) c v iw b g = elim b [ ]

-- the run-time component is below the component of the type
component_below : (w : World) (h : Heap) (a : ℕ) (y u : FieldDescriptor) → FitsReference w h (array_type u) (reference a) → h a ≡ Some (object (array_type y) ready) → IsBelowType w y u
component_below w h a y u f at =
    let q : f.0 ≡ array_type y = ap type_in (sym f.1 ∙ at) in
    subst (λ r. IsBelowType w (descriptor_of r) (array_descriptor u)) q f.2

element : (hh : List ClassFact) (e : View) (h : Heap) (a : ℕ) (y : FieldDescriptor) (v : Value) (t : VerificationType) → Sound hh e → accepts hh object_array t ≡ yes → Fit e h (reference a) t → h a ≡ Some (object (array_type y) ready) → FitsField e.world h y v → Item e h v (element_of t)
element hh e h a y v (array (class_descriptor n)) so z f at g = class_item e h y n v so.world (component_below e.world h a y (class_descriptor n) f at) g
element hh e h a y v (array (array_descriptor c)) so z f at g = array_item e h y c v so.world (component_below e.world h a y (array_descriptor c) f at) g
element hh e h a y v (array (primitive p)) so z f at g = cc
element hh e h a y v null_type so z f at g = cc
element hh e h a y v _ so z f at g = cc

elements_items : (hh : List ClassFact) (e : View) (h : Heap) (i : Value) (a : ℕ) (y : FieldDescriptor) (rest : List Value) (v : Value) (ts : List VerificationType) → Sound hh e → operands hh (rules.number kinds.Int ∷ object_array ∷ []) ts ≡ yes → h a ≡ Some (object (array_type y) ready) → FitsField e.world h y v → Items e h (i ∷ reference a ∷ rest) ts → Items e h (v ∷ rest) (element_of (top_of (rest_of ts)) ∷ rest_of (rest_of ts))
elements_items hh e h i a y rest v (t ∷ (u ∷ us)) so z at g f =
    let p = both_yes (accepts hh (rules.number kinds.Int) t) (operands hh (object_array ∷ []) (u ∷ us)) z in
    (element hh e h a y v u so (both_yes (accepts hh object_array u) yes p.1).0 f.1.0.fit at g, f.1.1)
elements_items hh e h i a y rest v (t ∷ []) so z at g f = elim f.1 [ ]
elements_items hh e h i a y rest v [] so z at g f = elim f [ ]

pub elements_does : (hh : List ClassFact) (e : View) (p : ℕ) (s : State) (f : FrameFact) (k : Option Value) (q : ℕ) (t : State) → Sound hh e → Fits e s f → NoneHolds (conditions hh e.method p rules.loads_element f) → Does e.world effects.takes_element s k q t → Keeps e t (after e.method p rules.loads_element f)
elements_does hh e p s f k q t so x c d =
    keep e t (moved s q (d.4 ∷ d.3)) (after e.method p rules.loads_element f) d.9 (record {
      items = elements_items hh e s.heap d.0 d.1 d.2 d.3 d.4 f.stack so (operands_yes hh (rules.number kinds.Int ∷ object_array ∷ []) f.stack c.1) d.6 d.7 (subst (λ z. Items e s.heap z f.stack) d.5 x.items);
      slots = x.slots;
      paired = x.paired;
      long = x.long;
      only = x.only;
    })
