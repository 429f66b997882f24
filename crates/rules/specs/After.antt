-- The frame after an instruction (JVMS 4.10.1.9), where its rule does not refuse it.
use Rattle.std.specs.Prelude.{ℕ, zero, suc, Bool, true, false, ◌&&◌, if◌then◌else◌, List, [], ◌∷◌, ◌++◌, map, slice_get, Option, Some, None}
use Rattle.names.specs.Descriptors.{FieldDescriptor, primitive, class as class_descriptor, array as array_descriptor}
use Rattle.classfile.specs.Methods.{Method}
use Rattle.insn.specs.declared.stack.StackPlace.{StackPlace}
use Rattle.insn.specs.declared.stack.StackPlace.TheVariants.{Narrow, Wide}
use Rattle.insn.specs.Operators.{StackForm}
use Rattle.insn.specs.OperandStacks.{beneath, rearranged}
use Rattle.insn.specs.Meanings.{Act}
use Rattle.frames.specs.VerificationType.{VerificationType, top, int, float, long, double, null, class, array, uninit_this, uninit}
use Rattle.frames.specs.FrameFact.{FrameFact}
use Rattle.frames.specs.Slots.{is_wide}
use Rattle.frames.specs.Objects.{is_made_at, is_initialized}
use Rattle.rules.specs.TypingRules.{ExpectedType, TypingRule, pops, loads, stores, increments, rearranges, loads_element, makes, constructs, calls_special, returns, refuses}

-- ---- the stack

abbrev pub with_stack : FrameFact → List VerificationType → FrameFact
with_stack f stack = record { locals = f.locals; stack = stack; flag = f.flag }

abbrev pub with_locals : FrameFact → List VerificationType → FrameFact
with_locals f locals = record { locals = locals; stack = f.stack; flag = f.flag }

abbrev pub popped : List ExpectedType → List VerificationType → FrameFact → FrameFact
popped expected_types gives f = with_stack f (gives ++ beneath expected_types f.stack)

-- an item that is not there counts as top, of which nothing is known
abbrev pub top_of : List VerificationType → VerificationType
top_of [] = top
top_of (t ∷ ts) = t

abbrev pub rest_of : List VerificationType → List VerificationType
rest_of [] = []
rest_of (t ∷ ts) = ts

abbrev pub or_top : Option VerificationType → VerificationType
or_top None = top
or_top (Some t) = t

-- ---- local variables

abbrev pub local_of : ℕ → FrameFact → VerificationType
local_of n f = or_top (slice_get f.locals n)

abbrev pub loaded : ℕ → FrameFact → FrameFact
loaded n f = with_stack f (local_of n f ∷ f.stack)

abbrev pub top_first : List VerificationType → List VerificationType
top_first [] = []
top_first (t ∷ ts) = top ∷ ts

-- a long or double makes the next local top; where the one before held a long or double, that becomes top
abbrev pub stored_type : VerificationType → ℕ → List VerificationType → List VerificationType
stored_type t n [] = []
stored_type t zero (x ∷ xs) = t ∷ (if is_wide t then top_first xs else xs)
stored_type t (suc zero) (x ∷ xs) = (if is_wide x then top else x) ∷ stored_type t zero xs
stored_type t (suc (suc n)) (x ∷ xs) = x ∷ stored_type t (suc n) xs

abbrev pub stored : ℕ → FrameFact → FrameFact
stored n f = record { locals = stored_type (top_of f.stack) n f.locals; stack = rest_of f.stack; flag = f.flag }

-- ---- forms of the stack's instructions: a narrow item is of one unit and not top, a wide one of two

abbrev pub is_narrow : VerificationType → Bool
is_narrow top = false
is_narrow int = true
is_narrow float = true
is_narrow long = false
is_narrow double = false
is_narrow null = true
is_narrow (class name) = true
is_narrow (array component) = true
is_narrow uninit_this = true
is_narrow (uninit offset) = true

abbrev pub fits_place : StackPlace → VerificationType → Bool
fits_place Narrow t = is_narrow t
fits_place Wide t = is_wide t

abbrev pub fits_places : List StackPlace → List VerificationType → Bool
fits_places [] ts = true
fits_places (p ∷ ps) [] = false
fits_places (p ∷ ps) (t ∷ ts) = fits_place p t && fits_places ps ts

-- the form that the stack fits
abbrev pub form_for : List StackForm → List VerificationType → Option StackForm
form_for [] ts = None
form_for (f ∷ fs) ts = if fits_places f.takes ts then Some f else form_for fs ts

abbrev pub rearranged_by : Option StackForm → List VerificationType → List VerificationType
rearranged_by None ts = ts
rearranged_by (Some f) ts = rearranged f ts

-- ---- elements of arrays of references

abbrev pub component_type : FieldDescriptor → VerificationType
component_type (primitive p) = top
component_type (class_descriptor name) = class name
component_type (array_descriptor component) = array component

abbrev pub element_of : VerificationType → VerificationType
element_of (array component) = component_type component
element_of null = null
element_of _ = top

-- ---- objects that are not initialized

-- a `new` at this offset forgets the object that an earlier pass over it made
abbrev pub forgotten : ℕ → VerificationType → VerificationType
forgotten at t = if is_made_at at t then top else t

-- once a constructor of the receiver has returned, the receiver has the type of its class
abbrev pub initialized : VerificationType → List ℕ → VerificationType → VerificationType
initialized receiver name t = if is_initialized receiver t then class name else t

-- the own object becomes one of the current class, any other object one of the class that `new` names
abbrev pub class_after : Method Act → List ℕ → VerificationType → List ℕ
class_after m name uninit_this = m.class
class_after m name _ = name

abbrev pub flag_after : VerificationType → Bool → Bool
flag_after uninit_this flag = false
flag_after _ flag = flag

abbrev pub constructed : Method Act → List ℕ → List ExpectedType → FrameFact → FrameFact
constructed m name expected_types f =
    let receiver = top_of (beneath expected_types f.stack) in
    let change = initialized receiver (class_after m name receiver) in
    record {
      locals = map change f.locals;
      stack = map change (rest_of (beneath expected_types f.stack));
      flag =
          flag_after receiver f.flag;
    }

-- ---- the frame after

abbrev pub after : Method Act → ℕ → TypingRule → FrameFact → FrameFact
after m at (pops expected_types gives offsets on) f = popped expected_types gives f
after m at (loads expected n width) f = loaded n f
after m at (stores expected n width) f = stored n f
after m at (increments n) f = f
after m at (rearranges forms) f = with_stack f (rearranged_by (form_for forms f.stack) f.stack)
after m at loads_element f = with_stack f (element_of (top_of (rest_of f.stack)) ∷ rest_of (rest_of f.stack))
after m at (makes name) f = record { locals = map (forgotten at) f.locals; stack = uninit at ∷ f.stack; flag = f.flag }
after m at (constructs name expected_types) f = constructed m name expected_types f
after m at (calls_special type expected_types gives) f = popped expected_types gives f
after m at returns f = f
after m at (refuses n) f = f
