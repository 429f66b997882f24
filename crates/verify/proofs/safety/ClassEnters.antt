-- A method that a call enters begins in a state that fits its first frame.
use Rattle.std.proofs.Common.{◌≡◌, ℕ, Bool, true, false, nat_eq, List, [], ◌∷◌, ◌++◌, length, Option, Some, None, option_map, ◌⊎◌, inl, inr, if◌then◌else◌, sym, ap, refl, ◌∙◌, subst, eqb-true, eq-eqb}
use Rattle.std.specs.Str.{bytes_eq}
use Rattle.std.specs.Option.{option_and_then}
use Rattle.names.specs.Descriptors.{MethodDescriptor}
use Rattle.names.specs.ReferenceTypes.{ReferenceType, class_type, array_type}
use Rattle.names.specs.StandardNames.{init_name, object_name}
use Rattle.names.specs.Reading.{method_answer}
use Rattle.pool.specs.Lookups.{MethodOf, method_ref_at}
use Rattle.pool.specs.ConstantMeanings.{found, MethodConstant, method_of_class, method_constant}
use Rattle.names.specs.ReferenceTypes.{reference_type}
use Rattle.classfile.specs.Methods.{Method, Receiver, no_receiver, ready_receiver, own_receiver, receiver_of}
use Rattle.hierarchy.specs.World.{World, IsSubclassIn, same}
use Rattle.hierarchy.specs.Class.{ClassFact}
use Rattle.hierarchy.specs.Rules.{IsHierarchy}
use Rattle.hierarchy.specs.Extends.{Extends}
use Rattle.insn.specs.Meanings as acts
use Rattle.insn.specs.Meanings.{Act}
use Rattle.machine.specs.Values.{Value, reference}
use Rattle.machine.specs.Heap.{Status, ready, made, this, object, Heap, IsBelow, FitsReference, AllFit}
use Rattle.machine.specs.Effects.{of_type, arguments_on, demands_of, effect}
use Rattle.machine.specs.Demands.{AllMeet, IsMade, IsOwn, MeetsRest, IsNoFault}
use Rattle.machine.specs.Runs.{Receives}
use Rattle.verify.specs.TypeSafety.{IsTypeSafe}
use Rattle.verify.specs.ClassRuns.{Callee, Types, Activation, heap_in, state_in, Way, static, special, virtual, by_way, called, IsReceiver, pushed, IsCall, MayEnter, first_status, entered}
use Rattle.verify.proofs.safety.Worlds.{name_same, sub_trans, world_of_hierarchy}
use Rattle.verify.proofs.safety.Fits.{fits_up}
use Rattle.verify.proofs.safety.Run.{begins_by}
use Rattle.verify.proofs.safety.ClassCalls.{CallsBy, calls_by, arguments_meet, some_same}
use Rattle.verify.proofs.safety.ClassMoments.{Unused, Good, KeepsReady, reference_in, all_in, there, here, none_some}
use Rattle.verify.proofs.safety.ClassReturns.{receiver_is, stack_of}

-- ---- the type of a call is its descriptor's

of_class_type : (r : MethodOf) (o : Option ReferenceType) (t : Option MethodDescriptor) (c : MethodConstant) → method_of_class r o t ≡ Some c → (t ≡ Some c.type) × (r.descriptor ≡ c.descriptor)
of_class_type r (Some k) (Some t) c e = let p = some_same _ c e in (ap (λ z. Some z.type) p, ap (λ z. z.descriptor) p)
of_class_type r None t c e = cc
of_class_type r (Some k) None c e = cc

abbrev option_bind : Option MethodOf → Option MethodConstant
option_bind o = option_and_then method_constant o

constant_type : (o : Option MethodOf) (c : MethodConstant) → option_bind o ≡ Some c → found (method_answer false c.descriptor) ≡ Some c.type
constant_type None c e = cc
constant_type (Some r) c e =
    let k = of_class_type r (reference_type r.class) (found (method_answer false r.descriptor)) c e in
    subst (λ z. found (method_answer false z) ≡ Some c.type) k.1 k.0

way_type : (way way' : Way) (o : Option MethodConstant) (c : MethodConstant) → by_way way o ≡ Some (way', c) → o ≡ Some c
way_type way way' None c e = cc
way_type way way' (Some d) c e = ap (λ z. option_map (λ x. x.1) z) e

pub called_type : (m : Method Act) (a : Act) (way : Way) (c : MethodConstant) → called m a ≡ Some (way, c) → found (method_answer false c.descriptor) ≡ Some c.type
called_type m (acts.InvokeStatic i) way c e = constant_type (found (method_ref_at m.constant_pool i)) c (way_type static way _ c e)
called_type m (acts.InvokeSpecial i) way c e = constant_type (found (method_ref_at m.constant_pool i)) c (way_type special way _ c e)
called_type m (acts.InvokeVirtual i) way c e = constant_type (found (method_ref_at m.constant_pool i)) c (way_type virtual way _ c e)
called_type m (acts.InvokeInterface i n) way c e = constant_type (found (method_ref_at m.constant_pool i)) c (way_type virtual way _ c e)
called_type m _ way c e = cc

-- ---- what is asked of a method in play

pub record IsPlayed (h : List ClassFact) (w : World) (k : Callee) : Type 0 where
  pub safe : IsTypeSafe h k.method
  pub super : (s : List ℕ) → k.method.superclass ≡ Some s → IsSubclassIn w k.method.class s
  pub init : k.method.is_init ≡ bytes_eq k.name init_name
  pub type : (t : MethodDescriptor) → found (method_answer false k.descriptor) ≡ Some t → k.method.type ≡ t

-- ---- the receiver of a method

static_receiver : (m : Method Act) → m.is_static ≡ true → receiver_of m ≡ no_receiver
static_receiver m e = rw e refl

plain_receiver : (m : Method Act) → m.is_static ≡ false → m.is_init ≡ false → receiver_of m ≡ ready_receiver
plain_receiver m e f = rw (e, f) refl

object_receiver : (m : Method Act) → m.is_static ≡ false → bytes_eq m.class object_name ≡ true → receiver_of m ≡ ready_receiver
object_receiver m e f = go m.is_init refl
  where
    go : (b : Bool) → m.is_init ≡ b → receiver_of m ≡ ready_receiver
    go true i = rw (e, i, f) refl
    go false i = rw (e, i) refl

constructor_receiver : (m : Method Act) → m.is_static ≡ false → m.is_init ≡ true → bytes_eq m.class object_name ≡ false → receiver_of m ≡ own_receiver
constructor_receiver m e i f = rw (e, i, f) refl

-- ---- readiness in the view of the method that is entered

ready_this : ready ≡ this → ⊥
ready_this e = cc

all_ready : (types : Types) (st su : ℕ → Status) → ((b : ℕ) → su b ≡ ready) → KeepsReady (heap_in types st) (heap_in types su)
all_ready types st su q b x e = here types su b x ready (there types st b (object x ready) e).0 (q b)

no_this : (types : Types) (su : ℕ → Status) → ((b : ℕ) → su b ≡ ready) → (b : ℕ) (x : ReferenceType) → heap_in types su b ≡ Some (object x this) → ⊥
no_this types su q b x e = ready_this (sym (q b) ∙ (there types su b (object x this) e).1)

module _ (types : Types) (st : ℕ → Status) (receiver : List Value) (o : ℕ) (one : receiver ≡ reference o ∷ []) where
  abbrev own_status : ℕ → Status
  own_status = first_status own_receiver receiver

  own_status_is : (b : ℕ) → own_status b ≡ (if nat_eq o b then this else ready)
  own_status_is b = ap (λ z. first_status own_receiver z b) one

  own_is_this : own_status o ≡ this
  own_is_this = own_status_is o ∙ rw (eq-eqb o o refl) refl

  own_ready : (x : ReferenceType) (s : Status) → heap_in types st o ≡ Some (object x s) → (s ≡ ready → ⊥) → KeepsReady (heap_in types st) (heap_in types own_status)
  own_ready x s at n b y e = go (nat_eq o b) refl
    where
      go : (d : Bool) → nat_eq o b ≡ d → heap_in types own_status b ≡ Some (object y ready)
      go true i =
          let p = (there types st o (object x s) at).1 in
          let q = (there types st b (object y ready) e).1 in
          absurd (n (sym p ∙ ap st (eqb-true o b i) ∙ q))
      go false i = here types own_status b y ready (there types st b (object y ready) e).0 (own_status_is b ∙ rw i refl)

  only_o : (b : ℕ) (x : ReferenceType) → heap_in types own_status b ≡ Some (object x this) → (own_receiver ≡ own_receiver) × (b ≡ o)
  only_o b x e = go (nat_eq o b) refl
    where
      go : (d : Bool) → nat_eq o b ≡ d → (own_receiver ≡ own_receiver) × (b ≡ o)
      go true i = (refl, sym (eqb-true o b i))
      go false i = absurd (ready_this (sym (own_status_is b ∙ rw i refl) ∙ (there types own_status b (object x this) e).1))

  own_unused : (x : ReferenceType) → types o ≡ Some x → Unused types own_status
  own_unused x at b e = go (nat_eq o b) refl
    where
      go : (d : Bool) → nat_eq o b ≡ d → own_status b ≡ ready
      go true i = absurd (none_some x (sym e ∙ subst (λ z. types z ≡ Some x) (eqb-true o b i) at))
      go false i = own_status_is b ∙ rw i refl

-- ---- a method that is entered

module _ (h : List ClassFact) (w : World) (hh : IsHierarchy h) (x : Extends w h) where
  abbrev Enterable : Types → Method Act → List Value → List Value → ℕ → Receiver → Type 0
  Enterable types m receiver arguments own r =
      Receives w m (heap_in types (first_status r receiver)) own r receiver → AllFit w (heap_in types (first_status r receiver)) m.type.params arguments
      → ((b : ℕ) (y : ReferenceType) → heap_in types (first_status r receiver) b ≡ Some (object y this) → (r ≡ own_receiver) × (b ≡ own))
      → Unused types (first_status r receiver) → Good h w types (entered m receiver arguments)

  enterable : (types : Types) (m : Method Act) (receiver arguments : List Value) (own : ℕ) (r : Receiver) → receiver_of m ≡ r → IsTypeSafe h m → ((s : List ℕ) → m.superclass ≡ Some s → IsSubclassIn w m.class s) → Enterable types m receiver arguments own r
  enterable types m receiver arguments own r e safe super = subst (Enterable types m receiver arguments own) e (λ receives fit only unused. record {
    safe = safe;
    super = super;
    own = own;
    inv = begins_by h m safe w hh x (state_in types (entered m receiver arguments)) refl (record { stack = refl; own = own; receiver = receiver; arguments = arguments; receives = receives; fit = fit; enough = safe.enough; locals = refl; only_own = only });
    unused = unused;
  })

  module _ (types : Types) (a : Activation) (g : Good h w types a) (k : Callee) (played : IsPlayed h w k) (c : MethodConstant) (name : k.name ≡ c.name) (type : k.method.type ≡ c.type) (receiver arguments below : List Value) (l : length arguments ≡ length c.type.params) where
    abbrev caller_heap : Heap
    caller_heap = heap_in types a.status

    arguments_fit : AllFit w caller_heap c.type.params arguments → AllFit w caller_heap k.method.type.params arguments
    arguments_fit f = subst (λ z. AllFit w caller_heap z.params arguments) (sym type) f

    not_init : bytes_eq c.name init_name ≡ false → k.method.is_init ≡ false
    not_init e = played.init ∙ ap (λ z. bytes_eq z init_name) name ∙ e

    is_init : bytes_eq c.name init_name ≡ true → k.method.is_init ≡ true
    is_init e = played.init ∙ ap (λ z. bytes_eq z init_name) name ∙ e

    enter_static : k.method.is_static ≡ true → receiver ≡ [] → AllFit w caller_heap c.type.params arguments → Good h w types (entered k.method receiver arguments)
    enter_static st one f =
        let su : ℕ → Status = first_status no_receiver receiver in
        let q : (b : ℕ) → su b ≡ ready = λ b. refl in
        enterable types k.method receiver arguments 0 no_receiver (static_receiver k.method st) played.safe played.super one (all_in w caller_heap (heap_in types su) k.method.type.params arguments (all_ready types a.status su q) (arguments_fit f)) (λ b y e. absurd (no_this types su q b y e)) (λ b e. refl)

    -- on an object that is ready for the caller, or that Object's constructor gets
    enter_ready : receiver_of k.method ≡ ready_receiver → (o : ℕ) → receiver ≡ reference o ∷ [] → FitsReference w (heap_in types (first_status ready_receiver receiver)) (class_type k.method.class) (reference o) → AllFit w caller_heap c.type.params arguments → Good h w types (entered k.method receiver arguments)
    enter_ready r o one fits f =
        let su : ℕ → Status = first_status ready_receiver receiver in
        let q : (b : ℕ) → su b ≡ ready = λ b. refl in
        enterable types k.method receiver arguments 0 ready_receiver r played.safe played.super (o, one, fits) (all_in w caller_heap (heap_in types su) k.method.type.params arguments (all_ready types a.status su q) (arguments_fit f)) (λ b y e. absurd (no_this types su q b y e)) (λ b e. refl)

    enter_on : k.method.is_static ≡ false → bytes_eq c.name init_name ≡ false → (o : ℕ) → receiver ≡ reference o ∷ [] → FitsReference w caller_heap (class_type k.method.class) (reference o) → AllFit w caller_heap c.type.params arguments → Good h w types (entered k.method receiver arguments)
    enter_on st i o one fits f =
        let su : ℕ → Status = first_status ready_receiver receiver in
        let q : (b : ℕ) → su b ≡ ready = λ b. refl in
        enter_ready (plain_receiver k.method st (not_init i)) o one (reference_in w caller_heap (heap_in types su) (class_type k.method.class) (reference o) (all_ready types a.status su q) fits) f

    object_fits : (o : ℕ) (y : ReferenceType) (su : ℕ → Status) → types o ≡ Some y → su o ≡ ready → k.method.class ≡ object_name → FitsReference w (heap_in types su) (class_type k.method.class) (reference o)
    object_fits o y su e q b = (y, here types su o y ready e q, below_object y)
      where
        below_object : (y : ReferenceType) → IsBelow w y (class_type k.method.class)
        below_object (class_type n) = (tt, inl b)
        below_object (array_type n) = (tt, inl b)

    -- the class of an object that is not initialized is the constructor's or below it
    class_below : (n : List ℕ) (o : ℕ) → class_type k.method.class ≡ class_type n → IsMade caller_heap n o ⊎ IsOwn a.method caller_heap n o → (y : List ℕ) × (s : Status) × (caller_heap o ≡ Some (object (class_type y) s)) × (s ≡ ready → ⊥) × IsSubclassIn w y k.method.class
    class_below n o e (inl i) =
        let f : k.method.class ≡ n = cc in
        (n, made, i.here, (λ z. cc), subst (λ z. IsSubclassIn w n z) (sym f) same)
    class_below n o e (inr i) =
        let f : k.method.class ≡ n = cc in
        let u = g.inv.fits.only o i.type i.here in
        (u.2.0, this, i.here ∙ ap (λ z. Some (object z this)) u.2.1, (λ z. cc), subst (λ z. IsSubclassIn w u.2.0 z) (sym f) (up u.2.0 u.2.2 i.class_of))
      where
        up : (y : List ℕ) → IsSubclassIn w y a.method.class → (a.method.class ≡ n) ⊎ (a.method.superclass ≡ Some n) → IsSubclassIn w y n
        up y s (inl e) = subst (λ z. IsSubclassIn w y z) e s
        up y s (inr e) = sub_trans w y a.method.class n s (g.super n e)

    enter_constructor : k.method.is_static ≡ false → bytes_eq c.name init_name ≡ true → (o : ℕ) → receiver ≡ reference o ∷ [] → (n : List ℕ) → class_type k.method.class ≡ class_type n → IsMade caller_heap n o ⊎ IsOwn a.method caller_heap n o → AllFit w caller_heap c.type.params arguments → Good h w types (entered k.method receiver arguments)
    enter_constructor st i o one n e u f = let b = class_below n o e u in go b.0 b.1 b.2 b.3 b.4 (there types a.status o (object (class_type b.0) b.1) b.2).0 (bytes_eq k.method.class object_name) refl
      where
        go : (y : List ℕ) (s : Status) → caller_heap o ≡ Some (object (class_type y) s) → (s ≡ ready → ⊥) → IsSubclassIn w y k.method.class → types o ≡ Some (class_type y) → (d : Bool) → bytes_eq k.method.class object_name ≡ d → Good h w types (entered k.method receiver arguments)
        go y s at not_ready sub kept true j =
            enter_ready (object_receiver k.method st j) o one (object_fits o (class_type y) (first_status ready_receiver receiver) kept refl (name_same k.method.class object_name j)) f
        go y s at not_ready sub kept false j =
            let su : ℕ → Status = first_status own_receiver receiver in
            enterable types k.method receiver arguments o own_receiver (constructor_receiver k.method st (is_init i) j) played.safe played.super (one, (y, here types su o (class_type y) this kept (own_is_this types a.status receiver o one), sub)) (all_in w caller_heap (heap_in types su) k.method.type.params arguments (own_ready types a.status receiver o one (class_type y) s at not_ready) (arguments_fit f)) (only_o types a.status receiver o one) (own_unused types a.status receiver o one (class_type y) kept)

    -- by each way
    enter_by : (act : Act) (way : Way) → a.stack ≡ pushed (receiver ++ arguments) below → IsReceiver way receiver → CallsBy a.method act way c → AllMeet w caller_heap (demands_of (effect a.method act)) a.stack → MeetsRest w a.method (effect a.method act) (state_in types a) → MayEnter w caller_heap way c receiver k.method → Good h w types (entered k.method receiver arguments)
    enter_by act static e one by meet rest may =
        let q : a.stack ≡ pushed arguments below = e ∙ ap (λ z. pushed (z ++ arguments) below) one in
        let n : AllMeet w caller_heap (arguments_on c.type.params []) (pushed arguments below) = subst (λ z. AllMeet w caller_heap (arguments_on c.type.params []) z) q (subst (λ z. AllMeet w caller_heap (demands_of z) a.stack) by.does meet) in
        enter_static may.0 one (arguments_meet w caller_heap c.type.params [] arguments below l n).0
    enter_by act virtual e one by meet rest may =
        let q = stack_of w types a receiver arguments below one.0 e one.1 in
        let n : AllMeet w caller_heap (arguments_on c.type.params (of_type c.class ∷ [])) (pushed arguments (reference one.0 ∷ below)) = subst (λ z. AllMeet w caller_heap (arguments_on c.type.params (of_type c.class ∷ [])) z) q (subst (λ z. AllMeet w caller_heap (demands_of z) a.stack) by.does meet) in
        enter_on may.0 by.init may.1.0 may.1.1 may.1.2 (arguments_meet w caller_heap c.type.params (of_type c.class ∷ []) arguments (reference one.0 ∷ below) l n).0
    enter_by act special e one (inl by) meet rest may =
        let q = stack_of w types a receiver arguments below one.0 e one.1 in
        let ns = of_type (class_type a.method.class) ∷ [] in
        let n : AllMeet w caller_heap (arguments_on c.type.params ns) (pushed arguments (reference one.0 ∷ below)) = subst (λ z. AllMeet w caller_heap (arguments_on c.type.params ns) z) q (subst (λ z. AllMeet w caller_heap (demands_of z) a.stack) by.does meet) in
        let d = arguments_meet w caller_heap c.type.params ns arguments (reference one.0 ∷ below) l n in
        let up : IsBelow w (class_type a.method.class) c.class = subst (λ z. MeetsRest w a.method z (state_in types a)) by.does rest in
        let fits = fits_up w caller_heap (class_type a.method.class) c.class (reference one.0) (world_of_hierarchy h w hh x) d.1.0 up in
        enter_on may.0 by.init one.0 one.1 (subst (λ z. FitsReference w caller_heap z (reference one.0)) (sym may.1) fits) d.0
    enter_by act special e one (inr by) meet rest may =
        let q = stack_of w types a receiver arguments below one.0 e one.1 in
        let n : AllMeet w caller_heap (arguments_on c.type.params []) (pushed arguments (reference one.0 ∷ below)) = subst (λ z. AllMeet w caller_heap (arguments_on c.type.params []) z) q (subst (λ z. AllMeet w caller_heap (demands_of z) a.stack) by.does meet) in
        let r = subst (λ z. MeetsRest w a.method z (state_in types a)) by.does rest in
        enter_constructor may.0 by.init one.0 one.1 by.name (may.1 ∙ by.class) (receiver_is w types a c by.name arguments below one.0 q l r) (arguments_meet w caller_heap c.type.params [] arguments (reference one.0 ∷ below) l n).0

  -- at a call whose instruction meets no fault
  pub record AtCall (types : Types) (a : Activation) (c : IsCall a) : Type 0 where
    pub operands : AllMeet w (heap_in types a.status) (demands_of (effect a.method c.act)) a.stack
    pub others : MeetsRest w a.method (effect a.method c.act) (state_in types a)

  pub at_call : (types : Types) (a : Activation) (c : IsCall a) → IsNoFault w a.method (state_in types a) → AtCall types a c
  at_call types a c n =
      let e : n.act ≡ c.act = some_same n.act c.act (sym n.here ∙ c.here) in
      record {
        operands = subst (λ z. AllMeet w (heap_in types a.status) (demands_of (effect a.method z)) a.stack) e n.operands.operands;
        others = subst (λ z. MeetsRest w a.method (effect a.method z) (state_in types a)) e n.operands.others;
      }

  pub callee_type : (a : Activation) (c : IsCall a) (k : Callee) → IsPlayed h w k → k.descriptor ≡ c.constant.descriptor → k.method.type ≡ c.constant.type
  callee_type a c k played e =
      played.type c.constant.type (ap (λ z. found (method_answer false z)) e ∙ called_type a.method c.act c.way c.constant c.calls)

  pub enters : (types : Types) (a : Activation) (g : Good h w types a) (c : IsCall a) (k : Callee) → IsPlayed h w k → IsNoFault w a.method (state_in types a) → k.name ≡ c.constant.name → k.descriptor ≡ c.constant.descriptor → MayEnter w (heap_in types a.status) c.way c.constant c.receiver k.method → Good h w types (entered k.method c.receiver c.arguments)
  enters types a g c k played n name descriptor may =
      let at = at_call types a c n in
      enter_by types a g k played c.constant name (callee_type a c k played descriptor) c.receiver c.arguments c.below c.all c.act c.way c.stack c.one (calls_by w a.method (state_in types a) c.act c.way c.constant c.calls at.others) at.operands at.others may
