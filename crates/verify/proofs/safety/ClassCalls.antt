-- Calls in a class run: what an instruction that calls asks for, and what it does with an answer.
use Rattle.std.proofs.Common.{◌≡◌, ℕ, suc, ◌+◌, Bool, true, false, not, ◌&&◌, List, [], ◌∷◌, length, slice_get, Option, Some, None, ◌⊎◌, inl, inr, if◌then◌else◌, ap, refl, ◌∙◌, subst, arith}
use Rattle.std.specs.Str.{bytes_eq}
use Rattle.names.specs.Descriptors.{FieldDescriptor, primitive, class, array}
use Rattle.names.specs.ReferenceTypes.{ReferenceType, class_type, array_type, is_class_type}
use Rattle.names.specs.StandardNames.{init_name}
use Rattle.pool.specs.ConstantMeanings.{MethodConstant, method_at}
use Rattle.classfile.specs.Methods.{Method}
use Rattle.hierarchy.specs.World.{World}
use Rattle.insn.specs.Meanings as acts
use Rattle.insn.specs.Meanings.{Act}
use Rattle.insn.specs.OperandStacks.{beneath}
use Rattle.machine.specs.Values.{Value}
use Rattle.machine.specs.Heap.{Heap, FitsField, AllFit}
use Rattle.machine.specs.Effects as effects
use Rattle.machine.specs.Effects.{Demand, Effect, of_type, demand_of, arguments_on, reply_of, operates, initializes, calls_special, stuck, where_allowed, is_init_name, has_room_for_receiver, may_name, may_invoke_interface, call_on, static_call, demands_of, effect}
use Rattle.machine.specs.Demands.{State, Meets, AllMeet, MeetsRest}
use Rattle.verify.specs.ClassRuns.{Way, static, special, virtual, by_way, called, pushed}

pub some_same : {A : Type 0} (a b : A) → Some a ≡ Some b → a ≡ b
some_same a b e = cc

-- ---- values pushed one after the other

pub beneath_pushed : (w : World) (h : Heap) (ts : List FieldDescriptor) (ns : List Demand) (vs us : List Value) → length vs ≡ length ts → beneath (arguments_on ts ns) (pushed vs us) ≡ beneath ns us
beneath_pushed w h [] ns [] us e = refl
beneath_pushed w h (t ∷ ts) ns (v ∷ vs) us e = beneath_pushed w h ts (demand_of t ∷ ns) vs (v ∷ us) cc
beneath_pushed w h [] ns (v ∷ vs) us e = cc
beneath_pushed w h (t ∷ ts) ns [] us e = cc

pub meets_field : (w : World) (h : Heap) (t : FieldDescriptor) (v : Value) → Meets w h (demand_of t) v → FitsField w h t v
meets_field w h (primitive p) v f = f
meets_field w h (class n) v f = f
meets_field w h (array c) v f = f

pub arguments_meet : (w : World) (h : Heap) (ts : List FieldDescriptor) (ns : List Demand) (vs us : List Value) → length vs ≡ length ts → AllMeet w h (arguments_on ts ns) (pushed vs us) → AllFit w h ts vs × AllMeet w h ns us
arguments_meet w h [] ns [] us e f = (tt, f)
arguments_meet w h (t ∷ ts) ns (v ∷ vs) us e f =
    let r = arguments_meet w h ts (demand_of t ∷ ns) vs (v ∷ us) (cc) f in
    ((meets_field w h t v r.1.0, r.0), r.1.1)
arguments_meet w h [] ns (v ∷ vs) us e f = cc
arguments_meet w h (t ∷ ts) ns [] us e f = cc

-- the item beneath the arguments
pub item_pushed : (vs us : List Value) (n : ℕ) → slice_get (pushed vs us) (length vs + n) ≡ slice_get us n
item_pushed [] us n = ap (slice_get us) (omega arith)
item_pushed (v ∷ vs) us n =
    let e : length vs + suc n ≡ length (v ∷ vs) + n = omega arith in
    subst (λ k. slice_get (pushed vs (v ∷ us)) k ≡ slice_get us n) e (item_pushed vs (v ∷ us) (suc n))

-- ---- the effect of a call

abbrev pub special_effect : Method Act → MethodConstant → Effect
special_effect m c = calls_special c.class (arguments_on c.type.params (of_type (class_type m.class) ∷ [])) (Some (length c.type.params)) (reply_of c.type.result)

pub record Initializes (m : Method Act) (a : Act) (c : MethodConstant) : Type 0 where
  pub name : List ℕ
  pub class : c.class ≡ class_type name
  pub does : effect m a ≡ initializes name (arguments_on c.type.params [])
  pub init : bytes_eq c.name init_name ≡ true

pub record Operates (m : Method Act) (a : Act) (c : MethodConstant) (t : Effect) : Type 0 where
  pub does : effect m a ≡ t
  pub init : bytes_eq c.name init_name ≡ false

abbrev pub CallsBy : Method Act → Act → Way → MethodConstant → Type 0
CallsBy m a static c = Operates m a c (static_call c)
CallsBy m a virtual c = Operates m a c (call_on c.class c)
CallsBy m a special c = Operates m a c (special_effect m c) ⊎ Initializes m a c

and_parts : (a b : Bool) → (a && b) ≡ true → (a ≡ true) × (b ≡ true)
and_parts true b e = (refl, e)
and_parts false b e = cc

not_true : (b : Bool) → not b ≡ true → b ≡ false
not_true false e = refl
not_true true e = cc

allowed : (w : World) (m : Method Act) (s : State) (b : Bool) (t : Effect) → MeetsRest w m (where_allowed b t) s → b ≡ true
allowed w m s true t f = refl
allowed w m s false t f = elim f [ ]

is_allowed : (b : Bool) (t : Effect) → b ≡ true → where_allowed b t ≡ t
is_allowed b t e = rw e refl

abbrev way_in : Way → Option (Way × MethodConstant) → Way
way_in other None = other
way_in other (Some x) = x.0

abbrev pub constant_in : MethodConstant → Option (Way × MethodConstant) → MethodConstant
constant_in other None = other
constant_in other (Some x) = x.1

module _ (w : World) (m : Method Act) (s : State) where
  operates_by : (a : Act) (c : MethodConstant) (b : Bool) (t : Effect) → effect m a ≡ where_allowed b t → b ≡ true → bytes_eq c.name init_name ≡ false → Operates m a c t
  operates_by a c b t e k i = record { does = e ∙ is_allowed b t k; init = i }

  some_call : (way way' : Way) (o : Option MethodConstant) (c : MethodConstant) → by_way way o ≡ Some (way', c) → (way ≡ way') × (o ≡ Some c)
  some_call way way' None c e = cc
  some_call way way' (Some d) c e = (ap (way_in way) e, ap (λ z. Some (constant_in d z)) e)

  static_by : (i : ℕ) (c : MethodConstant) → method_at m.constant_pool i ≡ Some c → MeetsRest w m (effect m (acts.InvokeStatic i)) s → Operates m (acts.InvokeStatic i) c (static_call c)
  static_by i c e f =
      let t : effect m (acts.InvokeStatic i) ≡ effects.invoke_static m.major_version (Some c) = ap (effects.invoke_static m.major_version) e in
      let b = allowed w m s _ (static_call c) (subst (λ z. MeetsRest w m z s) t f) in
      let k = and_parts _ _ (and_parts (is_class_type c.class) _ b).1 in
      operates_by (acts.InvokeStatic i) c _ (static_call c) t b (not_true _ k.0)

  virtual_by : (i : ℕ) (c : MethodConstant) → method_at m.constant_pool i ≡ Some c → MeetsRest w m (effect m (acts.InvokeVirtual i)) s → Operates m (acts.InvokeVirtual i) c (call_on c.class c)
  virtual_by i c e f =
      let t : effect m (acts.InvokeVirtual i) ≡ effects.invoke_virtual (Some c) = ap effects.invoke_virtual e in
      let b = allowed w m s _ (call_on c.class c) (subst (λ z. MeetsRest w m z s) t f) in
      let k = and_parts _ _ (and_parts (not c.interface) _ b).1 in
      operates_by (acts.InvokeVirtual i) c _ (call_on c.class c) t b (not_true _ k.0)

  interface_by : (i n : ℕ) (c : MethodConstant) → method_at m.constant_pool i ≡ Some c → MeetsRest w m (effect m (acts.InvokeInterface i n)) s → Operates m (acts.InvokeInterface i n) c (call_on c.class c)
  interface_by i n c e f =
      let t : effect m (acts.InvokeInterface i n) ≡ effects.invoke_interface n (Some c) = ap (effects.invoke_interface n) e in
      let b = allowed w m s _ (call_on c.class c) (subst (λ z. MeetsRest w m z s) t f) in
      let k = and_parts _ _ (and_parts c.interface _ (and_parts (is_class_type c.class) _ b).1).1 in
      operates_by (acts.InvokeInterface i n) c _ (call_on c.class c) t b (not_true _ k.0)

  constructor_by : (a : Act) (c : MethodConstant) (r : ReferenceType) → c.class ≡ r → effect m a ≡ effects.constructor_call c r → bytes_eq c.name init_name ≡ true → MeetsRest w m (effect m a) s → Initializes m a c
  constructor_by a c (class_type n) q e i f =
      let b = allowed w m s _ (initializes n (arguments_on c.type.params [])) (subst (λ z. MeetsRest w m z s) e f) in
      record { name = n; class = q; does = e ∙ is_allowed _ _ b; init = i }
  constructor_by a c (array_type n) q e i f = elim (subst (λ z. MeetsRest w m z s) e f) [ ]

  special_by : (i : ℕ) (c : MethodConstant) → method_at m.constant_pool i ≡ Some c → MeetsRest w m (effect m (acts.InvokeSpecial i)) s → Operates m (acts.InvokeSpecial i) c (special_effect m c) ⊎ Initializes m (acts.InvokeSpecial i) c
  special_by i c e f = go (is_init_name c) refl
    where
      whole : effect m (acts.InvokeSpecial i) ≡ effects.invoke_special m.major_version m.class (Some c)
      whole = ap (effects.invoke_special m.major_version m.class) e

      go : (b : Bool) → is_init_name c ≡ b → Operates m (acts.InvokeSpecial i) c (special_effect m c) ⊎ Initializes m (acts.InvokeSpecial i) c
      go true k = inr (constructor_by (acts.InvokeSpecial i) c c.class refl (whole ∙ ap (λ z. if z then effects.constructor_call c c.class else effects.special_call m.major_version m.class c) k) k f)
      go false k =
          let t : effect m (acts.InvokeSpecial i) ≡ effects.special_call m.major_version m.class c = whole ∙ ap (λ z. if z then effects.constructor_call c c.class else effects.special_call m.major_version m.class c) k in
          let b = allowed w m s _ (special_effect m c) (subst (λ z. MeetsRest w m z s) t f) in
          inl (operates_by (acts.InvokeSpecial i) c _ (special_effect m c) t b k)

  pub calls_by : (a : Act) (way : Way) (c : MethodConstant) → called m a ≡ Some (way, c) → MeetsRest w m (effect m a) s → CallsBy m a way c
  calls_by (acts.InvokeStatic i) way c e f = let k = some_call static way _ c e in subst (λ z. CallsBy m (acts.InvokeStatic i) z c) k.0 (static_by i c k.1 f)
  calls_by (acts.InvokeSpecial i) way c e f = let k = some_call special way _ c e in subst (λ z. CallsBy m (acts.InvokeSpecial i) z c) k.0 (special_by i c k.1 f)
  calls_by (acts.InvokeVirtual i) way c e f = let k = some_call virtual way _ c e in subst (λ z. CallsBy m (acts.InvokeVirtual i) z c) k.0 (virtual_by i c k.1 f)
  calls_by (acts.InvokeInterface i n) way c e f = let k = some_call virtual way _ c e in subst (λ z. CallsBy m (acts.InvokeInterface i n) z c) k.0 (interface_by i n c k.1 f)
  calls_by _ way c e f = cc
