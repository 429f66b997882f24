-- A method's answer fits its result, and the caller goes on with it.
use Rattle.std.proofs.Common.{◌≡◌, ℕ, ◌+◌, Bool, true, false, not, ◌&&◌, nat_eq, nat_lt, List, [], ◌∷◌, ◌++◌, length, slice_get, Option, Some, None, option_map, ◌⊎◌, inl, inr, if◌then◌else◌, sym, ap, refl, ◌∙◌, subst, arith, eqb-true}
use Rattle.names.specs.Descriptors.{FieldDescriptor, primitive, class, array, field_width}
use Rattle.names.specs.ReferenceTypes.{ReferenceType, class_type, array_type, dimensions_of, descriptor_of, is_class_type}
use Rattle.pool.specs.Entries as entries
use Rattle.pool.specs.Entries.{Entry}
use Rattle.pool.specs.ConstantMeanings.{FieldConstant, MethodConstant, constant_at, class_at, field_at, method_at, dynamic_type_at, CallSite, call_site_at}
use Rattle.names.specs.declared.base.Primitive.{Primitive}
use Rattle.classfile.specs.Methods.{Method}
use Rattle.hierarchy.specs.World.{World}
use Rattle.insn.specs.declared.kinds.Kind.{Kind}
use Rattle.insn.specs.declared.kinds.Kind.TheVariants as kinds
use Rattle.insn.specs.Meanings as acts
use Rattle.insn.specs.Meanings.{Act}
use Rattle.insn.specs.Kinds.{computed_as, same_kind}
use Rattle.insn.specs.OperandStacks.{beneath}
use Rattle.insn.specs.Offsets.{at_offset, next_offset}
use Rattle.machine.specs.Values.{Value, number, null, reference}
use Rattle.machine.specs.Heap.{Status, ready, made, this, object, Heap, with_object, FitsReference, FitsField, IsReady}
use Rattle.machine.specs.Effects as effects
use Rattle.machine.specs.Effects.{Demand, Reply, Effect, of_kind, of_type, arguments_on, reply_of, leaves, where_allowed, demands_of, effect, falls, targets}
use Rattle.machine.specs.Demands.{State, AllMeet, IsMade, IsOwn, MeetsRest, HasReceiver}
use Rattle.machine.specs.Steps as steps
use Rattle.machine.specs.Steps.{IsNull, Replies, Does, moved, moved_with, IsBranch, GoesTo, IsLast, Steps}
use Rattle.verify.specs.ClassRuns.{Types, Activation, heap_in, state_in, Way, static, special, virtual, IsReceiver, pushed, constructs, status_after, on_top, taken, resumed, handed_over}
use Rattle.verify.proofs.safety.ClassCalls.{CallsBy, special_effect, beneath_pushed, item_pushed}
use Rattle.verify.proofs.safety.ClassMoments.{Grows, same_heaps, there, here}

abbrev pub FitsAnswer : World → Heap → Option FieldDescriptor → Option Value → Type 0
FitsAnswer w h None answer = answer ≡ None
FitsAnswer w h (Some t) answer = (v : Value) × (answer ≡ Some v) × FitsField w h t v

-- ---- what a return hands over

kinds_same : (a b : Kind) → same_kind a b ≡ true → a ≡ b
kinds_same kinds.Int kinds.Int e = refl
kinds_same kinds.Long kinds.Long e = refl
kinds_same kinds.Float kinds.Float e = refl
kinds_same kinds.Double kinds.Double e = refl
kinds_same _ _ e = cc

module _ (w : World) (h : Heap) where
  kind_back : (p : Primitive) (k : Kind) (vs : List Value) (b : Bool) → same_kind (computed_as p) k ≡ b → IsLast (where_allowed b (leaves (of_kind k ∷ []))) → AllMeet w h (demands_of (where_allowed b (leaves (of_kind k ∷ [])))) vs → FitsAnswer w h (Some (primitive p)) (handed_over (where_allowed b (leaves (of_kind k ∷ []))) vs)
  kind_back p k [] true e l f = elim f [ ]
  kind_back p k (v ∷ vs) true e l f = (v, refl, f.0 ∙ ap number (sym (kinds_same (computed_as p) k e)))
  kind_back p k vs false e l f = elim l [ ]

  number_back : (r : Option FieldDescriptor) (k : Kind) (vs : List Value) → IsLast (effects.return_number r k) → AllMeet w h (demands_of (effects.return_number r k)) vs → FitsAnswer w h r (handed_over (effects.return_number r k) vs)
  number_back None k vs l f = elim l [ ]
  number_back (Some (primitive p)) k vs l f = kind_back p k vs (same_kind (computed_as p) k) refl l f
  number_back (Some (class n)) k vs l f = elim l [ ]
  number_back (Some (array c)) k vs l f = elim l [ ]

  reference_back : (r : Option FieldDescriptor) (vs : List Value) → IsLast (effects.return_reference r) → AllMeet w h (demands_of (effects.return_reference r)) vs → FitsAnswer w h r (handed_over (effects.return_reference r) vs)
  reference_back None vs l f = elim l [ ]
  reference_back (Some (primitive p)) vs l f = elim l [ ]
  reference_back (Some (class n)) [] l f = elim f [ ]
  reference_back (Some (class n)) (v ∷ vs) l f = (v, refl, f.0)
  reference_back (Some (array c)) [] l f = elim f [ ]
  reference_back (Some (array c)) (v ∷ vs) l f = (v, refl, f.0)

  nothing_back : (r : Option FieldDescriptor) (vs : List Value) → IsLast (effects.return_nothing r) → FitsAnswer w h r (handed_over (effects.return_nothing r) vs)
  nothing_back None vs l = refl
  nothing_back (Some t) vs l = elim l [ ]

-- no other instruction returns
no_allowed : (b : Bool) (t : Effect) → (IsLast t → ⊥) → IsLast (where_allowed b t) → ⊥
no_allowed true t n l = n l
no_allowed false t n l = l

no_computed : (judged : Bool) (units : ℕ) (t : Option FieldDescriptor) → IsLast (effects.load_dynamic judged units t) → ⊥
no_computed judged units None l = l
no_computed judged units (Some t) l = no_allowed (judged && nat_eq (field_width t) units) (effects.operates [] None (effects.gives_answer t) [] true) (λ k. k) l

no_constant : (m : Method Act) (t : Option FieldDescriptor) (o : Option Entry) → IsLast (effects.load_constant m t o) → ⊥
no_constant m t None l = l
no_constant m t (Some (entries.Integer bits)) l = l
no_constant m t (Some (entries.Float bits)) l = l
no_constant m t (Some (entries.String text)) l = l
no_constant m t (Some (entries.Class name)) l = l
no_constant m t (Some (entries.MethodType descriptor)) l = l
no_constant m t (Some (entries.MethodHandle kind target)) l = l
no_constant m t (Some (entries.Dynamic bootstrap name)) l = no_computed m.dynamic 1 t l
no_constant m t (Some _) l = l

no_wide_constant : (m : Method Act) (t : Option FieldDescriptor) (o : Option Entry) → IsLast (effects.load_wide_constant m t o) → ⊥
no_wide_constant m t None l = l
no_wide_constant m t (Some (entries.Long high low)) l = l
no_wide_constant m t (Some (entries.Double high low)) l = l
no_wide_constant m t (Some (entries.Dynamic bootstrap name)) l = no_computed m.dynamic 2 t l
no_wide_constant m t (Some _) l = l

pub no_get_static : (o : Option FieldConstant) → IsLast (effects.get_static o) → ⊥
no_get_static None l = l
no_get_static (Some f) l = l

pub no_put_static : (o : Option FieldConstant) → IsLast (effects.put_static o) → ⊥
no_put_static None l = l
no_put_static (Some f) l = l

pub no_get_field : (o : Option FieldConstant) → IsLast (effects.get_field o) → ⊥
no_get_field None l = l
no_get_field (Some f) l = l

pub no_put_field : (m : Method Act) (o : Option FieldConstant) → IsLast (effects.put_field m o) → ⊥
no_put_field m None l = l
no_put_field m (Some f) l = l

no_static : (n : ℕ) (o : Option MethodConstant) → IsLast (effects.invoke_static n o) → ⊥
no_static n None l = l
no_static n (Some c) l = no_allowed (is_class_type c.class && (not (effects.is_init_name c) && effects.may_name n c.interface)) (effects.static_call c) (λ k. k) l

no_site : (m : Method Act) (o : Option CallSite) → IsLast (effects.invoke_dynamic m o) → ⊥
no_site m None l = l
no_site m (Some c) l = no_allowed (m.dynamic && not (effects.is_special_name c)) (effects.call_of c.type) (λ k. k) l

no_virtual : (o : Option MethodConstant) → IsLast (effects.invoke_virtual o) → ⊥
no_virtual None l = l
no_virtual (Some c) l = no_allowed (not c.interface && (not (effects.is_init_name c) && effects.has_room_for_receiver c)) (effects.call_on c.class c) (λ k. k) l

no_interface : (n : ℕ) (o : Option MethodConstant) → IsLast (effects.invoke_interface n o) → ⊥
no_interface n None l = l
no_interface n (Some c) l = no_allowed (effects.may_invoke_interface n c) (effects.call_on c.class c) (λ k. k) l

no_constructor : (c : MethodConstant) (r : ReferenceType) → IsLast (effects.constructor_call c r) → ⊥
no_constructor c (class_type n) l = no_allowed (not c.interface && effects.has_room_for_receiver c) (effects.initializes n (arguments_on c.type.params [])) (λ k. k) l
no_constructor c (array_type n) l = l

abbrev special_effect_of : List ℕ → MethodConstant → Effect
special_effect_of me c = effects.calls_special c.class (arguments_on c.type.params (of_type (class_type me) ∷ [])) (Some (length c.type.params)) (reply_of c.type.result)

no_special : (n : ℕ) (me : List ℕ) (o : Option MethodConstant) → IsLast (effects.invoke_special n me o) → ⊥
no_special n me None l = l
no_special n me (Some c) l = go (effects.is_init_name c) l
  where
    go : (b : Bool) → IsLast (if b then effects.constructor_call c c.class else effects.special_call n me c) → ⊥
    go true k = no_constructor c c.class k
    go false k = no_allowed (is_class_type c.class && (effects.has_room_for_receiver c && effects.may_name n c.interface)) (special_effect_of me c) (λ i. i) k

no_new : (o : Option ReferenceType) → IsLast (effects.new_object o) → ⊥
no_new None l = l
no_new (Some (class_type n)) l = l
no_new (Some (array_type n)) l = l

no_new_array : (o : Option Primitive) → IsLast (effects.new_array o) → ⊥
no_new_array None l = l
no_new_array (Some p) l = l

no_reference_array : (o : Option ReferenceType) → IsLast (effects.new_reference_array o) → ⊥
no_reference_array None l = l
no_reference_array (Some t) l = no_allowed (nat_lt (dimensions_of t) 255) (effects.makes_array (of_kind kinds.Int ∷ []) (array_type (descriptor_of t))) (λ k. k) l

no_multi_array : (n : ℕ) (o : Option ReferenceType) → IsLast (effects.new_multi_array n o) → ⊥
no_multi_array n None l = l
no_multi_array n (Some t) l = no_allowed (nat_lt 0 n && not (nat_lt (dimensions_of t) n)) (effects.makes_array (effects.sizes n) t) (λ k. k) l

no_cast : (o : Option ReferenceType) → IsLast (effects.check_cast o) → ⊥
no_cast None l = l
no_cast (Some t) l = l

no_instance : (o : Option ReferenceType) → IsLast (effects.instance_of o) → ⊥
no_instance None l = l
no_instance (Some t) l = l

pub returned_fits : (w : World) (h : Heap) (m : Method Act) (a : Act) (vs : List Value) → IsLast (effect m a) → AllMeet w h (demands_of (effect m a)) vs → FitsAnswer w h m.type.result (handed_over (effect m a) vs)
returned_fits w h m (acts.Return k) vs l f = number_back w h m.type.result k vs l f
returned_fits w h m acts.ReturnReference vs l f = reference_back w h m.type.result vs l f
returned_fits w h m acts.ReturnVoid vs l f = nothing_back w h m.type.result vs l
returned_fits w h m (acts.LoadConstant i) vs l f = absurd (no_constant m (dynamic_type_at m.constant_pool i) (constant_at m.constant_pool i) l)
returned_fits w h m (acts.LoadWideConstant i) vs l f = absurd (no_wide_constant m (dynamic_type_at m.constant_pool i) (constant_at m.constant_pool i) l)
returned_fits w h m (acts.GetStatic i) vs l f = absurd (no_get_static (field_at m.constant_pool i) l)
returned_fits w h m (acts.PutStatic i) vs l f = absurd (no_put_static (field_at m.constant_pool i) l)
returned_fits w h m (acts.GetField i) vs l f = absurd (no_get_field (field_at m.constant_pool i) l)
returned_fits w h m (acts.PutField i) vs l f = absurd (no_put_field m (field_at m.constant_pool i) l)
returned_fits w h m (acts.InvokeVirtual i) vs l f = absurd (no_virtual (method_at m.constant_pool i) l)
returned_fits w h m (acts.InvokeSpecial i) vs l f = absurd (no_special m.major_version m.class (method_at m.constant_pool i) l)
returned_fits w h m (acts.InvokeStatic i) vs l f = absurd (no_static m.major_version (method_at m.constant_pool i) l)
returned_fits w h m (acts.InvokeInterface i n) vs l f = absurd (no_interface n (method_at m.constant_pool i) l)
returned_fits w h m (acts.InvokeDynamic i) vs l f = absurd (no_site m (call_site_at m.constant_pool i) l)
returned_fits w h m (acts.New i) vs l f = absurd (no_new (class_at m.constant_pool i) l)
returned_fits w h m (acts.NewArray p) vs l f = absurd (no_new_array p l)
returned_fits w h m (acts.NewReferenceArray i) vs l f = absurd (no_reference_array (class_at m.constant_pool i) l)
returned_fits w h m (acts.NewMultiArray i n) vs l f = absurd (no_multi_array n (class_at m.constant_pool i) l)
returned_fits w h m (acts.CheckCast i) vs l f = absurd (no_cast (class_at m.constant_pool i) l)
returned_fits w h m (acts.InstanceOf i) vs l f = absurd (no_instance (class_at m.constant_pool i) l)
returned_fits w h m _ vs l f = elim l [ ]

-- ---- the same value in the caller's view, where it is ready

reference_over : (w : World) (types next : Types) (st su : ℕ → Status) (t : ReferenceType) (v : Value) → Grows types next → FitsReference w (heap_in types st) t v → IsReady (heap_in next su) v → FitsReference w (heap_in next su) t v
reference_over w types next st su t (number k) g f r = f
reference_over w types next st su t null g f r = tt
reference_over w types next st su t (reference a) g f r =
    let p = there types st a (object f.0 ready) f.1 in
    let q = there next su a (object r.0 ready) r.1 in
    (f.0, here next su a f.0 ready (g a f.0 p.0) q.1, f.2)

field_over : (w : World) (types next : Types) (st su : ℕ → Status) (t : FieldDescriptor) (v : Value) → Grows types next → FitsField w (heap_in types st) t v → IsReady (heap_in next su) v → FitsField w (heap_in next su) t v
field_over w types next st su (primitive p) v g f r = f
field_over w types next st su (class n) v g f r = reference_over w types next st su (class_type n) v g f r
field_over w types next st su (array c) v g f r = reference_over w types next st su (array_type c) v g f r

pub answer_over : (w : World) (types next : Types) (st su : ℕ → Status) (r : Option FieldDescriptor) (answer : Option Value) → Grows types next → FitsAnswer w (heap_in types st) r answer → ((v : Value) → answer ≡ Some v → IsReady (heap_in next su) v) → FitsAnswer w (heap_in next su) r answer
answer_over w types next st su None answer g f r = f
answer_over w types next st su (Some t) answer g f r = (f.0, f.1, field_over w types next st su t f.0 g f.2 (r f.0 f.1))

-- ---- what the caller does with it

module _ (w : World) (types : Types) (a : Activation) where
  abbrev heap_now : Heap
  heap_now = heap_in types a.status

  abbrev now : State
  now = state_in types a

  live : (vs below : List Value) (o n : ℕ) → length vs ≡ n → IsNull (slice_get (pushed vs (reference o ∷ below)) n) → ⊥
  live vs below o n e f =
      let k : length vs + 0 ≡ n = omega arith in
      let i : slice_get (pushed vs (reference o ∷ below)) n ≡ Some (reference o) = subst (λ z. slice_get (pushed vs (reference o ∷ below)) z ≡ Some (reference o)) k (item_pushed vs (reference o ∷ below) 0) in
      subst IsNull i f

  replies : (r : Option FieldDescriptor) (answer : Option Value) (below : List Value) → FitsAnswer w heap_now r answer → (vs : List Value) × Replies w heap_now (reply_of r) answer vs × (on_top answer below ≡ vs ++ below)
  replies None answer below f = ([], (f, refl), ap (λ z. on_top z below) f)
  replies (Some t) answer below f = (f.0 ∷ [], (f.0, f.1, f.2, refl), ap (λ z. on_top z below) f.1)

  -- a call that returns, of a method that is no constructor
  abbrev Pushes : List Demand → Reply → List Value → Option Value → ℕ → List Value → Type 0
  Pushes demands reply receiver answer to below =
      (vs : List Value) × Replies w heap_now reply answer vs × (state_in types (resumed a false receiver below answer to) ≡ moved now to (vs ++ beneath demands a.stack))

  pushes : (demands : List Demand) (r : Option FieldDescriptor) (receiver : List Value) (answer : Option Value) (to : ℕ) (below : List Value) → beneath demands a.stack ≡ below → FitsAnswer w heap_now r answer → Pushes demands (reply_of r) receiver answer to below
  pushes demands r receiver answer to below e f =
      let k = replies r answer below f in
      (k.0, k.1, ap (λ z. moved now to z) (k.2 ∙ ap (λ z. k.0 ++ z) (sym e)))

  left : (c : MethodConstant) (ns : List Demand) (vs us : List Value) → a.stack ≡ pushed vs us → length vs ≡ length c.type.params → beneath (arguments_on c.type.params ns) a.stack ≡ beneath ns us
  left c ns vs us e l = ap (beneath (arguments_on c.type.params ns)) e ∙ beneath_pushed w heap_now c.type.params ns vs us l

  on_receiver : (c : MethodConstant) (r : ReferenceType) (receiver arguments below : List Value) (o : ℕ) (answer : Option Value) (to : ℕ) → a.stack ≡ pushed arguments (reference o ∷ below) → length arguments ≡ length c.type.params → FitsAnswer w heap_now c.type.result answer
      → steps.Operates w (arguments_on c.type.params (of_type r ∷ [])) (Some (length c.type.params)) (reply_of c.type.result) now answer to (state_in types (resumed a false receiver below answer to))
  on_receiver c r receiver arguments below o answer to e l f =
      (λ k. live arguments below o (length c.type.params) l (subst (λ z. IsNull (slice_get z (length c.type.params))) e k), pushes (arguments_on c.type.params (of_type r ∷ [])) c.type.result receiver answer to below (left c (of_type r ∷ []) arguments (reference o ∷ below) e l) f)

  without_receiver : (c : MethodConstant) (receiver arguments below : List Value) (answer : Option Value) (to : ℕ) → a.stack ≡ pushed arguments below → length arguments ≡ length c.type.params → FitsAnswer w heap_now c.type.result answer
      → steps.Operates w (arguments_on c.type.params []) None (reply_of c.type.result) now answer to (state_in types (resumed a false receiver below answer to))
  without_receiver c receiver arguments below answer to e l f =
      (tt, pushes (arguments_on c.type.params []) c.type.result receiver answer to below (left c [] arguments below e l) f)

  -- ---- of a constructor

  put_ready : (o : ℕ) (x : ReferenceType) (s : Status) → heap_now o ≡ Some (object x s) → (b : ℕ) → heap_in types (status_after true (reference o ∷ []) a.status) b ≡ with_object heap_now o (object x ready) b
  put_ready o x s e b = go (nat_eq o b) refl
    where
      go : (d : Bool) → nat_eq o b ≡ d → option_map (λ y. object y (if nat_eq o b then ready else a.status b)) (types b) ≡ (if nat_eq o b then Some (object x ready) else heap_now b)
      go true i = let t : types b ≡ Some x = subst (λ z. types z ≡ Some x) (eqb-true o b i) (there types a.status o (object x s) e).0 in rw (i, t) refl
      go false i = rw i refl

  initialized : (c : MethodConstant) (name : List ℕ) (arguments below : List Value) (o : ℕ) (x : ReferenceType) (s : Status) (answer : Option Value) (to : ℕ) → a.stack ≡ pushed arguments (reference o ∷ below) → length arguments ≡ length c.type.params → heap_now o ≡ Some (object x s)
      → Does w (effects.initializes name (arguments_on c.type.params [])) now None to (state_in types (resumed a true (reference o ∷ []) below answer to))
  initialized c name arguments below o x s answer to e l at =
      (o, below, x, s, left c [] arguments (reference o ∷ below) e l, at, refl, ap (λ z. moved_with now to below z) (same_heaps (heap_in types (status_after true (reference o ∷ []) a.status)) (with_object heap_now o (object x ready)) (put_ready o x s at)))

  -- ---- the step of the caller

  build : (act : Act) (t : Effect) (answer : Option Value) (to : ℕ) (u : State) → at_offset a.method.code a.at ≡ Some act → next_offset a.method.code a.at ≡ Some to → effect a.method act ≡ t → targets a.at t ≡ [] → falls t ≡ true → Does w t now answer to u → Steps w a.method now None answer [] u
  build act t answer to u here next e q r d = record {
    act = act;
    here = here;
    unused = tt;
    to = to;
    branches = subst (λ z. IsBranch z None to) (sym (ap (targets a.at) e ∙ q)) refl;
    goes = inr (ap falls e ∙ r, next);
    does = subst (λ z. Does w z now answer to u) (sym e) d;
  }

  -- an object that is not initialized
  pub record Uninitialized (o : ℕ) : Type 0 where
    pub type : ReferenceType
    pub status : Status
    pub at : heap_now o ≡ Some (object type status)
    pub not_ready : status ≡ ready → ⊥

  pub made_or_own : (c : List ℕ) (o : ℕ) → IsMade heap_now c o ⊎ IsOwn a.method heap_now c o → Uninitialized o
  made_or_own c o (inl i) = record { type = class_type c; status = made; at = i.here; not_ready = λ e. cc }
  made_or_own c o (inr i) = record { type = i.type; status = this; at = i.here; not_ready = λ e. cc }

  first_reference : (o p : ℕ) (us vs : List Value) → reference o ∷ us ≡ reference p ∷ vs → o ≡ p
  first_reference o p us vs e = cc

  -- it is the receiver that stands beneath the arguments
  pub receiver_is : (c : MethodConstant) (name : List ℕ) (arguments below : List Value) (o : ℕ) → a.stack ≡ pushed arguments (reference o ∷ below) → length arguments ≡ length c.type.params → HasReceiver a.method name (arguments_on c.type.params []) now → IsMade heap_now name o ⊎ IsOwn a.method heap_now name o
  receiver_is c name arguments below o e l r =
      let k : r.address ≡ o = first_reference r.address o r.rest below (sym r.here ∙ left c [] arguments (reference o ∷ below) e l) in
      subst (λ z. IsMade heap_now name z ⊎ IsOwn a.method heap_now name z) k r.uninitialized

  pub stack_of : (receiver arguments below : List Value) (o : ℕ) → a.stack ≡ pushed (receiver ++ arguments) below → receiver ≡ reference o ∷ [] → a.stack ≡ pushed arguments (reference o ∷ below)
  stack_of receiver arguments below o e q = e ∙ ap (λ z. pushed (z ++ arguments) below) q

  pub steps_answer : (act : Act) (way : Way) (c : MethodConstant) (receiver arguments below : List Value) (answer : Option Value) (to : ℕ) → at_offset a.method.code a.at ≡ Some act → next_offset a.method.code a.at ≡ Some to → a.stack ≡ pushed (receiver ++ arguments) below → IsReceiver way receiver → length arguments ≡ length c.type.params
      → CallsBy a.method act way c → MeetsRest w a.method (effect a.method act) now → FitsAnswer w heap_now c.type.result answer → Steps w a.method now None (taken (constructs way c) answer) [] (state_in types (resumed a (constructs way c) receiver below answer to))
  steps_answer act static c receiver arguments below answer to here next e one l by rest f =
      let k : a.stack ≡ pushed arguments below = e ∙ ap (λ z. pushed (z ++ arguments) below) one in
      build act (effects.static_call c) answer to (state_in types (resumed a false receiver below answer to)) here next by.does refl refl (without_receiver c receiver arguments below answer to k l f)
  steps_answer act virtual c receiver arguments below answer to here next e one l by rest f =
      build act (effects.call_on c.class c) answer to (state_in types (resumed a false receiver below answer to)) here next by.does refl refl (on_receiver c c.class receiver arguments below one.0 answer to (stack_of receiver arguments below one.0 e one.1) l f)
  steps_answer act special c receiver arguments below answer to here next e one l (inl by) rest f =
      subst (λ z. Steps w a.method now None (taken z answer) [] (state_in types (resumed a z receiver below answer to))) (sym by.init)
      (build act (special_effect a.method c) answer to (state_in types (resumed a false receiver below answer to)) here next by.does refl refl (on_receiver c (class_type a.method.class) receiver arguments below one.0 answer to (stack_of receiver arguments below one.0 e one.1) l f))
  steps_answer act special c receiver arguments below answer to here next e one l (inr by) rest f =
      let k = stack_of receiver arguments below one.0 e one.1 in
      let r = subst (λ z. MeetsRest w a.method z now) by.does rest in
      let u = made_or_own by.name one.0 (receiver_is c by.name arguments below one.0 k l r) in
      subst (λ z. Steps w a.method now None (taken z answer) [] (state_in types (resumed a z receiver below answer to))) (sym by.init)
      (subst (λ z. Steps w a.method now None None [] (state_in types (resumed a true z below answer to))) (sym one.1)
      (build act (effects.initializes by.name (arguments_on c.type.params [])) None to (state_in types (resumed a true (reference one.0 ∷ []) below answer to)) here next by.does refl refl (initialized c by.name arguments below one.0 u.type u.status answer to k l u.at)))
