-- The stack that an instruction leaves is the one that its act and constant say.
use Rattle.std.proofs.Common.{◌≡◌, ℕ, zero, suc, ◌+◌, Bool, true, false, List, [], ◌∷◌, ◌++◌, length, drop, slice_get, Option, Some, None, if◌then◌else◌, refl, sym, ap, ◌∙◌, subst, arith}
use Rattle.std.proofs.lemmas.List.{append_assoc, length-append}
use Rattle.names.specs.declared.base.Primitive.{Primitive}
use Rattle.names.specs.Descriptors.{FieldDescriptor, primitive, class as class_descriptor, array as array_descriptor}
use Rattle.names.specs.ReferenceTypes.{ReferenceType, class_type, array_type, descriptor_of}
use Rattle.pool.specs.Entries as entries
use Rattle.pool.specs.Entries.{Entry}
use Rattle.pool.specs.ConstantMeanings.{constant_at, class_at, FieldConstant, field_at, MethodConstant, method_at, dynamic_type_at, CallSite, call_site_at}
use Rattle.classfile.specs.Methods.{Method}
use Rattle.hierarchy.specs.World.{World}
use Rattle.insn.specs.declared.kinds.Kind.{Kind}
use Rattle.insn.specs.declared.kinds.Kind.TheVariants as kinds
use Rattle.insn.specs.declared.stack.StackPlace.{StackPlace}
use Rattle.insn.specs.declared.stack.StackOperator.{StackOperator}
use Rattle.insn.specs.declared.stack.StackOperator.TheVariants.{Pop, Pop2, Dup, DupX1, DupX2, Dup2, Dup2X1, Dup2X2, Swap}
use Rattle.insn.specs.Operators.{numeric_row, StackForm, stack_forms}
use Rattle.insn.specs.OperandStacks.{beneath, with_item, chosen, rearranged}
use Rattle.insn.specs.TableLaws.{units_in, moved_by, counted, IsFormFor}
use Rattle.insn.specs.Meanings as acts
use Rattle.insn.specs.Meanings.{Act}
use Rattle.insn.specs.Offsets.{IsAmong}
use Rattle.insn.proofs.ByUnits.{forms_move_units}
use Rattle.machine.specs.Values.{Value, number, null, reference, place_of}
use Rattle.machine.specs.Heap.{with_fresh}
use Rattle.machine.specs.Effects as effects
use Rattle.machine.specs.Effects.{Demand, Reply, Effect, effect, stuck}
use Rattle.machine.specs.Demands.{State, AreForm, MeetsRest}
use Rattle.machine.specs.Steps.{Replies, Does}
use Rattle.machine.specs.ByType.{units_of, units_of_all}
use Rattle.machine.specs.Pushes as by_act
use Rattle.machine.specs.Pushes.{Leaves, nothing, a_number, a_null, the_answer, the_local, the_top, the_items, leaves, AreMoved, IsLeft, StackBounds}
use Rattle.machine.proofs.Moves.{beneath_drop}
use Rattle.machine.proofs.Outlook.{arguments_long, sizes_long}

-- ---- items of places

place_size : (v : Value) (ps : List StackPlace) → units_in (place_of v ∷ ps) ≡ units_of v + units_in ps
place_size (number kinds.Int) ps = refl
place_size (number kinds.Float) ps = refl
place_size (number kinds.Long) ps = refl
place_size (number kinds.Double) ps = refl
place_size null ps = refl
place_size (reference a) ps = refl

-- the items of the first of these places, and those beneath them
record Split (ps qs : List StackPlace) (vs : List Value) : Type 0 where
  items : List Value
  rest : List Value
  parts : vs ≡ items ++ rest
  many : length items ≡ length ps
  size : units_of_all items ≡ units_in ps
  others : AreForm qs rest
  left : beneath (ps ++ qs) vs ≡ beneath qs rest

split : (ps qs : List StackPlace) (vs : List Value) → AreForm (ps ++ qs) vs → Split ps qs vs
split [] qs vs f = record { items = []; rest = vs; parts = refl; many = refl; size = refl; others = f; left = refl }
split (p ∷ ps) qs [] f = elim f [ ]
split (p ∷ ps) qs (v ∷ vs) f =
    let k = split ps qs vs f.1 in
    record {
      items = v ∷ k.items;
      rest = k.rest;
      parts = ap (λ z. v ∷ z) k.parts;
      many = ap suc k.many;
      size = ap (λ z. units_of v + z) k.size ∙ sym (place_size v ps) ∙ ap (λ z. units_in (z ∷ ps)) (sym f.0);
      others = k.others;
      left = k.left;
    }

-- the items of all of these places
record SplitAll (ps : List StackPlace) (vs : List Value) : Type 0 where
  items : List Value
  rest : List Value
  parts : vs ≡ items ++ rest
  many : length items ≡ length ps
  size : units_of_all items ≡ units_in ps
  left : beneath ps vs ≡ rest

split_all : (ps : List StackPlace) (vs : List Value) → AreForm ps vs → SplitAll ps vs
split_all [] vs f = record { items = []; rest = vs; parts = refl; many = refl; size = refl; left = refl }
split_all (p ∷ ps) [] f = elim f [ ]
split_all (p ∷ ps) (v ∷ vs) f =
    let k = split_all ps vs f.1 in
    record {
      items = v ∷ k.items;
      rest = k.rest;
      parts = ap (λ z. v ∷ z) k.parts;
      many = ap suc k.many;
      size = ap (λ z. units_of v + z) k.size ∙ sym (place_size v ps) ∙ ap (λ z. units_in (z ∷ ps)) (sym f.0);
      left = k.left;
    }

-- ---- items by their numbers

with_item_on : {A : Type 0} (o : Option A) (xs ys : List A) → with_item o (xs ++ ys) ≡ with_item o xs ++ ys
with_item_on None xs ys = refl
with_item_on (Some x) xs ys = refl

chosen_on : {A : Type 0} (items : List A) (ns ms : List ℕ) → chosen items (ns ++ ms) ≡ chosen items ns ++ chosen items ms
chosen_on items [] ms = refl
chosen_on items (n ∷ ns) ms = ap (with_item (slice_get items n)) (chosen_on items ns ms) ∙ with_item_on (slice_get items n) (chosen items ns) (chosen items ms)

at_seam : {A : Type 0} (before rest : List A) (x : A) → slice_get (before ++ (x ∷ rest)) (length before) ≡ Some x
at_seam [] rest x = refl
at_seam (b ∷ before) rest x = at_seam before rest x

chosen_counted : {A : Type 0} (before xs rest : List A) (ps : List StackPlace) → length xs ≡ length ps → chosen (before ++ (xs ++ rest)) (counted (length before) ps) ≡ xs
chosen_counted before [] rest [] e = refl
chosen_counted before [] rest (p ∷ ps) e = absurd (omega (arith, e))
chosen_counted before (x ∷ xs) rest [] e = absurd (omega (arith, e))
chosen_counted before (x ∷ xs) rest (p ∷ ps) e =
    let all = before ++ (x ∷ (xs ++ rest)) in
    let next : length (before ++ x ∷ []) ≡ length before + 1 = length-append before (x ∷ []) in
    let same : (before ++ x ∷ []) ++ (xs ++ rest) ≡ all = append_assoc before (x ∷ []) (xs ++ rest) in
    let others : chosen all (counted (length before + 1) ps) ≡ xs =
    ap (λ z. chosen z (counted (length before + 1) ps)) (sym same) ∙ ap (λ n. chosen ((before ++ x ∷ []) ++ (xs ++ rest)) (counted n ps)) (sym next)
    ∙ chosen_counted (before ++ x ∷ []) xs rest ps (omega (arith, e)) in
    ap (λ z. with_item z (chosen all (counted (length before + 1) ps))) (at_seam before (xs ++ rest) x) ∙ ap (λ z. x ∷ z) others

chosen_moved : {A : Type 0} (op : StackOperator) (items : List A) (ns ms : List ℕ) → chosen items (moved_by op ns ms) ≡ moved_by op (chosen items ns) (chosen items ms)
chosen_moved Pop items ns ms = refl
chosen_moved Pop2 items ns ms = refl
chosen_moved Swap items ns ms = chosen_on items ms ns
chosen_moved Dup items ns ms = chosen_on items ns (ms ++ ns) ∙ ap (λ z. chosen items ns ++ z) (chosen_on items ms ns)
chosen_moved DupX1 items ns ms = chosen_on items ns (ms ++ ns) ∙ ap (λ z. chosen items ns ++ z) (chosen_on items ms ns)
chosen_moved DupX2 items ns ms = chosen_on items ns (ms ++ ns) ∙ ap (λ z. chosen items ns ++ z) (chosen_on items ms ns)
chosen_moved Dup2 items ns ms = chosen_on items ns (ms ++ ns) ∙ ap (λ z. chosen items ns ++ z) (chosen_on items ms ns)
chosen_moved Dup2X1 items ns ms = chosen_on items ns (ms ++ ns) ∙ ap (λ z. chosen items ns ++ z) (chosen_on items ms ns)
chosen_moved Dup2X2 items ns ms = chosen_on items ns (ms ++ ns) ∙ ap (λ z. chosen items ns ++ z) (chosen_on items ms ns)

-- ---- instructions for the stack

pub are_moved : (op : StackOperator) (f : StackForm) (top passed : List StackPlace) (vs us : List Value) → IsFormFor op f top passed
    → AreForm f.takes vs → us ≡ rearranged f vs → AreMoved op vs us
are_moved op f top passed vs us k fits e =
    let a = split top passed vs (subst (λ z. AreForm z vs) k.takes fits) in
    let b = split_all passed a.rest a.others in
    let parts : vs ≡ a.items ++ (b.items ++ b.rest) = a.parts ∙ ap (λ z. a.items ++ z) b.parts in
    let front : chosen vs (counted 0 top) ≡ a.items =
    ap (λ z. chosen z (counted 0 top)) parts ∙ chosen_counted [] a.items (b.items ++ b.rest) top a.many in
    let middle : chosen vs (counted (length top) passed) ≡ b.items =
    ap (λ z. chosen z (counted (length top) passed)) parts ∙ ap (λ n. chosen (a.items ++ (b.items ++ b.rest)) (counted n passed)) (sym a.many)
    ∙ chosen_counted a.items b.items b.rest passed b.many in
    let picked : chosen vs f.leaves ≡ moved_by op a.items b.items =
    ap (chosen vs) k.leaves ∙ chosen_moved op vs (counted 0 top) (counted (length top) passed)
    ∙ ap (λ z. moved_by op z (chosen vs (counted (length top) passed))) front ∙ ap (λ z. moved_by op a.items z) middle in
    let under : beneath f.takes vs ≡ b.rest = ap (λ z. beneath z vs) k.takes ∙ a.left ∙ b.left in
    record {
      top = a.items;
      passed = b.items;
      rest = b.rest;
      items = parts;
      top_size = a.size ∙ k.top_size;
      passed_size = b.size ∙ k.passed_size;
      moved = e ∙ ap (λ z. z ++ beneath f.takes vs) picked ∙ ap (λ z. moved_by op a.items b.items ++ z) under;
    }

-- ---- of an effect

-- known by the act, or moved by a form
data Left : Type 0 where
  known : (left : Leaves) → Left
  formed : (forms : List StackForm) → Left

abbrev IsLeftBy : Left → State → Option Value → List Value → Type 0
IsLeftBy (known l) s answer stack = IsLeft l s answer stack
IsLeftBy (formed forms) s answer stack = (f : StackForm) × IsAmong f forms × AreForm f.takes s.stack × (stack ≡ rearranged f s.stack)

abbrev reply_left : Reply → ℕ → Leaves
reply_left effects.no_reply n = nothing n
reply_left (effects.gives_number k) n = a_number k n
reply_left effects.gives_null n = a_null n
reply_left (effects.gives_answer t) n = the_answer n

abbrev left_in : Effect → Left
left_in (effects.operates ns live r os on) = known (reply_left r (length ns))
left_in (effects.calls_special c ns live r) = known (reply_left r (length ns))
left_in (effects.reads n i) = known (the_local i)
left_in (effects.writes n i k) = known (nothing 1)
left_in (effects.increments i) = known (nothing 0)
left_in (effects.moves fs) = formed fs
left_in effects.takes_element = known (the_answer 2)
left_in (effects.passes t) = known the_top
left_in (effects.creates c) = known (the_answer 0)
left_in (effects.makes_array ns t) = known (the_answer (length ns))
left_in (effects.initializes c ns) = known (nothing (length ns + 1))
left_in _ = known (nothing 0)

next_dropped : (n : ℕ) (vs rest : List Value) (v : Value) → drop n vs ≡ v ∷ rest → drop (n + 1) vs ≡ rest
next_dropped zero [] rest v e = cc
next_dropped zero (u ∷ vs) rest v e = cc
next_dropped (suc n) [] rest v e = cc
next_dropped (suc n) (u ∷ vs) rest v e =
    let at : suc n + 1 ≡ suc (n + 1) = omega arith in
    ap (λ k. drop k (u ∷ vs)) at ∙ next_dropped n vs rest v e

module _ (w : World) (s : State) (answer : Option Value) (to : ℕ) where
  replied : (ns : List Demand) (r : Reply) (vs us : List Value) → Replies w s.heap r answer vs → us ≡ vs ++ beneath ns s.stack → IsLeft (reply_left r (length ns)) s answer us
  replied ns effects.no_reply vs us k e = e ∙ ap (λ z. z ++ beneath ns s.stack) k.1 ∙ beneath_drop ns s.stack
  replied ns (effects.gives_number x) vs us k e = e ∙ ap (λ z. z ++ beneath ns s.stack) k.1 ∙ ap (λ z. number x ∷ z) (beneath_drop ns s.stack)
  replied ns effects.gives_null vs us k e = e ∙ ap (λ z. z ++ beneath ns s.stack) k.1 ∙ ap (λ z. null ∷ z) (beneath_drop ns s.stack)
  replied ns (effects.gives_answer t) vs us k e = (k.0, k.1, e ∙ ap (λ z. z ++ beneath ns s.stack) k.3 ∙ ap (λ z. k.0 ∷ z) (beneath_drop ns s.stack))

  left_by : (t : Effect) (u : State) → Does w t s answer to u → IsLeftBy (left_in t) s answer u.stack
  left_by (effects.operates ns l r os b) u d = replied ns r d.1.0 u.stack d.1.1 (ap (λ z. z.stack) d.1.2)
  left_by (effects.calls_special c ns l r) u d = replied ns r d.1.0 u.stack d.1.1 (ap (λ z. z.stack) d.1.2)
  left_by (effects.reads n i) u d = (d.0, d.1, ap (λ z. z.stack) d.3)
  left_by (effects.writes n i k) u d = ap (λ z. z.stack) d.4 ∙ ap (λ z. drop 1 z) (sym d.2)
  left_by (effects.increments i) u d = ap (λ z. z.stack) d.1
  left_by (effects.moves fs) u d = (d.0, d.1, d.2, ap (λ z. z.stack) d.4)
  left_by effects.takes_element u d = (d.4, d.8, ap (λ z. z.stack) d.9 ∙ ap (λ z. d.4 ∷ z) (sym (ap (λ z. drop 2 z) d.5)))
  left_by (effects.passes t) u d = ap (λ z. z.stack) d.5 ∙ sym d.2
  left_by (effects.creates c) u d = (reference d.0, d.1, ap (λ z. z.stack) d.4)
  left_by (effects.makes_array ns t) u d = (reference d.0, d.1, ap (λ z. z.stack) d.4 ∙ ap (λ z. reference d.0 ∷ z) (beneath_drop ns s.stack))
  left_by (effects.initializes c ns) u d =
      ap (λ z. z.stack) d.7 ∙ sym (next_dropped (length ns) s.stack d.1 (reference d.0) (sym (beneath_drop ns s.stack) ∙ d.4))
  left_by (effects.leaves ns) u d = elim d [ ]
  left_by (effects.throws n) u d = elim d [ ]
  left_by effects.ends u d = elim d [ ]
  left_by effects.stuck u d = elim d [ ]

-- ---- each instruction's effect leaves what its act and constant say

abbrev Seen : Effect → Leaves → Type 0
Seen t l = (t ≡ stuck → ⊥) → left_in t ≡ known l

where_allowed : (b : Bool) (t : Effect) (l : Leaves) → left_in t ≡ known l → Seen (effects.where_allowed b t) l
where_allowed true t l q e = q
where_allowed false t l q e = absurd (e refl)

computed_seen : (judged : Bool) (units : ℕ) (t : Option FieldDescriptor) → Seen (effects.load_dynamic judged units t) (the_answer 0)
computed_seen judged units (Some t) e = where_allowed _ (effects.operates [] None (effects.gives_answer t) [] true) (the_answer 0) refl e
computed_seen judged units None e = absurd (e refl)

constant_seen : (m : Method Act) (t : Option FieldDescriptor) (c : Option Entry) → Seen (effects.load_constant m t c) (the_answer 0)
constant_seen m t (Some (entries.Integer bits)) e = refl
constant_seen m t (Some (entries.Float bits)) e = refl
constant_seen m t (Some (entries.String text)) e = refl
constant_seen m t (Some (entries.Class name)) e = refl
constant_seen m t (Some (entries.MethodType d)) e = refl
constant_seen m t (Some (entries.MethodHandle k target)) e = refl
constant_seen m t (Some (entries.Dynamic bootstrap name)) e = computed_seen m.dynamic 1 t e
constant_seen m t _ e = absurd (e refl)

wide_constant_seen : (m : Method Act) (t : Option FieldDescriptor) (c : Option Entry) → Seen (effects.load_wide_constant m t c) (by_act.wide_constant_left c)
wide_constant_seen m t (Some (entries.Long high low)) e = refl
wide_constant_seen m t (Some (entries.Double high low)) e = refl
wide_constant_seen m t (Some (entries.Dynamic bootstrap name)) e = computed_seen m.dynamic 2 t e
wide_constant_seen m t _ e = absurd (e refl)

get_static_seen : (c : Option FieldConstant) → Seen (effects.get_static c) (the_answer 0)
get_static_seen (Some f) e = refl
get_static_seen None e = absurd (e refl)

put_static_seen : (c : Option FieldConstant) → Seen (effects.put_static c) (nothing 1)
put_static_seen (Some f) e = refl
put_static_seen None e = absurd (e refl)

get_field_seen : (c : Option FieldConstant) → Seen (effects.get_field c) (the_answer 1)
get_field_seen (Some f) e = refl
get_field_seen None e = absurd (e refl)

put_field_seen : (m : Method Act) (c : Option FieldConstant) → Seen (effects.put_field m c) (nothing 2)
put_field_seen m (Some f) e = refl
put_field_seen m None e = absurd (e refl)

reply_seen : (r : Option FieldDescriptor) (n k : ℕ) → n ≡ k → known (reply_left (effects.reply_of r) n) ≡ known (by_act.result_left r k)
reply_seen None n k e = ap (λ z. known (nothing z)) e
reply_seen (Some t) n k e = ap (λ z. known (the_answer z)) e

called : (c : MethodConstant) (ns : List Demand)
    → known (reply_left (effects.reply_of c.type.result) (length (effects.arguments_on c.type.params ns))) ≡ known (by_act.call_left (Some c) (length ns))
called c ns = reply_seen c.type.result (length (effects.arguments_on c.type.params ns)) (length c.type.params + length ns) (arguments_long c.type.params ns)

static_seen : (n : ℕ) (c : Option MethodConstant) → Seen (effects.invoke_static n c) (by_act.call_left c 0)
static_seen n (Some c) e = where_allowed _ (effects.static_call c) (by_act.call_left (Some c) 0) (called c []) e
static_seen n None e = absurd (e refl)

site_seen : (m : Method Act) (c : Option CallSite) → Seen (effects.invoke_dynamic m c) (by_act.site_left c)
site_seen m (Some c) e =
    let long = arguments_long c.type.params [] in
    where_allowed _ (effects.call_of c.type) (by_act.site_left (Some c))
    (reply_seen c.type.result (length (effects.arguments_on c.type.params [])) (length c.type.params) (omega (arith, long))) e
site_seen m None e = absurd (e refl)

virtual_seen : (c : Option MethodConstant) → Seen (effects.invoke_virtual c) (by_act.call_left c 1)
virtual_seen (Some c) e = where_allowed _ (effects.call_on c.class c) (by_act.call_left (Some c) 1) (called c (effects.of_type c.class ∷ [])) e
virtual_seen None e = absurd (e refl)

interface_seen : (n : ℕ) (c : Option MethodConstant) → Seen (effects.invoke_interface n c) (by_act.call_left c 1)
interface_seen n (Some c) e = where_allowed _ (effects.call_on c.class c) (by_act.call_left (Some c) 1) (called c (effects.of_type c.class ∷ [])) e
interface_seen n None e = absurd (e refl)

constructor_seen : (c : MethodConstant) (r : ReferenceType) → Seen (effects.constructor_call c r) (nothing (length c.type.params + 1))
constructor_seen c (class_type name) e =
    let long : length (effects.arguments_on c.type.params []) + 1 ≡ length c.type.params + 1 = let k = arguments_long c.type.params [] in omega (arith, k) in
    where_allowed _ (effects.initializes name (effects.arguments_on c.type.params [])) (nothing (length c.type.params + 1)) (ap (λ z. known (nothing z)) long) e
constructor_seen c (array_type component) e = absurd (e refl)

special_seen : (n : ℕ) (me : List ℕ) (c : Option MethodConstant) → Seen (effects.invoke_special n me c) (by_act.special_left c)
special_seen n me (Some c) = by (effects.is_init_name c)
  where
    by : (b : Bool) → Seen (if b then effects.constructor_call c c.class else effects.special_call n me c) (if b then nothing (length c.type.params + 1) else by_act.call_left (Some c) 1)
    by true = constructor_seen c c.class
    by false = λ e. where_allowed _ (effects.calls_special c.class _ _ _) (by_act.call_left (Some c) 1) (called c (effects.of_type (class_type me) ∷ [])) e
special_seen n me None = λ e. absurd (e refl)

new_seen : (c : Option ReferenceType) → Seen (effects.new_object c) (the_answer 0)
new_seen (Some (class_type name)) e = refl
new_seen _ e = absurd (e refl)

new_array_seen : (p : Option Primitive) → Seen (effects.new_array p) (the_answer 1)
new_array_seen (Some p) e = refl
new_array_seen None e = absurd (e refl)

array_of_seen : (c : Option ReferenceType) → Seen (effects.new_reference_array c) (the_answer 1)
array_of_seen (Some t) e = where_allowed _ (effects.makes_array (effects.of_kind kinds.Int ∷ []) (array_type (descriptor_of t))) (the_answer 1) refl e
array_of_seen None e = absurd (e refl)

by_counts_seen : (n : ℕ) (c : Option ReferenceType) → Seen (effects.new_multi_array n c) (the_answer n)
by_counts_seen n (Some t) e = where_allowed _ (effects.makes_array (effects.sizes n) t) (the_answer n) (ap (λ k. known (the_answer k)) (sizes_long n)) e
by_counts_seen n None e = absurd (e refl)

cast_seen : (c : Option ReferenceType) → Seen (effects.check_cast c) the_top
cast_seen (Some t) e = refl
cast_seen None e = absurd (e refl)

instance_seen : (c : Option ReferenceType) → Seen (effects.instance_of c) (a_number kinds.Int 1)
instance_seen (Some t) e = refl
instance_seen None e = absurd (e refl)

number_returned : (t : Option FieldDescriptor) (k : Kind) → Seen (effects.return_number t k) (nothing 0)
number_returned (Some (primitive p)) k e = where_allowed _ (effects.leaves (effects.of_kind k ∷ [])) (nothing 0) refl e
number_returned _ k e = absurd (e refl)

reference_returned : (t : Option FieldDescriptor) → Seen (effects.return_reference t) (nothing 0)
reference_returned (Some (class_descriptor c)) e = refl
reference_returned (Some (array_descriptor c)) e = refl
reference_returned _ e = absurd (e refl)

nothing_returned : (t : Option FieldDescriptor) → Seen (effects.return_nothing t) (nothing 0)
nothing_returned None e = refl
nothing_returned (Some t) e = absurd (e refl)

kinds_long : (ks : List Kind) → length (effects.demands_of_kinds ks) ≡ length ks
kinds_long [] = refl
kinds_long (k ∷ ks) = ap suc (kinds_long ks)

-- an instruction for the stack by its forms, and each other by its act
abbrev left_of : Method Act → Act → Left
left_of m (acts.Stack op) = formed (stack_forms op)
left_of m a = known (leaves m a)

seen : (m : Method Act) (a : Act) → (effect m a ≡ stuck → ⊥) → left_in (effect m a) ≡ left_of m a
seen m acts.Nothing e = refl
seen m (acts.Constant k) e = refl
seen m acts.ConstantNull e = refl
seen m (acts.LoadConstant i) e = constant_seen m (dynamic_type_at m.constant_pool i) (constant_at m.constant_pool i) e
seen m (acts.LoadWideConstant i) e = wide_constant_seen m (dynamic_type_at m.constant_pool i) (constant_at m.constant_pool i) e
seen m (acts.Load k n) e = refl
seen m (acts.LoadReference n) e = refl
seen m (acts.Store k n) e = refl
seen m (acts.StoreReference n) e = refl
seen m (acts.Increment n) e = refl
seen m (acts.Numeric op) e = ap (λ z. known (a_number (numeric_row op).given z)) (kinds_long (numeric_row op).taken)
seen m (acts.Stack op) e = refl
seen m (acts.IfInt t) e = refl
seen m (acts.IfInts t) e = refl
seen m (acts.IfReferences t) e = refl
seen m (acts.IfNull t) e = refl
seen m (acts.Goto t) e = refl
seen m (acts.Switch d ts) e = refl
seen m (acts.Return k) e = number_returned m.type.result k e
seen m acts.ReturnReference e = reference_returned m.type.result e
seen m acts.ReturnVoid e = nothing_returned m.type.result e
seen m (acts.GetStatic i) e = get_static_seen (field_at m.constant_pool i) e
seen m (acts.PutStatic i) e = put_static_seen (field_at m.constant_pool i) e
seen m (acts.GetField i) e = get_field_seen (field_at m.constant_pool i) e
seen m (acts.PutField i) e = put_field_seen m (field_at m.constant_pool i) e
seen m (acts.InvokeVirtual i) e = virtual_seen (method_at m.constant_pool i) e
seen m (acts.InvokeSpecial i) e = special_seen m.major_version m.class (method_at m.constant_pool i) e
seen m (acts.InvokeStatic i) e = static_seen m.major_version (method_at m.constant_pool i) e
seen m (acts.InvokeInterface i n) e = interface_seen n (method_at m.constant_pool i) e
seen m (acts.InvokeDynamic i) e = site_seen m (call_site_at m.constant_pool i) e
seen m (acts.New i) e = new_seen (class_at m.constant_pool i) e
seen m (acts.LoadElement p) e = refl
seen m (acts.StoreElement p) e = refl
seen m acts.LoadReferenceElement e = refl
seen m acts.StoreReferenceElement e = refl
seen m acts.ArrayLength e = refl
seen m (acts.NewArray p) e = new_array_seen p e
seen m (acts.NewReferenceArray i) e = array_of_seen (class_at m.constant_pool i) e
seen m (acts.NewMultiArray i n) e = by_counts_seen n (class_at m.constant_pool i) e
seen m (acts.CheckCast i) e = cast_seen (class_at m.constant_pool i) e
seen m (acts.InstanceOf i) e = instance_seen (class_at m.constant_pool i) e
seen m acts.Throw e = refl
seen m acts.Monitor e = refl
seen m acts.Unsupported e = absurd (e refl)

told : (m : Method Act) (a : Act) (s : State) (answer : Option Value) (us : List Value) → IsLeftBy (left_of m a) s answer us → IsLeft (leaves m a) s answer us
told m (acts.Stack op) s answer us k =
    let x = (forms_move_units op).each k.0 k.1 in
    are_moved op k.0 x.0 x.1 s.stack us x.2 k.2 k.3
told m _ s answer us k = k

-- ---- after each step

pub stack_bounds : StackBounds
stack_bounds w m s act here branch answer fresh t h =
    let before : State = record { at = s.at; stack = s.stack; locals = s.locals; heap = with_fresh s.heap fresh } in
    let steps = h.1 in
    let same : steps.act ≡ act = some_same steps.act act (sym steps.here ∙ here) in
    let also : h.0.act ≡ act = some_same h.0.act act (sym h.0.here ∙ here) in
    let not_stuck : effect m act ≡ stuck → ⊥ = λ e. subst (λ k. MeetsRest w m k s) e (subst (λ a. MeetsRest w m (effect m a) s) also h.0.operands.others) in
    let k : IsLeftBy (left_in (effect m act)) before answer t.stack = left_by w before answer steps.to (effect m act) t (subst (λ a. Does w (effect m a) before answer steps.to t) same steps.does) in
    told m act s answer t.stack (subst (λ l. IsLeftBy l s answer t.stack) (seen m act not_stuck) (as_before (left_in (effect m act)) k))
  where
    some_same : (a b : Act) → Some a ≡ Some b → a ≡ b
    some_same a b e = cc

    as_before : (l : Left) → IsLeftBy l (record { at = s.at; stack = s.stack; locals = s.locals; heap = with_fresh s.heap fresh }) answer t.stack → IsLeftBy l s answer t.stack
    as_before (known (nothing n)) k = k
    as_before (known (a_number x n)) k = k
    as_before (known (a_null n)) k = k
    as_before (known (the_answer n)) k = k
    as_before (known (the_local n)) k = k
    as_before (known the_top) k = k
    as_before (known (the_items op)) k = k
    as_before (formed fs) k = k
