-- Instructions that take operands and give results: what a rule's conditions say of the values, and what is pushed.
use Rattle.std.proofs.Common.{◌≡◌, ℕ, ◌+◌, ◌≤◌, Bool, true, false, not, ◌&&◌, ◌||◌, nat_lt, List, [], ◌∷◌, ◌++◌, map, Option, ◌⊎◌, inl, inr, sym, ap, refl, ◌∙◌, subst, arith, ltb-false}
use Rattle.names.specs.declared.base.Primitive.{Primitive}
use Rattle.names.specs.Descriptors.{FieldDescriptor, primitive, class as class_descriptor, array as array_descriptor}
use Rattle.names.specs.ReferenceTypes.{ReferenceType, class_type, array_type}
use Rattle.classfile.specs.Methods.{Method}
use Rattle.hierarchy.specs.World.{World}
use Rattle.hierarchy.specs.Class.{ClassFact}
use Rattle.hierarchy.specs.Answer.{Outcome, yes, no, missing}
use Rattle.insn.specs.declared.kinds.Kind.{Kind}
use Rattle.insn.specs.declared.kinds.Kind.TheVariants as kinds
use Rattle.insn.specs.Kinds.{computed_as, kind_units}
use Rattle.insn.specs.OperandStacks.{beneath}
use Rattle.insn.specs.Meanings.{Act}
use Rattle.frames.specs.VerificationType.{VerificationType, top, int, float, long, double, null as null_type, class, array, uninit_this, uninit}
use Rattle.frames.specs.FrameFact.{FrameFact}
use Rattle.frames.specs.FrameAssignable.{width_of}
use Rattle.frames.specs.Slots.{number_type, to_reference, descriptor_type, units_of}
use Rattle.frames.specs.Conditions.{Conditions, NoneHolds, is_no, missing_if}
use Rattle.rules.specs.TypingRules as rules
use Rattle.rules.specs.TypingRules.{ExpectedType, TypingRule}
use Rattle.rules.specs.After.{popped, after}
use Rattle.rules.specs.Rules.{is_reference, is_array, is_array_for, own_or_answer, accepts, is_short, operands, operand_conditions, family, is_missing_class, gives_frame, conditions}
use Rattle.machine.specs.Values.{Value, number, null, reference, is_wide_value, depth_of, field_units}
use Rattle.machine.specs.Heap.{Heap, IsBelow, FitsReference, FitsField, AllFit, IsReference, IsArray, FitsArray, IsArrayFor, FitsArrayFor, IsThis}
use Rattle.machine.specs.Effects as effects
use Rattle.machine.specs.Effects.{Demand, Reply, reply_units}
use Rattle.machine.specs.Demands.{State, Meets, AllMeet}
use Rattle.machine.specs.Steps.{Replies, moved}
use Rattle.verify.proofs.safety.Fits.{View, Sound, Fit, Item, Items, Fits, Keeps, keep, both_yes, yes_true, fit_number, fit_reference, assign_fit, depth_width, items_append}
use Rattle.verify.proofs.safety.Agree.{IsDemanded, AreDemanded, GivesReply}

-- ---- values that are accepted meet what is needed

reference_of : (w : World) (h : Heap) (t : ReferenceType) (v : Value) → FitsReference w h t v → IsReference v
reference_of w h t (number k) f = f
reference_of w h t null f = tt
reference_of w h t (reference a) f = tt

any_reference : (e : View) (h : Heap) (v : Value) (t : VerificationType) → is_reference t ≡ true → Fit e h v t → IsReference v
any_reference e h v null_type y f = subst IsReference (sym f) tt
any_reference e h v (class n) y f = reference_of e.world h (class_type n) v f
any_reference e h v (array c) y f = reference_of e.world h (array_type c) v f
any_reference e h v uninit_this y f = subst IsReference (sym f.0) tt
any_reference e h v (uninit p) y f = subst IsReference (sym f.0) tt
any_reference e h v top y f = cc
any_reference e h v int y f = cc
any_reference e h v float y f = cc
any_reference e h v long y f = cc
any_reference e h v double y f = cc

array_below : (w : World) (x : ReferenceType) (c : FieldDescriptor) → IsBelow w x (array_type c) → IsArray x
array_below w (array_type y) c b = tt
array_below w (class_type n) c b = elim b [ ]

array_of : (w : World) (h : Heap) (c : FieldDescriptor) (v : Value) → FitsReference w h (array_type c) v → FitsArray h v
array_of w h c (number k) f = f
array_of w h c null f = tt
array_of w h c (reference a) f = (f.0, f.1, array_below w f.0 c f.2)

any_array : (e : View) (h : Heap) (v : Value) (t : VerificationType) → is_array t ≡ true → Fit e h v t → FitsArray h v
any_array e h v null_type y f = subst (FitsArray h) (sym f) tt
any_array e h v (array c) y f = array_of e.world h c v f
any_array e h v _ y f = cc

array_for_below : (w : World) (p q : Primitive) (x : ReferenceType) → is_array_for p (array (primitive q)) ≡ true → IsBelow w x (array_type (primitive q)) → IsArrayFor p x
array_for_below w p q (array_type y) e b = subst (λ z. IsArrayFor p (array_type z)) (sym b) e
array_for_below w p q (class_type n) e b = elim b [ ]

array_for : (w : World) (h : Heap) (p q : Primitive) (v : Value) → is_array_for p (array (primitive q)) ≡ true → FitsReference w h (array_type (primitive q)) v → FitsArrayFor h p v
array_for w h p q (number k) y f = f
array_for w h p q null y f = tt
array_for w h p q (reference a) y f = (f.0, f.1, array_for_below w p q f.0 y f.2)

any_array_for : (e : View) (h : Heap) (p : Primitive) (v : Value) (t : VerificationType) → is_array_for p t ≡ true → Fit e h v t → FitsArrayFor h p v
any_array_for e h p v null_type y f = subst (FitsArrayFor h p) (sym f) tt
any_array_for e h p v (array (primitive q)) y f = array_for e.world h p q v y f
any_array_for e h p v _ y f = cc

own_or : (hh : List ClassFact) (e : View) (h : Heap) (c : List ℕ) (v : Value) (t : VerificationType) → Sound hh e → own_or_answer hh c t ≡ yes → Fit e h v t → FitsReference e.world h (class_type c) v ⊎ IsThis h v
own_or hh e h c v uninit_this so y f = inr (e.own, class_type f.1.0, f.0, f.1.1)
own_or hh e h c v top so y f = inl (assign_fit hh e h v top (class c) so y f)
own_or hh e h c v int so y f = inl (assign_fit hh e h v int (class c) so y f)
own_or hh e h c v float so y f = inl (assign_fit hh e h v float (class c) so y f)
own_or hh e h c v long so y f = inl (assign_fit hh e h v long (class c) so y f)
own_or hh e h c v double so y f = inl (assign_fit hh e h v double (class c) so y f)
own_or hh e h c v null_type so y f = inl (assign_fit hh e h v null_type (class c) so y f)
own_or hh e h c v (class n) so y f = inl (assign_fit hh e h v (class n) (class c) so y f)
own_or hh e h c v (array x) so y f = inl (assign_fit hh e h v (array x) (class c) so y f)
own_or hh e h c v (uninit p) so y f = inl (assign_fit hh e h v (uninit p) (class c) so y f)

pub accept_meets : (hh : List ClassFact) (e : View) (h : Heap) (x : ExpectedType) (n : Demand) (v : Value) (t : VerificationType) → IsDemanded x n → Sound hh e → accepts hh x t ≡ yes → Fit e h v t → Meets e.world h n v
accept_meets hh e h (rules.number k) (effects.of_kind l) v t a so y f = subst (λ z. v ≡ number z) a (fit_number e h v k (assign_fit hh e h v t (number_type k) so y f))
accept_meets hh e h (rules.assignable_to r) (effects.of_type q) v t a so y f = subst (λ z. FitsReference e.world h z v) a (fit_reference e h v r (assign_fit hh e h v t (to_reference r) so y f))
accept_meets hh e h rules.any_reference effects.some_reference v t a so y f = any_reference e h v t (yes_true _ y) f
accept_meets hh e h rules.any_array effects.some_array v t a so y f = any_array e h v t (yes_true _ y) f
accept_meets hh e h (rules.any_array_for p) (effects.some_array_for q) v t a so y f = subst (λ z. FitsArrayFor h z v) a (any_array_for e h p v t (yes_true _ y) f)
accept_meets hh e h (rules.own_or_assignable_to c) (effects.own_or_of d) v t a so y f = subst (λ z. FitsReference e.world h (class_type z) v ⊎ IsThis h v) a (own_or hh e h c v t so y f)
accept_meets hh e h _ _ v t a so y f = elim a [ ]

pub all_meet : (hh : List ClassFact) (e : View) (h : Heap) (ws : List ExpectedType) (ns : List Demand) (vs : List Value) (ts : List VerificationType) → AreDemanded ws ns → Sound hh e → is_short ws ts ≡ false → operands hh ws ts ≡ yes → Items e h vs ts → AllMeet e.world h ns vs
all_meet hh e h [] [] vs ts a so s y f = tt
all_meet hh e h (x ∷ xs) (n ∷ ns) (v ∷ vs) (t ∷ ts) a so s y f =
    let p = both_yes (accepts hh x t) (operands hh xs ts) y in
    (accept_meets hh e h x n v t a.0 so p.0 f.0.fit, all_meet hh e h xs ns vs ts a.1 so s p.1 f.1)
all_meet hh e h (x ∷ xs) (n ∷ ns) vs [] a so s y f = cc
all_meet hh e h (x ∷ xs) (n ∷ ns) [] (t ∷ ts) a so s y f = elim f [ ]
all_meet hh e h [] (n ∷ ns) vs ts a so s y f = elim a [ ]
all_meet hh e h (x ∷ xs) [] vs ts a so s y f = elim a [ ]

-- ---- what is left beneath operands

pub items_beneath_same : {A : Type 0} (e : View) (h : Heap) (ws : List A) (vs : List Value) (ts : List VerificationType) → Items e h vs ts → Items e h (beneath ws vs) (beneath ws ts)
items_beneath_same e h [] vs ts f = f
items_beneath_same e h (x ∷ xs) [] [] f = tt
items_beneath_same e h (x ∷ xs) (v ∷ vs) (t ∷ ts) f = items_beneath_same e h xs vs ts f.1
items_beneath_same e h (x ∷ xs) [] (t ∷ ts) f = elim f [ ]
items_beneath_same e h (x ∷ xs) (v ∷ vs) [] f = elim f [ ]

pub beneath_same : {A : Type 0} (ws : List ExpectedType) (ns : List Demand) (vs : List A) → AreDemanded ws ns → beneath ns vs ≡ beneath ws vs
beneath_same [] [] vs a = refl
beneath_same (w ∷ ws) (n ∷ ns) [] a = refl
beneath_same (w ∷ ws) (n ∷ ns) (v ∷ vs) a = beneath_same ws ns vs a.1
beneath_same [] (n ∷ ns) vs a = elim a [ ]
beneath_same (w ∷ ws) [] vs a = elim a [ ]

pub items_beneath : (e : View) (h : Heap) (ws : List ExpectedType) (ns : List Demand) (vs : List Value) (ts : List VerificationType) → AreDemanded ws ns → Items e h vs ts → Items e h (beneath ns vs) (beneath ws ts)
items_beneath e h ws ns vs ts a f = subst (λ z. Items e h z (beneath ws ts)) (sym (beneath_same ws ns vs a)) (items_beneath_same e h ws vs ts f)

-- ---- values that fit the types of fields and parameters

reference_narrow : (w : World) (h : Heap) (r : ReferenceType) (v : Value) → FitsReference w h r v → is_wide_value v ≡ false
reference_narrow w h r (number k) f = elim f [ ]
reference_narrow w h r null f = refl
reference_narrow w h r (reference a) f = refl

pub number_item : (e : View) (h : Heap) (k : Kind) → Item e h (number k) (number_type k)
number_item e h kinds.Int = record { wide = refl; fit = refl }
number_item e h kinds.Float = record { wide = refl; fit = refl }
number_item e h kinds.Long = record { wide = refl; fit = refl }
number_item e h kinds.Double = record { wide = refl; fit = refl }

pub reference_item : (e : View) (h : Heap) (r : ReferenceType) (v : Value) → FitsReference e.world h r v → Item e h v (to_reference r)
reference_item e h (class_type n) v f = record { wide = reference_narrow e.world h (class_type n) v f; fit = f }
reference_item e h (array_type c) v f = record { wide = reference_narrow e.world h (array_type c) v f; fit = f }

pub field_item : (e : View) (h : Heap) (t : FieldDescriptor) (v : Value) → FitsField e.world h t v → Item e h v (descriptor_type t)
field_item e h (primitive p) v f = subst (λ z. Item e h z (number_type (computed_as p))) (sym f) (number_item e h (computed_as p))
field_item e h (class_descriptor n) v f = reference_item e h (class_type n) v f
field_item e h (array_descriptor c) v f = reference_item e h (array_type c) v f

pub field_items : (e : View) (h : Heap) (ts : List FieldDescriptor) (vs : List Value) → AllFit e.world h ts vs → Items e h vs (map descriptor_type ts)
field_items e h [] [] f = tt
field_items e h (g ∷ gs) (v ∷ vs) f = (field_item e h g v f.0, field_items e h gs vs f.1)
field_items e h [] (v ∷ vs) f = elim f [ ]
field_items e h (g ∷ gs) [] f = elim f [ ]

-- ---- what is pushed

one_item : (e : View) (h : Heap) (v : Value) (t u : VerificationType) (vs : List Value) → Item e h v u → t ≡ u → vs ≡ v ∷ [] → Items e h vs (t ∷ [])
one_item e h v t u vs i p q = subst (λ z. Items e h z (t ∷ [])) (sym q) (subst (λ z. Item e h v z) (sym p) i, tt)

pub reply_items : (e : View) (h : Heap) (gs : List VerificationType) (r : Reply) (c : Option Value) (vs : List Value) → GivesReply gs r → Replies e.world h r c vs → Items e h vs gs
reply_items e h [] effects.no_reply c vs a f = subst (λ z. Items e h z []) (sym f.1) tt
reply_items e h (t ∷ []) (effects.gives_number k) c vs a f = one_item e h (number k) t (number_type k) vs (number_item e h k) a f.1
reply_items e h (t ∷ []) effects.gives_null c vs a f = one_item e h null t null_type vs (record { wide = refl; fit = refl }) a f.1
reply_items e h (t ∷ []) (effects.gives_answer x) c vs a f = one_item e h f.0 t (descriptor_type x) vs (field_item e h x f.0 f.2) a f.3
reply_items e h _ _ c vs a f = elim a [ ]

-- ---- widths

width_append : (ts us : List VerificationType) → units_of (ts ++ us) ≡ units_of ts + units_of us
width_append [] us = omega arith
width_append (t ∷ ts) us = let p = width_append ts us in omega arith

number_width : (k : Kind) → width_of (number_type k) ≡ kind_units k
number_width kinds.Int = refl
number_width kinds.Float = refl
number_width kinds.Long = refl
number_width kinds.Double = refl

field_width : (t : FieldDescriptor) → width_of (descriptor_type t) ≡ field_units t
field_width (primitive p) = number_width (computed_as p)
field_width (class_descriptor n) = refl
field_width (array_descriptor c) = refl

pub reply_width : (gs : List VerificationType) (r : Reply) → GivesReply gs r → units_of gs ≡ reply_units r
reply_width [] effects.no_reply a = refl
reply_width (t ∷ []) (effects.gives_number k) a = let p : width_of t ≡ kind_units k = ap width_of a ∙ number_width k in omega arith
reply_width (t ∷ []) effects.gives_null a = let p : width_of t ≡ 1 = ap width_of a in omega arith
reply_width (t ∷ []) (effects.gives_answer x) a = let p : width_of t ≡ field_units x = ap width_of a ∙ field_width x in omega arith
reply_width _ _ a = elim a [ ]

-- ---- what it says that no condition holds

pub yes_of : (a : Outcome) → is_no a ≡ false → (missing_if a).1 ≡ false → a ≡ yes
yes_of yes p q = refl
yes_of no p q = cc
yes_of (missing n) p q = cc

pub operands_yes : (hh : List ClassFact) (ws : List ExpectedType) (ts : List VerificationType) → NoneHolds (operand_conditions hh ws ts) → operands hh ws ts ≡ yes
operands_yes hh ws ts c = yes_of (operands hh ws ts) c.1.0 c.1.1.0

kept : (x y : Bool) → y ≡ false → (x || not y) ≡ true
kept true y e = refl
kept false y e = rw e refl

clean : (cs : Conditions) → NoneHolds cs → gives_frame cs ≡ true
clean [] a = refl
clean (c ∷ cs) a = let p = kept (is_missing_class c.0) c.1 a.0 in let q = clean cs a.1 in rw (p, q) refl

pub gated : (b c : Bool) → b ≡ true → (b && c) ≡ false → c ≡ false
gated true c e f = f
gated false c e f = cc

-- the stack after is not too wide
pub room : (hh : List ClassFact) (m : Method Act) (p : ℕ) (pl : TypingRule) (f : FrameFact) → NoneHolds (conditions hh m p pl f) → units_of (after m p pl f).stack ≤ m.max_stack
room hh m p pl f c = ltb-false m.max_stack (units_of (after m p pl f).stack) (gated (gives_frame (family hh m p pl f)) (nat_lt m.max_stack (units_of (after m p pl f).stack)) (clean (family hh m p pl f) c.1) c.0)

-- ---- operands are taken and results given

pub pops_met : (hh : List ClassFact) (e : View) (ws : List ExpectedType) (ns : List Demand) (s : State) (f : FrameFact) → AreDemanded ws ns → Sound hh e → Fits e s f → NoneHolds (operand_conditions hh ws f.stack) → AllMeet e.world s.heap ns s.stack
pops_met hh e ws ns s f a so x c = all_meet hh e s.heap ws ns s.stack f.stack a so c.0 (operands_yes hh ws f.stack c) x.items

pub pops_room : (e : View) (ws : List ExpectedType) (gs : List VerificationType) (ns : List Demand) (n k : ℕ) (s : State) (f : FrameFact) → AreDemanded ws ns → units_of gs ≡ k → Fits e s f → units_of (gs ++ beneath ws f.stack) ≤ n → k + depth_of (beneath ns s.stack) ≤ n
pops_room e ws gs ns n k s f a g x c =
    let w1 = width_append gs (beneath ws f.stack) in
    let w3 = depth_width e s.heap (beneath ns s.stack) (beneath ws f.stack) (items_beneath e s.heap ws ns s.stack f.stack a x.items) in
    omega arith

pub pops_does : (e : View) (ws : List ExpectedType) (gs : List VerificationType) (ns : List Demand) (r : Reply) (c : Option Value) (s : State) (f : FrameFact) (q : ℕ) (t : State) → AreDemanded ws ns → GivesReply gs r → Fits e s f → ((vs : List Value) × Replies e.world s.heap r c vs × (t ≡ moved s q (vs ++ beneath ns s.stack))) → Keeps e t (popped ws gs f)
pops_does e ws gs ns r c s f q t a g x d =
    keep e t (moved s q (d.0 ++ beneath ns s.stack)) (popped ws gs f) d.2 (record {
      items = items_append e s.heap d.0 (beneath ns s.stack) gs (beneath ws f.stack) (reply_items e s.heap gs r c d.0 g d.1) (items_beneath e s.heap ws ns s.stack f.stack a x.items);
      slots = x.slots;
      paired = x.paired;
      long = x.long;
      only = x.only;
    })
