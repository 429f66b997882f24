-- When values, local variables and states fit types and frames, under a map of the objects that are not initialized;
-- what assignability keeps.
use Rattle.std.proofs.Common.{◌≡◌, ℕ, Bool, true, false, ◌==◌, List, [], ◌∷◌, ◌++◌, map, length, Some, ◌⊎◌, sym, ap, refl, ◌∙◌, subst, arith, eqb-true}
use Rattle.names.specs.ReferenceTypes.{ReferenceType, class_type, array_type, descriptor_of}
use Rattle.classfile.specs.Methods.{Method}
use Rattle.hierarchy.specs.World.{World, IsSubclassIn}
use Rattle.hierarchy.specs.Class.{ClassFact}
use Rattle.hierarchy.specs.Extends.{Extends}
use Rattle.hierarchy.specs.Answer.{Outcome, yes, no, missing, yes_if}
use Rattle.insn.specs.declared.kinds.Kind.{Kind}
use Rattle.insn.specs.declared.kinds.Kind.TheVariants as kinds
use Rattle.insn.specs.Meanings.{Act}
use Rattle.frames.specs.VerificationType.{VerificationType, top, int, float, long, double, null as null_type, class, array, uninit_this, uninit}
use Rattle.frames.specs.FrameFact.{FrameFact}
use Rattle.frames.specs.Assignable.{type_answer}
use Rattle.frames.specs.FrameAssignable.{both, width_of, item_answer, list_answer, stack_answer, flag_answer, frame_answer}
use Rattle.frames.specs.Slots.{number_type, to_reference, is_wide, units_of}
use Rattle.rules.specs.Table.{class_made_at}
use Rattle.machine.specs.Values.{Value, number, null, reference, Slot, holds, is_wide_value, units, depth_of, ArePaired}
use Rattle.machine.specs.Heap.{ready, made, this, Object, object, Heap, IsBelow, FitsReference}
use Rattle.machine.specs.Demands.{State}
use Rattle.verify.proofs.safety.Worlds.{IsWorld, below_trans, answer_below}

-- The world, the method, the address of its own object; for each `new` the address of the object that it made, and
-- back.
pub record View : Type 0 where
  pub world : World
  pub method : Method Act
  pub own : ℕ
  pub site : ℕ → ℕ
  pub home : ℕ → ℕ

-- the world extends the hierarchy
pub record Sound (h : List ClassFact) (e : View) : Type 0 where
  pub extends : Extends e.world h
  pub world : IsWorld e.world

abbrev pub IsOwnObject : View → Heap → Type 0
IsOwnObject e h = (x : List ℕ) × (h e.own ≡ Some (object (class_type x) this)) × IsSubclassIn e.world x e.method.class

abbrev pub IsMadeObject : View → Heap → ℕ → Type 0
IsMadeObject e h p = (c : List ℕ) × (class_made_at e.method p ≡ Some c) × (h (e.site p) ≡ Some (object (class_type c) made))

abbrev pub Fit : View → Heap → Value → VerificationType → Type 0
Fit e h v top = Unit {0}
Fit e h v int = v ≡ number kinds.Int
Fit e h v float = v ≡ number kinds.Float
Fit e h v long = v ≡ number kinds.Long
Fit e h v double = v ≡ number kinds.Double
Fit e h v null_type = v ≡ null
Fit e h v (class n) = FitsReference e.world h (class_type n) v
Fit e h v (array c) = FitsReference e.world h (array_type c) v
Fit e h v uninit_this = (v ≡ reference e.own) × IsOwnObject e h
Fit e h v (uninit p) = (v ≡ reference (e.site p)) × (e.home (e.site p) ≡ p) × IsMadeObject e h p

-- an item of the stack keeps the width of its type
pub record Item (e : View) (h : Heap) (v : Value) (t : VerificationType) : Type 0 where
  pub wide : is_wide_value v ≡ is_wide t
  pub fit : Fit e h v t

abbrev pub Items : View → Heap → List Value → List VerificationType → Type 0
Items e h [] [] = Unit {0}
Items e h (v ∷ vs) (t ∷ ts) = Item e h v t × Items e h vs ts
Items e h _ _ = ⊥

abbrev pub SlotFit : View → Heap → Slot → VerificationType → Type 0
SlotFit e h s top = Unit {0}
SlotFit e h (holds v) t = Fit e h v t
SlotFit e h _ t = ⊥

abbrev pub Slots : View → Heap → List Slot → List VerificationType → Type 0
Slots e h [] [] = Unit {0}
Slots e h (s ∷ ss) (t ∷ ts) = SlotFit e h s t × Slots e h ss ts
Slots e h _ _ = ⊥

-- no object is `this` but the own one, and only while the flag is set
abbrev pub OnlyOwn : View → Heap → Bool → Type 0
OnlyOwn e h flag = (a : ℕ) (t : ReferenceType) → h a ≡ Some (object t this) → (a ≡ e.own) × (flag ≡ true) × ((x : List ℕ) × (t ≡ class_type x) × IsSubclassIn e.world x e.method.class)

pub record Fits (e : View) (s : State) (f : FrameFact) : Type 0 where
  pub items : Items e s.heap s.stack f.stack
  pub slots : Slots e s.heap s.locals f.locals
  pub paired : ArePaired s.locals
  pub long : length s.locals ≡ e.method.max_locals
  pub only : OnlyOwn e s.heap f.flag

-- ---- answers

pub both_yes : (a b : Outcome) → both a b ≡ yes → (a ≡ yes) × (b ≡ yes)
both_yes yes b e = (refl, e)
both_yes no b e = cc
both_yes (missing n) no e = cc
both_yes (missing n) yes e = cc
both_yes (missing n) (missing k) e = cc

pub yes_true : (b : Bool) → yes_if b ≡ yes → b ≡ true
yes_true true e = refl
yes_true false e = cc

-- ---- types of numbers and references

pub fit_number : (e : View) (h : Heap) (v : Value) (k : Kind) → Fit e h v (number_type k) → v ≡ number k
fit_number e h v kinds.Int f = f
fit_number e h v kinds.Float f = f
fit_number e h v kinds.Long f = f
fit_number e h v kinds.Double f = f

pub number_fit : (e : View) (h : Heap) (v : Value) (k : Kind) → v ≡ number k → Fit e h v (number_type k)
number_fit e h v kinds.Int f = f
number_fit e h v kinds.Float f = f
number_fit e h v kinds.Long f = f
number_fit e h v kinds.Double f = f

pub fit_reference : (e : View) (h : Heap) (v : Value) (t : ReferenceType) → Fit e h v (to_reference t) → FitsReference e.world h t v
fit_reference e h v (class_type n) f = f
fit_reference e h v (array_type c) f = f

pub reference_fit : (e : View) (h : Heap) (v : Value) (t : ReferenceType) → FitsReference e.world h t v → Fit e h v (to_reference t)
reference_fit e h v (class_type n) f = f
reference_fit e h v (array_type c) f = f

-- ---- widths

pub type_units : (t : VerificationType) → width_of t ≡ units (is_wide t)
type_units top = refl
type_units int = refl
type_units float = refl
type_units long = refl
type_units double = refl
type_units null_type = refl
type_units (class n) = refl
type_units (array c) = refl
type_units uninit_this = refl
type_units (uninit p) = refl

units_same : (a b : Bool) → units a ≡ units b → a ≡ b
units_same true true e = refl
units_same false false e = refl
units_same true false e = absurd (omega arith)
units_same false true e = absurd (omega arith)

pub widths_same : (t u : VerificationType) → width_of t ≡ width_of u → is_wide t ≡ is_wide u
widths_same t u e = units_same (is_wide t) (is_wide u) (sym (type_units t) ∙ e ∙ type_units u)

-- ---- assignability

pub fits_up : (w : World) (h : Heap) (x y : ReferenceType) (v : Value) → IsWorld w → FitsReference w h x v → IsBelow w x y → FitsReference w h y v
fits_up w h x y (number k) iw f b = f
fits_up w h x y null iw f b = tt
fits_up w h x y (reference a) iw f b = (f.0, f.1, below_trans w iw (descriptor_of f.0) (descriptor_of x) (descriptor_of y) f.2 b)

null_fits : (w : World) (h : Heap) (t : ReferenceType) (v : Value) → v ≡ null → FitsReference w h t v
null_fits w h t v f = subst (FitsReference w h t) (sym f) tt

pub assign_fit : (hh : List ClassFact) (e : View) (h : Heap) (v : Value) (a b : VerificationType) → Sound hh e → type_answer hh a b ≡ yes → Fit e h v a → Fit e h v b
assign_fit hh e h v a top so y f = tt
assign_fit hh e h v int int so y f = f
assign_fit hh e h v float float so y f = f
assign_fit hh e h v long long so y f = f
assign_fit hh e h v double double so y f = f
assign_fit hh e h v null_type null_type so y f = f
assign_fit hh e h v null_type (class n) so y f = null_fits e.world h (class_type n) v f
assign_fit hh e h v null_type (array c) so y f = null_fits e.world h (array_type c) v f
assign_fit hh e h v (class a) (class b) so y f = fits_up e.world h (class_type a) (class_type b) v so.world f (answer_below hh e.world so.extends (class_type a) (class_type b) y)
assign_fit hh e h v (array a) (class b) so y f = fits_up e.world h (array_type a) (class_type b) v so.world f (answer_below hh e.world so.extends (array_type a) (class_type b) y)
assign_fit hh e h v (array a) (array b) so y f = fits_up e.world h (array_type a) (array_type b) v so.world f (answer_below hh e.world so.extends (array_type a) (array_type b) y)
assign_fit hh e h v uninit_this uninit_this so y f = f
assign_fit hh e h v (uninit p) (uninit q) so y f = let r : p ≡ q = eqb-true p q (yes_true _ y) in subst (λ z. Fit e h v (uninit z)) r f
assign_fit hh e h v _ _ so y f = cc

pub items_assign : (hh : List ClassFact) (e : View) (h : Heap) (vs : List Value) (ts us : List VerificationType) → Sound hh e → stack_answer (item_answer hh) ts us ≡ yes → Items e h vs ts → Items e h vs us
items_assign hh e h [] [] [] so y f = tt
items_assign hh e h (v ∷ vs) (t ∷ ts) (u ∷ us) so y f =
    let p = both_yes (stack_answer (item_answer hh) ts us) (item_answer hh t u) y in
    let q = both_yes (yes_if (width_of t == width_of u)) (type_answer hh t u) p.1 in
    (record { wide = f.0.wide ∙ widths_same t u (eqb-true (width_of t) (width_of u) (yes_true _ q.0)); fit = assign_fit hh e h v t u so q.1 f.0.fit }, items_assign hh e h vs ts us so p.0 f.1)
items_assign hh e h [] [] (u ∷ us) so y f = cc
items_assign hh e h (v ∷ vs) (t ∷ ts) [] so y f = cc
items_assign hh e h [] (t ∷ ts) us so y f = elim f [ ]
items_assign hh e h (v ∷ vs) [] us so y f = elim f [ ]

no_top : (hh : List ClassFact) (u : VerificationType) → type_answer hh top u ≡ yes → u ≡ top
no_top hh top y = refl
no_top hh _ y = cc

pub slot_assign : (hh : List ClassFact) (e : View) (h : Heap) (s : Slot) (t u : VerificationType) → Sound hh e → type_answer hh t u ≡ yes → SlotFit e h s t → SlotFit e h s u
slot_assign hh e h s top u so y f = subst (λ z. SlotFit e h s z) (sym (no_top hh u y)) tt
slot_assign hh e h s t top so y f = tt
slot_assign hh e h (holds v) t u so y f = assign_fit hh e h v t u so y f
slot_assign hh e h _ t u so y f = elim f [ ]

pub slots_assign : (hh : List ClassFact) (e : View) (h : Heap) (ss : List Slot) (ts us : List VerificationType) → Sound hh e → list_answer (type_answer hh) ts us ≡ yes → Slots e h ss ts → Slots e h ss us
slots_assign hh e h [] [] [] so y f = tt
slots_assign hh e h (s ∷ ss) (t ∷ ts) (u ∷ us) so y f =
    let p = both_yes (type_answer hh t u) (list_answer (type_answer hh) ts us) y in
    (slot_assign hh e h s t u so p.0 f.0, slots_assign hh e h ss ts us so p.1 f.1)
slots_assign hh e h [] [] (u ∷ us) so y f = cc
slots_assign hh e h (s ∷ ss) (t ∷ ts) [] so y f = cc
slots_assign hh e h [] (t ∷ ts) us so y f = elim f [ ]
slots_assign hh e h (s ∷ ss) [] us so y f = elim f [ ]

flag_kept : (f g : Bool) → flag_answer f g ≡ yes → f ≡ true → g ≡ true
flag_kept true true y e = refl
flag_kept true false y e = cc
flag_kept false g y e = cc

pub frame_assign : (hh : List ClassFact) (e : View) (s : State) (f g : FrameFact) → Sound hh e → frame_answer hh f g ≡ yes → Fits e s f → Fits e s g
frame_assign hh e s f g so y x =
    let p = both_yes (flag_answer f.flag g.flag) _ y in
    let q = both_yes (list_answer (type_answer hh) f.locals g.locals) (stack_answer (item_answer hh) f.stack g.stack) p.1 in
    record {
      items = items_assign hh e s.heap s.stack f.stack g.stack so q.1 x.items;
      slots = slots_assign hh e s.heap s.locals f.locals g.locals so q.0 x.slots;
      paired = x.paired;
      long = x.long;
      only = λ a t at. let o = x.only a t at in (o.0, flag_kept f.flag g.flag p.0 o.1, o.2);
    }

-- ---- the heap only gains objects that are ready

pub record Gains (h k : Heap) : Type 0 where
  pub keeps : (a : ℕ) (o : Object) → h a ≡ Some o → k a ≡ Some o
  pub gains : (a : ℕ) (o : Object) → k a ≡ Some o → (h a ≡ Some o) ⊎ (o.status ≡ ready)

pub reference_grows : (w : World) (h k : Heap) (t : ReferenceType) (v : Value) → ((a : ℕ) (o : Object) → h a ≡ Some o → k a ≡ Some o) → FitsReference w h t v → FitsReference w k t v
reference_grows w h k t (number j) g f = f
reference_grows w h k t null g f = tt
reference_grows w h k t (reference a) g f = (f.0, g a _ f.1, f.2)

pub fit_grows : (e : View) (h k : Heap) (v : Value) (t : VerificationType) → ((a : ℕ) (o : Object) → h a ≡ Some o → k a ≡ Some o) → Fit e h v t → Fit e k v t
fit_grows e h k v top g f = tt
fit_grows e h k v int g f = f
fit_grows e h k v float g f = f
fit_grows e h k v long g f = f
fit_grows e h k v double g f = f
fit_grows e h k v null_type g f = f
fit_grows e h k v (class n) g f = reference_grows e.world h k (class_type n) v g f
fit_grows e h k v (array c) g f = reference_grows e.world h k (array_type c) v g f
fit_grows e h k v uninit_this g f = (f.0, (f.1.0, g e.own _ f.1.1, f.1.2))
fit_grows e h k v (uninit p) g f = (f.0, f.1, (f.2.0, f.2.1, g (e.site p) _ f.2.2))

-- ---- another view, another heap, and other types in place of these

pub items_map : (e d : View) (h k : Heap) (g : VerificationType → VerificationType) → ((t : VerificationType) → is_wide (g t) ≡ is_wide t) → ((v : Value) (t : VerificationType) → Fit e h v t → Fit d k v (g t)) → (vs : List Value) (ts : List VerificationType) → Items e h vs ts → Items d k vs (map g ts)
items_map e d h k g w c [] [] f = tt
items_map e d h k g w c (v ∷ vs) (t ∷ ts) f = (record { wide = f.0.wide ∙ sym (w t); fit = c v t f.0.fit }, items_map e d h k g w c vs ts f.1)
items_map e d h k g w c [] (t ∷ ts) f = elim f [ ]
items_map e d h k g w c (v ∷ vs) [] f = elim f [ ]

pub val_fit : (e : View) (h : Heap) (v : Value) (u : VerificationType) → Fit e h v u → SlotFit e h (holds v) u
val_fit e h v top f = tt
val_fit e h v int f = f
val_fit e h v float f = f
val_fit e h v long f = f
val_fit e h v double f = f
val_fit e h v null_type f = f
val_fit e h v (class n) f = f
val_fit e h v (array c) f = f
val_fit e h v uninit_this f = f
val_fit e h v (uninit p) f = f

slot_map : (e d : View) (h k : Heap) (g : VerificationType → VerificationType) → g top ≡ top → ((v : Value) (t : VerificationType) → Fit e h v t → Fit d k v (g t)) → (s : Slot) (t : VerificationType) → SlotFit e h s t → SlotFit d k s (g t)
slot_map e d h k g w c s top f = subst (λ z. SlotFit d k s z) (sym w) tt
slot_map e d h k g w c (holds v) t f = val_fit d k v (g t) (c v t f)
slot_map e d h k g w c _ t f = elim f [ ]

pub slots_map : (e d : View) (h k : Heap) (g : VerificationType → VerificationType) → g top ≡ top → ((v : Value) (t : VerificationType) → Fit e h v t → Fit d k v (g t)) → (ss : List Slot) (ts : List VerificationType) → Slots e h ss ts → Slots d k ss (map g ts)
slots_map e d h k g w c [] [] f = tt
slots_map e d h k g w c (s ∷ ss) (t ∷ ts) f = (slot_map e d h k g w c s t f.0, slots_map e d h k g w c ss ts f.1)
slots_map e d h k g w c [] (t ∷ ts) f = elim f [ ]
slots_map e d h k g w c (s ∷ ss) [] f = elim f [ ]

-- ---- states

-- a view with other maps
abbrev pub With : View → (ℕ → ℕ) → (ℕ → ℕ) → View
With e s h = record { world = e.world; method = e.method; own = e.own; site = s; home = h }

-- the state fits under some map
pub record Keeps (e : View) (t : State) (f : FrameFact) : Type 0 where
  pub site : ℕ → ℕ
  pub home : ℕ → ℕ
  pub fits : Fits (With e site home) t f

pub keep : (e : View) (t s : State) (f : FrameFact) → t ≡ s → Fits e s f → Keeps e t f
keep e t s f q x = subst (λ z. Keeps e z f) (sym q) (record { site = e.site; home = e.home; fits = x })

pub depth_width : (e : View) (h : Heap) (vs : List Value) (ts : List VerificationType) → Items e h vs ts → depth_of vs ≡ units_of ts
depth_width e h [] [] f = refl
depth_width e h (v ∷ vs) (t ∷ ts) f =
    let p : units (is_wide_value v) ≡ width_of t = ap units f.0.wide ∙ sym (type_units t) in
    let q = depth_width e h vs ts f.1 in
    omega arith
depth_width e h [] (t ∷ ts) f = elim f [ ]
depth_width e h (v ∷ vs) [] f = elim f [ ]

pub items_append : (e : View) (h : Heap) (vs us : List Value) (ts ss : List VerificationType) → Items e h vs ts → Items e h us ss → Items e h (vs ++ us) (ts ++ ss)
items_append e h [] us [] ss f g = g
items_append e h (v ∷ vs) us (t ∷ ts) ss f g = (f.0, items_append e h vs us ts ss f.1 g)
items_append e h [] us (t ∷ ts) ss f g = elim f [ ]
items_append e h (v ∷ vs) us [] ss f g = elim f [ ]
