-- new, constructors, and the growing heap.
use Rattle.std.proofs.Common.{◌≡◌, ℕ, Bool, true, false, not, ◌||◌, ◌==◌, List, [], ◌∷◌, map, Option, Some, None, ◌⊎◌, inl, inr, if◌then◌else◌, sym, ap, refl, ◌∙◌, subst, arith, eqb-true, eq-eqb, ne_eqb}
use Rattle.std.proofs.lemmas.Bool.{or_cases, eqb-false}
use Rattle.std.specs.Str.{bytes_eq}
use Rattle.names.specs.ReferenceTypes.{ReferenceType, class_type, array_type, descriptor_of}
use Rattle.classfile.specs.Methods.{is_name}
use Rattle.hierarchy.specs.World.{World, IsSubclassIn, same}
use Rattle.hierarchy.specs.Class.{ClassFact}
use Rattle.insn.specs.OperandStacks.{beneath}
use Rattle.frames.specs.VerificationType.{VerificationType, top, int, float, long, double, null as null_type, class, array, uninit_this, uninit}
use Rattle.frames.specs.FrameFact.{FrameFact}
use Rattle.frames.specs.Slots.{to_reference, is_wide}
use Rattle.frames.specs.Conditions.{NoneHolds}
use Rattle.rules.specs.TypingRules as rules
use Rattle.rules.specs.TypingRules.{ExpectedType}
use Rattle.rules.specs.Table.{class_made_at}
use Rattle.frames.specs.Objects.{is_made_at}
use Rattle.rules.specs.After.{popped, top_of, rest_of, forgotten, initialized, class_after, flag_after, after}
use Rattle.rules.specs.Rules.{is_short, is_on_stack, may_construct, conditions}
use Rattle.machine.specs.Values.{Value, number, null, reference}
use Rattle.machine.specs.Heap.{Status, ready, made, this, Object, object, Heap, with_object, FitsReference, IsFresh, with_fresh}
use Rattle.machine.specs.Effects as effects
use Rattle.machine.specs.Effects.{Demand}
use Rattle.machine.specs.Demands.{State, IsMade, IsOwn, HasReceiver, HasRoom}
use Rattle.machine.specs.Steps.{moved_with, Does}
use Rattle.verify.proofs.safety.Worlds.{name_same, below_itself}
use Rattle.verify.proofs.safety.Fits.{View, Fit, Item, Items, Slots, OnlyOwn, Fits, Keeps, With, Gains, keep, depth_width, items_map, slots_map, fit_grows}
use Rattle.verify.proofs.safety.Agree.{AreDemanded}
use Rattle.verify.proofs.safety.Plain.{items_beneath_same, items_beneath, beneath_same, reference_item, room}

abbrev status_in : Option Object → Status
status_in None = ready
status_in (Some o) = o.status

abbrev type_in : Option Object → ReferenceType
type_in None = class_type []
type_in (Some o) = o.type

made_this : made ≡ this → ⊥
made_this e = cc

made_ready : made ≡ ready → ⊥
made_ready e = cc

this_ready : this ≡ ready → ⊥
this_ready e = cc

this_made : this ≡ made → ⊥
this_made e = cc

-- ---- the heap with one object set

set_same : (h : Heap) (a : ℕ) (o : Object) → with_object h a o a ≡ Some o
set_same h a o = rw (eq-eqb a a refl) refl

set_other : (h : Heap) (a b : ℕ) (o : Object) → (a ≡ b → ⊥) → with_object h a o b ≡ h b
set_other h a b o n = rw (ne_eqb a b n) refl

-- a used address is no unused one
used : (h : Heap) (a b : ℕ) (o : Object) → h a ≡ None → h b ≡ Some o → a ≡ b → ⊥
used h a b o f g e = let k : None ≡ Some o = sym f ∙ subst (λ z. h z ≡ Some o) (sym e) g in cc

grown : (h : Heap) (a b : ℕ) (o x : Object) → h a ≡ None → h b ≡ Some x → with_object h a o b ≡ Some x
grown h a b o x f g = set_other h a b o (used h a b x f g) ∙ g

put_at : (ℕ → ℕ) → ℕ → ℕ → ℕ → ℕ
put_at f a v = λ b. if a == b then v else f b

put_same : (f : ℕ → ℕ) (a v : ℕ) → put_at f a v a ≡ v
unfolding put_at
put_same f a v = rw (eq-eqb a a refl) refl

put_other : (f : ℕ → ℕ) (a v b : ℕ) → (a ≡ b → ⊥) → put_at f a v b ≡ f b
unfolding put_at
put_other f a v b n = rw (ne_eqb a b n) refl

-- ---- what new at p does to the view: the object of p is a, and the site of a is p

abbrev new_view : View → ℕ → ℕ → View
new_view e p a = With e (put_at e.site p a) (put_at e.home a p)

ref_new : (w : World) (h : Heap) (a : ℕ) (o : Object) (t : ReferenceType) (v : Value) → h a ≡ None → FitsReference w h t v → FitsReference w (with_object h a o) t v
ref_new w h a o t (number k) n f = f
ref_new w h a o t null n f = tt
ref_new w h a o t (reference b) n f = (f.0, grown h a b o _ n f.1, f.2)

site_new : (e : View) (h : Heap) (p q a : ℕ) (o : Object) (v : Value) → (p ≡ q → ⊥) → h a ≡ None → Fit e h v (uninit q) → Fit (new_view e p a) (with_object h a o) v (uninit q)
site_new e h p q a o v ne n f =
    let s : put_at e.site p a q ≡ e.site q = put_other e.site p a q ne in
    let u = used h a (e.site q) _ n f.2.2 in
    let m : put_at e.home a p (e.site q) ≡ e.home (e.site q) = put_other e.home a p (e.site q) u in
    rw s (f.0, m ∙ f.1, (f.2.0, f.2.1, grown h a (e.site q) o _ n f.2.2))

fit_new : (e : View) (h : Heap) (p a : ℕ) (o : Object) (v : Value) (t : VerificationType) → is_made_at p t ≡ false → h a ≡ None → Fit e h v t → Fit (new_view e p a) (with_object h a o) v t
fit_new e h p a o v top i n f = tt
fit_new e h p a o v int i n f = f
fit_new e h p a o v float i n f = f
fit_new e h p a o v long i n f = f
fit_new e h p a o v double i n f = f
fit_new e h p a o v null_type i n f = f
fit_new e h p a o v (class c) i n f = ref_new e.world h a o (class_type c) v n f
fit_new e h p a o v (array c) i n f = ref_new e.world h a o (array_type c) v n f
fit_new e h p a o v uninit_this i n f = (f.0, (f.1.0, grown h a e.own o _ n f.1.1, f.1.2))
fit_new e h p a o v (uninit q) i n f = site_new e h p q a o v (eqb-false p q i) n f

fit_forget : (e : View) (h : Heap) (p a : ℕ) (o : Object) → h a ≡ None → (v : Value) (t : VerificationType) → Fit e h v t → Fit (new_view e p a) (with_object h a o) v (forgotten p t)
fit_forget e h p a o n v t f = go (is_made_at p t) refl
  where
    go : (b : Bool) → is_made_at p t ≡ b → Fit (new_view e p a) (with_object h a o) v (if b then top else t)
    go true i = tt
    go false i = fit_new e h p a o v t i n f

or_false : (x y : Bool) → (x || y) ≡ false → (x ≡ false) × (y ≡ false)
or_false false y e = (refl, e)
or_false true y e = cc

items_new : (e : View) (h : Heap) (p a : ℕ) (o : Object) (vs : List Value) (ts : List VerificationType) → is_on_stack p ts ≡ false → h a ≡ None → Items e h vs ts → Items (new_view e p a) (with_object h a o) vs ts
items_new e h p a o [] [] i n f = tt
items_new e h p a o (v ∷ vs) (t ∷ ts) i n f =
    let j = or_false (is_made_at p t) (is_on_stack p ts) i in
    (record { wide = f.0.wide; fit = fit_new e h p a o v t j.0 n f.0.fit }, items_new e h p a o vs ts j.1 n f.1)
items_new e h p a o [] (t ∷ ts) i n f = elim f [ ]
items_new e h p a o (v ∷ vs) [] i n f = elim f [ ]

-- the own object is not another one that is set to a status other than `this`
only_set : (e : View) (h : Heap) (a : ℕ) (x : ReferenceType) (st : Status) (b : Bool) → (st ≡ this → ⊥) → OnlyOwn e h b → OnlyOwn e (with_object h a (object x st)) b
only_set e h a x st b ne o k t at = go (a == k) refl at
  where
    go : (d : Bool) → (a == k) ≡ d → (if d then Some (object x st) else h k) ≡ Some (object t this) → (k ≡ e.own) × (b ≡ true) × ((y : List ℕ) × (t ≡ class_type y) × IsSubclassIn e.world y e.method.class)
    go true i q = absurd (ne (ap status_in q))
    go false i q = o k t q

pub makes_room : (hh : List ClassFact) (e : View) (p : ℕ) (c : List ℕ) (s : State) (f : FrameFact) → Fits e s f → NoneHolds (conditions hh e.method p (rules.makes c) f) → HasRoom e.method (effects.creates c) s
makes_room hh e p c s f x k =
    let deep = room hh e.method p (rules.makes c) f k in
    let d = depth_width e s.heap s.stack f.stack x.items in
    omega arith

pub makes_does : (hh : List ClassFact) (e : View) (c : List ℕ) (s : State) (f : FrameFact) (v : Option Value) (q : ℕ) (t : State) → class_made_at e.method s.at ≡ Some c → Fits e s f → NoneHolds (conditions hh e.method s.at (rules.makes c) f) → Does e.world (effects.creates c) s v q t → Keeps e t (after e.method s.at (rules.makes c) f)
makes_does hh e c s f v q t here x k d =
    let p = s.at in
    let a = d.0 in
    let o = object (class_type c) made in
    let site = put_same e.site p a in
    let home = put_same e.home a p in
    let h1 : put_at e.home a p (put_at e.site p a p) ≡ p = rw site home in
    let at1 : with_object s.heap a o (put_at e.site p a p) ≡ Some o = rw site (set_same s.heap a o) in
    subst (λ z. Keeps e z (after e.method s.at (rules.makes c) f)) (sym d.4) (record {
      site = put_at e.site p a;
      home = put_at e.home a p;
      fits = record {
        items = (record { wide = refl; fit = (ap reference (sym site), h1, (c, here, at1)) }, items_new e s.heap p a o s.stack f.stack k.1.0 d.2 x.items);
        slots = slots_map e (new_view e p a) s.heap (with_object s.heap a o) (forgotten p) refl (λ w u g. fit_forget e s.heap p a o d.2 w u g) s.locals f.locals x.slots;
        paired = x.paired;
        long = x.long;
        only = only_set e s.heap a (class_type c) made f.flag made_this x.only;
      };
    })

-- ---- an object becomes ready

-- objects of different statuses are different
other_status : (h : Heap) (a b : ℕ) (x y : ReferenceType) (s t : Status) → h a ≡ Some (object x s) → h b ≡ Some (object y t) → (s ≡ t → ⊥) → a ≡ b → ⊥
other_status h a b x y s t p q n e = n (ap status_in (sym p ∙ subst (λ z. h z ≡ Some (object y t)) (sym e) q))

abbrev readied : Heap → ℕ → ReferenceType → Heap
readied h a x = with_object h a (object x ready)

ref_ready : (w : World) (h : Heap) (a : ℕ) (x : ReferenceType) (s : Status) (t : ReferenceType) (v : Value) → h a ≡ Some (object x s) → (s ≡ ready → ⊥) → FitsReference w h t v → FitsReference w (readied h a x) t v
ref_ready w h a x s t (number k) p n f = f
ref_ready w h a x s t null p n f = tt
ref_ready w h a x s t (reference b) p n f = (f.0, set_other h a b _ (other_status h a b x f.0 s ready p f.1 n) ∙ f.1, f.2)

-- the constructor of an object made at p
fit_made : (e : View) (h : Heap) (p : ℕ) (c : List ℕ) → e.home (e.site p) ≡ p → h (e.site p) ≡ Some (object (class_type c) made) → (v : Value) (t : VerificationType) → Fit e h v t → Fit e (readied h (e.site p) (class_type c)) v (initialized (uninit p) c t)
fit_made e h p c hp at v top f = tt
fit_made e h p c hp at v int f = f
fit_made e h p c hp at v float f = f
fit_made e h p c hp at v long f = f
fit_made e h p c hp at v double f = f
fit_made e h p c hp at v null_type f = f
fit_made e h p c hp at v (class r) f = ref_ready e.world h (e.site p) (class_type c) made (class_type r) v at made_ready f
fit_made e h p c hp at v (array r) f = ref_ready e.world h (e.site p) (class_type c) made (array_type r) v at made_ready f
fit_made e h p c hp at v uninit_this f = (f.0, (f.1.0, set_other h (e.site p) e.own _ (other_status h (e.site p) e.own (class_type c) _ made this at f.1.1 made_this) ∙ f.1.1, f.1.2))
fit_made e h p c hp at v (uninit q) f = go (p == q) refl
  where
    apart : (p == q) ≡ false → e.site p ≡ e.site q → ⊥
    apart i s = eqb-false p q i (sym hp ∙ ap e.home s ∙ f.1)

    go : (b : Bool) → (p == q) ≡ b → Fit e (readied h (e.site p) (class_type c)) v (if b then class c else uninit q)
    go true i =
        let j : p ≡ q = eqb-true p q i in
        let k : v ≡ reference (e.site p) = f.0 ∙ ap (λ z. reference (e.site z)) (sym j) in
        subst (λ z. FitsReference e.world (readied h (e.site p) (class_type c)) (class_type c) z) (sym k) (class_type c, set_same h (e.site p) _, (tt, inr (inr same)))
    go false i = (f.0, f.1, (f.2.0, f.2.1, set_other h (e.site p) (e.site q) _ (apart i) ∙ f.2.2))

-- the constructor of the own object
fit_own : (e : View) (h : Heap) (x : List ℕ) → h e.own ≡ Some (object (class_type x) this) → IsSubclassIn e.world x e.method.class → (v : Value) (t : VerificationType) → Fit e h v t → Fit e (readied h e.own (class_type x)) v (initialized uninit_this e.method.class t)
fit_own e h x at sub v top f = tt
fit_own e h x at sub v int f = f
fit_own e h x at sub v float f = f
fit_own e h x at sub v long f = f
fit_own e h x at sub v double f = f
fit_own e h x at sub v null_type f = f
fit_own e h x at sub v (class r) f = ref_ready e.world h e.own (class_type x) this (class_type r) v at this_ready f
fit_own e h x at sub v (array r) f = ref_ready e.world h e.own (class_type x) this (array_type r) v at this_ready f
fit_own e h x at sub v uninit_this f = subst (λ z. FitsReference e.world (readied h e.own (class_type x)) (class_type e.method.class) z) (sym f.0) (class_type x, set_same h e.own _, (tt, inr (inr sub)))
fit_own e h x at sub v (uninit q) f = (f.0, f.1, (f.2.0, f.2.1, set_other h e.own (e.site q) _ (other_status h e.own (e.site q) (class_type x) _ this made at f.2.2 this_made) ∙ f.2.2))

made_width : (p : ℕ) (c : List ℕ) (t : VerificationType) → is_wide (initialized (uninit p) c t) ≡ is_wide t
made_width p c (uninit q) = go (p == q)
  where
    go : (b : Bool) → is_wide (if b then class c else uninit q) ≡ false
    go true = refl
    go false = refl
made_width p c top = refl
made_width p c int = refl
made_width p c float = refl
made_width p c long = refl
made_width p c double = refl
made_width p c null_type = refl
made_width p c (class r) = refl
made_width p c (array r) = refl
made_width p c uninit_this = refl

own_width : (c : List ℕ) (t : VerificationType) → is_wide (initialized uninit_this c t) ≡ is_wide t
own_width c top = refl
own_width c int = refl
own_width c float = refl
own_width c long = refl
own_width c double = refl
own_width c null_type = refl
own_width c (class r) = refl
own_width c (array r) = refl
own_width c uninit_this = refl
own_width c (uninit q) = refl

only_own : (e : View) (h : Heap) (x : ReferenceType) (b : Bool) → OnlyOwn e h b → OnlyOwn e (readied h e.own x) false
only_own e h x b o k t at = go (e.own == k) refl at
  where
    go : (d : Bool) → (e.own == k) ≡ d → (if d then Some (object x ready) else h k) ≡ Some (object t this) → (k ≡ e.own) × (false ≡ true) × ((y : List ℕ) × (t ≡ class_type y) × IsSubclassIn e.world y e.method.class)
    go true i q = absurd (this_ready (sym (ap status_in q)))
    go false i q = absurd (eqb-false e.own k i (sym (o k t q).0))

-- ---- what is left below the operands

short_beneath : {A B : Type 0} (x : A) (ws : List A) (ts : List B) → is_short (x ∷ ws) ts ≡ false → (t : B) × (us : List B) × (beneath ws ts ≡ t ∷ us)
short_beneath x [] [] e = cc
short_beneath x [] (t ∷ ts) e = (t, ts, refl)
short_beneath x (w ∷ ws) [] e = cc
short_beneath x (w ∷ ws) (t ∷ ts) e = short_beneath w ws ts e

pub record Uncons (e : View) (h : Heap) (vs : List Value) (ts : List VerificationType) : Type 0 where
  pub first : Value
  pub rest : List Value
  pub parts : vs ≡ first ∷ rest
  pub item : Item e h first (top_of ts)
  pub items : Items e h rest (rest_of ts)

uncons : (e : View) (h : Heap) (vs : List Value) (ts : List VerificationType) (t : VerificationType) (us : List VerificationType) → ts ≡ t ∷ us → Items e h vs ts → Uncons e h vs ts
uncons e h [] [] t us q f = cc
uncons e h (v ∷ vs) (t ∷ ts) u us q f = record { first = v; rest = vs; parts = refl; item = f.0; items = f.1 }
uncons e h [] (t ∷ ts) u us q f = elim f [ ]
uncons e h (v ∷ vs) [] u us q f = elim f [ ]

receiver : (e : View) (ws : List ExpectedType) (s : State) (f : FrameFact) → is_short (rules.any_reference ∷ ws) f.stack ≡ false → Fits e s f → Uncons e s.heap (beneath ws s.stack) (beneath ws f.stack)
receiver e ws s f i x =
    let k = short_beneath rules.any_reference ws f.stack i in
    uncons e s.heap (beneath ws s.stack) (beneath ws f.stack) k.0 k.1 k.2 (items_beneath_same e s.heap ws s.stack f.stack x.items)

is_name_of : (o : Option (List ℕ)) (c : List ℕ) → is_name o c ≡ true → o ≡ Some c
is_name_of None c e = cc
is_name_of (Some b) c e = ap Some (name_same b c e)

some_same : (a b : List ℕ) → Some a ≡ Some b → a ≡ b
some_same a b e = cc

-- the class that stands at a new
new_of : (o : Option (List ℕ)) (b c : List ℕ) → is_name o c ≡ true → o ≡ Some b → b ≡ c
new_of o b c i q = some_same b c (sym q ∙ is_name_of o c i)

not_false : (b : Bool) → not b ≡ false → b ≡ true
not_false true e = refl
not_false false e = cc

may_meet : (e : View) (s : State) (c : List ℕ) (v : Value) (u : VerificationType) → may_construct e.method c u ≡ true → Fit e s.heap v u → (a : ℕ) × (v ≡ reference a) × (IsMade s.heap c a ⊎ IsOwn e.method s.heap c a)
may_meet e s c v uninit_this k f = (e.own, f.0, inr (record { type = class_type f.1.0; here = f.1.1; class_of = go (or_cases (bytes_eq e.method.class c) _ k) }))
  where
    go : (bytes_eq e.method.class c ≡ true) ⊎ (is_name e.method.superclass c ≡ true) → (e.method.class ≡ c) ⊎ (e.method.superclass ≡ Some c)
    go (inl q) = inl (name_same _ _ q)
    go (inr q) = inr (is_name_of e.method.superclass c q)
may_meet e s c v (uninit p) k f =
    let b : f.2.0 ≡ c = new_of (class_made_at e.method p) f.2.0 c k f.2.1 in
    (e.site p, f.0, inl (record { here = f.2.2 ∙ ap (λ z. Some (object (class_type z) made)) b }))
may_meet e s c v _ k f = cc

pub constructs_rest : (hh : List ClassFact) (e : View) (p : ℕ) (c : List ℕ) (ws : List ExpectedType) (ns : List Demand) (s : State) (f : FrameFact) → AreDemanded ws ns → Fits e s f → NoneHolds (conditions hh e.method p (rules.constructs c ws) f) → HasReceiver e.method c ns s
constructs_rest hh e p c ws ns s f a x k =
    let r = receiver e ws s f k.1.0 x in
    let m = may_meet e s c r.first (top_of (beneath ws f.stack)) (not_false _ k.1.1.0) r.item.fit in
    record { address = m.0; rest = r.rest; here = beneath_same ws ns s.stack a ∙ r.parts ∙ ap (λ z. z ∷ r.rest) m.1; uninitialized = m.2 }

-- the state after, for either kind of receiver
constructed : (e : View) (s : State) (f : FrameFact) (q a : ℕ) (rest : List Value) (x : ReferenceType) (b : Bool) (g : VerificationType → VerificationType) (us : List VerificationType) → g top ≡ top → ((t : VerificationType) → is_wide (g t) ≡ is_wide t) → ((v : Value) (t : VerificationType) → Fit e s.heap v t → Fit e (readied s.heap a x) v (g t)) → OnlyOwn e (readied s.heap a x) b → Fits e s f → Items e s.heap rest us
    → Fits e (moved_with s q rest (readied s.heap a x)) (record { locals = map g f.locals; stack = map g us; flag = b })
constructed e s f q a rest x b g us top_is w fit only fits it = record {
  items = items_map e e s.heap (readied s.heap a x) g w fit rest us it;
  slots = slots_map e e s.heap (readied s.heap a x) g top_is fit s.locals f.locals fits.slots;
  paired = fits.paired;
  long = fits.long;
  only = only;
}

heap_type : (h : Heap) (a : ℕ) (x y : ReferenceType) (s t : Status) → h a ≡ Some (object x s) → h a ≡ Some (object y t) → x ≡ y
heap_type h a x y s t p q = ap type_in (sym p ∙ q)

ref_inj : (a b : ℕ) → reference a ≡ reference b → a ≡ b
ref_inj a b e = cc

same_place : (e : View) (s : State) (q a b : ℕ) (rest : List Value) (x y : ReferenceType) (g : FrameFact) → a ≡ b → x ≡ y → Fits e (moved_with s q rest (readied s.heap a x)) g → Fits e (moved_with s q rest (readied s.heap b y)) g
same_place e s q a b rest x y g i j f =
    subst (λ z. Fits e (moved_with s q rest (readied s.heap b z)) g) j
    (subst (λ z. Fits e (moved_with s q rest (readied s.heap z x)) g) i f)

does_by : (e : View) (c : List ℕ) (s : State) (f : FrameFact) (q a : ℕ) (rest : List Value) (x : ReferenceType) (st : Status) (u : VerificationType) (us : List VerificationType) → may_construct e.method c u ≡ true → Fits e s f → Item e s.heap (reference a) u → Items e s.heap rest us → s.heap a ≡ Some (object x st)
    → Fits e (moved_with s q rest (readied s.heap a x)) (record { locals = map (initialized u (class_after e.method c u)) f.locals; stack = map (initialized u (class_after e.method c u)) us; flag = flag_after u f.flag })
does_by e c s f q a rest x st uninit_this us k fits i it at =
    let o : e.own ≡ a = sym (ref_inj a e.own i.fit.0) in
    let ty : class_type i.fit.1.0 ≡ x = heap_type s.heap a _ x this st (subst (λ z. s.heap z ≡ Some (object (class_type i.fit.1.0) this)) o i.fit.1.1) at in
    same_place e s q e.own a rest (class_type i.fit.1.0) x _ o ty
    (constructed e s f q e.own rest (class_type i.fit.1.0) false (initialized uninit_this e.method.class) us refl (own_width e.method.class) (fit_own e s.heap i.fit.1.0 i.fit.1.1 i.fit.1.2) (only_own e s.heap _ f.flag fits.only) fits it)
does_by e c s f q a rest x st (uninit p) us k fits i it at =
    let o : e.site p ≡ a = sym (ref_inj a (e.site p) i.fit.0) in
    let b : i.fit.2.0 ≡ c = new_of (class_made_at e.method p) i.fit.2.0 c k i.fit.2.1 in
    let at' : s.heap (e.site p) ≡ Some (object (class_type c) made) = i.fit.2.2 ∙ ap (λ z. Some (object (class_type z) made)) b in
    let ty : class_type c ≡ x = heap_type s.heap a _ x made st (subst (λ z. s.heap z ≡ Some (object (class_type c) made)) o at') at in
    same_place e s q (e.site p) a rest (class_type c) x _ o ty
    (constructed e s f q (e.site p) rest (class_type c) f.flag (initialized (uninit p) c) us refl (made_width p c) (fit_made e s.heap p c i.fit.1 at') (only_set e s.heap (e.site p) (class_type c) ready f.flag (λ z. this_ready (sym z)) fits.only) fits it)
does_by e c s f q a rest x st _ us k fits i it at = absurd (false_true k)
  where
    false_true : false ≡ true → ⊥
    false_true e = cc

head_same : (v u : Value) (vs us : List Value) → v ∷ vs ≡ u ∷ us → v ≡ u
head_same v u vs us e = cc

tail_same : (v u : Value) (vs us : List Value) → v ∷ vs ≡ u ∷ us → vs ≡ us
tail_same v u vs us e = cc

pub constructs_does : (hh : List ClassFact) (e : View) (p : ℕ) (c : List ℕ) (ws : List ExpectedType) (ns : List Demand) (s : State) (f : FrameFact) (v : Option Value) (q : ℕ) (t : State) → AreDemanded ws ns → Fits e s f → NoneHolds (conditions hh e.method p (rules.constructs c ws) f) → Does e.world (effects.initializes c ns) s v q t → Keeps e t (after e.method p (rules.constructs c ws) f)
constructs_does hh e p c ws ns s f v q t a x k d =
    let r = receiver e ws s f k.1.0 x in
    let eq = sym r.parts ∙ sym (beneath_same ws ns s.stack a) ∙ d.4 in
    let first = head_same _ _ _ _ eq in
    let rest = tail_same _ _ _ _ eq in
    let u = top_of (beneath ws f.stack) in
    keep e t (moved_with s q d.1 (readied s.heap d.0 d.2)) (after e.method p (rules.constructs c ws) f) d.7
    (does_by e c s f q d.0 d.1 d.2 d.3 u (rest_of (beneath ws f.stack)) (not_false _ k.1.1.0) x (subst (λ z. Item e s.heap z u) first r.item) (subst (λ z. Items e s.heap z (rest_of (beneath ws f.stack))) rest r.items) d.5)

-- ---- the heap grows

map_id : (ts : List VerificationType) → map (λ t. t) ts ≡ ts
map_id [] = refl
map_id (t ∷ ts) = ap (λ z. t ∷ z) (map_id ts)

pub grows : (e : View) (s : State) (k : Heap) (f : FrameFact) → Gains s.heap k → Fits e s f → Fits e (moved_with s s.at s.stack k) f
grows e s k f g x = record {
  items = subst (Items e k s.stack) (map_id f.stack) (items_map e e s.heap k (λ t. t) (λ t. refl) (λ v t y. fit_grows e s.heap k v t g.keeps y) s.stack f.stack x.items);
  slots = subst (Slots e k s.locals) (map_id f.locals) (slots_map e e s.heap k (λ t. t) refl (λ v t y. fit_grows e s.heap k v t g.keeps y) s.locals f.locals x.slots);
  paired = x.paired;
  long = x.long;
  only = λ a t at. old a t (g.gains a (object t this) at);
}
  where
    old : (a : ℕ) (t : ReferenceType) → (s.heap a ≡ Some (object t this)) ⊎ (this ≡ ready) → (a ≡ e.own) × (f.flag ≡ true) × ((y : List ℕ) × (t ≡ class_type y) × IsSubclassIn e.world y e.method.class)
    old a t (inl p) = x.only a t p
    old a t (inr p) = absurd (this_ready p)

one_gains : (h : Heap) (a : ℕ) (r : ReferenceType) → h a ≡ None → Gains h (with_object h a (object r ready))
one_gains h a r n = record {
  keeps = λ b o at. grown h a b _ o n at;
  gains = λ b o at. go b o (a == b) refl at;
}
  where
    go : (b : ℕ) (o : Object) (d : Bool) → (a == b) ≡ d → (if d then Some (object r ready) else h b) ≡ Some o → (h b ≡ Some o) ⊎ (o.status ≡ ready)
    go b o true i q = inr (ap status_in (sym q))
    go b o false i q = inl q

gains_trans : (h k l : Heap) → Gains h k → Gains k l → Gains h l
gains_trans h k l x y = record { keeps = λ a o at. y.keeps a o (x.keeps a o at); gains = λ a o at. go a o (y.gains a o at) }
  where
    go : (a : ℕ) (o : Object) → (k a ≡ Some o) ⊎ (o.status ≡ ready) → (h a ≡ Some o) ⊎ (o.status ≡ ready)
    go a o (inl p) = x.gains a o p
    go a o (inr p) = inr p

pub fresh_gains : (xs : List (ℕ × ReferenceType)) (h : Heap) → IsFresh h xs → Gains h (with_fresh h xs)
fresh_gains [] h f = record { keeps = λ a o at. at; gains = λ a o at. inl at }
fresh_gains (x ∷ xs) h f = gains_trans h (with_object h x.0 (object x.1 ready)) _ (one_gains h x.0 x.1 f.0) (fresh_gains xs (with_object h x.0 (object x.1 ready)) f.3)

-- ---- a new array

pub arrays_does : (e : View) (ws : List ExpectedType) (gs : List VerificationType) (ns : List Demand) (r : ReferenceType) (s : State) (f : FrameFact) (v : Option Value) (q : ℕ) (t : State) → AreDemanded ws ns → gs ≡ to_reference r ∷ [] → Fits e s f → Does e.world (effects.makes_array ns r) s v q t → Keeps e t (popped ws gs f)
arrays_does e ws gs ns r s f v q t a g x d =
    let k = with_object s.heap d.0 (object r ready) in
    let y = grows e s k f (one_gains s.heap d.0 r d.2) x in
    let u : State = moved_with s q (reference d.0 ∷ beneath ns s.stack) k in
    let it = reference_item e k r (reference d.0) (r, set_same s.heap d.0 _, below_itself e.world (descriptor_of r)) in
    let fit : Fits e u (popped ws (to_reference r ∷ []) f) = record { items = (it, items_beneath e k ws ns s.stack f.stack a y.items); slots = y.slots; paired = y.paired; long = y.long; only = y.only } in
    keep e t u (popped ws gs f) d.4 (subst (λ z. Fits e u (popped ws z f)) (sym g) fit)
