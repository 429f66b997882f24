-- Instructions that move items of the stack.
use Rattle.std.specs.Prelude.{is_none}
use Rattle.std.proofs.Common.{◌≡◌, ℕ, zero, suc, ◌≤◌, Bool, true, false, List, [], ◌∷◌, slice_get, Option, Some, inl, inr, if◌then◌else◌, sym, ap, refl, ◌∙◌, subst, arith}
use Rattle.std.proofs.lemmas.Bool.{and_parts}
use Rattle.hierarchy.specs.Class.{ClassFact}
use Rattle.insn.specs.declared.stack.StackPlace.{StackPlace}
use Rattle.insn.specs.declared.stack.StackPlace.TheVariants.{Narrow, Wide}
use Rattle.insn.specs.Operators.{StackForm}
use Rattle.insn.specs.OperandStacks.{beneath, with_item, chosen, rearranged}
use Rattle.insn.specs.Offsets.{IsAmong}
use Rattle.frames.specs.VerificationType.{VerificationType, top, int, float, long, double, null as null_type, class, array, uninit_this, uninit}
use Rattle.frames.specs.FrameFact.{FrameFact}
use Rattle.frames.specs.Slots.{is_wide, units_of}
use Rattle.frames.specs.Conditions.{NoneHolds}
use Rattle.rules.specs.TypingRules as rules
use Rattle.rules.specs.After.{is_narrow, fits_place, fits_places, form_for, rearranged_by, after}
use Rattle.rules.specs.Rules.{conditions}
use Rattle.machine.specs.Values.{Value, is_wide_value, place_of}
use Rattle.machine.specs.Heap.{Heap}
use Rattle.machine.specs.Effects as effects
use Rattle.machine.specs.Demands.{State, AreForm, HasForm, HasRoom}
use Rattle.machine.specs.Steps.{moved, Does}
use Rattle.verify.proofs.safety.Fits.{View, Items, Fits, Keeps, keep, depth_width, items_append}
use Rattle.verify.proofs.safety.Plain.{items_beneath_same, room}
use Rattle.verify.proofs.safety.Locals.{fit_wide}
use Rattle.machine.proofs.Apart.{AllApart, one_form}

-- types that fit the places have values that do
narrow_type : (t : VerificationType) → is_narrow t ≡ true → is_wide t ≡ false
narrow_type int f = refl
narrow_type float f = refl
narrow_type null_type f = refl
narrow_type (class c) f = refl
narrow_type (array c) f = refl
narrow_type uninit_this f = refl
narrow_type (uninit p) f = refl
narrow_type top f = cc
narrow_type long f = cc
narrow_type double f = cc

place_fits : (p : StackPlace) (v : Value) (t : VerificationType) → is_wide_value v ≡ is_wide t → fits_place p t ≡ true → p ≡ place_of v
place_fits Narrow v t w f = rw (w ∙ narrow_type t f) refl
place_fits Wide v t w f = rw (w ∙ f) refl

not_top : (p : StackPlace) (t : VerificationType) → fits_place p t ≡ true → t ≡ top → ⊥
not_top Narrow t f e = let g : fits_place Narrow top ≡ true = subst (λ z. fits_place Narrow z ≡ true) e f in cc
not_top Wide t f e = let g : fits_place Wide top ≡ true = subst (λ z. fits_place Wide z ≡ true) e f in cc

form_fits : (e : View) (h : Heap) (ps : List StackPlace) (vs : List Value) (ts : List VerificationType) → fits_places ps ts ≡ true → Items e h vs ts → AreForm ps vs
form_fits e h [] vs ts y f = tt
form_fits e h (p ∷ ps) (v ∷ vs) (t ∷ ts) y f =
    let a = and_parts (fits_place p t) _ y in
    (place_fits p v t (fit_wide e h v t (not_top p t a.0) f.0.fit) a.0, form_fits e h ps vs ts a.1 f.1)
form_fits e h (p ∷ ps) vs [] y f = cc
form_fits e h (p ∷ ps) [] (t ∷ ts) y f = elim f [ ]

-- the form that the rule found
form_found : (fs : List StackForm) (ts : List VerificationType) → is_none (form_for fs ts) ≡ false → (f : StackForm) × IsAmong f fs × (fits_places f.takes ts ≡ true) × (form_for fs ts ≡ Some f)
form_found [] ts e = cc
form_found (f ∷ fs) ts e = go (λ e. form_found fs ts e) (fits_places f.takes ts) refl e
  where
    go : (is_none (form_for fs ts) ≡ false → (g : StackForm) × IsAmong g fs × (fits_places g.takes ts ≡ true) × (form_for fs ts ≡ Some g)) → (b : Bool) → fits_places f.takes ts ≡ b → is_none (if b then Some f else form_for fs ts) ≡ false → (g : StackForm) × IsAmong g (f ∷ fs) × (fits_places g.takes ts ≡ true) × ((if b then Some f else form_for fs ts) ≡ Some g)
    go rec true p e = (f, inl refl, p, refl)
    go rec false p e = let r = rec e in (r.0, inr r.1, r.2, r.3)

items_with : (e : View) (h : Heap) (vs : List Value) (ts : List VerificationType) (n : ℕ) (us : List Value) (ss : List VerificationType) → Items e h vs ts → Items e h us ss → Items e h (with_item (slice_get vs n) us) (with_item (slice_get ts n) ss)
items_with e h [] [] n us ss f g = g
items_with e h (v ∷ vs) (t ∷ ts) zero us ss f g = (f.0, g)
items_with e h (v ∷ vs) (t ∷ ts) (suc n) us ss f g = items_with e h vs ts n us ss f.1 g
items_with e h [] (t ∷ ts) n us ss f g = elim f [ ]
items_with e h (v ∷ vs) [] n us ss f g = elim f [ ]

items_chosen : (e : View) (h : Heap) (vs : List Value) (ts : List VerificationType) (ns : List ℕ) → Items e h vs ts → Items e h (chosen vs ns) (chosen ts ns)
items_chosen e h vs ts [] f = tt
items_chosen e h vs ts (n ∷ ns) f = items_with e h vs ts n (chosen vs ns) (chosen ts ns) f (items_chosen e h vs ts ns f)

items_form : (e : View) (h : Heap) (k : StackForm) (vs : List Value) (ts : List VerificationType) → Items e h vs ts → Items e h (rearranged k vs) (rearranged k ts)
items_form e h k vs ts f = items_append e h (chosen vs k.leaves) (beneath k.takes vs) (chosen ts k.leaves) (beneath k.takes ts) (items_chosen e h vs ts k.leaves f) (items_beneath_same e h k.takes vs ts f)

pub form_rest : (hh : List ClassFact) (e : View) (p : ℕ) (fs : List StackForm) (s : State) (f : FrameFact) → Fits e s f → NoneHolds (conditions hh e.method p (rules.rearranges fs) f) → HasForm fs s
form_rest hh e p fs s f x c =
    let r = form_found fs f.stack c.1.1.0 in
    record { form = r.0; among = r.1; fits = form_fits e s.heap r.0.takes s.stack f.stack r.2 x.items }

-- a form that the values fit is the one that the types fit
same_form : (hh : List ClassFact) (e : View) (p : ℕ) (fs : List StackForm) (s : State) (f : FrameFact) (k : StackForm) → AllApart fs → Fits e s f → NoneHolds (conditions hh e.method p (rules.rearranges fs) f) → IsAmong k fs → AreForm k.takes s.stack → form_for fs f.stack ≡ Some k
same_form hh e p fs s f k al x c m y =
    let r = form_found fs f.stack c.1.1.0 in
    let same : k ≡ r.0 = one_form fs k r.0 s.stack al m r.1 y (form_fits e s.heap r.0.takes s.stack f.stack r.2 x.items) in
    r.3 ∙ ap Some (sym same)

pub form_room : (hh : List ClassFact) (e : View) (p : ℕ) (fs : List StackForm) (s : State) (f : FrameFact) → AllApart fs → Fits e s f → NoneHolds (conditions hh e.method p (rules.rearranges fs) f) → HasRoom e.method (effects.moves fs) s
form_room hh e p fs s f al x c k m y =
    let o = same_form hh e p fs s f k al x c m y in
    let deep : units_of (rearranged_by (form_for fs f.stack) f.stack) ≤ e.method.max_stack = room hh e.method p (rules.rearranges fs) f c in
    let same = ap (λ z. units_of (rearranged_by z f.stack)) o in
    let d = depth_width e s.heap (rearranged k s.stack) (rearranged k f.stack) (items_form e s.heap k s.stack f.stack x.items) in
    omega arith

pub form_does : (hh : List ClassFact) (e : View) (p : ℕ) (fs : List StackForm) (s : State) (f : FrameFact) (a : Option Value) (q : ℕ) (t : State) → AllApart fs → Fits e s f → NoneHolds (conditions hh e.method p (rules.rearranges fs) f) → Does e.world (effects.moves fs) s a q t → Keeps e t (after e.method p (rules.rearranges fs) f)
form_does hh e p fs s f a q t al x c d =
    let o = same_form hh e p fs s f d.0 al x c d.1 d.2 in
    keep e t (moved s q (rearranged d.0 s.stack)) (after e.method p (rules.rearranges fs) f) d.4 (record {
      items = subst (λ z. Items e s.heap (rearranged d.0 s.stack) (rearranged_by z f.stack)) (sym o) (items_form e s.heap d.0 s.stack f.stack x.items);
      slots = x.slots;
      paired = x.paired;
      long = x.long;
      only = x.only;
    })
