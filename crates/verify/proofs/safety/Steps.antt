-- Every family: what is needed is there, and what is done keeps the state fitting.
use Rattle.std.proofs.Common.{◌≡◌, ℕ, true, false, ◌&&◌, List, [], ◌∷◌, Option, ◌⊎◌, inl, inr, sym, ap, subst₂, refl, ◌∙◌, subst}
use Rattle.names.specs.ReferenceTypes.{ReferenceType, class_type, array_type}
use Rattle.classfile.specs.Methods.{Method}
use Rattle.hierarchy.specs.World.{World}
use Rattle.hierarchy.specs.Class.{ClassFact}
use Rattle.hierarchy.specs.Answer.{Outcome, yes, no, missing}
use Rattle.insn.specs.declared.kinds.Kind.TheVariants as kinds
use Rattle.insn.specs.Meanings.{Act}
use Rattle.frames.specs.VerificationType.{VerificationType, class}
use Rattle.frames.specs.FrameFact.{FrameFact}
use Rattle.frames.specs.Assignable.{type_answer}
use Rattle.frames.specs.FrameAssignable.{both}
use Rattle.frames.specs.Slots.{to_reference, units_of}
use Rattle.frames.specs.Conditions.{NoneHolds, is_no, missing_if}
use Rattle.rules.specs.TypingRules as rules
use Rattle.rules.specs.TypingRules.{ExpectedType, TypingRule}
use Rattle.rules.specs.Table.{class_made, class_made_at, object_array}
use Rattle.rules.specs.After.{after}
use Rattle.rules.specs.Rules.{operands, operand_conditions, special_conditions, conditions}
use Rattle.machine.specs.Values.{Value, number, null, reference}
use Rattle.machine.specs.Heap.{Heap, IsBelow, FitsReference, FitsArray, FitsArrayFor, IsReady, IsThis, HasNoThis}
use Rattle.machine.specs.Effects as effects
use Rattle.machine.specs.Effects.{Demand, Effect, demands_of}
use Rattle.machine.specs.Demands.{State, Meets, AllMeet, HasLocal, HasForm, HasReceiver, MeetsRest, HasRoom, IsUsable, AllUsable, EndsReady}
use Rattle.machine.specs.Steps.{Does}
use Rattle.verify.proofs.safety.Worlds.{answer_below}
use Rattle.verify.proofs.safety.Fits.{View, Sound, Fits, Keeps}
use Rattle.verify.proofs.safety.Agree.{Agrees}
use Rattle.verify.proofs.safety.Plain.{room, pops_met, pops_room, pops_does, reply_width}
use Rattle.verify.proofs.safety.Locals.{load_rest, load_room, load_does, count_rest, count_does, store_rest, store_does}
use Rattle.verify.proofs.safety.Forms.{form_rest, form_room, form_does}
use Rattle.verify.proofs.safety.News.{makes_room, makes_does, constructs_rest, constructs_does, arrays_does}
use Rattle.verify.proofs.safety.References.{passes_does, elements_does}

true_false : true ≡ false → ⊥
true_false e = cc

-- ---- invokespecial of another method

both_left : (a : Outcome) → (missing_if (both a yes)).1 ≡ false → (missing_if a).1 ≡ false
both_left yes e = refl
both_left no e = refl
both_left (missing n) e = cc

both_right : (a : Outcome) (n : List ℕ) → is_no a ≡ false → (missing_if (both a (missing n))).1 ≡ false → ⊥
both_right yes n e f = cc
both_right no n e f = cc
both_right (missing k) n e f = cc

special_parts : (hh : List ClassFact) (own : Outcome) (ws : List ExpectedType) (ts : List VerificationType) → NoneHolds (special_conditions hh own ws ts) → NoneHolds (operand_conditions hh ws ts) × (own ≡ yes)
special_parts hh yes ws ts c = ((c.0, (c.1.0, (both_left (operands hh ws ts) c.1.1.0, tt))), refl)
special_parts hh no ws ts c = absurd (true_false c.0)
special_parts hh (missing n) ws ts c = absurd (both_right (operands hh ws ts) n c.1.0 c.1.1.0)

-- ---- the operands on top of the stack

pub operands_met : (hh : List ClassFact) (e : View) (pl : TypingRule) (tk : Effect) (s : State) (f : FrameFact) → Agrees pl tk → Sound hh e → Fits e s f → NoneHolds (conditions hh e.method s.at pl f) → AllMeet e.world s.heap (demands_of tk) s.stack
operands_met hh e (rules.pops ws gs os b) (effects.operates ns l r us d) s f a so x c = pops_met hh e ws ns s f a.demands so x c.1
operands_met hh e (rules.pops ws gs os b) (effects.makes_array ns r) s f a so x c = pops_met hh e ws ns s f a.demands so x c.1
operands_met hh e (rules.pops ws gs os b) (effects.passes r) s f a so x c = pops_met hh e ws (demands_of (effects.passes r)) s f a.demands so x c.1
operands_met hh e (rules.pops ws gs os b) (effects.leaves ns) s f a so x c = pops_met hh e ws ns s f a.demands so x c.1
operands_met hh e (rules.pops ws gs os b) (effects.throws y) s f a so x c = pops_met hh e ws (y ∷ []) s f a.demands so x c.1
operands_met hh e (rules.loads w n k) (effects.reads y l) s f a so x c = tt
operands_met hh e (rules.stores w n k) (effects.writes y l j) s f a so x c = pops_met hh e (w ∷ []) (y ∷ []) s f (a.0, tt) so x c.1.1
operands_met hh e (rules.increments n) (effects.increments l) s f a so x c = tt
operands_met hh e (rules.rearranges fs) (effects.moves gs) s f a so x c = tt
operands_met hh e rules.loads_element effects.takes_element s f a so x c = pops_met hh e (rules.number kinds.Int ∷ object_array ∷ []) (demands_of effects.takes_element) s f (refl, (refl, tt)) so x c.1
operands_met hh e (rules.makes d) (effects.creates b) s f a so x c = tt
operands_met hh e (rules.constructs d ws) (effects.initializes b ns) s f a so x c = pops_met hh e ws ns s f a.1 so x c.1.1.1
operands_met hh e (rules.calls_special o ws gs) (effects.calls_special q ns l r) s f a so x c = pops_met hh e ws ns s f a.1 so x (special_parts hh (type_answer hh (class e.method.class) (to_reference o)) ws f.stack c.1).0
operands_met hh e rules.returns effects.ends s f a so x c = tt
operands_met hh e (rules.refuses r) t s f a so x c = absurd (true_false c.1.0)
operands_met hh e _ _ s f a so x c = elim a [ ]

-- ---- what else is needed

pub rest_met : (hh : List ClassFact) (e : View) (pl : TypingRule) (tk : Effect) (s : State) (f : FrameFact) → Agrees pl tk → Sound hh e → Fits e s f → NoneHolds (conditions hh e.method s.at pl f) → MeetsRest e.world e.method tk s
rest_met hh e (rules.pops ws gs os b) (effects.operates ns l r us d) s f a so x c = tt
rest_met hh e (rules.pops ws gs os b) (effects.makes_array ns r) s f a so x c = tt
rest_met hh e (rules.pops ws gs os b) (effects.passes r) s f a so x c = tt
rest_met hh e (rules.pops ws gs os b) (effects.leaves ns) s f a so x c = tt
rest_met hh e (rules.pops ws gs os b) (effects.throws y) s f a so x c = tt
rest_met hh e (rules.loads w n k) (effects.reads y l) s f a so x c = subst (λ z. HasLocal e.world y z s) a.1 (load_rest hh e w y n k s f a.0 so x c.1)
rest_met hh e (rules.stores w n k) (effects.writes y l j) s f a so x c = subst₂ (λ z i. MeetsRest e.world e.method (effects.writes y z i) s) a.1 a.2 (store_rest hh e s.at w y n k s f c)
rest_met hh e (rules.increments n) (effects.increments l) s f a so x c = subst (λ z. HasLocal e.world (effects.of_kind kinds.Int) z s) a (count_rest hh e n s f so x c.1)
rest_met hh e (rules.rearranges fs) (effects.moves gs) s f a so x c = subst (λ z. HasForm z s) a.0 (form_rest hh e s.at fs s f x c)
rest_met hh e rules.loads_element effects.takes_element s f a so x c = tt
rest_met hh e (rules.makes d) (effects.creates b) s f a so x c = tt
rest_met hh e (rules.constructs d ws) (effects.initializes b ns) s f a so x c = subst (λ z. HasReceiver e.method z ns s) a.0 (constructs_rest hh e s.at d ws ns s f a.1 x c)
rest_met hh e (rules.calls_special o ws gs) (effects.calls_special q ns l r) s f a so x c =
    let own = (special_parts hh (type_answer hh (class e.method.class) (to_reference o)) ws f.stack c.1).1 in
    subst (IsBelow e.world (class_type e.method.class)) a.0 (answer_below hh e.world so.extends (class_type e.method.class) o own)
rest_met hh e rules.returns effects.ends s f a so x c = tt
rest_met hh e (rules.refuses r) t s f a so x c = absurd (true_false c.1.0)
rest_met hh e _ _ s f a so x c = elim a [ ]

-- ---- room on the stack

reference_units : (r : ReferenceType) → units_of (to_reference r ∷ []) ≡ 1
reference_units (class_type n) = refl
reference_units (array_type c) = refl

pub room_met : (hh : List ClassFact) (e : View) (pl : TypingRule) (tk : Effect) (s : State) (f : FrameFact) → Agrees pl tk → Sound hh e → Fits e s f → NoneHolds (conditions hh e.method s.at pl f) → HasRoom e.method tk s
room_met hh e (rules.pops ws gs os b) (effects.operates ns l r us d) s f a so x c = pops_room e ws gs ns e.method.max_stack (effects.reply_units r) s f a.demands (reply_width gs r a.reply) x (room hh e.method s.at (rules.pops ws gs os b) f c)
room_met hh e (rules.pops ws gs os b) (effects.makes_array ns r) s f a so x c = pops_room e ws gs ns e.method.max_stack 1 s f a.demands (ap units_of a.reply ∙ reference_units r) x (room hh e.method s.at (rules.pops ws gs os b) f c)
room_met hh e (rules.pops ws gs os b) (effects.passes r) s f a so x c = tt
room_met hh e (rules.pops ws gs os b) (effects.leaves ns) s f a so x c = tt
room_met hh e (rules.pops ws gs os b) (effects.throws y) s f a so x c = tt
room_met hh e (rules.loads w n k) (effects.reads y l) s f a so x c = subst (λ z. HasRoom e.method (effects.reads y z) s) a.1 (load_room hh e s.at w y n k s f a.0 so x c)
room_met hh e (rules.stores w n k) (effects.writes y l j) s f a so x c = tt
room_met hh e (rules.increments n) (effects.increments l) s f a so x c = tt
room_met hh e (rules.rearranges fs) (effects.moves gs) s f a so x c = subst (λ z. HasRoom e.method (effects.moves z) s) a.0 (form_room hh e s.at fs s f a.1 x c)
room_met hh e rules.loads_element effects.takes_element s f a so x c = tt
room_met hh e (rules.makes d) (effects.creates b) s f a so x c = makes_room hh e s.at d s f x c
room_met hh e (rules.constructs d ws) (effects.initializes b ns) s f a so x c = tt
room_met hh e (rules.calls_special o ws gs) (effects.calls_special q ns l r) s f a so x c = pops_room e ws gs ns e.method.max_stack (effects.reply_units r) s f a.1 (reply_width gs r a.2) x (room hh e.method s.at (rules.calls_special o ws gs) f c)
room_met hh e rules.returns effects.ends s f a so x c = tt
room_met hh e (rules.refuses r) t s f a so x c = absurd (true_false c.1.0)
room_met hh e _ _ s f a so x c = elim a [ ]

-- ---- what meets a demand is ready for its use

reference_ready : (w : World) (h : Heap) (t : ReferenceType) (v : Value) → FitsReference w h t v → IsReady h v
reference_ready w h t (number k) f = tt
reference_ready w h t null f = tt
reference_ready w h t (reference a) f = (f.0, f.1)

array_ready : (h : Heap) (v : Value) → FitsArray h v → IsReady h v
array_ready h (number k) f = tt
array_ready h null f = tt
array_ready h (reference a) f = (f.0, f.1)

usable : (w : World) (h : Heap) (n : Demand) (v : Value) → Meets w h n v → IsUsable h n v
usable w h (effects.of_kind k) v f = tt
usable w h (effects.of_type t) v f = reference_ready w h t v f
usable w h effects.some_reference v f = tt
usable w h effects.some_array v f = array_ready h v f
usable w h (effects.some_array_for p) v f = go v f
  where
    go : (v : Value) → FitsArrayFor h p v → IsReady h v
    go (number k) f = tt
    go null f = tt
    go (reference a) f = (f.0, f.1)
usable w h (effects.own_or_of c) v f = go f
  where
    go : FitsReference w h (class_type c) v ⊎ IsThis h v → IsReady h v ⊎ IsThis h v
    go (inl g) = inl (reference_ready w h (class_type c) v g)
    go (inr g) = inr g

pub all_usable : (w : World) (h : Heap) (ns : List Demand) (vs : List Value) → AllMeet w h ns vs → AllUsable h ns vs
all_usable w h [] vs f = tt
all_usable w h (n ∷ ns) [] f = tt
all_usable w h (n ∷ ns) (v ∷ vs) f = (usable w h n v f.0, all_usable w h ns vs f.1)

-- ---- a constructor's return

ends_here : (hh : List ClassFact) (e : View) (pl : TypingRule) (s : State) (f : FrameFact) → Agrees pl effects.ends → Fits e s f → NoneHolds (conditions hh e.method s.at pl f) → e.method.is_init ≡ true → HasNoThis s.heap
ends_here hh e rules.returns s f a x c made t y at =
    let o = x.only t y at in
    let k : (e.method.is_init && f.flag) ≡ true = rw (made, o.1) refl in
    true_false (sym k ∙ c.1.0)
ends_here hh e (rules.refuses r) s f a x c made t y at = true_false c.1.0
ends_here hh e (rules.pops ws gs os b) s f a x c made t y at = elim a [ ]
ends_here hh e (rules.loads w n k) s f a x c made t y at = elim a [ ]
ends_here hh e (rules.stores w n k) s f a x c made t y at = elim a [ ]
ends_here hh e (rules.increments n) s f a x c made t y at = elim a [ ]
ends_here hh e (rules.rearranges fs) s f a x c made t y at = elim a [ ]
ends_here hh e rules.loads_element s f a x c made t y at = elim a [ ]
ends_here hh e (rules.makes d) s f a x c made t y at = elim a [ ]
ends_here hh e (rules.constructs d ws) s f a x c made t y at = elim a [ ]
ends_here hh e (rules.calls_special o ws gs) s f a x c made t y at = elim a [ ]

pub ends_met : (hh : List ClassFact) (e : View) (pl : TypingRule) (tk : Effect) (s : State) (f : FrameFact) → Agrees pl tk → Fits e s f → NoneHolds (conditions hh e.method s.at pl f) → EndsReady e.method tk s
ends_met hh e pl (effects.operates ns l r us d) s f a x c = tt
ends_met hh e pl (effects.reads y l) s f a x c = tt
ends_met hh e pl (effects.writes y l j) s f a x c = tt
ends_met hh e pl (effects.increments l) s f a x c = tt
ends_met hh e pl (effects.moves gs) s f a x c = tt
ends_met hh e pl effects.takes_element s f a x c = tt
ends_met hh e pl (effects.passes r) s f a x c = tt
ends_met hh e pl (effects.creates b) s f a x c = tt
ends_met hh e pl (effects.makes_array ns r) s f a x c = tt
ends_met hh e pl (effects.initializes b ns) s f a x c = tt
ends_met hh e pl (effects.calls_special q ns l r) s f a x c = tt
ends_met hh e pl (effects.leaves ns) s f a x c = tt
ends_met hh e pl (effects.throws y) s f a x c = tt
ends_met hh e pl effects.stuck s f a x c = tt
ends_met hh e pl effects.ends s f a x c = ends_here hh e pl s f a x c

-- ---- the state after fits the frame after

pub does : (hh : List ClassFact) (e : View) (pl : TypingRule) (tk : Effect) (s : State) (f : FrameFact) (v : Option Value) (q : ℕ) (t : State) → Agrees pl tk → class_made_at e.method s.at ≡ class_made pl → Sound hh e → Fits e s f → NoneHolds (conditions hh e.method s.at pl f) → Does e.world tk s v q t → Keeps e t (after e.method s.at pl f)
does hh e (rules.pops ws gs os b) (effects.operates ns l r us k) s f v q t a at so x c d = pops_does e ws gs ns r v s f q t a.demands a.reply x d.1
does hh e (rules.pops ws gs os b) (effects.makes_array ns r) s f v q t a at so x c d = arrays_does e ws gs ns r s f v q t a.demands a.reply x d
does hh e (rules.pops ws gs os b) (effects.passes r) s f v q t a at so x c d = passes_does e ws gs r s f v q t a.demands a.reply x d
does hh e (rules.pops ws gs os b) (effects.leaves ns) s f v q t a at so x c d = elim d [ ]
does hh e (rules.pops ws gs os b) (effects.throws y) s f v q t a at so x c d = elim d [ ]
does hh e (rules.loads w n k) (effects.reads y l) s f v q t a at so x c d = load_does hh e s.at w y n k s f v q t a.0 so x c (subst (λ z. Does e.world (effects.reads y z) s v q t) (sym a.1) d)
does hh e (rules.stores w n k) (effects.writes y l j) s f v q t a at so x c d = store_does hh e s.at w y n k s f v q t a.0 (a.3 ∙ sym a.2) so x c (subst₂ (λ z i. Does e.world (effects.writes y z i) s v q t) (sym a.1) (sym a.2) d)
does hh e (rules.increments n) (effects.increments l) s f v q t a at so x c d = count_does e l s f v q t x d
does hh e (rules.rearranges fs) (effects.moves gs) s f v q t a at so x c d = form_does hh e s.at fs s f v q t a.1 x c (subst (λ z. Does e.world (effects.moves z) s v q t) (sym a.0) d)
does hh e rules.loads_element effects.takes_element s f v q t a at so x c d = elements_does hh e s.at s f v q t so x c d
does hh e (rules.makes b) (effects.creates y) s f v q t a at so x c d = makes_does hh e b s f v q t at x c (subst (λ z. Does e.world (effects.creates z) s v q t) (sym a) d)
does hh e (rules.constructs b ws) (effects.initializes y ns) s f v q t a at so x c d = constructs_does hh e s.at b ws ns s f v q t a.1 x c d
does hh e (rules.calls_special o ws gs) (effects.calls_special y ns l r) s f v q t a at so x c d = pops_does e ws gs ns r v s f q t a.1 a.2 x d.1
does hh e rules.returns effects.ends s f v q t a at so x c d = elim d [ ]
does hh e (rules.refuses r) y s f v q t a at so x c d = absurd (true_false c.1.0)
does hh e _ _ s f v q t a at so x c d = elim a [ ]

-- where it goes
pub does_at : (w : World) (tk : Effect) (s : State) (v : Option Value) (q : ℕ) (t : State) → Does w tk s v q t → t.at ≡ q
does_at w (effects.operates ns l r os b) s v q t d = ap (λ z. z.at) d.1.2
does_at w (effects.calls_special o ns l r) s v q t d = ap (λ z. z.at) d.1.2
does_at w (effects.reads k n) s v q t d = ap (λ z. z.at) d.3
does_at w (effects.writes k n j) s v q t d = ap (λ z. z.at) d.4
does_at w (effects.increments n) s v q t d = ap (λ z. z.at) d.1
does_at w (effects.moves fs) s v q t d = ap (λ z. z.at) d.4
does_at w effects.takes_element s v q t d = ap (λ z. z.at) d.9
does_at w (effects.passes r) s v q t d = ap (λ z. z.at) d.5
does_at w (effects.creates b) s v q t d = ap (λ z. z.at) d.4
does_at w (effects.makes_array ns r) s v q t d = ap (λ z. z.at) d.4
does_at w (effects.initializes b ws) s v q t d = ap (λ z. z.at) d.7
does_at w (effects.leaves ns) s v q t d = elim d [ ]
does_at w (effects.throws x) s v q t d = elim d [ ]
does_at w effects.ends s v q t d = elim d [ ]
does_at w effects.stuck s v q t d = elim d [ ]

-- ---- both lead to the same places

pub record SameWays (pl : TypingRule) (tk : Effect) : Type 0 where
  pub offsets : effects.offsets_of tk ≡ rules.offsets_of pl
  pub falls : effects.falls tk ≡ rules.falls pl

same_ways : (pl : TypingRule) (tk : Effect) → effects.offsets_of tk ≡ rules.offsets_of pl → effects.falls tk ≡ rules.falls pl → SameWays pl tk
same_ways pl tk p r = record { offsets = p; falls = r }

pub ways_agree : (hh : List ClassFact) (m : Method Act) (p : ℕ) (f : FrameFact) (pl : TypingRule) (tk : Effect) → NoneHolds (conditions hh m p pl f) → Agrees pl tk → SameWays pl tk
ways_agree hh m p f (rules.pops ws gs os b) (effects.operates ns l r us d) c a = same_ways _ _ (sym a.offsets) (sym a.falls)
ways_agree hh m p f (rules.pops ws gs os b) (effects.makes_array ns r) c a = same_ways _ _ (sym a.offsets) (sym a.falls)
ways_agree hh m p f (rules.pops ws gs os b) (effects.passes r) c a = same_ways _ _ (sym a.offsets) (sym a.falls)
ways_agree hh m p f (rules.pops ws gs os b) (effects.leaves ns) c a = same_ways _ _ (sym a.offsets) (sym a.falls)
ways_agree hh m p f (rules.pops ws gs os b) (effects.throws y) c a = same_ways _ _ (sym a.offsets) (sym a.falls)
ways_agree hh m p f (rules.loads w n k) (effects.reads y l) c a = same_ways _ _ refl refl
ways_agree hh m p f (rules.stores w n k) (effects.writes y l j) c a = same_ways _ _ refl refl
ways_agree hh m p f (rules.increments n) (effects.increments l) c a = same_ways _ _ refl refl
ways_agree hh m p f (rules.rearranges fs) (effects.moves gs) c a = same_ways _ _ refl refl
ways_agree hh m p f rules.loads_element effects.takes_element c a = same_ways _ _ refl refl
ways_agree hh m p f (rules.makes d) (effects.creates b) c a = same_ways _ _ refl refl
ways_agree hh m p f (rules.constructs d ws) (effects.initializes b ns) c a = same_ways _ _ refl refl
ways_agree hh m p f (rules.calls_special o ws gs) (effects.calls_special y ns l r) c a = same_ways _ _ refl refl
ways_agree hh m p f rules.returns effects.ends c a = same_ways _ _ refl refl
ways_agree hh m p f (rules.refuses r) t c a = absurd (true_false c.1.0)
ways_agree hh m p f _ _ c a = elim a [ ]
