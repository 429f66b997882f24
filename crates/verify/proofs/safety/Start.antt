-- The state in which a method may begin fits the frame with which it begins.
use Rattle.std.proofs.Common.{◌≡◌, ℕ, zero, suc, ◌-◌, ◌≤◌, Bool, true, false, List, [], ◌∷◌, ◌++◌, map, length, replicate, Option, Some, None, if◌then◌else◌, sym, ap, refl, ◌∙◌, subst, arith}
use Rattle.std.proofs.lemmas.List.{length-replicate, length-append}
use Rattle.names.specs.ReferenceTypes.{ReferenceType, class_type}
use Rattle.classfile.specs.Methods.{Method, Receiver, no_receiver, ready_receiver, own_receiver, receiver_of}
use Rattle.hierarchy.specs.World.{World, IsSubclassIn}
use Rattle.insn.specs.Meanings.{Act}
use Rattle.frames.specs.VerificationType.{VerificationType, top, class, uninit_this}
use Rattle.frames.specs.Slots.{descriptor_type, is_wide, in_locals, all_locals}
use Rattle.machine.specs.Values.{Value, Slot, empty, second, holds, is_wide_value, ArePairedBehind, ArePaired, in_slots, all_slots}
use Rattle.machine.specs.Heap.{this, Object, object, Heap, AllFit}
use Rattle.machine.specs.Demands.{State}
use Rattle.machine.specs.Runs.{Receives, IsInitial}
use Rattle.verify.specs.InitialFrames.{receiver_types, initial_types, is_uninitialized, initial_frame}
use Rattle.verify.proofs.safety.Fits.{View, Items, Slots, Fits, val_fit, items_append}
use Rattle.verify.proofs.safety.Plain.{field_items}

abbrev pub first_view : World → Method Act → ℕ → View
first_view w m own = record { world = w; method = m; own = own; site = λ n. 0; home = λ n. 0 }

slots_of_items : (e : View) (h : Heap) (vs : List Value) (ts : List VerificationType) → Items e h vs ts → Slots e h (in_slots vs) (in_locals ts)
slots_of_items e h [] [] f = tt
slots_of_items e h (v ∷ vs) (t ∷ ts) f = go (is_wide_value v) (is_wide t) f.0.wide (slots_of_items e h vs ts f.1)
  where
    go : (a b : Bool) → a ≡ b → Slots e h (in_slots vs) (in_locals ts) → Slots e h (if a then holds v ∷ second ∷ in_slots vs else holds v ∷ in_slots vs) (if b then t ∷ top ∷ in_locals ts else t ∷ in_locals ts)
    go true true q r = (val_fit e h v t f.0.fit, (tt, r))
    go false false q r = (val_fit e h v t f.0.fit, r)
    go true false q r = cc
    go false true q r = cc
slots_of_items e h [] (t ∷ ts) f = elim f [ ]
slots_of_items e h (v ∷ vs) [] f = elim f [ ]

empty_slots : (e : View) (h : Heap) (n : ℕ) → Slots e h (replicate n empty) (replicate n top)
empty_slots e h zero = tt
empty_slots e h (suc n) = (tt, empty_slots e h n)

slots_append : (e : View) (h : Heap) (ss rs : List Slot) (ts us : List VerificationType) → Slots e h ss ts → Slots e h rs us → Slots e h (ss ++ rs) (ts ++ us)
slots_append e h [] rs [] us f g = g
slots_append e h (s ∷ ss) rs (t ∷ ts) us f g = (f.0, slots_append e h ss rs ts us f.1 g)
slots_append e h [] rs (t ∷ ts) us f g = elim f [ ]
slots_append e h (s ∷ ss) rs [] us f g = elim f [ ]

slots_length : (e : View) (h : Heap) (ss : List Slot) (ts : List VerificationType) → Slots e h ss ts → length ss ≡ length ts
slots_length e h [] [] f = refl
slots_length e h (s ∷ ss) (t ∷ ts) f = ap suc (slots_length e h ss ts f.1)
slots_length e h [] (t ∷ ts) f = elim f [ ]
slots_length e h (s ∷ ss) [] f = elim f [ ]

all_slots_fit : (e : View) (h : Heap) (n : ℕ) (vs : List Value) (ts : List VerificationType) → Items e h vs ts → Slots e h (all_slots n vs) (all_locals n ts)
all_slots_fit e h n vs ts f =
    let g = slots_of_items e h vs ts f in
    let l = slots_length e h (in_slots vs) (in_locals ts) g in
    subst (λ k. Slots e h (all_slots n vs) (in_locals ts ++ replicate (n - k) top)) l
    (slots_append e h (in_slots vs) (replicate (n - length (in_slots vs)) empty) (in_locals ts) (replicate (n - length (in_slots vs)) top) g (empty_slots e h (n - length (in_slots vs))))

empties_paired : (n : ℕ) → ArePaired (replicate n empty)
empties_paired zero = tt
empties_paired (suc n) = empties_paired n

paired_append : (b : Bool) (ss rs : List Slot) → ArePairedBehind b ss → ArePaired rs → ArePairedBehind b (ss ++ rs)
paired_append false [] rs p q = q
paired_append true [] rs p q = elim p [ ]
paired_append true (second ∷ ss) rs p q = paired_append false ss rs p q
paired_append true (empty ∷ ss) rs p q = elim p [ ]
paired_append true (holds v ∷ ss) rs p q = elim p [ ]
paired_append false (second ∷ ss) rs p q = elim p [ ]
paired_append false (empty ∷ ss) rs p q = paired_append false ss rs p q
paired_append false (holds v ∷ ss) rs p q = paired_append (is_wide_value v) ss rs p q

values_paired : (vs : List Value) → ArePaired (in_slots vs)
values_paired [] = tt
values_paired (v ∷ vs) = go (is_wide_value v) refl (values_paired vs)
  where
    go : (b : Bool) → is_wide_value v ≡ b → ArePaired (in_slots vs) → ArePaired (if b then holds v ∷ second ∷ in_slots vs else holds v ∷ in_slots vs)
    go true q r = subst (λ b. ArePairedBehind b (second ∷ in_slots vs)) (sym q) r
    go false q r = subst (λ b. ArePairedBehind b (in_slots vs)) (sym q) r

all_length : (n : ℕ) (vs : List Value) → length (in_slots vs) ≤ n → length (all_slots n vs) ≡ n
all_length n vs l =
    let a = length-append (in_slots vs) (replicate (n - length (in_slots vs)) empty) in
    let b = length-replicate (n - length (in_slots vs)) empty in
    omega arith

receiver_items : (w : World) (m : Method Act) (own : ℕ) (h : Heap) (r : Receiver) (vs : List Value) → Receives w m h own r vs → Items (first_view w m own) h vs (receiver_types m r)
receiver_items w m own h no_receiver vs r = subst (λ z. Items (first_view w m own) h z []) (sym r) tt
receiver_items w m own h ready_receiver vs r = subst (λ z. Items (first_view w m own) h z (class m.class ∷ [])) (sym r.1) (record { wide = refl; fit = r.2 }, tt)
receiver_items w m own h own_receiver vs r = subst (λ z. Items (first_view w m own) h z (uninit_this ∷ [])) (sym r.0) (record { wide = refl; fit = (refl, r.1) }, tt)

abbrev type_in : Option Object → ReferenceType
type_in None = class_type []
type_in (Some o) = o.type

-- the part of a beginning that keeps a state fitting
pub record MayStart (w : World) (m : Method Act) (s : State) : Type 0 where
  pub stack : s.stack ≡ []
  pub own : ℕ
  pub receiver : List Value
  pub arguments : List Value
  pub receives : Receives w m s.heap own (receiver_of m) receiver
  pub fit : AllFit w s.heap m.type.params arguments
  pub enough : length (in_locals (initial_types m)) ≤ m.max_locals
  pub locals : s.locals ≡ all_slots m.max_locals (receiver ++ arguments)
  pub only_own : (a : ℕ) (x : ReferenceType) → s.heap a ≡ Some (object x this) → (receiver_of m ≡ own_receiver) × (a ≡ own)

abbrev pub may_start : (w : World) (m : Method Act) (s : State) → length (in_locals (initial_types m)) ≤ m.max_locals → (i : IsInitial w m s) → MayStart w m s
may_start w m s enough i = record { stack = i.stack; own = i.own; receiver = i.receiver; arguments = i.arguments; receives = i.receives; fit = i.fit; enough = enough; locals = i.locals; only_own = i.only_own }

pub start_fits : (w : World) (m : Method Act) (s : State) (i : MayStart w m s) → Fits (first_view w m i.own) s (initial_frame m)
start_fits w m s i =
    let e = first_view w m i.own in
    let vs = i.receiver ++ i.arguments in
    let items = items_append e s.heap i.receiver i.arguments (receiver_types m (receiver_of m)) (map descriptor_type m.type.params) (receiver_items w m i.own s.heap (receiver_of m) i.receiver i.receives) (field_items e s.heap m.type.params i.arguments i.fit) in
    let long : length (in_slots vs) ≡ length (in_locals (initial_types m)) = slots_length e s.heap (in_slots vs) (in_locals (initial_types m)) (slots_of_items e s.heap vs (initial_types m) items) in
    let enough : length (in_slots vs) ≤ m.max_locals = subst (λ n. n ≤ m.max_locals) (sym long) i.enough in
    record {
      items = subst (λ z. Items e s.heap z []) (sym i.stack) tt;
      slots = subst (λ z. Slots e s.heap z (initial_frame m).locals) (sym i.locals) (all_slots_fit e s.heap m.max_locals vs (initial_types m) items);
      paired = subst ArePaired (sym i.locals) (paired_append false (in_slots vs) (replicate (m.max_locals - length (in_slots vs)) empty) (values_paired vs) (empties_paired (m.max_locals - length (in_slots vs))));
      long = ap length i.locals ∙ all_length m.max_locals vs enough;
      only = λ a t at. own a t at;
    }
  where
    own : (a : ℕ) (t : ReferenceType) → s.heap a ≡ Some (object t this) → (a ≡ i.own) × (is_uninitialized (receiver_of m) ≡ true) × ((x : List ℕ) × (t ≡ class_type x) × IsSubclassIn w x m.class)
    own a t at =
        let o = i.only_own a t at in
        let c : Receives w m s.heap i.own own_receiver i.receiver = subst (λ r. Receives w m s.heap i.own r i.receiver) o.0 i.receives in
        let k : s.heap i.own ≡ Some (object t this) = subst (λ z. s.heap z ≡ Some (object t this)) o.1 at in
        (o.1, ap is_uninitialized o.0, (c.1.0, ap type_in (sym k ∙ c.1.1), c.1.2))
