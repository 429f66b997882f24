-- A state meets the tests exactly where it is no fault.
use Rattle.std.specs.Prelude.{not, nat_eq, ◌||◌, ◌&&◌, pos, negsuc}
use Rattle.std.proofs.Common.{◌≡◌, ℕ, ℤ, Bool, true, false, List, [], ◌∷◌, length, Option, Some, if◌then◌else◌, refl, sym, ap, ◌∙◌, subst, arith, inl, inr}
use Rattle.std.specs.Option.{is_some}
use Rattle.std.proofs.lemmas.Bool.Decides.{nat_tests}
use Rattle.hierarchy.specs.World.{World}
use Rattle.classfile.specs.Methods.{Method, ExceptionEntry, covers}
use Rattle.insn.specs.Meanings.{Act}
use Rattle.insn.specs.Offsets.{at_offset, IsStart, has_offset, first_offset, next_offset, IsAmong}
use Rattle.machine.specs.Values.{Value}
use Rattle.machine.specs.Heap.{Heap}
use Rattle.machine.specs.Effects.{Demand, of_kind, of_type, some_reference, some_array, some_array_for, own_or_of, Effect, demands_of, falls, targets, Effects}
use Rattle.machine.specs.Values as values
use Rattle.machine.specs.Demands.{State, AllMeet, MeetsRest, HasRoom, IsUsable, AllUsable, EndsReady, LeadsToStart, IsNoFaultBy}
use Rattle.machine.specs.Demands as demands
use Rattle.machine.specs.private.Decided.{paired_behind}
use Rattle.machine.specs.private.Demanded.{begins, all_begin, leads, all_lead, Meets}
use Rattle.machine.proofs.Forms.{split, join, some_is, paired_is, is_paired}

-- ---- starts

start_of : (code : List (ℕ × Act)) (at : ℕ) → has_offset code at ≡ true → IsStart code at
start_of code at e = let h = some_is (at_offset code at) e in record { what = h.0; here = h.1 }

offset_of : (code : List (ℕ × Act)) (at : ℕ) → IsStart code at → has_offset code at ≡ true
offset_of code at s = ap is_some s.here

or_some : (b : Bool) (a : Act) (o : Option Act) → is_some o ≡ true → is_some (if b then Some a else o) ≡ true
or_some true a o e = refl
or_some false a o e = e

first_begins : (x : ℕ × Act) (xs : List (ℕ × Act)) (n : ℕ) → first_offset xs ≡ Some n → has_offset (x ∷ xs) n ≡ true
first_begins x [] n e = absurd cc
first_begins x (y ∷ ys) n e =
    let same : y.0 ≡ n = cc in
    let here : nat_eq y.0 n ≡ true = grind (arith, nat_tests, same) in
    or_some (nat_eq x.0 n) x.1 (at_offset (y ∷ ys) n) (ap (λ b. is_some (if b then Some y.1 else at_offset ys n)) here)

next_step : (x : ℕ × Act) (xs : List (ℕ × Act)) (at n : ℕ) (b : Bool) → (next_offset xs at ≡ Some n → has_offset xs n ≡ true) → (if b then first_offset xs else next_offset xs at) ≡ Some n → has_offset (x ∷ xs) n ≡ true
next_step x xs at n true later e = first_begins x xs n e
next_step x xs at n false later e = or_some (nat_eq x.0 n) x.1 (at_offset xs n) (later e)

next_begins : (code : List (ℕ × Act)) (at n : ℕ) → next_offset code at ≡ Some n → has_offset code n ≡ true
next_begins [] at n e = absurd cc
next_begins (x ∷ xs) at n e = next_step x xs at n (nat_eq x.0 at) (next_begins xs at n) e

-- ---- handlers

leads_on : (c h : Bool) → (not c || h) ≡ true → c ≡ true → h ≡ true
leads_on true h e f = e
leads_on false h e f = cc

leads_there : (c h : Bool) → (c ≡ true → h ≡ true) → (not c || h) ≡ true
leads_there true h f = f refl
leads_there false h f = refl

module _ (code : List (ℕ × Act)) (at : ℕ) where
  lead : (es : List ExceptionEntry) → all_lead code at es ≡ true → (e : ExceptionEntry) → IsAmong e es → covers e at ≡ true → IsStart code e.handler
  lead [] t e a c = absurd a
  lead (x ∷ xs) t e (inl a) c =
      start_of code e.handler (leads_on (covers e at) (has_offset code e.handler) (subst (λ z. leads code at z ≡ true) (sym a) (split (leads code at x) (all_lead code at xs) t).0) c)
  lead (x ∷ xs) t e (inr a) c = lead xs (split (leads code at x) (all_lead code at xs) t).1 e a c

  led : (es : List ExceptionEntry) → ((e : ExceptionEntry) → IsAmong e es → covers e at ≡ true → IsStart code e.handler) → all_lead code at es ≡ true
  led [] f = refl
  led (x ∷ xs) f = join (leads code at x) (all_lead code at xs)
      (leads_there (covers x at) (has_offset code x.handler) (λ c. offset_of code x.handler (f x (inl refl) c)))
      (led xs (λ e a. f e (inr a)))

-- ---- branches

begins_at : (m : Method Act) (target : ℤ) → begins m.code target ≡ true → LeadsToStart m target
begins_at m (pos at) e = (at, refl, start_of m.code at e)
begins_at m (negsuc n) e = cc

start_begins : (m : Method Act) (target : ℤ) → LeadsToStart m target → begins m.code target ≡ true
start_begins m target l = subst (λ z. begins m.code z ≡ true) (sym l.1) (offset_of m.code l.0 l.2)

begun : (m : Method Act) (ts : List ℤ) → all_begin m.code ts ≡ true → (target : ℤ) → IsAmong target ts → LeadsToStart m target
begun m [] e target a = absurd a
begun m (t ∷ ts) e target (inl a) = subst (LeadsToStart m) (sym a) (begins_at m t (split (begins m.code t) (all_begin m.code ts) e).0)
begun m (t ∷ ts) e target (inr a) = begun m ts (split (begins m.code t) (all_begin m.code ts) e).1 target a

begin_all : (m : Method Act) (ts : List ℤ) → ((target : ℤ) → IsAmong target ts → LeadsToStart m target) → all_begin m.code ts ≡ true
begin_all m [] f = refl
begin_all m (t ∷ ts) f = join (begins m.code t) (all_begin m.code ts) (start_begins m t (f t (inl refl))) (begin_all m ts (λ target a. f target (inr a)))

-- ---- what meets a demand is usable

module _ (world : World) (heap : Heap) where
  usable : (n : Demand) (v : Value) → demands.Meets world heap n v → IsUsable heap n v
  usable (of_kind kind) v p = tt
  usable some_reference v p = tt
  usable (of_type type) (values.number kind) p = absurd p
  usable (of_type type) values.null p = tt
  usable (of_type type) (values.reference a) p = (p.0, p.1)
  usable some_array (values.number kind) p = absurd p
  usable some_array values.null p = tt
  usable some_array (values.reference a) p = (p.0, p.1)
  usable (some_array_for q) (values.number kind) p = absurd p
  usable (some_array_for q) values.null p = tt
  usable (some_array_for q) (values.reference a) p = (p.0, p.1)
  usable (own_or_of class) (values.number kind) (inl p) = absurd p
  usable (own_or_of class) values.null (inl p) = inl tt
  usable (own_or_of class) (values.reference a) (inl p) = inl (p.0, p.1)
  usable (own_or_of class) v (inr p) = inr p

  all_usable : (ns : List Demand) (vs : List Value) → AllMeet world heap ns vs → AllUsable heap ns vs
  all_usable [] vs p = tt
  all_usable (n ∷ ns) [] p = tt
  all_usable (n ∷ ns) (v ∷ vs) p = (usable n v p.0, all_usable ns vs p.1)

-- ---- both ways

same_length : (a b : ℕ) → nat_eq a b ≡ true → a ≡ b
same_length a b e = grind (arith, nat_tests, e)

length_same : (a b : ℕ) → a ≡ b → nat_eq a b ≡ true
length_same a b e = grind (arith, nat_tests, e)

module _ (effect : Effects) (world : World) (m : Method Act) (s : State) (act : Act) (t : Effect) (next : Option ℕ)
    (here : at_offset m.code s.at ≡ Some act) (what : t ≡ effect m act) (after : next_offset m.code s.at ≡ next) where
  abbrev on : Bool
  on = not (falls t) || is_some next

  abbrev ways_begin : Bool
  ways_begin = all_begin m.code (targets s.at t)

  pub no_fault : Meets world m t next s → IsNoFaultBy effect world m s
  no_fault p =
      let whole = split (nat_eq (length s.locals) m.max_locals) (paired_behind false s.locals) p.locals in
      let ways = split on (ways_begin && all_lead m.code s.at m.exceptions) p.control in
      let others = split ways_begin (all_lead m.code s.at m.exceptions) ways.1 in
      record {
        act = act;
        here = here;
        operands = record {
          operands = subst (λ z. AllMeet world s.heap (demands_of z) s.stack) what p.operands;
          others = subst (λ z. MeetsRest world m z s) what p.others;
          all_locals = same_length (length s.locals) m.max_locals whole.0;
          paired = paired_is false s.locals whole.1;
        };
        stack = record { before = p.before; after = subst (λ z. HasRoom m z s) what p.after };
        control = record {
          branches = subst (λ z. (target : ℤ) → IsAmong target (targets s.at z) → LeadsToStart m target) what (begun m (targets s.at t) others.0);
          next = λ f.
              let n = some_is next (leads_on (falls t) (is_some next) ways.0 (ap falls what ∙ f)) in
              (n.0, after ∙ n.1, start_of m.code n.0 (next_begins m.code s.at n.0 (after ∙ n.1)));
          caught = lead m.code s.at m.exceptions others.1;
        };
        objects = record { uses = subst (λ z. AllUsable s.heap (demands_of z) s.stack) what (all_usable world s.heap (demands_of t) s.stack p.operands) };
        own_object = record { own = subst (λ z. EndsReady m z s) what p.own_object };
      }

  met : (n : IsNoFaultBy effect world m s) → effect m n.act ≡ t → Meets world m t next s
  met n e = record {
    locals = join (nat_eq (length s.locals) m.max_locals) (paired_behind false s.locals) (length_same (length s.locals) m.max_locals n.operands.all_locals) (is_paired false s.locals n.operands.paired);
    operands = subst (λ z. AllMeet world s.heap (demands_of z) s.stack) e n.operands.operands;
    others = subst (λ z. MeetsRest world m z s) e n.operands.others;
    before = n.stack.before;
    after = subst (λ z. HasRoom m z s) e n.stack.after;
    control = join on (ways_begin && all_lead m.code s.at m.exceptions)
        (leads_there (falls t) (is_some next) (λ f. let r = n.control.next (ap falls e ∙ f) in ap is_some (sym after ∙ r.1)))
        (join ways_begin (all_lead m.code s.at m.exceptions)
        (begin_all m (targets s.at t) (subst (λ z. (target : ℤ) → IsAmong target (targets s.at z) → LeadsToStart m target) e n.control.branches))
        (led m.code s.at m.exceptions n.control.caught));
    own_object = subst (λ z. EndsReady m z s) e n.own_object.own;
  }

  pub meets : IsNoFaultBy effect world m s → Meets world m t next s
  meets n =
      let same : n.act ≡ act = cc (n.here, here) in
      met n (ap (effect m) same ∙ sym what)
