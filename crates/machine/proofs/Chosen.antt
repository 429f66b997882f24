-- The outcome of a choice is that of the calls that go on and that raise.
use Rattle.std.proofs.Common.{◌≡◌, ℕ, ℤ, Bool, false, List, [], ◌∷◌, Option, Some, None, Result, Ok, Err, refl, sym, ap, ◌∙◌, subst, inl, inr}
use Rattle.std.proofs.lemmas.Bool.{false≢true}
use Rattle.names.specs.ReferenceTypes.{ReferenceType}
use Rattle.hierarchy.specs.World.{World}
use Rattle.classfile.specs.Methods.{Method}
use Rattle.insn.specs.Meanings.{Act}
use Rattle.insn.specs.Offsets.{at_offset, next_offset}
use Rattle.machine.specs.declared.choosing.Outcome.{Outcome as RawOutcome}
use Rattle.machine.specs.declared.choosing.Outcome.TheVariants as outcomes
use Rattle.machine.specs.declared.choosing.StepFault.{StepFault}
use Rattle.machine.specs.declared.choosing.StepFault.TheVariants.{OutOfMemory, NotAChoice, NotInitial}
use Rattle.machine.specs.Values.{Value}
use Rattle.machine.specs.Heap.{Heap, with_fresh}
use Rattle.machine.specs.Effects.{Effect, operates, reads, writes, increments, moves, takes_element, passes, creates, makes_array, initializes, calls_special, leaves, throws, ends, stuck, targets, Effects}
use Rattle.machine.specs.Demands.{State, IsNoFaultBy}
use Rattle.machine.specs.Steps.{go, raise, Outcome, goes_on, ended, Does, IsBranch, GoesTo, StepsBy, IsLast, EndsBy, HappensBy}
use Rattle.machine.specs.private.Demanded.{Meets}
use Rattle.machine.specs.private.Happening.{MayGo, GoesWay, GoesOn, EndsSo, Goes, Raises, moved_to}
use Rattle.machine.specs.Stepped.{Stepped}
use Rattle.machine.specs.Views.{state_view}
use Rattle.machine.proofs.Deciding.{no_fault}

pub nowhere : (effect : Effects) (world : World) (m : Method Act) (s : State) → at_offset m.code s.at ≡ None → IsNoFaultBy effect world m s → ⊥
nowhere effect world m s e n = cc (e, n.here)

-- ---- ways

-- without targets, and where it does not fall, it goes nowhere
no_going : {next branch : Option ℕ} {to : ℕ} → MayGo [] false next branch to → ⊥
no_going g = elim g.where_to [ inl a ↦ a | inr e ↦ false≢true e.0 ]

pub last_stays : (t : Effect) (next : Option ℕ) (from : ℕ) (branch : Option ℕ) (to : ℕ) → IsLast t → GoesWay t next from branch to → ⊥
last_stays (operates demands live reply offsets on) next from branch to e g = absurd e
last_stays (reads demand local) next from branch to e g = absurd e
last_stays (writes demand local width) next from branch to e g = absurd e
last_stays (increments local) next from branch to e g = absurd e
last_stays (moves forms) next from branch to e g = absurd e
last_stays takes_element next from branch to e g = absurd e
last_stays (passes type) next from branch to e g = absurd e
last_stays (creates class) next from branch to e g = absurd e
last_stays (makes_array demands type) next from branch to e g = absurd e
last_stays (initializes class demands) next from branch to e g = absurd e
last_stays (calls_special class demands live reply) next from branch to e g = absurd e
last_stays (leaves demands) next from branch to e g = no_going g
last_stays (throws demand) next from branch to e g = absurd e
last_stays ends next from branch to e g = no_going g
last_stays stuck next from branch to e g = absurd e

-- there is one way by a branch
pub one_way : (ts : List ℤ) (falls : Bool) (next branch : Option ℕ) (x y : ℕ) → MayGo ts falls next branch x → MayGo ts falls next branch y → x ≡ y
one_way [] falls next branch x y g h =
    elim g.where_to [
      | inl a ↦ absurd a
      | inr e ↦ elim h.where_to [ inl b ↦ absurd b | inr f ↦ cc (e.1, f.1) ]
    ]
one_way (t ∷ ts) falls next branch x y g h = cc (g.by, h.by)

-- what is done does not hang on where it is done
pub elsewhere : (world : World) (t : Effect) (s : State) (from at to : ℕ) (heap : Heap) (answer : Option Value) (after : State)
    → Does world t (moved_to s from heap) answer to after → Does world t (moved_to s at heap) answer to after
elsewhere world (operates demands live reply offsets on) s from at to heap answer after d = d
elsewhere world (reads demand local) s from at to heap answer after d = d
elsewhere world (writes demand local width) s from at to heap answer after d = d
elsewhere world (increments local) s from at to heap answer after d = d
elsewhere world (moves forms) s from at to heap answer after d = d
elsewhere world takes_element s from at to heap answer after d = d
elsewhere world (passes type) s from at to heap answer after d = d
elsewhere world (creates class) s from at to heap answer after d = d
elsewhere world (makes_array demands type) s from at to heap answer after d = d
elsewhere world (initializes class demands) s from at to heap answer after d = d
elsewhere world (calls_special class demands live reply) s from at to heap answer after d = d
elsewhere world (leaves demands) s from at to heap answer after d = d
elsewhere world (throws demand) s from at to heap answer after d = d
elsewhere world ends s from at to heap answer after d = d
elsewhere world stuck s from at to heap answer after d = d

-- ---- outcomes

module _ (effect : Effects) (world : World) (m : Method Act) (s : State) (act : Act) (t : Effect) (next : Option ℕ)
    (here : at_offset m.code s.at ≡ Some act) (what : t ≡ effect m act) (after : next_offset m.code s.at ≡ next) (p : Meets world m t next s) where
  abbrev fine : IsNoFaultBy effect world m s
  fine = no_fault effect world m s act t next here what after p

  -- the effect of whatever act is found
  same_effect : (other : Act) → at_offset m.code s.at ≡ Some other → effect m other ≡ t
  same_effect other e =
      let same : other ≡ act = cc (e, here) in
      ap (effect m) same ∙ sym what

  module _ (branch : Option ℕ) (answer : Option Value) (fresh : List (ℕ × ReferenceType)) where
    abbrev heap : Heap
    heap = with_fresh s.heap fresh

    going : (u : State) → StepsBy effect world m s branch answer fresh u → GoesOn world t next s heap branch answer u
    going u w =
        let e = same_effect w.act w.here in
        record {
          to = w.to;
          way = record {
            by = subst (λ z. IsBranch (targets s.at z) branch w.to) e w.branches;
            where_to = elim (subst (λ z. GoesTo m s.at z w.to) e w.goes) [ inl a ↦ inl a | inr g ↦ inr (g.0, sym after ∙ g.1) ];
          };
          does = subst (λ z. Does world z (moved_to s s.at heap) answer w.to u) e w.does;
        }

    ending : EndsBy effect m s branch answer fresh → EndsSo t branch answer
    ending w = record { last = subst IsLast (same_effect w.act w.here) w.last; no_branch = w.no_branch; no_answer = w.no_answer }

    pub go_steps : (r : Result RawOutcome StepFault) → Goes world t next s branch answer fresh r → Stepped effect world m s (go branch answer fresh) r
    go_steps (Ok (outcomes.Next u)) g = (
      fine,
      record {
        act = act;
        here = here;
        unused = g.0;
        to = g.1.to;
        branches = subst (λ z. IsBranch (targets s.at z) branch g.1.to) what g.1.way.by;
        goes = subst (λ z. GoesTo m s.at z g.1.to) what (elim g.1.way.where_to [ inl a ↦ inl a | inr e ↦ inr (e.0, after ∙ e.1) ]);
        does = subst (λ z. Does world z (moved_to s s.at heap) answer g.1.to (state_view u)) what g.1.does;
      },
    )
    go_steps (Ok outcomes.Ended) g = (
      fine,
      record {
        act = act;
        here = here;
        unused = g.0;
        no_branch = g.1.no_branch;
        no_answer = g.1.no_answer;
        last = subst IsLast what g.1.last;
      },
    )
    go_steps (Ok outcomes.Fault) g = absurd g
    go_steps (Err OutOfMemory) g = tt
    go_steps (Err NotInitial) g = absurd g
    go_steps (Err NotAChoice) g = (fine, none)
      where
        none : (o : Outcome) → HappensBy effect world m s (go branch answer fresh) o → ⊥
        none (goes_on u) h = (g h.1.unused).0 u (going u h.1)
        none ended h = (g h.1.unused).1 (ending h.1)

  pub raise_steps : (address : ℕ) (fresh : List (ℕ × ReferenceType)) (entry : Option ℕ) (r : Result RawOutcome StepFault) → Raises world m s address fresh entry r → Stepped effect world m s (raise address fresh entry) r
  raise_steps address fresh None (Ok (outcomes.Next t)) g = absurd g
  raise_steps address fresh (Some entry) (Ok (outcomes.Next t)) g = (fine, g)
  raise_steps address fresh None (Ok outcomes.Ended) g = (fine, g.1)
  raise_steps address fresh (Some entry) (Ok outcomes.Ended) g = absurd cc
  raise_steps address fresh entry (Ok outcomes.Fault) g = absurd g
  raise_steps address fresh entry (Err OutOfMemory) g = tt
  raise_steps address fresh entry (Err NotInitial) g = absurd g
  raise_steps address fresh None (Err NotAChoice) g = (fine, none)
    where
      none : (o : Outcome) → HappensBy effect world m s (raise address fresh None) o → ⊥
      none (goes_on t) h = h
      none ended h = g.0 refl h.1
  raise_steps address fresh (Some entry) (Err NotAChoice) g = (fine, none)
    where
      none : (o : Outcome) → HappensBy effect world m s (raise address fresh (Some entry)) o → ⊥
      none (goes_on t) h = g.1 t h.1
      none ended h = h
