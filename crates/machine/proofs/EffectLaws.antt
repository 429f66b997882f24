-- Laws of the effects on a state.
use Rattle.std.specs.Prelude.{IsTrue, ◌↔◌}
use Rattle.std.specs.Option.{is_some}
use Rattle.std.proofs.Common.{◌≡◌, ℕ, ◌+◌, ◌≤◌, Bool, false, List, [], ◌∷◌, length, slice_get, Option, Some, None, option_map, Result, Ok, Err, refl, sym, ap, ◌∙◌, subst, arith}
use Rattle.std.proofs.lemmas.Bool.{false≢true}
use Rattle.names.specs.ReferenceTypes.{ReferenceType}
use Rattle.hierarchy.specs.World.{World}
use Rattle.classfile.specs.Methods.{Method}
use Rattle.insn.specs.declared.stack.StackOperator.{StackOperator}
use Rattle.insn.specs.Operators.{StackForm, stack_forms}
use Rattle.insn.specs.Meanings.{Act}
use Rattle.insn.specs.Offsets.{IsAmong}
use Rattle.insn.specs.OperandStacks.{beneath, rearranged}
use Rattle.machine.specs.declared.items.Value.{Value as RawValue}
use Rattle.machine.specs.declared.items.Value.TheVariants as values
use Rattle.machine.specs.declared.snapshot.State.{State as RawState}
use Rattle.machine.specs.declared.choosing.StepFault.{StepFault}
use Rattle.machine.specs.declared.choosing.StepFault.TheVariants.{OutOfMemory, NotAChoice, NotInitial}
use Rattle.machine.specs.Values.{Value, reference, depth_of}
use Rattle.machine.specs.Heap.{Object, IsAddress, Heap, object, ready, with_object, with_fresh}
use Rattle.machine.specs.Effects.{Demand, Effect, falls, targets}
use Rattle.machine.specs.Demands.{State, AreForm, HasReceiver}
use Rattle.machine.specs.Steps.{IsLast, Does, moved, moved_with}
use Rattle.machine.specs.private.Decided.{form_for}
use Rattle.machine.specs.private.Demanded.{IsUninitialized}
use Rattle.machine.specs.private.Happening.{Done, DoesHere, MakesReady, Initializes, PutsAt, Puts, moved_to, GoesWay, GoesOn, Goes}
use Rattle.machine.specs.Views.{value_view, state_view}
use Rattle.machine.proofs.Forms.{form_chosen, same_form}
use Rattle.machine.proofs.Chosen.{elsewhere, one_way}

pub no_answer : (o : Option RawValue) (b : Bool) → b ≡ is_some o → b ≡ false → option_map value_view o ≡ None
no_answer None b e f = refl
no_answer (Some v) b e f = absurd (false≢true (sym f ∙ e))

pub top_item : (vs : List Value) (v : Value) → Some v ≡ slice_get vs 0 → (rest : List Value) × (vs ≡ v ∷ rest)
top_item [] v e = absurd cc
top_item (w ∷ ws) v e =
    let same : w ≡ v = cc in
    (ws, ap (λ z. z ∷ ws) same)

-- ---- what stands beneath operands

pub under : {A : Type 0} → (ns : List A) (vs : List Value) (v : Value) → Some v ≡ slice_get vs (length ns) → (rest : List Value) × (beneath ns vs ≡ v ∷ rest)
under [] vs v e = top_item vs v e
under (n ∷ ns) [] v e = absurd cc
under (n ∷ ns) (w ∷ ws) v e = under ns ws v e

pub item_under : {A : Type 0} → (ns : List A) (vs : List Value) (v : Value) (rest : List Value) → beneath ns vs ≡ v ∷ rest → slice_get vs (length ns) ≡ Some v
item_under [] [] v rest e = absurd cc
item_under [] (w ∷ ws) v rest e =
    let same : w ≡ v = cc in
    ap Some same
item_under (n ∷ ns) [] v rest e = absurd cc
item_under (n ∷ ns) (w ∷ ws) v rest e = item_under ns ws v rest e

module _ (m : Method Act) (class : List ℕ) (demands : List Demand) (s : State) where
  pub no_receiver : None ≡ slice_get s.stack (length demands) → HasReceiver m class demands s → ⊥
  no_receiver e h =
      let there : slice_get s.stack (length demands) ≡ Some (reference h.address) = item_under demands s.stack (reference h.address) h.rest h.here in
      cc

  pub receiver_found : (v : Value) → Some v ≡ slice_get s.stack (length demands) → IsUninitialized m s.heap class v → HasReceiver m class demands s
  receiver_found v e u =
      let r = under demands s.stack v e in
      record { address = u.0; rest = r.0; here = r.1 ∙ ap (λ z. z ∷ r.0) u.1; uninitialized = u.2 }

  pub receiver_there : (v : Value) → Some v ≡ slice_get s.stack (length demands) → HasReceiver m class demands s → IsUninitialized m s.heap class v
  receiver_there v e h =
      let there : slice_get s.stack (length demands) ≡ Some (reference h.address) = item_under demands s.stack (reference h.address) h.rest h.here in
      let same : v ≡ reference h.address = cc in
      (h.address, same, h.uninitialized)

-- ---- objects

module _ (demands : List Demand) (s : State) (answer : Option Value) (a : ℕ) (rest : List Value) (e : beneath demands s.stack ≡ reference a ∷ rest) (none : answer ≡ None) where
  pub initialized : (r : Result RawState StepFault) → Done (MakesReady a (moved s s.at rest)) r → Done (Initializes demands s answer) r
  initialized (Ok t) d = (a, rest, d.0, d.1, e, d.2, none, d.3)
  initialized (Err OutOfMemory) d = tt
  initialized (Err NotInitial) d = absurd d
  initialized (Err NotAChoice) d = λ t p.
      let same : reference p.0 ∷ p.1 ≡ reference a ∷ rest = sym p.4 ∙ e in
      let here : p.0 ≡ a = cc in
      let others : p.1 ≡ rest = cc in
      d t (
        p.2,
        p.3,
        subst (λ z. s.heap z ≡ Some (object p.2 p.3)) here p.5,
        p.7 ∙ ap (λ z. moved_with s s.at z (with_object s.heap p.0 (object p.2 ready))) others ∙ ap (λ z. moved_with s s.at rest (with_object s.heap z (object p.2 ready))) here,
      )

pub named : (o : Option RawValue) (v : RawValue) (a : ℕ) → o ≡ Some v → v ≡ values.Ref a → option_map value_view o ≡ Some (reference a)
named o v a e f = ap (option_map value_view) (e ∙ ap Some f)

pub placed : (o : Object) (s : State) (answer : Option Value) (a : ℕ) → answer ≡ Some (reference a) → (r : Result RawState StepFault) → Done (PutsAt o s a) r → Done (Puts o s answer) r
placed o s answer a e (Ok t) d = (a, e, d.0, d.1, d.2)
placed o s answer a e (Err OutOfMemory) d = tt
placed o s answer a e (Err NotInitial) d = absurd d
placed o s answer a e (Err NotAChoice) d = λ t p.
    let named : Some (reference p.0) ≡ Some (reference a) = sym p.1 ∙ e in
    let here : p.0 ≡ a = cc in
    d t (
      subst (λ z. s.heap z ≡ None) here p.2,
      subst IsAddress here p.3,
      p.4 ∙ ap (λ z. moved_with s s.at (reference z ∷ s.stack) (with_object s.heap z o)) here,
    )

-- ---- forms

pub room_by_form : (operator : StackOperator) (vs after : List Value) (f : StackForm) (limit : ℕ) (b : Bool) → form_for (stack_forms operator) vs ≡ Some f → after ≡ rearranged f vs → (IsTrue b ↔ (0 + depth_of after ≤ limit))
    → IsTrue b ↔ ((g : StackForm) → IsAmong g (stack_forms operator) → AreForm g.takes vs → depth_of (rearranged g vs) ≤ limit)
room_by_form operator vs after f limit b found is both = (
  (λ t g among fits.
      let first : form_for (stack_forms operator) vs ≡ Some g = same_form operator vs g among fits in
      let same : f ≡ g = cc in
      let deep : depth_of after ≡ depth_of (rearranged g vs) = ap depth_of is ∙ ap (λ z. depth_of (rearranged z vs)) same in
      omega (arith, deep, both.0 t)),
  (λ h.
      let c = form_chosen (stack_forms operator) vs f found in
      both.1 (omega (arith, ap depth_of is, h f c.0 c.1))),
)

-- ---- ways

module _ (world : World) (t : Effect) (next : Option ℕ) (s : State) (heap : Heap) (branch : Option ℕ) (answer : Option Value) (at : ℕ) (there : State) (is : there ≡ moved_to s at heap) (way : GoesWay t next s.at branch at) where
  pub goes_on_there : (r : Result RawState StepFault) → Done (DoesHere world t there answer) r → Done (GoesOn world t next s heap branch answer) r
  goes_on_there (Ok u) d = record {
    to = at;
    way = way;
    does = elsewhere world t s at s.at at heap answer (state_view u) (subst (λ z. DoesHere world t z answer (state_view u)) is d);
  }
  goes_on_there (Err OutOfMemory) d = tt
  goes_on_there (Err NotInitial) d = absurd d
  goes_on_there (Err NotAChoice) d = λ u g.
      let here : Does world t (moved_to s s.at heap) answer at u = subst (λ k. Does world t (moved_to s s.at heap) answer k u) (one_way (targets s.at t) (falls t) next branch g.to at g.way way) g.does in
      d u (subst (λ z. DoesHere world t z answer u) (sym is) (elsewhere world t s s.at at at heap answer u here))

module _ (world : World) (t : Effect) (next : Option ℕ) (s : State) (heap : Heap) (branch : Option ℕ) (answer : Option Value) where
  -- it goes on so from the state that has new objects
  there_is_here : (u : State) → GoesOn world t next (moved_to s s.at heap) heap branch answer u → GoesOn world t next s heap branch answer u
  there_is_here u g = record { to = g.to; way = g.way; does = g.does }

  here_is_there : (u : State) → GoesOn world t next s heap branch answer u → GoesOn world t next (moved_to s s.at heap) heap branch answer u
  here_is_there u g = record { to = g.to; way = g.way; does = g.does }

  from_there : (r : Result RawState StepFault) → Done (GoesOn world t next (moved_to s s.at heap) heap branch answer) r → Done (GoesOn world t next s heap branch answer) r
  from_there (Ok u) d = there_is_here (state_view u) d
  from_there (Err OutOfMemory) d = tt
  from_there (Err NotAChoice) d = λ u g. d u (here_is_there u g)
  from_there (Err NotInitial) d = d

  pub goes_from_there : (v : State) → v ≡ moved_to s s.at heap → (r : Result RawState StepFault) → Done (GoesOn world t next v v.heap branch answer) r → Done (GoesOn world t next s heap branch answer) r
  goes_from_there v e r d = from_there r (subst (λ z. Done (GoesOn world t next z z.heap branch answer) r) e d)

module _ (world : World) (t : Effect) (next : Option ℕ) (s : State) (heap : Heap) (fresh : List (ℕ × ReferenceType)) (branch : Option ℕ) (answer : Option Value) where
  pub refused : (fault : StepFault) → Done (GoesOn world t next s heap branch answer) (Err fault) → heap ≡ with_fresh s.heap fresh → (IsLast t → ⊥) → Goes world t next s branch answer fresh (Err fault)
  refused OutOfMemory d e n = tt
  refused NotInitial d e n = absurd d
  refused NotAChoice d e n = λ f. ((λ u g. d u (subst (λ h. GoesOn world t next s h branch answer u) (sym e) g)), (λ x. n x.last))
