-- Laws of raised objects.
use Rattle.std.specs.Prelude.{IsTrue}
use Rattle.std.proofs.Common.{◌≡◌, ℕ, ◌<◌, Bool, false, List, [], ◌∷◌, length, map, get_or, slice_get, Option, Some, Result, Ok, Err, sym, ◌∙◌, ap, subst, arith}
use Rattle.std.proofs.lemmas.Bool.{false≢true}
use Rattle.std.proofs.lemmas.List.{length-map}
use Rattle.std.proofs.lemmas.Option.{slice_get-get_or}
use Rattle.std.proofs.Math.ListN.{get_or-map}
use Rattle.names.specs.ReferenceTypes.{ReferenceType, class_type}
use Rattle.names.specs.StandardNames.{throwable_name}
use Rattle.hierarchy.specs.World.{World}
use Rattle.classfile.specs.Methods.{Method}
use Rattle.insn.specs.Meanings.{Act}
use Rattle.machine.specs.declared.body.ExceptionEntry.{ExceptionEntry as RawEntry}
use Rattle.machine.specs.declared.choosing.Outcome.{Outcome as RawOutcome}
use Rattle.machine.specs.declared.choosing.Outcome.TheVariants as outcomes
use Rattle.machine.specs.declared.choosing.StepFault.{StepFault}
use Rattle.machine.specs.declared.choosing.StepFault.TheVariants.{OutOfMemory, NotAChoice, NotInitial}
use Rattle.machine.specs.Values.{Value, Slot, reference}
use Rattle.machine.specs.Heap.{Object, object, ready, Heap, IsBelow, IsFresh, with_fresh}
use Rattle.machine.specs.Demands.{State}
use Rattle.machine.specs.Steps.{IsRaised, IsCaught, moved_with}
use Rattle.machine.specs.Bodies.{entry_view}
use Rattle.machine.specs.private.Happening.{Catches, CatchesBy, Raises}
use Rattle.machine.specs.Views.{state_view}

-- an address has one object
pub one_type : (o : Option Object) (x y : ReferenceType) → o ≡ Some (object x ready) → o ≡ Some (object y ready) → x ≡ y
one_type o x y e f =
    let same : object x ready ≡ object y ready = cc (e, f) in
    ap (λ (z : Object). z.type) same

pub other_type : (world : World) (o : Option Object) (y x t : ReferenceType) (b : Bool) → o ≡ Some (object y ready) → o ≡ Some (object x ready) → IsBelow world x t → b ≡ false → (IsBelow world y t → IsTrue b) → ⊥
other_type world o y x t b e f below wrong then_yes = false≢true (sym wrong ∙ then_yes (subst (λ z. IsBelow world z t) (one_type o x y f e) below))

pub entry_at : (xs ys : List RawEntry) (n i : ℕ) (x : RawEntry) → ys ≡ xs → i ≡ n → i < length ys → x ≡ get_or ys i x → slice_get (map entry_view xs) n ≡ Some (entry_view x)
entry_at xs ys n i x same at lt e =
    let here : x ≡ get_or xs n x = e ∙ ap (λ z. get_or z i x) same ∙ ap (λ k. get_or xs k x) at in
    slice_get-get_or (map entry_view xs) n (entry_view x) (omega (arith, lt, at, ap length same, length-map xs entry_view))
    ∙ ap Some (get_or-map entry_view xs n x ∙ ap entry_view (sym here))

abbrev pub state : ℕ → List Value → List Slot → Heap → State
state at stack locals heap = record { at = at; stack = stack; locals = locals; heap = heap }

pub state_is : (at : ℕ) (stack other : List Value) (locals others : List Slot) (heap : Heap) → stack ≡ other → locals ≡ others → state at stack locals heap ≡ state at other others heap
state_is at stack other locals others heap e f = ap (λ z. state at z locals heap) e ∙ ap (λ z. state at other z heap) f

module _ (world : World) (m : Method Act) (s : State) (address : ℕ) (fresh : List (ℕ × ReferenceType)) (entry : ℕ) (type : ReferenceType) (heap : Heap)
    (unused : IsFresh s.heap fresh) (same : heap ≡ with_fresh s.heap fresh) (here : heap address ≡ Some (object type ready)) (throwable : IsBelow world type (class_type throwable_name)) where
  abbrev raised : IsRaised world s address fresh
  raised = record { unused = unused; type = type; here = sym (ap (λ (h : Heap). h address) same) ∙ here; throwable = throwable }

  is_caught : (t : State) → Catches world m s address type heap entry t → IsCaught world m s address fresh entry t
  is_caught t c = record {
    raised = raised;
    by_entry = c.by_entry;
    which = c.which;
    covered = c.covered;
    catches = c.catches;
    result = c.result ∙ ap (λ h. moved_with s c.by_entry.handler (reference address ∷ []) h) same;
  }

  catches : (t : State) → IsCaught world m s address fresh entry t → Catches world m s address type heap entry t
  catches t c = record {
    by_entry = c.by_entry;
    which = c.which;
    covered = c.covered;
    catches = subst (λ x. IsBelow world x c.by_entry.caught) (one_type (with_fresh s.heap fresh address) c.raised.type type c.raised.here raised.here) c.catches;
    result = c.result ∙ ap (λ h. moved_with s c.by_entry.handler (reference address ∷ []) h) (sym same);
  }

  -- caught after the new objects
  there_is_here : (r : Result RawOutcome StepFault) → CatchesBy world m (moved_with s s.at s.stack heap) address type heap entry r → CatchesBy world m s address type heap entry r
  there_is_here (Ok (outcomes.Next t)) c = record { by_entry = c.by_entry; which = c.which; covered = c.covered; catches = c.catches; result = c.result }
  there_is_here (Ok outcomes.Ended) c = c
  there_is_here (Ok outcomes.Fault) c = c
  there_is_here (Err OutOfMemory) c = tt
  there_is_here (Err NotAChoice) c = λ t d. c t (record { by_entry = d.by_entry; which = d.which; covered = d.covered; catches = d.catches; result = d.result })
  there_is_here (Err NotInitial) c = c

  pub caught_there : (t : State) → t ≡ moved_with s s.at s.stack heap → (r : Result RawOutcome StepFault) → CatchesBy world m t address type t.heap entry r → CatchesBy world m s address type heap entry r
  caught_there t e r c = there_is_here r (subst (λ z. CatchesBy world m z address type z.heap entry r) e c)

  pub caught_raises : (r : Result RawOutcome StepFault) → CatchesBy world m s address type heap entry r → Raises world m s address fresh (Some entry) r
  caught_raises (Ok (outcomes.Next t)) c = is_caught (state_view t) c
  caught_raises (Ok outcomes.Ended) c = absurd c
  caught_raises (Ok outcomes.Fault) c = c
  caught_raises (Err OutOfMemory) c = tt
  caught_raises (Err NotAChoice) c = (λ e. absurd cc, λ t d. c t (catches t d))
  caught_raises (Err NotInitial) c = absurd c
