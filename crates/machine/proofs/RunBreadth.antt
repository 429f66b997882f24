-- The machine's beginnings and runs.
use Rattle.std.proofs.Common.{◌≡◌, ℕ, zero, suc, ◌+◌, ◌-◌, ◌<◌, ◌≤◌, true, false, List, [], ◌∷◌, ◌++◌, length, take, replicate, slice_get, Some, if◌then◌else◌, option_map, ◌⊎◌, inl, inr, refl, sym, ap, ◌∙◌, subst, arith}
use Rattle.std.proofs.lemmas.List.{length-append, length-replicate, get_or-append_right, get_or-replicate}
use Rattle.std.proofs.lemmas.Option.{slice_get-get_or}
use Rattle.names.specs.Descriptors.{FieldDescriptor}
use Rattle.classfile.specs.Methods.{Method, Receiver, no_receiver, ready_receiver, own_receiver, receiver_of}
use Rattle.hierarchy.specs.World.{World}
use Rattle.insn.specs.declared.kinds.Kind.TheVariants as kinds
use Rattle.insn.specs.Meanings.{Act}
use Rattle.machine.specs.Values.{Value, number, null, reference, Slot, empty, second, holds, is_wide_value, in_slots, all_slots}
use Rattle.machine.specs.Heap.{Heap, AllFit}
use Rattle.machine.specs.Steps.{go, raise}
use Rattle.machine.specs.Runs.{Receives}
use Rattle.machine.specs.ByType.{units_of, units_of_all}
use Rattle.machine.specs.RunBreadth.{Hold, AreArguments, IsReceiver, StartBreadth, RunBreadth}
use Rattle.machine.proofs.ByType.{fits_where}

-- ---- what is received

all_fit : (w : World) (h : Heap) (ts : List FieldDescriptor) (vs : List Value) → AreArguments w h ts vs → AllFit w h ts vs
all_fit w h [] [] a = tt
all_fit w h [] (v ∷ vs) a = absurd (omega (arith, a.many))
all_fit w h (t ∷ ts) [] a = absurd (omega (arith, a.many))
all_fit w h (t ∷ ts) (v ∷ vs) a =
    (fits_where w h t v (a.each 0 t v refl refl), all_fit w h ts vs (record { many = omega (arith, a.many); each = λ i x u p q. a.each (suc i) x u p q }))

receives_where : (w : World) (m : Method Act) (h : Heap) (own : ℕ) (r : Receiver) (vs : List Value) → IsReceiver w m h own r vs → Receives w m h own r vs
receives_where w m h own no_receiver vs i = i
receives_where w m h own ready_receiver vs i = (i.0, i.1, (i.2.run_time, i.2.here, i.2.below))
receives_where w m h own own_receiver vs i = i

-- ---- values in local variables

pub width : (v : Value) → ((is_wide_value v ≡ true) × (units_of v ≡ 2)) ⊎ ((is_wide_value v ≡ false) × (units_of v ≡ 1))
width (number kinds.Int) = inr (refl, refl)
width (number kinds.Float) = inr (refl, refl)
width (number kinds.Long) = inl (refl, refl)
width (number kinds.Double) = inl (refl, refl)
width null = inr (refl, refl)
width (reference a) = inr (refl, refl)

pub in_wide : (v : Value) (vs : List Value) → is_wide_value v ≡ true → in_slots (v ∷ vs) ≡ holds v ∷ second ∷ in_slots vs
in_wide v vs e = ap (λ b. if b then holds v ∷ second ∷ in_slots vs else holds v ∷ in_slots vs) e

pub in_narrow : (v : Value) (vs : List Value) → is_wide_value v ≡ false → in_slots (v ∷ vs) ≡ holds v ∷ in_slots vs
in_narrow v vs e = ap (λ b. if b then holds v ∷ second ∷ in_slots vs else holds v ∷ in_slots vs) e

pub taken : (vs : List Value) → length (in_slots vs) ≡ units_of_all vs
taken [] = refl
taken (v ∷ vs) = by (width v) (taken vs)
  where
    by : ((is_wide_value v ≡ true) × (units_of v ≡ 2)) ⊎ ((is_wide_value v ≡ false) × (units_of v ≡ 1)) → length (in_slots vs) ≡ units_of_all vs → length (in_slots (v ∷ vs)) ≡ units_of_all (v ∷ vs)
    by (inl q) e = omega (arith, ap length (in_wide v vs q.0), e, q.1)
    by (inr q) e = omega (arith, ap length (in_narrow v vs q.0), e, q.1)

module _ (more : List Slot) where
  -- what stands after a value's local variables
  behind : (u : Value) (vs : List Value) (k : ℕ) → slice_get (in_slots (u ∷ vs) ++ more) (units_of u + k) ≡ slice_get (in_slots vs ++ more) k
  behind u vs k = by (width u)
    where
      by : ((is_wide_value u ≡ true) × (units_of u ≡ 2)) ⊎ ((is_wide_value u ≡ false) × (units_of u ≡ 1)) → slice_get (in_slots (u ∷ vs) ++ more) (units_of u + k) ≡ slice_get (in_slots vs ++ more) k
      by (inl q) =
          let at : units_of u + k ≡ suc (suc k) = omega (arith, q.1) in
          ap (λ z. slice_get (z ++ more) (units_of u + k)) (in_wide u vs q.0) ∙ ap (slice_get (holds u ∷ (second ∷ (in_slots vs ++ more)))) at
      by (inr q) =
          let at : units_of u + k ≡ suc k = omega (arith, q.1) in
          ap (λ z. slice_get (z ++ more) (units_of u + k)) (in_narrow u vs q.0) ∙ ap (slice_get (holds u ∷ (in_slots vs ++ more))) at

  held : (vs : List Value) (i : ℕ) (v : Value) → slice_get vs i ≡ Some v → slice_get (in_slots vs ++ more) (units_of_all (take i vs)) ≡ Some (holds v)
  held [] i v e = cc
  held (u ∷ vs) zero v e = by (width u) ∙ ap (option_map holds) e
    where
      by : ((is_wide_value u ≡ true) × (units_of u ≡ 2)) ⊎ ((is_wide_value u ≡ false) × (units_of u ≡ 1)) → slice_get (in_slots (u ∷ vs) ++ more) 0 ≡ Some (holds u)
      by (inl q) = ap (λ z. slice_get (z ++ more) 0) (in_wide u vs q.0)
      by (inr q) = ap (λ z. slice_get (z ++ more) 0) (in_narrow u vs q.0)
  held (u ∷ vs) (suc i) v e = behind u vs (units_of_all (take i vs)) ∙ held vs i v e

  half_held : (vs : List Value) (i : ℕ) (v : Value) → slice_get vs i ≡ Some v → units_of v ≡ 2 → slice_get (in_slots vs ++ more) (suc (units_of_all (take i vs))) ≡ Some second
  half_held [] i v e wide = cc
  half_held (u ∷ vs) zero v e wide = by (width u)
    where
      by : ((is_wide_value u ≡ true) × (units_of u ≡ 2)) ⊎ ((is_wide_value u ≡ false) × (units_of u ≡ 1)) → slice_get (in_slots (u ∷ vs) ++ more) 1 ≡ Some second
      by (inl q) = ap (λ z. slice_get (z ++ more) 1) (in_wide u vs q.0)
      by (inr q) = let same : u ≡ v = cc in absurd (omega (arith, q.1, wide, ap units_of same))
  half_held (u ∷ vs) (suc i) v e wide =
      let at : suc (units_of u + units_of_all (take i vs)) ≡ units_of u + suc (units_of_all (take i vs)) = omega arith in
      ap (slice_get (in_slots (u ∷ vs) ++ more)) at ∙ behind u vs (suc (units_of_all (take i vs))) ∙ half_held vs i v e wide

module _ (n : ℕ) (vs : List Value) (enough : units_of_all vs ≤ n) where
  abbrev rest : ℕ
  rest = n - length (in_slots vs)

  long : length (all_slots n vs) ≡ n
  long = omega (arith, length-append (in_slots vs) (replicate rest empty), length-replicate rest empty, taken vs, enough)

  empty_behind : (at : ℕ) → units_of_all vs ≤ at → at < n → slice_get (all_slots n vs) at ≡ Some empty
  empty_behind at from within =
      let past : length (in_slots vs) ≤ at = omega (arith, taken vs, from) in
      let there : at < length (all_slots n vs) = omega (arith, long, within) in
      slice_get-get_or (all_slots n vs) at empty there
      ∙ ap Some (get_or-append_right (in_slots vs) (replicate rest empty) (length (in_slots vs)) at empty refl past
      ∙ get_or-replicate rest (at - length (in_slots vs)) empty empty (omega (arith, past, within)))

  hold : Hold n vs (all_slots n vs)
  hold = record { many = long; first = held (replicate rest empty) vs; second_half = half_held (replicate rest empty) vs; others = empty_behind }

-- ---- beginnings and runs

pub start_breadth : StartBreadth
start_breadth w m heap own receiver args received arguments enough objects none only =
    let values = receiver ++ args in
    record {
      state = record { at = 0; stack = []; locals = all_slots m.max_locals values; heap = heap };
      at = refl;
      stack = refl;
      objects = refl;
      locals = hold m.max_locals values enough;
      initial = record {
        at = refl;
        stack = refl;
        own = own;
        receiver = receiver;
        arguments = args;
        receives = receives_where w m heap own (receiver_of m) receiver received;
        fit = all_fit w heap m.type.params args arguments;
        enough = subst (λ k. k ≤ m.max_locals) (sym (taken values)) enough;
        locals = refl;
        objects = objects;
        none_made = none;
        only_own = only;
      };
    }

pub run_breadth : RunBreadth
run_breadth w m = record {
  begins = λ s i. i;
  steps = λ s t ss branch answer fresh run step. ((go branch answer fresh, step), run);
  catches = λ s t ss address entry fresh run caught. ((raise address fresh (Some entry), caught), run);
}
