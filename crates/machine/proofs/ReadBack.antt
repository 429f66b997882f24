-- Values read back from local variables, one after the other, and values put into them.
use Rattle.std.specs.Prelude.{All, IsTrue, IfOk, ◌↔◌}
use Rattle.std.specs.declared.alloc.AllocError.{AllocError}
use Rattle.std.proofs.Common.{◌≡◌, ◌⊎◌, inl, inr, ℕ, zero, suc, ◌+◌, ◌-◌, ◌<◌, ◌≤◌, Bool, true, false, List, [], ◌∷◌, ◌++◌, length, map, take, drop, get_or, replicate, Result, Ok, Err, refl, sym, ap, ◌∙◌, subst, arith, append_assoc}
use Rattle.std.proofs.lemmas.Bool.{false≢true}
use Rattle.std.proofs.lemmas.List.{append-nil, take_all, length-map, map-append}
use Rattle.std.proofs.lemmas.List.Elements.{All-nil, All-cons, All-head, All-tail}
use Rattle.machine.specs.declared.items.Value.{Value as RawValue}
use Rattle.machine.specs.declared.items.Slot.{Slot as RawSlot}
use Rattle.machine.specs.declared.items.Slot.TheVariants as slots
use Rattle.machine.specs.Values.{Value, Slot, empty, second, holds, is_wide_value, units, depth_of, in_slots, all_slots}
use Rattle.machine.specs.Views.{value_view, stack_of, slot_view, locals_of}
use Rattle.machine.specs.private.Beginnings.{StandIn, TakesValues}
use Rattle.machine.specs.private.Decided.{is_second}
use Rattle.machine.proofs.RunBreadth.{in_wide, in_narrow}
use Rattle.machine.proofs.Stacks.{depth_reverse}
use Rattle.machine.proofs.Starting.{slots_of}

-- ---- nothing but empty local variables

abbrev IsEmpty : RawSlot → Type 0
IsEmpty s = slot_view s ≡ empty

all_empty : (ss : List RawSlot) → All IsEmpty ss → locals_of ss ≡ replicate (length ss) empty
all_empty [] a = refl
all_empty (s ∷ ss) a = ap (λ z. z ∷ locals_of ss) (All-head IsEmpty s ss a) ∙ ap (λ z. empty ∷ z) (all_empty ss (All-tail IsEmpty s ss a))

empty_all : (ss : List RawSlot) (n : ℕ) → locals_of ss ≡ replicate n empty → All IsEmpty ss
empty_all [] n e = All-nil IsEmpty
empty_all (s ∷ ss) zero e = absurd cc
empty_all (s ∷ ss) (suc n) e =
    let first : slot_view s ≡ empty = cc in
    let others : locals_of ss ≡ replicate n empty = cc in
    All-cons IsEmpty s ss first (empty_all ss n others)

no_values : (vs : List Value) → length vs ≡ 0 → vs ≡ []
no_values [] e = refl
no_values (v ∷ vs) e = absurd (omega (arith, e))

-- no values are left to be taken
pub takes_none : (count : ℕ) (b : Bool) (ss : List RawSlot) (old : List Value) → count ≡ 0 → (IsTrue b ↔ All IsEmpty ss) → TakesValues count (locals_of ss) old old b
takes_none count true ss old z e = ([], sym (append-nil old), record { many = sym z; others = length ss; are = all_empty ss (e.0 refl) })
takes_none count false ss old z e = λ vs x.
    let none : vs ≡ [] = no_values vs (x.many ∙ z) in
    false≢true (e.1 (empty_all ss x.others (x.are ∙ ap (λ v. in_slots v ++ replicate x.others empty) none)))

-- ---- a value in the first local variable

module _ (n : ℕ) (v : Value) where
  narrow_more : (ss : List Slot) (vs : List Value) → is_wide_value v ≡ false → StandIn n ss vs → StandIn (suc n) (holds v ∷ ss) (v ∷ vs)
  narrow_more ss vs e x = record {
    many = ap suc x.many;
    others = x.others;
    are = ap (λ z. holds v ∷ z) x.are ∙ sym (ap (λ z. z ++ replicate x.others empty) (in_narrow v vs e));
  }

  wide_more : (ss : List Slot) (vs : List Value) → is_wide_value v ≡ true → StandIn n ss vs → StandIn (suc n) (holds v ∷ second ∷ ss) (v ∷ vs)
  wide_more ss vs e x = record {
    many = ap suc x.many;
    others = x.others;
    are = ap (λ z. holds v ∷ second ∷ z) x.are ∙ sym (ap (λ z. z ++ replicate x.others empty) (in_wide v vs e));
  }

-- values that stand there begin with the one that the first local variable holds
pub data Begins (n : ℕ) (slots : List Slot) : List Value → Type 0 where
  narrow : {v : Value} {ss : List Slot} {vs : List Value} → is_wide_value v ≡ false → slots ≡ holds v ∷ ss → StandIn n ss vs → Begins n slots (v ∷ vs)
  wide : {v : Value} {ss : List Slot} {vs : List Value} → is_wide_value v ≡ true → slots ≡ holds v ∷ second ∷ ss → StandIn n ss vs → Begins n slots (v ∷ vs)

begins : (n : ℕ) (slots : List Slot) (vs : List Value) → StandIn (suc n) slots vs → Begins n slots vs
begins n slots [] x = absurd (omega (arith, x.many))
begins n slots (v ∷ vs) x = by (slots_of v vs)
  where
    by : (is_wide_value v ≡ true) × (in_slots (v ∷ vs) ≡ holds v ∷ second ∷ in_slots vs) ⊎ (is_wide_value v ≡ false) × (in_slots (v ∷ vs) ≡ holds v ∷ in_slots vs) → Begins n slots (v ∷ vs)
    by (inl p) =
        wide {ss = in_slots vs ++ replicate x.others empty} p.0 (x.are ∙ ap (λ z. z ++ replicate x.others empty) p.1)
        (record { many = omega (arith, x.many); others = x.others; are = refl })
    by (inr p) =
        narrow {ss = in_slots vs ++ replicate x.others empty} p.0 (x.are ∙ ap (λ z. z ++ replicate x.others empty) p.1)
        (record { many = omega (arith, x.many); others = x.others; are = refl })

pub none_there : (n : ℕ) (vs : List Value) → StandIn (suc n) [] vs → ⊥
none_there n vs x = by vs (begins n [] vs x)
  where
    by : (vs : List Value) → Begins n [] vs → ⊥
    by [] y = elim y [ ]
    by (v ∷ vs) (narrow p q y) = absurd cc
    by (v ∷ vs) (wide p q y) = absurd cc

pub no_value_there : (n : ℕ) (s : Slot) (ss : List Slot) (vs : List Value) → ((v : Value) → s ≡ holds v → ⊥) → StandIn (suc n) (s ∷ ss) vs → ⊥
no_value_there n s ss vs no_value x = by vs (begins n (s ∷ ss) vs x)
  where
    by : (vs : List Value) → Begins n (s ∷ ss) vs → ⊥
    by [] y = elim y [ ]
    by (v ∷ vs) (narrow p q y) = no_value v cc
    by (v ∷ vs) (wide p q y) = no_value v cc

pub no_half_there : (n : ℕ) (v : Value) (ss : List Slot) (vs : List Value) → is_wide_value v ≡ true → ((rest : List Slot) → ss ≡ second ∷ rest → ⊥) → StandIn (suc n) (holds v ∷ ss) vs → ⊥
no_half_there n v ss vs wide_one no_half x = by vs (begins n (holds v ∷ ss) vs x)
  where
    by : (vs : List Value) → Begins n (holds v ∷ ss) vs → ⊥
    by [] y = elim y [ ]
    by (u ∷ vs) (narrow p q y) =
        let same : v ≡ u = cc in
        false≢true (sym p ∙ ap is_wide_value (sym same) ∙ wide_one)
    by (u ∷ vs) (wide {ss = rest} p q y) = no_half rest cc

-- one more is taken
pub takes_narrow : (n : ℕ) (v : Value) (ss : List Slot) (old new : List Value) (b : Bool) → is_wide_value v ≡ false → TakesValues n ss (old ++ v ∷ []) new b → TakesValues (suc n) (holds v ∷ ss) old new b
takes_narrow n v ss old new true e t = (v ∷ t.0, t.1 ∙ append_assoc old (v ∷ []) t.0, narrow_more n v ss t.0 e t.2)
takes_narrow n v ss old new false e t = λ vs x. by vs (begins n (holds v ∷ ss) vs x)
  where
    by : (vs : List Value) → Begins n (holds v ∷ ss) vs → ⊥
    by [] y = elim y [ ]
    by (u ∷ vs) (narrow {ss = rest} p q y) =
        let same : ss ≡ rest = cc in
        t vs (subst (λ z. StandIn n z vs) (sym same) y)
    by (u ∷ vs) (wide p q y) =
        let same : v ≡ u = cc in
        false≢true (sym e ∙ ap is_wide_value same ∙ p)

pub takes_wide : (n : ℕ) (v : Value) (ss : List Slot) (old new : List Value) (b : Bool) → is_wide_value v ≡ true → TakesValues n ss (old ++ v ∷ []) new b → TakesValues (suc n) (holds v ∷ second ∷ ss) old new b
takes_wide n v ss old new true e t = (v ∷ t.0, t.1 ∙ append_assoc old (v ∷ []) t.0, wide_more n v ss t.0 e t.2)
takes_wide n v ss old new false e t = λ vs x. by vs (begins n (holds v ∷ second ∷ ss) vs x)
  where
    by : (vs : List Value) → Begins n (holds v ∷ second ∷ ss) vs → ⊥
    by [] y = elim y [ ]
    by (u ∷ vs) (narrow p q y) =
        let same : v ≡ u = cc in
        false≢true (sym p ∙ ap is_wide_value (sym same) ∙ e)
    by (u ∷ vs) (wide {ss = rest} p q y) =
        let same : ss ≡ rest = cc in
        t vs (subst (λ z. StandIn n z vs) (sym same) y)

-- ---- values put into local variables

pub slots_append : (us vs : List Value) → in_slots (us ++ vs) ≡ in_slots us ++ in_slots vs
slots_append [] vs = refl
slots_append (u ∷ us) vs = by (slots_of u us) (slots_append us vs)
  where
    by : (is_wide_value u ≡ true) × (in_slots (u ∷ us) ≡ holds u ∷ second ∷ in_slots us) ⊎ (is_wide_value u ≡ false) × (in_slots (u ∷ us) ≡ holds u ∷ in_slots us)
        → in_slots (us ++ vs) ≡ in_slots us ++ in_slots vs → in_slots ((u ∷ us) ++ vs) ≡ in_slots (u ∷ us) ++ in_slots vs
    by (inl p) e = in_wide u (us ++ vs) p.0 ∙ ap (λ z. holds u ∷ second ∷ z) e ∙ sym (ap (λ z. z ++ in_slots vs) p.1)
    by (inr p) e = in_narrow u (us ++ vs) p.0 ∙ ap (λ z. holds u ∷ z) e ∙ sym (ap (λ z. z ++ in_slots vs) p.1)

-- ---- the program's local variables, cut at the first one

-- what stands after the first item, as a slice has it
abbrev pub behind_first : {X : Type 0} → List X → List X
behind_first xs = take (length xs - 1) (drop 1 xs)

pub cut : {X Y : Type 0} (f : X → Y) (xs : List X) (d : X) → 1 ≤ length xs → map f xs ≡ f (get_or xs 0 d) ∷ map f (behind_first xs)
cut f [] d e = absurd (omega (arith, e))
cut f (x ∷ xs) d e = ap (λ z. f x ∷ map f z) (sym (take_all (length (x ∷ xs) - 1) xs (omega arith)))

pub no_items : {X Y : Type 0} (f : X → Y) (xs : List X) → length xs < 1 → map f xs ≡ []
no_items f [] e = refl
no_items f (x ∷ xs) e = absurd (omega (arith, e))

pub is_no_value : (s : RawSlot) → ((x : RawValue) → s ≡ slots.Value x → ⊥) → (v : Value) → slot_view s ≡ holds v → ⊥
is_no_value slots.Empty none v e = cc
is_no_value slots.Second none v e = cc
is_no_value (slots.Value x) none v e = none x refl

pub second_is : (s : Slot) → is_second s ≡ true → s ≡ second
second_is empty e = cc
second_is second e = refl
second_is (holds v) e = cc

pub first_no_second : (ss : List RawSlot) (d : RawSlot) → 1 ≤ length ss → is_second (slot_view (get_or ss 0 d)) ≡ false → (others : List Slot) → locals_of ss ≡ second ∷ others → ⊥
first_no_second [] d e f others g = cc
first_no_second (s ∷ ss) d e f others g =
    let same : slot_view s ≡ second = cc in
    false≢true (sym f ∙ ap is_second same)

-- ---- the answers

module _ (count : ℕ) (some : count ≡ 0 → ⊥) (slots : List Slot) where
  abbrev same_count : suc (count - 1) ≡ count
  same_count = omega (arith, some)

  stands : (vs : List Value) → StandIn count slots vs → StandIn (suc (count - 1)) slots vs
  stands vs x = subst (λ n. StandIn n slots vs) (sym same_count) x

  pub not_empty : slots ≡ [] → (vs : List Value) → StandIn count slots vs → ⊥
  not_empty e vs x = none_there (count - 1) vs (subst (λ z. StandIn (suc (count - 1)) z vs) e (stands vs x))

  module _ (rest : List Slot) where
    pub not_value : (s : Slot) → slots ≡ s ∷ rest → ((v : Value) → s ≡ holds v → ⊥) → (vs : List Value) → StandIn count slots vs → ⊥
    not_value s e none vs x = no_value_there (count - 1) s rest vs none (subst (λ z. StandIn (suc (count - 1)) z vs) e (stands vs x))

    pub not_half : (v : Value) → slots ≡ holds v ∷ rest → is_wide_value v ≡ true → ((others : List Slot) → rest ≡ second ∷ others → ⊥) → (vs : List Value) → StandIn count slots vs → ⊥
    not_half v e w none vs x = no_half_there (count - 1) v rest vs w none (subst (λ z. StandIn (suc (count - 1)) z vs) e (stands vs x))

    module _ (old new : List Value) (v : Value) where
      pub narrow_result : (r : Result Bool AllocError) → slots ≡ holds v ∷ rest → is_wide_value v ≡ false → IfOk r (TakesValues (count - 1) rest (old ++ v ∷ []) new) → IfOk r (TakesValues count slots old new)
      narrow_result (Ok b) e n t =
          subst (λ k. TakesValues k slots old new b) same_count
          (subst (λ z. TakesValues (suc (count - 1)) z old new b) (sym e) (takes_narrow (count - 1) v rest old new b n t))
      narrow_result (Err x) e n t = tt

      pub wide_result : (r : Result Bool AllocError) → slots ≡ holds v ∷ second ∷ rest → is_wide_value v ≡ true → IfOk r (TakesValues (count - 1) rest (old ++ v ∷ []) new) → IfOk r (TakesValues count slots old new)
      wide_result (Ok b) e w t =
          subst (λ k. TakesValues k slots old new b) same_count
          (subst (λ z. TakesValues (suc (count - 1)) z old new b) (sym e) (takes_wide (count - 1) v rest old new b w t))
      wide_result (Err x) e w t = tt

-- ---- as many local variables as there may be

empties : (k : ℕ) → locals_of (replicate k slots.Empty) ≡ replicate k empty
empties zero = refl
empties (suc k) = ap (λ z. empty ∷ z) (empties k)

pub resized : (locals : List RawSlot) (n k : ℕ) (vs : List Value) → locals_of locals ≡ in_slots vs → k ≡ length locals → length (in_slots vs) ≤ n
    → locals_of (take n locals ++ replicate (n - k) slots.Empty) ≡ all_slots n vs
resized locals n k vs e l enough =
    let long : k ≡ length (in_slots vs) = l ∙ sym (length-map locals slot_view) ∙ ap length e in
    let all : take n locals ≡ locals = take_all n locals (omega (arith, long, l, enough)) in
    ap (λ z. locals_of (z ++ replicate (n - k) slots.Empty)) all
    ∙ map-append slot_view locals (replicate (n - k) slots.Empty)
    ∙ ap (λ z. z ++ map slot_view (replicate (n - k) slots.Empty)) e
    ∙ ap (λ z. in_slots vs ++ z) (empties (n - k))
    ∙ ap (λ z. in_slots vs ++ replicate (n - z) empty) long

pub depth_is : (vs : List Value) → length (in_slots vs) ≡ depth_of vs
depth_is [] = refl
depth_is (v ∷ vs) = by (slots_of v vs) (depth_is vs)
  where
    by : (is_wide_value v ≡ true) × (in_slots (v ∷ vs) ≡ holds v ∷ second ∷ in_slots vs) ⊎ (is_wide_value v ≡ false) × (in_slots (v ∷ vs) ≡ holds v ∷ in_slots vs)
        → length (in_slots vs) ≡ depth_of vs → length (in_slots (v ∷ vs)) ≡ depth_of (v ∷ vs)
    by (inl p) e =
        let wide : units (is_wide_value v) ≡ 2 = ap units p.0 in
        omega (arith, ap length p.1, e, wide)
    by (inr p) e =
        let narrow : units (is_wide_value v) ≡ 1 = ap units p.0 in
        omega (arith, ap length p.1, e, narrow)

-- values have room where their units have
pub room : (vs : List RawValue) (n : ℕ) → length (in_slots (map value_view vs)) ≤ n → 0 + depth_of (stack_of vs) ≤ n
room vs n e = omega (arith, e, depth_is (map value_view vs), depth_reverse (map value_view vs))

pub fits_in : (vs : List RawValue) (n : ℕ) → 0 + depth_of (stack_of vs) ≤ n → length (in_slots (map value_view vs)) ≤ n
fits_in vs n e = omega (arith, e, depth_is (map value_view vs), depth_reverse (map value_view vs))

pub no_operands : (vs : List RawValue) → length vs ≡ 0 → stack_of vs ≡ []
no_operands [] e = refl
no_operands (v ∷ vs) e = absurd (omega (arith, e))
