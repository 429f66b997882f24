-- Where an instruction is refused for an operand or a local variable, the first that the frame has not is found.
use Rattle.std.proofs.Common.{◌≡◌, ◌⊎◌, ◌∙◌, ℕ, suc, ◌+◌, length, is_none, eqb-true, eq-eqb, Bool, true, false, ◌||◌, ◌&&◌, not, is_some, nat_eq, nat_lt, List, [], ◌∷◌, Option, Some, None, refl, sym, ap, inl, inr, true≢false, if◌then◌else◌}
use Rattle.std.specs.Option.{option_or}
use Rattle.classfile.specs.Methods.{Method}
use Rattle.hierarchy.specs.Class.{ClassFact}
use Rattle.hierarchy.specs.Answer.{Outcome, yes, no, missing}
use Rattle.insn.specs.declared.kinds.Kind.TheVariants.{Int}
use Rattle.insn.specs.Meanings.{Act}
use Rattle.insn.specs.Offsets.{IsAmong}
use Rattle.insn.specs.OperandStacks.{beneath, units_taken}
use Rattle.frames.specs.VerificationType.{VerificationType, class}
use Rattle.frames.specs.FrameFact.{FrameFact}
use Rattle.frames.specs.Assignable.{type_answer}
use Rattle.frames.specs.FrameAssignable.{both}
use Rattle.frames.specs.Slots.{to_reference, units_of}
use Rattle.frames.specs.Conditions as conditions
use Rattle.frames.specs.Conditions.{Reason, reason, Conditions, lesser, least, missing_if, number_of}
use Rattle.frames.specs.Differences.{is_no}
use Rattle.frames.proofs.Differences.{no_both, some_map, some_flag, the_some}
use Rattle.rules.specs.TypingRules.{ExpectedType, number, any_reference, TypingRule, pops, loads, stores, increments, rearranges, loads_element, makes, constructs, calls_special, returns, refuses}
use Rattle.rules.specs.Table.{typing_rule, object_array}
use Rattle.rules.specs.After.{form_for, top_of, local_of, after}
use Rattle.rules.specs.Rules.{accepts, is_short, operands, operand_conditions, is_outside, local_answer, local_conditions, is_on_stack, may_construct, special_conditions, family, gives_frame, is_too_wide}
use Rattle.rules.specs.Rules as rules
use Rattle.rules.specs.ExpectedTypes.{ExpectedTypes, expected_types}
use Rattle.rules.specs.Unmet.{UnmetFact, operand, receiver, local, units, absent_operand, sought_operand, operand_of, first_of, absent_receiver, wrong_receiver, sought_local, absent_units, receivers, count_of, receiver_in, absent, wrong, first_unmet}
use Rattle.rules.specs.UnmetLaws.{HasNoForm, of_no_form, still_there, IsFound, RefusedIsFound, UnmetIsFound}
use Rattle.rules.proofs.Directions.{is_of_table, is_else, way_of}

-- ---- the least reason is one of those that hold

abbrev pub has_number : ℕ → Reason → Bool
has_number n (reason other) = nat_eq other n
has_number n _ = false

-- a condition with this number holds
abbrev pub holds : ℕ → Conditions → Bool
holds n [] = false
holds n (c ∷ cs) = if has_number n c.0 then (c.1 || holds n cs) else holds n cs

number_itself : (n : ℕ) → has_number n (reason n) ≡ true
number_itself n = rw (eq-eqb n n refl) refl

lesser_either : (first : Reason) (o : Option Reason) → (lesser first o ≡ first) ⊎ (o ≡ Some (lesser first o))
lesser_either first None = inl refl
lesser_either first (Some other) = by (nat_lt (number_of other) (number_of first))
  where
    by : (b : Bool) → ((if b then other else first) ≡ first) ⊎ (Some other ≡ Some (if b then other else first))
    by true = inr refl
    by false = inl refl

or_right : (a b : Bool) → b ≡ true → (a || b) ≡ true
or_right true b h = refl
or_right false b h = h

or_either : (a b : Bool) → (a || b) ≡ true → (a ≡ true) ⊎ (b ≡ true)
or_either true b h = inl refl
or_either false b h = inr h

holds_here : (n : ℕ) (c : Reason × Bool) (cs : Conditions) → has_number n c.0 ≡ true → c.1 ≡ true → holds n (c ∷ cs) ≡ true
holds_here n c cs e h = rw (e, h) refl

holds_there : (n : ℕ) (c : Reason × Bool) (cs : Conditions) → holds n cs ≡ true → holds n (c ∷ cs) ≡ true
holds_there n c cs h = by (has_number n c.0)
  where
    by : (b : Bool) → (if b then (c.1 || holds n cs) else holds n cs) ≡ true
    by true = or_right c.1 (holds n cs) h
    by false = h

least_holds : (n : ℕ) (cs : Conditions) → least cs ≡ Some (reason n) → holds n cs ≡ true
least_holds n [] e = absurd (true≢false (sym (ap is_some e)))
least_holds n (c ∷ cs) e = by c.1 refl e (least_holds n cs)
  where
    either : lesser c.0 (least cs) ≡ reason n → c.1 ≡ true → (least cs ≡ Some (reason n) → holds n cs ≡ true)
        → (lesser c.0 (least cs) ≡ c.0) ⊎ (least cs ≡ Some (lesser c.0 (least cs))) → holds n (c ∷ cs) ≡ true
    either same h others (inl i) = holds_here n c cs (ap (has_number n) (sym i ∙ same) ∙ number_itself n) h
    either same h others (inr i) = holds_there n c cs (others (i ∙ ap (λ (z : Reason). Some z) same))

    by : (b : Bool) → c.1 ≡ b → (if b then Some (lesser c.0 (least cs)) else least cs) ≡ Some (reason n) → (least cs ≡ Some (reason n) → holds n cs ≡ true)
        → holds n (c ∷ cs) ≡ true
    by true h k others = let same : lesser c.0 (least cs) ≡ reason n = cc in either same h others (lesser_either c.0 (least cs))
    by false h k others = holds_there n c cs (others k)

-- a reason that is among those that hold
pub among_holds : (n : ℕ) (cs : Conditions) → IsAmong {A = Reason × Bool} (reason n, true) cs → holds n cs ≡ true
among_holds n [] h = elim h [ ]
among_holds n (c ∷ cs) (inl e) =
    holds_here n c cs (sym (ap (λ (x : Reason × Bool). has_number n x.0) e) ∙ number_itself n) (sym (ap (λ (x : Reason × Bool). x.1) e))
among_holds n (c ∷ cs) (inr h) = holds_there n c cs (among_holds n cs h)

-- ---- conditions on operands and on local variables

none_missing : (n : ℕ) (o : Outcome) → holds n (missing_if o ∷ []) ≡ false
none_missing n yes = refl
none_missing n no = refl
none_missing n (missing name) = refl

only_first : (a b : Bool) → b ≡ false → (a || b) ≡ true → a ≡ true
only_first true b h k = refl
only_first false b h k = absurd (true≢false (sym k ∙ h))

two_short : (s : Bool) (o p : Outcome) → holds 61 ((reason 61, s) ∷ (reason 62, conditions.is_no o) ∷ missing_if p ∷ []) ≡ true → s ≡ true
two_short s o p h = only_first s (holds 61 (missing_if p ∷ [])) (none_missing 61 p) h

two_no : (s : Bool) (o p : Outcome) → holds 62 ((reason 61, s) ∷ (reason 62, conditions.is_no o) ∷ missing_if p ∷ []) ≡ true → conditions.is_no o ≡ true
two_no s o p h = only_first (conditions.is_no o) (holds 62 (missing_if p ∷ [])) (none_missing 62 p) h

two_local : (s : Bool) (o p : Outcome) → holds 63 ((reason 61, s) ∷ (reason 62, conditions.is_no o) ∷ missing_if p ∷ []) ≡ true → ⊥
two_local s o p h = true≢false (sym h ∙ none_missing 63 p)

same_no : (o : Outcome) → conditions.is_no o ≡ is_no o
same_no yes = refl
same_no no = refl
same_no (missing name) = refl

-- ---- operands, from the top of the stack down

short_found : (below : ℕ) (ws : List ExpectedType) (ts : List VerificationType) → is_short ws ts ≡ is_some (absent_operand below ws ts)
short_found below [] ts = refl
short_found below (w ∷ ws) [] = refl
short_found below (w ∷ ws) (t ∷ ts) = short_found below ws ts

some_else : {A : Type 0} (b : Bool) (x : A) (o : Option A) → is_some (if b then Some x else o) ≡ (b || is_some o)
some_else true x o = refl
some_else false x o = refl

no_found : (classes : List ClassFact) (below : ℕ) (ws : List ExpectedType) (ts : List VerificationType)
    → is_no (operands classes ws ts) ≡ is_some (sought_operand is_no classes below ws ts)
no_found classes below [] ts = refl
no_found classes below (w ∷ ws) [] = refl
no_found classes below (w ∷ ws) (t ∷ ts) =
    no_both (accepts classes w t) (operands classes ws ts) ∙ ap (λ b. is_no (accepts classes w t) || b) (no_found classes below ws ts)
    ∙ sym (some_else (is_no (accepts classes w t)) (record { place = below + suc (length ws); expected = w; found = Some t }) (sought_operand is_no classes below ws ts))

-- ---- the object that a constructor is called on

short_object : (name : List ℕ) (count : ℕ) (w : ExpectedType) (ws : List ExpectedType) (ts : List VerificationType) → is_short (w ∷ ws) ts ≡ true
    → (is_short ws ts ≡ true) ⊎ (is_some (absent_receiver (Some name) count (first_of (beneath ws ts))) ≡ true)
short_object name count w [] [] h = inr refl
short_object name count w [] (t ∷ ts) h = absurd (true≢false (sym h))
short_object name count w (v ∷ ws) [] h = inl refl
short_object name count w (v ∷ ws) (t ∷ ts) h = short_object name count w ws ts (shorter w v ws t ts h)
  where
    shorter : (w v : ExpectedType) (ws : List ExpectedType) (t : VerificationType) (ts : List VerificationType) → is_short (w ∷ v ∷ ws) (t ∷ ts) ≡ true → is_short (w ∷ ws) ts ≡ true
    shorter w v ws t [] h = refl
    shorter w v ws t (u ∷ us) h = h

wrong_object : (m : Method Act) (name : List ℕ) (count : ℕ) (ts : List VerificationType) → not (may_construct m name (top_of ts)) ≡ true
    → (is_some (absent_receiver (Some name) count (first_of ts)) ≡ true) ⊎ (is_some (wrong_receiver m (Some name) count (first_of ts)) ≡ true)
wrong_object m name count [] h = inl refl
wrong_object m name count (t ∷ ts) h = inr (by (may_construct m name t) h)
  where
    by : (b : Bool) → not b ≡ true → is_some (if b then None else Some (receiver name (Some t) count)) ≡ true
    by true e = absurd (true≢false (sym e))
    by false e = refl

-- ---- all that an instruction takes

pub or_first : {A : Type 0} (a b : Option A) → is_some a ≡ true → is_some (option_or a b) ≡ true
or_first None b h = absurd (true≢false (sym h))
or_first (Some x) b h = refl

pub or_second : {A : Type 0} (a b : Option A) → is_some b ≡ true → is_some (option_or a b) ≡ true
or_second None b h = h
or_second (Some x) b h = refl

abbrev constructing : List ℕ → List ExpectedType → ExpectedTypes
constructing name ws = expected_types (constructs name ws)

-- a reason of another number
refused_else : (n k : ℕ) → is_of_table k ≡ false → is_of_table n ≡ true → holds k ((reason n, true) ∷ []) ≡ true → ⊥
refused_else n k t e h = by (nat_eq n k) refl h
  where
    by : (b : Bool) → nat_eq n k ≡ b → (if b then true else false) ≡ true → ⊥
    by true q r = true≢false (sym e ∙ ap is_of_table (eqb-true n k q) ∙ t)
    by false q r = true≢false (sym r)

module _ (classes : List ClassFact) (m : Method Act) (at : ℕ) (f : FrameFact) where
  module _ (x : ExpectedTypes) where
    abbrev pub is_found : Type 0
    is_found = is_some (first_unmet classes m x f) ≡ true

    of_local : is_some (sought_local is_no classes m x.local f) ≡ true → is_found
    of_local h = or_first (sought_local is_no classes m x.local f) _ h

    of_units : is_some (absent_units x.units f) ≡ true → is_found
    of_units h = or_second (sought_local is_no classes m x.local f) _ (or_first (absent_units x.units f) _ h)

    of_absent : is_some (absent x f) ≡ true → is_found
    of_absent h = or_second (sought_local is_no classes m x.local f) _ (or_second (absent_units x.units f) _ (or_first (absent x f) _ h))

    of_wrong : is_some (wrong classes m x f) ≡ true → is_found
    of_wrong h = or_second (sought_local is_no classes m x.local f) _ (or_second (absent_units x.units f) _ (or_second (absent x f) _ h))

    of_short : is_short x.operands f.stack ≡ true → is_found
    of_short h =
        let o = absent_operand (receivers x.receiver) x.operands f.stack in
        of_absent (or_first (operand_of (count_of x) o) _ (some_map (λ w. operand w (count_of x)) o ∙ sym (short_found (receivers x.receiver) x.operands f.stack) ∙ h))

    of_no : is_no (operands classes x.operands f.stack) ≡ true → is_found
    of_no h =
        let o = sought_operand is_no classes (receivers x.receiver) x.operands f.stack in
        of_wrong (or_first (operand_of (count_of x) o) _ (some_map (λ w. operand w (count_of x)) o ∙ sym (no_found classes (receivers x.receiver) x.operands f.stack) ∙ h))

    of_no_object : is_some (absent_receiver x.receiver (count_of x) (receiver_in x f)) ≡ true → is_found
    of_no_object h = of_absent (or_second (operand_of (count_of x) (absent_operand (receivers x.receiver) x.operands f.stack)) _ h)

    of_wrong_object : is_some (wrong_receiver m x.receiver (count_of x) (receiver_in x f)) ≡ true → is_found
    of_wrong_object h = of_wrong (or_second (operand_of (count_of x) (sought_operand is_no classes (receivers x.receiver) x.operands f.stack)) _ h)

    -- conditions on its operands
    operands_missing : holds 61 (operand_conditions classes x.operands f.stack) ≡ true → is_found
    operands_missing h = of_short (two_short (is_short x.operands f.stack) (operands classes x.operands f.stack) (operands classes x.operands f.stack) h)

    operands_wrong : holds 62 (operand_conditions classes x.operands f.stack) ≡ true → is_found
    operands_wrong h =
        let o = operands classes x.operands f.stack in
        of_no (sym (same_no o) ∙ two_no (is_short x.operands f.stack) o o h)

  -- ---- 61

  special_missing : (own : Outcome) (ws : List ExpectedType) → holds 61 (special_conditions classes own ws f.stack) ≡ true → is_short ws f.stack ≡ true
  special_missing own ws h = by (conditions.is_no own) h
    where
      by : (b : Bool) → holds 61 (if b then (reason 66, true) ∷ [] else (reason 61, is_short ws f.stack) ∷ (reason 62, conditions.is_no (operands classes ws f.stack)) ∷ missing_if (both (operands classes ws f.stack) own) ∷ []) ≡ true
          → is_short ws f.stack ≡ true
      by true e = absurd (true≢false (sym e))
      by false e = two_short (is_short ws f.stack) (operands classes ws f.stack) (both (operands classes ws f.stack) own) e

  pub found_missing : (p : TypingRule) → is_else p ≡ true → holds 61 (family classes m at p f) ≡ true → is_found (expected_types p)
  found_missing (pops ws gs offsets on) e h = operands_missing (expected_types (pops ws gs offsets on)) h
  found_missing (loads w n k) e h = absurd (true≢false (sym h ∙ none_missing 61 (local_answer classes m w n k f)))
  found_missing (stores w n k) e h = operands_missing (expected_types (stores w n k)) h
  found_missing (increments n) e h = absurd (true≢false (sym h ∙ none_missing 61 (local_answer classes m (number Int) n 1 f)))
  found_missing (rearranges forms) e h =
      let short = nat_lt (units_of f.stack) (units_taken forms) in
      of_units (expected_types (rearranges forms)) (by short (only_first short false refl h))
    where
      by : (b : Bool) → b ≡ true → is_some (if b then Some (units (units_taken forms) (units_of f.stack)) else None) ≡ true
      by true k = refl
      by false k = absurd (true≢false (sym k))
  found_missing loads_element e h = operands_missing (expected_types loads_element) h
  found_missing (makes name) e h = absurd (true≢false (sym h))
  found_missing (constructs name ws) e h =
      by (or_either (is_short (any_reference ∷ ws) f.stack) (holds 61 (operand_conditions classes ws f.stack)) h)
    where
      object : (is_short ws f.stack ≡ true) ⊎ (is_some (absent_receiver (Some name) (count_of (constructing name ws)) (first_of (beneath ws f.stack))) ≡ true) → is_found (constructing name ws)
      object (inl s) = of_short (constructing name ws) s
      object (inr o) = of_no_object (constructing name ws) o

      by : (is_short (any_reference ∷ ws) f.stack ≡ true) ⊎ (holds 61 (operand_conditions classes ws f.stack) ≡ true) → is_found (constructing name ws)
      by (inl s) = object (short_object name (count_of (constructing name ws)) any_reference ws f.stack s)
      by (inr o) = operands_missing (constructing name ws) o
  found_missing (calls_special type ws gs) e h =
      of_short (expected_types (calls_special type ws gs)) (special_missing (type_answer classes (class m.class) (to_reference type)) ws h)
  found_missing returns e h = absurd (true≢false (sym h))
  found_missing (refuses n) e h = absurd (refused_else n 61 refl e h)

  -- ---- 62

  special_wrong : (own : Outcome) (ws : List ExpectedType) → holds 62 (special_conditions classes own ws f.stack) ≡ true → is_no (operands classes ws f.stack) ≡ true
  special_wrong own ws h = by (conditions.is_no own) h
    where
      by : (b : Bool) → holds 62 (if b then (reason 66, true) ∷ [] else (reason 61, is_short ws f.stack) ∷ (reason 62, conditions.is_no (operands classes ws f.stack)) ∷ missing_if (both (operands classes ws f.stack) own) ∷ []) ≡ true
          → is_no (operands classes ws f.stack) ≡ true
      by true e = absurd (true≢false (sym e))
      by false e = sym (same_no (operands classes ws f.stack)) ∙ two_no (is_short ws f.stack) (operands classes ws f.stack) (both (operands classes ws f.stack) own) e

  pub found_wrong : (p : TypingRule) → is_else p ≡ true → holds 62 (family classes m at p f) ≡ true → is_found (expected_types p) ⊎ HasNoForm at p f
  found_wrong (pops ws gs offsets on) e h = inl (operands_wrong (expected_types (pops ws gs offsets on)) h)
  found_wrong (loads w n k) e h = absurd (true≢false (sym h ∙ none_missing 62 (local_answer classes m w n k f)))
  found_wrong (stores w n k) e h = inl (operands_wrong (expected_types (stores w n k)) h)
  found_wrong (increments n) e h = absurd (true≢false (sym h ∙ none_missing 62 (local_answer classes m (number Int) n 1 f)))
  found_wrong (rearranges forms) e h = inr (of_no_form forms refl (nothing (form_for forms f.stack) (only_first (is_none (form_for forms f.stack)) false refl h)))
    where
      nothing : {A : Type 0} (o : Option A) → is_none o ≡ true → o ≡ None
      nothing None k = refl
      nothing (Some x) k = absurd (true≢false (sym k))
  found_wrong loads_element e h = inl (operands_wrong (expected_types loads_element) h)
  found_wrong (makes name) e h = inr (still_there name refl (only_first (is_on_stack at f.stack) false refl h))
  found_wrong (constructs name ws) e h =
      inl (by (or_either (not (may_construct m name (top_of (beneath ws f.stack)))) (holds 62 (operand_conditions classes ws f.stack)) h))
    where
      object : (is_some (absent_receiver (Some name) (count_of (constructing name ws)) (first_of (beneath ws f.stack))) ≡ true) ⊎ (is_some (wrong_receiver m (Some name) (count_of (constructing name ws)) (first_of (beneath ws f.stack))) ≡ true)
          → is_found (constructing name ws)
      object (inl o) = of_no_object (constructing name ws) o
      object (inr o) = of_wrong_object (constructing name ws) o

      by : (not (may_construct m name (top_of (beneath ws f.stack))) ≡ true) ⊎ (holds 62 (operand_conditions classes ws f.stack) ≡ true) → is_found (constructing name ws)
      by (inl s) = object (wrong_object m name (count_of (constructing name ws)) (beneath ws f.stack) s)
      by (inr o) = operands_wrong (constructing name ws) o
  found_wrong (calls_special type ws gs) e h =
      inl (of_no (expected_types (calls_special type ws gs)) (special_wrong (type_answer classes (class m.class) (to_reference type)) ws h))
  found_wrong returns e h = absurd (true≢false (sym h))
  found_wrong (refuses n) e h = absurd (refused_else n 62 refl e h)

  -- ---- 63

  local_wrong : (w : ExpectedType) (n k : ℕ) → holds 63 (local_conditions classes m w n k f) ≡ true
      → is_some (sought_local is_no classes m (Some (record { place = n; width = k; expected = w })) f) ≡ true
  local_wrong w n k h =
      let o = local_answer classes m w n k f in
      some_flag (is_no o) (local n w (local_of n f)) ∙ sym (same_no o) ∙ only_first (conditions.is_no o) (holds 63 (missing_if o ∷ [])) (none_missing 63 o) h

  special_local : (own : Outcome) (ws : List ExpectedType) → holds 63 (special_conditions classes own ws f.stack) ≡ true → ⊥
  special_local own ws h = by (conditions.is_no own) h
    where
      by : (b : Bool) → holds 63 (if b then (reason 66, true) ∷ [] else (reason 61, is_short ws f.stack) ∷ (reason 62, conditions.is_no (operands classes ws f.stack)) ∷ missing_if (both (operands classes ws f.stack) own) ∷ []) ≡ true
          → ⊥
      by true e = true≢false (sym e)
      by false e = two_local (is_short ws f.stack) (operands classes ws f.stack) (both (operands classes ws f.stack) own) e

  operands_local : (ws : List ExpectedType) → holds 63 (operand_conditions classes ws f.stack) ≡ true → ⊥
  operands_local ws h = two_local (is_short ws f.stack) (operands classes ws f.stack) (operands classes ws f.stack) h

  pub found_local : (p : TypingRule) → is_else p ≡ true → holds 63 (family classes m at p f) ≡ true → is_found (expected_types p)
  found_local (pops ws gs offsets on) e h = absurd (operands_local ws h)
  found_local (loads w n k) e h = of_local (expected_types (loads w n k)) (local_wrong w n k h)
  found_local (stores w n k) e h = absurd (operands_local (w ∷ []) h)
  found_local (increments n) e h = of_local (expected_types (increments n)) (local_wrong (number Int) n 1 h)
  found_local (rearranges forms) e h = absurd (true≢false (sym h))
  found_local loads_element e h = absurd (operands_local (number Int ∷ object_array ∷ []) h)
  found_local (makes name) e h = absurd (true≢false (sym h))
  found_local (constructs name ws) e h = absurd (operands_local ws h)
  found_local (calls_special type ws gs) e h = absurd (special_local (type_answer classes (class m.class) (to_reference type)) ws h)
  found_local returns e h = absurd (true≢false (sym h))
  found_local (refuses n) e h = absurd (refused_else n 63 refl e h)

  -- ---- by the least reason

  told : (x : ExpectedTypes) → is_found x → (u : UnmetFact) × (first_unmet classes m x f ≡ Some u)
  told x h = the_some (first_unmet classes m x f) h

  told_or : (p : TypingRule) → is_found (expected_types p) ⊎ HasNoForm at p f → IsFound classes m at p f ⊎ HasNoForm at p f
  told_or p (inl h) = inl (told (expected_types p) h)
  told_or p (inr n) = inr n

  abbrev all : TypingRule → Conditions
  all p = rules.conditions classes m at p f

  refused_found : (p : TypingRule) → is_else p ≡ true → RefusedIsFound classes m at p f
  refused_found p e = record {
    missing = λ h. told (expected_types p) (found_missing p e (least_holds 61 (all p) h));
    wrong = λ h. told_or p (found_wrong p e (least_holds 62 (all p) h));
    local = λ h. told (expected_types p) (found_local p e (least_holds 63 (all p) h));
  }

-- ---- numbers that no rule has

pub record IsOfNoRule (k : ℕ) : Type 0 where
  pub not_missing : nat_eq 61 k ≡ false
  pub not_wrong : nat_eq 62 k ≡ false
  pub not_local : nat_eq 63 k ≡ false
  pub not_outside : nat_eq 64 k ≡ false
  pub not_over : nat_eq 65 k ≡ false
  pub not_constant : nat_eq 66 k ≡ false
  pub not_ready : nat_eq 74 k ≡ false
  pub not_of_table : is_of_table k ≡ false

module _ (k : ℕ) (x : IsOfNoRule k) where
  past : (n : ℕ) (b : Bool) (cs : Conditions) → nat_eq n k ≡ false → holds k ((reason n, b) ∷ cs) ≡ true → holds k cs ≡ true
  past n b cs e h = let same : holds k ((reason n, b) ∷ cs) ≡ holds k cs = rw e refl in sym same ∙ h

  nothing_left : holds k [] ≡ true → ⊥
  nothing_left h = true≢false (sym h)

  missing_left : (o : Outcome) → holds k (missing_if o ∷ []) ≡ true → ⊥
  missing_left o h = true≢false (sym h ∙ none_missing k o)

  operands_none : (s : Bool) (o p : Outcome) → holds k ((reason 61, s) ∷ (reason 62, conditions.is_no o) ∷ missing_if p ∷ []) ≡ true → ⊥
  operands_none s o p h =
      missing_left p (past 62 (conditions.is_no o) (missing_if p ∷ []) x.not_wrong
      (past 61 s ((reason 62, conditions.is_no o) ∷ missing_if p ∷ []) x.not_missing h))

  locals_none : (a b : Bool) (o : Outcome) → holds k ((reason 63, a) ∷ (reason 64, b) ∷ missing_if o ∷ []) ≡ true → ⊥
  locals_none a b o h =
      missing_left o (past 64 b (missing_if o ∷ []) x.not_outside (past 63 a ((reason 64, b) ∷ missing_if o ∷ []) x.not_local h))

  module _ (classes : List ClassFact) (m : Method Act) (at : ℕ) (f : FrameFact) where
    special_none : (own : Outcome) (ws : List ExpectedType) → holds k (special_conditions classes own ws f.stack) ≡ true → ⊥
    special_none own ws h = by (conditions.is_no own) h
      where
        by : (b : Bool) → holds k (if b then (reason 66, true) ∷ [] else (reason 61, is_short ws f.stack) ∷ (reason 62, conditions.is_no (operands classes ws f.stack)) ∷ missing_if (both (operands classes ws f.stack) own) ∷ []) ≡ true
            → ⊥
        by true e = nothing_left (past 66 true [] x.not_constant e)
        by false e = operands_none (is_short ws f.stack) (operands classes ws f.stack) (both (operands classes ws f.stack) own) e

    taken_none : (ws : List ExpectedType) → holds k (operand_conditions classes ws f.stack) ≡ true → ⊥
    taken_none ws h = operands_none (is_short ws f.stack) (operands classes ws f.stack) (operands classes ws f.stack) h

    local_none : (w : ExpectedType) (n j : ℕ) → holds k (local_conditions classes m w n j f) ≡ true → ⊥
    local_none w n j h = locals_none (conditions.is_no (local_answer classes m w n j f)) (is_outside m n j) (local_answer classes m w n j f) h

    family_none : (p : TypingRule) → is_else p ≡ true → holds k (family classes m at p f) ≡ true → ⊥
    family_none (pops ws gs offsets on) e h = taken_none ws h
    family_none (loads w n j) e h = local_none w n j h
    family_none (stores w n j) e h = taken_none (w ∷ []) (past 64 (is_outside m n j) (operand_conditions classes (w ∷ []) f.stack) x.not_outside h)
    family_none (increments n) e h = local_none (number Int) n 1 h
    family_none (rearranges forms) e h =
        nothing_left (past 62 (is_none (form_for forms f.stack)) [] x.not_wrong
        (past 61 (nat_lt (units_of f.stack) (units_taken forms)) ((reason 62, is_none (form_for forms f.stack)) ∷ []) x.not_missing h))
    family_none loads_element e h = taken_none (number Int ∷ object_array ∷ []) h
    family_none (makes name) e h = nothing_left (past 62 (is_on_stack at f.stack) [] x.not_wrong h)
    family_none (constructs name ws) e h =
        let object = not (may_construct m name (top_of (beneath ws f.stack))) in
        taken_none ws (past 62 object (operand_conditions classes ws f.stack) x.not_wrong
        (past 61 (is_short (any_reference ∷ ws) f.stack) ((reason 62, object) ∷ operand_conditions classes ws f.stack) x.not_missing h))
    family_none (calls_special type ws gs) e h = special_none (type_answer classes (class m.class) (to_reference type)) ws h
    family_none returns e h = nothing_left (past 74 (m.is_init && f.flag) [] x.not_ready h)
    family_none (refuses n) e h = refused_else n k x.not_of_table e h

    pub rule_none : (p : TypingRule) → is_else p ≡ true → holds k (rules.conditions classes m at p f) ≡ true → ⊥
    rule_none p e h =
        family_none p e (past 65 (gives_frame (family classes m at p f) && is_too_wide m (after m at p f)) (family classes m at p f) x.not_over h)

pub unmet_is_found : UnmetIsFound
unmet_is_found classes m at act f = refused_found classes m at f (typing_rule m act) (way_of m act).elsewise
