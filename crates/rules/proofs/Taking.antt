-- Operands one by one, and how many units a stack has.
use Rattle.std.specs.Prelude.{IsTrue}
use Rattle.std.proofs.Common.{◌≡◌, ℕ, ◌+◌, ◌<◌, ◌≤◌, Bool, false, inl, inr, List, [], ◌∷◌, true, length, get_or, drop, map, refl, sym, ◌∙◌, ap, subst, arith}
use Rattle.std.proofs.lemmas.List.{drop_more, drop_all}
use Rattle.std.proofs.lemmas.Bool.{cases_lt, false≢true}
use Rattle.hierarchy.specs.Class.{ClassFact}
use Rattle.hierarchy.specs.Answer.{Outcome, yes, no, missing}
use Rattle.insn.specs.OperandStacks.{beneath}
use Rattle.frames.specs.VerificationType.{VerificationType}
use Rattle.frames.specs.FrameAssignable.{both}
use Rattle.frames.specs.FrameFact.{FrameFact}
use Rattle.rules.specs.After.{with_stack}
use Rattle.rules.specs.TypingRules.{ExpectedType}
use Rattle.rules.specs.Rules.{is_short, operands, accepts}
use Rattle.rules.specs.Outcomes.{Took, TookOff, pushed}

pub both_together : (a b c : Outcome) → both (both a b) c ≡ both a (both b c)
both_together yes b c = refl
both_together no b c = refl
both_together (missing n) yes c = refl
both_together (missing n) no c = refl
both_together (missing n) (missing k) yes = refl
both_together (missing n) (missing k) no = refl
both_together (missing n) (missing k) (missing j) = refl

pub both_yes : (a : Outcome) → both a yes ≡ a
both_yes yes = refl
both_yes no = refl
both_yes (missing n) = refl

-- the operands that are still to be taken: `ws` from `us`
pub record Rest (cs : List ClassFact) (expected_types : List ExpectedType) (ts : List VerificationType) (a : Outcome) (ws : List ExpectedType) (us : List VerificationType) : Type 0 where
  pub short_is : is_short expected_types ts ≡ is_short ws us
  pub left_is : beneath expected_types ts ≡ beneath ws us
  pub answer_is : operands cs expected_types ts ≡ both a (operands cs ws us)

pub rest_more : (cs : List ClassFact) (expected_types : List ExpectedType) (ts : List VerificationType) (a : Outcome) (w : ExpectedType) (ws : List ExpectedType) (t : VerificationType) (us : List VerificationType) → Rest cs expected_types ts a (w ∷ ws) (t ∷ us) → Rest cs expected_types ts (both a (accepts cs w t)) ws us
rest_more cs expected_types ts a w ws t us r = record { short_is = r.short_is; left_is = r.left_is; answer_is = r.answer_is ∙ sym (both_together a (accepts cs w t) (operands cs ws us)) }

module _ {A : Type 0} (asked : A → ExpectedType) (cs : List ClassFact) (all : List A) (i : ℕ) (d : A) (expected_types : List ExpectedType) (ts : List VerificationType) (a : Outcome) where
  pub rest_step : (b : Outcome) (was now : List VerificationType) (t : VerificationType) → i < length all → was ≡ t ∷ now → b ≡ both a (accepts cs (asked (get_or all i d)) t) → Rest cs expected_types ts a (map asked (drop i all)) was → Rest cs expected_types ts b (map asked (drop (i + 1) all)) now
  rest_step b was now t lt s answer r =
      let k = get_or all i d in
      let e : drop i all ≡ k ∷ drop (i + 1) all = drop_more all i d lt in
      subst (λ z. Rest cs expected_types ts z (map asked (drop (i + 1) all)) now) (sym answer)
      (rest_more cs expected_types ts a (asked k) (map asked (drop (i + 1) all)) t now
      (subst (λ z. Rest cs expected_types ts a (asked k ∷ map asked (drop (i + 1) all)) z) s (subst (λ z. Rest cs expected_types ts a (map asked z) was) e r)))

pub rest_none : {A : Type 0} (asked : A → ExpectedType) (cs : List ClassFact) (all : List A) (i : ℕ) (expected_types : List ExpectedType) (ts : List VerificationType) (a : Outcome) (was : List VerificationType) → i < length all → was ≡ [] → Rest cs expected_types ts a (map asked (drop i all)) was → is_short expected_types ts ≡ true
rest_none asked cs [] i expected_types ts a was lt none r = absurd (omega (arith, lt))
rest_none asked cs (d ∷ ds) i expected_types ts a was lt none r =
    let left = drop (i + 1) (d ∷ ds) in
    let e : drop i (d ∷ ds) ≡ get_or (d ∷ ds) i d ∷ left = drop_more (d ∷ ds) i d lt in
    r.short_is ∙ ap (λ z. is_short (map asked z) was) e ∙ ap (is_short (asked (get_or (d ∷ ds) i d) ∷ map asked left)) none

pub rest_end : (cs : List ClassFact) (expected_types : List ExpectedType) (ts : List VerificationType) (a : Outcome) (us : List VerificationType) → Rest cs expected_types ts a [] us → Took cs expected_types ts a us
rest_end cs expected_types ts a us r = record { enough = r.short_is; answer_is = r.answer_is ∙ both_yes a; left_is = sym r.left_is }

rest_all : {A : Type 0} (asked : A → ExpectedType) (cs : List ClassFact) (all : List A) (i : ℕ) (expected_types : List ExpectedType) (ts : List VerificationType) (a : Outcome) (us : List VerificationType) → length all ≤ i → Rest cs expected_types ts a (map asked (drop i all)) us → Took cs expected_types ts a us
rest_all asked cs all i expected_types ts a us le r = rest_end cs expected_types ts a us (subst (λ z. Rest cs expected_types ts a (map asked z) us) (drop_all i all le) r)

-- ---- units

pub has_fewer : (units count : ℕ) (b : Bool) → b ≡ false → (count ≤ units → IsTrue b) → units < count
has_fewer units count true e h = cc
has_fewer units count false e h = elim (cases_lt units count) [ inl lt ↦ lt | inr le ↦ absurd (false≢true (h le)) ]

-- ---- a frame while operands are taken off it

pub record RestOff (cs : List ClassFact) (expected_types : List ExpectedType) (f : FrameFact) (a : Outcome) (ws : List ExpectedType) (g : FrameFact) : Type 0 where
  pub rest : Rest cs expected_types f.stack a ws g.stack
  pub others : g ≡ with_stack f g.stack

pub off_end : {A : Type 0} (asked : A → ExpectedType) (cs : List ClassFact) (all : List A) (i : ℕ) (expected_types : List ExpectedType) (f : FrameFact) (a : Outcome) (g : FrameFact) → length all ≤ i → RestOff cs expected_types f a (map asked (drop i all)) g → TookOff cs expected_types f a g
off_end asked cs all i expected_types f a g le r =
    let t : Took cs expected_types f.stack a g.stack = rest_all asked cs all i expected_types f.stack a g.stack le r.rest in
    record { enough = t.enough; answer_is = t.answer_is; left_is = r.others ∙ ap (with_stack f) t.left_is }

pub others_kept : (f was now : FrameFact) (t : VerificationType) → was ≡ pushed (t ∷ []) now → was ≡ with_stack f was.stack → with_stack now now.stack ≡ with_stack f now.stack
others_kept f was now t e o = ap (λ (z : FrameFact). with_stack z now.stack) (sym e ∙ o)
