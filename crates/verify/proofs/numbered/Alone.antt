-- An instruction of which nothing is asked but its rule and its targets.
use Rattle.std.proofs.Common.{◌≡◌, ◌∙◌, ℕ, Bool, true, false, ◌&&◌, is_some, List, ◌∷◌, [], Option, Some, None, refl, ap}
use Rattle.classfile.specs.Methods.{Method}
use Rattle.hierarchy.specs.Class.{ClassFact}
use Rattle.insn.specs.Meanings as acts
use Rattle.insn.specs.Meanings.{Act}
use Rattle.frames.specs.FrameFact.{FrameFact}
use Rattle.frames.specs.Conditions.{reason, least}
use Rattle.pool.specs.ConstantMeanings.{method_at}
use Rattle.rules.specs.Interfaces.{calls_indirect, is_indirect}
use Rattle.rules.specs.Naming.{names_bootstrapped, sets_own}
use Rattle.rules.specs.Protected.{member_conditions}
use Rattle.rules.specs.Rules.{constructs_own}
use Rattle.rules.specs.Table.{typing_rule}
use Rattle.rules.specs.Ways.{goes_on, special_index}
use Rattle.rules.proofs.Made.{own_of_index, own_by_index}
use Rattle.rules.proofs.Lesser.{both_least}
use Rattle.verify.specs.TypeSafety.{Frames}
use Rattle.verify.specs.Verdict.{before_conditions, handler_conditions, is_covered}
use Rattle.verify.specs.private.JudgingSteps.{aside_conditions}
use Rattle.verify.specs.private.pass.Alone.{asks_no_more}
use Rattle.verify.specs.private.pass.Objects.{used_index, AnswersUse}
use Rattle.verify.proofs.numbered.Objects.{none_asked}

-- ---- what asks no more

pub uses_none : (release : Bool) (a : Act) → asks_no_more release a ≡ true → used_index release a ≡ None
uses_none release (acts.GetField i) e = cc
uses_none release (acts.PutField i) e = cc
uses_none release (acts.InvokeVirtual i) e = cc
uses_none true (acts.InvokeSpecial i) e = cc
uses_none false (acts.InvokeSpecial i) e = refl
uses_none release a e = refl

pub direct_none : (m : Method Act) (a : Act) → asks_no_more m.release a ≡ true → calls_indirect m a ≡ false
direct_none m (acts.InvokeSpecial i) e = by m.release e
  where
    by : (b : Bool) → asks_no_more b (acts.InvokeSpecial i) ≡ true → (b && is_indirect m (method_at m.constant_pool i)) ≡ false
    by true h = cc
    by false h = refl
direct_none m a e = refl

pub sets_none : (m : Method Act) (release : Bool) (a : Act) → asks_no_more release a ≡ true → false ≡ sets_own m a
sets_none m release (acts.PutField i) e = cc
sets_none m release a e = refl

pub names_none : (m : Method Act) (release : Bool) (a : Act) → asks_no_more release a ≡ true → true ≡ names_bootstrapped m a
names_none m release (acts.LoadConstant i) e = cc
names_none m release (acts.LoadWideConstant i) e = cc
names_none m release (acts.InvokeDynamic i) e = cc
names_none m release a e = refl

-- ---- nothing is against it

-- no call of a constructor is covered
pub uncalled : (a : Act) (b : Bool) → special_index a ≡ None → (is_some (special_index a) && b) ≡ false
uncalled a b none = ap (λ o. is_some o && b) none

no_end : (b c : Bool) → b ≡ false → c ≡ false → least ((reason 71, b) ∷ (reason 75, c) ∷ []) ≡ None
no_end true c e h = cc
no_end false true e h = cc
no_end false false e h = refl

module _ (classes : List ClassFact) (m : Method Act) (frames : Frames) (at : ℕ) (f : FrameFact) (a : Act) (last : Bool) where
  uncovered : (is_some (special_index a) && is_covered m.exceptions at) ≡ false → (constructs_own (typing_rule m a) f && is_covered m.exceptions at) ≡ false
  uncovered free = ap (λ b. b && is_covered m.exceptions at) (own_by_index m a f) ∙ by (special_index a) (is_covered m.exceptions at) free
    where
      never : (x : Bool) → (x && false) ≡ false
      never true = refl
      never false = refl

      by : (o : Option ℕ) (b : Bool) → (is_some o && b) ≡ false → (own_of_index m f o && b) ≡ false
      by None b free = refl
      by (Some i) true free = cc
      by (Some i) false free = never (own_of_index m f (Some i))

  pub aside_none : calls_indirect m a ≡ false → AnswersUse classes m a false → least (handler_conditions classes frames at f m.exceptions) ≡ None → (goes_on a && last) ≡ false
      → (is_some (special_index a) && is_covered m.exceptions at) ≡ false → least (aside_conditions classes m frames at a last f) ≡ None
  aside_none direct unguarded idle ends free =
      both_least (before_conditions classes m frames at a f) _ None None
      (both_least (member_conditions classes m a f) (handler_conditions classes frames at f m.exceptions) None None (ap least (none_asked classes m a f direct unguarded)) idle)
      (no_end (goes_on a && last) (constructs_own (typing_rule m a) f && is_covered m.exceptions at) ends (uncovered free))
