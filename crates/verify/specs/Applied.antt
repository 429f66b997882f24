-- The answer of `apply`.
use Rattle.std.specs.Prelude.{◌≡◌, ◌⊎◌, ◌++◌, ℕ, Bool, List, Some, None, Result, MatchResult}
use Rattle.hierarchy.specs.Class.{ClassFact}
use Rattle.classfile.specs.Methods.{Method}
use Rattle.insn.specs.Meanings.{Act}
use Rattle.insn.specs.Branching.{targets_of}
use Rattle.frames.specs.FrameFact.{FrameFact, frame_of}
use Rattle.frames.specs.Conditions.{Conditions, least}
use Rattle.verify.specs.declared.applying.After.{After}
use Rattle.verify.specs.declared.applying.Refusal.{Refusal}
use Rattle.rules.specs.declared.reason.Reason.{Reason}
use Rattle.rules.specs.declared.reason.Reason.TheVariants.{OutOfMemory, ClassMissing}
use Rattle.rules.specs.TypingRules.{TypingRule, falls, targets}
use Rattle.rules.specs.After.{after}
use Rattle.rules.specs.Rules.{conditions, constructs_own}
use Rattle.rules.specs.Protected.{member_conditions}
use Rattle.rules.specs.Reasons.{reason_view}

-- the answer where no condition holds: the frame after, and where the instruction leads
pub record Leaves (m : Method Act) (at : ℕ) (p : TypingRule) (f : FrameFact) (a : After) : Type 0 where
  pub frame_is : frame_of a.frame ≡ after m at p f
  pub targets_are : targets_of a.targets ≡ targets at p
  pub falls_is : a.falls ≡ falls p
  pub own_is : a.own ≡ constructs_own p f

-- a refusal for a missing class says whether a constructor is called on the own object
abbrev pub TellsOwn : TypingRule → FrameFact → Reason → Bool → Type 0
TellsOwn p f (ClassMissing name) own = own ≡ constructs_own p f
TellsOwn p f _ own = Unit {0}

-- the reasons against an instruction, by its typing rule and by the protected member that it uses
abbrev pub all_conditions : List ClassFact → Method Act → ℕ → Act → TypingRule → FrameFact → Conditions
all_conditions classes m at act p f = conditions classes m at p f ++ member_conditions classes m act f

-- The frame after exactly where no condition holds; otherwise the least reason, or that memory ran out.
pub record Applied (classes : List ClassFact) (m : Method Act) (at : ℕ) (act : Act) (p : TypingRule) (f : FrameFact)
    (r : Result After Refusal) : Type 0 where
  pub outcome : MatchResult r
      (λ a. (least (all_conditions classes m at act p f) ≡ None) × Leaves m at p f a)
      (λ e. TellsOwn p f e.reason e.own
      × ((e.reason ≡ OutOfMemory) ⊎ (least (all_conditions classes m at act p f) ≡ Some (reason_view e.reason))))
