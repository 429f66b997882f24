-- One instruction judged on a running frame.
use Rattle.std.specs.Prelude.{◌≡◌, ◌⊎◌, ℕ, Bool, Some, None, List, map, Result, MatchResult}
use Rattle.hierarchy.specs.Class.{ClassFact}
use Rattle.classfile.specs.Methods.{Method}
use Rattle.classfile.specs.Values.{Class}
use Rattle.insn.specs.Meanings.{Act}
use Rattle.frames.specs.FrameFact.{FrameFact}
use Rattle.frames.specs.VerificationType.{type_of}
use Rattle.frames.specs.declared.frame.Frame.{Frame}
use Rattle.frames.specs.Conditions.{least}
use Rattle.rules.specs.declared.reason.Reason.TheVariants.{OutOfMemory}
use Rattle.rules.specs.TypingRules.{TypingRule}
use Rattle.rules.specs.After.{after}
use Rattle.rules.specs.Reasons.{reason_view}
use Rattle.rules.specs.Rules.{constructs_own}
use Rattle.type_numbers.specs.Numbers.{Numbering}
use Rattle.type_numbers.specs.MethodNumbers.{AreNumbers}
use Rattle.verify.specs.Applied.{TellsOwn, all_conditions}
use Rattle.verify.specs.declared.applying.Numbered.{Numbered}
use Rattle.verify.specs.declared.applying.Refusal.{Refusal}
use Rattle.verify.specs.private.pass.ClassTypes.{AreClassTypes}

-- the frame after, exactly where no condition holds, with whether a constructor is called on the own object; otherwise
-- the least reason, or that memory ran out
pub record JudgesRule (classes : List ClassFact) (m : Method Act) (at : ℕ) (act : Act) (p : TypingRule)
    (before now : FrameFact) (r : Result Bool Refusal) : Type 0 where
  pub outcome : MatchResult r
      (λ own. (least (all_conditions classes m at act p before) ≡ None) × (now ≡ after m at p before)
      × (own ≡ constructs_own p before))
      (λ e. TellsOwn p before e.reason e.own
      × ((e.reason ≡ OutOfMemory) ⊎ (least (all_conditions classes m at act p before) ≡ Some (reason_view e.reason))))

-- these are the numbers of the types of a frame and of a class
pub record IsNumbered (s : Numbering) (c : Class) (f : Frame) (x : Numbered) : Type 0 where
  pub class : AreClassTypes s c x.class
  pub locals : AreNumbers s x.locals.items (map type_of f.locals.items)
  pub stack : AreNumbers s x.stack.items (map type_of f.stack.items)
