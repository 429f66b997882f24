-- Instructions that leave all operands on the stack and push one type: constants, loads, and `dup` of one item.
use Rattle.std.specs.Prelude.{ℕ, Result, [], ◌∷◌}
use Rattle.classfile.specs.Methods.{Method}
use Rattle.hierarchy.specs.Answer.{yes}
use Rattle.insn.specs.Meanings.{Act}
use Rattle.frames.specs.FrameFact.{FrameFact}
use Rattle.type_numbers.specs.Numbers.{IsGiven}
use Rattle.type_numbers.specs.Decoding.{type_by}
use Rattle.method_frames.specs.NumberedFrames.{NumberedFrames}
use Rattle.rules.specs.declared.reason.Reason.{Reason}
use Rattle.rules.specs.TypingRules.{TypingRule}
use Rattle.rules.specs.After.{after}
use Rattle.rules.specs.Rules.{conditions}
use Rattle.rules.specs.Outcomes.{Done, pushed, settled}
use Rattle.numbered_rules.specs.RunningFrame.{held}

-- a rule pushes the type of this number, and asks for no more than room on the stack
pub record IsPush (m : Method Act) (p : TypingRule) (x : NumberedFrames) (n : ℕ) : Type 0 where
  pub given : IsGiven x.types n
  pub judged : (at : ℕ) (now : FrameFact) (r : Result Unit Reason) → let g = pushed (type_by x.types n ∷ []) (held x) in
      Done (settled m yes g) g now r → Done (conditions x.types.classes m at p (held x)) (after m at p (held x)) now r
