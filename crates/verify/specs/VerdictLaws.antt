-- A method is verified exactly where it is type-safe, whatever the typing rules.
use Rattle.std.specs.Prelude.{◌≡◌, List}
use Rattle.classfile.specs.Methods.{Method}
use Rattle.hierarchy.specs.Class.{ClassFact}
use Rattle.insn.specs.Meanings.{Act}
use Rattle.insn.specs.Offsets.{IsStart, StartsRise}
use Rattle.rules.specs.Table.{TypingRules}
use Rattle.verify.specs.TypeSafety.{IsTypeSafeBy}
use Rattle.verify.specs.Verdict.{verified, verdict}

-- a method that is verified is type-safe, if its code begins at 0 (4.7.3)
abbrev pub VerifiedIsTypeSafe : Type 0
VerifiedIsTypeSafe =
    (typing_rule : TypingRules) (classes : List ClassFact) (m : Method Act) → StartsRise 0 m.code → IsStart m.code 0
    → verdict typing_rule classes m ≡ verified → IsTypeSafeBy typing_rule classes m

abbrev pub TypeSafeIsVerified : Type 0
TypeSafeIsVerified = (typing_rule : TypingRules) (classes : List ClassFact) (m : Method Act) → StartsRise 0 m.code
    → IsTypeSafeBy typing_rule classes m → verdict typing_rule classes m ≡ verified
