-- Rules that push one type and ask for no operand.
use Rattle.std.proofs.Common.{◌≡◌, ℕ, [], ◌∷◌, refl, sym, subst}
use Rattle.classfile.specs.Methods.{Method}
use Rattle.hierarchy.specs.Answer.{yes}
use Rattle.insn.specs.Meanings.{Act}
use Rattle.frames.specs.VerificationType.{VerificationType}
use Rattle.frames.proofs.Types.{no_is_yes}
use Rattle.type_numbers.specs.Numbers.{IsNumber}
use Rattle.type_numbers.proofs.Decoded.{number_read}
use Rattle.method_frames.specs.NumberedFrames.{NumberedFrames}
use Rattle.rules.specs.TypingRules.{gives}
use Rattle.rules.specs.Table.{typing_rule}
use Rattle.rules.specs.Outcomes.{Done, pushed, settled}
use Rattle.rules.proofs.Settling.{off_done}
use Rattle.numbered_rules.specs.RunningFrame.{held}
use Rattle.numbered_rules.specs.Pushing.{IsPush}

pub gives_pushes : (m : Method Act) (x : NumberedFrames) (n : ℕ) (t : VerificationType) → IsNumber x.types n t → IsPush m (gives t) x n
gives_pushes m x n t h = record {
  given = (t, h);
  judged = λ at now r d.
      let f = held x in
      off_done x.types.classes m [] (t ∷ []) f yes f now r (record { enough = refl; answer_is = refl; left_is = refl }) (λ e. no_is_yes (sym e))
      (subst (λ u. let g = pushed (u ∷ []) f in Done (settled m yes g) g now r) (number_read x.types n t h) d);
}

-- by the act of an instruction
pub act_pushes : (m : Method Act) (x : NumberedFrames) (n : ℕ) (a b : Act) → a ≡ b → IsPush m (typing_rule m b) x n → IsPush m (typing_rule m a) x n
act_pushes m x n a b e p = subst (λ z. IsPush m (typing_rule m z) x n) (sym e) p
