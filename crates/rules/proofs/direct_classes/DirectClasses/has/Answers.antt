use Rattle.std.proofs.Common.{rules, ◌≡◌, ◌∙◌, ℕ, Bool, List, Ok, Err, refl, sym, ap, subst}
use Rattle.pool.specs.Lookups.{text_at}
use Rattle.classfile.specs.declared.class_file.ClassFile.{ClassFile}
use Rattle.rules.specs.Guards.{is_direct_of, AreDirect}
use Rattle.rules.proofs.Direct.{noted, no_text, one_text}
use Rattle.rules.proofs.direct_classes.DirectClasses.has.Goals as goal
use Rattle.rules.proofs.direct_classes.DirectClasses.has.Goals.{in-Ok, in-Err}

pub returns-then-at-len : goal.returns-then-at-len
returns-then-at-len c = λ class pool is.
    let right : (name : List ℕ) → text_at c.args.pool.now c.args.index ≡ Ok name → c.match-text.answer ≡ is_direct_of class name = λ name there.
    elim c.match-text.branch [
      | in-Ok w ↦ w.answer-is ∙ w.has-answer.ensures ∙ is.names _ ∙ ap (is_direct_of class) (w.bytes.ensures ∙ one_text _ _ (sym w.in-Ok.ensures ∙ there))
      | in-Err w ↦ absurd (no_text _ _ (sym w.in-Err.ensures ∙ there))
    ] in
    (noted class c.args.self.now _ c.from-at.result c.match-text.answer is (λ name there. right name (subst (λ p. text_at p c.args.index ≡ Ok name) pool (ap (text_at class.constant_pool) (sym c.from-at.ensures) ∙ there))) refl refl, right)
