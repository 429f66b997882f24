use Rattle.std.proofs.Common.{◌≡◌, ◌≢◌, ◌∙◌, Some, None, refl, sym, ap, subst}
use Rattle.insn.specs.declared.acts.Meaning.{Meaning}
use Rattle.insn.specs.declared.acts.Meaning.TheVariants as means
use Rattle.insn.specs.Instructions.{Operands}
use Rattle.insn.specs.Meanings.{act_of, made_index}
use Rattle.insn.specs.Opcodes.{meaning}
use Rattle.insn.specs.Views.{operands_view}
use Rattle.insn.proofs.instruction_acts.made_index.Goals as goal

none_made : (m : Meaning) (x : Operands) → m ≢ means.New → made_index (act_of m x) ≡ None
none_made means.New x n = absurd (n refl)
none_made _ x n = refl

pub returns-in-New : goal.returns-in-New
returns-in-New c =
    let x = operands_view c.args.insn.now.operands in
    subst (λ m. Some c.parts_of.result.index ≡ made_index (act_of m x)) (sym c.in-New.is ∙ c.meaning.ensures ∙ ap meaning c.modified.ensures) (ap Some c.parts_of.ensures.index)

pub returns-in_default : goal.returns-in_default
returns-in_default c =
    let x = operands_view c.args.insn.now.operands in
    subst (λ m. None ≡ made_index (act_of m x)) (c.meaning.ensures ∙ ap meaning c.modified.ensures) (sym (none_made c.meaning.result x c.in_default.not-New))
