use Rattle.std.proofs.Common.{◌≡◌, true, false, sym, ◌∙◌}
use Rattle.insn.specs.Views.{view}
use Rattle.insn.proofs.OperandLaws.{instruction_known}
use Rattle.insn.proofs.instruction_writing.is_spelled.Goals as goal

pub returns-then-has_form-clause-no : goal.returns-then-has_form-clause-no
returns-then-has_form-clause-no c = λ none bytes fit s.
    let k = instruction_known c.args.at bytes (view c.args.insn.now) fit s in
    let wrong : true ≡ false = sym k.fine.agree ∙ sym c.agrees.ensures ∙ none in
    absurd cc

pub returns-else-has_form-clause-no : goal.returns-else-has_form-clause-no
returns-else-has_form-clause-no c = λ none bytes fit s.
    let k = instruction_known c.args.at bytes (view c.args.insn.now) fit s in
    c.has_form.ensures.no none k.fine.has_form
