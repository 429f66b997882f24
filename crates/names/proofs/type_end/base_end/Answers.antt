use Rattle.std.proofs.Common.{◌∙◌, sym}
use Rattle.names.proofs.TypeEndLaws.{letter_to_end}
use Rattle.names.proofs.type_end.base_end.Goals as goal

pub returns-then-is_letter-clause-read : goal.returns-then-is_letter-clause-read
returns-then-is_letter-clause-read c = λ h. letter_to_end c.args.bytes.now c.args.at c.requires.there (sym c.is_letter.ensures ∙ c.if-is_letter.true) c.if-first-eq76.false
