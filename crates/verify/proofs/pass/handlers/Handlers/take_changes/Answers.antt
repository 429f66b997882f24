use Rattle.std.proofs.Common.{◌∙◌, sym, refl}
use Rattle.verify.proofs.numbered.Settling.{same_flag, none_settled, follows_learned, taken_learned}
use Rattle.verify.proofs.pass.handlers.Handlers.take_changes.Goals as goal

pub take_changes-requires : goal.take_changes-requires
take_changes-requires g c = record { representatives = c.requires.2.representatives }

pub returns-then-is_empty-clause-taken : goal.returns-then-is_empty-clause-taken
returns-then-is_empty-clause-taken g c = λ es at k t. none_settled c.args.frames.now es at c.args.self.now k (c.if-is_empty.ensures refl)

pub returns-then-flag-self-clause-followed : goal.returns-then-flag-self-clause-followed
returns-then-flag-self-clause-followed g c = λ es at k.
    follows_learned c.args.frames.now es at c.args.self.now c.take_changes.new.self k c.take_changes.ensures.until c.take_changes.result c.take_changes.ensures.representatives

pub returns-then-flag-self-clause-taken : goal.returns-then-flag-self-clause-taken
returns-then-flag-self-clause-taken g c = λ es at k.
    taken_learned c.args.frames.now es at c.args.self.now c.take_changes.new.self k c.take_changes.ensures.until c.take_changes.result
    (sym c.flag.ensures ∙ same_flag c.flag.result c.args.self.now.flag c.if-flag-self.true) (sym c.take_changes.ensures.even) c.take_changes.ensures.taken
