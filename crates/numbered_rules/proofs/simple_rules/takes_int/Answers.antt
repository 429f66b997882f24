use Rattle.std.proofs.Common.{[], ◌∷◌}
use Rattle.std.proofs.lemmas.List.Elements.{All-nil, All-cons}
use Rattle.insn.specs.declared.kinds.Kind.TheVariants.{Int}
use Rattle.rules.specs.TypingRules.{number}
use Rattle.numbered_rules.specs.Expected.{IsExpected}
use Rattle.numbered_rules.proofs.simple_rules.takes_int.Goals as goal

pub pops-requires-clause-asked : goal.pops-requires-clause-asked
pops-requires-clause-asked g c =
    let s = c.args.frames.now.types in
    All-cons (IsExpected s) c.number.result [] (c.number.ensures.given s) (All-nil (IsExpected s))

pub returns-clause-done : goal.returns-clause-done
returns-clause-done g c = c.pops.ensures.done (number Int ∷ []) (c.number.ensures.stands c.args.frames.now.types, tt)
