use Rattle.std.proofs.Common.{◌∙◌, true, [], ◌∷◌, sym, ap}
use Rattle.names.specs.Descriptors.{primitive}
use Rattle.insn.specs.declared.kinds.Kind.TheVariants.{Int}
use Rattle.frames.specs.VerificationType.{array}
use Rattle.type_numbers.specs.Decoding.{type_by}
use Rattle.type_numbers.proofs.Decoded.{number_read}
use Rattle.rules.specs.Bodies.{method_view}
use Rattle.rules.specs.Constants.{new_array}
use Rattle.rules.specs.TypingRules.{numbers, pops}
use Rattle.rules.proofs.Settling.{by_typing_rule}
use Rattle.numbered_rules.specs.RunningFrame.{held}
use Rattle.numbered_rules.proofs.Standing.{kinds_stand, kinds_expected}
use Rattle.numbered_rules.proofs.arrays.new_array.Goals as goal

pub pops-requires-clause-asked : goal.pops-requires-clause-asked
pops-requires-clause-asked g c = kinds_expected c.args.frames.now.types (Int ∷ [])

pub pops-requires-clause-gives : goal.pops-requires-clause-gives
pops-requires-clause-gives g c = (array (primitive c.in-Some.primitive), c.array_of.ensures c.args.frames.now.types)

pub returns-in-Some-clause-done : goal.returns-in-Some-clause-done
returns-in-Some-clause-done g c = λ at.
    let s = c.args.frames.now.types in
    let m = method_view c.args.method.now in
    let f = held c.args.frames.now in
    let n = c.array_of.result in
    let made = array (primitive c.in-Some.primitive) in
    by_typing_rule m at (new_array c.args.element) (pops (numbers (Int ∷ [])) (type_by s n ∷ []) [] true) s.classes f (held c.pops.new.frames) c.pops.result
    (ap new_array c.in-Some.is ∙ ap (λ u. pops (numbers (Int ∷ [])) (u ∷ []) [] true) (sym (number_read s n made (c.array_of.ensures s))))
    (c.pops.ensures.done (numbers (Int ∷ [])) (kinds_stand s (Int ∷ [])))
