use Rattle.std.proofs.Common.{[], ◌∷◌}
use Rattle.std.proofs.lemmas.List.Elements.{All-nil, All-cons}
use Rattle.names.specs.Descriptors.{class as class_descriptor}
use Rattle.names.specs.ReferenceTypes.{array_type}
use Rattle.names.specs.StandardNames.{object_name}
use Rattle.insn.specs.declared.kinds.Kind.TheVariants.{Int}
use Rattle.type_numbers.specs.Decoding.{type_by}
use Rattle.rules.specs.Bodies.{method_view}
use Rattle.rules.specs.Table.{object_array}
use Rattle.rules.specs.TypingRules.{number}
use Rattle.numbered_rules.specs.declared.expected.Expected.TheVariants.{ObjectArray}
use Rattle.numbered_rules.specs.Expected.{IsExpected}
use Rattle.numbered_rules.specs.RunningFrame.{held}
use Rattle.numbered_rules.proofs.Elements.{element_loaded}
use Rattle.numbered_rules.proofs.Standing.{type_stands}
use Rattle.numbered_rules.proofs.arrays.load_reference_element.Goals as goal

pub pops-requires-clause-asked : goal.pops-requires-clause-asked
pops-requires-clause-asked g c =
    let s = c.args.frames.now.types in
    All-cons (IsExpected s) c.number.result (ObjectArray c.args.object_array ∷ []) (c.number.ensures.given s) (All-cons (IsExpected s) (ObjectArray c.args.object_array) [] c.requires (All-nil (IsExpected s)))

pub returns-clause-done : goal.returns-clause-done
returns-clause-done g c = λ at.
    let s = c.args.frames.now.types in
    element_loaded s.classes (method_view c.args.method.now) at (held c.args.frames.now) (held c.pops.new.frames) c.pops.result (type_by s c.element_beneath-element.result) c.element_beneath-element.ensures.element
    (c.pops.ensures.done (number Int ∷ object_array ∷ []) (c.number.ensures.stands s, (type_stands s c.args.object_array (array_type (class_descriptor object_name)) c.requires, tt)))
