use Rattle.std.proofs.Common.{[], ◌∷◌}
use Rattle.std.proofs.lemmas.List.Elements.{All-nil, All-cons}
use Rattle.names.specs.Descriptors.{class as class_descriptor}
use Rattle.names.specs.ReferenceTypes.{array_type, class_type}
use Rattle.names.specs.StandardNames.{object_name}
use Rattle.insn.specs.declared.kinds.Kind.TheVariants.{Int}
use Rattle.rules.specs.Table.{object_array}
use Rattle.rules.specs.TypingRules.{expected_class, number}
use Rattle.numbered_rules.specs.declared.expected.Expected.TheVariants.{Object, ObjectArray}
use Rattle.numbered_rules.specs.Expected.{IsExpected}
use Rattle.numbered_rules.proofs.Standing.{type_stands}
use Rattle.numbered_rules.proofs.arrays.store_reference_element.Goals as goal

pub pops-requires-clause-asked : goal.pops-requires-clause-asked
pops-requires-clause-asked g c =
    let s = c.args.frames.now.types in
    let array = ObjectArray c.args.object_array in
    All-cons (IsExpected s) (Object c.args.object) (c.number.result ∷ array ∷ []) c.requires.object
    (All-cons (IsExpected s) c.number.result (array ∷ []) (c.number.ensures.given s) (All-cons (IsExpected s) array [] c.requires.array (All-nil (IsExpected s))))

pub returns-clause-done : goal.returns-clause-done
returns-clause-done g c = λ at.
    let s = c.args.frames.now.types in
    c.pops.ensures.done (expected_class object_name ∷ number Int ∷ object_array ∷ [])
    (type_stands s c.args.object (class_type object_name) c.requires.object, (c.number.ensures.stands s, (type_stands s c.args.object_array (array_type (class_descriptor object_name)) c.requires.array, tt)))
