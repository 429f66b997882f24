-- The body that was found is the only one so far.
use Rattle.std.proofs.Common.{◌≡◌, ◌++◌, map, drop, option_map}
use Rattle.std.specs.Prelude.{option_to_list}
use Rattle.classfile.specs.Bootstraps.{bodies_of}
use Rattle.classfile.specs.Views.{class_attribute_view}
use Rattle.classfile.proofs.bootstraps.only_body.Given as goal

abbrev pub invariant-loop-attribute : goal.invariant-loop-attribute
invariant-loop-attribute l =
    bodies_of l.pool (map class_attribute_view l.attributes)
    ≡ option_to_list (option_map (λ b. b.now) l.found) ++ bodies_of l.pool (drop l.attribute-index (map class_attribute_view l.attributes))
