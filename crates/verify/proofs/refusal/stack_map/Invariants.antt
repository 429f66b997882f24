use Rattle.std.proofs.Common.{◌≡◌, drop, map}
use Rattle.classfile.specs.Methods.{stack_map_of}
use Rattle.classfile.specs.Views.{nested_view}
use Rattle.verify.proofs.refusal.stack_map.Given as goal

abbrev pub invariant-loop-attribute : goal.invariant-loop-attribute
invariant-loop-attribute l = stack_map_of (map nested_view l.code.attributes.items) ≡ stack_map_of
    (map nested_view (drop l.attribute-index l.code.attributes.items))
