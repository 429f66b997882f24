use Rattle.std.proofs.Common.{◌≡◌, map, drop}
use Rattle.classfile.specs.Methods.{code_of}
use Rattle.classfile.specs.Views.{attribute_view}
use Rattle.classfile.proofs.code_method.code_of.Given as goal

-- no Code attribute stands before
abbrev pub invariant-loop-attribute : goal.invariant-loop-attribute
invariant-loop-attribute l = code_of (map attribute_view l.attributes) ≡ code_of (drop l.attribute-index (map attribute_view l.attributes))
