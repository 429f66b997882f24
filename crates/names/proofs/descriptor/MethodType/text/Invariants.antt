use Rattle.std.proofs.Common.{◌≡◌, ◌∷◌, take}
use Rattle.std.specs.Prelude.{map}
use Rattle.std.specs.List.{flat_map}
use Rattle.names.specs.Types.{type_of}
use Rattle.names.specs.Descriptors.{field_spelling, left_parenthesis}
use Rattle.names.proofs.descriptor.MethodType.text.Given as goal

abbrev pub invariant-loop-param : goal.invariant-loop-param
invariant-loop-param l = l.out.items ≡ left_parenthesis ∷ flat_map field_spelling (map type_of (take l.param-index l.self.params.items))
