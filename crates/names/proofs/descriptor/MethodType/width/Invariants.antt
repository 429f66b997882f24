use Rattle.std.proofs.Common.{◌≡◌, ◌+◌, ◌*◌, ◌≤◌, take}
use Rattle.std.specs.Prelude.{map, sum_by, if◌then◌else◌}
use Rattle.names.specs.Types.{type_of}
use Rattle.names.specs.Descriptors.{field_width}
use Rattle.names.proofs.descriptor.MethodType.width.Given as goal

abbrev pub invariant-loop-param : goal.invariant-loop-param
invariant-loop-param l =
    record {
      so_far : l.units ≡ sum_by field_width (map type_of (take l.param-index l.self.params.items)) + (if l.fn.receiver then 1 else 0);
      few : l.units ≤ 2 * l.param-index + 1;
    }
