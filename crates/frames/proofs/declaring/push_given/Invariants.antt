use Rattle.std.proofs.Common.{◌≡◌, ◌++◌, map, drop}
use Rattle.frames.specs.VerificationType.{type_of}
use Rattle.frames.specs.MapViews.{info_of}
use Rattle.frames.specs.DeclaredFrames.{types_given}
use Rattle.frames.proofs.declaring.push_given.Given as goal

abbrev pub invariant-loop-info : goal.invariant-loop-info
invariant-loop-info l = record {
  same : l.constants ≡ l.fn.constants;
  pushed : map type_of l.types.items ++ types_given l.fn.constants (map info_of (drop l.info-index l.infos)) ≡ map type_of l.fn.types.items ++ types_given l.fn.constants (map info_of l.infos);
}
