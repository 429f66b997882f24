use Rattle.std.proofs.Common.{◌≡◌, map, drop}
use Rattle.frames.specs.VerificationType.{type_of}
use Rattle.frames.specs.DeclaredFrames.{has_uninit_this}
use Rattle.frames.proofs.declaring.has_own.Given as goal

abbrev pub invariant-loop-t : goal.invariant-loop-t
invariant-loop-t l = has_uninit_this (map type_of (drop l.t-index l.types)) ≡ has_uninit_this (map type_of l.types)
