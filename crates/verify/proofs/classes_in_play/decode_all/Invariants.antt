-- The files so far are classes.
use Rattle.std.proofs.Common.{◌≡◌, map, take, length}
use Rattle.verify.specs.Files.{read_of}
use Rattle.verify.specs.private.TogetherSteps.{AreDecoded, views}
use Rattle.verify.proofs.classes_in_play.decode_all.Given as goal

abbrev pub invariant-loop-i : goal.invariant-loop-i
invariant-loop-i l = AreDecoded (take l.i (map read_of l.files)) (views l.classes.items) × (length l.classes.items ≡ l.i)
