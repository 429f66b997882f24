-- The classes so far are well formed.
use Rattle.std.proofs.Common.{◌≡◌, map, take}
use Rattle.classfile.specs.CodeMethods.{judged, judged_class}
use Rattle.verify.specs.private.TogetherSteps.{AreWellFormed, views}
use Rattle.verify.proofs.classes_in_play.form_all.Given as goal

abbrev pub invariant-loop-i : goal.invariant-loop-i
invariant-loop-i l = (map judged_class l.all.items ≡ map (judged l.profile) (take l.i (views l.classes))) × AreWellFormed (take l.i (views l.classes))
