use Rattle.std.proofs.Common.{map, subst}
use Rattle.std.proofs.lemmas.List.{length-map}
use Rattle.classfile.specs.CodeMethods.{judged_class}
use Rattle.hierarchy.specs.Rules.{IsHierarchy}
use Rattle.verify.specs.Plays.{ArePlayed, IsStopped}
use Rattle.verify.specs.private.TogetherSteps.{IsWithin}
use Rattle.verify.specs.ClassRunSafety.{ArePlayable}
use Rattle.verify.proofs.Playing.{are_playable}
use Rattle.verify.proofs.FilesInPlay.{stops_within}
use Rattle.verify.proofs.classes_in_play.reports_under.Goals as goal

pub returns-in-Ok-clause-exactly : goal.returns-in-Ok-clause-exactly
returns-in-Ok-clause-exactly g c =
    let cs = map judged_class c.args.play.now in
    (subst IsHierarchy c.requires.content c.requires.hierarchy, subst (λ k. ArePlayed k cs c.in-Ok.reports.items) c.requires.content c.in-Ok.ensures.exactly)

pub returns-in-Ok-clause-safe : goal.returns-in-Ok-clause-safe
returns-in-Ok-clause-safe g c =
    let cs = map judged_class c.args.play.now in
    subst (λ k. ArePlayable k cs) c.requires.content
    (are_playable (g.C.Classes.content c.args.classes.now) cs c.in-Ok.reports.items (λ some. c.requires.hierarchy) c.in-Ok.ensures.exactly)

pub stopped-requires : goal.stopped-requires
stopped-requires g c =
    let cs = map judged_class c.args.play.now in
    subst (λ n. IsWithin n c.in-Err.stop) (length-map c.args.play.now judged_class)
    (stops_within (g.C.Classes.content c.args.classes.now) cs c.in-Err.stop c.in-Err.ensures.exactly)

pub returns-in-Err-clause-exactly : goal.returns-in-Err-clause-exactly
returns-in-Err-clause-exactly g c =
    let cs = map judged_class c.args.play.now in
    c.stopped.ensures cs (subst IsHierarchy c.requires.content c.requires.hierarchy) (subst (λ k. IsStopped k cs c.in-Err.stop) c.requires.content c.in-Err.ensures.exactly)
