use Rattle.std.proofs.Common.{◌∙◌, map, ap, subst}
use Rattle.classfile.specs.CodeMethods.{judged_class}
use Rattle.verify.specs.private.TogetherSteps.{DecodesAll, views}
use Rattle.verify.proofs.FilesInPlay.{front_of_all, all_formed, told, playable}
use Rattle.verify.proofs.classes_in_play.reports_decoded.Goals as goal

pub returns-in-Err-clause-exactly : goal.returns-in-Err-clause-exactly
returns-in-Err-clause-exactly g c = λ reads all. c.in-Err.ensures.refused reads (front_of_all reads (views c.args.classes.now) c.args.fault all) c.args.profile

pub returns-in-Some-clause-exactly : goal.returns-in-Some-clause-exactly
returns-in-Some-clause-exactly g c = λ reads all.
    let some = subst (DecodesAll reads (views c.args.classes.now)) c.in-Some.is all in
    some.1 c.in-Ok.ensures.formed.1 c.args.profile

pub returns-clause-exactly : goal.returns-clause-exactly
returns-clause-exactly g c = λ reads all.
    let cs = views c.args.classes.now in
    let none = subst (DecodesAll reads cs) c.in-None.is all in
    let same = ap (map judged_class) c.deref.ensures.value ∙ c.in-Ok.ensures.formed.0 in
    told c.args.profile reads cs (map judged_class c.deref.result.now) c.reports_on.result same (all_formed reads cs none c.in-Ok.ensures.formed.1) c.reports_on.ensures.exactly

pub returns-clause-safe : goal.returns-clause-safe
returns-clause-safe g c = λ reads all.
    let cs = views c.args.classes.now in
    let none = subst (DecodesAll reads cs) c.in-None.is all in
    let same = ap (map judged_class) c.deref.ensures.value ∙ c.in-Ok.ensures.formed.0 in
    playable c.args.profile reads cs (map judged_class c.deref.result.now) c.reports_on.result same (all_formed reads cs none c.in-Ok.ensures.formed.1) c.reports_on.ensures.safe
