use Rattle.std.proofs.Common.{rules, subst}
use Rattle.classfile.specs.CodeMethods.{judged_class}
use Rattle.classfile.specs.Views.{class_view}
use Rattle.classfile.specs.WellFormed.{WellFormed}
use Rattle.verify.specs.Answers.{AnswersCode}
use Rattle.verify.proofs.verdicts.Answering.{answers_code}
use Rattle.verify.proofs.method.verify_listed.Goals as goal

pub returns-in-Some-clause-answered : goal.returns-in-Some-clause-answered
returns-in-Some-clause-answered g c =
    let classes = c.args.frames.now.types.classes in
    let class = judged_class c.args.formed.now in
    let m = c.in-Some.method in
    let r = c.verify_code.result in
    let here = c.in-Some.ensures.here in
    let formed : WellFormed class.file = subst (λ k. WellFormed (class_view k)) c.class.ensures.same c.class.ensures.formed in
    answers_code classes class c.args.number formed c.requires.listed r
    (subst (λ n. AnswersCode classes class n r) here.number_is
    (subst (λ d. AnswersCode classes (record { file = class.file; dynamic = d }) m.number r) here.dynamic_is
    (subst (λ k. AnswersCode classes (record { file = class_view k; dynamic = m.dynamic }) m.number r) here.class_is c.verify_code.ensures.answered)))

pub returns-in-None-clause-answered : goal.returns-in-None-clause-answered
returns-in-None-clause-answered g c = search rules
