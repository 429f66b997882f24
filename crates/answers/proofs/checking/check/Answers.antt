use Rattle.std.proofs.Common.{subst}
use Rattle.classfile.specs.Views.{class_view}
use Rattle.verify.specs.Files.{IsFormed, OrMemory}
use Rattle.answers.specs.Answers.{CheckTells}
use Rattle.answers.specs.Files.{read_view}
use Rattle.answers.proofs.Tellings.{of_class, of_refusal}
use Rattle.answers.proofs.checking.check.Goals as goal

pub returns-in-Ok : goal.returns-in-Ok
returns-in-Ok g c =
    let held = g.W.Write.contents in
    let read = read_view c.args.file in
    let class = class_view c.in-Ok._class in
    let formed : IsFormed read class = subst (λ r. IsFormed r class) c.as_read.ensures c.in-Ok.ensures in
    of_class c.args.form (CheckTells c.args.form) read class (CheckTells c.args.form class) formed (λ text status told. told)
    (held c.args.out.now) (held c.tell.new.out) c.tell.result c.tell.ensures

pub returns-in-Err : goal.returns-in-Err
returns-in-Err g c =
    let held = g.W.Write.contents in
    let read = read_view c.args.file in
    let why : OrMemory read c.in-Err.fault = subst (λ r. OrMemory r c.in-Err.fault) c.as_read.ensures c.in-Err.ensures in
    of_refusal c.args.form (CheckTells c.args.form) read c.in-Err.fault why (held c.args.out.now) (held c.refuse.new.out) c.refuse.result c.refuse.ensures
