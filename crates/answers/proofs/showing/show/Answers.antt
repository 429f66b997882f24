use Rattle.std.proofs.Common.{rules, ◌≡◌, ◌∙◌, if◌then◌else◌, subst}
use Rattle.classfile.specs.Views.{class_view}
use Rattle.printing.specs.Classes.{class_lines, has_refused}
use Rattle.verify.specs.Files.{IsFormed, OrMemory}
use Rattle.answers.specs.Answers.{ShowTells}
use Rattle.answers.specs.declared.command.Form.TheVariants.{Plain}
use Rattle.answers.specs.Files.{read_view}
use Rattle.answers.proofs.Tellings.{of_class, of_refusal}
use Rattle.answers.proofs.showing.show.Goals as goal

pub returns-in-Ok : goal.returns-in-Ok
returns-in-Ok g c =
    let held = g.W.Write.contents in
    let read = read_view c.args.file in
    let class = class_view c.in-Ok.class in
    let formed : IsFormed read class = subst (λ r. IsFormed r class) c.as_read.ensures c.in-Ok.ensures in
    let status : c.from.result ≡ (if has_refused class then 1 else 0) = search rules in
    of_class Plain ShowTells read class (λ t s. (t ≡ class_lines class) × (s ≡ c.from.result)) formed (λ text s told. (told.0, told.1 ∙ status))
    (held c.args.out.now) (held c.tell.new.out) c.tell.result c.tell.ensures

pub returns-in-Err : goal.returns-in-Err
returns-in-Err g c =
    let held = g.W.Write.contents in
    let read = read_view c.args.file in
    let why : OrMemory read c.in-Err.fault = subst (λ r. OrMemory r c.in-Err.fault) c.as_read.ensures c.in-Err.ensures in
    of_refusal Plain ShowTells read c.in-Err.fault why (held c.args.out.now) (held c.refuse.new.out) c.refuse.result c.refuse.ensures
