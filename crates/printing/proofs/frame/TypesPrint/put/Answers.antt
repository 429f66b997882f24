use Rattle.std.proofs.Common.{◌++◌, List, subst}
use Rattle.std.specs.Prelude.{ℕ, codes}
use Rattle.std.specs.List.{flat_map}
use Rattle.frames.specs.VerificationType.{type_of}
use Rattle.printing.specs.Writing.{Writes, AppendsFront}
use Rattle.printing.specs.declared.names_in.Within.TheVariants.{Words}
use Rattle.printing.specs.Frames.{type_text, more_text}
use Rattle.printing.proofs.Writings.{then_writes, front_of_more}
use Rattle.printing.proofs.Frames.{row_text}
use Rattle.printing.proofs.frame.TypesPrint.put.Goals as goal

pub returns-in-Ok : goal.returns-in-Ok
returns-in-Ok g c =
    let held = g.W.Write.contents in
    let x = c.in-Some.first.now in
    let xs = c.in-Some.others.now in
    let more = flat_map (λ y. more_text (type_of y)) xs in
    subst (λ (l : List ℕ). Writes (held c.args.out.now) (held c.put_lines.new.out) l c.put_lines.result) (row_text x xs c.args.self.now.0.now c.in-Some.ensures.cases.0)
    (then_writes (held c.args.out.now) (held c.put-in-Some.new.out) (held c.put_lines.new.out) (codes " " ++ type_text Words (type_of x)) more c.put_lines.result c.in-Ok.ensures c.put_lines.ensures)

pub returns-in-Err : goal.returns-in-Err
returns-in-Err g c =
    let held = g.W.Write.contents in
    let x = c.in-Some.first.now in
    let xs = c.in-Some.others.now in
    let more = flat_map (λ y. more_text (type_of y)) xs in
    subst (λ (l : List ℕ). AppendsFront (held c.args.out.now) (held c.put-in-Some.new.out) l) (row_text x xs c.args.self.now.0.now c.in-Some.ensures.cases.0)
    (front_of_more (held c.args.out.now) (held c.put-in-Some.new.out) (codes " " ++ type_text Words (type_of x)) more c.in-Err.ensures)
