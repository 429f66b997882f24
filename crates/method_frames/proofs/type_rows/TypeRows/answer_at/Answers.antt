use Rattle.std.proofs.Common.{◌≡◌, ◌∙◌, get_or, sym, subst, ap₂}
use Rattle.hierarchy.specs.Answer.{outcome_of}
use Rattle.frames.specs.Assignable.{type_answer}
use Rattle.type_numbers.specs.Decoding.{type_by}
use Rattle.type_numbers.proofs.Decoded.{number_read}
use Rattle.method_frames.specs.NumberedRows.{declared_in}
use Rattle.method_frames.proofs.Knowing.{running_given, declared_given}
use Rattle.method_frames.proofs.type_rows.TypeRows.answer_at.Goals as goal

pub assignable-requires-clause-from : goal.assignable-requires-clause-from
assignable-requires-clause-from g c =
    let x = c.self.inside in
    running_given x.types.now x.rows c.args.self.now c.self.view_is c.self.invariant.held.known c.args.place c.get-from.result c.requires.place c.get-from.ensures

pub assignable-requires-clause-to : goal.assignable-requires-clause-to
assignable-requires-clause-to g c =
    let x = c.self.inside in
    declared_given x.types.now x.rows c.args.self.now c.self.view_is c.self.invariant.held.known c.args.row c.args.place c.get_declared-to.result c.requires.row c.requires.place c.get_declared-to.ensures

pub returns : goal.returns
returns g c =
    let x = c.self.inside in
    let s = x.types.now in
    let from = running_given s x.rows c.args.self.now c.self.view_is c.self.invariant.held.known c.args.place c.get-from.result c.requires.place c.get-from.ensures in
    let to = declared_given s x.rows c.args.self.now c.self.view_is c.self.invariant.held.known c.args.row c.args.place c.get_declared-to.result c.requires.row c.requires.place c.get_declared-to.ensures in
    subst (λ y. outcome_of c.assignable.result ≡ type_answer y.types.classes (type_by y.types (get_or y.running c.args.place 0)) (type_by y.types (get_or (declared_in y c.args.row) c.args.place 0)))
    c.self.view_is
    (c.assignable.ensures from.0 to.0 from.1 to.1
    ∙ ap₂ (type_answer s.classes) (sym (number_read s c.get-from.result from.0 from.1)) (sym (number_read s c.get_declared-to.result to.0 to.1))
    ∙ ap₂ (λ a b. type_answer s.classes (type_by s a) (type_by s b)) c.get-from.ensures c.get_declared-to.ensures)
