use Rattle.std.proofs.Common.{◌≡◌, ◌∙◌, ◌<◌, length, inl, inr, sym, ap, subst}
use Rattle.hierarchy.specs.Answer.{outcome_of, yes}
use Rattle.frames.specs.Assignable.{type_answer}
use Rattle.frames.specs.FrameAssignable.{list_answer}
use Rattle.type_numbers.specs.Decoding.{types_by}
use Rattle.method_frames.specs.NumberedRows.{declared_in}
use Rattle.method_frames.specs.private.TypeRows.{AreTypeRows}
use Rattle.method_frames.proofs.Holding.{noted_held}
use Rattle.method_frames.proofs.Walking.{said_known}
use Rattle.method_frames.proofs.Lacking.{row_within, row_lacks, noted_lacking}
use Rattle.method_frames.proofs.type_rows.TypeRows.answer.Goals as goal

pub invariant_of-self-in-Missing : goal.invariant_of-self-in-Missing
invariant_of-self-in-Missing g c =
    let x = c.self.inside in
    let told_name = sym (ap outcome_of c.in-Missing.is) in
    let told = told_name ∙ c.answer_anew-end.ensures.told in
    record {
      held = c.self.invariant.held;
      lacking = record {
        row = row_within x.types.now x.rows c.settle.new.self c.self.view_is c.self.invariant.held.known c.args.row (subst (λ y. c.args.row < length y.declared) (sym c.settle.ensures) c.requires.row) c.in-Missing.name.now told;
        lacks = row_lacks x.types.now x.rows c.settle.new.self c.self.view_is c.self.invariant.held.known c.args.row (subst (λ y. c.args.row < length y.declared) (sym c.settle.ensures) c.requires.row) c.in-Missing.name.now told c.answer_anew-end.result.1
            (c.answer_anew-end.ensures.end c.in-Missing.name.now (sym told_name));
      };
    }

pub invariant_of-self : goal.invariant_of-self
invariant_of-self g c =
    let x = c.self.inside in
    let row = subst (λ y. c.args.row < length y.declared) (sym c.self.view_is) (subst (λ y. c.args.row < length y.declared) (sym c.settle.ensures) c.requires.row) in
    let all = subst (λ y. list_answer (type_answer y.types.classes) (types_by y.types y.running) (types_by y.types (declared_in y c.args.row)) ≡ yes)
    (sym c.self.view_is) (sym c.answer_anew-end.ensures.told ∙ ap outcome_of c.in-Yes.is) in
    elim c.note_fit.ensures [
      | inl same ↦ subst (λ rows. AreTypeRows x.types.now rows x.holders x.lacking) (sym same) c.self.invariant
      | inr said ↦ record {
        held = noted_held x.types.now x.rows c.note_fit.new.self x.holders (said_known x.types.now x.rows c.note_fit.new.self c.args.row row c.self.invariant.held.known said all)
            said.running said.declared c.self.invariant.held;
        lacking = noted_lacking x.types.now x.rows c.note_fit.new.self x.lacking said.running said.declared c.self.invariant.lacking;
      }
    ]
