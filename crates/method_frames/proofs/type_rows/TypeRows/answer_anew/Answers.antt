use Rattle.std.proofs.Common.{◌∙◌, ◌+◌, sym, ap, drop}
use Rattle.hierarchy.specs.Answer.{outcome_of}
use Rattle.frames.specs.FrameAssignable.{both}
use Rattle.frames.specs.PackedFrames.{joined}
use Rattle.method_frames.specs.NumberedRows.{declared_in}
use Rattle.method_frames.specs.private.TypeRows.{row_answers}
use Rattle.method_frames.proofs.Walking.{at_no, past, next_within, here_unfit, here_fits, at_end}
use Rattle.method_frames.proofs.Lacking.{missing_not_yes, yes_alone, both_left}
use Rattle.method_frames.proofs.type_rows.TypeRows.answer_anew.Goals as goal

pub returns-in-No-clause-told : goal.returns-in-No-clause-told
returns-in-No-clause-told g c =
    let x = c.self.inside in
    at_no x.types.now x.rows c.args.self.now c.self.view_is c.self.invariant.held.known c.args.row c.requires.row (outcome_of c.loop-place.so_far) c.loop-place.from c.loop-place.invariant.rest
    c.in-Some.place c.in-Some.ensures.first (outcome_of c.answer_at-answer.result) c.answer_at-answer.ensures (ap outcome_of c.in-No.is)

pub loop-place-preserved-in-Yes : goal.loop-place-preserved-in-Yes
loop-place-preserved-in-Yes g c =
    let x = c.self.inside in
    let now = c.args.self.now in
    let os = row_answers now.types now.running (declared_in now c.args.row) in
    record {
      within = next_within x.types.now x.rows c.args.self.now c.self.view_is c.self.invariant.held.known c.args.row c.requires.row (outcome_of c.loop-place.so_far) c.loop-place.from c.loop-place.invariant.rest
          c.in-Some.place c.in-Some.ensures.first (outcome_of c.answer_at-answer.result) c.answer_at-answer.ensures;
      rest = past x.types.now x.rows c.args.self.now c.self.view_is c.self.invariant.held.known c.args.row c.requires.row (outcome_of c.loop-place.so_far) c.loop-place.from c.loop-place.invariant.rest
          c.in-Some.place c.in-Some.ensures.first (outcome_of c.answer_at-answer.result) c.answer_at-answer.ensures
          ∙ ap (λ r. both r (joined (drop (c.in-Some.place + 1) os))) (sym c.both-with.ensures);
      unfit = λ h. here_unfit x.types.now x.rows c.args.self.now c.self.view_is c.self.invariant.held.known c.args.row c.requires.row (outcome_of c.loop-place.so_far) c.loop-place.from c.loop-place.invariant.rest
          c.in-Some.place c.in-Some.ensures.first (outcome_of c.answer_at-answer.result) c.answer_at-answer.ensures
          (c.loop-place.invariant.fit (ap outcome_of c.in-Yes.is))
          (λ e. h (c.both-with.ensures ∙ ap (λ r. both (outcome_of r) (outcome_of c.answer_at-answer.result)) c.in-Yes.is ∙ e));
      fit = λ y. here_fits x.types.now x.rows c.args.self.now c.self.view_is c.self.invariant.held.known c.args.row c.requires.row (outcome_of c.loop-place.so_far) c.loop-place.from c.loop-place.invariant.rest
          c.in-Some.place c.in-Some.ensures.first (outcome_of c.answer_at-answer.result) c.answer_at-answer.ensures
          (c.loop-place.invariant.fit (ap outcome_of c.in-Yes.is))
          (sym (c.both-with.ensures ∙ ap (λ r. both (outcome_of r) (outcome_of c.answer_at-answer.result)) c.in-Yes.is) ∙ y);
    }

pub loop-place-preserved : goal.loop-place-preserved
loop-place-preserved g c =
    let x = c.self.inside in
    let now = c.args.self.now in
    let os = row_answers now.types now.running (declared_in now c.args.row) in
    record {
      within = next_within x.types.now x.rows c.args.self.now c.self.view_is c.self.invariant.held.known c.args.row c.requires.row (outcome_of c.loop-place.so_far) c.loop-place.from c.loop-place.invariant.rest
          c.in-Some.place c.in-Some.ensures.first (outcome_of c.answer_at-answer.result) c.answer_at-answer.ensures;
      rest = past x.types.now x.rows c.args.self.now c.self.view_is c.self.invariant.held.known c.args.row c.requires.row (outcome_of c.loop-place.so_far) c.loop-place.from c.loop-place.invariant.rest
          c.in-Some.place c.in-Some.ensures.first (outcome_of c.answer_at-answer.result) c.answer_at-answer.ensures
          ∙ ap (λ r. both r (joined (drop (c.in-Some.place + 1) os))) (sym c.both-with.ensures);
      unfit = λ h. c.loop-place.invariant.unfit (yes_alone c.loop-place.so_far c.in_default-so_far.not-Yes);
      fit = λ y. absurd (yes_alone c.loop-place.so_far c.in_default-so_far.not-Yes (both_left (outcome_of c.loop-place.so_far) (outcome_of c.answer_at-answer.result) (sym c.both-with.ensures ∙ y)));
    }

pub returns-clause-told : goal.returns-clause-told
returns-clause-told g c =
    let x = c.self.inside in
    at_end x.types.now x.rows c.args.self.now c.self.view_is c.self.invariant.held.known c.args.row c.requires.row (outcome_of c.loop-place.so_far) c.loop-place.from c.loop-place.invariant.rest
    c.loop-place.invariant.within c.in_default.ensures.first

pub returns-clause-end : goal.returns-clause-end
returns-clause-end g c name e = c.loop-place.invariant.unfit (λ y. missing_not_yes name (sym e ∙ y))
