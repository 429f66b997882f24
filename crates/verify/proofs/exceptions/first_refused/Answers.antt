use Rattle.std.proofs.Common.{inl, inr, sym, ◌∙◌, ap, arith}
use Rattle.std.proofs.lemmas.List.{drop_all}
use Rattle.method_frames.specs.MapFrames.{frames_by}
use Rattle.rules.specs.Bodies.{method_view}
use Rattle.rules.specs.Reasons.{reason_view}
use Rattle.verify.specs.DifferencesAt.{first_refused}
use Rattle.verify.proofs.EntriesAtFault.{refused_here, refused_later, refused_told}
use Rattle.verify.proofs.numbered.TableEntries.{has_entry_by, as_many_entries}
use Rattle.verify.proofs.exceptions.first_refused.Goals as goal

pub judge_entry-requires-clause-entry : goal.judge_entry-requires-clause-entry
judge_entry-requires-clause-entry g c =
    let one = has_entry_by c.args.frames.now.types c.requires.entries.0 c.args.entries.now c.loop-place.place c.requires.entries.1 c.loop-place-test.true in
    (one.entry, one.is)

pub returns-in-Err : goal.returns-in-Err
returns-in-Err g c = λ es are.
    let x = c.args.frames.now in
    let m = method_view c.args.body.now.method.now in
    let frames = frames_by x.types x.declared in
    let i = c.loop-place.place in
    let one = has_entry_by x.types es c.args.entries.now i are c.loop-place-test.true in
    refused_told c.in-Err.reason c.refused_at.result (first_refused x.types.classes m frames 0 es) i c.refused_at.ensures
    (elim (c.in-Err.ensures one.entry one.is).outcome [
      | inl out ↦ inl out
      | inr why ↦ inr (c.loop-place.invariant es are ∙ refused_here es i one.entry one.here x.types.classes m frames (reason_view c.in-Err.reason) why)
    ])

pub loop-place-preserved : goal.loop-place-preserved
loop-place-preserved g c = λ es are.
    let x = c.args.frames.now in
    let i = c.loop-place.place in
    let one = has_entry_by x.types es c.args.entries.now i are c.loop-place-test.true in
    c.loop-place.invariant es are ∙ refused_later es i one.entry one.here x.types.classes (method_view c.args.body.now.method.now) (frames_by x.types x.declared) (c.in_default.ensures one.entry one.is).outcome.0

pub returns : goal.returns
returns g c = λ es are.
    let x = c.args.frames.now in
    let i = c.loop-place.place in
    let first = first_refused x.types.classes (method_view c.args.body.now.method.now) (frames_by x.types x.declared) in
    let all = as_many_entries x.types es c.args.entries.now are in
    sym (c.loop-place.invariant es are ∙ ap (first i) (drop_all i es (omega (arith, c.loop-place-test.false, all))))
