use Rattle.std.proofs.Common.{ap, inl, inr}
use Rattle.method_frames.specs.MapFrames.{frames_by}
use Rattle.rules.specs.Bodies.{method_view}
use Rattle.rules.specs.Table.{typing_rule}
use Rattle.verify.specs.Verdict.{told_of, table_judged, code_judged}
use Rattle.verify.proofs.pass.method.judge_code.Goals as goal

pub returns-in-Err-clause-judged : goal.returns-in-Err-clause-judged
returns-in-Err-clause-judged g c =
    let x = c.args.frames.now in
    let m = method_view c.args.body.now.method.now in
    let frames = frames_by x.types x.declared in
    let rest = code_judged typing_rule x.types.classes m frames in
    c.refuse.ensures (table_judged x.types.classes m frames m.exceptions rest)
    (elim c.in-Err.ensures.judged.outcome [
      | inl out ↦ inl out
      | inr why ↦ inr (ap told_of (why rest))
    ])
