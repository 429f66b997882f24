use Rattle.std.proofs.Common.{map, sym, subst}
use Rattle.classfile.specs.Methods.{code_of}
use Rattle.classfile.specs.Views.{attribute_view}
use Rattle.verify.specs.declared.verdict.Verdict.{Verdict}
use Rattle.printing.specs.Writing.{Writes}
use Rattle.verify.specs.Coming.{frames_view}
use Rattle.answers.specs.Explanations.{explanation_object}
use Rattle.answers.specs.Verdicts.{verdict_object}
use Rattle.answers.proofs.explaining.ExplanationObjectPrint.put.Goals as goal

pub returns-in-Refused : goal.returns-in-Refused
returns-in-Refused g c =
    let held = g.W.Write.contents in
    let self = c.args.self.now in
    let body = code_of (map attribute_view self.member.now.attributes.items) in
    subst (λ (v : Verdict). Writes (held c.args.out.now) (held c.put-in-Refused.new.out) (explanation_object self.pool.now body (verdict_object self.method) v (frames_view self.frames.now)) c.put-in-Refused.result) (sym c.in-Refused.is) c.put-in-Refused.ensures
