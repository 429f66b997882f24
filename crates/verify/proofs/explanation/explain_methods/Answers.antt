use Rattle.std.proofs.Common.{◌≡◌, ◌∙◌, ◌++◌, ◌+◌, ◌∷◌, [], true, false, nat_lt, ap, sym, subst, length, arith}
use Rattle.std.specs.Prelude.{slice_get, MatchOption}
use Rattle.std.proofs.lemmas.List.{length-append, length-map}
use Rattle.std.proofs.lemmas.Result.{err_from_is_err_and}
use Rattle.classfile.specs.CodeMethods.{judged_class}
use Rattle.classfile.specs.declared.class_file.ClassFile.{ClassFile}
use Rattle.classfile.specs.Views.{class_view, member_view}
use Rattle.hierarchy.specs.Rules.{IsHierarchy}
use Rattle.method_frames.specs.NumberedFrames.{NumberedFrames}
use Rattle.rules.specs.Reasons.{reason_number}
use Rattle.type_numbers.specs.Numbers.{Numbering}
use Rattle.verify.specs.Coming.{AreFramesOf, IsFramedIf, no_frames, frames_view}
use Rattle.verify.specs.Listed.{IsListed}
use Rattle.verify.specs.Reports.{IsReported}
use Rattle.verify.specs.private.pass.ClassTypes.{AreClassTypes}
use Rattle.verify.proofs.Counted.{AreFramedSoFar, one_more_framed, framed_where}
use Rattle.verify.proofs.FramesFound.{framed_by}
use Rattle.verify.proofs.Named.{one_more_item}
use Rattle.verify.proofs.explanation.explain_methods.Goals as goal
use Rattle.verify.proofs.explanation.explain_methods.Goals.{then-framed+in_ok-met+in_ok-push, else-framed}

true_false : true ≡ false → ⊥
true_false e = cc

pub report_on-requires-clause-constants : goal.report_on-requires-clause-constants
report_on-requires-clause-constants g c =
    c.loop-number.invariant.members ∙ ap (λ (s : Numbering). record { class = c.args.formed.now.class.now; classes = s.classes }) (sym c.loop-number.invariant.types)

pub report_on-requires-clause-types : goal.report_on-requires-clause-types
report_on-requires-clause-types g c =
    subst (λ (s : Numbering). AreClassTypes s (class_view c.args.formed.now.class.now) c.args.types.now) (sym c.loop-number.invariant.types) c.requires.types

pub report_on-requires-clause-hierarchy : goal.report_on-requires-clause-hierarchy
report_on-requires-clause-hierarchy g c = subst (λ (s : Numbering). IsHierarchy s.classes) (sym c.loop-number.invariant.types) c.requires.hierarchy

pub report_on-requires-clause-listed : goal.report_on-requires-clause-listed
report_on-requires-clause-listed g c =
    subst (λ (s : Numbering). IsListed s.classes (class_view c.args.formed.now.class.now)) (sym c.loop-number.invariant.types) c.requires.listed

pub loop-number-preserved : goal.loop-number-preserved
loop-number-preserved g c =
    let start = c.args.frames.now in
    let classes = start.types.classes in
    let types = c.report_on.ensures.types ∙ c.loop-number.invariant.types in
    let same : c.report_on.new.frames.types.classes ≡ classes = ap (λ (s : Numbering). s.classes) types in
    let was : c.loop-number.frames.types.classes ≡ classes = ap (λ (s : Numbering). s.classes) c.loop-number.invariant.types in
    let class = judged_class c.args.formed.now in
    let number = c.loop-number.number in
    let left = c.loop-number.left in
    let old = c.loop-number.methods.items in
    let r = c.in_ok-verdict.verdict in
    let is : c.push-in-loop-number.new.self.items ≡ old ++ r ∷ [] = c.in_ok-push-2.ensures.items in
    let count : length old ≡ number = c.loop-number.invariant.count in
    let here = subst (λ n. IsReported classes class n r) (sym count) (subst (λ cs. IsReported cs class number r) was c.in_ok-verdict.ensures.found) in
    let members = c.report_on.ensures.same ∙ c.loop-number.invariant.members in
    let joined : (c.if-framed.constants.members ≡ record { class = c.args.formed.now.class.now; classes = classes }) × (c.if-framed.frames.types ≡ start.types)
    × (c.args.framed ≡ true → AreFramedSoFar classes class (old ++ r ∷ []) c.if-framed.all.items c.if-framed.left) =
    elim c.if-framed.branch [
      | then-framed+in_ok-met+in_ok-push w ↦
          let x = w.in_ok-met.met in
          let refusal = w.refusal_by-refusal.result in
          let found = subst (λ cs. MatchOption refusal (frames_view x ≡ no_frames) (λ k. AreFramesOf cs class number (reason_number k.reason) k.at (frames_view x))) same w.in_ok-met.ensures.found in
          let framed = subst (λ n. IsFramedIf (nat_lt 0 left) classes class n r.verdict (frames_view x)) (sym count)
          (framed_by classes class number (nat_lt 0 left) r.verdict (frames_view x) refusal found (w.refusal_by-refusal.ensures classes class number (frames_view x))) in (
            ap (λ k. k.members) w.constants-is ∙ w.frames_at.ensures.same ∙ members,
            ap (λ (f : NumberedFrames). f.types) w.frames-is ∙ w.frames_at.ensures.types ∙ types,
            λ e. subst (λ xs. AreFramedSoFar classes class (old ++ r ∷ []) xs c.if-framed.left) (sym (ap (λ v. v.items) w.all-is ∙ w.in_ok-push.ensures.items))
                (one_more_framed classes class old c.loop-number.all.items left c.if-framed.left r x (c.loop-number.invariant.framed e) framed (w.left-is ∙ w.taken_off-left.ensures)),
          )
      | else-framed w ↦ (
        ap (λ k. k.members) w.constants-is ∙ members,
        ap (λ (f : NumberedFrames). f.types) w.frames-is ∙ types,
        λ e. absurd (true_false (sym e ∙ w.if-framed.false)),
      )
    ] in
    record {
      members = joined.0;
      types = joined.1;
      count = ap length is ∙ length-append old (r ∷ []) ∙ ap (λ n. n + 1) count;
      each = λ n s e. one_more_item old r (λ n s. IsReported classes class n s) c.loop-number.invariant.each here n s (ap (λ xs. slice_get xs n) (sym is) ∙ e);
      framed = λ e. subst (λ rs. AreFramedSoFar classes class rs c.if-framed.all.items c.if-framed.left) (sym is) (joined.2 e);
    }

pub returns-in_err-verdict-clause-memory : goal.returns-in_err-verdict-clause-memory
returns-in_err-verdict-clause-memory g c =
    let p = err_from_is_err_and c.from_residual.result c.from_residual.ensures.1 in
    rw (p.1, p.2) c.in_err-verdict.ensures.memory

pub returns-in_err-met-clause-memory : goal.returns-in_err-met-clause-memory
returns-in_err-met-clause-memory g c =
    let p = err_from_is_err_and c.from_residual-in_err-met.result c.from_residual-in_err-met.ensures.1 in
    rw (p.1, p.2) c.in_err-met.ensures.memory

pub returns-in_err-push-clause-memory : goal.returns-in_err-push-clause-memory
returns-in_err-push-clause-memory g c =
    let p = err_from_is_err_and c.from_residual-in_err-push.result c.from_residual-in_err-push.ensures.1 in
    rw p.1 p.2

pub returns-in_err-push-2-clause-memory : goal.returns-in_err-push-2-clause-memory
returns-in_err-push-2-clause-memory g c =
    let p = err_from_is_err_and c.from_residual-in_err-push-2.result c.from_residual-in_err-push-2.ensures.1 in
    rw p.1 p.2

pub returns-clause-found : goal.returns-clause-found
returns-clause-found g c = (
  record {
    listed = c.requires.listed;
    all =
        let count = c.loop-number.invariant.count in
        let mapped = length-map c.args.formed.now.class.now.methods.items member_view in
        let same = ap (λ (k : ClassFile). length k.methods.items) c.class-class.ensures.same in
        omega (arith, count, mapped, same, c.loop-number-test.false, c.len-number-end.ensures, c.loop-number.auto.number-end, c.class-class.result.now.methods.ok.0);
    each = c.loop-number.invariant.each;
  },
  framed_where c.args.framed c.args.frames.now.types.classes (judged_class c.args.formed.now) c.loop-number.methods.items c.loop-number.all.items (λ e. (c.loop-number.invariant.framed e).framed),
)
