use Rattle.std.proofs.Common.{◌≡◌, ◌≤◌, ◌∙◌, ◌++◌, ◌∷◌, [], Some, map, take, length, sym, ap, subst, refl, arith}
use Rattle.classfile.specs.CodeMethods.{judged, judged_class}
use Rattle.std.specs.Prelude.{slice_get}
use Rattle.std.proofs.lemmas.List.{map-append, length-map}
use Rattle.classfile.specs.Views.{class_view}
use Rattle.classfile.proofs.Places.{viewed_at, take_one_more}
use Rattle.verify.specs.private.TogetherSteps.{AreWellFormed, views}
use Rattle.verify.proofs.Formed.{refused_by}
use Rattle.verify.proofs.FilesInPlay.{decoded_at, one_more_well_formed, first_refused, more_judged}
use Rattle.verify.proofs.classes_in_play.form_all.Goals as goal

pub loop-i-preserved : goal.loop-i-preserved
loop-i-preserved c =
    let classes = c.args.classes.now in
    let i = c.loop-i.i in
    let f = c.index-classes-i.result in
    let viewed : slice_get (views classes) i ≡ Some (class_view f) = viewed_at (λ k. class_view k) classes i f c.loop-i-test.true c.index-classes-i.is in
    let old = c.loop-i.all.items in
    let x = c.under.result in
    let p = c.args.profile in
    let front = take i (views classes) in
    let is : c.push.new.self.items ≡ old ++ x ∷ [] = c.in_ok-push-in-Ok.ensures.items in
    let one : judged_class x ≡ judged p (class_view f) = c.under.ensures.judged ∙ ap (λ k. judged p (class_view k)) c.in-Ok.ensures.0 in (
      ap (map judged_class) is ∙ more_judged old x ∙ ap (λ z. z ++ judged_class x ∷ []) c.loop-i.invariant.0
          ∙ ap (λ k. map (judged p) front ++ k ∷ []) one ∙ sym (map-append (judged p) front (class_view f ∷ []))
          ∙ ap (map (judged p)) (sym (take_one_more (views classes) i (class_view f) viewed)),
      subst AreWellFormed (sym (take_one_more (views classes) i (class_view f) viewed)) (one_more_well_formed (take i (views classes)) (class_view f) c.loop-i.invariant.1 c.in-Ok.ensures.1),
    )

pub returns-in-Err-clause-refused : goal.returns-in-Err-clause-refused
returns-in-Err-clause-refused c = λ reads all profile.
    let classes = c.args.classes.now in
    let cs = views classes in
    let i = c.loop-i.i in
    let f = c.index-classes-i.result in
    let viewed : slice_get cs i ≡ Some (class_view f) = viewed_at (λ k. class_view k) classes i f c.loop-i-test.true c.index-classes-i.is in
    let (read, here, decoded) = decoded_at reads cs i (class_view f) all viewed in
    let le : i ≤ length cs = omega (arith, length-map classes (λ k. class_view k), c.loop-i-test.true) in
    c.refused.ensures reads read i refl (refused_by read f c.in-Err.fault decoded c.in-Err.ensures)
    (λ why. first_refused reads cs i read c.in-Err.fault le all c.loop-i.invariant.1 here why) profile
