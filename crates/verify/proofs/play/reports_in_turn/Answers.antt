use Rattle.std.proofs.Common.{◌≡◌, ◌∙◌, ◌++◌, ◌+◌, ◌<◌, ◌∷◌, [], Some, Ok, Err, map, length, ap, sym, subst}
use Rattle.std.specs.Prelude.{slice_get}
use Rattle.std.proofs.lemmas.List.{length-append}
use Rattle.classfile.specs.Methods.{JudgedClass}
use Rattle.classfile.specs.CodeMethods.{judged_class}
use Rattle.classfile.proofs.Places.{viewed_at}
use Rattle.verify.specs.Plays.{IsFine}
use Rattle.verify.specs.private.PlaySteps.{Judges}
use Rattle.verify.proofs.Named.{one_more_item}
use Rattle.verify.proofs.Playing.{stopped}
use Rattle.verify.proofs.play.reports_in_turn.Goals as goal

pub loop-class-preserved : goal.loop-class-preserved
loop-class-preserved g c =
    let h = g.C.Classes.content c.args.classes.now in
    let cs = map judged_class c.args.play.now in
    let f = c.index-play-class.result in
    let here : slice_get cs c.loop-class.class ≡ Some (judged_class f) =
    viewed_at judged_class c.args.play.now c.loop-class.class f c.loop-class-test.true c.index-play-class.is in
    let same : c.loop-class.numbers.classes ≡ h = c.loop-class.invariant.0 in
    let old = c.loop-class.reports.items in
    let x = c.in-Ok.report in
    let (hierarchy, fine, met) =
    subst (λ k. Judges k cs c.loop-class.class (judged_class f) c.judge.new.names (Ok x)) same (c.in-Ok.ensures.judged cs here c.loop-class.invariant.3) in
    let is : c.push.new.self.items ≡ old ++ x ∷ [] = c.in_ok-push-in-Ok.ensures.items in
    let count : length old ≡ c.loop-class.class = c.loop-class.invariant.1 in
    let last = subst (λ n. (d : JudgedClass) × (slice_get cs n ≡ Some d) × IsFine h cs n d x.methods.items) (sym count) (judged_class f, here, fine) in (
      c.judge.ensures.same ∙ same,
      ap length is ∙ length-append old (x ∷ []) ∙ ap (λ n. n + 1) count,
      λ n r e.
          one_more_item old x (λ n r. (d : JudgedClass) × (slice_get cs n ≡ Some d) × IsFine h cs n d r.methods.items) c.loop-class.invariant.2 last n r (ap (λ xs. slice_get xs n) (sym is) ∙ e),
      met,
      λ some. hierarchy,
    )

pub returns-in-Err-clause-exactly : goal.returns-in-Err-clause-exactly
returns-in-Err-clause-exactly g c =
    let h = g.C.Classes.content c.args.classes.now in
    let cs = map judged_class c.args.play.now in
    let f = c.index-play-class.result in
    let here : slice_get cs c.loop-class.class ≡ Some (judged_class f) =
    viewed_at judged_class c.args.play.now c.loop-class.class f c.loop-class-test.true c.index-play-class.is in
    stopped h cs c.loop-class.class (judged_class f) c.judge.new.names c.in-Err.stop c.loop-class.reports.items here c.loop-class.invariant.1 c.loop-class.invariant.2
    (subst (λ k. Judges k cs c.loop-class.class (judged_class f) c.judge.new.names (Err c.in-Err.stop)) c.loop-class.invariant.0 (c.in-Err.ensures.judged cs here c.loop-class.invariant.3))

pub returns-clause-hierarchy : goal.returns-clause-hierarchy
returns-clause-hierarchy g c = λ some. c.loop-class.invariant.4 (subst (λ n. 0 < n) c.loop-class.invariant.1 some)
