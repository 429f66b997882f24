use Rattle.std.proofs.Common.{List, [], ◌∷◌, refl, sym, subst}
use Rattle.hierarchy.specs.Summary.{facts_of}
use Rattle.verify.specs.Each.{AddsFiles}
use Rattle.verify.specs.private.OpeningSteps.{AreOpened, IsOpened}
use Rattle.verify.specs.Files.{Read}
use Rattle.hierarchy.specs.Class.{ClassFact}
use Rattle.verify.proofs.OneMore.{one_more_added}
use Rattle.verify.proofs.Openings.{taken_last}
use Rattle.verify.proofs.gathering.Gathered.add_opened.Goals as goal

none_added : (reads : List Read) (classes : List ClassFact) → AreOpened reads [] → AddsFiles reads classes classes
none_added [] classes none = refl
none_added (read ∷ reads) classes none = absurd none

pub loop-file-init : goal.loop-file-init
loop-file-init c = (c.requires.placed, λ reads none. none_added reads (facts_of c.args.self.now.classes.items) none)

pub loop-file-preserved : goal.loop-file-preserved
loop-file-preserved c =
    let (placed, added) = c.loop-file.invariant in (
      c.in_ok-add_opened_file.ensures.placed,
      λ reads all.
          let l = taken_last IsOpened reads c.args.files.now c.loop-file.file-index c.file-item.result c.loop-file-test.true c.file-item.is all in
          subst (λ rs. AddsFiles rs (facts_of c.args.self.now.classes.items) (facts_of c.add_opened_file.new.self.classes.items)) (sym l.same)
          (one_more_added l.front l.last _ _ _ (added l.front l.before) (c.in_ok-add_opened_file.ensures.added l.last l.here)),
    )
