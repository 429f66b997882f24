use Rattle.std.proofs.Common.{◌∙◌, sym, ap}
use Rattle.std.proofs.lemmas.Bool.{false≢true}
use Rattle.hierarchy.specs.Answer.{outcome_of}
use Rattle.method_frames.proofs.MethodParts.{is_declared, takes_each}
use Rattle.method_frames.proofs.method_frames.MethodFrames.takes_locals.Goals as goal
use Rattle.method_frames.proofs.method_frames.MethodFrames.takes_locals.Goals.{in-Yes, in_default}

pub answer-requires : goal.answer-requires
answer-requires g c =
    let x = c.self.inside in
    let own = is_declared x.locals x.stacks x.flag x.max_locals x.declared.items x.places.items c.args.self.now c.self.view_is c.self.invariant c.args.frame c.requires.frame c.index-declared.result.now c.index-declared.ensures in
    record { row = own.locals }

pub returns-clause-taken : goal.returns-clause-taken
returns-clause-taken g c = λ t.
    let x = c.self.inside in
    elim c.match-matches.branch [
      | in-Yes w ↦
          takes_each x.locals x.stacks x.flag x.max_locals x.declared.items x.places.items c.args.self.now c.self.view_is c.self.invariant c.args.frame c.requires.frame c.index-declared.result.now c.index-declared.ensures
          (ap outcome_of (sym w.in-Yes.is) ∙ c.answer.ensures.told)
      | in_default w ↦ absurd (false≢true (sym w.matches-is ∙ t))
    ]
