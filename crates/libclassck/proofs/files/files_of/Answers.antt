use Rattle.std.proofs.Common.{map, inl, inr, sym, ◌∙◌}
use Rattle.libclassck.proofs.Parting.{stopped, ended, left_over}
use Rattle.libclassck.proofs.files.files_of.Goals as goal
use Rattle.libclassck.proofs.files.files_of.Goals.{then-end-start-via-then-end-start, then-end-start-via-else-end-start+then-rest-end}

pub returns-then-end-start : goal.returns-then-end-start
returns-then-end-start c =
    let stops = stopped c.args.bytes.now c.args.ends.now c.loop-end.rest.now c.loop-end.start c.loop-end.end-index (map (λ file. file.now) c.loop-end.files.items)
    c.loop-end-test.true c.loop-end.invariant in
    elim c.then-end-start.branch [
      | then-end-start-via-then-end-start w ↦ stops (inl w.if-end-start.true)
      | then-end-start-via-else-end-start+then-rest-end w ↦ stops (inr (w.if-end-start.false, w.if-rest-end.true))
    ]

pub returns-then-is_empty : goal.returns-then-is_empty
returns-then-is_empty c =
    ended c.args.bytes.now c.args.ends.now c.loop-end.rest.now c.loop-end.start c.loop-end.end-index (map (λ file. file.now) c.loop-end.files.items)
    c.loop-end-test.false c.loop-end.invariant (sym c.is_empty.ensures ∙ c.if-is_empty.true)

pub returns : goal.returns
returns c =
    left_over c.args.bytes.now c.args.ends.now c.loop-end.rest.now c.loop-end.start c.loop-end.end-index (map (λ file. file.now) c.loop-end.files.items)
    c.loop-end-test.false c.loop-end.invariant (sym c.is_empty.ensures ∙ c.if-is_empty.false)
