use Rattle.std.proofs.Common.{rules, ◌≤◌, ◌+◌, length}
use Rattle.std.proofs.lemmas.Result.{err_from_is_err_and}
use Rattle.layout.specs.StreamLaws.{part_stops}
use Rattle.layout.specs.declared.limits.TheConstants.{MAX_CLASS_BYTES}
use Rattle.layout.proofs.reading.Reading.part.Goals as goal

pub returns-in_err-more : goal.returns-in_err-more
returns-in_err-more g c =
    let p = err_from_is_err_and c.from_residual.result c.from_residual.ensures.1 in
    let i = c.loop-left.invariant in
    let le : length c.args.self.now.bytes + c.args.n ≤ MAX_CLASS_BYTES = search rules in
    rw (p.1, p.2) (part_stops c.args.n c.min-piece.result c.loop-left.left c.args.self.now.bytes c.loop-left.self.bytes c.more.new.self.bytes i.0 _ _ _ c.in_err-more.field-0.0 le i.1 i.2 i.3 (search rules) (search rules) c.in_err-more.ensures.given)
