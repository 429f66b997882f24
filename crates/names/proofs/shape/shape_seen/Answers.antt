use Rattle.std.proofs.Common.{◌∙◌, ap, ◌+◌, ℕ, refl}
use Rattle.names.proofs.ShapeLaws.{units_of_receiver}
use Rattle.names.proofs.ShapeSeen.{shape_is_seen}
use Rattle.names.proofs.shape.shape_seen.Goals as goal

pub returns : goal.returns
returns c =
    let units = c.from.ensures ∙ units_of_receiver c.args.receiver in
    shape_is_seen c.args.receiver c.args.bytes.now c.in_ok-end.end c.in_ok-end.units c.in_ok-has_result.has_result _ (c.is_first.ensures.yes c.if-not-is_first.false) c.in_ok-end.ensures c.in_ok-has_result.ensures
    (ap (λ (n : ℕ). c.in_ok-end.units + n) units) c.if-units-gt255.false refl
