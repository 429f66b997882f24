use Rattle.std.proofs.Common.{◌∙◌, sym, ap}
use Rattle.type_numbers.proofs.Decoded.{number_read}
use Rattle.rules.specs.After.{is_narrow}
use Rattle.rules.specs.Bodies.{method_view}
use Rattle.numbered_rules.specs.private.TypeParts.{is_narrow_by}
use Rattle.numbered_rules.proofs.Moving.{dup_done}
use Rattle.numbered_rules.proofs.TypeParts.{narrow_parts}
use Rattle.numbered_rules.proofs.pushing.top_pushed.Goals as goal

pub returns-then-is_narrow : goal.returns-then-is_narrow
returns-then-is_narrow g c =
    let x = c.args.frames.now in
    let n = c.in_ok-number.number in
    let h = c.in_ok-number.ensures.given in
    let narrow = ap is_narrow (number_read x.types n h.0 h.1) ∙ sym (narrow_parts x.types n h.0 h.1) ∙ ap is_narrow_by (sym c.of.ensures.tag) ∙ sym c.is_narrow.ensures ∙ c.if-is_narrow.true in
    record { given = h; judged = λ at now r d. dup_done (method_view c.args.method.now) x n c.in_ok-number.ensures.item narrow now r d }
