use Rattle.std.proofs.Common.{◌∙◌, sym, arith, subst, not, get_or, eq-eqb, ne_eqb}
use Rattle.std.specs.Prelude.{Bool}
use Rattle.names.specs.private.TypeEnds.{SeesResult}
use Rattle.names.proofs.ShapeSeen.{type_seen, void_seen}
use Rattle.names.proofs.shape.result_seen.Goals.{then-has_result, else-has_result}
use Rattle.names.proofs.shape.result_seen.Goals as goal

pub returns : goal.returns
returns c =
    let bytes = c.args.bytes.now in
    let at = c.args.at in
    let some = c.if-end-at.false in
    let within = c.requires.there in
    let more = c.if-at-bytes.false in
    elim c.if-has_result.branch [
      | then-has_result w ↦
          let is = w.end-is in
          let forth = w.type_end-end.ensures.forth in
          subst (λ (b : Bool). SeesResult bytes at (not b)) (sym (ne_eqb (get_or bytes at 0) 86 w.if-has_result.true))
          (type_seen bytes at w.type_end-end.result (w.type_end-end.ensures.read (omega (arith, is, forth, some))) (sym is ∙ c.if-end-bytes.false))
      | else-has_result w ↦
          subst (λ (b : Bool). SeesResult bytes at (not b)) (sym (eq-eqb (get_or bytes at 0) 86 w.if-has_result.false))
          (void_seen bytes at (omega (arith, within, more)) w.if-has_result.false (sym w.end-is ∙ c.if-end-bytes.false))
    ]
