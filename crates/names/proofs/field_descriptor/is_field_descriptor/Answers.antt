use Rattle.std.proofs.Common.{◌∙◌, sym}
use Rattle.names.proofs.FieldSeen.{ok_is_spelled, answer_is_ok}
use Rattle.names.proofs.field_descriptor.is_field_descriptor.Goals as goal

pub returns-then-is_one_type-clause-only : goal.returns-then-is_one_type-clause-only
returns-then-is_one_type-clause-only c = rw (← c.bytes.ensures) (λ h. ok_is_spelled c.bytes.result.now (c.is_one_type.ensures h))

pub returns-else-is_one_type-clause-only : goal.returns-else-is_one_type-clause-only
returns-else-is_one_type-clause-only c = λ h.
    ok_is_spelled c.args.text.bytes.now (answer_is_ok c.args.text.bytes.now c.field_type.result c.field_type.ensures.computed ∙ sym c.is_ok.ensures.value ∙ h)
