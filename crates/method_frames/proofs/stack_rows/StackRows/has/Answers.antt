use Rattle.std.proofs.Common.{◌≡◌, ◌∙◌, subst}
use Rattle.frames.specs.Objects.{has_object}
use Rattle.frames.specs.VerificationType.{VerificationType}
use Rattle.type_numbers.specs.Numbers.{IsNumber}
use Rattle.type_numbers.specs.Decoding.{types_by}
use Rattle.method_frames.specs.NumberedStacks.{NumberedStacks}
use Rattle.method_frames.specs.ObjectLaws.{IsObjectType}
use Rattle.method_frames.proofs.ObjectTypes.{found}
use Rattle.method_frames.proofs.stack_rows.StackRows.has.Goals as goal

pub returns-clause-types : goal.returns-clause-types
returns-clause-types g c =
    let x = c.self.inside in
    subst (λ (y : NumberedStacks). (o : VerificationType) → IsNumber y.types c.args.object o → IsObjectType o → c.has.result ≡ has_object o (types_by y.types y.running)) c.self.view_is
    (λ o number own. c.has.ensures ∙ found x.rows.types c.args.object o number own x.items c.self.invariant.given)
