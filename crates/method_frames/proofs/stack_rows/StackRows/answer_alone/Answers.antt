use Rattle.std.proofs.Common.{◌≡◌, ◌∙◌, ap, ap₂, sym, subst}
use Rattle.hierarchy.specs.Answer.{outcome_of}
use Rattle.frames.specs.Assignable.{type_answer}
use Rattle.frames.specs.VerificationType.{VerificationType}
use Rattle.type_numbers.specs.Numbers.{IsNumber, IsGiven}
use Rattle.type_numbers.specs.Decoding.{type_by}
use Rattle.type_numbers.proofs.Decoded.{number_read}
use Rattle.method_frames.proofs.Heights.{is_height}
use Rattle.method_frames.proofs.StackReplacing.{more_alone, wider_alone, same_alone}
use Rattle.method_frames.proofs.stack_rows.StackRows.answer_alone.Goals as goal

pub returns-then-height-ne1 : goal.returns-then-height-ne1
returns-then-height-ne1 g c =
    let x = c.self.inside in
    more_alone x.items x.rows x.written x.high x.declared.items c.args.self.now c.self.view_is c.self.invariant c.args.stack c.requires.stack c.index-height.result.now c.index-height.ensures c.args.number c.requires.given
    c.if-height-ne1.true

pub returns-then-height-extra : goal.returns-then-height-extra
returns-then-height-extra g c =
    let x = c.self.inside in
    wider_alone x.items x.rows x.written x.high x.declared.items c.args.self.now c.self.view_is c.self.invariant c.args.stack c.requires.stack c.index-height.result.now c.index-height.ensures c.args.number c.requires.given
    c.if-height-ne1.false c.extra.result c.extra.ensures.units c.if-height-extra.true

pub declared-wanted-requires : goal.declared-wanted-requires
declared-wanted-requires g c =
    let x = c.self.inside in
    let height = is_height x.items x.rows x.written x.high x.declared.items c.args.self.now c.self.view_is c.self.invariant c.args.stack c.requires.stack c.index-height.result.now c.index-height.ensures in
    height.row

pub returns : goal.returns
returns g c =
    let x = c.self.inside in
    let s = c.args.self.now.types in
    let same : c.types.result.now ≡ s = c.types.ensures ∙ ap (λ y. y.types) c.self.view_is in
    let from = c.requires.given in
    let to = subst (λ y. IsGiven y.types c.declared-wanted.result) c.self.view_is c.declared-wanted.ensures.given in
    let told = subst (λ z. (a b : VerificationType) → IsNumber z c.args.number a → IsNumber z c.declared-wanted.result b → outcome_of c.assignable.result ≡ type_answer z.classes a b) same c.assignable.ensures in
    told from.0 to.0 from.1 to.1
    ∙ ap₂ (type_answer s.classes) (sym (number_read s c.args.number from.0 from.1)) (sym (number_read s c.declared-wanted.result to.0 to.1))
    ∙ ap (λ m. type_answer s.classes (type_by s c.args.number) (type_by s m)) c.declared-wanted.ensures.number
    ∙ same_alone x.items x.rows x.written x.high x.declared.items c.args.self.now c.self.view_is c.self.invariant c.args.stack c.requires.stack c.index-height.result.now c.index-height.ensures c.args.number c.requires.given
    c.if-height-ne1.false c.extra.result c.extra.ensures.units c.if-height-extra.false
