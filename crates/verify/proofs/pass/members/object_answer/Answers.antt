use Rattle.std.proofs.Common.{rules, ◌∙◌, sym, ap}
use Rattle.frames.specs.DeclaredFrames.{is_uninit_this}
use Rattle.frames.specs.VerificationType.{type_of, class}
use Rattle.verify.specs.private.pass.Objects.{is_array_type}
use Rattle.type_numbers.proofs.Decoded.{one_type}
use Rattle.verify.proofs.numbered.Objects.{array_answer, other_answer, own_answer}
use Rattle.verify.proofs.pass.members.object_answer.Goals as goal

pub returns-then-is_array : goal.returns-then-is_array
returns-then-is_array g c = λ t name is of.
    let same = one_type c.args.types.now c.args.object t (type_of c.vtype-t.result) is c.vtype-t.ensures in
    let answer = array_answer c.args.types.now.classes name t (ap is_array_type same ∙ (sym c.is_array.ensures ∙ c.if-is_array.true)) in
    search (rules, answer)

pub returns-then-is_own : goal.returns-then-is_own
returns-then-is_own g c = λ t name is of.
    let same = one_type c.args.types.now c.args.object t (type_of c.vtype-t.result) is c.vtype-t.ensures in
    let answer = own_answer c.args.types.now.classes name t (ap is_uninit_this same ∙ (sym c.is_own.ensures.own ∙ c.if-is_own.true)) in
    search (rules, answer)

pub returns : goal.returns
returns g c = λ t name is of.
    let same = one_type c.args.types.now c.args.object t (type_of c.vtype-t.result) is c.vtype-t.ensures in
    let no_array = ap is_array_type same ∙ (sym c.is_array.ensures ∙ c.if-is_array.false) in
    let not_own = ap is_uninit_this same ∙ (sym c.is_own.ensures.own ∙ c.if-is_own.false) in
    c.assignable.ensures t (class name) is of ∙ sym (other_answer c.args.types.now.classes name t no_array not_own)
