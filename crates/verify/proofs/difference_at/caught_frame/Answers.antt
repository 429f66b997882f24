use Rattle.std.proofs.Common.{◌≡◌, ◌∷◌, [], ◌++◌, List, map, ap, sym, subst, ◌∙◌}
use Rattle.std.specs.Prelude.{reverse}
use Rattle.frames.specs.declared.vtype.VType.{VType}
use Rattle.frames.specs.FrameFact.{FrameFact, frame_of}
use Rattle.frames.specs.VerificationType.{VerificationType, type_of}
use Rattle.type_numbers.specs.Numbers.{Numbering, IsNumber}
use Rattle.type_numbers.specs.Decoding.{type_by}
use Rattle.type_numbers.proofs.Decoded.{number_read}
use Rattle.rules.specs.After.{with_stack}
use Rattle.verify.proofs.difference_at.caught_frame.Goals as goal

pub returns : goal.returns
returns g c =
    let s = c.args.frames.now.types in
    let caught = c.args.caught in
    let v = c.vtype.result in
    let f = frame_of c.in_ok-frame.frame in
    let number = subst (λ (z : Numbering). IsNumber z caught (type_of v)) c.types.ensures c.vtype.ensures in
    let stack : c.push.new.self.items ≡ v ∷ [] = c.in_ok-push.ensures.items ∙ ap (λ (l : List VType). l ++ v ∷ []) c.clear.ensures.items in
    let alone : with_stack f (reverse (map type_of c.push.new.self.items)) ≡ with_stack f (type_of v ∷ []) = ap (λ (l : List VType). with_stack f (reverse (map type_of l))) stack in
    alone
    ∙ ap (λ (t : VerificationType). with_stack f (t ∷ [])) (sym (number_read s caught (type_of v) number))
    ∙ ap (λ (x : FrameFact). with_stack x (type_by s caught ∷ [])) c.in_ok-frame.ensures
