use Rattle.std.proofs.Common.{◌≡◌, ◌∙◌, ◌+◌, ◌*◌, ◌-◌, ap, sym, List, ℕ, arith, slice_get}
use Rattle.std.specs.Borrow.{Bor}
use Rattle.std.specs.Option.{option_map}
use Rattle.type_numbers.specs.Numbers.{Numbering, present_at}
use Rattle.type_numbers.proofs.Decoded.{present_name, absent_name}
use Rattle.type_numbers.proofs.Noted.{pair_at}
use Rattle.type_numbers.proofs.type_numbers.TypeNumbers.name_at.Goals as goal

pub returns-then-tag-eq-CLASS : goal.returns-then-tag-eq-CLASS
returns-then-tag-eq-CLASS g c =
    ap (option_map (λ (n : Bor (List ℕ)). n.now)) (c.copied.ensures ∙ c.get.ensures.value) ∙ sym (pair_at c.self.inside.present c.args.rest)
    ∙ ap (λ (s : Numbering). present_at s c.args.rest) c.self.view_is
    ∙ sym (present_name c.args.self.now c.args.tag c.args.rest c.if-tag-eq-CLASS.true)

pub returns : goal.returns
returns g c =
    let at : c.from.result * 65536 + c.from-2.result ≡ (c.args.tag - 10) * 65536 + c.args.rest = omega (arith, c.from.ensures, c.from-2.ensures, c.saturating_sub.ensures) in
    c.get-2.ensures ∙ ap (slice_get c.self.inside.absent) at
    ∙ ap (λ (s : Numbering). slice_get s.absent ((c.args.tag - 10) * 65536 + c.args.rest)) c.self.view_is
    ∙ sym (absent_name c.args.self.now c.args.tag c.args.rest c.if-tag-eq-CLASS.false)
