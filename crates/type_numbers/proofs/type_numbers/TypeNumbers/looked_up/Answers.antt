use Rattle.std.proofs.Common.{◌≡◌, ◌∙◌, Some, false, ap, sym, subst}
use Rattle.hierarchy.specs.Answer.{SubclassAnswer, yes_if}
use Rattle.hierarchy.specs.Class.{interface_of}
use Rattle.hierarchy.specs.Places.{place_in}
use Rattle.type_numbers.specs.Numbers.{Numbering}
use Rattle.type_numbers.proofs.PlacedClasses.{absent_answer, is_absent, lower_absent, lower_present, stands}
use Rattle.type_numbers.proofs.type_numbers.TypeNumbers.looked_up.Goals as goal

pub returns-then-to-ne-CLASS : goal.returns-then-to-ne-CLASS
returns-then-to-ne-CLASS g c = λ x y a b differ.
    let s = c.args.self.now in
    c.missing.ensures y b ∙ absent_answer s.classes x y (is_absent s c.args.to.tag c.args.to.rest y b c.if-to-ne-CLASS.true)

pub returns-then-from-ne-CLASS : goal.returns-then-from-ne-CLASS
returns-then-from-ne-CLASS g c = λ x y a b differ.
    let s = c.args.self.now in
    let same = ap (λ (n : Numbering). n.classes) c.self.view_is in
    let place = ap (λ cs. place_in cs y) same ∙ stands s c.args.to.tag c.args.to.rest y b c.if-to-ne-CLASS.false in
    let flat : interface_of s.classes y ≡ Some false =
    sym (ap (λ cs. interface_of cs y) same) ∙ c.is_interface_at.ensures y place ∙ ap (λ t. Some t) c.if-is_interface_at.false in
    c.missing-then-from-ne-CLASS.ensures x a ∙ lower_absent s.classes x y differ flat (is_absent s c.args.from.tag c.args.from.rest x a c.if-from-ne-CLASS.true)

pub returns : goal.returns
returns g c = λ x y a b differ.
    let s = c.args.self.now in
    let same = ap (λ (n : Numbering). n.classes) c.self.view_is in
    let lower = ap (λ cs. place_in cs x) same ∙ stands s c.args.from.tag c.args.from.rest x a c.if-from-ne-CLASS.false in
    let upper = ap (λ cs. place_in cs y) same ∙ stands s c.args.to.tag c.args.to.rest y b c.if-to-ne-CLASS.false in
    let flat : interface_of s.classes y ≡ Some false =
    sym (ap (λ cs. interface_of cs y) same) ∙ c.is_interface_at.ensures y upper ∙ ap (λ t. Some t) c.if-is_interface_at.false in
    let below = subst (λ cs. SubclassAnswer cs x y (yes_if c.is_below.result)) same (c.is_below.ensures x y lower upper) in
    c.yes_if.ensures ∙ lower_present s.classes x y c.is_below.result flat below
