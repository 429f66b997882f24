use Rattle.std.proofs.Common.{◌≡◌, ◌∙◌, ℕ, ◌/◌, ◌%◌, true, sym, ap, subst}
use Rattle.frames.specs.Assignable.{type_answer}
use Rattle.type_numbers.specs.Numbers.{IsNumber}
use Rattle.type_numbers.specs.Decoding.{type_named}
use Rattle.type_numbers.specs.private.ClassesAt.{names_class, IsClassAt}
use Rattle.type_numbers.proofs.LawsOfNumbers.{one_number}
use Rattle.type_numbers.proofs.PlacedClasses.{class_at, named_answer}
use Rattle.type_numbers.proofs.type_numbers.TypeNumbers.classes_assignable.Goals as goal

pub class_answer-requires-clause-from : goal.class_answer-requires-clause-from
class_answer-requires-clause-from g c =
    let s = c.args.self.now in
    let (t, is) = c.requires.from in
    let x = class_at s c.args.from t is (ap names_class (sym c.of-one.ensures.tag) ∙ sym c.names_class.ensures ∙ c.if-names_class.true) in
    (x.0, subst (λ k. IsClassAt s k c.of-one.result.rest x.0) (sym c.of-one.ensures.tag) (subst (λ k. IsClassAt s (c.args.from / 16777216) k x.0) (sym c.of-one.ensures.rest) x.2))

pub class_answer-requires-clause-to : goal.class_answer-requires-clause-to
class_answer-requires-clause-to g c =
    let s = c.args.self.now in
    let (u, is) = c.requires.to in
    let y = class_at s c.args.to u is (ap names_class (sym c.of-other.ensures.tag) ∙ sym c.names_class-then-names_class.ensures ∙ c.if-names_class-2.true) in
    (y.0, subst (λ k. IsClassAt s k c.of-other.result.rest y.0) (sym c.of-other.ensures.tag) (subst (λ k. IsClassAt s (c.args.to / 16777216) k y.0) (sym c.of-other.ensures.rest) y.2))

pub returns-then-names_class-2 : goal.returns-then-names_class-2
returns-then-names_class-2 g c = λ t u a b.
    let s = c.args.self.now in
    let one = c.of-one.ensures in
    let other = c.of-other.ensures in
    let x = class_at s c.args.from t a (ap names_class (sym one.tag) ∙ sym c.names_class.ensures ∙ c.if-names_class.true) in
    let y = class_at s c.args.to u b (ap names_class (sym other.tag) ∙ sym c.names_class-then-names_class.ensures ∙ c.if-names_class-2.true) in
    let left = subst (λ k. IsClassAt s k c.of-one.result.rest x.0) (sym one.tag) (subst (λ k. IsClassAt s (c.args.from / 16777216) k x.0) (sym one.rest) x.2) in
    let right = subst (λ k. IsClassAt s k c.of-other.result.rest y.0) (sym other.tag) (subst (λ k. IsClassAt s (c.args.to / 16777216) k y.0) (sym other.rest) y.2) in
    let dims : c.args.from / 65536 % 256 ≡ c.args.to / 65536 % 256 = sym one.dims ∙ c.if-one-other.true ∙ other.dims in
    let first : t ≡ type_named (c.args.to / 65536 % 256) x.0 = x.1 ∙ ap (λ d. type_named d x.0) dims in
    let differ : x.0 ≡ y.0 → ⊥ = λ e.
    c.requires.differ (one_number s c.args.from c.args.to u (subst (IsNumber s c.args.from) (first ∙ ap (type_named (c.args.to / 65536 % 256)) e ∙ sym y.1) a) b) in
    c.class_answer.ensures x.0 y.0 left right differ
    ∙ sym ((λ i. type_answer s.classes (first i) (y.1 i)) ∙ named_answer s.classes (c.args.to / 65536 % 256) x.0 y.0)
