use Rattle.std.proofs.Common.{◌≡◌, ◌∙◌, [], ◌∷◌, refl, sym, ap, subst, Some}
use Rattle.std.proofs.lemmas.Bool.{cond-true, cond-false}
use Rattle.std.proofs.lemmas.List.Elements.{All-nil, All-cons}
use Rattle.names.specs.ReferenceTypes.{class_type}
use Rattle.pool.specs.ConstantMeanings.{field_at}
use Rattle.frames.specs.Slots.{descriptor_type}
use Rattle.frames.specs.VerificationType.{class}
use Rattle.rules.specs.Bodies.{method_view}
use Rattle.rules.specs.Constants.{put_field, target_of}
use Rattle.rules.specs.Naming.{is_own}
use Rattle.rules.specs.TypingRules.{takes, expected_class, expected_of, own_or_assignable_to}
use Rattle.rules.specs.declared.reason.Reason.TheVariants.{WrongConstant}
use Rattle.rules.proofs.Settling.{by_typing_rule}
use Rattle.numbered_rules.specs.Expected.{IsExpected, StandsFor}
use Rattle.numbered_rules.specs.RunningFrame.{held}
use Rattle.numbered_rules.specs.declared.expected.Expected.TheVariants.{Assignable, OwnOr}
use Rattle.numbered_rules.specs.private.Named.{IsFieldOf}
use Rattle.numbered_rules.proofs.Judging.{refused}
use Rattle.numbered_rules.proofs.Naming.{names_field, names_no_field}
use Rattle.numbered_rules.proofs.Standing.{type_stands, own_stands, descriptor_stands}
use Rattle.numbered_rules.proofs.fields.put_field.Goals.{then-own, else-own}
use Rattle.numbered_rules.proofs.fields.put_field.Goals as goal

pub returns-in_default-clause-done : goal.returns-in_default-clause-done
returns-in_default-clause-done g c = λ at.
    let s = c.args.frames.now.types in
    let m = method_view c.args.method.now in
    let f = held c.args.frames.now in
    let o = field_at m.constant_pool c.args.index in
    refused m at (put_field m o) 66 WrongConstant s.classes f f
    (ap (put_field m) (names_no_field s o (subst (λ n. IsFieldOf s n o) c.in_default.is (c.field_at.ensures s m.constant_pool c.requires.table)))) refl

pub pops-requires-clause-asked : goal.pops-requires-clause-asked
pops-requires-clause-asked g c =
    let s = c.args.frames.now.types in
    let m = method_view c.args.method.now in
    let o = field_at m.constant_pool c.args.index in
    let x = names_field s c.in-Some.field o (c.in-Some.ensures s m.constant_pool c.requires.table) in
    let n = c.in-Some.field.class in
    let target : IsExpected s c.if-own.target = elim c.if-own.branch [
      | then-own w ↦ subst (IsExpected s) (sym w.target-is) (class x.field.class, x.parts.class)
      | else-own w ↦ subst (IsExpected s) (sym w.target-is) (class x.field.class, x.parts.class)
    ] in
    All-cons (IsExpected s) (Assignable c.in-Some.field.held) (c.if-own.target ∷ []) (descriptor_type x.field.type, x.parts.held) (All-cons (IsExpected s) c.if-own.target [] target (All-nil (IsExpected s)))

pub returns-clause-done : goal.returns-clause-done
returns-clause-done g c = λ at.
    let s = c.args.frames.now.types in
    let m = method_view c.args.method.now in
    let f = held c.args.frames.now in
    let o = field_at m.constant_pool c.args.index in
    let x = names_field s c.in-Some.field o (c.in-Some.ensures s m.constant_pool c.requires.table) in
    let n = c.in-Some.field.class in
    let name = x.field.class in
    let own = is_own m (Some x.field) in
    let told : own ≡ c.args.own = sym (c.requires.own ∙ ap (is_own m) x.is) in
    let target : StandsFor s c.if-own.target (target_of m x.field) = elim c.if-own.branch [
      | then-own w ↦
          subst (λ e. StandsFor s e (target_of m x.field)) (sym w.target-is)
          (subst (StandsFor s (OwnOr n)) (sym (cond-true own (own_or_assignable_to name) (expected_class name) (told ∙ w.if-own.true))) (own_stands s n name x.parts.class))
      | else-own w ↦
          subst (λ e. StandsFor s e (target_of m x.field)) (sym w.target-is)
          (subst (StandsFor s (Assignable n)) (sym (cond-false own (own_or_assignable_to name) (expected_class name) (told ∙ w.if-own.false))) (type_stands s n (class_type name) x.parts.class))
    ] in
    let ws = expected_of x.field.type ∷ target_of m x.field ∷ [] in
    by_typing_rule m at (put_field m o) (takes ws) s.classes f (held c.pops.new.frames) c.pops.result
    (ap (put_field m) x.is) (c.pops.ensures.done ws (descriptor_stands s c.in-Some.field.held x.field.type x.parts.held, (target, tt)))
