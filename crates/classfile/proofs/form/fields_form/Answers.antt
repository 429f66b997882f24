use Rattle.std.proofs.Common.{◌≡◌, ◌∙◌, ◌≤◌, refl, sym, ap, subst, Some, List, [], ◌∷◌, ◌++◌, length, take, map, arith}
use Rattle.std.specs.Prelude.{slice_get}
use Rattle.std.proofs.lemmas.List.{length-map, take-map}
use Rattle.classfile.specs.declared.form_fault.Place.TheVariants as places
use Rattle.classfile.specs.private.DuplicateFinder.{WereMet}
use Rattle.classfile.specs.MemberForm.{is_repeated}
use Rattle.classfile.specs.Values.{Member}
use Rattle.classfile.specs.Views.{class_view, member_view}
use Rattle.classfile.proofs.Places.{field_told, field_past, viewed_at, take_one_more, none_more, none_at_all}
use Rattle.classfile.proofs.form.fields_form.Goals as goal

pub returns-in-Some-clause-passes : goal.returns-in-Some-clause-passes
returns-in-Some-clause-passes c =
    let k = class_view c.args.class.now in
    let n = c.loop-n.n in
    let m = member_view c.field-item.result in
    let met = c.in_ok-repeated.ensures in
    let before : List Member = take n k.fields in
    let same : map member_view (take n c.deref.result.now) ≡ before = ap (λ l. map member_view (take n l)) c.deref.ensures.value ∙ sym (take-map member_view n c.args.class.now.fields.items) in
    let repeats : c.in_ok-repeated.repeated ≡ is_repeated k.constant_pool before m = met.repeats ∙ ap (λ l. is_repeated k.constant_pool l m) same in
    let here : slice_get k.fields n ≡ Some m =
    ap (λ l. slice_get (map member_view l) n) (sym c.deref-field-items.ensures.value) ∙ viewed_at member_view c.deref-field-items.result.now n c.field-item.result c.loop-n-test.true c.field-item.is in
    (n, refl, field_told k n m c.in_ok-repeated.repeated here repeats ∙ sym c.field_told.ensures.told ∙ c.in-Some.is, c.loop-n.invariant.none)

pub loop-n-preserved : goal.loop-n-preserved
loop-n-preserved c =
    let k = class_view c.args.class.now in
    let n = c.loop-n.n in
    let m = member_view c.field-item.result in
    let met = c.in_ok-repeated.ensures in
    let before : List Member = take n k.fields in
    let same : map member_view (take n c.deref.result.now) ≡ before = ap (λ l. map member_view (take n l)) c.deref.ensures.value ∙ sym (take-map member_view n c.args.class.now.fields.items) in
    let repeats : c.in_ok-repeated.repeated ≡ is_repeated k.constant_pool before m = met.repeats ∙ ap (λ l. is_repeated k.constant_pool l m) same in
    let here : slice_get k.fields n ≡ Some m =
    ap (λ l. slice_get (map member_view l) n) (sym c.deref-field-items.ensures.value) ∙ viewed_at member_view c.deref-field-items.result.now n c.field-item.result c.loop-n-test.true c.field-item.is in
    record {
      kept = c.field_told.ensures.kept;
      met = subst (λ l. WereMet k.constant_pool l c.meet.new.self) (sym (take_one_more k.fields n m here)) (subst (λ l. WereMet k.constant_pool (l ++ m ∷ []) c.meet.new.self) same met.met);
      none = none_more k (λ i. places.Field i) n c.loop-n.invariant.none (field_told k n m c.in_ok-repeated.repeated here repeats ∙ sym c.field_told.ensures.told ∙ c.in_default.is);
    }

pub returns-clause-passes : goal.returns-clause-passes
returns-clause-passes c =
    let k = class_view c.args.class.now in
    let all : length k.fields ≤ c.loop-n.n = omega (arith, ap length c.deref-field-items.ensures.value, length-map c.args.class.now.fields.items member_view) in
    none_at_all k (λ n. places.Field n) k.fields (field_past k) c.loop-n.n all c.loop-n.invariant.none

pub meet-requires : goal.meet-requires
meet-requires c =
    let k = class_view c.args.class.now in
    let n = c.loop-n.n in
    let same : map member_view (take n c.deref.result.now) ≡ take n k.fields = ap (λ l. map member_view (take n l)) c.deref.ensures.value ∙ sym (take-map member_view n c.args.class.now.fields.items) in
    subst (λ l. WereMet k.constant_pool l c.loop-n.seen) (sym same) c.loop-n.invariant.met
