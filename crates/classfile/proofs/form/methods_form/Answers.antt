use Rattle.std.proofs.Common.{◌≡◌, ◌∙◌, ◌≤◌, refl, sym, ap, subst, Some, List, [], ◌∷◌, ◌++◌, length, take, map, arith}
use Rattle.std.specs.Prelude.{slice_get}
use Rattle.std.proofs.lemmas.List.{length-map, take-map}
use Rattle.classfile.specs.declared.form_fault.Place.TheVariants as places
use Rattle.classfile.specs.private.DuplicateFinder.{WereMet}
use Rattle.classfile.specs.MemberForm.{is_repeated}
use Rattle.classfile.specs.Values.{Member}
use Rattle.classfile.specs.Views.{class_view, member_view}
use Rattle.classfile.proofs.Places.{method_told, method_past, viewed_at, take_one_more, none_more, none_at_all}
use Rattle.classfile.proofs.form.methods_form.Goals as goal

pub returns-in-Some : goal.returns-in-Some
returns-in-Some c =
    let k = class_view c.args.class.now in
    let n = c.loop-n.n in
    let m = member_view c.method-item.result in
    let met = c.in_ok-repeated.ensures in
    let before : List Member = take n k.methods in
    let same : map member_view (take n c.deref.result.now) ≡ before = ap (λ l. map member_view (take n l)) c.deref.ensures.value ∙ sym (take-map member_view n c.args.class.now.methods.items) in
    let repeats : c.in_ok-repeated.repeated ≡ is_repeated k.constant_pool before m = met.repeats ∙ ap (λ l. is_repeated k.constant_pool l m) same in
    let here : slice_get k.methods n ≡ Some m =
    ap (λ l. slice_get (map member_view l) n) (sym c.deref-method-items.ensures.value) ∙ viewed_at member_view c.deref-method-items.result.now n c.method-item.result c.loop-n-test.true c.method-item.is in
    (n, refl, method_told k n m c.in_ok-repeated.repeated here repeats ∙ sym c.in_ok-rule.ensures.told ∙ c.in-Some.is, c.loop-n.invariant.none)

pub loop-n-preserved : goal.loop-n-preserved
loop-n-preserved c =
    let k = class_view c.args.class.now in
    let n = c.loop-n.n in
    let m = member_view c.method-item.result in
    let met = c.in_ok-repeated.ensures in
    let before : List Member = take n k.methods in
    let same : map member_view (take n c.deref.result.now) ≡ before = ap (λ l. map member_view (take n l)) c.deref.ensures.value ∙ sym (take-map member_view n c.args.class.now.methods.items) in
    let repeats : c.in_ok-repeated.repeated ≡ is_repeated k.constant_pool before m = met.repeats ∙ ap (λ l. is_repeated k.constant_pool l m) same in
    let here : slice_get k.methods n ≡ Some m =
    ap (λ l. slice_get (map member_view l) n) (sym c.deref-method-items.ensures.value) ∙ viewed_at member_view c.deref-method-items.result.now n c.method-item.result c.loop-n-test.true c.method-item.is in
    record {
      kept = c.method_told.ensures.kept;
      met = subst (λ l. WereMet k.constant_pool l c.meet.new.self) (sym (take_one_more k.methods n m here)) (subst (λ l. WereMet k.constant_pool (l ++ m ∷ []) c.meet.new.self) same met.met);
      none = none_more k (λ i. places.Method i) n c.loop-n.invariant.none (method_told k n m c.in_ok-repeated.repeated here repeats ∙ sym c.in_ok-rule.ensures.told ∙ c.in_default.is);
    }

pub returns : goal.returns
returns c =
    let k = class_view c.args.class.now in
    let all : length k.methods ≤ c.loop-n.n = omega (arith, ap length c.deref-method-items.ensures.value, length-map c.args.class.now.methods.items member_view) in
    none_at_all k (λ n. places.Method n) k.methods (method_past k) c.loop-n.n all c.loop-n.invariant.none

pub meet-requires : goal.meet-requires
meet-requires c =
    let k = class_view c.args.class.now in
    let n = c.loop-n.n in
    let same : map member_view (take n c.deref.result.now) ≡ take n k.methods = ap (λ l. map member_view (take n l)) c.deref.ensures.value ∙ sym (take-map member_view n c.args.class.now.methods.items) in
    subst (λ l. WereMet k.constant_pool l c.loop-n.seen) (sym same) c.loop-n.invariant.met
