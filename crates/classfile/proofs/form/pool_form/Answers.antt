use Rattle.std.proofs.Common.{◌≡◌, ◌∙◌, ◌+◌, ◌≤◌, refl, sym, ap, Some, length, arith}
use Rattle.std.proofs.lemmas.List.{length-map}
use Rattle.std.specs.Prelude.{slice_get}
use Rattle.pool.specs.Views.{view}
use Rattle.classfile.specs.declared.form_fault.Place.TheVariants as places
use Rattle.classfile.specs.Views.{class_view}
use Rattle.classfile.proofs.Places.{entry_is, entry_past, viewed_at, none_more, none_at_all, earlier_entries, all_entries}
use Rattle.classfile.proofs.form.pool_form.Goals as goal

pub returns-in-Some-clause-passes : goal.returns-in-Some-clause-passes
returns-in-Some-clause-passes c =
    let k = class_view c.args.class.now in
    let at = c.loop-place.place in
    let constants = c.constants-constant-items in
    let here : slice_get k.constant_pool at ≡ Some (view c.constant-item.result) =
    ap (λ l. slice_get l at) (sym constants.ensures) ∙ viewed_at view constants.result.now at c.constant-item.result c.loop-place-test.true c.constant-item.is in
    (at + 1, refl, entry_is k at (view c.constant-item.result) here ∙ sym c.in_ok-rule.ensures.told ∙ c.in-Some.is, earlier_entries k at c.loop-place.invariant.none)

pub loop-place-preserved : goal.loop-place-preserved
loop-place-preserved c =
    let k = class_view c.args.class.now in
    let at = c.loop-place.place in
    let constants = c.constants-constant-items in
    let here : slice_get k.constant_pool at ≡ Some (view c.constant-item.result) =
    ap (λ l. slice_get l at) (sym constants.ensures) ∙ viewed_at view constants.result.now at c.constant-item.result c.loop-place-test.true c.constant-item.is in
    record {
      kept = c.entry_told.ensures.kept;
      same = c.entry_told.ensures.same ∙ c.loop-place.invariant.same;
      none = none_more k (λ n. places.Pool (n + 1)) at c.loop-place.invariant.none (entry_is k at (view c.constant-item.result) here ∙ sym c.in_ok-rule.ensures.told ∙ c.in_default.is);
    }

pub returns-clause-passes : goal.returns-clause-passes
returns-clause-passes c =
    let k = class_view c.args.class.now in
    let constants = c.constants-constant-items in
    let all : length k.constant_pool ≤ c.loop-place.place = omega (arith, ap length constants.ensures, length-map constants.result.now view) in
    all_entries k (none_at_all k (λ n. places.Pool (n + 1)) k.constant_pool (entry_past k) c.loop-place.place all c.loop-place.invariant.none)
