use Rattle.std.proofs.Common.{rules, tests, ◌≡◌, ◌∙◌, ℕ, Bool, ◌||◌, map}
use Rattle.std.specs.List.{list_any}
use Rattle.std.proofs.lemmas.Iterator.{YieldsList-from_slice}
use Rattle.std.proofs.lemmas.Iterator.Search.{any_from_yields_List}
use Rattle.classfile.specs.ClassForm.{interfaces_have_bad, interfaces_have_other}
use Rattle.classfile.specs.Indices.{is_bad, is_other}
use Rattle.classfile.specs.declared.indices.ConstantKind.TheVariants as kinds
use Rattle.classfile.proofs.Tables.{any_viewed, any_either}
use Rattle.classfile.proofs.class_form.interfaces_have_fault.Goals as goal

pub returns : goal.returns
unfolding interfaces_have_bad interfaces_have_other
returns c =
    let xs = c.args.interfaces.now in
    let bad : ℕ → Bool = is_bad c.args.pool.now in
    let other : ℕ → Bool = is_other c.args.pool.now kinds.Class in
    let view : ℕ → ℕ = λ n. n in
    let e : c.any.result ≡ list_any (λ n. bad n || other n) xs =
    any_from_yields_List (λ n. bad n || other n) _ _ c.any.result c.any.ensures.ran (YieldsList-from_slice xs cc) (λ x b q k. search (rules, tests)) in
    e ∙ any_viewed (λ n. bad n || other n) view xs ∙ any_either bad other (map view xs)
