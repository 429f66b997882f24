use Rattle.std.proofs.Common.{◌≡◌, ◌∙◌, Bool, true, false, not, get_or, inl, inr, refl, ap, subst, arith}
use Rattle.std.specs.Prelude.{IsTrue}
use Rattle.std.proofs.lemmas.Bool.{cases_lt}
use Rattle.blocks.specs.private.Trees.{level_of, IsFirstUnequalBelow}
use Rattle.blocks.specs.Rows.{declared_row, AreEqualBetween}
use Rattle.blocks.proofs.Arenas.{equal_rows}
use Rattle.blocks.proofs.row_trees.RowTrees.are_equal.Goals as goal

not_not : (b : Bool) → not (not b) ≡ b
not_not true = refl
not_not false = refl

pub returns : goal.returns
returns c =
    let a = c.self.inside in
    let rows = c.args.self.now in
    let id = c.root_of-root.result in
    let beside = c.root_of-beside.result in
    let from = c.args.from in
    let to = c.args.to in
    let end = c.min-end.result in
    let is = c.min-end.ensures in
    let root : id ≡ get_or a.declared.items c.args.row 0 = c.root_of-root.ensures ∙ ap (λ ids. get_or ids c.args.row 0) c.deref.ensures.value in
    let there : beside ≡ get_or a.declared.items c.args.other 0 = c.root_of-beside.ensures ∙ ap (λ ids. get_or ids c.args.other 0) c.deref-2.ensures.value in
    let both =
    equal_rows a.nodes.items a.own a.root a.kept a.count a.declared.items rows c.self.invariant.arena c.self.view_is c.args.row id c.args.other beside c.requires.row root c.requires.other there
    from to end (omega (arith, is)) (omega (arith, is))
    (elim (cases_lt a.count to) [
      | inl lt ↦ inr (omega (arith, is, lt))
      | inr le ↦ inl (omega (arith, is, le))
    ]) c.first_unequal_below.result
    (subst (λ ns. IsFirstUnequalBelow ns (level_of ns id) id beside from end c.first_unequal_below.result) c.deref-3.ensures.value c.first_unequal_below.ensures) in
    subst (λ b. (IsTrue b → AreEqualBetween (declared_row rows c.args.row) (declared_row rows c.args.other) from to)
    × (AreEqualBetween (declared_row rows c.args.row) (declared_row rows c.args.other) from to → IsTrue b)) (ap not c.is_none.ensures ∙ not_not c.is_none.result) both
