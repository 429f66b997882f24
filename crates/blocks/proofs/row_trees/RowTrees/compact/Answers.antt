use Rattle.std.proofs.Common.{◌≡◌, ◌∙◌, [], inr, length, subst, sym, ap, arith, rules}
use Rattle.blocks.specs.private.Arenas.{rows_of, IsArena, IsWholeArena}
use Rattle.blocks.specs.private.Compacting.{IsSameIn, AreSameIn, AreCopiesOf}
use Rattle.blocks.proofs.Compacted.{compact_arena, compact_rows, still_same, grows_on}
use Rattle.blocks.proofs.Outcomes.{none_replaced}
use Rattle.blocks.proofs.row_trees.RowTrees.compact.Goals as goal

pub invariant_of-self : goal.invariant_of-self
invariant_of-self c =
    let a = c.self.inside in
    let ns = a.nodes.items in
    let m = c.copy.new.self.nodes.items in
    let ls = c.copy-2.new.self.nodes.items in
    let ms = c.copy_all.new.self.nodes.items in
    let ids = c.in_ok-declared.declared.items in
    let root =
    still_same ns m ms a.root c.in_ok-root.root c.copy.ensures.copies.fresh.forest (grows_on m ls ms c.copy-2.ensures.grown c.copy_all.ensures.grown)
    (subst (λ xs. IsSameIn xs m a.root c.in_ok-root.root) c.deref.ensures.value c.in_ok-root.ensures.ok) in
    let kept =
    still_same ns ls ms a.kept c.in_ok-kept.kept c.copy-2.ensures.copies.fresh.forest c.copy_all.ensures.grown
    (subst (λ xs. IsSameIn xs ls a.kept c.in_ok-kept.kept) c.deref-2.ensures.value c.in_ok-kept.ensures.ok) in
    let declared =
    subst (λ xs. AreSameIn ns ms xs ids) c.deref-4.ensures.value (subst (λ xs. AreSameIn xs ms c.deref-4.result.now ids) c.deref-3.ensures.value c.in_ok-declared.ensures.ok) in
    let long : length ms ≡ c.len-2.result = search rules in
    record {
      arena =
          subst (λ n. IsArena ms n c.in_ok-root.root c.in_ok-kept.kept a.count ids) long
          (compact_arena ns ms a.own a.root a.kept a.count a.declared.items ids c.in_ok-root.root c.in_ok-kept.kept c.self.invariant.arena c.copy_all.ensures.copies.fresh root kept declared);
      replaced = none_replaced ms c.len-2.result c.clear.new.self c.clear.ensures;
    }

pub returns : goal.returns
returns c =
    let a = c.self.inside in
    let ns = a.nodes.items in
    let m = c.copy.new.self.nodes.items in
    let ls = c.copy-2.new.self.nodes.items in
    let ms = c.copy_all.new.self.nodes.items in
    let ids = c.in_ok-declared.declared.items in
    let root =
    still_same ns m ms a.root c.in_ok-root.root c.copy.ensures.copies.fresh.forest (grows_on m ls ms c.copy-2.ensures.grown c.copy_all.ensures.grown)
    (subst (λ xs. IsSameIn xs m a.root c.in_ok-root.root) c.deref.ensures.value c.in_ok-root.ensures.ok) in
    let kept =
    still_same ns ls ms a.kept c.in_ok-kept.kept c.copy-2.ensures.copies.fresh.forest c.copy_all.ensures.grown
    (subst (λ xs. IsSameIn xs ls a.kept c.in_ok-kept.kept) c.deref-2.ensures.value c.in_ok-kept.ensures.ok) in
    let declared =
    subst (λ xs. AreSameIn ns ms xs ids) c.deref-4.ensures.value (subst (λ xs. AreSameIn xs ms c.deref-4.result.now ids) c.deref-3.ensures.value c.in_ok-declared.ensures.ok) in
    inr (compact_rows ns ms a.own a.root a.kept a.count a.declared.items ids c.in_ok-root.root c.in_ok-kept.kept c.self.invariant.arena c.copy_all.ensures.copies.fresh root kept declared
    c.args.self.now c.self.view_is)
