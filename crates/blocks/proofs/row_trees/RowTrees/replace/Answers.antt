use Rattle.std.proofs.Common.{◌≡◌, ◌∙◌, length, map, ap, subst, rules}
use Rattle.blocks.specs.Rows.{Rows, replaced}
use Rattle.blocks.specs.private.Arenas.{row_of, IsWholeArena}
use Rattle.blocks.proofs.Outcomes.{all_replaced, same_itself}
use Rattle.blocks.proofs.Shared.{grown_arena, grown_rows, same_inside, same_level, same_rest, same_row, other_level, other_rest, other_row}
use Rattle.blocks.proofs.row_trees.RowTrees.replace.Goals as goal

pub replace-root-requires-clause-replaced : goal.replace-root-requires-clause-replaced
replace-root-requires-clause-replaced c =
    let a = c.self.inside in
    all_replaced a.nodes.items a.nodes.items a.own (length a.nodes.items) a.replacements (same_itself a.nodes.items a.own) c.self.invariant.arena.tree.within c.self.invariant.replaced

pub invariant_of-self : goal.invariant_of-self
invariant_of-self c =
    let a = c.self.inside in
    let ms = c.replace-root.new.nodes.items in
    let g = c.replace-root.ensures.grown in
    let i = c.self.invariant.arena in
    let long : length ms ≡ c.len.result = search rules in
    subst (λ n. IsWholeArena ms n a.root a.kept a.count a.declared.items c.replace-root.new.self) long
    (record {
      arena =
          grown_arena a.nodes.items ms a.own a.root a.kept a.count a.declared.items i g a.root
          (same_inside a.nodes.items ms a.own a.root a.kept a.count a.declared.items i g)
          (same_level a.nodes.items ms a.own a.root a.kept a.count a.declared.items i g)
          (same_rest a.nodes.items ms a.own a.root a.kept a.count a.declared.items i g);
      replaced = c.replace-root.ensures.replaced;
    })

pub returns-in_err-self-inside-clause-err : goal.returns-in_err-self-inside-clause-err
returns-in_err-self-inside-clause-err c =
    let a = c.self.inside in
    let ms = c.replace-root.new.nodes.items in
    let g = c.replace-root.ensures.grown in
    let i = c.self.invariant.arena in
    let same =
    grown_rows a.nodes.items ms a.own a.root a.kept a.count a.declared.items i g a.root
    (same_inside a.nodes.items ms a.own a.root a.kept a.count a.declared.items i g)
    (same_level a.nodes.items ms a.own a.root a.kept a.count a.declared.items i g)
    (same_rest a.nodes.items ms a.own a.root a.kept a.count a.declared.items i g)
    (row_of a.nodes.items a.count a.root)
    (same_row a.nodes.items ms a.own a.root a.kept a.count a.declared.items i g)
    ∙ c.self.view_is in
    search rules

pub invariant_of-self-2 : goal.invariant_of-self-2
invariant_of-self-2 c =
    let a = c.self.inside in
    let ms = c.replace-root.new.nodes.items in
    let g = c.replace-root.ensures.grown in
    let i = c.self.invariant.arena in
    let now = c.in_ok-self-inside.field-0 in
    let is = c.in_ok-self-inside.ensures.ok in
    let long : length ms ≡ c.len.result = search rules in
    subst (λ n. IsWholeArena ms n now a.kept a.count a.declared.items c.replace-root.new.self) long
    (record {
      arena =
          grown_arena a.nodes.items ms a.own a.root a.kept a.count a.declared.items i g now is.inside
          (other_level a.nodes.items ms a.own a.root a.kept a.count a.declared.items i g c.args.number c.args.by now is c.requires)
          (other_rest a.nodes.items ms a.own a.root a.kept a.count a.declared.items i g c.args.number c.args.by now is c.requires);
      replaced = c.replace-root.ensures.replaced;
    })

pub returns-clause-ok : goal.returns-clause-ok
returns-clause-ok c =
    let a = c.self.inside in
    let ms = c.replace-root.new.nodes.items in
    let g = c.replace-root.ensures.grown in
    let i = c.self.invariant.arena in
    let now = c.in_ok-self-inside.field-0 in
    let is = c.in_ok-self-inside.ensures.ok in
    grown_rows a.nodes.items ms a.own a.root a.kept a.count a.declared.items i g now is.inside
    (other_level a.nodes.items ms a.own a.root a.kept a.count a.declared.items i g c.args.number c.args.by now is c.requires)
    (other_rest a.nodes.items ms a.own a.root a.kept a.count a.declared.items i g c.args.number c.args.by now is c.requires)
    (map (replaced c.args.number c.args.by) (row_of a.nodes.items a.count a.root))
    (other_row a.nodes.items ms a.own a.root a.kept a.count a.declared.items i g c.args.number c.args.by now is c.requires)
    ∙ ap (λ (r : Rows). let x : Rows = record r { running = map (replaced c.args.number c.args.by) r.running } in x) c.self.view_is
