use Rattle.std.proofs.Common.{◌≡◌, ◌∙◌, ◌<◌, length, take, get_or, sym, ap, subst, arith}
use Rattle.blocks.specs.Rows.{Rows, declared_row}
use Rattle.blocks.specs.private.Arenas.{row_of, rows_of, IsWholeArena}
use Rattle.blocks.proofs.Arenas.{declared_is, declared_length}
use Rattle.blocks.proofs.Outcomes.{all_replaced}
use Rattle.blocks.proofs.Shared.{cut_shares, shared_hold, taken_arena, taken_rows}
use Rattle.blocks.proofs.row_trees.RowTrees.take.Goals as goal

pub invariant_of-self : goal.invariant_of-self
invariant_of-self c =
    let a = c.self.inside in
    let id = c.root_of-self-inside.result in
    let few = declared_length a.nodes.items a.root a.kept a.count a.declared.items c.args.self.now c.self.view_is in
    let less = c.requires in
    let row : c.args.row < length a.declared.items = omega (arith, few, less) in
    let root : id ≡ get_or a.declared.items c.args.row 0 = c.root_of-self-inside.ensures ∙ ap (λ ids. get_or ids c.args.row 0) c.deref.ensures.value in
    subst (λ ns. IsWholeArena ns a.own id a.kept a.count a.declared.items a.replacements) (sym c.truncate.ensures.items)
    (record {
      arena = taken_arena a.nodes.items a.own a.root a.kept a.count a.declared.items c.self.invariant.arena c.args.row id row root;
      replaced =
          all_replaced a.nodes.items (take a.own a.nodes.items) a.own a.own a.replacements
          (shared_hold a.nodes.items (take a.own a.nodes.items) a.own (cut_shares a.nodes.items a.own a.root a.kept a.count a.declared.items c.self.invariant.arena)) (omega arith) c.self.invariant.replaced;
    })

pub returns : goal.returns
returns c =
    let a = c.self.inside in
    let id = c.root_of-self-inside.result in
    let few = declared_length a.nodes.items a.root a.kept a.count a.declared.items c.args.self.now c.self.view_is in
    let less = c.requires in
    let row : c.args.row < length a.declared.items = omega (arith, few, less) in
    let root : id ≡ get_or a.declared.items c.args.row 0 = c.root_of-self-inside.ensures ∙ ap (λ ids. get_or ids c.args.row 0) c.deref.ensures.value in
    let same : row_of a.nodes.items a.count id ≡ declared_row c.args.self.now c.args.row =
    ap (row_of a.nodes.items a.count) root ∙ sym (declared_is a.nodes.items a.root a.kept a.count a.declared.items c.args.self.now c.self.view_is c.args.row less) in
    ap (λ ns. rows_of ns id a.kept a.count a.declared.items) c.truncate.ensures.items
    ∙ taken_rows a.nodes.items a.own a.root a.kept a.count a.declared.items c.self.invariant.arena c.args.row id row root
    ∙ ap (λ (r : Rows). let x : Rows = record r { running = row_of a.nodes.items a.count id } in x) c.self.view_is
    ∙ ap (λ xs. let x : Rows = record c.args.self.now { running = xs } in x) same
