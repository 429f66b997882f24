use Rattle.std.proofs.Common.{◌≡◌, ◌∙◌, set, ap, arith, rules}
use Rattle.blocks.specs.Rows.{Rows}
use Rattle.blocks.specs.private.Arenas.{rows_of}
use Rattle.blocks.specs.private.Trees.{level_of}
use Rattle.blocks.proofs.Arenas.{running_length, put_rows, put_arena, kept_rows, kept_arena}
use Rattle.blocks.proofs.Outcomes.{all_replaced}
use Rattle.blocks.proofs.Putting.{shares_kept}
use Rattle.blocks.proofs.Shared.{shared_hold}
use Rattle.blocks.proofs.row_trees.RowTrees.set.Goals as goal

pub put-requires-clause-slot : goal.put-requires-clause-slot
put-requires-clause-slot c =
    let a = c.self.inside in
    let long = running_length a.nodes.items a.root a.kept a.count a.declared.items c.args.self.now c.self.view_is in
    let reach = c.self.invariant.arena.reach in
    let lt = c.requires in
    omega (arith, long, reach, lt)

pub returns-in_err-self-inside-clause-err : goal.returns-in_err-self-inside-clause-err
returns-in_err-self-inside-clause-err c =
    let a = c.self.inside in
    let told = c.in_err-self-inside.ensures in
    let same : rows_of c.put.new.nodes.items a.root a.kept a.count a.declared.items ≡ c.args.self.now =
    kept_rows a.nodes.items c.put.new.nodes.items a.own a.root a.kept a.count a.declared.items c.self.invariant.arena told.tree told.err ∙ c.self.view_is in
    search rules

pub invariant_of-self : goal.invariant_of-self
invariant_of-self c =
    let a = c.self.inside in
    let told = c.in_err-self-inside.ensures in
    record {
      arena = kept_arena a.nodes.items c.put.new.nodes.items a.own a.root a.kept a.count a.declared.items c.self.invariant.arena told.tree told.err;
      replaced =
          all_replaced a.nodes.items c.put.new.nodes.items a.own a.own a.replacements
          (shared_hold a.nodes.items c.put.new.nodes.items a.own (shares_kept a.nodes.items c.put.new.nodes.items a.own (level_of a.nodes.items a.root) c.self.invariant.arena.tree.within told.err))
          (omega arith) c.self.invariant.replaced;
    }

pub invariant_of-self-2 : goal.invariant_of-self-2
invariant_of-self-2 c =
    let a = c.self.inside in
    let told = c.in_ok-self-inside.ensures in
    let long = running_length a.nodes.items a.root a.kept a.count a.declared.items c.args.self.now c.self.view_is in
    let lt = c.requires in
    record {
      arena = put_arena a.nodes.items c.put.new.nodes.items a.own a.root a.kept a.count c.args.slot c.args.number c.in_ok-self-inside.field-0 a.declared.items c.self.invariant.arena told.tree told.ok (omega (arith, long, lt));
      replaced = all_replaced a.nodes.items c.put.new.nodes.items a.own a.own a.replacements (shared_hold a.nodes.items c.put.new.nodes.items a.own told.ok.shared) (omega arith) c.self.invariant.replaced;
    }

pub returns-clause-ok : goal.returns-clause-ok
returns-clause-ok c =
    let a = c.self.inside in
    let told = c.in_ok-self-inside.ensures in
    let long = running_length a.nodes.items a.root a.kept a.count a.declared.items c.args.self.now c.self.view_is in
    let lt = c.requires in
    put_rows a.nodes.items c.put.new.nodes.items a.own a.root a.kept a.count c.args.slot c.args.number c.in_ok-self-inside.field-0 a.declared.items c.self.invariant.arena told.tree told.ok (omega (arith, long, lt))
    ∙ ap (λ (r : Rows). let x : Rows = record r { running = set r.running c.args.slot c.args.number } in x) c.self.view_is
