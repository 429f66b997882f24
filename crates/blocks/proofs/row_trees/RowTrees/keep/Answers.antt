use Rattle.std.proofs.Common.{◌≡◌, length, subst, arith, rules}
use Rattle.blocks.specs.private.Arenas.{IsArena}
use Rattle.blocks.proofs.Arenas.{keeping_arena}
use Rattle.blocks.proofs.Outcomes.{all_replaced, same_itself}
use Rattle.blocks.proofs.row_trees.RowTrees.keep.Goals as goal

pub invariant_of-self : goal.invariant_of-self
invariant_of-self c =
    let a = c.self.inside in
    let within = c.self.invariant.arena.tree.within in
    let long : length a.nodes.items ≡ c.len.result = search rules in
    record {
      arena =
          subst (λ n. IsArena a.nodes.items n a.root a.root a.count a.declared.items) long
          (keeping_arena a.nodes.items a.own a.root a.kept a.count a.declared.items c.self.invariant.arena);
      replaced = all_replaced a.nodes.items a.nodes.items a.own c.len.result a.replacements (same_itself a.nodes.items a.own) (omega (arith, within, long)) c.self.invariant.replaced;
    }
