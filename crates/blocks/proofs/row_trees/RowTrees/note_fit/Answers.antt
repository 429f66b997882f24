use Rattle.std.proofs.Common.{◌≡◌, ◌∙◌, ◌<◌, ◌++◌, length, take, drop, get_or, refl, sym, ap, subst, arith, rules}
use Rattle.std.proofs.lemmas.List.{take_at}
use Rattle.blocks.specs.Rows.{IsSaidToFit}
use Rattle.blocks.specs.private.Trees.{level_of, IsForest, IsNoted}
use Rattle.blocks.specs.private.Arenas.{rows_of, IsArena}
use Rattle.blocks.specs.private.Replacing.{AreReplaced}
use Rattle.blocks.proofs.Arenas.{declared_length, noted_arena, noted_said}
use Rattle.blocks.proofs.Copies.{copied_arena, copied_forest, copied_shares, said_before}
use Rattle.blocks.proofs.Outcomes.{all_replaced}
use Rattle.blocks.proofs.Shared.{noted_hold, shared_hold}
use Rattle.blocks.proofs.row_trees.RowTrees.note_fit.Goals as goal

pub invariant_of-self : goal.invariant_of-self
invariant_of-self c =
    let a = c.self.inside in
    let ns = a.nodes.items in
    let ms = c.save-saved.new.nodes.items in
    let ls = c.note.new.nodes in
    let old = c.self.invariant.arena in
    let all = copied_arena ns ms a.own a.root a.kept a.count a.declared.items old c.save-saved.ensures in
    let wanted = c.root_of-wanted.result in
    let told : IsNoted ms ls (level_of ms a.root) a.root wanted = subst (λ ks. IsNoted ks ls (level_of ks a.root) a.root wanted) c.deref_mut.ensures.value c.note.ensures in
    let long : length ls ≡ c.save-saved.new.nodes.len = told.only.long ∙ search rules in
    let kept = take c.save-saved.new.nodes.len (ls ++ drop (length ls) ms) in
    let count : length ms ≡ c.len.result = search rules in
    let within = old.tree.within in
    let more = c.save-saved.ensures.more in
    record {
      arena =
          subst (λ n. IsArena kept n a.root a.kept a.count a.declared.items) count
          (subst (λ ks. IsArena ks (length ms) a.root a.kept a.count a.declared.items) (sym (take_at ls _ c.save-saved.new.nodes.len long))
          (noted_arena ms ls (length ms) a.root wanted a.kept a.count a.declared.items all told.only));
      replaced =
          subst (λ ks. AreReplaced ks c.len.result a.replacements) (sym (take_at ls _ c.save-saved.new.nodes.len long))
          (all_replaced ms ls (length ms) c.len.result a.replacements
          (noted_hold ms ls (length ms) a.root wanted a.kept a.count a.declared.items all told.only)
          (omega (arith, count))
          (all_replaced ns ms a.own (length ms) a.replacements
          (shared_hold ns ms a.own (copied_shares ns ms a.own a.root a.kept a.count a.declared.items old c.save-saved.ensures))
          (omega (arith, within, more)) c.self.invariant.replaced));
    }

pub returns : goal.returns
returns c =
    let a = c.self.inside in
    let ns = a.nodes.items in
    let ms = c.save-saved.new.nodes.items in
    let ls = c.note.new.nodes in
    let old = c.self.invariant.arena in
    let all = copied_arena ns ms a.own a.root a.kept a.count a.declared.items old c.save-saved.ensures in
    let wanted = c.root_of-wanted.result in
    let told : IsNoted ms ls (level_of ms a.root) a.root wanted = subst (λ ks. IsNoted ks ls (level_of ks a.root) a.root wanted) c.deref_mut.ensures.value c.note.ensures in
    let long : length ls ≡ c.save-saved.new.nodes.len = told.only.long ∙ search rules in
    let few = declared_length ns a.root a.kept a.count a.declared.items c.args.self.now c.self.view_is in
    let less = c.requires in
    let row : c.args.row < length a.declared.items = omega (arith, few, less) in
    let root : wanted ≡ get_or a.declared.items c.args.row 0 =
    c.root_of-wanted.ensures ∙ ap (λ ids. get_or ids c.args.row 0) c.deref.ensures.value in
    subst (λ ks. IsSaidToFit c.args.self.now (rows_of ks a.root a.kept a.count a.declared.items) c.args.row)
    (sym (take_at ls _ c.save-saved.new.nodes.len long))
    (said_before ns ms a.own a.root a.kept a.count a.declared.items old c.save-saved.ensures c.args.self.now (rows_of ls a.root a.kept a.count a.declared.items) c.args.row c.self.view_is
    (noted_said ms ls (length ms) a.root wanted a.kept a.count a.declared.items all told.only
    c.args.row row root (rows_of ms a.root a.kept a.count a.declared.items) refl told.done))

pub note-requires-clause-forest : goal.note-requires-clause-forest
note-requires-clause-forest c =
    let a = c.self.inside in
    subst IsForest (sym c.deref_mut.ensures.value) (copied_forest a.nodes.items c.save-saved.new.nodes.items c.self.invariant.arena.tree.forest c.save-saved.ensures)

pub note-requires-clause-level : goal.note-requires-clause-level
note-requires-clause-level c =
    let a = c.self.inside in
    let ns = a.nodes.items in
    let ms = c.save-saved.new.nodes.items in
    let few = declared_length ns a.root a.kept a.count a.declared.items c.args.self.now c.self.view_is in
    let less = c.requires in
    let row : c.args.row < length a.declared.items = omega (arith, few, less) in
    let root : c.root_of-wanted.result ≡ get_or a.declared.items c.args.row 0 =
    c.root_of-wanted.ensures ∙ ap (λ ids. get_or ids c.args.row 0) c.deref.ensures.value in
    subst (λ ks. level_of ks c.root_of-wanted.result ≡ level_of ks a.root) (sym c.deref_mut.ensures.value)
    (ap (level_of ms) root ∙ ((copied_arena ns ms a.own a.root a.kept a.count a.declared.items c.self.invariant.arena c.save-saved.ensures).rows c.args.row row).1)
