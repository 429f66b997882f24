use Rattle.std.proofs.Common.{rules, ◌≡◌, ◌∙◌, Vec, Global, [], ◌∷◌, ◌++◌, length, map, ap, subst}
use Rattle.hierarchy.specs.declared.skips.Skip.{Skip}
use Rattle.hierarchy.specs.private.Skips.{skip_at, IsRowAdded}
use Rattle.hierarchy.proofs.RowLists.{more_rows}
use Rattle.hierarchy.proofs.row_table.rows_of.Goals as goal

pub loop-place-preserved : goal.loop-place-preserved
loop-place-preserved c =
    let tables = map (λ (t : Vec Skip Global). t.items) c.args.skips.now.tables.items in
    let start : c.len-in-loop-place.result ≡ length c.loop-place.entries.items = search rules in
    let tops = c.args.skips.now.tops.items in
    more_rows tables tops c.loop-place.place c.loop-place.depths.items c.loop-place.starts.items c.loop-place.entries.items c.loop-place.invariant c.push.new.self.items c.push-in-loop-place.new.self.items c.push_row.new.entries.items
    (c.in_ok-push.ensures.items ∙ ap (λ js. c.loop-place.depths.items ++ (skip_at js c.loop-place.place).steps ∷ []) c.deref-top-items.ensures.value)
    (c.in_ok-push-2.ensures.items ∙ ap (λ k. c.loop-place.starts.items ++ k ∷ []) start)
    (subst (λ js. IsRowAdded tables c.loop-place.place (skip_at js c.loop-place.place).steps c.loop-place.entries.items c.push_row.new.entries.items) c.deref-top-items.ensures.value
    (subst (λ ts. IsRowAdded (map (λ (t : Vec Skip Global). t.items) ts) c.loop-place.place (skip_at c.deref-top-items.result.now c.loop-place.place).steps c.loop-place.entries.items c.push_row.new.entries.items) c.deref.ensures.value c.in_ok-push_row.ensures))
