use Rattle.std.proofs.Common.{◌≡◌, ◌^◌, ◌<◌, None, length, rules, subst, arith}
use Rattle.std.proofs.lemmas.List.{get_or_read}
use Rattle.hierarchy.specs.Rows.{AncestorAnswer}
use Rattle.hierarchy.proofs.RowsKept.{none_so_far}
use Rattle.hierarchy.proofs.rows.Rows.ancestor.Goals as goal

pub returns-then-not-has_entry-clause-found : goal.returns-then-not-has_entry-clause-found
returns-then-not-has_entry-clause-found g c =
    let classes = c.self.inside.index in
    let rows = c.self.inside.rows in
    let kept = c.self.invariant.1 in
    let place : c.from-place.result ≡ c.args.place = search rules in
    let k : c.from-k.result ≡ c.args.k = search rules in
    let lt : c.from-place.result < length classes = search rules in
    let each = kept.depth_each in
    let depth = get_or_read rows.depths.items c.from-place.result c.index.result.now (omega (arith, lt, each)) c.index.ensures 0 in
    rw (← c.self.view_is)
    (subst (λ i. AncestorAnswer classes (2 ^ c.args.k) i None) place
    (subst (λ j. AncestorAnswer classes (2 ^ j) c.from-place.result None) k
    (none_so_far classes c.self.invariant.0 rows.depths.items rows.starts.items rows.entries.items kept c.from-place.result c.from-k.result c.has_entry.result lt
    (λ le. c.has_entry.ensures.1 (rw depth le)) c.if-not-has_entry.true)))
