use Rattle.std.proofs.Common.{◌≡◌, ◌≢◌, ◌∙◌, ◌<◌, inl, inr, ℕ, suc, ◌-◌, length, get_or, set, Some, None, refl, sym, ap, subst, arith, get_or-set_same, get_or-set_other, length-set}
use Rattle.std.proofs.lemmas.Bool.{cases_lt}
use Rattle.std.proofs.lemmas.List.{get_or_read}
use Rattle.blocks.specs.declared.node.Node.{Node}
use Rattle.blocks.specs.private.Trees.{no_node, node_at, level_of, below}
use Rattle.blocks.specs.private.Compacting.{IsSameIn, AreCopiesOf, GrowsTo}
use Rattle.blocks.proofs.Trees.{inner_below}
use Rattle.blocks.proofs.Compacted.{grows_on, still_same, step_grown, step_copies, step_same}
use Rattle.blocks.proofs.compacting.Copies.+copy.Goals as goal

pub copy-requires : goal.copy-requires
copy-requires t c =
    let ns = c.args.nodes.now in
    let id = c.args.id in
    let place = c.loop-place.place in
    let low = c.loop-place-test.true in
    let inv = c.loop-place.invariant in
    let up : level_of ns id ≢ 0 = c.if-nodes-id-eq0.false in
    let one = inner_below ns id place c.requires.forest c.requires.node low up in
    let same : get_or c.loop-place.numbers place 0 ≡ below ns id place = inv.rest place (omega arith) low in
    let inside : below ns id place < length ns = one.0 in
    let level : level_of ns (get_or c.loop-place.numbers place 0) ≡ level_of ns (below ns id place) = ap (level_of ns) same in
    let next = one.1 in
    (omega (arith, c.decreases, level, next), (c.requires.forest, (omega (arith, same, inside), inv.copies)))

pub loop-place-preserved : goal.loop-place-preserved
loop-place-preserved t c =
    let ns = c.args.nodes.now in
    let ms = c.loop-place.self.nodes.items in
    let ls = c.copy.new.self.nodes.items in
    let place = c.loop-place.place in
    let old = c.loop-place.numbers in
    let now = c.in_ok-numbers.field-0 in
    let inv = c.loop-place.invariant in
    let grown = c.copy.ensures.grown in
    let low = c.loop-place-test.true in
    record {
      grown = grows_on c.args.self.now.nodes.items ms ls inv.grown grown;
      copies = c.copy.ensures.copies;
      done = λ k lt. elim (cases_lt k place) [
        | inl less ↦
            subst (IsSameIn ns ls (get_or (node_at ns c.args.id).numbers k 0)) (sym (get_or-set_other old place k now 0 (λ e. omega (arith, e, less))))
            (still_same ns ms ls (get_or (node_at ns c.args.id).numbers k 0) (get_or old k 0) inv.copies.fresh.forest grown (inv.done k less))
        | inr past ↦
            (let e : k ≡ place = omega (arith, lt, past) in
            let r = subst (λ i. IsSameIn ns ls i now) (inv.rest place (omega arith) low) c.in_ok-numbers.ensures.ok in
            subst (λ j. IsSameIn ns ls (get_or (node_at ns c.args.id).numbers j 0) (get_or (set old place now) j 0)) (sym e)
            (subst (IsSameIn ns ls (get_or (node_at ns c.args.id).numbers place 0)) (sym (get_or-set_same old place now 0 (let wide = inv.wide in omega (arith, wide, low)))) r))
      ];
      wide = length-set old place now ∙ inv.wide;
      rest = λ k from to. get_or-set_other old place k now 0 (λ e. omega (arith, e, from)) ∙ inv.rest k (omega (arith, from)) to;
    }

pub returns-in-Some-clause-ok : goal.returns-in-Some-clause-ok
returns-in-Some-clause-ok t c =
    let known = c.args.self.now.known.items in
    let node = c.requires.node in
    let long = c.requires.copies.long in
    c.requires.copies.same c.args.id c.in-Some.copy node (sym (get_or_read known c.args.id c.index.result.now (omega (arith, node, long)) c.index.ensures None) ∙ c.in-Some.is)

pub returns-then-nodes-id-eq0-clause-grown : goal.returns-then-nodes-id-eq0-clause-grown
returns-then-nodes-id-eq0-clause-grown t c =
    let ns = c.args.nodes.now in
    let id = c.args.id in
    let flat = c.if-nodes-id-eq0.true in
    step_grown ns c.args.self.now c.put.new.self id 0 (node_at ns id).numbers c.requires.forest c.requires.node c.requires.copies (sym flat) (c.requires.forest.wide id c.requires.node)
    (inl (flat, λ k lt. refl)) c.put.result c.put.ensures.ok c.put.ensures.err

pub returns-then-nodes-id-eq0-clause-copies : goal.returns-then-nodes-id-eq0-clause-copies
returns-then-nodes-id-eq0-clause-copies t c =
    let ns = c.args.nodes.now in
    let id = c.args.id in
    let flat = c.if-nodes-id-eq0.true in
    step_copies ns c.args.self.now c.put.new.self id 0 (node_at ns id).numbers c.requires.forest c.requires.node c.requires.copies (sym flat) (c.requires.forest.wide id c.requires.node)
    (inl (flat, λ k lt. refl)) c.put.result c.put.ensures.ok c.put.ensures.err c.put.ensures.known

pub returns-then-nodes-id-eq0-clause-ok : goal.returns-then-nodes-id-eq0-clause-ok
returns-then-nodes-id-eq0-clause-ok t c =
    let ns = c.args.nodes.now in
    let id = c.args.id in
    let flat = c.if-nodes-id-eq0.true in
    step_same ns c.args.self.now c.put.new.self id 0 (node_at ns id).numbers c.requires.forest c.requires.node c.requires.copies (sym flat) (c.requires.forest.wide id c.requires.node)
    (inl (flat, λ k lt. refl)) c.put.result c.put.ensures.ok

pub returns-clause-grown : goal.returns-clause-grown
returns-clause-grown t c =
    let ns = c.args.nodes.now in
    let id = c.args.id in
    let inv = c.loop-place.invariant in
    grows_on c.args.self.now.nodes.items c.loop-place.self.nodes.items c.put-2.new.self.nodes.items inv.grown
    (step_grown ns c.loop-place.self c.put-2.new.self id (level_of ns id) c.loop-place.numbers c.requires.forest c.requires.node inv.copies refl inv.wide
    (inr (c.if-nodes-id-eq0.false, λ k lt. inv.done k (omega (arith, lt, c.loop-place-test.false)))) c.put-2.result c.put-2.ensures.ok c.put-2.ensures.err)

pub returns-clause-copies : goal.returns-clause-copies
returns-clause-copies t c =
    let ns = c.args.nodes.now in
    let id = c.args.id in
    let inv = c.loop-place.invariant in
    step_copies ns c.loop-place.self c.put-2.new.self id (level_of ns id) c.loop-place.numbers c.requires.forest c.requires.node inv.copies refl inv.wide
    (inr (c.if-nodes-id-eq0.false, λ k lt. inv.done k (omega (arith, lt, c.loop-place-test.false)))) c.put-2.result c.put-2.ensures.ok c.put-2.ensures.err c.put-2.ensures.known

pub returns-clause-ok : goal.returns-clause-ok
returns-clause-ok t c =
    let ns = c.args.nodes.now in
    let id = c.args.id in
    let inv = c.loop-place.invariant in
    step_same ns c.loop-place.self c.put-2.new.self id (level_of ns id) c.loop-place.numbers c.requires.forest c.requires.node inv.copies refl inv.wide
    (inr (c.if-nodes-id-eq0.false, λ k lt. inv.done k (omega (arith, lt, c.loop-place-test.false)))) c.put-2.result c.put-2.ensures.ok
