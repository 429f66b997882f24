use Rattle.std.proofs.Common.{◌≡◌, ◌≢◌, ◌∙◌, ◌<◌, inl, inr, ℕ, length, get_or, set, sym, ap, subst, arith, get_or-set_same, get_or-set_other, length-set}
use Rattle.std.proofs.lemmas.Bool.{cases_lt}
use Rattle.std.proofs.lemmas.List.{get_or_read}
use Rattle.blocks.specs.Rows.{replaced}
use Rattle.blocks.specs.declared.node.Node.{Node}
use Rattle.blocks.specs.private.Trees.{no_node, node_at, level_of, below}
use Rattle.blocks.specs.private.Replacing.{Grows, IsReplaced}
use Rattle.blocks.proofs.Trees.{inner_below}
use Rattle.blocks.proofs.Outcomes.{all_grown, all_is, grown_same, grows_itself, grows_on, more_nodes, put_block, put_grows, remembered, step_above, still_replaced}
use Rattle.blocks.proofs.replacing.Replacements.+replace.Goals as goal

pub returns-then-index-eq0-clause-grown : goal.returns-then-index-eq0-clause-grown
returns-then-index-eq0-clause-grown t c =
    let ns = c.args.nodes.now.items in
    let n : c.index-2.result.now ≡ node_at ns c.args.id = get_or_read ns c.args.id c.index-2.result.now c.requires.node c.index-2.ensures no_node in
    put_grows ns c.put.new.nodes.items c.args.id c.replace_lanes.new.numbers c.requires.forest c.requires.node c.put.result
    (sym (ap (λ (m : Node). m.level) n) ∙ c.if-index-eq0.true) c.put.ensures.ok c.put.ensures.err

pub returns-then-index-eq0-clause-replaced : goal.returns-then-index-eq0-clause-replaced
returns-then-index-eq0-clause-replaced t c =
    let ns = c.args.nodes.now.items in
    let n : c.index-2.result.now ≡ node_at ns c.args.id = get_or_read ns c.args.id c.index-2.result.now c.requires.node c.index-2.ensures no_node in
    more_nodes ns c.put.new.nodes.items c.args.self.now c.put.new.self c.requires.forest
    (put_grows ns c.put.new.nodes.items c.args.id c.replace_lanes.new.numbers c.requires.forest c.requires.node c.put.result
    (sym (ap (λ (m : Node). m.level) n) ∙ c.if-index-eq0.true) c.put.ensures.ok c.put.ensures.err) c.put.ensures.kept c.requires.replaced

pub returns-then-index-eq0-clause-ok : goal.returns-then-index-eq0-clause-ok
returns-then-index-eq0-clause-ok t c =
    let ns = c.args.nodes.now.items in
    let n : c.index-2.result.now ≡ node_at ns c.args.id = get_or_read ns c.args.id c.index-2.result.now c.requires.node c.index-2.ensures no_node in
    let m : c.index.result.now ≡ node_at ns c.args.id = get_or_read ns c.args.id c.index.result.now c.requires.node c.index.ensures no_node in
    put_block ns c.put.new.nodes.items c.args.id c.replace_lanes.new.numbers c.requires.forest c.requires.node c.args.number c.args.by c.put.result
    (sym (ap (λ (m : Node). m.level) n) ∙ c.if-index-eq0.true)
    (λ k lt. c.replace_lanes.ensures k lt ∙ ap (λ (m : Node). replaced c.args.number c.args.by (get_or m.numbers k 0)) m)
    c.put.ensures.ok

pub returns-in-Some-clause-ok : goal.returns-in-Some-clause-ok
returns-in-Some-clause-ok t c = c.requires.replaced c.args.id c.args.number c.args.by c.in-Some.now c.ranges.number.fits c.ranges.by.fits (sym c.get.ensures ∙ c.in-Some.is)

pub replace-requires : goal.replace-requires
replace-requires t c =
    let ns = c.args.nodes.now.items in
    let ms = c.loop-place.nodes.items in
    let id = c.args.id in
    let place = c.loop-place.place in
    let low = c.loop-place-test.true in
    let g = c.loop-place.invariant.grown in
    let n : c.index-2.result.now ≡ node_at ns id = get_or_read ns id c.index-2.result.now c.requires.node c.index-2.ensures no_node in
    let m : c.index.result.now ≡ node_at ns id = get_or_read ns id c.index.result.now c.requires.node c.index.ensures no_node in
    let up : level_of ns id ≢ 0 = λ z. c.if-index-eq0.false (ap (λ (k : Node). k.level) n ∙ z) in
    let one = inner_below ns id place c.requires.forest c.requires.node low up in
    let same : get_or c.loop-place.numbers place 0 ≡ below ns id place = c.loop-place.invariant.rest place (omega arith) low ∙ ap (λ (k : Node). get_or k.numbers place 0) m in
    let inside : below ns id place < length ns = one.0 in
    let level : level_of ms (get_or c.loop-place.numbers place 0) ≡ level_of ns (below ns id place) = ap (level_of ms) same ∙ (grown_same ns ms c.requires.forest g).levels (below ns id place) inside in
    let next = one.1 in
    let more = g.more in
    (omega (arith, c.decreases, level, next), (g.forest, (omega (arith, same, inside, more), c.loop-place.invariant.replaced)))

pub loop-place-preserved : goal.loop-place-preserved
loop-place-preserved t c =
    let ms = c.loop-place.nodes.items in
    let ls = c.replace.new.nodes.items in
    let place = c.loop-place.place in
    let old = c.loop-place.numbers in
    let now = c.in_ok-numbers.field-0 in
    let inv = c.loop-place.invariant in
    let grown = c.replace.ensures.grown in
    let low = c.loop-place-test.true in
    record {
      grown = grows_on c.args.nodes.now.items ms ls inv.grown grown;
      replaced = c.replace.ensures.replaced;
      done = λ k lt. elim (cases_lt k place) [
        | inl less ↦
            subst (IsReplaced ls (length ls) (get_or c.index.result.now.numbers k 0) c.args.number c.args.by) (sym (get_or-set_other old place k now 0 (λ e. omega (arith, e, less))))
            (still_replaced ms ls (length ms) (length ls) (get_or c.index.result.now.numbers k 0) c.args.number c.args.by (get_or old k 0) (grown_same ms ls inv.grown.forest grown) grown.more (inv.done k less))
        | inr past ↦
            (let e : k ≡ place = omega (arith, lt, past) in
            let r = subst (λ i. IsReplaced ls (length ls) i c.args.number c.args.by now) (inv.rest place (omega arith) low) c.in_ok-numbers.ensures.ok in
            subst (λ j. IsReplaced ls (length ls) (get_or c.index.result.now.numbers j 0) c.args.number c.args.by (get_or (set old place now) j 0)) (sym e)
            (subst (IsReplaced ls (length ls) (get_or c.index.result.now.numbers place 0) c.args.number c.args.by) (sym (get_or-set_same old place now 0 (let wide = inv.wide in omega (arith, wide, low)))) r))
      ];
      wide = length-set old place now ∙ inv.wide;
      rest = λ k from to. get_or-set_other old place k now 0 (λ e. omega (arith, e, from)) ∙ inv.rest k (omega (arith, from)) to;
    }

pub returns-in_err-now-clause-replaced : goal.returns-in_err-now-clause-replaced
returns-in_err-now-clause-replaced t c =
    let ms = c.loop-place.nodes.items in
    let inv = c.loop-place.invariant in
    more_nodes ms c.put-2.new.nodes.items c.loop-place.self c.put-2.new.self inv.grown.forest
    (subst (Grows ms) (sym c.in_err-now.ensures.err) (grows_itself ms inv.grown.forest)) c.in_err-now.ensures.kept inv.replaced

pub returns-in_err-keep-clause-grown : goal.returns-in_err-keep-clause-grown
returns-in_err-keep-clause-grown t c =
    let ns = c.args.nodes.now.items in
    let id = c.args.id in
    let n : c.index-2.result.now ≡ node_at ns id = get_or_read ns id c.index-2.result.now c.requires.node c.index-2.ensures no_node in
    let m : c.index.result.now ≡ node_at ns id = get_or_read ns id c.index.result.now c.requires.node c.index.ensures no_node in
    all_grown ns c.loop-place.nodes.items c.put-2.new.nodes.items id c.args.number c.args.by c.in_ok-now.now c.index.result.now.numbers c.loop-place.numbers c.requires.forest c.requires.node
    (λ z. c.if-index-eq0.false (ap (λ (k : Node). k.level) n ∙ z)) (ap (λ (k : Node). k.numbers) m) c.loop-place.invariant.grown
    (λ k lt. c.loop-place.invariant.done k (omega (arith, lt, c.loop-place-test.false))) c.in_ok-now.ensures.ok

pub returns-in_err-keep-clause-replaced : goal.returns-in_err-keep-clause-replaced
returns-in_err-keep-clause-replaced t c =
    let ns = c.args.nodes.now.items in
    let ms = c.loop-place.nodes.items in
    let ls = c.put-2.new.nodes.items in
    let id = c.args.id in
    let inv = c.loop-place.invariant in
    let n : c.index-2.result.now ≡ node_at ns id = get_or_read ns id c.index-2.result.now c.requires.node c.index-2.ensures no_node in
    let m : c.index.result.now ≡ node_at ns id = get_or_read ns id c.index.result.now c.requires.node c.index.ensures no_node in
    let up : level_of ns id ≢ 0 = λ z. c.if-index-eq0.false (ap (λ (k : Node). k.level) n ∙ z) in
    let done = λ (k : ℕ) (lt : k < 16). inv.done k (omega (arith, lt, c.loop-place-test.false)) in
    let first = c.index.result.now.numbers in
    let numbers = c.loop-place.numbers in
    let now = c.in_ok-now.now in
    remembered ls (length ls) id c.args.number c.args.by now c.put-2.new.self c.keep.new.self c.keep.ensures
    (all_is ns ms ls id c.args.number c.args.by now first numbers c.requires.forest c.requires.node up (ap (λ (k : Node). k.numbers) m) inv.grown done c.in_ok-now.ensures.ok)
    (more_nodes ms ls c.loop-place.self c.put-2.new.self inv.grown.forest
    (step_above ns ms ls id c.args.number c.args.by now first numbers c.requires.forest c.requires.node up (ap (λ (k : Node). k.numbers) m) inv.grown done c.in_ok-now.ensures.ok)
    c.put-2.ensures.kept inv.replaced)

pub returns-clause-grown : goal.returns-clause-grown
returns-clause-grown t c =
    let ns = c.args.nodes.now.items in
    let id = c.args.id in
    let n : c.index-2.result.now ≡ node_at ns id = get_or_read ns id c.index-2.result.now c.requires.node c.index-2.ensures no_node in
    let m : c.index.result.now ≡ node_at ns id = get_or_read ns id c.index.result.now c.requires.node c.index.ensures no_node in
    all_grown ns c.loop-place.nodes.items c.put-2.new.nodes.items id c.args.number c.args.by c.in_ok-now.now c.index.result.now.numbers c.loop-place.numbers c.requires.forest c.requires.node
    (λ z. c.if-index-eq0.false (ap (λ (k : Node). k.level) n ∙ z)) (ap (λ (k : Node). k.numbers) m) c.loop-place.invariant.grown
    (λ k lt. c.loop-place.invariant.done k (omega (arith, lt, c.loop-place-test.false))) c.in_ok-now.ensures.ok

pub returns-clause-replaced : goal.returns-clause-replaced
returns-clause-replaced t c =
    let ns = c.args.nodes.now.items in
    let ms = c.loop-place.nodes.items in
    let ls = c.put-2.new.nodes.items in
    let id = c.args.id in
    let inv = c.loop-place.invariant in
    let n : c.index-2.result.now ≡ node_at ns id = get_or_read ns id c.index-2.result.now c.requires.node c.index-2.ensures no_node in
    let m : c.index.result.now ≡ node_at ns id = get_or_read ns id c.index.result.now c.requires.node c.index.ensures no_node in
    let up : level_of ns id ≢ 0 = λ z. c.if-index-eq0.false (ap (λ (k : Node). k.level) n ∙ z) in
    let done = λ (k : ℕ) (lt : k < 16). inv.done k (omega (arith, lt, c.loop-place-test.false)) in
    let first = c.index.result.now.numbers in
    let numbers = c.loop-place.numbers in
    let now = c.in_ok-now.now in
    remembered ls (length ls) id c.args.number c.args.by now c.put-2.new.self c.keep.new.self c.keep.ensures
    (all_is ns ms ls id c.args.number c.args.by now first numbers c.requires.forest c.requires.node up (ap (λ (k : Node). k.numbers) m) inv.grown done c.in_ok-now.ensures.ok)
    (more_nodes ms ls c.loop-place.self c.put-2.new.self inv.grown.forest
    (step_above ns ms ls id c.args.number c.args.by now first numbers c.requires.forest c.requires.node up (ap (λ (k : Node). k.numbers) m) inv.grown done c.in_ok-now.ensures.ok)
    c.put-2.ensures.kept inv.replaced)

pub returns-clause-ok : goal.returns-clause-ok
returns-clause-ok t c =
    let ns = c.args.nodes.now.items in
    let id = c.args.id in
    let n : c.index-2.result.now ≡ node_at ns id = get_or_read ns id c.index-2.result.now c.requires.node c.index-2.ensures no_node in
    let m : c.index.result.now ≡ node_at ns id = get_or_read ns id c.index.result.now c.requires.node c.index.ensures no_node in
    all_is ns c.loop-place.nodes.items c.put-2.new.nodes.items id c.args.number c.args.by c.in_ok-now.now c.index.result.now.numbers c.loop-place.numbers c.requires.forest c.requires.node
    (λ z. c.if-index-eq0.false (ap (λ (k : Node). k.level) n ∙ z)) (ap (λ (k : Node). k.numbers) m) c.loop-place.invariant.grown
    (λ k lt. c.loop-place.invariant.done k (omega (arith, lt, c.loop-place-test.false))) c.in_ok-now.ensures.ok
