use Rattle.std.proofs.Common.{◌≡◌, ◌∙◌, ◌<◌, length, get_or, sym, ap, arith}
use Rattle.std.proofs.lemmas.List.{get_or_read}
use Rattle.blocks.specs.declared.node.Node.{Node}
use Rattle.blocks.specs.private.Trees.{no_node, node_at, level_of, below}
use Rattle.blocks.proofs.Trees.{below_alike}
use Rattle.blocks.proofs.Copies.{copied_forest, copied_on}
use Rattle.blocks.proofs.remembering.Fits.+save.Goals as goal

pub save-requires : goal.save-requires
save-requires t c =
    let ns = c.args.nodes.now.items in
    let ms = c.loop-place.nodes.items in
    let id = c.args.id in
    let wanted = c.args.wanted in
    let place = c.loop-place.place in
    let inv = c.loop-place.invariant in
    let more = inv.more in
    let known = c.requires.node in
    let there = c.requires.wanted in
    let first : c.index.result.now ≡ node_at ns id = get_or_read ns id c.index.result.now known c.index.ensures no_node in
    let high = c.if-level-lt2.false in
    let top = ap (λ (n : Node). n.level) first in
    let at : level_of ms id ≡ level_of ns id = ap (λ (n : Node). n.level) (inv.old id known) in
    let alike : level_of ms wanted ≡ level_of ms id = ap (λ (n : Node). n.level) (inv.old wanted there) ∙ c.requires.level ∙ sym at in
    let in_id : id < length ms = omega (arith, known, more) in
    let in_wanted : wanted < length ms = omega (arith, there, more) in
    let one : c.index-in-loop-place.result.now ≡ node_at ms id = get_or_read ms id c.index-in-loop-place.result.now in_id c.index-in-loop-place.ensures no_node in
    let two : c.index-in-loop-place-2.result.now ≡ node_at ms wanted = get_or_read ms wanted c.index-in-loop-place-2.result.now in_wanted c.index-in-loop-place-2.ensures no_node in
    let left : get_or c.index-in-loop-place.result.now.numbers place 0 ≡ below ms id place = ap (λ (n : Node). get_or n.numbers place 0) one in
    let right : get_or c.index-in-loop-place-2.result.now.numbers place 0 ≡ below ms wanted place = ap (λ (n : Node). get_or n.numbers place 0) two in
    let g = copied_forest ns ms c.requires.forest inv in
    let told = below_alike ms id wanted place g in_id in_wanted alike (λ e. omega (arith, e, at, top, high)) c.loop-place-test.true in
    let less = told.0 in
    let inside = told.1 in
    let beside = told.2 in
    let e = ap (level_of ms) left in
    (omega (arith, c.decreases, less, at, e), (g, (omega (arith, left, inside), (omega (arith, right, beside), ap (level_of ms) right ∙ told.3 ∙ sym e))))

pub returns-in_err-save : goal.returns-in_err-save
returns-in_err-save t c = copied_on c.args.nodes.now.items c.loop-place.nodes.items c.save.new.nodes.items c.loop-place.invariant c.save.ensures

pub loop-place-preserved : goal.loop-place-preserved
loop-place-preserved t c = copied_on c.args.nodes.now.items c.loop-place.nodes.items c.save.new.nodes.items c.loop-place.invariant c.save.ensures

pub copy-requires-clause-forest : goal.copy-requires-clause-forest
copy-requires-clause-forest t c = copied_forest c.args.nodes.now.items c.loop-place.nodes.items c.requires.forest c.loop-place.invariant

pub returns : goal.returns
returns t c = copied_on c.args.nodes.now.items c.loop-place.nodes.items c.copy.new.nodes.items c.loop-place.invariant c.copy.ensures
