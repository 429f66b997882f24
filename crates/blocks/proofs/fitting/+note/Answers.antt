use Rattle.std.proofs.Common.{◌≡◌, ◌∙◌, sym, subst, arith, rules}
use Rattle.blocks.specs.private.Trees.{level_of, NotesOnly}
use Rattle.blocks.proofs.Trees.{below_alike}
use Rattle.blocks.proofs.Noting.{noted_forest, notes_below, notes_last}
use Rattle.blocks.proofs.fitting.+note.Goals as goal
use Rattle.blocks.proofs.fitting.+note.Goals.{then-nodes-id-gt0+else-loop-place-test, else-nodes-id-gt0}

pub note-requires : goal.note-requires
note-requires t c =
    let ns = c.args.nodes.now in
    let ms = c.loop-place.nodes in
    let id = c.args.id in
    let wanted = c.args.wanted in
    let n = c.loop-place.invariant in
    let long = n.long in
    let known = c.requires.node in
    let there = c.requires.wanted in
    let up = c.if-nodes-id-gt0.true in
    let at = n.levels id in
    let alike : level_of ms wanted ≡ level_of ms id = n.levels wanted ∙ c.requires.level ∙ sym at in
    let g = noted_forest ns ms (level_of ns id) id wanted c.requires.forest n in
    let told = below_alike ms id wanted c.loop-place.place g (omega (arith, known, long)) (omega (arith, there, long)) alike
    (λ e. let z : level_of ns id ≡ 0 = sym at ∙ e in omega (arith, z, up)) c.loop-place-test.true in
    let less = told.0 in
    (omega (arith, c.decreases, less, at), (g, (told.1, (told.2, told.3))))

pub loop-place-preserved : goal.loop-place-preserved
loop-place-preserved t c =
    let up = c.if-nodes-id-gt0.true in
    notes_below c.args.nodes.now c.loop-place.nodes c.note.new.nodes c.args.id c.args.wanted c.loop-place.place c.requires.forest c.requires.node c.requires.wanted c.requires.level
    (λ e. omega (arith, e, up)) c.loop-place-test.true c.loop-place.invariant c.note.ensures.only

pub returns : goal.returns
returns t c =
    let ns = c.args.nodes.now in
    let id = c.args.id in
    let wanted = c.args.wanted in
    let only : NotesOnly ns c.if-nodes-id-gt0.nodes (level_of ns id) id wanted =
    elim c.if-nodes-id-gt0.branch [
      | then-nodes-id-gt0+else-loop-place-test w ↦ subst (λ ms. NotesOnly ns ms (level_of ns id) id wanted) (sym w.nodes-is) w.loop-place.invariant
      | else-nodes-id-gt0 w ↦ subst (λ ms. NotesOnly ns ms (level_of ns id) id wanted) (sym w.nodes-is) (search rules)
    ] in
    let last = notes_last ns c.if-nodes-id-gt0.nodes id wanted c.requires.forest c.requires.node c.requires.wanted c.requires.level only in
    search rules
