use Rattle.std.proofs.Common.{◌∙◌, ◌++◌, ◌∷◌, [], ap, refl, arith}
use Rattle.std.specs.Global.{Vec}
use Rattle.hierarchy.specs.declared.final_methods.Finals.{Finals}
use Rattle.hierarchy.specs.private.Ancestry.{facts_at}
use Rattle.hierarchy.specs.Summary.{fact_of}
use Rattle.hierarchy.proofs.FinalEntries.{finals_next, scopes_named, scopes_there}
use Rattle.hierarchy.proofs.InOrder.{class_read}
use Rattle.hierarchy.proofs.final_methods.FinalTable.next.Goals as goal

pub entry-requires-clause-there : goal.entry-requires-clause-there
entry-requires-clause-there g c =
    let classes = g.C.Classes.content c.args.classes.now in
    let a = c.args.ancestry.now in
    let was = c.args.self.now in
    let s = c.index-class.result.now in
    let at = class_read a.classes.items c.len.result s (omega (arith, c.requires.left, c.len.ensures)) c.index-class.ensures in
    scopes_there classes (facts_at a.classes.items) a refl c.requires.good c.args.numbers.now c.requires.numbers c.len.result (fact_of s.now) at was.versions was.of.items c.requires.begun c.above-above.result (c.above-above.ensures c.args.numbers.now c.requires.begun)

pub entry-requires-clause-named : goal.entry-requires-clause-named
entry-requires-clause-named g c =
    let classes = g.C.Classes.content c.args.classes.now in
    let a = c.args.ancestry.now in
    let was = c.args.self.now in
    let s = c.index-class.result.now in
    let at = class_read a.classes.items c.len.result s (omega (arith, c.requires.left, c.len.ensures)) c.index-class.ensures in
    scopes_named classes (facts_at a.classes.items) a refl c.requires.good c.args.numbers.now c.requires.numbers c.len.result (fact_of s.now) at was.versions was.of.items c.requires.begun c.above-above.result (c.above-above.ensures c.args.numbers.now c.requires.begun)

pub entry-requires-clause-packaged : goal.entry-requires-clause-packaged
entry-requires-clause-packaged g c =
    let a = c.args.ancestry.now in
    let s = c.index-class.result.now in
    c.requires.numbers.packaged c.len.result (fact_of s.now) (class_read a.classes.items c.len.result s (omega (arith, c.requires.left, c.len.ensures)) c.index-class.ensures)

pub returns-clause-begun : goal.returns-clause-begun
returns-clause-begun g c =
    let classes = g.C.Classes.content c.args.classes.now in
    let a = c.args.ancestry.now in
    let was = c.args.self.now in
    let s = c.index-class.result.now in
    let at = class_read a.classes.items c.len.result s (omega (arith, c.requires.left, c.len.ensures)) c.index-class.ensures in
    let made = c.in_ok-entry.entry in
    finals_next classes (facts_at a.classes.items) a refl c.requires.good c.args.numbers.now c.requires.numbers c.len.result (fact_of s.now) at was.versions was.of.items c.requires.begun c.above-above.result (c.above-above.ensures c.args.numbers.now c.requires.begun)
    c.entry.new.self.versions made c.in_ok-entry.ensures.adds c.push.new.self.items (omega (arith, c.len.ensures)) (c.in_ok-push.ensures.items ∙ ap (λ (v : Vec Finals). v.items ++ made ∷ []) c.in_ok-entry.ensures.same)
