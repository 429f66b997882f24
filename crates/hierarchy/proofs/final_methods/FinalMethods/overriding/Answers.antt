use Rattle.std.proofs.Common.{◌≡◌, ◌∙◌, Some, None, ap, option_map, slice_get, sym, arith}
use Rattle.std.specs.Borrow.{Bor}
use Rattle.std.proofs.lemmas.Option.{slice_get_past}
use Rattle.hierarchy.specs.private.Above.{number_of}
use Rattle.hierarchy.specs.Summary.{fact_of}
use Rattle.hierarchy.proofs.FinalAnswers.{no_super, nothing_final, placed_class}
use Rattle.hierarchy.proofs.InOrder.{read_at}
use Rattle.hierarchy.proofs.final_methods.FinalMethods.overriding.Goals as goal

pub returns-in_default-clause-answer : goal.returns-in_default-clause-answer
returns-in_default-clause-answer g c = sym (no_super (g.C.Classes.content c.args.classes.now) (fact_of c.args.class.now) (ap (option_map (λ (n : Bor _). n.now)) c.in_default.is))

pub first-requires-clause-finals : goal.first-requires-clause-finals
first-requires-clause-finals g c =
    let classes = g.C.Classes.content c.args.classes.now in
    let at = placed_class classes c.args.ancestry.now c.requires.ancestry c.requires.formed c.in-Some.superclass.now c.in-Some-place.place (sym c.place.ensures ∙ c.in-Some-place.is) in
    (classes, at.0, c.requires.good.some c.in-Some-place.place at.0 c.index-finals.result.now at.1 (read_at c.args.self.now.table.of.items c.in-Some-place.place c.index-finals.result.now (omega (arith, c.if-place-len.false, c.len.ensures)) c.index-finals.ensures))

pub returns-clause-answer : goal.returns-clause-answer
returns-clause-answer g c =
    let classes = g.C.Classes.content c.args.classes.now in
    let packages = c.args.self.now.numbers.packages in
    let at = placed_class classes c.args.ancestry.now c.requires.ancestry c.requires.formed c.in-Some.superclass.now c.in-Some-place.place (sym c.place.ensures ∙ c.in-Some-place.is) in
    let has = c.requires.good.some c.in-Some-place.place at.0 c.index-finals.result.now at.1 (read_at c.args.self.now.table.of.items c.in-Some-place.place c.index-finals.result.now (omega (arith, c.if-place-len.false, c.len.ensures)) c.index-finals.ensures) in
    c.in_ok-first.ensures classes at.0 at.3 has (c.copied-package.ensures ∙ c.get.ensures.value ∙ ap (number_of packages) c.package_of.ensures)
    (ap (option_map (λ (n : Bor _). n.now)) c.in-Some.is ∙ ap (λ n. Some n) (sym at.2))

pub returns-then-place-len-clause-answer : goal.returns-then-place-len-clause-answer
returns-then-place-len-clause-answer g c =
    let classes = g.C.Classes.content c.args.classes.now in
    let at = placed_class classes c.args.ancestry.now c.requires.ancestry c.requires.formed c.in-Some.superclass.now c.in-Some-place.place (sym c.place.ensures ∙ c.in-Some-place.is) in
    let gone : slice_get c.args.self.now.table.of.items c.in-Some-place.place ≡ None = slice_get_past c.args.self.now.table.of.items c.in-Some-place.place (omega (arith, c.if-place-len.true, c.len.ensures)) in
    sym (nothing_final classes (fact_of c.args.class.now) at.3 at.0.name (ap (option_map (λ (n : Bor _). n.now)) c.in-Some.is ∙ ap (λ n. Some n) (sym at.2)) (c.requires.good.none c.in-Some-place.place at.0 at.1 gone))
