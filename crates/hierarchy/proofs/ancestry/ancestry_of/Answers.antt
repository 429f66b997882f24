use Rattle.std.proofs.Common.{◌≤◌, ◌∙◌, ◌+◌, ap, arith, length, subst, sym, take}
use Rattle.std.proofs.lemmas.List.{take_all}
use Rattle.hierarchy.specs.private.Above.{names_of}
use Rattle.hierarchy.specs.private.Ancestry.{Has, HavePlace, IsAncestry}
use Rattle.hierarchy.specs.Summary.{fact_of}
use Rattle.hierarchy.proofs.InOrder.{placed_more}
use Rattle.hierarchy.proofs.Names.{none_some, some_same}
use Rattle.hierarchy.proofs.Upward.{found_own}
use Rattle.hierarchy.proofs.ancestry.ancestry_of.Goals.{in-Some+in_ok-add, in_default}
use Rattle.hierarchy.proofs.ancestry.ancestry_of.Goals as goal

pub loop-name-init : goal.loop-name-init
loop-name-init g c = record {
  good = c.new-ancestry.ensures.good (g.C.Classes.content c.args.classes.now);
  placed = λ i name class e. absurd (none_some e);
  formed = λ some. let none = ap length c.new-ancestry.ensures.none in absurd (omega (arith, some, none));
}

pub add-requires-clause-own : goal.add-requires-clause-own
add-requires-clause-own g c = found_own (g.C.Classes.content c.args.classes.now) _ (fact_of c.in-Some.class.now) (sym c.in-Some.ensures.found)

pub loop-name-preserved : goal.loop-name-preserved
loop-name-preserved g c =
    let classes = g.C.Classes.content c.args.classes.now in
    let names = c.args.names.now in
    let i = c.loop-name.name-index in
    let old = c.loop-name.ancestry in
    let had = c.loop-name.invariant.placed in
    elim c.match-find.branch [
      | in-Some+in_ok-add w ↦
          let new = w.add.new.self in
          let more = placed_more classes old new names i _ c.loop-name-test.true w.in_ok-add.ensures.kept had (λ x f. subst (Has new) (some_same (w.in-Some.ensures.found ∙ f)) w.in_ok-add.ensures.here) in
          record {
            good = subst (IsAncestry classes) (sym w.ancestry-is) w.in_ok-add.ensures.good;
            placed = subst (λ a. HavePlace classes a (names_of (take (i + 1) names))) (sym w.ancestry-is) more;
            formed = λ some. c.find.ensures.formed;
          }
      | in_default w ↦
          let more = placed_more classes old old names i _ c.loop-name-test.true (λ x has. has) had (λ x f. absurd (none_some (w.in_default.ensures.found ∙ f))) in
          record {
            good = subst (IsAncestry classes) (sym w.ancestry-is) c.loop-name.invariant.good;
            placed = subst (λ a. HavePlace classes a (names_of (take (i + 1) names))) (sym w.ancestry-is) more;
            formed = λ some. c.find.ensures.formed;
          }
    ]

pub returns-clause-placed : goal.returns-clause-placed
returns-clause-placed g c =
    let classes = g.C.Classes.content c.args.classes.now in
    let i = c.loop-name.name-index in
    let end : length c.args.names.now ≤ i = omega (arith, c.loop-name-test.false) in
    subst (λ ns. HavePlace classes c.loop-name.ancestry (names_of ns)) (take_all i c.args.names.now end) c.loop-name.invariant.placed
