use Rattle.std.proofs.Common.{◌∙◌, ap, arith, refl, slice_get, sym}
use Rattle.std.proofs.lemmas.List.{length-map}
use Rattle.std.proofs.lemmas.Option.{slice_get_within}
use Rattle.std.specs.Borrow.{Bor}
use Rattle.hierarchy.specs.declared.final_methods.FinalNumbers.{FinalNumbers}
use Rattle.hierarchy.specs.declared.summary.Summary.{Summary}
use Rattle.hierarchy.specs.private.Ancestry.{facts_at}
use Rattle.hierarchy.specs.Summary.{fact_of}
use Rattle.hierarchy.proofs.FinalEntries.{none_final, none_inherited}
use Rattle.hierarchy.proofs.Names.{none_some, slice_none}
use Rattle.hierarchy.proofs.final_methods.FinalMethods.new.Goals as goal

pub returns-then-is_empty : goal.returns-then-is_empty
returns-then-is_empty g c =
    let classes = g.C.Classes.content c.args.classes.now in
    let a = c.args.ancestry.now in
    let all = facts_at a.classes.items in
    let packages = c.in_ok-packages.packages in
    let numbers : FinalNumbers = record { members = c.new-members.result; packages = packages } in
    let none = c.in_ok-table.ensures.none in
    record {
      good = (c.in_ok-table.ensures.begun classes all numbers).good;
      some = λ p x f at e. absurd (none_some (sym (ap (λ xs. slice_get xs p) none) ∙ e));
      none = λ p x at e. none_inherited classes all a refl c.requires (λ q y at_y. none_final packages c.in_ok-packages.ensures.good (c.is_empty.ensures.0 c.if-is_empty.true) y (c.in_ok-packages.ensures.all q y at_y)) p x at;
    }

pub returns : goal.returns
returns g c =
    let a = c.args.ancestry.now in
    let long = length-map a.classes.items (λ (s : Bor Summary). fact_of s.now) in
    let as_many = c.in_ok-table-2.ensures.as_many in
    record {
      good = c.in_ok-table-2.ensures.all.good;
      some = c.in_ok-table-2.ensures.all.each;
      none = λ p x at e r scope h.
          let lt = slice_get_within (facts_at a.classes.items) p x at in
          absurd (slice_none c.in_ok-table-2.table.of.items p (omega (arith, lt, long, as_many)) e);
    }
