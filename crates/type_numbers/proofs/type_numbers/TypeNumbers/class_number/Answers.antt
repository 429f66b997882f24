use Rattle.std.proofs.Common.{◌∙◌, sym, refl, ap, List, ℕ, option_map}
use Rattle.std.specs.Borrow.{Bor}
use Rattle.hierarchy.proofs.Names.{some_same}
use Rattle.type_numbers.proofs.Given.{absent_given, present_given}
use Rattle.type_numbers.proofs.Noted.{is_noted, kept_there, pair_at, places_kept, still_kept}
use Rattle.type_numbers.proofs.type_numbers.TypeNumbers.class_number.Goals as goal

pub returns-in-Some-clause-number : goal.returns-in-Some-clause-number
returns-in-Some-clause-number g c =
    let classes = g.C.Classes.content c.self.inside.classes.now in
    let is = c.in-Some.ensures classes c.self.inside.present c.self.invariant.recent in
    rw (← c.self.view_is) (present_given classes c.self.inside.absent c.args.name.now c.args.dims c.in-Some.place c.present_number.result is.there c.present_number.ensures)

pub returns-in-Some-clause-noted : goal.returns-in-Some-clause-noted
returns-in-Some-clause-noted g c =
    let classes = g.C.Classes.content c.self.inside.classes.now in
    rw (← c.self.view_is) (λ place e. is_noted classes c.self.inside.present c.args.name.now c.in-Some.place place (c.in-Some.ensures classes c.self.inside.present c.self.invariant.recent) e)

pub invariant_of-self-in-Some-place : goal.invariant_of-self-in-Some-place
invariant_of-self-in-Some-place g c =
    let classes = g.C.Classes.content c.self.inside.classes.now in
    let there = sym c.place.ensures ∙ c.in-Some-place.is in
    let grown = c.in_ok-insert-in-Some-place.ensures.updates in
    let kept = places_kept classes c.self.inside.present c.insert.new.self c.in-Some-place.place c.args.name there grown.0 c.self.inside.recent c.self.invariant in
    record {
      present = kept.present;
      recent = c.keep.ensures classes c.insert.new.self (record { there = there; noted = ap (option_map (λ (n : Bor (List ℕ)). n.now)) grown.1 }) kept.recent;
    }

pub returns-in_ok-insert-in-Some-place-clause-noted : goal.returns-in_ok-insert-in-Some-place-clause-noted
returns-in_ok-insert-in-Some-place-clause-noted g c = λ place e. kept_there c.insert.new.self c.in-Some-place.place place c.args.name (some_same (sym c.in-Some-place.is ∙ c.place.ensures ∙ e)) c.in_ok-insert-in-Some-place.ensures.updates.1

pub returns-in_ok-insert-in-Some-place-clause-kept : goal.returns-in_ok-insert-in-Some-place-clause-kept
returns-in_ok-insert-in-Some-place-clause-kept g c =
    let old = c.self.inside.present in
    let new = c.insert.new.self in
    let there = sym c.place.ensures ∙ c.in-Some-place.is in
    rw (← c.self.view_is) (record {
      classes = refl;
      absent = λ name k e. e;
      present = λ q n e. pair_at new q ∙ still_kept (g.C.Classes.content c.self.inside.classes.now) old new c.in-Some-place.place c.args.name there c.in_ok-insert-in-Some-place.ensures.updates.0 c.self.invariant.present q n (sym (pair_at old q) ∙ e);
    })

pub returns-in_err-place-in-None-clause-kept : goal.returns-in_err-place-in-None-clause-kept
returns-in_err-place-in-None-clause-kept g c = rw (← c.self.view_is) (record { classes = refl; absent = c.place-in-None.ensures.kept; present = λ q n e. e })

pub returns-in_ok-place-in-None-clause-number : goal.returns-in_ok-place-in-None-clause-number
returns-in_ok-place-in-None-clause-number g c =
    absent_given (g.C.Classes.content c.self.inside.classes.now) c.place-in-None.new.self c.args.name.now c.args.dims c.in_ok-place-in-None.place c.ok_or.result
    (sym c.place.ensures ∙ c.in-None.is) c.in_ok-place-in-None.ensures.at (sym c.ok_or.ensures.ok_part ∙ c.absent_number.ensures)
