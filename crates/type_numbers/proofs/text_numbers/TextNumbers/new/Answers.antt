use Rattle.std.proofs.Common.{rules, ◌∙◌, ◌+◌, length, sym, ap, subst}
use Rattle.std.proofs.lemmas.List.{length-map}
use Rattle.pool.specs.Views.{view}
use Rattle.type_numbers.specs.declared.text_numbers.Reading.TheVariants.{Unread}
use Rattle.type_numbers.specs.private.Readings.{IsReading, type_in}
use Rattle.type_numbers.proofs.Filled.{filled}
use Rattle.type_numbers.proofs.text_numbers.TextNumbers.new.Goals as goal

pub returns-clause-unread : goal.returns-clause-unread
returns-clause-unread c = λ s.
    let unread = filled Unread c.new-readings.result.items c.resize.new.self.items _ _ _ c.new-readings.ensures.items c.resize.ensures.items in
    record {
      long = search rules ∙ ap (λ n. n + 1) (sym (length-map c.constants.result.now view) ∙ ap length c.constants.ensures);
      read = λ k. subst (IsReading s (type_in c.args.form c.args.pool.now k)) (sym (unread k)) tt;
    }
