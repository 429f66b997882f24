use Rattle.std.proofs.Common.{rules, ◌∙◌, ◌+◌, length, sym, ap, subst}
use Rattle.std.proofs.lemmas.List.{length-map}
use Rattle.pool.specs.Views.{view}
use Rattle.type_numbers.specs.declared.method_numbers.MethodReading.TheVariants.{Unread}
use Rattle.type_numbers.specs.MethodNumbers.{IsMethodReading, method_in}
use Rattle.type_numbers.proofs.Filled.{filled}
use Rattle.type_numbers.proofs.method_numbers.DescriptorNumbers.new.Goals as goal

pub returns : goal.returns
returns c = λ s.
    let unread = filled Unread c.new-readings.result.items c.resize.new.self.items _ _ _ c.new-readings.ensures.items c.resize.ensures.items in
    record {
      long = search rules ∙ ap (λ n. n + 1) (sym (length-map c.constants.result.now view) ∙ ap length c.constants.ensures);
      read = λ k. subst (IsMethodReading s c.in_ok-arguments.arguments.items (method_in c.args.pool.now k)) (sym (unread k)) tt;
    }
