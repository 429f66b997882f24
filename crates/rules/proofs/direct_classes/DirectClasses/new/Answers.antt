use Rattle.std.proofs.Common.{rules, ◌≡◌, ◌∙◌, ◌||◌, ◌+◌, false, map, length, replicate, slice_get, None, Some, ap, subst}
use Rattle.std.specs.List.{list_any}
use Rattle.std.specs.Str.{bytes_eq}
use Rattle.names.specs.MetNames.{is_met}
use Rattle.classfile.specs.Methods.{is_name, names_at, superclass_of}
use Rattle.rules.specs.Guards.{own_name}
use Rattle.rules.proofs.Direct.{none_noted, or_none}
use Rattle.rules.proofs.direct_classes.DirectClasses.new.Goals as goal

pub returns : goal.returns
returns c =
    let class = c.args.class.now in
    let indices = map (λ n. n) class.interfaces.items in
    record {
      names = λ name.
          let listed = list_any (λ other. bytes_eq other name) (names_at class.constant_pool indices) in
          let above = is_name (superclass_of class.constant_pool class.super_class) name in
          c.in_ok-meet.ensures.behind name
          ∙ ap (λ own. bytes_eq own name || is_met c.meet_superclass.new.names name) c.class_name.ensures
          ∙ ap (λ b. bytes_eq (own_name class) name || b) (c.in_ok-meet_superclass.ensures name
          ∙ ap (λ b. above || b) (c.in_ok-meet_all.ensures name
          ∙ ap (λ items. list_any (λ other. bytes_eq other name) (names_at class.constant_pool (map (λ n. n) items)) || is_met c.new-names.result name) c.deref.ensures.value
          ∙ ap (λ b. listed || b) (c.new-names.ensures name) ∙ or_none listed));
      answers = λ place answer name here there.
          absurd (none_noted _ place answer (subst (λ items. slice_get items place ≡ Some (Some answer)) (c.in_ok-answers.ensures.items_if_clones_equal (λ y e. search (rules, e))) here));
    }
