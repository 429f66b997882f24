use Rattle.std.proofs.Common.{◌∙◌, ◌++◌, map, ap, refl}
use Rattle.hierarchy.specs.declared.summary.Summary.{Summary}
use Rattle.serving.proofs.Kept.{now, fact_same}
use Rattle.serving.proofs.known.kept.Goals as goal

pub returns : goal.returns
returns c =
    let copy : Summary = record {
      name = c.in_ok-kept_text.field-0;
      superclass = c.in_ok-kept_super.field-0;
      interface = c.args.class.now.interface;
      is_final = c.args.class.now.is_final;
      texts = c.in_ok-kept_texts.field-0;
      members = c.extend_from_slice.new.self;
    } in
    fact_same copy c.args.class.now c.in_ok-kept_text.ensures c.in_ok-kept_super.ensures refl refl
    (c.in_ok-kept_texts.ensures ∙ ap (map now) c.deref-2.ensures.value)
    (c.in_ok-extend_from_slice.ensures.items ∙ ap (λ xs. xs ++ c.deref.result.now) c.in_ok-members.ensures.items ∙ c.deref.ensures.value)
