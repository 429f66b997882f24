use Rattle.std.proofs.Common.{ℕ, Err, refl, sym, ap, ◌∙◌}
use Rattle.names.specs.declared.fault.NameFault.TheVariants.{BadText}
use Rattle.names.proofs.UnitLaws.{good_is_text, text_is_good, bad_is_first, first_bad_is_found, not_both, same_place}
use Rattle.names.proofs.text.text_of.Goals as goal

pub invariant_of-result : goal.invariant_of-result
invariant_of-result c = let t = good_is_text c.args.bytes.now (sym c.requires ∙ c.in-None.is) in record { well_spelled = ∣ t ∣₁ }

pub returns-in-None-clause-text : goal.returns-in-None-clause-text
returns-in-None-clause-text c = (refl, good_is_text c.args.bytes.now (sym c.requires ∙ c.in-None.is))

pub returns-in-None-clause-refused : goal.returns-in-None-clause-refused
returns-in-None-clause-refused c = λ at first. absurd (not_both at (sym c.in-None.is ∙ c.requires ∙ first_bad_is_found c.args.bytes.now at first))

pub returns-in-Some-clause-accepted : goal.returns-in-Some-clause-accepted
returns-in-Some-clause-accepted c = λ t. absurd (not_both c.in-Some.at (sym (text_is_good c.args.bytes.now t) ∙ sym c.requires ∙ c.in-Some.is))

pub returns-in-Some-clause-fault : goal.returns-in-Some-clause-fault
returns-in-Some-clause-fault c = (c.in-Some.at, refl, bad_is_first c.args.bytes.now c.in-Some.at (sym c.requires ∙ c.in-Some.is))

pub returns-in-Some-clause-refused : goal.returns-in-Some-clause-refused
returns-in-Some-clause-refused c = λ at first. ap (λ (k : ℕ). Err (BadText k)) (same_place c.in-Some.at at (sym c.in-Some.is ∙ c.requires ∙ first_bad_is_found c.args.bytes.now at first))
