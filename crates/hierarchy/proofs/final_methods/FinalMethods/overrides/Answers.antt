use Rattle.std.proofs.Common.{◌∙◌, ap, refl, sym}
use Rattle.hierarchy.specs.private.FinalMethods.{IsFinalAbove}
use Rattle.hierarchy.specs.private.Sketches.{has_sketch}
use Rattle.hierarchy.specs.Summary.{member_of}
use Rattle.hierarchy.proofs.FinalAnswers.{in_package, is_everywhere, never, no_package, unnumbered, unsketched}
use Rattle.hierarchy.proofs.final_methods.FinalMethods.overrides.Goals as goal

pub returns-then-not-has_sketch-clause-answer : goal.returns-then-not-has_sketch-clause-answer
returns-then-not-has_sketch-clause-answer c classes a own texts has number asks name =
    let f = c.args.limits.now.finals.now in
    let m = member_of texts c.args.member.now in
    never (IsFinalAbove classes a.name own m)
    (unsketched classes c.args.self.now.numbers c.args.self.now.table.versions a f has own m (ap (has_sketch f.sketches) (sym name) ∙ sym c.has_sketch.ensures ∙ c.if-not-has_sketch.true))

pub returns-in_default-clause-answer : goal.returns-in_default-clause-answer
returns-in_default-clause-answer c classes a own texts has number asks name =
    let f = c.args.limits.now.finals.now in
    let m = member_of texts c.args.member.now in
    let told = (c.get.ensures c.args.self.now.numbers.members texts asks).1 in
    never (IsFinalAbove classes a.name own m) (unnumbered classes c.args.self.now.numbers c.args.self.now.table.versions a f has own m (sym told ∙ c.in_default.is))

pub returns-then-get_nested-ne0-clause-answer : goal.returns-then-get_nested-ne0-clause-answer
returns-then-get_nested-ne0-clause-answer c classes a own texts has number asks name =
    let f = c.args.limits.now.finals.now in
    let m = member_of texts c.args.member.now in
    let told = (c.get.ensures c.args.self.now.numbers.members texts asks).1 in
    let is = is_everywhere classes c.args.self.now.numbers c.args.self.now.table.versions a f has own m c.in-Some.number (sym told ∙ c.in-Some.is) c.len.result c.len.ensures.len
    (sym c.may_override.ensures ∙ c.if-not-may_override.false) (λ z. c.if-get_nested-ne0.true (c.get_nested.ensures ∙ z)) in
    (λ t. is, λ x. refl)

pub returns-in-None-clause-answer : goal.returns-in-None-clause-answer
returns-in-None-clause-answer c classes a own texts has number asks name =
    let f = c.args.limits.now.finals.now in
    let m = member_of texts c.args.member.now in
    let told = (c.get.ensures c.args.self.now.numbers.members texts asks).1 in
    never (IsFinalAbove classes a.name own m)
    (no_package classes c.args.self.now.numbers c.args.self.now.table.versions a f has own m c.in-Some.number (sym told ∙ c.in-Some.is) c.len.result c.len.ensures.len
    (sym c.get_nested.ensures ∙ c.if-get_nested-ne0.false) (sym number ∙ c.in-None.is))

pub returns-in-Some-package-clause-answer : goal.returns-in-Some-package-clause-answer
returns-in-Some-package-clause-answer c classes a own texts has number asks name =
    let f = c.args.limits.now.finals.now in
    let m = member_of texts c.args.member.now in
    let told = (c.get.ensures c.args.self.now.numbers.members texts asks).1 in
    in_package classes c.args.self.now.numbers c.args.self.now.table.versions a f has own m c.in-Some.number (sym told ∙ c.in-Some.is) c.len.result c.len.ensures.len
    (sym c.may_override.ensures ∙ c.if-not-may_override.false) (sym c.get_nested.ensures ∙ c.if-get_nested-ne0.false) c.in-Some-package.package c.get_nested-in-Some-package.result (sym number ∙ c.in-Some-package.is) c.get_nested-in-Some-package.ensures
