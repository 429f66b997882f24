use Rattle.std.proofs.Common.{◌≡◌, ◌∙◌, Some, None, ap, sym, subst}
use Rattle.hierarchy.specs.private.Above.{number_of}
use Rattle.hierarchy.specs.private.MemberNumbers.{AreLookups}
use Rattle.hierarchy.specs.private.Versions.{PutsNested}
use Rattle.hierarchy.specs.Nearest.{package_of}
use Rattle.hierarchy.specs.Summary.{fact_of}
use Rattle.hierarchy.proofs.FinalEntries.{adds_nothing, adds_ones, not_final}
use Rattle.hierarchy.proofs.final_methods.FinalTable.entry.Goals as goal

pub returns-then-not-has_final-clause-adds : goal.returns-then-not-has_final-clause-adds
returns-then-not-has_final-clause-adds c =
    adds_nothing c.args.numbers.now c.args.self.now.versions c.args.above (fact_of c.args.class.now) c.requires.good c.requires.there c.requires.named c.requires.long (c.has_final.ensures c.if-not-has_final.true)

pub returns-in_default-clause-adds : goal.returns-in_default-clause-adds
returns-in_default-clause-adds c =
    let packages = c.args.numbers.now.packages in
    let fact = fact_of c.args.class.now in
    let none : number_of packages (package_of fact.name) ≡ None = ap (number_of packages) (sym c.package_of.ensures) ∙ sym c.in_default.ensures.value in
    adds_nothing c.args.numbers.now c.args.self.now.versions c.args.above fact c.requires.good c.requires.there c.requires.named c.requires.long (not_final packages fact none c.requires.packaged)

pub returns-clause-adds : goal.returns-clause-adds
returns-clause-adds c =
    let s = c.args.class.now in
    let numbers = c.args.numbers.now in
    let members = numbers.members in
    let own = c.in-Some.package.now in
    let is_own : number_of numbers.packages (package_of s.name.now) ≡ Some own = ap (number_of numbers.packages) (sym c.package_of.ensures) ∙ sym c.in-Some.ensures.value in
    let asks = subst (λ ts. AreLookups members ts c.in_ok-lookups.lookups) c.deref.ensures.value c.in_ok-lookups.ensures in
    let ones = c.in_ok-puts.ensures.ones members c.requires.members asks in
    let ones_too = c.in_ok-puts-2.ensures.ones members c.requires.members (c.in_ok-puts.ensures.lookups members asks) in
    let puts = subst (λ ps. PutsNested c.args.self.now.versions c.put_nested.new.self c.args.above.scopes c.len.result ps c.in_ok-scopes.scopes) c.deref-2.ensures.value c.in_ok-scopes.ensures in
    let puts_too = subst (λ ps. PutsNested c.put_nested.new.self c.put_nested-2.new.self c.in_ok-scopes.scopes own ps c.in_ok-scopes-2.scopes) c.deref-3.ensures.value c.in_ok-scopes-2.ensures in
    let sketched = c.sketches_with-sketches.ensures in
    adds_ones numbers c.requires.packages (fact_of s) own is_own c.args.self.now.versions c.put_nested.new.self c.put_nested-2.new.self c.args.above c.in_ok-scopes.scopes c.in_ok-scopes-2.scopes c.len.result c.len.ensures.len
    c.in_ok-puts.puts.items c.in_ok-puts-2.puts.items ones ones_too puts puts_too c.sketches_with-sketches.result sketched.long sketched.kept sketched.noted
