use Rattle.std.proofs.Common.{◌≡◌, ◌∙◌, ◌+◌, suc, ap, refl, sym, subst, arith}
use Rattle.hierarchy.specs.private.Ancestry.{facts_at}
use Rattle.hierarchy.specs.private.Above.{number_of}
use Rattle.hierarchy.specs.private.Inheritance.{Declares}
use Rattle.hierarchy.specs.private.MemberNumbers.{AreLookups}
use Rattle.hierarchy.specs.Summary.{fact_of}
use Rattle.hierarchy.proofs.Descent.{above_sketched, chain_there, inherit_next, members_there, put_keeps, sketches_wide}
use Rattle.hierarchy.specs.private.Versions.{PutsAll}
use Rattle.hierarchy.proofs.Numbered.{declares_all}
use Rattle.hierarchy.proofs.InOrder.{class_read}
use Rattle.hierarchy.proofs.inheritance.InheritanceTable.next.Goals as goal

pub put-requires-clause-there : goal.put-requires-clause-there
put-requires-clause-there g c =
    let classes = g.C.Classes.content c.args.classes.now in
    let a = c.args.ancestry.now in
    let was = c.args.self.now in
    let s = c.index-class.result.now in
    let at = class_read a.classes.items c.len-place.result s (omega (arith, c.requires.left, c.len-place.ensures)) c.index-class.ensures in
    chain_there classes (facts_at a.classes.items) a refl c.requires.good c.args.numbers.now c.len-place.result (fact_of s.now) at was.versions was.versions was.versions was.packages was.packages was.of.items
    c.requires.begun c.above-above.result (c.above-above.ensures c.args.numbers.now c.requires.begun)

pub put_all-requires-clause-there : goal.put_all-requires-clause-there
put_all-requires-clause-there g c =
    let classes = g.C.Classes.content c.args.classes.now in
    let a = c.args.ancestry.now in
    let was = c.args.self.now in
    let s = c.index-class.result.now in
    let at = class_read a.classes.items c.len-place.result s (omega (arith, c.requires.left, c.len-place.ensures)) c.index-class.ensures in
    c.in_ok-ancestors.ensures.puts.stays c.above-above.result.members
    (members_there classes (facts_at a.classes.items) a refl c.requires.good c.args.numbers.now c.len-place.result (fact_of s.now) at was.versions was.versions was.versions was.packages was.packages was.of.items
    c.requires.begun c.above-above.result (c.above-above.ensures c.args.numbers.now c.requires.begun))

pub sketches_with-sketches-requires : goal.sketches_with-sketches-requires
sketches_with-sketches-requires g c =
    let classes = g.C.Classes.content c.args.classes.now in
    let a = c.args.ancestry.now in
    let was = c.args.self.now in
    let s = c.index-class.result.now in
    let at = class_read a.classes.items c.len-place.result s (omega (arith, c.requires.left, c.len-place.ensures)) c.index-class.ensures in
    sketches_wide classes (facts_at a.classes.items) a refl c.requires.good c.args.numbers.now c.len-place.result (fact_of s.now) at was.versions was.versions was.versions was.packages was.packages was.of.items
    c.requires.begun c.above-above.result (c.above-above.ensures c.args.numbers.now c.requires.begun)

pub returns-clause-begun : goal.returns-clause-begun
returns-clause-begun g c =
    let classes = g.C.Classes.content c.args.classes.now in
    let a = c.args.ancestry.now in
    let was = c.args.self.now in
    let s = c.index-class.result.now in
    let place = c.len-place.result in
    let at = class_read a.classes.items place s (omega (arith, c.requires.left, c.len-place.ensures)) c.index-class.ensures in
    let number = c.in_ok-package_number.ensures in
    let numbers = c.args.numbers.now in
    let above = c.above-above.result in
    let from = c.above-above.ensures numbers c.requires.begun in
    let one = c.put.new.self in
    let sketches = c.sketches_with-sketches.result in
    let sketched = c.sketches_with-sketches.ensures in
    let next : place + 1 ≡ suc place = omega arith in
    let first = put_keeps was.versions one above.ancestors place 1 c.in_ok-ancestors.ancestors c.in_ok-ancestors.ensures.puts in
    let zeros = above_sketched classes (facts_at a.classes.items) a refl c.requires.good numbers place (fact_of s.now) at was.versions was.versions was.versions was.packages was.packages was.of.items c.requires.begun above from
    sketches sketched.kept one first in
    inherit_next classes (facts_at a.classes.items) a refl c.requires.good numbers place (fact_of s.now) at was.versions one c.put_all.new.self was.packages c.number_of.new.numbers was.of.items
    c.requires.begun above from c.in_ok-ancestors.ancestors c.in_ok-members.members c.in_ok-package_number.package_number
    c.in_ok-ancestors.ensures.puts
    (subst (λ n. Declares numbers one c.put_all.new.self (fact_of s.now).members n above.members c.in_ok-members.members) next
    (declares_all numbers sketches one c.put_all.new.self (fact_of s.now).members c.in_ok-puts.puts.items (place + 1) above.members c.in_ok-members.members
    (c.in_ok-puts.ensures.values numbers c.requires.numbers (subst (λ ts. AreLookups numbers ts c.in_ok-lookups.lookups) c.deref.ensures.value c.in_ok-lookups.ensures)) zeros
    (subst (λ ps. PutsAll one c.put_all.new.self above.members ps c.in_ok-members.members) c.deref-2.ensures.value c.in_ok-members.ensures)))
    number.kept (ap (number_of c.number_of.new.numbers) (sym c.package_of.ensures) ∙ number.here) number.good sketches sketched.kept sketched.noted sketched.long
    c.push.new.self.items (omega (arith, c.len-place.ensures)) c.in_ok-push.ensures.items
