use Rattle.std.proofs.Common.{◌-◌, ◌/◌, refl}
use Rattle.hierarchy.specs.declared.versions.Put.{Put}
use Rattle.hierarchy.specs.declared.versions.Split.{Split}
use Rattle.hierarchy.proofs.Putting.{take_even, take_odd}
use Rattle.hierarchy.proofs.versions.Split.take.Goals as goal

pub returns-in_ok-push : goal.returns-in_ok-push
returns-in_ok-push c =
    let old = c.args.self.now in
    let p = c.args.put in
    let new : Split = record { value = old.value; odd = c.push.new.self; even = old.even } in
    let below : Put = record { index = (p.index - 1) / 2; value = p.value } in
    take_odd old new p c.if-put-eq0.false below refl refl c.if-put-eq1.true refl c.in_ok-push.ensures.items refl

pub returns-in_ok-push-2 : goal.returns-in_ok-push-2
returns-in_ok-push-2 c =
    let old = c.args.self.now in
    let p = c.args.put in
    let new : Split = record { value = old.value; odd = old.odd; even = c.push-else-put-eq1.new.self } in
    let below : Put = record { index = (p.index - 1) / 2; value = p.value } in
    take_even old new p c.if-put-eq0.false below refl refl c.if-put-eq1.false refl refl c.in_ok-push-2.ensures.items
