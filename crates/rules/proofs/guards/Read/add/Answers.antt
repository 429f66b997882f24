use Rattle.std.proofs.Common.{◌≡◌, arith, length, refl, subst}
use Rattle.hierarchy.specs.declared.member_references.MemberRef.{MemberRef}
use Rattle.rules.specs.declared.guards.Read.{Read}
use Rattle.rules.specs.Guards.{Numbers}
use Rattle.rules.proofs.Guarding.{added}
use Rattle.rules.proofs.guards.Read.add.Goals as goal

pub returns : goal.returns
returns c =
    let old = c.args.self.now in
    let new : Read = record { classes = c.place_once.new.self; texts = c.place-2.new.self; members = c.push.new.self } in
    let m : MemberRef = record { class = c.in_ok-class.class; places = record { kind = c.args.key.kind; name = c.in_ok-name.name; descriptor = c.in_ok-descriptor.descriptor } } in
    let same : length old.members.items ≡ c.len-number.result = omega (arith, c.len-number.ensures, old.members.ok) in
    subst (Numbers c.args.pool.now old new c.args.key) same
    (added c.args.pool.now old new c.place.new.self c.args.key m c.in_ok-push.ensures.items c.in_ok-class.ensures c.in_ok-name.ensures c.in_ok-descriptor.ensures refl)
