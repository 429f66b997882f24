use Rattle.std.proofs.Common.{map, refl}
use Rattle.method_frames.specs.Objects.{replaced}
use Rattle.method_frames.proofs.MethodParts.{rows_run, stacks_stay, stacks_pushed, grown}
use Rattle.method_frames.proofs.method_frames.MethodFrames.initialize.Goals as goal

pub invariant_of-self : goal.invariant_of-self
invariant_of-self g c =
    let x = c.self.inside in
    grown x.locals c.replace.new.self x.stacks x.stacks (rows_run x.locals c.replace.new.self c.replace.new.self.running c.replace.ensures.size c.replace.ensures.rest) (stacks_stay x.stacks x.stacks refl)
    x.max_locals x.declared.items x.places.items c.self.invariant

pub invariant_of-self-in_err-replace-2 : goal.invariant_of-self-in_err-replace-2
invariant_of-self-in_err-replace-2 g c =
    let x = c.self.inside in
    grown x.locals c.replace.new.self x.stacks c.replace-2.new.self (rows_run x.locals c.replace.new.self c.replace.new.self.running c.replace.ensures.size c.replace.ensures.rest)
    (stacks_pushed x.stacks c.replace-2.new.self (map (replaced c.args.object c.args.class) x.stacks.running) c.replace-2.result c.replace-2.ensures.ok c.replace-2.ensures.err)
    x.max_locals x.declared.items x.places.items c.self.invariant

pub invariant_of-self-then-object-eq-OWN_OBJECT : goal.invariant_of-self-then-object-eq-OWN_OBJECT
invariant_of-self-then-object-eq-OWN_OBJECT g c =
    let x = c.self.inside in
    grown x.locals c.replace.new.self x.stacks c.replace-2.new.self (rows_run x.locals c.replace.new.self c.replace.new.self.running c.replace.ensures.size c.replace.ensures.rest)
    (stacks_pushed x.stacks c.replace-2.new.self (map (replaced c.args.object c.args.class) x.stacks.running) c.replace-2.result c.replace-2.ensures.ok c.replace-2.ensures.err)
    x.max_locals x.declared.items x.places.items c.self.invariant

pub invariant_of-self-else-object-eq-OWN_OBJECT : goal.invariant_of-self-else-object-eq-OWN_OBJECT
invariant_of-self-else-object-eq-OWN_OBJECT g c =
    let x = c.self.inside in
    grown x.locals c.replace.new.self x.stacks c.replace-2.new.self (rows_run x.locals c.replace.new.self c.replace.new.self.running c.replace.ensures.size c.replace.ensures.rest)
    (stacks_pushed x.stacks c.replace-2.new.self (map (replaced c.args.object c.args.class) x.stacks.running) c.replace-2.result c.replace-2.ensures.ok c.replace-2.ensures.err)
    x.max_locals x.declared.items x.places.items c.self.invariant
