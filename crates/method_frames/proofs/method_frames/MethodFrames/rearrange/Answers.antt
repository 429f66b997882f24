use Rattle.std.proofs.Common.{refl}
use Rattle.insn.specs.OperandStacks.{rearranged}
use Rattle.insn.specs.Views.{stack_form_view}
use Rattle.method_frames.proofs.MethodParts.{rows_stay, stacks_moved, grown}
use Rattle.method_frames.proofs.method_frames.MethodFrames.rearrange.Goals as goal

pub invariant_of-self : goal.invariant_of-self
invariant_of-self g c =
    let x = c.self.inside in
    grown x.locals x.locals x.stacks c.rearrange.new.self (rows_stay x.locals x.locals refl)
    (stacks_moved x.stacks c.rearrange.new.self (rearranged (stack_form_view c.args.form) x.stacks.running) c.rearrange.result c.rearrange.ensures.ok c.rearrange.ensures.err)
    x.max_locals x.declared.items x.places.items c.self.invariant
