use Rattle.std.proofs.Common.{subst, sym}
use Rattle.type_numbers.specs.Numbers.{IsGiven}
use Rattle.method_frames.specs.NumberedStacks.{NumberedStacks}
use Rattle.method_frames.proofs.ObjectTypes.{BecomesAsTypes, as_types}
use Rattle.method_frames.proofs.StackReplacing.{stacks_partly, stacks_replaced}
use Rattle.method_frames.proofs.stack_rows.StackRows.replace.Goals as goal

pub invariant_of-self : goal.invariant_of-self
invariant_of-self g c =
    let x = c.self.inside in
    stacks_partly x.items x.rows c.replace.new.self x.written x.high x.declared.items c.self.invariant c.args.object c.args.by c.requires.object c.replace.ensures.rest c.replace.ensures.size c.replace.ensures.each

pub invariant_of-self-2 : goal.invariant_of-self-2
invariant_of-self-2 g c =
    let x = c.self.inside in
    let given = subst (λ y. IsGiven y.types c.args.by) (sym c.self.view_is) c.requires.given in
    stacks_replaced x.items x.rows c.replace.new.self x.written x.high x.declared.items c.self.invariant c.args.object c.args.by c.requires.object c.replace.ensures.rest c.replace.ensures.size c.replace.ensures.each
    given c.in_ok-replace.ensures.ok c.replace-2.new.self c.replace-2.ensures

pub returns-clause-types : goal.returns-clause-types
returns-clause-types g c =
    let x = c.self.inside in
    subst (λ (y : NumberedStacks). BecomesAsTypes y.types c.args.object c.args.by y.running c.replace-2.new.self) c.self.view_is
    (as_types x.rows.types c.args.object c.args.by x.items c.replace-2.new.self c.self.invariant.given c.replace-2.ensures)
