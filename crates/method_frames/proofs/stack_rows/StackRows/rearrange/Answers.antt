use Rattle.std.proofs.Common.{◌≤◌, length, sym, subst, arith}
use Rattle.insn.specs.Views.{stack_form_view}
use Rattle.method_frames.proofs.Stacks.{stacks_rearranged}
use Rattle.method_frames.proofs.stack_rows.StackRows.rearrange.Goals as goal

pub invariant_of-self-in_default : goal.invariant_of-self-in_default
invariant_of-self-in_default g c =
    let x = c.self.inside in
    let fits : length c.args.form.takes.now ≤ length x.items = subst (λ y. length c.args.form.takes.now ≤ length y.running) (sym c.self.view_is) c.requires in
    stacks_rearranged (stack_form_view c.args.form) x.items c.rearrange.new.self c.in_default.ensures.ok fits x.rows x.written x.high c.min-self-inside.result x.declared.items c.self.invariant
    (omega (arith, c.min-self-inside.ensures)) (omega (arith, c.min-self-inside.ensures, c.count.ensures))
