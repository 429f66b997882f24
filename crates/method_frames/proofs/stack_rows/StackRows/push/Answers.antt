use Rattle.std.proofs.Common.{sym, subst}
use Rattle.type_numbers.specs.Numbers.{IsGiven}
use Rattle.method_frames.proofs.Stacks.{pushed_or_kept}
use Rattle.method_frames.proofs.stack_rows.StackRows.push.Goals as goal

pub invariant_of-self : goal.invariant_of-self
invariant_of-self g c =
    let x = c.self.inside in
    let given = subst (λ y. IsGiven y.types c.args.number) (sym c.self.view_is) c.requires in
    pushed_or_kept x.items c.push.new.self c.args.number x.rows x.written x.high x.declared.items c.push.result c.self.invariant given c.push.ensures.ok c.push.ensures.err
