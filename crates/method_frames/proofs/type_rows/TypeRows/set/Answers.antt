use Rattle.std.proofs.Common.{rules, subst, sym}
use Rattle.type_numbers.specs.Numbers.{IsGiven}
use Rattle.method_frames.proofs.Holding.{held_kept, put_held}
use Rattle.method_frames.proofs.type_rows.TypeRows.set.Goals as goal

pub invariant_of-self : goal.invariant_of-self
invariant_of-self g c =
    let x = c.self.inside in
    record { held = held_kept x.holders c.list.new.self c.list.ensures.kept x.types.now x.rows c.self.invariant.held; lacking = search rules }

pub invariant_of-self-2 : goal.invariant_of-self-2
invariant_of-self-2 g c =
    let x = c.self.inside in
    let given = subst (λ y. IsGiven y.types c.args.number) (sym c.self.view_is) c.requires.given in
    record {
      held = put_held x.types.now x.rows c.set.new.self c.args.place c.args.number c.set.result x.holders c.list.new.self c.self.invariant.held c.list.ensures.kept c.in_ok-list.ensures.listed given
          c.set.ensures.ok c.set.ensures.err;
      lacking = search rules;
    }
