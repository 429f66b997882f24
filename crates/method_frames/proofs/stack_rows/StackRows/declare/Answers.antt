use Rattle.std.proofs.Common.{◌≤◌, length, Result, Ok, Err, OnErr, sym, subst, arith}
use Rattle.method_frames.specs.private.Stacks.{AreStacks}
use Rattle.method_frames.specs.declared.stack_rows.Height.{Height}
use Rattle.method_frames.proofs.Stacks.{stacks_changed, same_below, tops_above, view_changed, stacks_level, stacks_more, view_more, stacks_declared, view_declared}
use Rattle.method_frames.proofs.stack_rows.StackRows.declare.Goals as goal

on_err : {A E P : Type 0} (r : Result A E) → P → OnErr r P
on_err (Ok a) p = tt
on_err (Err e) p = p

pub invariant_of-self : goal.invariant_of-self
invariant_of-self g c =
    let x = c.self.inside in
    let k = c.self.invariant in
    let few : length x.items ≤ length x.rows.running = subst (λ y. length y.running ≤ y.limit) (sym c.self.view_is) c.requires in
    let to = c.max-self-inside.result in
    stacks_changed x.items x.rows c.write.new.rows x.written x.high to x.declared.items k c.write.ensures.only x.written to k.few
    (omega (arith, c.max-self-inside.ensures, c.count-depth.ensures, k.low, few))
    (same_below x.items x.rows c.write.new.rows x.written x.high to x.declared.items k c.write.ensures.only)
    (tops_above x.items x.rows c.write.new.rows x.written x.high to x.declared.items k c.write.ensures.only to (omega (arith, c.max-self-inside.ensures)) (omega arith))

pub invariant_of-self-in_err-declare : goal.invariant_of-self-in_err-declare
invariant_of-self-in_err-declare g c =
    let x = c.self.inside in
    let k = c.self.invariant in
    let few : length x.items ≤ length x.rows.running = subst (λ y. length y.running ≤ y.limit) (sym c.self.view_is) c.requires in
    let to = c.max-self-inside.result in
    let depth = c.count-depth.result in
    subst (λ r. AreStacks x.items r depth depth x.declared.items) (sym c.in_err-declare.ensures.err)
    (stacks_level x.items x.rows c.write.new.rows x.written x.high to x.declared.items k c.write.ensures.only c.in_ok-write.ensures.held (omega (arith, c.max-self-inside.ensures)) (omega (arith, c.max-self-inside.ensures, c.count-depth.ensures))
    (omega (arith, c.max-self-inside.ensures, c.count-depth.ensures, k.low, few)) depth c.count-depth.ensures)

pub invariant_of-self-in_err-push : goal.invariant_of-self-in_err-push
invariant_of-self-in_err-push g c =
    let x = c.self.inside in
    let k = c.self.invariant in
    let few : length x.items ≤ length x.rows.running = subst (λ y. length y.running ≤ y.limit) (sym c.self.view_is) c.requires in
    let to = c.max-self-inside.result in
    let depth = c.count-depth.result in
    let level = stacks_level x.items x.rows c.write.new.rows x.written x.high to x.declared.items k c.write.ensures.only c.in_ok-write.ensures.held (omega (arith, c.max-self-inside.ensures)) (omega (arith, c.max-self-inside.ensures, c.count-depth.ensures))
    (omega (arith, c.max-self-inside.ensures, c.count-depth.ensures, k.low, few)) depth c.count-depth.ensures in
    stacks_more x.items c.write.new.rows depth depth x.declared.items level c.declare.new.self c.in_ok-declare.ensures.ok c.push.new.self.items c.in_err-push.ensures.items

pub returns-in_err-push-clause-err : goal.returns-in_err-push-clause-err
returns-in_err-push-clause-err g c =
    let x = c.self.inside in
    let k = c.self.invariant in
    let few : length x.items ≤ length x.rows.running = subst (λ y. length y.running ≤ y.limit) (sym c.self.view_is) c.requires in
    let to = c.max-self-inside.result in
    let depth = c.count-depth.result in
    let level = stacks_level x.items x.rows c.write.new.rows x.written x.high to x.declared.items k c.write.ensures.only c.in_ok-write.ensures.held (omega (arith, c.max-self-inside.ensures)) (omega (arith, c.max-self-inside.ensures, c.count-depth.ensures))
    (omega (arith, c.max-self-inside.ensures, c.count-depth.ensures, k.low, few)) depth c.count-depth.ensures in
    on_err c.from_residual-in_err-push.result
    (view_more x.items c.write.new.rows depth depth x.declared.items level c.declare.new.self c.in_ok-declare.ensures.ok c.push.new.self.items c.in_err-push.ensures.items
    c.args.self.now (view_changed x.items x.rows c.write.new.rows x.written x.high to x.declared.items k c.write.ensures.only c.args.self.now c.self.view_is))

pub invariant_of-self-2 : goal.invariant_of-self-2
invariant_of-self-2 g c =
    let x = c.self.inside in
    let k = c.self.invariant in
    let few : length x.items ≤ length x.rows.running = subst (λ y. length y.running ≤ y.limit) (sym c.self.view_is) c.requires in
    let to = c.max-self-inside.result in
    let depth = c.count-depth.result in
    let level = stacks_level x.items x.rows c.write.new.rows x.written x.high to x.declared.items k c.write.ensures.only c.in_ok-write.ensures.held (omega (arith, c.max-self-inside.ensures)) (omega (arith, c.max-self-inside.ensures, c.count-depth.ensures))
    (omega (arith, c.max-self-inside.ensures, c.count-depth.ensures, k.low, few)) depth c.count-depth.ensures in
    let h : Height = record { row = c.in_ok-declare.field-0; depth = depth; wides = c.wides.result } in
    stacks_declared x.items c.write.new.rows depth depth x.declared.items level c.declare.new.self c.in_ok-declare.ensures.ok c.push.new.self.items
    h c.in_ok-declare.ensures.place c.count-depth.ensures c.count-depth.ensures c.count-depth.ensures c.wides.ensures c.in_ok-push.ensures.items

pub returns-clause-ok : goal.returns-clause-ok
returns-clause-ok g c =
    let x = c.self.inside in
    let k = c.self.invariant in
    let few : length x.items ≤ length x.rows.running = subst (λ y. length y.running ≤ y.limit) (sym c.self.view_is) c.requires in
    let to = c.max-self-inside.result in
    let depth = c.count-depth.result in
    let level = stacks_level x.items x.rows c.write.new.rows x.written x.high to x.declared.items k c.write.ensures.only c.in_ok-write.ensures.held (omega (arith, c.max-self-inside.ensures)) (omega (arith, c.max-self-inside.ensures, c.count-depth.ensures))
    (omega (arith, c.max-self-inside.ensures, c.count-depth.ensures, k.low, few)) depth c.count-depth.ensures in
    let h : Height = record { row = c.in_ok-declare.field-0; depth = depth; wides = c.wides.result } in
    view_declared x.items c.write.new.rows depth depth x.declared.items level c.declare.new.self c.in_ok-declare.ensures.ok c.push.new.self.items
    h c.in_ok-declare.ensures.place c.count-depth.ensures c.count-depth.ensures c.count-depth.ensures c.wides.ensures c.in_ok-push.ensures.items
    c.args.self.now (view_changed x.items x.rows c.write.new.rows x.written x.high to x.declared.items k c.write.ensures.only c.args.self.now c.self.view_is)
