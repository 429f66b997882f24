use Rattle.std.proofs.Common.{◌∙◌, ◌<◌, length, sym, ap, subst, arith}
use Rattle.method_frames.specs.private.Stacks.{AreStacks}
use Rattle.method_frames.proofs.Heights.{is_height}
use Rattle.method_frames.proofs.Stacks.{stacks_changed, same_below, same_written, tops_above}
use Rattle.method_frames.proofs.StackComparing.{other_count, other_units, same_units}
use Rattle.method_frames.proofs.stack_rows.StackRows.answer.Goals as goal

pub returns-then-height-count-clause-told : goal.returns-then-height-count-clause-told
returns-then-height-count-clause-told g c =
    let x = c.self.inside in
    other_count x.items x.rows x.written x.high x.declared.items c.args.self.now c.self.view_is c.self.invariant c.args.stack c.requires c.index-height.result.now c.index-height.ensures
    (λ e. c.if-height-count.true (e ∙ sym c.count.ensures))

pub returns-then-height-wides-clause-told : goal.returns-then-height-wides-clause-told
returns-then-height-wides-clause-told g c =
    let x = c.self.inside in
    other_units x.items x.rows x.written x.high x.declared.items c.args.self.now c.self.view_is c.self.invariant c.args.stack c.requires c.index-height.result.now c.index-height.ensures
    (c.if-height-count.false ∙ c.count.ensures) c.wides.result c.wides.ensures c.if-height-wides.true

pub write-requires-clause-places : goal.write-requires-clause-places
write-requires-clause-places g c =
    let x = c.self.inside in
    let height = is_height x.items x.rows x.written x.high x.declared.items c.args.self.now c.self.view_is c.self.invariant c.args.stack c.requires c.index-height.result.now c.index-height.ensures in
    height.depth

pub invariant_of-self : goal.invariant_of-self
invariant_of-self g c =
    let x = c.self.inside in
    let k = c.self.invariant in
    let h = c.index-height.result.now in
    let height = is_height x.items x.rows x.written x.high x.declared.items c.args.self.now c.self.view_is c.self.invariant c.args.stack c.requires h c.index-height.ensures in
    let high = c.max-self-inside.result in
    stacks_changed x.items x.rows c.write.new.rows x.written x.high h.depth x.declared.items k c.write.ensures.only x.written high k.few
    (omega (arith, c.max-self-inside.ensures, k.low, height.depth))
    (same_below x.items x.rows c.write.new.rows x.written x.high h.depth x.declared.items k c.write.ensures.only)
    (tops_above x.items x.rows c.write.new.rows x.written x.high h.depth x.declared.items k c.write.ensures.only high (omega (arith, c.max-self-inside.ensures)) (omega (arith, c.max-self-inside.ensures)))

pub answer-requires : goal.answer-requires
answer-requires g c =
    let x = c.self.inside in
    let h = c.index-height.result.now in
    let height = is_height x.items x.rows x.written x.high x.declared.items c.args.self.now c.self.view_is c.self.invariant c.args.stack c.requires h c.index-height.ensures in
    record { row = subst (λ ds. h.row < length ds) (sym (ap (λ r. r.declared) c.write.ensures.only.rest)) height.row }

pub invariant_of-self-2 : goal.invariant_of-self-2
invariant_of-self-2 g c =
    let x = c.self.inside in
    let k = c.self.invariant in
    let h = c.index-height.result.now in
    let height = is_height x.items x.rows x.written x.high x.declared.items c.args.self.now c.self.view_is c.self.invariant c.args.stack c.requires h c.index-height.ensures in
    let high = c.max-self-inside.result in
    let count = c.if-height-count.false in
    subst (λ r. AreStacks x.items r h.depth high x.declared.items) (sym c.answer.ensures.same)
    (stacks_changed x.items x.rows c.write.new.rows x.written x.high h.depth x.declared.items k c.write.ensures.only h.depth high (omega (arith, count, c.count.ensures))
    (omega (arith, c.max-self-inside.ensures, k.low, height.depth))
    (same_written x.items x.rows c.write.new.rows x.written x.high h.depth x.declared.items k c.write.ensures.only c.in_ok-write.ensures.held)
    (tops_above x.items x.rows c.write.new.rows x.written x.high h.depth x.declared.items k c.write.ensures.only high (omega (arith, c.max-self-inside.ensures)) (omega (arith, c.max-self-inside.ensures))))

pub returns-clause-told : goal.returns-clause-told
returns-clause-told g c =
    let x = c.self.inside in
    c.answer.ensures.told
    ∙ same_units x.items x.rows x.written x.high x.declared.items c.args.self.now c.self.view_is c.self.invariant c.args.stack c.requires c.index-height.result.now c.index-height.ensures
    (c.if-height-count.false ∙ c.count.ensures) c.wides.result c.wides.ensures c.if-height-wides.false c.write.new.rows c.write.ensures.only c.in_ok-write.ensures.held
