use Rattle.std.proofs.Common.{◌∙◌, arith, ap, sym, reverse, take}
use Rattle.method_frames.proofs.Heights.{is_height, its_stack}
use Rattle.method_frames.proofs.Stacks.{taken_deep, stacks_taken, all_taken, view_taken}
use Rattle.method_frames.proofs.stack_rows.StackRows.take.Goals as goal

pub take-requires : goal.take-requires
take-requires g c =
    let x = c.self.inside in
    let height = is_height x.items x.rows x.written x.high x.declared.items c.args.self.now c.self.view_is c.self.invariant c.args.stack c.requires c.index-height.result.now c.index-height.ensures in
    height.row

pub read-requires : goal.read-requires
read-requires g c =
    let x = c.self.inside in
    let h = c.index-height.result.now in
    let height = is_height x.items x.rows x.written x.high x.declared.items c.args.self.now c.self.view_is c.self.invariant c.args.stack c.requires h c.index-height.ensures in
    taken_deep x.items x.rows c.take.new.self x.written x.high x.declared.items c.self.invariant h height c.take.ensures

pub invariant_of-self : goal.invariant_of-self
invariant_of-self g c =
    let x = c.self.inside in
    let h = c.index-height.result.now in
    let height = is_height x.items x.rows x.written x.high x.declared.items c.args.self.now c.self.view_is c.self.invariant c.args.stack c.requires h c.index-height.ensures in
    stacks_taken x.items x.rows c.take.new.self x.written x.high x.declared.items c.self.invariant h height c.take.ensures
    c.read.new.items 0 c.read.ensures.given (omega arith) (λ p lt. absurd (omega (arith, lt)))

pub returns-in_err-read-clause-rest : goal.returns-in_err-read-clause-rest
returns-in_err-read-clause-rest g c =
    let x = c.self.inside in
    let h = c.index-height.result.now in
    let height = is_height x.items x.rows x.written x.high x.declared.items c.args.self.now c.self.view_is c.self.invariant c.args.stack c.requires h c.index-height.ensures in
    view_taken x.items x.rows c.take.new.self x.written x.high x.declared.items c.self.invariant h height c.take.ensures c.read.new.items c.args.self.now c.self.view_is

pub invariant_of-self-2 : goal.invariant_of-self-2
invariant_of-self-2 g c =
    let x = c.self.inside in
    let h = c.index-height.result.now in
    let height = is_height x.items x.rows x.written x.high x.declared.items c.args.self.now c.self.view_is c.self.invariant c.args.stack c.requires h c.index-height.ensures in
    all_taken x.items x.rows c.take.new.self x.written x.high x.declared.items c.self.invariant h height c.take.ensures c.read.new.items c.read.ensures.given c.in_ok-read.ensures.all

pub returns-clause-rest : goal.returns-clause-rest
returns-clause-rest g c =
    let x = c.self.inside in
    let h = c.index-height.result.now in
    let height = is_height x.items x.rows x.written x.high x.declared.items c.args.self.now c.self.view_is c.self.invariant c.args.stack c.requires h c.index-height.ensures in
    view_taken x.items x.rows c.take.new.self x.written x.high x.declared.items c.self.invariant h height c.take.ensures c.read.new.items c.args.self.now c.self.view_is

pub returns-clause-ok : goal.returns-clause-ok
returns-clause-ok g c =
    let x = c.self.inside in
    let h = c.index-height.result.now in
    c.in_ok-read.ensures.all ∙ ap (λ r. reverse (take h.depth r.running)) c.take.ensures
    ∙ sym (its_stack x.items x.rows x.written x.high x.declared.items c.args.self.now c.self.view_is c.self.invariant c.args.stack c.requires h c.index-height.ensures)
