use Rattle.std.proofs.Common.{◌≡◌, inr, map, refl, sym, ap, ◌∙◌, subst}
use Rattle.std.proofs.lemmas.Bool.{false≢true}
use Rattle.hierarchy.specs.Class.{world_of}
use Rattle.machine.specs.Values.{all_slots}
use Rattle.machine.specs.Heap.{Heap}
use Rattle.machine.specs.Bodies.{method_view}
use Rattle.machine.specs.Views.{value_view, heap_view, stack_of, locals_of, state_view}
use Rattle.machine.specs.private.Beginnings.{Beginning, beginning_of, beginning_view, MayBegin}
use Rattle.machine.proofs.Starting.{may_begin, begins_so}
use Rattle.machine.proofs.beginnings.initial.Goals as goal

pub returns-then-not-may_begin-clause-refused : goal.returns-then-not-may_begin-clause-refused
returns-then-not-may_begin-clause-refused g c =
    let w = world_of (g.C.Classes.content c.args.classes.now) in
    let m = method_view c.args.method.now in
    let vs = map value_view c.args.args.now in
    let h = heap_view c.args.heap.now in
    inr (refl, λ s x. false≢true (sym c.if-not-may_begin.true ∙ c.may_begin.ensures.1 (subst (λ b. MayBegin w b vs h) (sym c.in_ok-beginning.ensures) (may_begin w m vs h s x))))

pub returns-clause-begins : goal.returns-clause-begins
returns-clause-begins g c =
    let w = world_of (g.C.Classes.content c.args.classes.now) in
    let m = method_view c.args.method.now in
    let vs = map value_view c.args.args.now in
    let h = heap_view c.args.heap.now in
    let may : MayBegin w (beginning_of m) vs h = subst (λ b. MayBegin w b vs h) c.in_ok-beginning.ensures (c.may_begin.ensures.0 c.if-not-may_begin.false) in
    let s = state_view record { at = 0; stack = c.new.result; locals = c.in_ok-locals_with.field-0; heap = c.in_ok-copy_of.field-0 } in
    let locals : s.locals ≡ all_slots m.max_locals vs = c.in_ok-locals_with.ensures ∙ ap (λ (b : Beginning). all_slots b.max_locals vs) c.in_ok-beginning.ensures in
    let x = begins_so w m vs s (subst (MayBegin w (beginning_of m) vs) (sym c.in_ok-copy_of.ensures) may) refl (ap stack_of c.new.ensures.items) locals in
    record { initial = x.initial; with_values = x.with_values; with_objects = c.in_ok-copy_of.ensures }
