use Rattle.std.proofs.Common.{◌≡◌, ◌++◌, List, [], ℕ, length, map, refl, sym, ap, ◌∙◌, subst, arith, eqb-true, true, false}
use Rattle.std.proofs.lemmas.Bool.{false≢true}
use Rattle.std.proofs.lemmas.List.{length-map}
use Rattle.classfile.specs.CodeMethods.{code_method_view}
use Rattle.classfile.specs.Methods.{Method}
use Rattle.hierarchy.specs.Class.{world_of}
use Rattle.machine.specs.Values.{Value}
use Rattle.machine.specs.Views.{value_view, slot_view, locals_of, state_view}
use Rattle.machine.specs.private.Beginnings.{Beginning, beginning_of, beginning_view, values_of, StandIn, TakesValues, MayBegin}
use Rattle.machine.proofs.Starting.{same_values, values_in, stand_in, may_begin_in, in_all, begins_so}
use Rattle.machine.proofs.ReadBack.{no_operands}
use Rattle.machine.proofs.beginnings.is_initial.Goals as goal

pub returns-then-not-branch : goal.returns-then-not-branch
returns-then-not-branch g c =
    let w = world_of (g.C.Classes.content c.args.classes.now) in
    let m : Method ℕ = code_method_view c.args.method.now [] in
    let s = state_view c.args.state.now in
    let new = map value_view c.take_values.new.values.items in
    let count : c.count.result ≡ values_of (beginning_of m) = c.count.ensures ∙ ap values_of c.in_ok-beginning.ensures in
    let none : TakesValues c.count.result (locals_of c.deref.result.now) [] new false =
    subst (λ old. TakesValues c.count.result (locals_of c.deref.result.now) (map value_view old) new false) c.new-values.ensures.items
    (subst (λ b. TakesValues c.count.result (locals_of c.deref.result.now) (map value_view c.new-values.result.items) new b) c.if-not-branch.true c.in_ok-take_values.ensures) in (
      (λ t. absurd (false≢true t)),
      (λ i. absurd (none (values_in w m s i) (subst (λ n. StandIn n (locals_of c.deref.result.now) (values_in w m s i)) (sym count) (subst (λ z. StandIn (values_of (beginning_of m)) (locals_of z) (values_in w m s i)) (sym c.deref.ensures.value) (stand_in w m s i))))),
    )

pub returns : goal.returns
returns g c =
    let w = world_of (g.C.Classes.content c.args.classes.now) in
    let m : Method ℕ = code_method_view c.args.method.now [] in
    let s = state_view c.args.state.now in
    let new = map value_view c.take_values.new.values.items in
    let count : c.count.result ≡ values_of (beginning_of m) = c.count.ensures ∙ ap values_of c.in_ok-beginning.ensures in
    let taken : TakesValues c.count.result (locals_of c.deref.result.now) [] new true =
    subst (λ old. TakesValues c.count.result (locals_of c.deref.result.now) (map value_view old) new true) c.new-values.ensures.items
    (subst (λ b. TakesValues c.count.result (locals_of c.deref.result.now) (map value_view c.new-values.result.items) new b) c.if-not-branch.false c.in_ok-take_values.ensures) in
    let there : StandIn (values_of (beginning_of m)) s.locals new =
    subst (λ n. StandIn n s.locals new) count (subst (λ z. StandIn c.count.result (locals_of z) new) c.deref.ensures.value (subst (StandIn c.count.result (locals_of c.deref.result.now)) (sym taken.1) taken.2)) in
    let long : length s.locals ≡ m.max_locals =
    length-map c.args.state.now.locals.items slot_view ∙ sym c.args.state.now.locals.ok.0 ∙ sym c.len.ensures ∙ c.if-len-from.false ∙ c.from.ensures ∙ ap (λ (b : Beginning). b.max_locals) c.in_ok-beginning.ensures in
    let values : map value_view c.deref-2.result.now ≡ new = ap (map value_view) c.deref-2.ensures.value in (
      (λ t.
          let may : MayBegin w (beginning_of m) new s.heap =
          subst (λ z. MayBegin w (beginning_of m) z s.heap) values (subst (λ b. MayBegin w b (map value_view c.deref-2.result.now) s.heap) c.in_ok-beginning.ensures (c.may_begin.ensures.0 t)) in
          (begins_so w m new s may (sym c.offset.ensures ∙ c.if-offset-ne0.false) (no_operands c.args.state.now.stack.items (sym c.args.state.now.stack.ok.0 ∙ eqb-true c.args.state.now.stack.len 0 (sym c.is_empty.ensures ∙ c.if-not-is_empty.false))) (in_all w m s new long there)).initial),
      (λ i.
          let same : values_in w m s i ≡ new = same_values (values_of (beginning_of m)) s.locals (values_in w m s i) new (stand_in w m s i) there in
          c.may_begin.ensures.1
          (subst (λ b. MayBegin w b (map value_view c.deref-2.result.now) s.heap) (sym c.in_ok-beginning.ensures)
          (subst (λ z. MayBegin w (beginning_of m) z s.heap) (same ∙ sym values) (may_begin_in w m s i)))),
    )
