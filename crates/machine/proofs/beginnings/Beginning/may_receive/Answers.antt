use Rattle.std.proofs.Common.{◌≡◌, ◌∷◌, ℕ, Option, Some, None, map, get_or, sym, ap, ◌∙◌, subst}
use Rattle.hierarchy.specs.Class.{world_of}
use Rattle.machine.specs.declared.items.Value.TheVariants.{Int}
use Rattle.machine.specs.Values.{reference}
use Rattle.machine.specs.Views.{value_view, heap_view}
use Rattle.machine.specs.private.Beginnings.{beginning_view, BehindReceiver, MayBegin}
use Rattle.machine.proofs.ReadBack.{behind_first, cut}
use Rattle.machine.proofs.Starting.{ready_first, ready_begins}
use Rattle.machine.proofs.beginnings.Beginning.may_receive.Goals as goal

pub returns : goal.returns
returns g c =
    let w = world_of (g.C.Classes.content c.args.classes.now) in
    let b = beginning_view c.args.self.now in
    let h = heap_view c.args.heap.now in
    let vs = c.args.values.now in
    let v = value_view (get_or vs 0 Int) in
    let rest = map value_view (behind_first vs) in
    let here : map value_view vs ≡ v ∷ rest = cut value_view vs Int c.in-len1-up.len_at_least in (
      (λ t.
          subst (λ z. MayBegin w b z h) (sym here)
          (ready_begins w b h c.requires v rest (c.is_receiver.ensures.0 c.if-not-is_receiver.false) (subst (λ z. BehindReceiver w b None z rest h) here (c.may_take.ensures.0 t)))),
      (λ x. c.may_take.ensures.1 (subst (λ z. BehindReceiver w b None z rest h) (sym here) (ready_first w b h c.requires v rest (subst (λ z. MayBegin w b z h) here x)).1)),
    )
