use Rattle.std.proofs.Common.{◌≡◌, ◌∷◌, ℕ, Option, Some, None, map, get_or, sym, ap, ◌∙◌, subst}
use Rattle.hierarchy.specs.Class.{world_of}
use Rattle.machine.specs.declared.items.Value.TheVariants.{Int}
use Rattle.machine.specs.Values.{reference}
use Rattle.machine.specs.Views.{value_view, heap_view}
use Rattle.machine.specs.private.Beginnings.{beginning_view, BehindReceiver, MayBegin}
use Rattle.machine.proofs.ReadBack.{behind_first, cut}
use Rattle.machine.proofs.Starting.{own_first, own_begins}
use Rattle.machine.proofs.beginnings.Beginning.may_make.Goals as goal

pub returns : goal.returns
returns g c =
    let w = world_of (g.C.Classes.content c.args.classes.now) in
    let b = beginning_view c.args.self.now in
    let h = heap_view c.args.heap.now in
    let vs = c.args.values.now in
    let v = value_view (get_or vs 0 Int) in
    let rest = map value_view (behind_first vs) in
    let here : map value_view vs ≡ v ∷ rest = cut value_view vs Int c.in-len1-up.len_at_least in
    let own = c.in-Some.own in (
      (λ t.
          subst (λ z. MayBegin w b z h) (sym here)
          (own_begins w b h c.requires v rest own c.in-Some.ensures.0 c.in-Some.ensures.1 (subst (λ z. BehindReceiver w b (Some own) z rest h) here (c.may_take.ensures.0 t)))),
      (λ x.
          let f = own_first w b h c.requires v rest (subst (λ z. MayBegin w b z h) here x) in
          let both : reference f.0 ≡ reference own = sym f.1 ∙ c.in-Some.ensures.0 in
          let same : f.0 ≡ own = cc in
          c.may_take.ensures.1 (subst (λ z. BehindReceiver w b (Some own) z rest h) (sym here) (subst (λ o. BehindReceiver w b (Some o) (v ∷ rest) rest h) same f.3))),
    )
