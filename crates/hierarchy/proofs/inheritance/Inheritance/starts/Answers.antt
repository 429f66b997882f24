use Rattle.std.proofs.Common.{◌∙◌, ◌+◌, [], ◌∷◌, ap, arith, length, length-append, subst, sym}
use Rattle.hierarchy.specs.private.Inheritance.{LooksAt}
use Rattle.hierarchy.specs.Summary.{text_among}
use Rattle.hierarchy.proofs.TextPlaces.{each_more}
use Rattle.hierarchy.proofs.inheritance.Inheritance.starts.Goals as goal

pub loop-place-preserved : goal.loop-place-preserved
loop-place-preserved g c =
    let classes = g.C.Classes.content c.args.classes.now in
    let h = c.args.self.now in
    let things = c.loop-place.starts.items in
    record {
      long = ap length c.in_ok-push.ensures.items ∙ length-append things (c.start.result ∷ []) ∙ ap (λ n. n + 1) c.loop-place.invariant.long;
      each = λ a at.
          let looks = subst (λ name. LooksAt classes h c.args.class a name c.start.result) (c.text_among-name.ensures ∙ ap (text_among c.args.names.now) (sym c.loop-place.invariant.long)) (c.start.ensures a at) in
          each_more (LooksAt classes h c.args.class a) c.args.names.now things c.push.new.self.items c.start.result (c.loop-place.invariant.each a at) looks c.in_ok-push.ensures.items;
    }
