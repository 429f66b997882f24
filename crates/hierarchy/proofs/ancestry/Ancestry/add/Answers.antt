use Rattle.std.proofs.Common.{◌∙◌, Some, ap, sym, subst}
use Rattle.hierarchy.specs.private.Ancestry.{AreInTurn, HasAny, facts_at, first_or}
use Rattle.hierarchy.specs.Summary.{fact_of}
use Rattle.hierarchy.proofs.InOrder.{facts_more, first_less, turn_less}
use Rattle.hierarchy.proofs.ancestry.Ancestry.add.Goals as goal

pub push-requires : goal.push-requires
push-requires g c =
    let classes = g.C.Classes.content c.args.classes.now in
    let class = c.in-Some.class in
    let way = c.loop-class.invariant.way in
    let left = c.pop.new.self.items in
    record { own = (turn_less classes (facts_at left) (fact_of class.now) way.0 (subst (λ xs. AreInTurn classes xs way.0) (ap facts_at c.in-Some.ensures.items ∙ facts_more left class) way.1)).0 }

pub loop-class-preserved : goal.loop-class-preserved
loop-class-preserved g c =
    let classes = g.C.Classes.content c.args.classes.now in
    let class = c.in-Some.class in
    let way = c.loop-class.invariant.way in
    let left = c.pop.new.self.items in
    let turn = turn_less classes (facts_at left) (fact_of class.now) way.0 (subst (λ xs. AreInTurn classes xs way.0) (ap facts_at c.in-Some.ensures.items ∙ facts_more left class) way.1) in
    let adds = c.in_ok-push.ensures c.loop-class.invariant.good (subst (HasAny c.loop-class.self) (sym turn.1) way.2) in
    let first = sym (first_less (facts_at left) (fact_of class.now) way.0) ∙ sym (ap (first_or way.0) (ap facts_at c.in-Some.ensures.items ∙ facts_more left class)) ∙ way.3 in
    record { good = adds.0; way = (Some (fact_of class.now), turn.2, adds.1, first); kept = λ d has. adds.2 d (c.loop-class.invariant.kept d has) }
