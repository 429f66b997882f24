use Rattle.std.proofs.Common.{◌≡◌, ◌∙◌, ◌++◌, ◌-◌, suc, length, Some, MatchOption, option_map, ap, refl, sym, subst, arith}
use Rattle.std.specs.Option.{option_copied}
use Rattle.hierarchy.specs.private.Above.{upward}
use Rattle.hierarchy.specs.private.Ancestry.{AreInTurn, IsOwn, facts_at, first_or}
use Rattle.hierarchy.specs.Summary.{fact_of}
use Rattle.hierarchy.proofs.InOrder.{facts_more, first_less, own_or_none, step_up, turn_more}
use Rattle.hierarchy.proofs.ancestry.Ancestry.way.Goals as goal

pub loop-at-init : goal.loop-at-init
loop-at-init g c =
    let classes = g.C.Classes.content c.args.classes.now in
    let start = fact_of c.args.start.now in
    let all : suc (length classes) ≡ suc (length classes) - 0 = omega arith in
    record {
      up = subst (λ xs. upward classes (suc (length classes)) (Some start) ≡ facts_at xs ++ upward classes (suc (length classes) - length xs) (Some start)) (sym c.new-way.ensures.items)
          (ap (λ n. upward classes n (Some start)) all);
      turn = subst (λ xs. AreInTurn classes (facts_at xs) (Some start)) (sym c.new-way.ensures.items) tt;
      first = subst (λ xs. first_or (Some start) (facts_at xs) ≡ Some start) (sym c.new-way.ensures.items) refl;
      own = c.requires.own;
    }

pub loop-at-smaller : goal.loop-at-smaller
loop-at-smaller g c =
    let classes = g.C.Classes.content c.args.classes.now in
    let kept = c.loop-at.way.items in
    let here = subst (λ o. upward classes (suc (length classes)) (Some (fact_of c.args.start.now)) ≡ facts_at kept ++ upward classes (suc (length classes) - length kept) (option_map fact_of (option_copied o))) c.in-Some.is c.loop-at.invariant.up in
    (step_up classes c.requires.formed (fact_of c.args.start.now) c.requires.own kept c.push.new.self.items c.in-Some.class _ here c.in_ok-push.ensures.items c.class_above-at.ensures).1

pub loop-at-preserved : goal.loop-at-preserved
loop-at-preserved g c =
    let classes = g.C.Classes.content c.args.classes.now in
    let kept = c.loop-at.way.items in
    let s = c.in-Some.class in
    let next = option_map fact_of (option_copied c.class_above-at.result) in
    let here = subst (λ o. upward classes (suc (length classes)) (Some (fact_of c.args.start.now)) ≡ facts_at kept ++ upward classes (suc (length classes) - length kept) (option_map fact_of (option_copied o))) c.in-Some.is c.loop-at.invariant.up in
    let turn = subst (λ o. AreInTurn classes (facts_at kept) (option_map fact_of (option_copied o))) c.in-Some.is c.loop-at.invariant.turn in
    let own = subst (λ o. MatchOption (option_map fact_of (option_copied o)) (Unit {0}) (IsOwn classes)) c.in-Some.is c.loop-at.invariant.own in
    record {
      up = (step_up classes c.requires.formed (fact_of c.args.start.now) c.requires.own kept c.push.new.self.items s _ here c.in_ok-push.ensures.items c.class_above-at.ensures).0;
      turn = subst (λ xs. AreInTurn classes xs next) (sym (ap facts_at c.in_ok-push.ensures.items ∙ facts_more kept s)) (turn_more classes (facts_at kept) (fact_of s.now) next turn own (sym c.class_above-at.ensures));
      first = ap (first_or next) (ap facts_at c.in_ok-push.ensures.items ∙ facts_more kept s) ∙ first_less (facts_at kept) (fact_of s.now) next
          ∙ subst (λ o. first_or (option_map fact_of (option_copied o)) (facts_at kept) ≡ Some (fact_of c.args.start.now)) c.in-Some.is c.loop-at.invariant.first;
      own = own_or_none classes (fact_of s.now) next (sym c.class_above-at.ensures);
    }
