use Rattle.std.proofs.Common.{◌≡◌, ◌∙◌, ◌+◌, ◌-◌, ◌&&◌, ◌++◌, ◌∷◌, [], ap, sym, subst, arith, map, drop}
use Rattle.hierarchy.specs.private.Flags.{AreFlags, spot_of}
use Rattle.hierarchy.specs.Nearest.{is_elsewhere}
use Rattle.hierarchy.specs.Summary.{member_of, fact_of}
use Rattle.hierarchy.proofs.Guards.{with_members, no_members_kept, without_spot, with_spot}
use Rattle.hierarchy.proofs.flags.keep_class.Goals.{then-member, else-member}
use Rattle.hierarchy.proofs.flags.keep_class.Goals as goal

pub loop-left-init : goal.loop-left-init
loop-left-init c = record {
  found = λ numbers is. is;
  among = c.requires;
  kept = λ numbers good is class classes len e flags. no_members_kept numbers class classes c.args.class.now c.len-left.result c.args.flags.now (omega (arith, c.len-left.ensures)) flags;
  within = omega (arith, c.len-left.ensures);
}

pub spot_of-requires : goal.spot_of-requires
spot_of-requires c = let is = c.loop-left.invariant.among in (is.0, c.args.class.now.texts.items, is.1)

pub loop-left-preserved-in_ok-insert : goal.loop-left-preserved-in_ok-insert
loop-left-preserved-in_ok-insert c =
    let texts = c.args.class.now.texts.items in
    let left = c.loop-left.left - 1 in
    let back : c.loop-left.left ≡ left + 1 = omega (arith, c.loop-left-test.true) in
    let m = c.index-member.result.now in
    let among = c.loop-left.invariant.among in
    record {
      found = λ numbers is. (c.spot_of.ensures numbers texts (c.loop-left.invariant.found numbers is)).0;
      among = (among.0, (c.spot_of.ensures among.0 texts among.1).0);
      kept = λ numbers good is class classes len e flags.
          let spot = (c.spot_of.ensures numbers texts (c.loop-left.invariant.found numbers is)).1 in
          let prior = subst (λ k. AreFlags numbers class (classes ++ with_members (fact_of c.args.class.now) (map (member_of texts) (drop k c.args.class.now.members.items)) ∷ []) c.loop-left.flags) back (c.loop-left.invariant.kept numbers good is class classes len e flags) in
          let flag : c.if-member.insert ≡ (m.is_protected && is_elsewhere class c.args.class.now.name.now) = elim c.if-member.branch [
            | then-member w ↦ w.insert-is ∙ e ∙ sym (ap (λ t. t && is_elsewhere class c.args.class.now.name.now) w.if-member.true)
            | else-member w ↦ w.insert-is ∙ w.if-member.false ∙ sym (ap (λ t. t && is_elsewhere class c.args.class.now.name.now) w.if-member.false)
          ] in
          with_spot numbers class classes c.args.class.now left m (omega (arith, c.loop-left.invariant.within, c.loop-left-test.true)) c.index-member.ensures c.loop-left.flags c.insert.new.self c.in-Some.spot
          c.if-member.insert good (ap (λ p. spot_of numbers p (member_of texts m)) len ∙ sym spot ∙ c.in-Some.is) flag c.in_ok-insert.ensures.updates.0 prior;
      within = omega (arith, c.loop-left.invariant.within);
    }

pub loop-left-preserved : goal.loop-left-preserved
loop-left-preserved c =
    let texts = c.args.class.now.texts.items in
    let left = c.loop-left.left - 1 in
    let back : c.loop-left.left ≡ left + 1 = omega (arith, c.loop-left-test.true) in
    let m = c.index-member.result.now in
    let among = c.loop-left.invariant.among in
    record {
      found = λ numbers is. (c.spot_of.ensures numbers texts (c.loop-left.invariant.found numbers is)).0;
      among = (among.0, (c.spot_of.ensures among.0 texts among.1).0);
      kept = λ numbers good is class classes len e flags.
          let spot = (c.spot_of.ensures numbers texts (c.loop-left.invariant.found numbers is)).1 in
          let prior = subst (λ k. AreFlags numbers class (classes ++ with_members (fact_of c.args.class.now) (map (member_of texts) (drop k c.args.class.now.members.items)) ∷ []) c.loop-left.flags) back (c.loop-left.invariant.kept numbers good is class classes len e flags) in
          without_spot numbers class classes c.args.class.now left m (omega (arith, c.loop-left.invariant.within, c.loop-left-test.true)) c.index-member.ensures c.loop-left.flags
          (ap (λ p. spot_of numbers p (member_of texts m)) len ∙ sym spot ∙ c.in_default.is) prior;
      within = omega (arith, c.loop-left.invariant.within);
    }

pub returns : goal.returns
returns c numbers good is class classes len e flags =
    let own = c.args.class.now in
    let none : c.loop-left.left ≡ 0 = omega (arith, c.loop-left-test.false) in
    subst (λ k. AreFlags numbers class (classes ++ with_members (fact_of own) (map (member_of own.texts.items) (drop k own.members.items)) ∷ []) c.loop-left.flags) none
    (c.loop-left.invariant.kept numbers good is class classes len e flags)
