use Rattle.std.proofs.Common.{◌≡◌, false, ◌∙◌, ◌+◌, ◌-◌, cond, drop, map, ap, sym, subst, arith}
use Rattle.hierarchy.specs.declared.numbered_members.Numbered.TheVariants.{Protected}
use Rattle.hierarchy.specs.declared.versions.Put.{Put}
use Rattle.hierarchy.specs.private.Inheritance.{AreValues}
use Rattle.hierarchy.specs.private.Sketches.{HaveSketches, has_sketch}
use Rattle.hierarchy.specs.private.Versions.{Most}
use Rattle.hierarchy.specs.Summary.{member_of, text_among}
use Rattle.hierarchy.proofs.Names.{none_some}
use Rattle.hierarchy.proofs.Numbered.{all_dropped, from_left, no_values, values_more, values_over, values_past}
use Rattle.hierarchy.proofs.Putting.{most_more}
use Rattle.hierarchy.proofs.Sketching.{noted_left}
use Rattle.hierarchy.proofs.inheritance.values_of.Goals.{then-member, else-member}
use Rattle.hierarchy.proofs.inheritance.values_of.Goals as goal

pub loop-left-init : goal.loop-left-init
loop-left-init c =
    let items = c.args.class.now.members.items in
    let texts = c.args.class.now.texts.items in
    record {
      found = λ numbers is. is;
      among = c.requires.lookups;
      values = λ numbers good is.
          subst (λ ms. AreValues numbers c.args.sketches.now ms c.args.own c.new-puts.result.items) (sym (ap (map (member_of texts)) (all_dropped items c.len-left.result (omega (arith, c.len-left.ensures)))))
          (no_values numbers c.args.sketches.now c.args.own c.new-puts.result.items c.new-puts.ensures.items);
      most = subst (Most 0) (sym c.new-puts.ensures.items) (λ i p e. absurd (none_some e));
      within = omega (arith, c.len-left.ensures);
    }

-- a member that is passed over
pub loop-left-preserved-then-not-has_sketch : goal.loop-left-preserved-then-not-has_sketch
loop-left-preserved-then-not-has_sketch c =
    let items = c.args.class.now.members.items in
    let texts = c.args.class.now.texts.items in
    let sketches = c.args.sketches.now in
    let left = c.loop-left.left - 1 in
    let back : c.loop-left.left ≡ left + 1 = omega (arith, c.loop-left-test.true) in
    let m = c.index-member.result.now in
    let is_name : c.text_among-name.result.now ≡ text_among texts m.places.name = c.text_among-name.ensures ∙ ap (λ ts. text_among ts m.places.name) c.deref.ensures.value in
    let none : has_sketch sketches (text_among texts m.places.name) ≡ false = ap (has_sketch sketches) (sym is_name) ∙ sym c.has_sketch.ensures ∙ c.if-not-has_sketch.true in
    record {
      found = c.loop-left.invariant.found;
      among = c.loop-left.invariant.among;
      values = λ numbers good is.
          let prior = subst (λ n. AreValues numbers sketches (map (member_of texts) (drop n items)) c.args.own c.loop-left.puts.items) back (c.loop-left.invariant.values numbers good is) in
          let here = from_left texts items left m (omega (arith, c.loop-left.invariant.within, c.loop-left-test.true)) c.index-member.ensures in
          subst (λ ms. AreValues numbers sketches ms c.args.own c.loop-left.puts.items) (sym here)
          (values_past numbers good sketches (map (member_of texts) (drop (left + 1) items)) (member_of texts m) c.args.own c.loop-left.puts.items prior
          (subst (HaveSketches Protected sketches) here (noted_left Protected sketches (member_of texts) items left c.requires.noted)) none);
      most = c.loop-left.invariant.most;
      within = omega (arith, c.loop-left.invariant.within);
    }

pub get-requires : goal.get-requires
get-requires c = let is = c.loop-left.invariant.among in (is.0, c.args.class.now.texts.items, is.1)

pub loop-left-preserved-in-Some : goal.loop-left-preserved-in-Some
loop-left-preserved-in-Some c =
    let items = c.args.class.now.members.items in
    let texts = c.args.class.now.texts.items in
    let left = c.loop-left.left - 1 in
    let back : c.loop-left.left ≡ left + 1 = omega (arith, c.loop-left-test.true) in
    let m = c.index-member.result.now in
    let among = c.loop-left.invariant.among in
    let value : c.if-member.value ≡ cond m.is_protected c.args.own 0 = elim c.if-member.branch [
      | then-member w ↦ w.value-is ∙ sym (ap (λ t. cond t c.args.own 0) w.if-member.true)
      | else-member w ↦ w.value-is ∙ sym (ap (λ t. cond t c.args.own 0) w.if-member.false)
    ] in
    let p : Put = record { index = c.in-Some.index; value = c.if-member.value } in
    record {
      found = λ numbers is. (c.get.ensures numbers texts (c.loop-left.invariant.found numbers is)).0;
      among = (among.0, (c.get.ensures among.0 texts among.1).0);
      values = λ numbers good is.
          let told = (c.get.ensures numbers texts (c.loop-left.invariant.found numbers is)).1 in
          let prior = subst (λ n. AreValues numbers c.args.sketches.now (map (member_of texts) (drop n items)) c.args.own c.loop-left.puts.items) back (c.loop-left.invariant.values numbers good is) in
          subst (λ ms. AreValues numbers c.args.sketches.now ms c.args.own c.push.new.self.items)
          (sym (from_left texts items left m (omega (arith, c.loop-left.invariant.within, c.loop-left-test.true)) c.index-member.ensures))
          (values_more numbers good c.args.sketches.now (map (member_of texts) (drop (left + 1) items)) (member_of texts m) c.args.own c.loop-left.puts.items prior p c.push.new.self.items (sym told ∙ c.in-Some.is) value c.in_ok-push.ensures.items);
      most = most_more c.loop-left.puts.items c.push.new.self.items p c.loop-left.most c.greater-most.result c.greater-most.ensures.first c.greater-most.ensures.second c.loop-left.invariant.most c.in_ok-push.ensures.items;
      within = omega (arith, c.loop-left.invariant.within);
    }

pub loop-left-preserved : goal.loop-left-preserved
loop-left-preserved c =
    let items = c.args.class.now.members.items in
    let texts = c.args.class.now.texts.items in
    let left = c.loop-left.left - 1 in
    let back : c.loop-left.left ≡ left + 1 = omega (arith, c.loop-left-test.true) in
    let m = c.index-member.result.now in
    let among = c.loop-left.invariant.among in
    record {
      found = λ numbers is. (c.get.ensures numbers texts (c.loop-left.invariant.found numbers is)).0;
      among = (among.0, (c.get.ensures among.0 texts among.1).0);
      values = λ numbers good is.
          let told = (c.get.ensures numbers texts (c.loop-left.invariant.found numbers is)).1 in
          let prior = subst (λ n. AreValues numbers c.args.sketches.now (map (member_of texts) (drop n items)) c.args.own c.loop-left.puts.items) back (c.loop-left.invariant.values numbers good is) in
          subst (λ ms. AreValues numbers c.args.sketches.now ms c.args.own c.loop-left.puts.items)
          (sym (from_left texts items left m (omega (arith, c.loop-left.invariant.within, c.loop-left-test.true)) c.index-member.ensures))
          (values_over numbers good c.args.sketches.now (map (member_of texts) (drop (left + 1) items)) (member_of texts m) c.args.own c.loop-left.puts.items prior (sym told ∙ c.in_default.is));
      most = c.loop-left.invariant.most;
      within = omega (arith, c.loop-left.invariant.within);
    }
