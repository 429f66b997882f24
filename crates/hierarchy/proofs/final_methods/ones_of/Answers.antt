use Rattle.std.proofs.Common.{◌∙◌, ◌+◌, refl, sym, subst, arith, take}
use Rattle.std.specs.Global.{Vec}
use Rattle.hierarchy.specs.declared.versions.Put.{Put}
use Rattle.hierarchy.specs.private.FinalMethods.{AreOnes}
use Rattle.hierarchy.specs.private.Versions.{Most}
use Rattle.hierarchy.specs.Summary.{fact_of, member_of}
use Rattle.hierarchy.proofs.FinalParts.{member_at, ones_apart, ones_more, ones_over}
use Rattle.hierarchy.proofs.Putting.{most_more}
use Rattle.hierarchy.proofs.final_methods.ones_of.Goals.{in-Some+in_ok-push, in_default}
use Rattle.hierarchy.proofs.final_methods.ones_of.Goals as goal

pub loop-i-preserved-then-not-same_overriding : goal.loop-i-preserved-then-not-same_overriding
loop-i-preserved-then-not-same_overriding c =
    let s = c.args.class.now in
    let i = c.loop-i.i in
    let m = c.index-member.result.now in
    let at = member_at s i m (omega (arith, c.loop-i-test.true, c.len-i-end.ensures)) c.index-member.ensures in
    record {
      found = c.loop-i.invariant.found;
      among = c.loop-i.invariant.among;
      ones = λ numbers good is. ones_apart numbers good (fact_of s).members i (member_of s.texts.items m) at c.args.part c.loop-i.puts.items (c.loop-i.invariant.ones numbers good is) (sym c.same_overriding.ensures ∙ c.if-not-same_overriding.true);
      most = c.loop-i.invariant.most;
    }

pub loop-i-preserved : goal.loop-i-preserved
loop-i-preserved c =
    let s = c.args.class.now in
    let texts = s.texts.items in
    let i = c.loop-i.i in
    let m = c.index-member.result.now in
    let ms = (fact_of s).members in
    let old = c.loop-i.puts.items in
    let at = member_at s i m (omega (arith, c.loop-i-test.true, c.len-i-end.ensures)) c.index-member.ensures in
    let among = c.loop-i.invariant.among in
    elim c.match-get.branch [
      | in-Some+in_ok-push w ↦
          let p : Put = record { index = w.in-Some.index; value = 1 } in
          record {
            found = λ numbers is. (c.get.ensures numbers texts (c.loop-i.invariant.found numbers is)).0;
            among = (among.0, (c.get.ensures among.0 texts among.1).0);
            ones = λ numbers good is.
                let told = (c.get.ensures numbers texts (c.loop-i.invariant.found numbers is)).1 in
                subst (λ (v : Vec Put). AreOnes numbers (take (i + 1) ms) c.args.part v.items) (sym w.puts-is)
                (ones_more numbers good ms i (member_of texts m) at c.args.part old (c.loop-i.invariant.ones numbers good is) p w.push.new.self.items (sym c.same_overriding.ensures ∙ c.if-not-same_overriding.false)
                (sym told ∙ w.in-Some.is) refl w.in_ok-push.ensures.items);
            most = subst (λ n. Most n c.match-get.puts.items) (sym w.most-is)
                (subst (λ (v : Vec Put). Most w.greater-most.result v.items) (sym w.puts-is)
                (most_more old w.push.new.self.items p c.loop-i.most w.greater-most.result w.greater-most.ensures.first w.greater-most.ensures.second c.loop-i.invariant.most w.in_ok-push.ensures.items));
          }
      | in_default w ↦ record {
        found = λ numbers is. (c.get.ensures numbers texts (c.loop-i.invariant.found numbers is)).0;
        among = (among.0, (c.get.ensures among.0 texts among.1).0);
        ones = λ numbers good is.
            let told = (c.get.ensures numbers texts (c.loop-i.invariant.found numbers is)).1 in
            subst (λ (v : Vec Put). AreOnes numbers (take (i + 1) ms) c.args.part v.items) (sym w.puts-is)
            (ones_over numbers good ms i (member_of texts m) at c.args.part old (c.loop-i.invariant.ones numbers good is) (sym told ∙ w.in_default.is));
        most = subst (λ n. Most n c.match-get.puts.items) (sym w.most-is) (subst (λ (v : Vec Put). Most c.loop-i.most v.items) (sym w.puts-is) c.loop-i.invariant.most);
      }
    ]
