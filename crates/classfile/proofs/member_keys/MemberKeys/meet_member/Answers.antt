use Rattle.std.proofs.Common.{◌≡◌, ◌∙◌, ◌||◌, not, Bool, true, false, Ok, refl, sym, ap, subst}
use Rattle.std.specs.BTreeSet.{contains}
use Rattle.std.specs.List.{All, list_any}
use Rattle.pool.specs.Lookups.{Named, named}
use Rattle.classfile.specs.MemberForm.{are_same}
use Rattle.classfile.specs.Seen.{AreBothNumbers, is_pair_of}
use Rattle.classfile.specs.Views.{member_view}
use Rattle.classfile.proofs.SeenLaws.{Key, order, both_of, no_name, no_descriptor, pair_leads, any_told, put_pair, kept_pairs, met_more, repeated_one, repeated_none, among_one, among_none}
use Rattle.classfile.proofs.member_keys.MemberKeys.meet_member.Goals as goal

not_not : (b : Bool) → not (not b) ≡ b
not_not true = refl
not_not false = refl

pub returns-in_default : goal.returns-in_default
returns-in_default c =
    let pool = c.args.pool.now in
    let m = member_view c.args.member.now in
    let none = no_name pool m.name m.descriptor c.in_default.field-0 c.in_default.ensures in
    record {
      repeats = λ earlier seen. repeated_none pool earlier m _ none;
      seen = λ earlier seen. record { numbers = seen.numbers; pairs = seen.pairs; exactly = λ y. seen.exactly y ∙ among_none pool earlier m _ y none };
    }

pub returns-in_default-text : goal.returns-in_default-text
returns-in_default-text c =
    let pool = c.args.pool.now in
    let m = member_view c.args.member.now in
    let none = no_descriptor pool m.name m.descriptor c.in-Ok.name.bytes.now c.in_default-text.field-0 c.in-Ok.ensures c.in_default-text.ensures in
    record {
      repeats = λ earlier seen. repeated_none pool earlier m _ none;
      seen = λ earlier seen. record { numbers = seen.numbers; pairs = seen.pairs; exactly = λ y. seen.exactly y ∙ among_none pool earlier m _ y none };
    }

pub returns : goal.returns
returns c =
    let pool = c.args.pool.now in
    let m = member_view c.args.member.now in
    let old = c.args.self.now in
    let numbers = c.of-2.new.self in
    let x : Named = record { name = c.in-Ok.name.bytes.now; descriptor = c.in-Ok-text.descriptor.bytes.now } in
    let is : named pool m.name m.descriptor ≡ Ok x = both_of pool m.name m.descriptor x c.in-Ok.ensures c.in-Ok-text.ensures in
    let first = c.in_ok-name.ensures in
    let second = c.in_ok-descriptor.ensures in
    let n = c.in_ok-name.name in
    let d = c.in_ok-descriptor.descriptor in
    let key : Key = (n, d) in
    let name = second.others x.name n first.here in
    let leads = pair_leads pool numbers second.good x n d name second.here in
    let kept : All (AreBothNumbers pool old.numbers) old.seen.keys → All (AreBothNumbers pool numbers) old.seen.keys =
    kept_pairs pool old.numbers numbers (λ t k h. second.others t k (first.others t k h)) old.seen.keys in
    let found : not c.in_ok-is_new.is_new ≡ contains order old.seen key = ap not c.in_ok-is_new.ensures.added ∙ not_not (contains order old.seen key) in
    record {
      repeats = λ earlier seen. found ∙ any_told pool numbers second.good x n d name second.here old.seen.keys (kept seen.pairs) ∙ seen.exactly x ∙ repeated_one pool earlier m x is;
      seen = λ earlier seen. record {
        numbers = second.good;
        pairs = subst (All (AreBothNumbers pool numbers)) (sym c.in_ok-is_new.ensures.keys) (put_pair pool numbers second.good x n d name second.here old.seen.keys (kept seen.pairs));
        exactly = λ y. ap (list_any (is_pair_of pool y)) c.in_ok-is_new.ensures.keys ∙ met_more pool x y key old.seen.keys leads
            ∙ ap (λ (b : Bool). are_same y x || b) (seen.exactly y) ∙ among_one pool earlier m x y is;
      };
    }
