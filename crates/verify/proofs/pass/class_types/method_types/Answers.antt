use Rattle.std.proofs.Common.{◌≡◌, ◌∙◌, ◌∷◌, [], ◌++◌, ◌+◌, Some, length, map, sym, ap, arith, length-append}
use Rattle.std.specs.Prelude.{slice_get}
use Rattle.std.proofs.lemmas.List.{length-map}
use Rattle.classfile.specs.Views.{class_view, member_view}
use Rattle.classfile.proofs.Places.{viewed_at}
use Rattle.type_numbers.specs.Constants.{arguments_of}
use Rattle.type_numbers.proofs.LawsOfNumbers.{extends_on}
use Rattle.verify.proofs.numbered.ClassTyped.{one_method_more, all_methods}
use Rattle.verify.proofs.pass.class_types.method_types.Goals as goal

pub returns-in_err-named-clause-kept : goal.returns-in_err-named-clause-kept
returns-in_err-named-clause-kept g c = extends_on c.args.types.now c.loop-member.types c.method_types.new.numbers c.loop-member.invariant.kept c.method_types.ensures.kept

pub returns-in_err-push-clause-kept : goal.returns-in_err-push-clause-kept
returns-in_err-push-clause-kept g c = extends_on c.args.types.now c.loop-member.types c.method_types.new.numbers c.loop-member.invariant.kept c.method_types.ensures.kept

pub loop-member-preserved : goal.loop-member-preserved
loop-member-preserved g c =
    let class = class_view c.args.class.now in
    let i = c.loop-member.member-index in
    let old = c.loop-member.methods.items in
    let member = c.member-item.result in
    let items : c.push.new.self.items ≡ old ++ c.in_ok-named.named ∷ [] = c.in_ok-push.ensures.items in
    let here : slice_get class.methods i ≡ Some (member_view member) =
    ap (λ ms. slice_get (map member_view ms) i) (sym c.deref-member-items.ensures.value) ∙ viewed_at member_view c.deref-member-items.result.now i member c.loop-member-test.true c.member-item.is in
    record {
      kept = extends_on c.args.types.now c.loop-member.types c.method_types.new.numbers c.loop-member.invariant.kept c.method_types.ensures.kept;
      described = c.in_ok-named.ensures.described;
      read = c.in_ok-named.ensures.descriptors;
      long = ap length items ∙ length-append old (c.in_ok-named.named ∷ []) ∙ ap (λ n. n + 1) c.loop-member.invariant.long;
      typed = one_method_more c.loop-member.types c.method_types.new.numbers c.method_types.ensures.kept (arguments_of c.loop-member.table) (arguments_of c.method_types.new.self) c.in_ok-named.ensures.grown
          class old c.push.new.self.items i (member_view member) c.loop-member.invariant.long here c.in_ok-named.named items c.in_ok-named.ensures.types c.loop-member.invariant.typed;
    }

pub returns-clause-given : goal.returns-clause-given
returns-clause-given g c =
    let class = class_view c.args.class.now in
    let all : c.loop-member.member-index ≡ length class.methods =
    omega (arith, c.loop-member-test.false, c.loop-member.auto.member-index-end, ap length c.deref-member-items.ensures.value, length-map c.args.class.now.methods.items member_view) in
    all_methods c.loop-member.types (arguments_of c.loop-member.table) class c.loop-member.methods.items c.loop-member.member-index all c.loop-member.invariant.typed
