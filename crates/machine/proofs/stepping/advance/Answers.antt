use Rattle.std.proofs.Common.{◌≡◌, Some, sym, ◌∙◌, subst, option_map}
use Rattle.std.proofs.lemmas.Bool.{false≢true}
use Rattle.hierarchy.specs.Class.{world_of}
use Rattle.insn.specs.Offsets.{at_offset, next_offset}
use Rattle.insn.specs.Views.{act_view}
use Rattle.machine.specs.Bodies.{code_of, method_view}
use Rattle.machine.specs.Effects.{effect}
use Rattle.machine.specs.private.EffectViews.{effect_view}
use Rattle.machine.specs.private.Happening.{Goes, Raises}
use Rattle.machine.specs.Views.{value_view, fresh_view, state_view}
use Rattle.machine.proofs.Deciding.{meets}
use Rattle.machine.proofs.Chosen.{go_steps, raise_steps}
use Rattle.machine.proofs.stepping.advance.Goals as goal

pub returns-then-not-is_met : goal.returns-then-not-is_met
returns-then-not-is_met g c =
    let w = world_of (g.C.Classes.content c.args.classes.now) in
    let m = method_view c.args.method.now in
    let s = state_view c.args.state in
    let t = effect_view c.in_ok-effect.effect in
    let here : at_offset m.code s.at ≡ Some (act_view c.in-Some.act) =
    subst (λ k. at_offset m.code k ≡ Some (act_view c.in-Some.act)) c.offset.ensures
    (subst (λ z. at_offset (code_of z) c.offset.result ≡ Some (act_view c.in-Some.act)) c.deref.ensures.value c.in-Some.ensures.0) in
    let after : next_offset m.code s.at ≡ c.in-Some.next =
    subst (λ k. next_offset m.code k ≡ c.in-Some.next) c.offset.ensures
    (subst (λ z. next_offset (code_of z) c.offset.result ≡ c.in-Some.next) c.deref.ensures.value c.in-Some.ensures.1) in
    λ n. false≢true (sym c.if-not-is_met.true ∙ c.in_ok-is_met.ensures.1 (meets effect w m s (act_view c.in-Some.act) t c.in-Some.next here c.in_ok-effect.ensures after n))

pub returns-in-Go : goal.returns-in-Go
returns-in-Go g c =
    let w = world_of (g.C.Classes.content c.args.classes.now) in
    let m = method_view c.args.method.now in
    let s = state_view c.args.state in
    let t = effect_view c.in_ok-effect.effect in
    let here : at_offset m.code s.at ≡ Some (act_view c.in-Some.act) =
    subst (λ k. at_offset m.code k ≡ Some (act_view c.in-Some.act)) c.offset.ensures
    (subst (λ z. at_offset (code_of z) c.offset.result ≡ Some (act_view c.in-Some.act)) c.deref.ensures.value c.in-Some.ensures.0) in
    let after : next_offset m.code s.at ≡ c.in-Some.next =
    subst (λ k. next_offset m.code k ≡ c.in-Some.next) c.offset.ensures
    (subst (λ z. next_offset (code_of z) c.offset.result ≡ c.in-Some.next) c.deref.ensures.value c.in-Some.ensures.1) in
    let gone : Goes w t c.in-Some.next s c.in-Go.branch (option_map value_view c.in-Go.answer) (fresh_view c.in-Go.fresh.items) c.go.result =
    subst (λ z. Goes w t c.in-Some.next s c.in-Go.branch (option_map value_view c.in-Go.answer) (fresh_view z) c.go.result) c.deref-in-Go.ensures.value c.go.ensures in
    rw c.in-Go.is (go_steps effect w m s (act_view c.in-Some.act) t c.in-Some.next here c.in_ok-effect.ensures after (c.in_ok-is_met.ensures.0 c.if-not-is_met.false)
    c.in-Go.branch (option_map value_view c.in-Go.answer) (fresh_view c.in-Go.fresh.items) c.go.result gone)

pub returns : goal.returns
returns g c =
    let w = world_of (g.C.Classes.content c.args.classes.now) in
    let m = method_view c.args.method.now in
    let s = state_view c.args.state in
    let t = effect_view c.in_ok-effect.effect in
    let here : at_offset m.code s.at ≡ Some (act_view c.in-Some.act) =
    subst (λ k. at_offset m.code k ≡ Some (act_view c.in-Some.act)) c.offset.ensures
    (subst (λ z. at_offset (code_of z) c.offset.result ≡ Some (act_view c.in-Some.act)) c.deref.ensures.value c.in-Some.ensures.0) in
    let after : next_offset m.code s.at ≡ c.in-Some.next =
    subst (λ k. next_offset m.code k ≡ c.in-Some.next) c.offset.ensures
    (subst (λ z. next_offset (code_of z) c.offset.result ≡ c.in-Some.next) c.deref.ensures.value c.in-Some.ensures.1) in
    let raised : Raises w m s c.in-Raise.address (fresh_view c.in-Raise.fresh.items) c.in-Raise.entry c.raise.result =
    subst (λ z. Raises w m s c.in-Raise.address (fresh_view z) c.in-Raise.entry c.raise.result) c.deref-in-Raise.ensures.value c.raise.ensures in
    rw c.in-Raise.is (raise_steps effect w m s (act_view c.in-Some.act) t c.in-Some.next here c.in_ok-effect.ensures after (c.in_ok-is_met.ensures.0 c.if-not-is_met.false)
    c.in-Raise.address (fresh_view c.in-Raise.fresh.items) c.in-Raise.entry c.raise.result raised)
