use Rattle.std.proofs.Common.{◌≡◌, ◌≤◌, ◌∙◌, ◌+◌, Bool, length, ◌++◌, ◌∷◌, [], ap, arith, get_or, map, take, subst, sym}
use Rattle.std.proofs.lemmas.List.{take_all}
use Rattle.hierarchy.specs.declared.member_references.MemberRef.{MemberRef}
use Rattle.hierarchy.specs.private.Inheritance.{LooksAt}
use Rattle.hierarchy.specs.private.MemberNumbers.{AreLookups}
use Rattle.hierarchy.specs.Nearest.{is_guarded}
use Rattle.hierarchy.specs.Summary.{reference_of, text_among}
use Rattle.hierarchy.proofs.Guarding.{map_more, map_twice}
use Rattle.hierarchy.proofs.Lookups.{class_at, looks_within}
use Rattle.hierarchy.proofs.TextPlaces.{thing_at}
use Rattle.hierarchy.proofs.inheritance.Inheritance.guarded.Goals as goal

pub loop-reference-init : goal.loop-reference-init
loop-reference-init g c = record {
  asks = subst (λ ts. AreLookups c.args.self.now.numbers ts c.in_ok-lookups.lookups) c.deref-2.ensures.value c.in_ok-lookups.ensures;
  answered = λ a at. c.in_ok-answers.ensures.items;
}

pub is_guarded-answer-requires-clause-start : goal.is_guarded-answer-requires-clause-start
is_guarded-answer-requires-clause-start g c =
    let classes = g.C.Classes.content c.args.classes.now in
    let h = c.args.self.now in
    let rs = c.args.references.now in
    let a = class_at classes h c.requires.good c.args.class c.requires.there in
    let r = get_or c.deref-reference-items.result.now c.loop-reference.reference-index _ in
    let looks = thing_at (LooksAt classes h c.args.class a.0) c.deref.result.now c.deref-in-loop-reference.result.now rs.classes.items c.in_ok-starts.starts.items r.class c.place_among.result c.index-start.result.now
    (c.in_ok-starts.ensures.each a.0 a.1) c.in_ok-starts.ensures.long c.deref.ensures.value c.deref-in-loop-reference.ensures.value c.place_among.ensures.within c.place_among.ensures.same c.index-start.ensures in
    looks_within classes h c.requires.good c.args.class a.0 (text_among rs.classes.items r.class) c.index-start.result.now looks

pub is_guarded-answer-requires-clause-lookups : goal.is_guarded-answer-requires-clause-lookups
is_guarded-answer-requires-clause-lookups g c =
    let r = get_or c.deref-reference-items.result.now c.loop-reference.reference-index _ in
    (c.args.references.now.texts.items, c.loop-reference.invariant.asks, c.text_among-name.ensures ∙ ap (λ ts. text_among ts r.places.name) c.deref-in-loop-reference-2.ensures.value)

pub loop-reference-preserved : goal.loop-reference-preserved
loop-reference-preserved g c =
    let classes = g.C.Classes.content c.args.classes.now in
    let h = c.args.self.now in
    let rs = c.args.references.now in
    let xs = c.deref-reference-items.result.now in
    let same = c.deref-reference-items.ensures.value in
    let i = c.loop-reference.reference-index in
    let r = get_or xs i _ in
    record {
      asks = c.is_guarded-answer.ensures.lookups rs.texts.items c.loop-reference.invariant.asks;
      answered = λ a at.
          let looks = thing_at (LooksAt classes h c.args.class a) c.deref.result.now c.deref-in-loop-reference.result.now rs.classes.items c.in_ok-starts.starts.items r.class c.place_among.result c.index-start.result.now
          (c.in_ok-starts.ensures.each a at) c.in_ok-starts.ensures.long c.deref.ensures.value c.deref-in-loop-reference.ensures.value c.place_among.ensures.within c.place_among.ensures.same c.index-start.ensures in
          let is_name = c.text_among-name.ensures ∙ ap (λ ts. text_among ts r.places.name) c.deref-in-loop-reference-2.ensures.value in
          let told = c.is_guarded-answer.ensures.guarded classes a rs.texts.items (text_among rs.classes.items r.class) c.requires.good at c.loop-reference.invariant.asks is_name looks in
          let f : MemberRef → Bool = λ r. is_guarded classes a.name (reference_of rs r) in
          let had = subst (λ ms. c.loop-reference.answers.items ≡ map f (take i ms)) (sym same) (c.loop-reference.invariant.answered a at) in
          subst (λ ms. c.push.new.self.items ≡ map f (take (i + 1) ms)) same
          (c.in_ok-push.ensures.items ∙ (λ j. had j ++ told j ∷ []) ∙ sym (map_more f xs i _ c.loop-reference-test.true));
    }

pub returns : goal.returns
returns g c a at =
    let classes = g.C.Classes.content c.args.classes.now in
    let rs = c.args.references.now in
    let same = c.deref-reference-items.ensures.value in
    let f : MemberRef → Bool = λ r. is_guarded classes a.name (reference_of rs r) in
    let end : length rs.members.items ≤ c.loop-reference.reference-index = subst (λ ms. length ms ≤ c.loop-reference.reference-index) same (omega (arith, c.loop-reference-test.false)) in
    c.loop-reference.invariant.answered a at ∙ ap (map f) (take_all c.loop-reference.reference-index rs.members.items end) ∙ sym (map_twice (is_guarded classes a.name) (reference_of rs) rs.members.items)
