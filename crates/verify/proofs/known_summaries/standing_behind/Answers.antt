use Rattle.std.proofs.Common.{◌≡◌, ◌∙◌, ℕ, ◌<◌, Bool, true, false, List, ◌∷◌, ◌++◌, [], Some, length, map, get_or, option_map, slice_get, ap, sym, arith}
use Rattle.std.proofs.lemmas.List.{map-append, append-nil, length-map}
use Rattle.std.proofs.lemmas.Option.{slice_get-map, slice_get-get_or}
use Rattle.hierarchy.specs.declared.summary.Summary.{Summary}
use Rattle.hierarchy.specs.Summary.{fact_of, facts_of}
use Rattle.verify.specs.Standing.{stands}
use Rattle.verify.proofs.Others.{first_and, first_next, later_next, marked_at}
use Rattle.verify.proofs.known_summaries.standing_behind.Goals.{then-i-eq0+in_ok-copy_of+in_ok-push, else-i-eq0+else-index, then-i-eq0-via-then-i-eq0, then-i-eq0-via-else-i-eq0+then-index}
use Rattle.verify.proofs.known_summaries.standing_behind.Goals as goal

-- whether a class stands is read of its mark
read_mark : (items : List Summary) (marks : List Bool) → marks ≡ map (stands (facts_of items)) (facts_of items) → (n : ℕ) (class : Summary) → n < length items → class ≡ get_or items n class
    → (b : Bool) → b ≡ get_or marks n b → (slice_get (facts_of items) n ≡ Some (fact_of class)) × (b ≡ stands (facts_of items) (fact_of class))
read_mark items marks which n class lt is b read =
    let all = facts_of items in
    let inside : n < length marks = omega (arith, lt, ap length which, length-map all (stands all), length-map items fact_of) in
    marked_at (stands all) items marks which n class b (slice_get-get_or items n class lt ∙ ap (λ x. Some x) (sym is)) (slice_get-get_or marks n b inside ∙ ap (λ x. Some x) (sym read))

pub loop-i-preserved : goal.loop-i-preserved
loop-i-preserved c =
    let items = c.deref-class-items.result.now in
    let all = facts_of items in
    let marks = c.in_ok-stand.stand.items in
    let which : marks ≡ map (stands all) all = c.in_ok-stand.ensures ∙ ap (λ xs. map (stands (facts_of xs)) (facts_of xs)) (sym c.deref-class-items.ensures.value) in
    let n = c.loop-i.i in
    let class = c.class-item.result in
    let old = c.loop-i.summaries.items in
    let here : slice_get all n ≡ Some (fact_of class) = slice_get-map fact_of items n ∙ ap (option_map fact_of) (slice_get-get_or items n class c.loop-i-test.true ∙ ap (λ x. Some x) (sym c.class-item.is)) in
    let mark = read_mark items marks which n class c.loop-i-test.true c.class-item.is in
    elim c.if-i-eq0.branch [
      | then-i-eq0+in_ok-copy_of+in_ok-push w ↦
          ap (λ s. facts_of s.items) w.summaries-is ∙ ap facts_of w.in_ok-push.ensures.items ∙ map-append fact_of old (w.in_ok-copy_of.field-0 ∷ []) ∙ ap (λ f. facts_of old ++ f ∷ []) w.in_ok-copy_of.ensures
          ∙ ap (λ fs. fs ++ fact_of class ∷ []) c.loop-i.invariant
          ∙ elim w.then-i-eq0.branch [
            | then-i-eq0-via-then-i-eq0 w' ↦ first_next (stands all) all n (fact_of class) here w'.if-i-eq0.true
            | then-i-eq0-via-else-i-eq0+then-index w' ↦
                later_next (stands all) all n (fact_of class) true here w'.if-i-eq0.false (sym w'.if-index.true ∙ (mark w'.index.result.now w'.index.ensures).1)
          ]
      | else-i-eq0+else-index w ↦
          ap (λ s. facts_of s.items) w.summaries-is ∙ sym (append-nil (facts_of old)) ∙ ap (λ fs. fs ++ []) c.loop-i.invariant
          ∙ later_next (stands all) all n (fact_of class) false here w.if-i-eq0.false (sym w.if-index.false ∙ (mark w.index.result.now w.index.ensures).1)
    ]
