use Rattle.std.proofs.Common.{◌≡◌, ◌∙◌, ℕ, ◌<◌, Bool, List, ◌++◌, ◌∷◌, [], cond, length, map, take, get_or, filter, Option, Some, ap, sym, arith}
use Rattle.std.specs.Iterator.{Yields}
use Rattle.std.specs.Iterator.Adapters.{enumerate_source, enumerate_count, enumerate_steps}
use Rattle.std.specs.List.{enumerate_from}
use Rattle.std.specs.Vec.{vec_len}
use Rattle.std.specs.Vec.Iter.{into_iter_items, into_iter_len, into_iter_steps}
use Rattle.std.proofs.lemmas.Iterator.{YieldsList}
use Rattle.std.proofs.lemmas.Iterator.Adapters.{YieldsList-from_vec}
use Rattle.std.proofs.lemmas.Iterator.Consumers.{YieldsList-from_enumerate, YieldsList-turn}
use Rattle.std.proofs.lemmas.List.{length-map, length_push, map-append, append-nil}
use Rattle.std.proofs.lemmas.List.FromFn.{get_or-enumerate_from, length-enumerate_from}
use Rattle.hierarchy.specs.declared.summary.Summary.{Summary}
use Rattle.hierarchy.specs.Summary.{fact_of, facts_of}
use Rattle.verify.specs.Standing.{stands}
use Rattle.verify.proofs.Standings.{next_kept}
use Rattle.verify.proofs.standing.standing.Goals as goal

-- the classes come one after the other, with their numbers
all_numbered : {Z : Type 0} {s e : _} {source : _} {n : ℕ} (items : List Summary) → s ≡ e → enumerate_source e ≡ source → enumerate_count e ≡ 0 → into_iter_items {X = Summary} {Z = Z} source ≡ items
    → into_iter_len {X = Summary} {Z = Z} source ≡ n → n ≡ length items
    → YieldsList {B = ℕ × Summary} (enumerate_steps (into_iter_steps {X = Summary} {Z = Z})) (λ p. (p.0, p.1)) s (enumerate_from 0 items)
all_numbered {Z} {s} items same from count rest len long =
    let source = ap enumerate_source same ∙ from in
    let vec = YieldsList-from_vec {s = enumerate_source s} items (ap into_iter_items source ∙ rest) (ap into_iter_len source ∙ len ∙ long) in
    YieldsList-from_enumerate {s = s} vec (ap enumerate_count same ∙ count)

-- one more class came, and it is kept where it stands
kept_by : {S : Type 0} {steps : S → Option (ℕ × Summary) → S → Type 0} {s : S} (items : List Summary) → YieldsList {B = ℕ × Summary} steps (λ p. (p.0, p.1)) s (enumerate_from 0 items)
    → (yielded : List (ℕ × Summary)) (t : S) → Yields steps s yielded t → (r : Option (ℕ × Summary)) (u : S) (i : ℕ) (class : Summary) → r ≡ Some (i, class) → steps t r u
    → (stand : List Bool) → stand ≡ map (stands (facts_of items)) (facts_of items) → (kept : List Summary) → facts_of kept ≡ filter (stands (facts_of items)) (take (length yielded) (facts_of items))
    → (b : Bool) → b ≡ get_or stand i b → facts_of kept ++ cond b (fact_of class ∷ []) [] ≡ filter (stands (facts_of items)) (take (length (yielded ++ (i, class) ∷ [])) (facts_of items))
kept_by items each yielded t so r u i class is step stand which kept was b read =
    let all = facts_of items in
    let n = length yielded in
    let turn = YieldsList-turn each yielded t so r u (i, class) is step in
    let lt : n < length items = omega (arith, turn.0, length-enumerate_from 0 items) in
    let pair = turn.1 ∙ get_or-enumerate_from 0 items n _ lt in
    let number : i ≡ n = ap (λ p. p.0) pair ∙ omega arith in
    let inside : i < length stand = omega (arith, number, lt, ap length which, length-map all (stands all), length-map items fact_of) in
    next_kept items stand which kept n i class b was lt (ap (λ p. p.1) pair) number inside read
    ∙ ap (λ k. filter (stands all) (take k all)) (sym (length_push yielded (i, class)))

pub loop-i-preserved-in-Continue-branch-2 : goal.loop-i-preserved-in-Continue-branch-2
loop-i-preserved-in-Continue-branch-2 c =
    let classes = c.args.gathered.classes in
    let long : vec_len classes ≡ length classes.items = omega (arith, classes.ok.0) in
    let each =
    all_numbered classes.items c.into_iter-i-iterator.ensures.into_iter_gives c.enumerate-i-items.ensures.source c.enumerate-i-items.ensures.count
    c.into_iter.ensures.rest c.into_iter.ensures.len long in
    ap facts_of c.in_ok-push.ensures.items ∙ map-append fact_of c.loop-i.kept.items (c.in-Some.class ∷ []) ∙ ap (λ b. facts_of c.loop-i.kept.items ++ cond b (fact_of c.in-Some.class ∷ []) []) (sym c.if-index.true)
    ∙ kept_by classes.items each c.loop-i.yielded c.loop-i.i-iterator c.loop-i.yielded_by c.next.result c.next.new.self c.in-Some.i c.in-Some.class c.in-Some.is c.next.ensures.steps
    c.in_ok-stand.stand.items c.in_ok-stand.ensures c.loop-i.kept.items c.loop-i.invariant c.index.result.now c.index.ensures

pub loop-i-preserved : goal.loop-i-preserved
loop-i-preserved c =
    let classes = c.args.gathered.classes in
    let long : vec_len classes ≡ length classes.items = omega (arith, classes.ok.0) in
    let each =
    all_numbered classes.items c.into_iter-i-iterator.ensures.into_iter_gives c.enumerate-i-items.ensures.source c.enumerate-i-items.ensures.count
    c.into_iter.ensures.rest c.into_iter.ensures.len long in
    sym (append-nil (facts_of c.loop-i.kept.items)) ∙ ap (λ b. facts_of c.loop-i.kept.items ++ cond b (fact_of c.in-Some.class ∷ []) []) (sym c.if-index.false)
    ∙ kept_by classes.items each c.loop-i.yielded c.loop-i.i-iterator c.loop-i.yielded_by c.next.result c.next.new.self c.in-Some.i c.in-Some.class c.in-Some.is c.next.ensures.steps
    c.in_ok-stand.stand.items c.in_ok-stand.ensures c.loop-i.kept.items c.loop-i.invariant c.index.result.now c.index.ensures
