use Rattle.std.proofs.Common.{◌≡◌, ◌∙◌, ◌+◌, ◌<◌, ◌++◌, ◌∷◌, [], inl, inr, ℕ, length, get_or, sym, ap, subst, arith, length-append}
use Rattle.std.proofs.lemmas.Bool.{cases_lt}
use Rattle.std.proofs.lemmas.List.{get_or_append_left, get_or_push}
use Rattle.blocks.specs.private.Compacting.{IsSameIn}
use Rattle.blocks.proofs.Compacted.{grows_on, still_same}
use Rattle.blocks.proofs.compacting.Copies.copy_all.Goals as goal

pub loop-i-preserved : goal.loop-i-preserved
loop-i-preserved c =
    let ns = c.args.nodes.now in
    let ids = c.args.ids.now in
    let ms = c.loop-i.self.nodes.items in
    let ls = c.copy.new.self.nodes.items in
    let i = c.loop-i.i in
    let old = c.loop-i.copies.items in
    let now = c.in_ok-copy.field-0 in
    let inv = c.loop-i.invariant in
    let grown = c.copy.ensures.grown in
    let items = c.in_ok-push.ensures.items in
    let long = inv.long in
    record {
      grown = grows_on c.args.self.now.nodes.items ms ls inv.grown grown;
      copies = c.copy.ensures.copies;
      long = ap length items ∙ length-append old (now ∷ []) ∙ ap (λ n. n + 1) long;
      done = λ k lt. subst (λ xs. IsSameIn ns ls (get_or ids k 0) (get_or xs k 0)) (sym items) (elim (cases_lt k i) [
        | inl less ↦
            subst (IsSameIn ns ls (get_or ids k 0)) (sym (get_or_append_left old (now ∷ []) 0 k (omega (arith, less, long))))
            (still_same ns ms ls (get_or ids k 0) (get_or old k 0) inv.copies.fresh.forest grown (inv.done k less))
        | inr past ↦
            (let e : k ≡ i = omega (arith, lt, past) in
            subst (λ j. IsSameIn ns ls (get_or ids j 0) (get_or (old ++ now ∷ []) j 0)) (sym e)
            (subst (IsSameIn ns ls (get_or ids i 0)) (sym (get_or_push old now 0 i long)) c.in_ok-copy.ensures.ok))
      ]);
    }
