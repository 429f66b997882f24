use Rattle.std.proofs.Common.{◌≡◌, ◌∙◌, ◌<◌, ℕ, length, Option, Some, None, refl, sym, ap, subst, arith}
use Rattle.std.specs.BTreeMap.{get, Updates}
use Rattle.std.specs.Option.{unwrap_or}
use Rattle.std.specs.Ordering.{nat_cmp}
use Rattle.type_numbers.specs.Numbers.{Numbering}
use Rattle.verify.specs.declared.pass.watching.Wanted.{Wanted}
use Rattle.verify.specs.private.pass.Watching.{AreFitting, FitUpTo}
use Rattle.verify.proofs.numbered.Watched.{fitting_kept}
use Rattle.verify.proofs.pass.watching.Wanted.all_fit.Goals as goal

known : (s : Numbering) (w : Wanted) (number n : ℕ) (o : Option ℕ) → AreFitting s w → get nat_cmp w.fitting number ≡ o → n ≡ unwrap_or o 0 → FitUpTo s number n w.numbers.items
known s w number n None are e is = λ k m lt here. absurd (omega (arith, lt, is))
known s w number n (Some count) are e is = subst (λ c. FitUpTo s number c w.numbers.items) (sym is) (are.fit number count e)

pub fit_from-requires-clause-known : goal.fit_from-requires-clause-known
fit_from-requires-clause-known g c =
    let old = c.args.self.now in
    known c.args.frames.now.types old c.args.number c.unwrap_or-known.result (get nat_cmp old.fitting c.args.number) c.requires.fitting refl
    (c.unwrap_or-known.ensures ∙ ap (λ o. unwrap_or o 0) (c.copied.ensures ∙ c.get.ensures.value))

pub returns-in_ok-insert-clause-fitting : goal.returns-in_ok-insert-clause-fitting
returns-in_ok-insert-clause-fitting g c =
    let s = c.args.frames.now.types in
    let old = c.args.self.now in
    let count = c.len-count.ensures in
    fitting_kept s old _ c.args.number refl (subst (λ n. Updates nat_cmp old.fitting c.insert.new.self c.args.number (Some n)) (omega (arith, count, old.numbers.ok.0)) c.in_ok-insert.ensures.updates)
    (c.if-not-fit_from.ensures refl) c.requires.fitting
