-- Keys of objects and places, as they are listed and found.
use Rattle.std.proofs.Common.{◌≡◌, ◌∙◌, ℕ, ◌≤◌, Bool, true, false, List, [], ◌∷◌, length, sym, ap, arith}
use Rattle.std.specs.Prelude.{filter, cond}
use Rattle.std.specs.Ordering.{nat_cmp}
use Rattle.std.specs.BTreeMap.{is_at}
use Rattle.std.specs.BTreeMap.Range.{range_contains}
use Rattle.std.specs.declared.ops.Bound.TheVariants.{Included}
use Rattle.std.proofs.lemmas.Bool.{true≢false}
use Rattle.std.proofs.lemmas.Bool.Decides.{nat_tests}
use Rattle.std.proofs.lemmas.Map.Views.{any-filter_same}
use Rattle.method_frames.specs.private.Holders.{is_among}

pub same_key : (k q : ℕ) → is_at (nat_cmp k) q ≡ true → k ≡ q
same_key k q e = grind (arith, nat_tests, e)

inside : (lo hi q : ℕ) → lo ≤ q → q ≤ hi → range_contains nat_cmp (Included lo) (Included hi) q ≡ true
inside lo hi q a b = grind (arith, nat_tests, a, b)

-- a key between two bounds is among the keys between them
pub among_between : (lo hi key : ℕ) (keys : List ℕ) → lo ≤ key → key ≤ hi → is_among keys key ≡ true → is_among (filter (range_contains nat_cmp (Included lo) (Included hi)) keys) key ≡ true
among_between lo hi key keys a b e =
    any-filter_same (is_at (nat_cmp key)) (range_contains nat_cmp (Included lo) (Included hi)) true
    (λ q s. ap (range_contains nat_cmp (Included lo) (Included hi)) (sym (same_key key q s)) ∙ inside lo hi key a b) keys ∙ e

either : (b old new : Bool) → new ≡ cond b true old → old ≡ true → new ≡ true
either true old new e o = e
either false old new e o = e ∙ o

pub among_kept : (old new : List ℕ) (added key : ℕ) → is_among new key ≡ cond (is_at (nat_cmp added) key) true (is_among old key) → is_among old key ≡ true → is_among new key ≡ true
among_kept old new added key e o = either (is_at (nat_cmp added) key) (is_among old key) (is_among new key) e o

-- no key is among none
pub among_none : (keys : List ℕ) (key : ℕ) → length keys ≡ 0 → is_among keys key ≡ true → ⊥
among_none [] key e a = true≢false (sym a)
among_none (k ∷ ks) key e a = omega (arith, e)
