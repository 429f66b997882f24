-- The order of spots: those of one member stand together, from the nearest class up.
use Rattle.std.proofs.Common.{◌≡◌, ◌<◌, ◌≤◌, ℕ, true, false, refl, ap, sym, ◌∙◌, arith}
use Rattle.std.specs.Ordering.{nat_cmp, ordering_then, ordering_reverse, is_eq, is_gt}
use Rattle.std.specs.BTreeMap.Range.{IsLeBy, IsLtBy}
use Rattle.std.specs.declared.cmp.Ordering.{Ordering}
use Rattle.std.specs.declared.cmp.Ordering.TheVariants.{Less, Equal, Greater}
use Rattle.std.proofs.lemmas.Bool.{true≢false, false≢true}
use Rattle.std.proofs.lemmas.Cmp.{nat_cmp_total, tied_itself, ranked, by_ranked}
use Rattle.std.proofs.lemmas.Map.Lookups.{exact_unsigned}
use Rattle.hierarchy.specs.declared.spot.Spot.{Spot}
use Rattle.hierarchy.specs.declared.summary.Kind.{Kind}
use Rattle.hierarchy.specs.declared.summary.Kind.TheVariants.{Field, Method}
use Rattle.hierarchy.specs.contracts.summary.KindOrd.TheImpl as kind_ord
use Rattle.hierarchy.specs.private.Flags.{spot_cmp, moved}

abbrev pub kind_cmp : Kind → Kind → Ordering
kind_cmp = (kind_ord.ghosts).cmp

-- ---- two spots in one place of the order are one

pub both_equal : (a b : Ordering) → is_eq (ordering_then a b) ≡ true → (a ≡ Equal) × (is_eq b ≡ true)
both_equal Less b e = absurd (false≢true e)
both_equal Equal b e = (refl, e)
both_equal Greater b e = absurd (false≢true e)

pub equal_is : (a : Ordering) → is_eq a ≡ true → a ≡ Equal
equal_is Less e = absurd (false≢true e)
equal_is Equal e = refl
equal_is Greater e = absurd (false≢true e)

pub kinds_equal : (j k : Kind) → kind_cmp j k ≡ Equal → j ≡ k
kinds_equal Field Field e = refl
kinds_equal Field Method e = cc
kinds_equal Method Field e = cc
kinds_equal Method Method e = refl

pub kind_itself : (k : Kind) → kind_cmp k k ≡ Equal
kind_itself Field = refl
kind_itself Method = refl

kinds_back : (j k : Kind) → kind_cmp k j ≡ ordering_reverse (kind_cmp j k)
kinds_back Field Field = refl
kinds_back Field Method = refl
kinds_back Method Field = refl
kinds_back Method Method = refl

pub same_spot : (s t : Spot) → s.name ≡ t.name → s.descriptor ≡ t.descriptor → s.kind ≡ t.kind → s.place ≡ t.place → s ≡ t
same_spot s t n d k p = λ i. record { name = n i; descriptor = d i; kind = k i; place = p i }

pub one_spot : (s t : Spot) → is_eq (spot_cmp s t) ≡ true → s ≡ t
one_spot s t e = same_spot s t name descriptor kind place
  where
    first : (nat_cmp s.name t.name ≡ Equal) × (is_eq (ordering_then (nat_cmp s.descriptor t.descriptor) (ordering_then (kind_cmp s.kind t.kind) (nat_cmp s.place t.place))) ≡ true)
    first = both_equal (nat_cmp s.name t.name) (ordering_then (nat_cmp s.descriptor t.descriptor) (ordering_then (kind_cmp s.kind t.kind) (nat_cmp s.place t.place))) e

    second : (nat_cmp s.descriptor t.descriptor ≡ Equal) × (is_eq (ordering_then (kind_cmp s.kind t.kind) (nat_cmp s.place t.place)) ≡ true)
    second = both_equal (nat_cmp s.descriptor t.descriptor) (ordering_then (kind_cmp s.kind t.kind) (nat_cmp s.place t.place)) first.1

    third : (kind_cmp s.kind t.kind ≡ Equal) × (is_eq (nat_cmp s.place t.place) ≡ true)
    third = both_equal (kind_cmp s.kind t.kind) (nat_cmp s.place t.place) second.1

    name : s.name ≡ t.name
    name = exact_unsigned s.name t.name first.0

    descriptor : s.descriptor ≡ t.descriptor
    descriptor = exact_unsigned s.descriptor t.descriptor second.0

    kind : s.kind ≡ t.kind
    kind = kinds_equal s.kind t.kind third.0

    place : s.place ≡ t.place
    place = exact_unsigned s.place t.place (equal_is (nat_cmp s.place t.place) third.1)

pub moves : (s : Spot) (p q : ℕ) → spot_cmp (moved s p) (moved s q) ≡ nat_cmp p q
moves s p q = rw (tied_itself nat_cmp_total s.name, tied_itself nat_cmp_total s.descriptor, kind_itself s.kind) refl

pub itself : (s : Spot) → is_eq (spot_cmp s s) ≡ true
itself s = ap is_eq (moves s s.place s.place ∙ tied_itself nat_cmp_total s.place)

-- ---- between two spots of one member

between : (a b x y : Ordering) → b ≡ ordering_reverse a → is_gt (ordering_then a x) ≡ false → ordering_then b y ≡ Less → (a ≡ Equal) × (is_gt x ≡ false) × (y ≡ Less)
between Less b x y e le lt = cc
between Equal b x y e le lt = (refl, le, ap (λ o. ordering_then o y) (sym e) ∙ lt)
between Greater b x y e le lt = absurd (true≢false le)

less_is : (x y : ℕ) → nat_cmp x y ≡ Less → x < y
less_is x y e = by_ranked (x < y) (x ≡ y) (y < x) (nat_cmp x y) (ranked x y (nat_cmp x y) refl) (λ g p. p) (λ g p. cc) (λ g p. cc)

pub not_above : (x y : ℕ) → is_gt (nat_cmp x y) ≡ false → x ≤ y
not_above x y e = by_ranked (x < y) (x ≡ y) (y < x) (nat_cmp x y) (ranked x y (nat_cmp x y) refl) (λ g p. omega arith) (λ g p. omega arith) (λ g p. absurd (true≢false (sym (ap is_gt g) ∙ e)))

pub not_above_is : (x y : ℕ) → x ≤ y → is_gt (nat_cmp x y) ≡ false
not_above_is x y le = by_ranked (x < y) (x ≡ y) (y < x) (nat_cmp x y) (ranked x y (nat_cmp x y) refl) (λ g p. ap is_gt g) (λ g p. ap is_gt g) (λ g p. absurd (omega arith))

pub below : (x y : ℕ) → x < y → nat_cmp x y ≡ Less
below x y lt = by_ranked (x < y) (x ≡ y) (y < x) (nat_cmp x y) (ranked x y (nat_cmp x y) refl) (λ g p. g) (λ g p. absurd (omega arith)) (λ g p. absurd (omega arith))

-- a spot between two of a member is one of this member
pub one_member : (s t : Spot) (end : ℕ) → IsLeBy spot_cmp s t → IsLtBy spot_cmp t (moved s end) → (t ≡ moved s t.place) × (s.place ≤ t.place) × (t.place < end)
one_member s t end le lt = (same_spot t (moved s t.place) name descriptor kind refl, not_above s.place t.place third.1, less_is t.place end third.2)
  where
    first : (nat_cmp s.name t.name ≡ Equal) × (is_gt (ordering_then (nat_cmp s.descriptor t.descriptor) (ordering_then (kind_cmp s.kind t.kind) (nat_cmp s.place t.place))) ≡ false)
        × (ordering_then (nat_cmp t.descriptor s.descriptor) (ordering_then (kind_cmp t.kind s.kind) (nat_cmp t.place end)) ≡ Less)
    first = between (nat_cmp s.name t.name) (nat_cmp t.name s.name) _ _ (nat_cmp_total.antisymm t.name s.name) le lt

    second : (nat_cmp s.descriptor t.descriptor ≡ Equal) × (is_gt (ordering_then (kind_cmp s.kind t.kind) (nat_cmp s.place t.place)) ≡ false) × (ordering_then (kind_cmp t.kind s.kind) (nat_cmp t.place end) ≡ Less)
    second = between (nat_cmp s.descriptor t.descriptor) (nat_cmp t.descriptor s.descriptor) _ _ (nat_cmp_total.antisymm t.descriptor s.descriptor) first.1 first.2

    third : (kind_cmp s.kind t.kind ≡ Equal) × (is_gt (nat_cmp s.place t.place) ≡ false) × (nat_cmp t.place end ≡ Less)
    third = between (kind_cmp s.kind t.kind) (kind_cmp t.kind s.kind) _ _ (kinds_back s.kind t.kind) second.1 second.2

    name : t.name ≡ s.name
    name = sym (exact_unsigned s.name t.name first.0)

    descriptor : t.descriptor ≡ s.descriptor
    descriptor = sym (exact_unsigned s.descriptor t.descriptor second.0)

    kind : t.kind ≡ s.kind
    kind = sym (kinds_equal s.kind t.kind third.0)
