-- The least reason of two lists of conditions.
use Rattle.std.proofs.Common.{◌≡◌, ◌⊎◌, ◌<◌, ◌≤◌, Bool, true, false, nat_lt, [], ◌∷◌, ◌++◌, Option, Some, None, Result, Ok, Err, refl, ◌∙◌, ap, arith, inl, inr, if◌then◌else◌}
use Rattle.std.proofs.lemmas.Bool.Decides.{nat_tests}
use Rattle.frames.specs.Conditions as conditions
use Rattle.frames.specs.Conditions.{Conditions, number_of, lesser, least}
use Rattle.rules.specs.declared.reason.Reason.{Reason}
use Rattle.rules.specs.declared.reason.Reason.TheVariants.{OutOfMemory}
use Rattle.rules.specs.Reasons.{reason_number, reason_view}
use Rattle.rules.specs.Outcomes.{Judges}

abbrev pub merge : Option conditions.Reason → Option conditions.Reason → Option conditions.Reason
merge None o = o
merge (Some first) o = Some (lesser first o)

three : (n j k : conditions.Reason) (b c : Bool) → nat_lt (number_of k) (number_of j) ≡ b → nat_lt (number_of j) (number_of n) ≡ c
    → lesser n (Some (if b then k else j)) ≡ lesser (if c then j else n) (Some k)
three n j k true true p q = let e : nat_lt (number_of k) (number_of n) ≡ true = grind (arith, nat_tests, p, q) in rw (e, p) refl
three n j k true false p q = refl
three n j k false true p q = rw (q, p) refl
three n j k false false p q = let e : nat_lt (number_of k) (number_of n) ≡ false = grind (arith, nat_tests, p, q) in rw (q, e) refl

lesser_merge : (n : conditions.Reason) (a b : Option conditions.Reason) → Some (lesser n (merge a b)) ≡ merge (Some (lesser n a)) b
lesser_merge n None b = refl
lesser_merge n (Some j) None = refl
lesser_merge n (Some j) (Some k) =
    ap (λ (z : conditions.Reason). Some z) (three n j k (nat_lt (number_of k) (number_of j)) (nat_lt (number_of j) (number_of n)) refl refl)

pub least_append : (cs ds : Conditions) → least (cs ++ ds) ≡ merge (least cs) (least ds)
least_append [] ds = refl
least_append (c ∷ cs) ds = by c.1 (least_append cs ds)
  where
    by : (b : Bool) → least (cs ++ ds) ≡ merge (least cs) (least ds)
        → (if b then Some (lesser c.0 (least (cs ++ ds))) else least (cs ++ ds)) ≡ merge
        (if b then Some (lesser c.0 (least cs)) else least cs) (least ds)
    by true e = ap (λ (z : Option conditions.Reason). Some (lesser c.0 z)) e ∙ lesser_merge c.0 (least cs) (least ds)
    by false e = e

pub both_least : (cs ds : Conditions) (x y : Option conditions.Reason) → least cs ≡ x → least ds ≡ y → least (cs ++ ds) ≡ merge x y
both_least cs ds x y p q = least_append cs ds ∙ ap (λ z. merge z (least ds)) p ∙ ap (merge x) q

-- ---- the reasons of the program

pub view_number : (e : Reason) → number_of (reason_view e) ≡ reason_number e
view_number OutOfMemory = refl
view_number _ = refl

pub number_some : (e : Reason) → 1 ≤ reason_number e
number_some OutOfMemory = omega arith
number_some _ = omega arith

number_one : (e : Reason) → reason_number e ≤ 1 → e ≡ OutOfMemory
number_one OutOfMemory h = refl
number_one _ h = absurd (omega (arith, h))

less_view : (x y : Reason) → reason_number y < reason_number x → lesser (reason_view x) (Some (reason_view y)) ≡ reason_view y
less_view x y lt = let e : nat_lt (number_of (reason_view y)) (number_of (reason_view x)) ≡ true =
    grind (arith, nat_tests, view_number x, view_number y, lt) in rw e refl

first_view : (x y : Reason) → reason_number x ≤ reason_number y → lesser (reason_view x) (Some (reason_view y)) ≡ reason_view x
first_view x y le = let e : nat_lt (number_of (reason_view y)) (number_of (reason_view x)) ≡ false =
    grind (arith, nat_tests, view_number x, view_number y, le) in rw e refl

module _ (cs ds : Conditions) where
  pub judges_alone : (x : Reason) (u : Unit {0}) → Judges cs (Err x) → Judges ds (Ok u) → Judges (cs ++ ds) (Err x)
  judges_alone x u a b = record { outcome = by a.outcome }
    where
      by : (x ≡ OutOfMemory) ⊎ (least cs ≡ Some (reason_view x)) → (x ≡ OutOfMemory) ⊎ (least (cs ++ ds) ≡ Some (reason_view x))
      by (inl p) = inl p
      by (inr p) = inr (both_least cs ds (Some (reason_view x)) None p b.outcome)

  pub judges_behind : (u : Unit {0}) (r : Result Unit Reason) → Judges cs (Ok u) → Judges ds r → Judges (cs ++ ds) r
  judges_behind u (Ok v) a b = record { outcome = both_least cs ds None None a.outcome b.outcome }
  judges_behind u (Err y) a b = record { outcome = by b.outcome }
    where
      by : (y ≡ OutOfMemory) ⊎ (least ds ≡ Some (reason_view y)) → (y ≡ OutOfMemory) ⊎ (least (cs ++ ds) ≡ Some (reason_view y))
      by (inl p) = inl p
      by (inr p) = inr (both_least cs ds None (Some (reason_view y)) a.outcome p)

  pub judges_less : (x y : Reason) → reason_number y < reason_number x → Judges cs (Err x) → Judges ds (Err y) → Judges (cs ++ ds) (Err y)
  judges_less x y lt a b = record { outcome = by a.outcome b.outcome }
    where
      by : (x ≡ OutOfMemory) ⊎ (least cs ≡ Some (reason_view x)) → (y ≡ OutOfMemory) ⊎ (least ds ≡ Some (reason_view y))
          → (y ≡ OutOfMemory) ⊎ (least (cs ++ ds) ≡ Some (reason_view y))
      by i (inl q) = inl q
      by (inl p) (inr q) = let e : reason_number x ≡ 1 = ap reason_number p in absurd (omega (arith, e, lt, number_some y))
      by (inr p) (inr q) = inr (both_least cs ds (Some (reason_view x)) (Some (reason_view y)) p q
          ∙ ap (λ (z : conditions.Reason). Some z) (less_view x y lt))

  pub judges_first : (x y : Reason) → reason_number x ≤ reason_number y → Judges cs (Err x) → Judges ds (Err y) → Judges (cs ++ ds) (Err x)
  judges_first x y le a b = record { outcome = by a.outcome b.outcome }
    where
      by : (x ≡ OutOfMemory) ⊎ (least cs ≡ Some (reason_view x)) → (y ≡ OutOfMemory) ⊎ (least ds ≡ Some (reason_view y))
          → (x ≡ OutOfMemory) ⊎ (least (cs ++ ds) ≡ Some (reason_view x))
      by (inl p) j = inl p
      by (inr p) (inl q) = let e : reason_number y ≡ 1 = ap reason_number q in inl (number_one x (omega (arith, e, le)))
      by (inr p) (inr q) = inr (both_least cs ds (Some (reason_view x)) (Some (reason_view y)) p q
          ∙ ap (λ (z : conditions.Reason). Some z) (first_view x y le))
