-- Rows, one after the other.
use Rattle.std.proofs.Common.{◌≡◌, ◌⊎◌, ℕ, ◌+◌, ◌^◌, ◌<◌, ◌≤◌, List, [], ◌∷◌, ◌++◌, map, take, length, get_or, Bool, true, false, refl, ap, sym, subst, ◌∙◌, inl, inr, arith, append_assoc}
use Rattle.std.specs.Prelude.{slice_index}
use Rattle.std.proofs.lemmas.Bool.{cases_lt, false≢true}
use Rattle.std.proofs.lemmas.List.{length-map, length-append, length-take, get_or-map, get_or_append_left, get_or-append-add, get_or-take, take_more, map-append}
use Rattle.std.proofs.Math.Seq.{get_or-append_seam}
use Rattle.std.proofs.Math.Nat.{pow-le-pow_right}
use Rattle.hierarchy.specs.declared.skips.Skip.{Skip}
use Rattle.hierarchy.specs.private.Skips.{skip_at, row_of, IsRowAdded, HaveRows}

pub power_below : (i j d : ℕ) → 2 ^ i ≤ d → d < 2 ^ j → i < j
power_below i j d h k = by (cases_lt i j)
  where
    by : (i < j) ⊎ (j ≤ i) → i < j
    by (inl lt) = lt
    by (inr le) = let p = pow-le-pow_right {n = 2} (omega arith) {i = j} {j = i} le in absurd (omega (arith, p, h, k))

-- the row so far, which is no longer than the depth reaches
pub record IsRowSoFar (tables : List (List Skip)) (place depth : ℕ) (old new : List ℕ) (k : ℕ) : Type 0 where
  pub least : (j : ℕ) → j < k → 2 ^ j ≤ depth
  pub added : new ≡ old ++ row_of (take k tables) place

module _ (tables : List (List Skip)) (place depth : ℕ) (old new : List ℕ) where
  pub no_row : new ≡ old ++ [] → IsRowSoFar tables place depth old new 0
  no_row e = record { least = λ j lt. absurd (omega (arith, lt)); added = e }

  pub whole_row : (k : ℕ) → IsRowSoFar tables place depth old new k → k ≤ length tables → depth < 2 ^ 16 → depth < 2 ^ k → IsRowAdded tables place depth old new
  whole_row k r le small far = record {
    count = k;
    few = few (cases_lt 16 k);
    all = le;
    far = far;
    least = r.least;
    added = r.added;
  }
    where
      few : (16 < k) ⊎ (k ≤ 16) → k ≤ 16
      few (inl lt) = let p = r.least 16 lt in absurd (omega (arith, p, small))
      few (inr le) = le

  pub more_row : (next : List ℕ) (k : ℕ) → IsRowSoFar tables place depth old new k → k < length tables → 2 ^ k ≤ depth
      → next ≡ new ++ (skip_at (get_or tables k []) place).place ∷ [] → IsRowSoFar tables place depth old next (k + 1)
  more_row next k r lt reach e =
      let f = λ (skips : List Skip). (skip_at skips place).place in
      let row = ap (map f) (take_more tables k [] lt) ∙ map-append f (take k tables) (get_or tables k [] ∷ []) in
      record {
        least = λ j l. by j l (cases_lt j k);
        added = e ∙ ap (λ xs. xs ++ (skip_at (get_or tables k []) place).place ∷ []) r.added ∙ append_assoc old (row_of (take k tables) place) ((skip_at (get_or tables k []) place).place ∷ []) ∙ ap (λ xs. old ++ xs) (sym row);
      }
    where
      by : (j : ℕ) → j < k + 1 → (j < k) ⊎ (k ≤ j) → 2 ^ j ≤ depth
      by j l (inl lt) = r.least j lt
      by j l (inr le) = let same : k ≡ j = omega (arith, l, le) in subst (λ n. 2 ^ n ≤ depth) same reach

module _ (tables : List (List Skip)) (tops : List Skip) where
  pub no_rows : HaveRows tables tops 0 [] [] []
  no_rows = record {
    depth_each = refl;
    start_each = refl;
    most = omega arith;
    depth = λ i lt. absurd (omega (arith, lt));
    within = λ i k lt. absurd (omega (arith, lt));
    row = λ i k lt. absurd (omega (arith, lt));
  }

  module _ (n : ℕ) (depths starts entries : List ℕ) (h : HaveRows tables tops n depths starts entries) (depths' starts' new : List ℕ)
      (d : depths' ≡ depths ++ (skip_at tops n).steps ∷ []) (s : starts' ≡ starts ++ length entries ∷ []) (a : IsRowAdded tables n (skip_at tops n).steps entries new) where
    row_long : length (row_of (take a.count tables) n) ≡ a.count
    row_long =
        let f = length-map (take a.count tables) (λ (skips : List Skip). (skip_at skips n).place) in
        let t = length-take a.count tables in
        let all = a.all in
        omega (arith, f, t, all)

    long : length new ≡ length entries + a.count
    long = ap length a.added ∙ length-append entries (row_of (take a.count tables) n) ∙ ap (λ k. length entries + k) row_long

    start_old : (i : ℕ) → i < n → slice_index starts' i ≡ slice_index starts i
    start_old i lt = let l = h.start_each in ap (λ xs. slice_index xs i) s ∙ get_or_append_left starts (length entries ∷ []) 0 i (omega (arith, l, lt))

    start_new : slice_index starts' n ≡ length entries
    start_new = ap (λ xs. slice_index xs n) s ∙ ap (slice_index (starts ++ length entries ∷ [])) (sym h.start_each) ∙ get_or-append_seam starts (length entries) [] 0

    depth_at : (i : ℕ) → i < n + 1 → (i < n) ⊎ (n ≤ i) → slice_index depths' i ≡ (skip_at tops i).steps
    depth_at i l (inl lt) = let e = h.depth_each in ap (λ xs. slice_index xs i) d ∙ get_or_append_left depths ((skip_at tops n).steps ∷ []) 0 i (omega (arith, e, lt)) ∙ h.depth i lt
    depth_at i l (inr le) =
        let same : n ≡ i = omega (arith, l, le) in
        subst (λ j. slice_index depths' j ≡ (skip_at tops j).steps) same
        (ap (λ xs. slice_index xs n) d ∙ ap (slice_index (depths ++ (skip_at tops n).steps ∷ [])) (sym h.depth_each) ∙ get_or-append_seam depths (skip_at tops n).steps [] 0)

    within_at : (i k : ℕ) → i < n + 1 → 2 ^ k ≤ (skip_at tops i).steps → (i < n) ⊎ (n ≤ i) → slice_index starts' i + k < length new
    within_at i k l p (inl lt) = let o = h.within i k lt p in let e = start_old i lt in let m = long in omega (arith, o, e, m)
    within_at i k l p (inr le) =
        let same : i ≡ n = omega (arith, l, le) in
        let lt = power_below k a.count (skip_at tops n).steps (subst (λ j. 2 ^ k ≤ (skip_at tops j).steps) same p) a.far in
        let e = ap (slice_index starts') same ∙ start_new in
        let m = long in
        omega (arith, lt, e, m)

    entry_of_row : (k : ℕ) → k < a.count → slice_index (row_of (take a.count tables) n) k ≡ slice_index (row_of tables n) k
    entry_of_row k lt =
        let f = λ (skips : List Skip). (skip_at skips n).place in
        let t = length-take a.count tables in
        let all = a.all in
        let short : k < length (take a.count tables) = omega (arith, t, all, lt) in
        let whole : k < length tables = omega (arith, all, lt) in
        get_or-map f (take a.count tables) k [] 0 short ∙ ap f (get_or-take a.count tables k [] lt) ∙ sym (get_or-map f tables k [] 0 whole)

    row_at : (i k : ℕ) → i < n + 1 → 2 ^ k ≤ (skip_at tops i).steps → (i < n) ⊎ (n ≤ i) → slice_index new (slice_index starts' i + k) ≡ slice_index (row_of tables i) k
    row_at i k l p (inl lt) =
        ap (λ j. slice_index new (j + k)) (start_old i lt) ∙ ap (λ xs. slice_index xs (slice_index starts i + k)) a.added
        ∙ get_or_append_left entries (row_of (take a.count tables) n) 0 (slice_index starts i + k) (h.within i k lt p) ∙ h.row i k lt p
    row_at i k l p (inr le) =
        let same : n ≡ i = omega (arith, l, le) in
        let lt = power_below k a.count (skip_at tops n).steps (subst (λ j. 2 ^ k ≤ (skip_at tops j).steps) (sym same) p) a.far in
        subst (λ i. slice_index new (slice_index starts' i + k) ≡ slice_index (row_of tables i) k) same
        (ap (λ j. slice_index new (j + k)) start_new ∙ ap (λ xs. slice_index xs (length entries + k)) a.added
        ∙ get_or-append-add entries (row_of (take a.count tables) n) k 0 ∙ entry_of_row k lt)

    pub more_rows : HaveRows tables tops (n + 1) depths' starts' new
    more_rows = record {
      depth_each = let e = h.depth_each in ap length d ∙ length-append depths ((skip_at tops n).steps ∷ []) ∙ ap (λ k. k + 1) e;
      start_each = let e = h.start_each in ap length s ∙ length-append starts (length entries ∷ []) ∙ ap (λ k. k + 1) e;
      most = let m = long in let o = h.most in let f = a.few in omega (arith, m, o, f);
      depth = λ i l. depth_at i l (cases_lt i n);
      within = λ i k l p. within_at i k l p (cases_lt i n);
      row = λ i k l p. row_at i k l p (cases_lt i n);
    }

pub not_reached : (k d : ℕ) (b : Bool) → (2 ^ k ≤ d → b ≡ true) → b ≡ false → d < 2 ^ k
not_reached k d b h e = by (cases_lt d (2 ^ k))
  where
    by : (d < 2 ^ k) ⊎ (2 ^ k ≤ d) → d < 2 ^ k
    by (inl lt) = lt
    by (inr le) = absurd (false≢true (sym e ∙ h le))
