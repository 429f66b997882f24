-- The frames of a bucket that are put where they belong: those that have ended are left out.
use Rattle.std.proofs.Common.{◌≡◌, ◌⊎◌, ◌∙◌, ℕ, ◌+◌, ◌<◌, ◌≤◌, ◌≢◌, List, [], length, get_or, set, slice_get, Some, refl, sym, ap, subst, inl, inr, arith}
use Rattle.std.specs.Prelude.{slice_index}
use Rattle.std.proofs.lemmas.Bool.{cases_eq, cases_lt}
use Rattle.std.proofs.lemmas.List.{get_or-set_other, get_or-set_same, length-set}
use Rattle.std.proofs.lemmas.Option.{slice_get_within}
use Rattle.type_numbers.specs.Numbers.{Numbering}
use Rattle.method_frames.specs.NumberedFrames.{NumberedFrame}
use Rattle.verify.specs.declared.pass.representatives.Bucket.{Bucket}
use Rattle.verify.specs.declared.pass.representatives.Representatives.{Representatives}
use Rattle.verify.specs.private.pass.Buckets.{IsBucket, AreBuckets, IsIn, IsNamed, AreRepresentatives, IsPut, IsSorted}
use Rattle.verify.proofs.numbered.Listed.{some_same, set_kept}
use Rattle.verify.proofs.numbered.Representing.{buckets_exchanged}

-- those of the list from a place on are still to be put
pub record Sorting (s : Numbering) (ds : List (ℕ × NumberedFrame)) (at : ℕ) (old : Representatives) (i : ℕ) (now : Representatives) : Type 0 where
  pub long : length now.until.items ≡ length old.until.items
  pub buckets : AreBuckets s ds (length now.until.items) now.buckets.items
  pub declared : (k f : ℕ) → slice_get now.moved.items k ≡ Some f → f < length ds
  pub within : (k f : ℕ) → slice_get now.moved.items k ≡ Some f → f < length old.until.items
  pub named : (f : ℕ) → 0 < slice_index now.until.items f
      → IsNamed now.buckets.items f ⊎ ((k : ℕ) × (i ≤ k) × (slice_get now.moved.items k ≡ Some f))
  pub others : (f : ℕ) → at < slice_index old.until.items f → slice_index now.until.items f ≡ slice_index old.until.items f
  pub fewer : (f : ℕ) → 0 < slice_index now.until.items f → 0 < slice_index old.until.items f

module _ (s : Numbering) (ds : List (ℕ × NumberedFrame)) (at : ℕ) (old : Representatives) where
  -- the list of a bucket is taken out
  pub sorting_first : (now : Representatives) (place : ℕ) (b c : Bucket) → AreRepresentatives s ds old → slice_get old.buckets.items place ≡ Some b
      → now.buckets.items ≡ set old.buckets.items place c → IsBucket s ds (length old.until.items) c → now.moved.items ≡ b.list.items → now.until ≡ old.until
      → Sorting s ds at old 0 now
  sorting_first now place b c are here is empty moved until =
      let room = sym (ap (λ u. length u.items) until) in
      record {
        long = ap (λ u. length u.items) until;
        buckets = λ i z e. subst (λ n. IsBucket s ds n z) room (by i z (sym (ap (λ bs. slice_get bs i) is) ∙ e));
        declared = λ k f e. (are.buckets place b here).declared k f (sym (ap (λ xs. slice_get xs k) moved) ∙ e);
        within = λ k f e. (are.buckets place b here).within k f (sym (ap (λ xs. slice_get xs k) moved) ∙ e);
        named = λ f lt. kept f (are.named f (subst (λ u. 0 < slice_index u.items f) until lt));
        others = λ f lt. ap (λ u. slice_index u.items f) until;
        fewer = λ f. subst (λ u. 0 < slice_index u.items f) until;
      }
    where
      by : (i : ℕ) (z : Bucket) → slice_get (set old.buckets.items place c) i ≡ Some z → IsBucket s ds (length old.until.items) z
      by i z e = buckets_exchanged old.buckets.items place b c here s ds (length old.until.items) empty are.buckets i z e

      kept : (f : ℕ) → IsNamed old.buckets.items f → IsNamed now.buckets.items f ⊎ ((k : ℕ) × (0 ≤ k) × (slice_get now.moved.items k ≡ Some f))
      kept f n = elim (set_kept old.buckets.items place c n.1.bucket n.0 n.1.there) [
        | inl same ↦
            (let one : n.1.bucket ≡ b = some_same n.1.bucket b (sym n.1.there ∙ ap (slice_get old.buckets.items) same ∙ here) in
            inr (n.1.place, omega arith, ap (λ xs. slice_get xs n.1.place) moved ∙ subst (λ (z : Bucket). slice_get z.list.items n.1.place ≡ Some f) one n.1.here))
        | inr there ↦ inl (n.0, record { bucket = n.1.bucket; there = ap (λ bs. slice_get bs n.0) is ∙ there; place = n.1.place; here = n.1.here })
      ]

  module _ (i : ℕ) (was : Representatives) (d : Sorting s ds at old i was) (frame : ℕ) (here : slice_get was.moved.items i ≡ Some frame) where
    -- a frame is put where it belongs
    pub sorting_put : (now : Representatives) → IsPut was frame now → Sorting s ds at old (i + 1) now
    sorting_put now put =
        let until = put.until in
        let room = ap (λ u. length u.items) until in
        record {
          long = room ∙ d.long;
          buckets = λ k b e. put.buckets s ds (length now.until.items) (d.declared i frame here) (let lt = d.within i frame here in let long = d.long in omega (arith, lt, long, room))
              (subst (λ n. AreBuckets s ds n was.buckets.items) (sym room) d.buckets) k b e;
          declared = λ k f e. d.declared k f (sym (ap (λ m. slice_get m.items k) put.moved) ∙ e);
          within = λ k f e. d.within k f (sym (ap (λ m. slice_get m.items k) put.moved) ∙ e);
          named = λ f lt. elim (d.named f (subst (λ u. 0 < slice_index u.items f) until lt)) [
            | inl n ↦ inl (put.kept f n)
            | inr later ↦ elim (cases_eq later.0 i) [
              | inl same ↦ inl (subst (IsNamed now.buckets.items) (some_same frame f (sym here ∙ ap (slice_get was.moved.items) (sym same) ∙ later.2)) put.named)
              | inr ne ↦ inr (later.0, (let le = later.1 in omega (arith, le, ne)), ap (λ m. slice_get m.items later.0) put.moved ∙ later.2)
            ]
          ];
          others = λ f lt. ap (λ u. slice_index u.items f) until ∙ d.others f lt;
          fewer = λ f lt. d.fewer f (subst (λ u. 0 < slice_index u.items f) until lt);
        }

    -- a frame has ended
    pub sorting_ended : (now : Representatives) → slice_index was.until.items frame ≤ at → now.buckets ≡ was.buckets → now.moved ≡ was.moved → now.until.items ≡ set was.until.items frame 0
        → Sorting s ds at old (i + 1) now
    sorting_ended now ended buckets moved until =
        let room = ap length until ∙ length-set was.until.items frame 0 in
        record {
          long = room ∙ d.long;
          buckets = subst (λ z. AreBuckets s ds (length now.until.items) z.items) (sym buckets) (subst (λ n. AreBuckets s ds n was.buckets.items) (sym room) d.buckets);
          declared = λ k f e. d.declared k f (sym (ap (λ m. slice_get m.items k) moved) ∙ e);
          within = λ k f e. d.within k f (sym (ap (λ m. slice_get m.items k) moved) ∙ e);
          named = λ f lt. by f lt (cases_eq f frame);
          others = λ f lt. kept f lt (cases_eq f frame);
          fewer = λ f lt. stood f lt (cases_eq f frame);
        }
      where
        inside : frame < length was.until.items
        inside = let lt = d.within i frame here in let long = d.long in omega (arith, lt, long)

        by : (f : ℕ) → 0 < slice_index now.until.items f → (f ≡ frame) ⊎ (f ≢ frame) → IsNamed now.buckets.items f ⊎ ((k : ℕ) × (i + 1 ≤ k) × (slice_get now.moved.items k ≡ Some f))
        by f lt (inl e) = absurd (let none = ap (λ xs. get_or xs f 0) until ∙ ap (λ k. get_or (set was.until.items frame 0) k 0) e ∙ get_or-set_same was.until.items frame 0 0 inside in omega (arith, lt, none))
        by f lt (inr ne) = elim (d.named f (subst (λ k. 0 < k) (ap (λ xs. get_or xs f 0) until ∙ get_or-set_other was.until.items frame f 0 0 ne) lt)) [
          | inl n ↦ inl (subst (λ z. IsNamed z.items f) (sym buckets) n)
          | inr later ↦ elim (cases_eq later.0 i) [
            | inl same ↦ absurd (ne (sym (some_same frame f (sym here ∙ ap (slice_get was.moved.items) (sym same) ∙ later.2))))
            | inr other ↦ inr (later.0, (let le = later.1 in omega (arith, le, other)), ap (λ m. slice_get m.items later.0) moved ∙ later.2)
          ]
        ]

        stood : (f : ℕ) → 0 < slice_index now.until.items f → (f ≡ frame) ⊎ (f ≢ frame) → 0 < slice_index old.until.items f
        stood f lt (inl e) = absurd (let none = ap (λ xs. get_or xs f 0) until ∙ ap (λ k. get_or (set was.until.items frame 0) k 0) e ∙ get_or-set_same was.until.items frame 0 0 inside in omega (arith, lt, none))
        stood f lt (inr ne) = d.fewer f (subst (λ k. 0 < k) (ap (λ xs. get_or xs f 0) until ∙ get_or-set_other was.until.items frame f 0 0 ne) lt)

        kept : (f : ℕ) → at < slice_index old.until.items f → (f ≡ frame) ⊎ (f ≢ frame) → slice_index now.until.items f ≡ slice_index old.until.items f
        kept f lt (inl e) = absurd (let same = d.others f lt in let low = subst (λ k. slice_index was.until.items k ≤ at) (sym e) ended in omega (arith, lt, same, low))
        kept f lt (inr ne) = ap (λ xs. get_or xs f 0) until ∙ get_or-set_other was.until.items frame f 0 0 ne ∙ d.others f lt

  -- all were put
  pub sorted : (i : ℕ) (now : Representatives) → length now.moved.items ≤ i → Sorting s ds at old i now → IsSorted s ds at old now
  sorted i now all d = record {
    are = record {
      buckets = d.buckets;
      named = λ f lt. elim (d.named f lt) [
        | inl n ↦ n
        | inr later ↦ absurd (let within = slice_get_within now.moved.items later.0 f later.2 in let le = later.1 in omega (arith, within, le, all))
      ];
    };
    fewer = d.fewer;
    others = d.others;
  }

  pub sorted_itself : AreRepresentatives s ds old → IsSorted s ds at old old
  sorted_itself are = record { are = are; fewer = λ f lt. lt; others = λ f lt. refl }

  pub sorted_on : (mid new : Representatives) → IsSorted s ds at old mid → IsSorted s ds at mid new → IsSorted s ds at old new
  sorted_on mid new a b = record {
    are = b.are;
    fewer = λ f lt. a.fewer f (b.fewer f lt);
    others = λ f lt.
        let same = a.others f lt in
        b.others f (omega (arith, lt, same)) ∙ same;
  }
