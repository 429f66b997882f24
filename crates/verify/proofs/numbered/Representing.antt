-- Declared frames that stand for others: the buckets in which they are, and what they take.
use Rattle.std.proofs.Common.{◌≡◌, ◌⊎◌, ◌∙◌, ℕ, ◌+◌, ◌<◌, ◌≤◌, ◌≢◌, List, [], ◌∷◌, ◌++◌, length, get_or, set, slice_get, Some, sym, ap, subst, inl, inr, arith}
use Rattle.std.specs.Prelude.{slice_index}
use Rattle.std.proofs.lemmas.Bool.{cases_lt, cases_eq}
use Rattle.std.proofs.lemmas.List.{get_or-set_other, length-set}
use Rattle.std.proofs.lemmas.Option.{slice_get_within}
use Rattle.type_numbers.specs.Numbers.{Numbering}
use Rattle.method_frames.specs.NumberedFrames.{NumberedFrame, NumberedFrames}
use Rattle.verify.specs.declared.pass.representatives.Bucket.{Bucket}
use Rattle.verify.specs.declared.pass.representatives.Representatives.{Representatives}
use Rattle.verify.specs.private.pass.Representatives.{TakesLocal, TakesChanges}
use Rattle.verify.specs.private.pass.Watching.{IsWatch}
use Rattle.verify.specs.private.pass.Buckets.{IsBucket, AreBuckets, IsIn, IsNamed, AreRepresentatives, IsPut}
use Rattle.verify.proofs.numbered.Listed.{some_same, pushed_cases, pushed_before, pushed_last, set_cases, set_here, set_kept}
use Rattle.verify.proofs.numbered.Watched.{goes_on_pushed, watch_on, declared_pushed}

-- ---- what changed

module _ (x : NumberedFrames) (until : List ℕ) where
  -- all that stand for others take what changed up to a place
  abbrev pub TakeChangesTo : ℕ → Type 0
  TakeChangesTo n = (f : ℕ) → 0 < slice_index until f → TakesChanges x f n

  pub changes_more : (from : ℕ) → TakeChangesTo from → (place : ℕ) → ((k : ℕ) → from ≤ k → k < place → get_or x.running.locals k 0 ≡ get_or x.kept k 0)
      → ((f : ℕ) → 0 < slice_index until f → TakesLocal x.types x.declared f place (get_or x.running.locals place 0)) → TakeChangesTo (place + 1)
  changes_more from so place same takes f lt i less = elim (cases_lt i from) [
    | inl low ↦ so f lt i low
    | inr le ↦ elim (cases_lt i place) [
      | inl low ↦ inl (same i le low)
      | inr ge ↦
          (let at_place : i ≡ place = omega (arith, less, ge) in
          inr (subst (λ j. TakesLocal x.types x.declared f j (get_or x.running.locals j 0)) (sym at_place) (takes f lt)))
    ]
  ]

  pub changes_all : (from : ℕ) → TakeChangesTo from → ((k : ℕ) → from ≤ k → k < length x.running.locals → get_or x.running.locals k 0 ≡ get_or x.kept k 0) → TakeChangesTo (length x.running.locals)
  changes_all from so same f lt i less = elim (cases_lt i from) [
    | inl low ↦ so f lt i low
    | inr le ↦ inl (same i le less)
  ]

-- ---- the frames of a list, one after another

module _ (P : ℕ → Type 0) (fs : List ℕ) where
  -- the first so many are so
  abbrev pub AllTo : ℕ → Type 0
  AllTo n = (k f : ℕ) → k < n → slice_get fs k ≡ Some f → P f

  pub all_more : (n one : ℕ) → slice_get fs n ≡ Some one → AllTo n → P one → AllTo (n + 1)
  all_more n one here so this k f less at_k = elim (cases_lt k n) [
    | inl lt ↦ so k f lt at_k
    | inr ge ↦
        (let same : k ≡ n = omega (arith, less, ge) in
        let is : one ≡ f = some_same one f (sym here ∙ ap (slice_get fs) (sym same) ∙ at_k) in
        subst P is this)
  ]

  pub all_of : (n : ℕ) → AllTo n → length fs ≤ n → (k f : ℕ) → slice_get fs k ≡ Some f → P f
  all_of n so all k f at_k = let within = slice_get_within fs k f at_k in so k f (omega (arith, within, all)) at_k

-- ---- the frames of buckets, one bucket after another

module _ (P : ℕ → Type 0) where
  -- those in the first so many are so
  abbrev pub AllInTo : List Bucket → ℕ → Type 0
  AllInTo bs n = (i f : ℕ) → i < n → IsIn bs i f → P f

  pub all_in_more : (bs : List Bucket) (n : ℕ) (b : Bucket) → slice_get bs n ≡ Some b → ((k f : ℕ) → slice_get b.list.items k ≡ Some f → P f) → AllInTo bs n → AllInTo bs (n + 1)
  all_in_more bs n b here each so i f less at = elim (cases_lt i n) [
    | inl lt ↦ so i f lt at
    | inr ge ↦
        (let same : i ≡ n = omega (arith, less, ge) in
        let is : b ≡ at.bucket = some_same b at.bucket (sym here ∙ ap (slice_get bs) (sym same) ∙ at.there) in
        each at.place f (subst (λ (z : Bucket). slice_get z.list.items at.place ≡ Some f) (sym is) at.here))
  ]

  pub all_named : (bs : List Bucket) (n : ℕ) → AllInTo bs n → length bs ≤ n → (f : ℕ) → IsNamed bs f → P f
  all_named bs n so all f named = let within = slice_get_within bs named.0 named.1.bucket named.1.there in so named.0 f (omega (arith, within, all)) named.1

-- ---- one bucket in the place of another

module _ (bs : List Bucket) (i : ℕ) (b c : Bucket) (here : slice_get bs i ≡ Some b) where
  abbrev pub exchanged : List Bucket
  exchanged = set bs i c

  -- the frames of the one are among those of the other
  pub in_exchanged : ((f k : ℕ) → slice_get b.list.items k ≡ Some f → (n : ℕ) × (slice_get c.list.items n ≡ Some f)) → (k f : ℕ) → IsIn bs k f → IsIn exchanged k f
  in_exchanged all k f at = elim (set_kept bs i c at.bucket k at.there) [
    | inl same ↦
        (let is : at.bucket ≡ b = some_same at.bucket b (sym at.there ∙ ap (slice_get bs) same ∙ here) in
        let there = all f at.place (subst (λ (z : Bucket). slice_get z.list.items at.place ≡ Some f) is at.here) in
        record {
          bucket = c;
          there = ap (slice_get exchanged) same ∙ set_here bs i c (slice_get_within bs i b here);
          place = there.0;
          here = there.1;
        })
    | inr there ↦ record { bucket = at.bucket; there = there; place = at.place; here = at.here }
  ]

  pub back_exchanged : ((f k : ℕ) → slice_get c.list.items k ≡ Some f → (n : ℕ) × (slice_get b.list.items n ≡ Some f)) → (k f : ℕ) → IsIn exchanged k f → IsIn bs k f
  back_exchanged all k f at = elim (set_cases bs i c at.bucket k at.there) [
    | inl same ↦
        (let there = all f at.place (subst (λ (z : Bucket). slice_get z.list.items at.place ≡ Some f) (sym same.1) at.here) in
        record { bucket = b; there = ap (slice_get bs) same.0 ∙ here; place = there.0; here = there.1 })
    | inr there ↦ record { bucket = at.bucket; there = there; place = at.place; here = at.here }
  ]

  pub buckets_exchanged : (s : Numbering) (ds : List (ℕ × NumberedFrame)) (room : ℕ) → IsBucket s ds room c → AreBuckets s ds room bs → AreBuckets s ds room exchanged
  buckets_exchanged s ds room is are k z e = elim (set_cases bs i c z k e) [
    | inl same ↦ subst (IsBucket s ds room) same.1 is
    | inr there ↦ are k z there
  ]

-- ---- one more bucket

pub in_more : (bs : List Bucket) (b : Bucket) (k f : ℕ) → IsIn bs k f → IsIn (bs ++ b ∷ []) k f
in_more bs b k f at = record { bucket = at.bucket; there = pushed_before bs b at.bucket k at.there; place = at.place; here = at.here }

pub buckets_more : (s : Numbering) (ds : List (ℕ × NumberedFrame)) (room : ℕ) (bs : List Bucket) (b : Bucket) → IsBucket s ds room b → AreBuckets s ds room bs → AreBuckets s ds room (bs ++ b ∷ [])
buckets_more s ds room bs b is are k z e = elim (pushed_cases bs b z k e) [
  | inl there ↦ are k z there
  | inr last ↦ subst (IsBucket s ds room) last.1 is
]

-- ---- one more frame

module _ (b c : Bucket) (frame : ℕ) (list : c.list.items ≡ b.list.items ++ frame ∷ []) (watch : c.watch ≡ b.watch) where
  pub frames_kept : (f k : ℕ) → slice_get b.list.items k ≡ Some f → (n : ℕ) × (slice_get c.list.items n ≡ Some f)
  frames_kept f k e = (k, ap (λ xs. slice_get xs k) list ∙ pushed_before b.list.items frame f k e)

  pub frame_last : (n : ℕ) × (slice_get c.list.items n ≡ Some frame)
  frame_last = (length b.list.items, ap (λ xs. slice_get xs (length b.list.items)) list ∙ pushed_last b.list.items frame)

  pub bucket_more : (s : Numbering) (ds : List (ℕ × NumberedFrame)) (room : ℕ) → frame < length ds → frame < room → IsBucket s ds room b → IsBucket s ds room c
  bucket_more s ds room lt inside is = record {
    declared = declared_pushed s ds b.list.items c.list.items frame lt list is.declared;
    within = λ k f e. elim (pushed_cases b.list.items frame f k (sym (ap (λ xs. slice_get xs k) list) ∙ e)) [
      | inl there ↦ is.within k f there
      | inr last ↦ subst (λ z. z < room) last.1 inside
    ];
    watch = watch_on s ds b.list.items c.list.items c.watch (goes_on_pushed b.list.items c.list.items frame list) (subst (IsWatch s ds b.list.items) (sym watch) is.watch);
  }

-- ---- what is known of a frame

-- there is more room
pub roomier : (s : Numbering) (ds : List (ℕ × NumberedFrame)) (room more : ℕ) (bs : List Bucket) → room ≤ more → AreBuckets s ds room bs → AreBuckets s ds more bs
roomier s ds room more bs le are i b e =
    let is = are i b e in
    record { declared = is.declared; within = λ k f here. let lt = is.within k f here in omega (arith, lt, le); watch = is.watch }

-- one was put
pub with_put : (s : Numbering) (ds : List (ℕ × NumberedFrame)) (old new : Representatives) (frame : ℕ) → AreRepresentatives s ds old → IsPut old frame new
    → frame < length ds → frame < length old.until.items → AreRepresentatives s ds new
with_put s ds old new frame are put lt room = record {
  buckets = subst (λ u. AreBuckets s ds (length u.items) new.buckets.items) (sym put.until) (put.buckets s ds (length old.until.items) lt room are.buckets);
  named = λ f at. put.kept f (are.named f (subst (λ u. 0 < slice_index u.items f) put.until at));
}

-- one stands for others up to an offset
pub with_until : (s : Numbering) (ds : List (ℕ × NumberedFrame)) (old new : Representatives) (frame n : ℕ) → AreRepresentatives s ds old → IsNamed old.buckets.items frame
    → new.buckets ≡ old.buckets → new.until.items ≡ set old.until.items frame n → AreRepresentatives s ds new
with_until s ds old new frame n are here same is = record {
  buckets =
      subst (λ z. AreBuckets s ds (length new.until.items) z.items) (sym same)
      (subst (λ z. AreBuckets s ds z old.buckets.items) (sym (ap length is ∙ length-set old.until.items frame n)) are.buckets);
  named = λ f lt. subst (λ z. IsNamed z.items f) (sym same) (by f lt (cases_eq f frame));
}
  where
    by : (f : ℕ) → 0 < slice_index new.until.items f → (f ≡ frame) ⊎ (f ≢ frame) → IsNamed old.buckets.items f
    by f lt (inl e) = subst (IsNamed old.buckets.items) (sym e) here
    by f lt (inr ne) = are.named f (subst (λ k. 0 < k) (ap (λ xs. get_or xs f 0) is ∙ get_or-set_other old.until.items frame f n 0 ne) lt)
