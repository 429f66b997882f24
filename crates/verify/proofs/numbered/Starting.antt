-- The entries of an exception table in the order in which their ranges begin.
use Rattle.std.proofs.Common.{◌≡◌, ◌⊎◌, ◌∙◌, ℕ, zero, suc, ◌+◌, ◌≤◌, ◌<◌, Bool, true, false, List, [], ◌∷◌, get_or, slice_get, Some, refl, sym, ap, subst, inl, inr, arith}
use Rattle.std.specs.Prelude.{max, slice_index}
use Rattle.std.specs.BTreeMap.{IsEmpty}
use Rattle.std.specs.List.Sorted.{IsPermutation, IsNonDecreasingBy}
use Rattle.std.proofs.lemmas.Bool.{cases_lt}
use Rattle.std.proofs.lemmas.Option.{slice_get_within, get_or_from_slice_get, slice_get-get_or}
use Rattle.std.proofs.lemmas.List.Sorted.{Contains-permutation, IsPermutation-sym}
use Rattle.classfile.specs.Methods.{ExceptionEntry, covers}
use Rattle.type_numbers.specs.Numbers.{Numbering}
use Rattle.method_frames.specs.NumberedFrames.{NumberedFrame, NumberedFrames}
use Rattle.verify.specs.Verdict.{is_covered}
use Rattle.verify.specs.declared.pass.handlers.Handler.{Handler}
use Rattle.verify.specs.declared.pass.handlers.Handlers.{Handlers}
use Rattle.verify.specs.private.pass.Buckets.{AreRepresentatives}
use Rattle.verify.specs.private.pass.Following.{IsHandler, AreHandlers, IsOpen, Catches, Follows, AreAhead, AreFrom}
use Rattle.verify.proofs.numbered.Following.{has_entry, covered_by, covered_by_none, begun_covers, covered_starts, covered_ends}
use Rattle.verify.proofs.numbered.Listed.{some_same}
use Rattle.verify.proofs.numbered.Watched.{empty_all}

-- ---- an entry and its handler

pub record HasHandler (s : Numbering) (ds : List (ℕ × NumberedFrame)) (hs : List Handler) (k : ℕ) (e : ExceptionEntry) : Type 0 where
  pub handler : Handler
  pub got : slice_get hs k ≡ Some handler
  pub is : IsHandler s ds e handler

pub has_handler : (s : Numbering) (ds : List (ℕ × NumberedFrame)) (es : List ExceptionEntry) (hs : List Handler) (k : ℕ) (e : ExceptionEntry) → AreHandlers s ds es hs → slice_get es k ≡ Some e → HasHandler s ds hs k e
has_handler s ds [] hs k e a got = absurd (cc)
has_handler s ds (x ∷ es) [] k e a got = absurd a
has_handler s ds (x ∷ es) (h ∷ hs) zero e a got = let same : x ≡ e = cc in record { handler = h; got = refl; is = subst (λ y. IsHandler s ds y h) same a.0 }
has_handler s ds (x ∷ es) (h ∷ hs) (suc k) e a got = let t = has_handler s ds es hs k e a.1 got in record { handler = t.handler; got = t.got; is = t.is }

-- ---- the order of starts

-- those after an entry do not begin before it
pub later_starts : (xs : List Handler) (n : ℕ) (x : Handler) → IsNonDecreasingBy (λ (one : Handler). one.from) xs → (place : ℕ) (one : Handler) → n ≤ place → slice_get xs place ≡ Some one
    → x ≡ get_or xs n x → x.from ≤ one.from
later_starts xs n x rises place one behind there is =
    let within = slice_get_within xs place one there in
    let r = rises n place x behind within in
    let first = ap (λ (z : Handler). z.from) is in
    let last = ap (λ (z : Handler). z.from) (get_or_from_slice_get xs place one x there) in
    omega (arith, r, first, last)

-- the item that was read is the one at its place
pub same_one : (xs : List Handler) (n : ℕ) (x other : Handler) → x ≡ get_or xs n x → slice_get xs n ≡ Some other → x ≡ other
same_one xs n x other is there = is ∙ get_or_from_slice_get xs n other x there

pub greater_of : (a b c : ℕ) → c ≡ max a b → (c ≡ a) ⊎ (c ≡ b)
greater_of a b c is = elim (cases_lt a b) [
  | inl lt ↦ inr (omega (arith, is, lt))
  | inr le ↦ inl (omega (arith, is, le))
]

-- before the first instruction
pub follows_first : (x : NumberedFrames) (es : List ExceptionEntry) (h : Handlers) → AreHandlers x.types x.declared es h.table.items → IsPermutation h.table.items h.by_start.items
    → IsNonDecreasingBy (λ (one : Handler). one.from) h.by_start.items → h.begun ≡ 0 → h.settled ≡ 0 → h.reach ≡ 0 → h.next_start ≡ 0 → AreRepresentatives x.types x.declared h.representatives
    → h.representatives.until.items ≡ [] → IsEmpty h.caught → Follows x es 0 h
follows_first x es h a moved rises begun settled reach next are none empty = record {
  entries = a;
  moved = moved;
  rises = rises;
  few = omega (arith, begun, settled);
  within = omega (arith, begun);
  reached = record { started = λ place one lt here. absurd (omega (arith, lt, begun)); last = inl reach };
  later = λ place one behind here. omega (arith, next);
  settled = λ place one o. absurd (let early = o.early in omega (arith, early, settled));
  representatives = are;
  standing = λ f lt. absurd (let stops = ap (λ us. slice_index us f) none in omega (arith, lt, stops));
  caught = empty_all (λ key one. Catches x one) h.caught empty;
}

-- ---- both orders have the entries

-- an item of a list is one of the list in another order
pub moved_to : (xs ys : List Handler) (k : ℕ) (one : Handler) → IsPermutation xs ys → slice_get xs k ≡ Some one → (place : ℕ) × (slice_get ys place ≡ Some one)
moved_to xs ys k one moved here =
    let c = Contains-permutation xs ys one moved (k, slice_get_within xs k one here, get_or_from_slice_get xs k one one here) in
    (c.0, slice_get-get_or ys c.0 one c.1 ∙ ap (λ (z : Handler). Some z) c.2)

module _ (x : NumberedFrames) (es : List ExceptionEntry) (at : ℕ) (h : Handlers) (k : Follows x es at h) where
  -- an entry that covers the offset has begun, and has not ended
  pub covering_open : AreAhead at h → (n : ℕ) (e : ExceptionEntry) (one : Handler) → slice_get h.table.items n ≡ Some one → IsHandler x.types x.declared e one → covers e at ≡ true
      → (place : ℕ) × IsOpen at h.begun h place one
  covering_open ahead n e one here is covered =
      let m = moved_to h.table.items h.by_start.items n one k.moved here in
      let starts = covered_starts e at covered in
      let ends = covered_ends e at covered in
      let from = is.from in
      let to = is.to in
      let early : m.0 < h.begun = elim (cases_lt m.0 h.begun) [
        | inl lt ↦ lt
        | inr ge ↦ (let later = ahead m.0 one ge m.1 in absurd (omega (arith, later, starts, from)))
      ] in
      (m.0, record { early = early; here = m.1; lasts = omega (arith, ends, to) })

  -- one of them is that of an entry of the table
  pub entry_of_start : (n : ℕ) (one : Handler) → slice_get h.by_start.items n ≡ Some one → (e : ExceptionEntry) × IsHandler x.types x.declared e one
  entry_of_start n one here =
      let m = moved_to h.by_start.items h.table.items n one (IsPermutation-sym h.table.items h.by_start.items k.moved) here in
      let entry = has_entry x.types x.declared es h.table.items m.0 one k.entries (slice_get_within h.table.items m.0 one m.1) in
      (entry.entry, subst (IsHandler x.types x.declared entry.entry) (get_or_from_slice_get h.table.items m.0 one one m.1) entry.is)

  -- ---- whether one covers the offset

  not_true : (b : Bool) → (b ≡ true → ⊥) → b ≡ false
  not_true true f = absurd (f refl)
  not_true false f = refl

  pub reach_covers : at < h.reach → is_covered es at ≡ true
  reach_covers lt = elim k.reached.last [
    | inl none ↦ absurd (omega (arith, lt, none))
    | inr last ↦ by last.0 last.1 last.2 last.3 last.4
  ]
    where
      by : (place : ℕ) (one : Handler) → place < h.begun → slice_get h.by_start.items place ≡ Some one → one.to ≡ h.reach → is_covered es at ≡ true
      by place one early here ends =
          let m = moved_to h.by_start.items h.table.items place one (IsPermutation-sym h.table.items h.by_start.items k.moved) here in
          let entry = has_entry x.types x.declared es h.table.items m.0 one k.entries (slice_get_within h.table.items m.0 one m.1) in
          let same = get_or_from_slice_get h.table.items m.0 one one m.1 in
          let is = subst (IsHandler x.types x.declared entry.entry) same entry.is in
          let from = is.from in
          let to = is.to in
          let starts = (k.reached.started place one early here).0 in
          covered_by es at m.0 entry.entry entry.got (begun_covers entry.entry at (omega (arith, starts, from)) (omega (arith, ends, to, lt)))

  pub past_reach : h.reach ≤ at → AreAhead at h → is_covered es at ≡ false
  past_reach le ahead =
      covered_by_none es at (λ n e lt here. not_true (covers e at) (λ covered.
      let t = has_handler x.types x.declared es h.table.items n e k.entries here in
      let o = covering_open ahead n e t.handler t.got t.is covered in
      let ends = (k.reached.started o.0 t.handler o.1.early o.1.here).1 in
      let lasts = o.1.lasts in
      omega (arith, ends, lasts, le)))

  -- ---- the next one

  pub begun_more : (one : Handler) (reach n : ℕ) → slice_get h.by_start.items h.begun ≡ Some one → one.from ≤ at → h.reach ≤ reach → one.to ≤ reach → (reach ≡ h.reach) ⊎ (reach ≡ one.to) → n ≡ h.begun + 1
      → Follows x es at (record h { reach = reach; begun = n })
  begun_more one reach n here starts up least which more = record {
    entries = k.entries;
    moved = k.moved;
    rises = k.rises;
    few = let few = k.few in omega (arith, few, more);
    within = let within = slice_get_within h.by_start.items h.begun one here in omega (arith, within, more);
    reached = record {
      started = λ place other lt there. elim (cases_lt place h.begun) [
        | inl before ↦ (let so = k.reached.started place other before there in let ends = so.1 in (so.0, omega (arith, ends, up)))
        | inr behind ↦
            (let same : place ≡ h.begun = omega (arith, lt, behind, more) in
            let is : one ≡ other = some_same one other (sym here ∙ ap (slice_get h.by_start.items) (sym same) ∙ there) in
            subst (λ (z : Handler). (z.from ≤ at) × (z.to ≤ reach)) is (starts, least))
      ];
      last = elim which [
        | inl same ↦ elim k.reached.last [
          | inl none ↦ inl (same ∙ none)
          | inr last ↦ inr (last.0, last.1, (let lt = last.2 in omega (arith, lt, more)), last.3, last.4 ∙ sym same)
        ]
        | inr same ↦ inr (h.begun, one, omega (arith, more), here, sym same)
      ];
    };
    later = λ place other behind there. k.later place other (omega (arith, behind, more)) there;
    settled = λ place other o. k.settled place other (record { early = o.early; here = o.here; lasts = o.lasts });
    representatives = k.representatives;
    standing = k.standing;
    caught = k.caught;
  }

  -- where the next one begins
  pub follows_from : (start : ℕ) → AreFrom start h → Follows x es at (record h { next_start = start })
  follows_from start from = record {
    entries = k.entries;
    moved = k.moved;
    rises = k.rises;
    few = k.few;
    within = k.within;
    reached = record { started = k.reached.started; last = k.reached.last };
    later = from;
    settled = λ place other o. k.settled place other (record { early = o.early; here = o.here; lasts = o.lasts });
    representatives = k.representatives;
    standing = k.standing;
    caught = k.caught;
  }

  -- the offset lies before it
  pub ahead_of : at < h.next_start → AreAhead at h
  ahead_of lt place one behind there = let from = k.later place one behind there in omega (arith, lt, from)
