-- Rows of which the places that hold objects are listed, as they change.
use Rattle.std.proofs.Common.{◌≡◌, ◌∙◌, ℕ, zero, suc, ◌<◌, Bool, true, false, cond, nat_eq, List, [], ◌∷◌, ◌++◌, length, map, replicate, set, get_or, Result, Ok, Err, OnOk, OnErr, refl, sym, ap, subst, inl, inr, ◌⊎◌, arith}
use Rattle.std.specs.declared.alloc.AllocError.{AllocError}
use Rattle.std.proofs.lemmas.Bool.{eqb-true, cases_eq, cases_lt, true≢false}
use Rattle.std.proofs.lemmas.Bool.Decides.{nat_tests}
use Rattle.std.proofs.lemmas.List.{length-set, length-append, length-replicate, get_or-set_same, get_or-set_other, length-map, get_or_append_left, get_or_push, get_or-replicate, get_or-map}
use Rattle.type_numbers.specs.Numbers.{Numbering, IsGiven}
use Rattle.blocks.specs.Rows.{Rows, declared_row}
use Rattle.method_frames.specs.Objects.{is_uninitialized, replaced}
use Rattle.method_frames.specs.private.KnownRows.{AreKnown}
use Rattle.method_frames.specs.private.Holders.{IsListed, AreListed, AreHeld, KeepsListed, Replaces}
use Rattle.method_frames.specs.declared.holders.Holders.{Holders}
use Rattle.method_frames.proofs.Knowing.{none_held, at_more, tops_known, taken_known, declared_known, put_known}

module _ (x y : Holders) (kept : KeepsListed x y) where
  pub listed_kept : (row : List ℕ) → AreListed x row → AreListed y row
  listed_kept row all place lt o = kept (get_or row place 0) place (all place lt o)

  pub held_kept : (s : Numbering) (rows : Rows) → AreHeld s rows x → AreHeld s rows y
  held_kept s rows h = record {
    known = h.known;
    running = listed_kept rows.running h.running;
    declared = λ row lt. listed_kept (declared_row rows row) (h.declared row lt);
  }

-- one place changes, and what it holds is listed
pub listed_set : (x : Holders) (row : List ℕ) (place n : ℕ) → AreListed x row → (is_uninitialized n ≡ true → IsListed x n place) → AreListed x (set row place n)
listed_set x row place n all h k lt o =
    let long = length-set row place n in
    elim (cases_eq k place) [
      | inl e ↦ (let same = ap (λ j. get_or (set row place n) j 0) e ∙ get_or-set_same row place n 0 (omega (arith, long, lt, e)) in
          subst (λ m. IsListed x m k) (sym same) (subst (λ j. IsListed x n j) (sym e) (h (sym (ap is_uninitialized same) ∙ o))))
      | inr ne ↦ (let same = get_or-set_other row place k n 0 ne in subst (λ m. IsListed x m k) (sym same) (all k (omega (arith, long, lt)) (sym (ap is_uninitialized same) ∙ o)))
    ]

pub tops_listed : (x : Holders) (count : ℕ) → AreListed x (replicate count 0)
tops_listed x count place lt o =
    let zero_number : ℕ = 0 in
    let long = length-replicate count zero_number in
    absurd (true≢false (sym o ∙ ap is_uninitialized (get_or-replicate count place 0 0 (omega (arith, long, lt)))))

pub tops_held : (s : Numbering) (count : ℕ) (x : Holders) → AreHeld s (record { running = replicate count 0; declared = []; kept = replicate count 0; known = [] }) x
tops_held s count x = record { known = tops_known s count; running = tops_listed x count; declared = λ row lt. absurd (omega (arith, lt)) }

pub put_held : {E : Type 0} (s : Numbering) (old new : Rows) (place n : ℕ) (r : Result Unit E) (x y : Holders) → AreHeld s old x → KeepsListed x y → (is_uninitialized n ≡ true → IsListed y n place) → IsGiven s n
    → OnOk r (new ≡ record old { running = set old.running place n }) → OnErr r (new ≡ old) → AreHeld s new y
put_held s old new place n (Ok u) x y h kept listed given ok err =
    let k = held_kept x y kept s old h in
    subst (λ rows. AreHeld s rows y) (sym ok) (record { known = put_known s old place n k.known given; running = listed_set y old.running place n k.running listed; declared = k.declared })
put_held s old new place n (Err e) x y h kept listed given ok err = subst (λ rows. AreHeld s rows y) (sym err) (held_kept x y kept s old h)

pub taken_held : (s : Numbering) (rows : Rows) (row : ℕ) (x : Holders) → row < length rows.declared → AreHeld s rows x → AreHeld s (record rows { running = declared_row rows row }) x
taken_held s rows row x lt h = record { known = taken_known s rows row lt h.known; running = h.declared row lt; declared = h.declared }

-- the running row is kept
pub keeping_held : (s : Numbering) (old new : Rows) (x : Holders) → new ≡ record old { kept = old.running } → AreHeld s old x → AreHeld s new x
keeping_held s old new x e h = subst (λ rows. AreHeld s rows x) (sym e) (record {
  known = record { running = h.known.running; declared = h.known.declared; even = h.known.even; known = h.known.known };
  running = h.running;
  declared = h.declared;
})

pub declared_held : {R E : Type 0} (s : Numbering) (old new : Rows) (r : Result R E) (x : Holders) → AreHeld s old x
    → OnOk r (new ≡ record old { declared = old.declared ++ old.running ∷ [] }) → OnErr r (new ≡ old) → AreHeld s new x
declared_held s old new (Ok u) x h ok err = subst (λ rows. AreHeld s rows x) (sym ok) (record {
  known = declared_known s old h.known;
  running = h.running;
  declared = λ row lt. at_more s old h.known row lt (AreListed x) h.declared h.running;
})
declared_held s old new (Err e) x h ok err = subst (λ rows. AreHeld s rows x) (sym err) h

-- places come to hold a number that is none of an object
module _ (s : Numbering) (object by : ℕ) (old new : Rows) (x : Holders) (r : Replaces object by old new) where
  given_each : (i : ℕ) → (get_or new.running i 0 ≡ get_or old.running i 0) ⊎ ((get_or old.running i 0 ≡ object) × (get_or new.running i 0 ≡ by)) → IsGiven s (get_or old.running i 0) → IsGiven s by → IsGiven s (get_or new.running i 0)
  given_each i (inl e) a b = subst (IsGiven s) (sym e) a
  given_each i (inr e) a b = subst (IsGiven s) (sym e.1) b

  listed_each : (i : ℕ) → (get_or new.running i 0 ≡ get_or old.running i 0) ⊎ ((get_or old.running i 0 ≡ object) × (get_or new.running i 0 ≡ by)) → is_uninitialized by ≡ false
      → (is_uninitialized (get_or old.running i 0) ≡ true → IsListed x (get_or old.running i 0) i) → is_uninitialized (get_or new.running i 0) ≡ true → IsListed x (get_or new.running i 0) i
  listed_each i (inl e) n a o = subst (λ m. IsListed x m i) (sym e) (a (sym (ap is_uninitialized e) ∙ o))
  listed_each i (inr e) n a o = absurd (true≢false (sym o ∙ ap is_uninitialized e.1 ∙ n))

  pub replaced_held : is_uninitialized by ≡ false → IsGiven s by → AreHeld s old x → AreHeld s new x
  replaced_held none given h =
      let k = h.known in
      let size = r.size in
      let rows : Rows = record old { running = new.running } in
      subst (λ rs. AreHeld s rs x) (sym r.rest) (record {
        known = record {
          running = λ i lt. given_each i (r.each i) (k.running i (omega (arith, lt, size))) given;
          declared = k.declared;
          even = λ row lt. k.even row lt ∙ sym size;
          known = k.known;
        };
        running = λ i lt o. listed_each i (r.each i) none (h.running i (omega (arith, lt, size))) o;
        declared = h.declared;
      })

-- more is known of rows that stay
pub noted_held : (s : Numbering) (old new : Rows) (x : Holders) → AreKnown s new → new.running ≡ old.running → new.declared ≡ old.declared → AreHeld s old x → AreHeld s new x
noted_held s old new x known running declared h = record {
  known = known;
  running = subst (AreListed x) (sym running) h.running;
  declared = λ row lt. subst (λ ds. AreListed x (get_or ds row [])) (sym declared) (h.declared row (subst (λ ds. row < length ds) declared lt));
}

-- what was said to fit is forgotten
pub forgotten_held : (s : Numbering) (old new : Rows) (x : Holders) → (new ≡ old) ⊎ (new ≡ record old { known = [] }) → AreHeld s old x → AreHeld s new x
forgotten_held s old new x (inl e) h = subst (λ rows. AreHeld s rows x) (sym e) h
forgotten_held s old new x (inr e) h = subst (λ rows. AreHeld s rows x) (sym e) (record {
  known = record { running = h.known.running; declared = h.known.declared; even = h.known.even; known = λ a b k. none_held k };
  running = h.running;
  declared = h.declared;
})

pub forgotten_rest : (old new : Rows) → (new ≡ old) ⊎ (new ≡ record old { known = [] })
    → (new.running ≡ old.running) × (new.declared ≡ old.declared) × (new.kept ≡ old.kept)
forgotten_rest old new (inl e) = (ap (λ r. r.running) e, ap (λ r. r.declared) e, ap (λ r. r.kept) e)
forgotten_rest old new (inr e) = (ap (λ r. r.running) e, ap (λ r. r.declared) e, ap (λ r. r.kept) e)

-- an item more on top
pub listed_push : (x : Holders) (row : List ℕ) (n : ℕ) → AreListed x row → (is_uninitialized n ≡ true → IsListed x n (length row)) → AreListed x (row ++ n ∷ [])
listed_push x row n all h k lt o =
    let long = length-append row (n ∷ []) in
    elim (cases_lt k (length row)) [
      | inl less ↦ (let same = get_or_append_left row (n ∷ []) 0 k less in subst (λ m. IsListed x m k) (sym same) (all k less (sym (ap is_uninitialized same) ∙ o)))
      | inr more ↦ (let here : k ≡ length row = omega (arith, lt, long, more) in let same = get_or_push row n 0 k (sym here) in
          subst (λ m. IsListed x m k) (sym same) (subst (λ j. IsListed x n j) (sym here) (h (sym (ap is_uninitialized same) ∙ o))))
    ]

pub listed_pop : (x : Holders) (row : List ℕ) (n : ℕ) → AreListed x (row ++ n ∷ []) → AreListed x row
listed_pop x row n all k lt o =
    let same = get_or_append_left row (n ∷ []) 0 k lt in
    let long = length-append row (n ∷ []) in
    subst (λ m. IsListed x m k) same (all k (omega (arith, lt, long)) (ap is_uninitialized same ∙ o))

pub listed_map : (x : Holders) (row : List ℕ) (object by : ℕ) → is_uninitialized by ≡ false → AreListed x row → AreListed x (map (replaced object by) row)
listed_map x row object by none all k lt o =
    let long = length-map row (replaced object by) in
    let inside : k < length row = omega (arith, lt, long) in
    let here = get_or-map (replaced object by) row k 0 0 inside in
    which (nat_eq (get_or row k 0) object) refl here
  where
    which : (b : Bool) → nat_eq (get_or row k 0) object ≡ b → get_or (map (replaced object by) row) k 0 ≡ cond (nat_eq (get_or row k 0) object) by (get_or row k 0) → IsListed x (get_or (map (replaced object by) row) k 0) k
    which true e h = absurd (true≢false (sym o ∙ ap is_uninitialized (h ∙ ap (λ b. cond b by (get_or row k 0)) e) ∙ none))
    which false e h =
        let same = h ∙ ap (λ b. cond b by (get_or row k 0)) e in
        let long = length-map row (replaced object by) in
        subst (λ m. IsListed x m k) (sym same) (all k (omega (arith, lt, long)) (sym (ap is_uninitialized same) ∙ o))

-- where no place is listed, no other number takes the place of an object's
module _ (object by : ℕ) (own : is_uninitialized object ≡ true) where
  none_among : (row : List ℕ) → ((place : ℕ) → place < length row → is_uninitialized (get_or row place 0) ≡ true → ⊥) → row ≡ map (replaced object by) row
  none_among [] none = refl
  none_among (n ∷ ns) none = (λ i. first (nat_eq n object) refl i ∷ none_among ns (λ place lt. none (suc place) (omega (arith, lt))) i)
    where
      first : (b : Bool) → nat_eq n object ≡ b → n ≡ replaced object by n
      first true e = let same : n ≡ object = grind (arith, nat_tests, e) in absurd (none 0 (omega arith) (ap is_uninitialized same ∙ own))
      first false e = sym (ap (λ b. cond b by n) e)

  pub none_replaced : (x : Holders) (row : List ℕ) → ((o place : ℕ) → IsListed x o place → ⊥) → AreListed x row → row ≡ map (replaced object by) row
  none_replaced x row none all = none_among row (λ place lt o. none (get_or row place 0) place (all place lt o))

-- ---- a row in which a number takes the place of an object's throughout

each_replaced : (object by : ℕ) (row : List ℕ) (place : ℕ) → (get_or (map (replaced object by) row) place 0 ≡ get_or row place 0) ⊎ ((get_or row place 0 ≡ object) × (get_or (map (replaced object by) row) place 0 ≡ by))
each_replaced object by [] place = inl refl
each_replaced object by (n ∷ ns) zero = which (nat_eq n object) refl
  where
    which : (b : Bool) → nat_eq n object ≡ b → (cond (nat_eq n object) by n ≡ n) ⊎ ((n ≡ object) × (cond (nat_eq n object) by n ≡ by))
    which true e = inr (eqb-true n object e, ap (λ b. cond b by n) e)
    which false e = inl (ap (λ b. cond b by n) e)
each_replaced object by (n ∷ ns) (suc place) = each_replaced object by ns place

pub replaces_whole : (object by : ℕ) (old new : Rows) (r : Result Unit AllocError) → OnOk r (new ≡ record old { running = map (replaced object by) old.running }) → OnErr r (new ≡ old) → Replaces object by old new
replaces_whole object by old new (Ok u) is same = record {
  rest = is ∙ (λ i. record old { running = (sym is i).running });
  size = ap (λ (x : Rows). length x.running) is ∙ length-map old.running (replaced object by);
  each = λ place. subst (λ (x : Rows). (get_or x.running place 0 ≡ get_or old.running place 0) ⊎ ((get_or old.running place 0 ≡ object) × (get_or x.running place 0 ≡ by))) (sym is) (each_replaced object by old.running place);
}
replaces_whole object by old new (Err error) is same = record {
  rest = same ∙ (λ i. record old { running = (sym same i).running });
  size = ap (λ (x : Rows). length x.running) same;
  each = λ place. inl (ap (λ (x : Rows). get_or x.running place 0) same);
}

-- the number of an object is not that of Top
pub object_high : (object : ℕ) → is_uninitialized object ≡ true → 0 < object
object_high zero own = absurd (true≢false (sym own))
object_high (suc n) own = omega arith
