-- Reading entries one after the other, as the loop does.
use Rattle.std.proofs.Common.{◌≡◌, ℕ, suc, ◌-◌, ◌<◌, Bool, eqb, List, [], ◌∷◌, ◌++◌, Result, Ok, Err, sym, ap, ◌∙◌, arith}
use Rattle.layout.specs.Place.{Place}
use Rattle.layout.specs.declared.fault.ReadFault.{ReadFault}
use Rattle.layout.specs.Format.{Format, done, reads, andthen, behind_it}
use Rattle.layout.specs.FormatLaws.{reads_andthen, with_front, front_on, front_nil}
use Rattle.pool.specs.Entries.{Entry, indexed, entries, is_wide}

-- what follows an entry, n indices being left
abbrev behind_one : ℕ → Entry → Format (List Entry)
behind_one n e = andthen (entries n (is_wide e)) (λ others. done (e ∷ others))

by_entry : (n at : ℕ) (second : Bool) (bytes : List ℕ) → reads (entries (suc n) second) at bytes ≡ behind_it (reads (indexed second (eqb n 0)) at bytes) (behind_one n)
unfolding entries
by_entry n at second bytes = reads_andthen (indexed second (eqb n 0)) (behind_one n) at bytes

pub goes_on : (front : List Entry) (n at : ℕ) (second : Bool) (bytes : List ℕ) (e : Entry) (p : Place) → reads (indexed second (eqb n 0)) at bytes ≡ Ok (e, p)
    → with_front front (reads (entries (suc n) second) at bytes) ≡ with_front (front ++ e ∷ []) (reads (entries n (is_wide e)) p.at p.rest)
goes_on front n at second bytes e p read =
    ap (with_front front) (by_entry n at second bytes ∙ ap (λ r. behind_it r (behind_one n)) read) ∙ front_on front (e ∷ []) (entries n (is_wide e)) p.at p.rest

pub fails : (front : List Entry) (n at : ℕ) (second : Bool) (bytes : List ℕ) (f : ReadFault) → reads (indexed second (eqb n 0)) at bytes ≡ Err f → with_front front (reads (entries (suc n) second) at bytes) ≡ Err f
fails front n at second bytes f read = ap (with_front front) (by_entry n at second bytes ∙ ap (λ r. behind_it r (behind_one n)) read)

pub is_done : (front : List Entry) (second : Bool) (p : Place) → with_front front (reads (entries 0 second) p.at p.rest) ≡ Ok (front, p)
unfolding entries
is_done front second p = front_nil front p

-- the same by the number of indices that are left
pub steps : (front : List Entry) (left at : ℕ) (second : Bool) (bytes : List ℕ) (e : Entry) (p : Place) (total : Result (List Entry × Place) ReadFault) → 0 < left
    → reads (indexed second (eqb (left - 1) 0)) at bytes ≡ Ok (e, p) → with_front front (reads (entries left second) at bytes) ≡ total
    → with_front (front ++ e ∷ []) (reads (entries (left - 1) (is_wide e)) p.at p.rest) ≡ total
steps front left at second bytes e p total some read so_far =
    let is : left ≡ suc (left - 1) = omega arith in
    sym (goes_on front (left - 1) at second bytes e p read) ∙ ap (λ (n : ℕ). with_front front (reads (entries n second) at bytes)) (sym is) ∙ so_far

pub stops : (front : List Entry) (left at : ℕ) (second : Bool) (bytes : List ℕ) (f : ReadFault) (total : Result (List Entry × Place) ReadFault) → 0 < left
    → with_front front (reads (entries left second) at bytes) ≡ total → reads (indexed second (eqb (left - 1) 0)) at bytes ≡ Err f → total ≡ Err f
stops front left at second bytes f total some so_far read =
    let is : left ≡ suc (left - 1) = omega arith in
    sym so_far ∙ ap (λ (n : ℕ). with_front front (reads (entries n second) at bytes)) is ∙ fails front (left - 1) at second bytes f read
