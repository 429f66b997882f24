-- The first entry that bytes do not spell, one entry after the other.
use Rattle.std.proofs.Common.{◌≡◌, ◌∙◌, ℕ, zero, suc, ◌+◌, ◌-◌, ◌<◌, ◌≤◌, ltb, true, false, is_some, is_err, List, ◌∷◌, length, Option, Some, None, Result, Ok, Err, refl, sym, ap, arith, add-one, true≢false}
use Rattle.std.proofs.lemmas.Bool.{le-ltb}
use Rattle.layout.specs.Place.{Place}
use Rattle.layout.specs.Format.{reads, behind_it, andthen, number, times, done}
use Rattle.layout.specs.FormatLaws.{reads_andthen, reads_fault, fault_reads}
use Rattle.layout.specs.declared.fault.ReadFault.{ReadFault}
use Rattle.frames.specs.StackMaps.{MapEntry, map_entry, stack_map}
use Rattle.frames.specs.RefusedEntries.{faulty_before, faulty_from, faulty_behind, faulty_entry, FaultyIsFault}

pub faulty_next : (count place : ℕ) (here next : Place) (e : MapEntry) → place < count → reads map_entry here.at here.rest ≡ Ok (e, next)
    → faulty_from (count - place) place here ≡ faulty_from (count - (place + 1)) (place + 1) next
faulty_next count place here next e lt read =
    let n = count - (place + 1) in
    let is : count - place ≡ suc n = omega arith in
    ap (λ k. faulty_from k place here) is ∙ ap (λ r. faulty_before r place (faulty_from n (suc place))) read ∙ ap (λ p. faulty_from n p next) (sym (add-one place))

pub faulty_here : (count place : ℕ) (here : Place) (e : ReadFault) → place < count → reads map_entry here.at here.rest ≡ Err e → faulty_from (count - place) place here ≡ Some place
faulty_here count place here e lt read =
    let n = count - (place + 1) in
    let is : count - place ≡ suc n = omega arith in
    ap (λ k. faulty_from k place here) is ∙ ap (λ r. faulty_before r place (faulty_from n (suc place))) read

pub faulty_end : (count place : ℕ) (here : Place) → count - place ≡ 0 → faulty_from (count - place) place here ≡ None
faulty_end count place here is = ap (λ k. faulty_from k place here) is

-- ---- a fault in the bytes of an entry

err_behind : (v : MapEntry) (r : Result (List MapEntry × Place) ReadFault) → is_err (behind_it r (λ others. done (v ∷ others))) ≡ is_err r
err_behind v (Ok x) = refl
err_behind v (Err e) = refl

err_entry : (n place : ℕ) (r : Result (MapEntry × Place) ReadFault) → ((here : Place) → is_err (reads (times n map_entry) here.at here.rest) ≡ is_some (faulty_from n (suc place) here))
    → is_err (behind_it r (λ v. andthen (times n map_entry) (λ others. done (v ∷ others)))) ≡ is_some (faulty_before r place (faulty_from n (suc place)))
err_entry n place (Err e) k = refl
err_entry n place (Ok x) k =
    ap is_err (reads_andthen (times n map_entry) (λ others. done (x.0 ∷ others)) x.1.at x.1.rest) ∙ err_behind x.0 (reads (times n map_entry) x.1.at x.1.rest) ∙ k x.1

err_from : (n place : ℕ) (here : Place) → is_err (reads (times n map_entry) here.at here.rest) ≡ is_some (faulty_from n place here)
unfolding times
err_from zero place here = refl
err_from (suc n) place here =
    ap is_err (reads_andthen map_entry (λ v. andthen (times n map_entry) (λ others. done (v ∷ others))) here.at here.rest)
    ∙ err_entry n place (reads map_entry here.at here.rest) (err_from n (suc place))

err_count : (r : Result (ℕ × Place) ReadFault) → is_err r ≡ false → is_err (behind_it r (λ count. times count map_entry)) ≡ is_some (faulty_behind r)
err_count (Ok x) h = err_from x.0 0 x.1
err_count (Err e) h = absurd (true≢false h)

whole_count : (body : List ℕ) → 2 ≤ length body → is_err (reads (number 2) 0 body) ≡ false
whole_count body le =
    let long : ltb (length body) 2 ≡ false = le-ltb _ _ le in
    rw long refl

err_map : (body : List ℕ) → 2 ≤ length body → is_err (reads stack_map 0 body) ≡ is_some (faulty_entry body)
unfolding stack_map
err_map body le = ap is_err (reads_andthen (number 2) (λ count. times count map_entry) 0 body) ∙ err_count (reads (number 2) 0 body) (whole_count body le)

some_place : (o : Option ℕ) → is_some o ≡ true → (place : ℕ) × (o ≡ Some place)
some_place None e = absurd (true≢false (sym e))
some_place (Some place) e = (place, refl)

the_err : {V : Type 0} (r : Result V ReadFault) → is_err r ≡ true → (e : ReadFault) × (r ≡ Err e)
the_err (Ok x) h = absurd (true≢false (sym h))
the_err (Err e) h = (e, refl)

pub faulty_is_fault : FaultyIsFault
faulty_is_fault body le =
    let same = err_map body le in (
      λ e. some_place (faulty_entry body) (sym same ∙ ap is_err (fault_reads stack_map 0 body e.0 e.1)),
      λ p.
          let e = the_err (reads stack_map 0 body) (same ∙ ap is_some p.1) in
          (e.0, reads_fault stack_map 0 body e.0 e.1),
    )
