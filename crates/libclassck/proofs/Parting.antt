-- Files that stand one after the other in bytes.
use Rattle.std.proofs.Common.{◌≡◌, ◌∙◌, ℕ, ◌+◌, ◌-◌, ◌≤◌, ◌<◌, Bool, true, false, cond, ltb, eqb, List, [], ◌∷◌, ◌++◌, Option, Some, None, length, take, drop, get_or, refl, sym, ap, subst, arith, append_assoc, inl, inr, ◌⊎◌}
use Rattle.std.proofs.lemmas.Bool.{eqb-true, ltb-false, le-ltb, lt-ltb}
use Rattle.std.proofs.lemmas.List.{take-append-drop, append-nil, length-append, take_at, drop_at, length-take, drop_more, drop_all}
use Rattle.std.specs.Prelude.{nat_eq, nat_lt, if◌then◌else◌}
use Rattle.std.specs.List.{flat_map}
use Rattle.std.specs.Option.{option_map}
use Rattle.libclassck.specs.Files.{AreFiles, ends_from}

-- the bytes of files
abbrev pub joined : List (List ℕ) → List ℕ
joined files = flat_map (λ file. file) files

-- the files that end there in bytes that begin at `start`, if they are all of these bytes
abbrev pub files_in : ℕ → List ℕ → List ℕ → Option (List (List ℕ))
files_in start bytes [] = if nat_eq (length bytes) 0 then Some [] else None
files_in start bytes (end ∷ ends) =
    if nat_lt end start then None
    else if nat_lt (length bytes) (end - start) then None
    else option_map (λ files. take (end - start) bytes ∷ files) (files_in end (drop (end - start) bytes) ends)

chosen : {A : Type 0} (b : Bool) (x y z : A) → cond b x y ≡ z → ((b ≡ true) × (x ≡ z)) ⊎ ((b ≡ false) × (y ≡ z))
chosen true x y z e = inl (refl, e)
chosen false x y z e = inr (refl, e)

abbrev some : {A : Type 0} → A → Option A
some x = Some x

abbrev none : {A : Type 0} → Option A
none = None

same_some : {A : Type 0} (x y : A) → some x ≡ some y → x ≡ y
same_some x y e = cc

not_some : {A : Type 0} (x : A) → none ≡ some x → ⊥
not_some x e = cc

mapped : {A B : Type 0} (f : A → B) (o : Option A) (y : B) → option_map f o ≡ Some y → (x : A) × (o ≡ Some x) × (f x ≡ y)
mapped f None y e = absurd (not_some y e)
mapped f (Some x) y e = (x, refl, same_some (f x) y e)

empty : (bytes : List ℕ) → length bytes ≡ 0 → bytes ≡ []
empty [] e = refl
empty (b ∷ bytes) e = absurd (omega (arith, e))

pub sound : (start : ℕ) (bytes ends : List ℕ) (files : List (List ℕ)) → files_in start bytes ends ≡ Some files
    → (bytes ≡ joined files) × (ends ≡ ends_from start files)
sound start bytes [] files e =
    elim (chosen (eqb (length bytes) 0) (Some []) None (Some files) e) [
      | inl h ↦
          let same : [] ≡ files = same_some [] files h.1 in
          (empty bytes (eqb-true _ _ h.0) ∙ ap joined same, ap (ends_from start) same)
      | inr h ↦ absurd (not_some files h.1)
    ]
sound start bytes (end ∷ ends) files e =
    elim (chosen (ltb end start) None (if nat_lt (length bytes) (end - start) then None
    else option_map (λ files. take (end - start) bytes ∷ files) (files_in end (drop (end - start) bytes) ends)) (Some files) e) [
      | inl h ↦ absurd (not_some files h.1)
      | inr h ↦
          elim (chosen (ltb (length bytes) (end - start)) None
          (option_map (λ files. take (end - start) bytes ∷ files) (files_in end (drop (end - start) bytes) ends)) (Some files) h.1) [
            | inl k ↦ absurd (not_some files k.1)
            | inr k ↦
                let m = mapped (λ more. take (end - start) bytes ∷ more) (files_in end (drop (end - start) bytes) ends) files k.1 in
                let more = m.0 in
                let file = take (end - start) bytes in
                let rest = sound end (drop (end - start) bytes) ends more m.1 in
                let rises : start ≤ end = ltb-false _ _ h.0 in
                let within : end - start ≤ length bytes = ltb-false _ _ k.0 in
                let at : start + length file ≡ end = omega (arith, length-take (end - start) bytes) in
                let whole : bytes ≡ joined (file ∷ more) = sym (take-append-drop (end - start) bytes) ∙ ap (λ (l : List ℕ). file ++ l) rest.0 in
                let places : end ∷ ends ≡ ends_from start (file ∷ more) = rw at (ap (λ (l : List ℕ). end ∷ l) rest.1) in
                (whole ∙ ap joined m.2, places ∙ ap (ends_from start) m.2)
          ]
    ]

pub complete : (start : ℕ) (files : List (List ℕ)) (bytes ends : List ℕ) → bytes ≡ joined files → ends ≡ ends_from start files
    → files_in start bytes ends ≡ Some files
complete start [] bytes ends e p = rw (p, e) refl
complete start (file ∷ files) bytes ends e p =
    let n = length file in
    let rest = joined files in
    let gap : (start + n) - start ≡ n = omega arith in
    let rises : ltb (start + n) start ≡ false = le-ltb _ _ (omega arith) in
    let within : ltb (length (file ++ rest)) n ≡ false = le-ltb _ _ (omega (arith, length-append file rest)) in
    let again : files_in (start + n) rest (ends_from (start + n) files) ≡ Some files = complete (start + n) files rest (ends_from (start + n) files) refl refl in
    rw (p, e) (rw (rises, gap, within, take_at file rest n refl, drop_at file rest n refl, again) refl)

-- ---- a step of the loop, of the files so far

-- what the files so far make of those that are left
abbrev pub behind : List (List ℕ) → Option (List (List ℕ)) → Option (List (List ℕ))
behind front found = option_map (λ more. front ++ more) found

pub behind_none : (found : Option (List (List ℕ))) → behind [] found ≡ found
behind_none None = refl
behind_none (Some files) = refl

behind_one : (front : List (List ℕ)) (file : List ℕ) (found : Option (List (List ℕ)))
    → behind (front ++ (file ∷ [])) found ≡ behind front (option_map (λ more. file ∷ more) found)
behind_one front file None = refl
behind_one front file (Some more) = ap some (append_assoc front (file ∷ []) more)

pub step : (start end : ℕ) (bytes ends : List ℕ) (front : List (List ℕ)) (whole : Option (List (List ℕ)))
    → start ≤ end → end - start ≤ length bytes → behind front (files_in start bytes (end ∷ ends)) ≡ whole
    → behind (front ++ (take (end - start) bytes ∷ [])) (files_in end (drop (end - start) bytes) ends) ≡ whole
step start end bytes ends front whole rises within so_far =
    let a : ltb end start ≡ false = le-ltb _ _ rises in
    let b : ltb (length bytes) (end - start) ≡ false = le-ltb _ _ within in
    behind_one front (take (end - start) bytes) (files_in end (drop (end - start) bytes) ends) ∙ sym (rw (a, b) refl) ∙ so_far

-- where an end is refused there are no files
pub refused : (start end : ℕ) (bytes ends : List ℕ) (front : List (List ℕ)) (whole : Option (List (List ℕ)))
    → ((end < start) ⊎ ((start ≤ end) × (length bytes < end - start))) → behind front (files_in start bytes (end ∷ ends)) ≡ whole → whole ≡ None
refused start end bytes ends front whole (inl h) so_far =
    let a : ltb end start ≡ true = lt-ltb _ _ h in
    sym so_far ∙ rw a refl
refused start end bytes ends front whole (inr h) so_far =
    let a : ltb end start ≡ false = le-ltb _ _ h.0 in
    let b : ltb (length bytes) (end - start) ≡ true = lt-ltb _ _ h.1 in
    sym so_far ∙ rw (a, b) refl

pub none_there : (bytes ends : List ℕ) (whole : Option (List (List ℕ))) → files_in 0 bytes ends ≡ whole → whole ≡ None
    → (files : List (List ℕ)) → AreFiles bytes ends files → ⊥
none_there bytes ends whole e n files p = not_some files (sym n ∙ sym e ∙ complete 0 files bytes ends p.whole p.places)

-- there are no files where the loop stops at an end
pub stopped : (bytes ends rest : List ℕ) (start i : ℕ) (front : List (List ℕ)) → i < length ends
    → behind front (files_in start rest (drop i ends)) ≡ files_in 0 bytes ends
    → ((get_or ends i 0 < start) ⊎ ((start ≤ get_or ends i 0) × (length rest < get_or ends i 0 - start)))
    → (files : List (List ℕ)) → AreFiles bytes ends files → ⊥
stopped bytes ends rest start i front lt so_far why =
    let here = subst (λ (l : List ℕ). behind front (files_in start rest l) ≡ files_in 0 bytes ends) (drop_more ends i 0 lt) so_far in
    none_there bytes ends (files_in 0 bytes ends) refl (refused start (get_or ends i 0) rest (drop (i + 1) ends) front (files_in 0 bytes ends) why here)

at_end : (bytes ends rest : List ℕ) (start i : ℕ) (front : List (List ℕ)) → length ends ≤ i
    → behind front (files_in start rest (drop i ends)) ≡ files_in 0 bytes ends → behind front (files_in start rest []) ≡ files_in 0 bytes ends
at_end bytes ends rest start i front past so_far =
    subst (λ (l : List ℕ). behind front (files_in start rest l) ≡ files_in 0 bytes ends) (drop_all i ends past) so_far

-- where no end is left, the files so far are all, unless bytes are left
pub ended : (bytes ends rest : List ℕ) (start i : ℕ) (front : List (List ℕ)) → length ends ≤ i
    → behind front (files_in start rest (drop i ends)) ≡ files_in 0 bytes ends → eqb (length rest) 0 ≡ true → AreFiles bytes ends front
ended bytes ends rest start i front past so_far none_left =
    let found : files_in 0 bytes ends ≡ Some front = sym (at_end bytes ends rest start i front past so_far) ∙ rw none_left (ap some (append-nil front)) in
    let s = sound 0 bytes ends front found in
    record { whole = s.0; places = s.1 }

pub left_over : (bytes ends rest : List ℕ) (start i : ℕ) (front : List (List ℕ)) → length ends ≤ i
    → behind front (files_in start rest (drop i ends)) ≡ files_in 0 bytes ends → eqb (length rest) 0 ≡ false
    → (files : List (List ℕ)) → AreFiles bytes ends files → ⊥
left_over bytes ends rest start i front past so_far some_left =
    none_there bytes ends (files_in 0 bytes ends) refl (sym (at_end bytes ends rest start i front past so_far) ∙ rw some_left refl)
