-- A reader that finds what is spelled, and stops at the first byte with which nothing is spelled.
use Rattle.std.proofs.Common.{◌≡◌, ℕ, ◌-◌, ◌<◌, List, [], ◌∷◌, ◌++◌, length, Result, Ok, Err, refl, sym, ap, subst, ◌∙◌, append_assoc, arith, inl, inr}
use Rattle.std.proofs.lemmas.Bool.{cases_order}
use Rattle.std.proofs.lemmas.List.{length-append, append-nil}
use Rattle.names.specs.declared.fault.NameFault.{NameFault}
use Rattle.names.specs.declared.fault.NameFault.TheVariants.{BadDescriptor}
use Rattle.names.specs.Faults.{IsBeginning, IsStuck, IsBadAt}
use Rattle.names.specs.Reading.{Reading, found, outside, mapped, whole}

-- ---- what a reading was made from

pub mapped_found : {A B : Type 0} (f : A → B) (r : Reading A) (b : B) (rest : List ℕ) → mapped f r ≡ found b rest → (a : A) × (r ≡ found a rest) × (b ≡ f a)
mapped_found f (found a others) b rest e = let r : others ≡ rest = cc in let is : b ≡ f a = cc in (a, ap (λ (x : List ℕ). found a x) r, is)
mapped_found f (outside others) b rest e = absurd cc

pub mapped_outside : {A B : Type 0} (f : A → B) (r : Reading A) (rest : List ℕ) → mapped f r ≡ outside rest → r ≡ outside rest
mapped_outside f (found a others) rest e = absurd cc
mapped_outside f (outside others) rest e = let is : others ≡ rest = cc in ap outside is

-- ---- readers

-- where a reader of bytes stops with no value: after a front that more bytes make whole
pub record StopsAt {A : Type 0} (read : List ℕ → Reading A) (Spells : List ℕ → A → Type 0) (bytes rest : List ℕ) : Type 0 where
  pub front : List ℕ
  pub more : List ℕ
  pub value : A
  pub parts : bytes ≡ front ++ rest
  pub begins : Spells (front ++ more) value
  -- at the same byte, whatever follows it
  pub alike : (b : ℕ) (r others : List ℕ) → rest ≡ b ∷ r → read (front ++ b ∷ others) ≡ outside (b ∷ others)

pub record SpelledFront {A : Type 0} (Spells : List ℕ → A → Type 0) (bytes rest : List ℕ) (value : A) : Type 0 where
  pub front : List ℕ
  pub spells : Spells front value
  pub parts : bytes ≡ front ++ rest

pub record IsReader {A : Type 0} (read : List ℕ → Reading A) (Spells : List ℕ → A → Type 0) : Type 0 where
  pub sound : (bytes rest : List ℕ) (a : A) → read bytes ≡ found a rest → SpelledFront Spells bytes rest a
  pub complete : (front rest : List ℕ) (a : A) → Spells front a → read (front ++ rest) ≡ found a rest
  pub stops : (bytes rest : List ℕ) → read bytes ≡ outside rest → StopsAt read Spells bytes rest

-- ---- one value, and one bad place

same_found : {A : Type 0} (a b : A) (rest others : List ℕ) → found a rest ≡ found b others → a ≡ b
same_found a b rest others e = cc

pub one_value : {A : Type 0} (read : List ℕ → Reading A) (Spells : List ℕ → A → Type 0) → IsReader read Spells → (bytes : List ℕ) (a b : A) → Spells bytes a → Spells bytes b → a ≡ b
one_value read Spells r bytes a b h k = same_found a b [] [] (sym (r.complete bytes [] a h) ∙ r.complete bytes [] b k)

-- of two cuts of one list, the longer front goes on with the byte after the shorter one
record Longer (f g s t : List ℕ) : Type 0 where
  first : ℕ
  mid : List ℕ
  left : s ≡ first ∷ (mid ++ t)
  right : g ≡ f ++ first ∷ mid

same_tail : (a b : ℕ) (x y : List ℕ) → a ∷ x ≡ b ∷ y → x ≡ y
same_tail a b x y e = cc

same_head : (a b : ℕ) (x y : List ℕ) → a ∷ x ≡ b ∷ y → a ≡ b
same_head a b x y e = cc

longer : (f s g t : List ℕ) → f ++ s ≡ g ++ t → length f < length g → Longer f g s t
longer f s [] t e lt = absurd (omega arith)
longer [] s (y ∷ g) t e lt = record { first = y; mid = g; left = e; right = refl }
longer (x ∷ f) s (y ∷ g) t e lt =
    let inner = longer f s g t (same_tail x y (f ++ s) (g ++ t) e) (omega arith) in
    let same : x ≡ y = same_head x y (f ++ s) (g ++ t) e in
    record { first = inner.first; mid = inner.mid; left = inner.left; right = ap (λ (z : ℕ). z ∷ g) (sym same) ∙ ap (λ (z : List ℕ). x ∷ z) inner.right }

-- a front of a beginning is a beginning
shorter_beginning : (W : List ℕ → Type 0) (f mid : List ℕ) (b : ℕ) → IsBeginning W (f ++ b ∷ mid) → IsBeginning W (f ++ b ∷ [])
shorter_beginning W f mid b h =
    let regrouped : (f ++ b ∷ mid) ++ h.more ≡ (f ++ b ∷ []) ++ (mid ++ h.more) = append_assoc f (b ∷ mid) h.more ∙ sym (append_assoc f (b ∷ []) (mid ++ h.more)) in
    record { more = mid ++ h.more; whole = subst W regrouped h.whole }

not_before : (W : List ℕ → Type 0) (bytes : List ℕ) (k j : ℕ) → IsBadAt W bytes k → IsBadAt W bytes j → k < j → ⊥
not_before W bytes k j a b lt =
    let l = longer a.front a.rest b.front b.rest (sym a.parts ∙ b.parts) (omega (arith, a.count, b.count)) in
    let next : IsBeginning W (a.front ++ l.first ∷ []) = shorter_beginning W a.front l.mid l.first (subst (IsBeginning W) l.right b.begins) in
    subst (IsStuck W a.front) l.left a.stuck next

pub one_bad_place : (W : List ℕ → Type 0) (bytes : List ℕ) (k j : ℕ) → IsBadAt W bytes k → IsBadAt W bytes j → k ≡ j
one_bad_place W bytes k j a b =
    elim (cases_order k j) [
      | inl e ↦ e
      | inr (inl lt) ↦ absurd (not_before W bytes k j a b lt)
      | inr (inr gt) ↦ absurd (not_before W bytes j k b a gt)
    ]

pub bad_is_not_whole : (W : List ℕ → Type 0) (bytes : List ℕ) (k : ℕ) → IsBadAt W bytes k → W bytes → ⊥
bad_is_not_whole W bytes k a w = by_rest a.front a.rest a.parts a.stuck
  where
    by_rest : (front rest : List ℕ) → bytes ≡ front ++ rest → IsStuck W front rest → ⊥
    by_rest front [] parts stuck = stuck (subst W (parts ∙ append-nil front) w)
    by_rest front (b ∷ rest) parts stuck = stuck (record { more = rest; whole = subst W (parts ∙ sym (append_assoc front (b ∷ []) rest)) w })

-- ---- a reader and whole texts

abbrev pub IsSpelled : {A : Type 0} → (List ℕ → A → Type 0) → List ℕ → Type 0
IsSpelled {A} Spells bytes = (a : A) × Spells bytes a

pub spelled_is_whole : {A : Type 0} (read : List ℕ → Reading A) (Spells : List ℕ → A → Type 0) → IsReader read Spells → (bytes : List ℕ) (a : A) → Spells bytes a → whole bytes (read bytes) ≡ Ok a
spelled_is_whole read Spells r bytes a h = ap (whole bytes) (ap read (sym (append-nil bytes)) ∙ r.complete bytes [] a h)

same_ok : {A : Type 0} (a b : A) → (let x : Result A NameFault = Ok a in x) ≡ Ok b → a ≡ b
same_ok a b e = cc

pub whole_is_spelled : {A : Type 0} (read : List ℕ → Reading A) (Spells : List ℕ → A → Type 0) → IsReader read Spells → (bytes : List ℕ) (a : A) → whole bytes (read bytes) ≡ Ok a → Spells bytes a
whole_is_spelled {A} read Spells r bytes a e = by_reading (read bytes) refl e
  where
    by_reading : (o : Reading A) → read bytes ≡ o → whole bytes o ≡ Ok a → Spells bytes a
    by_reading (found b []) is e =
        let s = r.sound bytes [] b is in
        let same : b ≡ a = same_ok b a e in
        subst (Spells bytes) same (subst (λ (x : List ℕ). Spells x b) (sym (s.parts ∙ append-nil s.front)) s.spells)
    by_reading (found b (x ∷ rest)) is e = absurd cc
    by_reading (outside rest) is e = absurd cc

pub record BadFault (W : List ℕ → Type 0) (bytes : List ℕ) (e : NameFault) : Type 0 where
  pub place : ℕ
  pub is : e ≡ BadDescriptor place
  pub bad : IsBadAt W bytes place

same_err : {A : Type 0} (d e : NameFault) → (let x : Result A NameFault = Err d in x) ≡ Err e → e ≡ d
same_err d e is = cc

-- bytes after a whole value
bytes_over : {A : Type 0} (read : List ℕ → Reading A) (Spells : List ℕ → A → Type 0) → IsReader read Spells → (bytes rest : List ℕ) (a : A) (b : ℕ) → read bytes ≡ found a (b ∷ rest)
    → IsBadAt (IsSpelled Spells) bytes (length bytes - length (b ∷ rest))
bytes_over {A} read Spells r bytes rest a b is =
    let s = r.sound bytes (b ∷ rest) a is in
    let no_more : (h : IsBeginning (IsSpelled Spells) (s.front ++ b ∷ [])) → ⊥ = λ h. over s.front s.spells h.more h.whole.0 h.whole.1 in
    record {
      front = s.front;
      rest = b ∷ rest;
      parts = s.parts;
      count = omega (arith, ap length s.parts, length-append s.front (b ∷ rest));
      begins = record { more = []; whole = (a, subst (λ (x : List ℕ). Spells x a) (sym (append-nil s.front)) s.spells) };
      stuck = no_more;
    }
  where
    apart : (c : A) (x : List ℕ) (y : ℕ) → found c [] ≡ found a (y ∷ x) → ⊥
    apart c x y e = cc

    over : (front : List ℕ) → Spells front a → (more : List ℕ) (c : A) → Spells ((front ++ b ∷ []) ++ more) c → ⊥
    over front sp more c h =
        let both : ((front ++ b ∷ []) ++ more) ++ [] ≡ front ++ (b ∷ more) = append-nil ((front ++ b ∷ []) ++ more) ∙ append_assoc front (b ∷ []) more in
        apart c more b (sym (r.complete ((front ++ b ∷ []) ++ more) [] c h) ∙ ap read both ∙ r.complete front (b ∷ more) a sp)

-- no value at the front
stopped : {A : Type 0} (read : List ℕ → Reading A) (Spells : List ℕ → A → Type 0) → IsReader read Spells → (bytes rest : List ℕ) → read bytes ≡ outside rest → IsBadAt (IsSpelled Spells) bytes (length bytes - length rest)
stopped {A} read Spells r bytes rest is =
    let s = r.stops bytes rest is in
    record {
      front = s.front;
      rest = rest;
      parts = s.parts;
      count = omega (arith, ap length s.parts, length-append s.front rest);
      begins = record { more = s.more; whole = (s.value, s.begins) };
      stuck = by_rest s.front rest s.parts is s.alike;
    }
  where
    apart : (c : A) (x y : List ℕ) → found c x ≡ outside y → ⊥
    apart c x y e = cc

    by_rest : (front rest : List ℕ) → bytes ≡ front ++ rest → read bytes ≡ outside rest → ((b : ℕ) (r others : List ℕ) → rest ≡ b ∷ r → read (front ++ b ∷ others) ≡ outside (b ∷ others)) → IsStuck (IsSpelled Spells) front rest
    by_rest front [] parts out alike = λ h. apart h.0 [] [] (sym (r.complete front [] h.0 h.1) ∙ ap read (sym parts) ∙ out)
    by_rest front (b ∷ others) parts out alike = λ h.
        let both : ((front ++ b ∷ []) ++ h.more) ++ [] ≡ front ++ (b ∷ h.more) = append-nil ((front ++ b ∷ []) ++ h.more) ∙ append_assoc front (b ∷ []) h.more in
        apart h.whole.0 [] (b ∷ h.more) (sym (r.complete ((front ++ b ∷ []) ++ h.more) [] h.whole.0 h.whole.1) ∙ ap read both ∙ alike b others h.more refl)

pub not_whole_is_bad : {A : Type 0} (read : List ℕ → Reading A) (Spells : List ℕ → A → Type 0) → IsReader read Spells → (bytes : List ℕ) (e : NameFault) → whole bytes (read bytes) ≡ Err e → BadFault (IsSpelled Spells) bytes e
not_whole_is_bad {A} read Spells r bytes e is = by_reading (read bytes) refl is
  where
    by_reading : (o : Reading A) → read bytes ≡ o → whole bytes o ≡ Err e → BadFault (IsSpelled Spells) bytes e
    by_reading (found a []) o is = absurd cc
    by_reading (found a (b ∷ rest)) o is = record { place = length bytes - length (b ∷ rest); is = same_err _ e is; bad = bytes_over read Spells r bytes rest a b o }
    by_reading (outside rest) o is = record { place = length bytes - length rest; is = same_err _ e is; bad = stopped read Spells r bytes rest o }

pub bad_is_not_read : {A : Type 0} (read : List ℕ → Reading A) (Spells : List ℕ → A → Type 0) → IsReader read Spells → (bytes : List ℕ) (k : ℕ) → IsBadAt (IsSpelled Spells) bytes k → whole bytes (read bytes) ≡ Err (BadDescriptor k)
bad_is_not_read {A} read Spells r bytes k bad = by_answer (whole bytes (read bytes)) refl
  where
    by_answer : (o : Result A NameFault) → whole bytes (read bytes) ≡ o → o ≡ Err (BadDescriptor k)
    by_answer (Ok a) is = absurd (bad_is_not_whole (IsSpelled Spells) bytes k bad (a, whole_is_spelled read Spells r bytes a is))
    by_answer (Err e) is =
        let f = not_whole_is_bad read Spells r bytes e is in
        let same : f.place ≡ k = one_bad_place (IsSpelled Spells) bytes f.place k f.bad bad in
        ap Err (f.is ∙ ap BadDescriptor same)
