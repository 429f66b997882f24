-- Words of the code's own steps: nothing that a reader must believe rests on them. Reading returns a value exactly
-- where bytes in front spell it, and otherwise the first fault; then lemmas for lists of parts, bodies of attributes
-- and numbers.
use Rattle.std.proofs.Common.{◌≡◌, ℕ, ◌+◌, ◌-◌, ◌*◌, ◌^◌, ◌/◌, ◌%◌, ◌<◌, ◌≤◌, Bool, true, false, cond, ltb, eqb, suc, List, [], ◌∷◌, ◌++◌, length, take, drop, Result, Ok, Err, refl, sym, ap, subst, ◌∙◌, append_assoc, arith, inl, inr, ◌⊎◌}
use Rattle.std.proofs.lemmas.Bool.{eq-eqb, ltb-false, ltb-true, le-ltb, lt-ltb}
use Rattle.std.proofs.lemmas.List.{take_at, drop_at, take-append-drop, length-append, length-take, length-drop, append-nil}
use Rattle.byteorder.specs.Endian.{big_number, big_bytes}
use Rattle.byteorder.specs.Numbers.{big_number-reads_back}
use Rattle.layout.specs.Place.{Place, Took}
use Rattle.layout.specs.declared.fault.ReadFault.{ReadFault}
use Rattle.layout.specs.declared.fault.ReadFault.TheVariants.{EndsEarly, AttributeLength}
use Rattle.layout.specs.Format.{AreBytes, number, Format, done, part, refuse, Spells, FirstFault, reads, andthen, behind_it, inside, confined, settled, times}

-- what a choice by a test gave
pub chosen : {A : Type 0} (b : Bool) (x y z : A) → cond b x y ≡ z → ((b ≡ true) × (x ≡ z)) ⊎ ((b ≡ false) × (y ≡ z))
chosen true x y z e = inl (refl, e)
chosen false x y z e = inr (refl, e)

abbrev good : {V : Type 0} → V × Place → Result (V × Place) ReadFault
good x = Ok x

abbrev bad : {V : Type 0} → ReadFault → Result (V × Place) ReadFault
bad e = Err e

pub same_good : {V : Type 0} (x y : V × Place) → good x ≡ good y → x ≡ y
same_good x y e = cc

pub same_bad : {V : Type 0} (d e : ReadFault) → bad {V = V} d ≡ bad {V = V} e → d ≡ e
same_bad d e h = cc

-- what was read is spelled by the bytes in front
pub reads_spells : {V : Type 0} (f : Format V) (at : ℕ) (bytes : List ℕ) (x : V × Place) → reads f at bytes ≡ Ok x
    → (first : List ℕ) × Spells f first x.0 × Took first (record { at = at; rest = bytes }) x.1
reads_spells {V = V} (done w) at bytes x e =
    let made : V × Place = (w, record { at = at; rest = bytes }) in
    let same : made ≡ x = cc in
    subst (λ (y : V × Place). (first : List ℕ) × Spells (done w) first y.0
    × Took first (record { at = at; rest = bytes }) y.1) same
    ([], (refl, refl), record { parts = refl; at = omega arith })
reads_spells (part n next) at bytes x e =
    elim (chosen (ltb (length bytes) n) (Err (EndsEarly at)) (reads (next (take n bytes)) (at + n) (drop n bytes))
    (Ok x) e) [
      | inl h ↦ absurd (let no = h.1 in cc)
      | inr h ↦
          let long : n ≤ length bytes = ltb-false _ _ h.0 in
          let inner = reads_spells (next (take n bytes)) (at + n) (drop n bytes) x h.1 in
          let len : length (take n bytes) ≡ n = omega (arith, length-take n bytes) in
          let took = inner.2 in (
            take n bytes ++ inner.0,
            (take n bytes, inner.0, len, refl, inner.1),
            record {
              parts = sym (take-append-drop n bytes) ∙ ap (λ (t : List ℕ). take n bytes ++ t) took.parts
                  ∙ sym (append_assoc (take n bytes) inner.0 x.1.rest);
              at = omega (arith, took.at, len, length-append (take n bytes) inner.0);
            },
          )
    ]
reads_spells (refuse fault) at bytes x e = absurd cc

-- what is spelled in front is read, whatever follows it
pub spelled_reads : {V : Type 0} (f : Format V) (at : ℕ) (first others : List ℕ) (v : V) → Spells f first v
    → reads f at (first ++ others) ≡ Ok (v, record { at = at + length first; rest = others })
spelled_reads (done w) at first others v s =
    rw (s.0, s.1) (let h : at ≡ at + 0 = omega arith in ap (λ (k : ℕ). Ok (v, record { at = k; rest = others })) h)
spelled_reads (part n next) at first others v s =
    let a = s.0 in
    let b = s.1 in
    let len : length a ≡ n = s.2 in
    let whole : first ≡ a ++ b = s.3 in
    let regrouped : first ++ others ≡ a ++ (b ++ others) = rw whole (append_assoc a b others) in
    let long : ltb (length (a ++ (b ++ others))) n ≡ false =
    le-ltb _ _ (omega (arith, length-append a (b ++ others))) in
    let inner = spelled_reads (next a) (at + n) b others v s.4 in
    let sum : (at + n) + length b ≡ at + length first = rw whole (omega (arith, length-append a b)) in
    ap (reads (part n next) at) regrouped
    ∙ rw (long, take_at a (b ++ others) n len, drop_at a (b ++ others) n len) inner
    ∙ ap (λ (k : ℕ). Ok (v, record { at = k; rest = others })) sum
spelled_reads (refuse fault) at first others v s = absurd s

-- a refusal is the first fault
pub reads_fault : {V : Type 0} (f : Format V) (at : ℕ) (bytes : List ℕ) (e : ReadFault) → reads f at bytes ≡ Err e
    → FirstFault f at bytes e
reads_fault (done w) at bytes e h = absurd cc
reads_fault {V = V} (part n next) at bytes e h =
    elim (chosen (ltb (length bytes) n) (Err (EndsEarly at)) (reads (next (take n bytes)) (at + n) (drop n bytes))
    (Err e) h) [
      | inl g ↦ inl (ltb-true _ _ g.0, sym (same_bad {V = V} (EndsEarly at) e g.1))
      | inr g ↦
          let long : n ≤ length bytes = ltb-false _ _ g.0 in
          inr (
            take n bytes,
            drop n bytes,
            omega (arith, length-take n bytes),
            sym (take-append-drop n bytes),
            reads_fault (next (take n bytes)) (at + n) (drop n bytes) e g.1,
          )
    ]
reads_fault {V = V} (refuse fault) at bytes e h = sym (same_bad {V = V} (fault at) e h)

-- the first fault is the refusal
pub fault_reads : {V : Type 0} (f : Format V) (at : ℕ) (bytes : List ℕ) (e : ReadFault) → FirstFault f at bytes e
    → reads f at bytes ≡ Err e
fault_reads (done w) at bytes e h = absurd h
fault_reads (part n next) at bytes e (inl h) =
    let short : ltb (length bytes) n ≡ true = lt-ltb _ _ h.0 in
    let is : e ≡ EndsEarly at = h.1 in
    rw (short, is) refl
fault_reads (part n next) at bytes e (inr h) =
    let a = h.0 in
    let b = h.1 in
    let len : length a ≡ n = h.2 in
    let long : ltb (length (a ++ b)) n ≡ false = le-ltb _ _ (omega (arith, length-append a b)) in
    ap (reads (part n next) at) h.3
    ∙ rw (long, take_at a b n len, drop_at a b n len) (fault_reads (next a) (at + n) b e h.4)
fault_reads (refuse fault) at bytes e h = ap Err (sym h)

-- reading one format after another
pub reads_andthen : {V W : Type 0} (f : Format V) (next : V → Format W) (at : ℕ) (bytes : List ℕ)
    → reads (andthen f next) at bytes ≡ behind_it (reads f at bytes) next
reads_andthen (done v) next at bytes = refl
reads_andthen (part n after) next at bytes =
    by_test (ltb (length bytes) n) _ _ _ _ (reads_andthen (after (take n bytes)) next (at + n) (drop n bytes))
  where
    by_test : {V W : Type 0} (b : Bool) (e : ReadFault) (r : Result (V × Place) ReadFault)
        (s : Result (W × Place) ReadFault) (next : V → Format W) → s ≡ behind_it r next
        → cond b (Err e) s ≡ behind_it (cond b (Err e) r) next
    by_test true e r s next h = refl
    by_test false e r s next h = h
reads_andthen (refuse fault) next at bytes = refl

-- no spelling begins another, and no bytes spell two values
pub one_reading : {V : Type 0} (f : Format V) (a b x : List ℕ) (v w : V) → Spells f a v → Spells f b w → a ≡ b ++ x
    → (x ≡ []) × (v ≡ w)
one_reading {V = V} f a b x v w p q e =
    let one : reads f 0 a ≡ Ok (v, record { at = 0 + length a; rest = [] }) =
    ap (reads f 0) (sym (append-nil a)) ∙ spelled_reads f 0 a [] v p in
    let two = spelled_reads f 0 b x w q in
    let made : V × Place = (v, record { at = 0 + length a; rest = [] }) in
    let other : V × Place = (w, record { at = 0 + length b; rest = x }) in
    let same : made ≡ other = same_good made other (sym one ∙ ap (reads f 0) e ∙ two) in
    (sym (ap (λ (y : V × Place). y.1.rest) same), ap (λ (y : V × Place). y.0) same)

-- what is spelled in front has no fault
pub spelled_no_fault : {V : Type 0} (f : Format V) (a x : List ℕ) (at : ℕ) (v : V) (e : ReadFault) → Spells f a v
    → FirstFault f at (a ++ x) e → ⊥
spelled_no_fault f a x at v e s h =
    let p = spelled_reads f at a x v s in
    let q = fault_reads f at (a ++ x) e h in
    cc

-- what reading a part gives
pub part_reads : (n at : ℕ) (bytes : List ℕ) (x : List ℕ × Place) → reads (part n done) at bytes ≡ Ok x
    → (n ≤ length bytes) × (x.0 ≡ take n bytes) × (x.1.at ≡ at + n) × (x.1.rest ≡ drop n bytes)
part_reads n at bytes x e =
    elim (chosen (ltb (length bytes) n) (Err (EndsEarly at))
    (good (take n bytes, record { at = at + n; rest = drop n bytes })) (Ok x) e) [
      | inl h ↦ absurd (let wrong = h.1 in cc)
      | inr h ↦
          let same = same_good (take n bytes, record { at = at + n; rest = drop n bytes }) x h.1 in (
            ltb-false _ _ h.0,
            sym (ap (λ (y : List ℕ × Place). y.0) same),
            sym (ap (λ (y : List ℕ × Place). y.1.at) same),
            sym (ap (λ (y : List ℕ × Place). y.1.rest) same),
          )
    ]

-- ---- lists of parts, as a loop reads them

-- what was read before, and what is still read
abbrev pub with_front : {V : Type 0} → List V → Result (List V × Place) ReadFault → Result (List V × Place) ReadFault
with_front front (Ok x) = Ok (front ++ x.0, x.1)
with_front front (Err e) = Err e

pub front_on : {V : Type 0} (front more : List V) (f : Format (List V)) (at : ℕ) (bytes : List ℕ)
    → with_front front (reads (andthen f (λ others. done (more ++ others))) at bytes)
    ≡ with_front (front ++ more) (reads f at bytes)
front_on {V = V} front more f at bytes =
    ap (with_front front) (reads_andthen f (λ others. done (more ++ others)) at bytes) ∙ by_case (reads f at bytes)
  where
    by_case : (r : Result (List V × Place) ReadFault)
        → with_front front (behind_it r (λ others. done (more ++ others))) ≡ with_front (front ++ more) r
    by_case (Ok x) = ap (λ (l : List V). good (l, x.1)) (sym (append_assoc front more x.0))
    by_case (Err e) = refl

pub front_nil : {V : Type 0} (front : List V) (p : Place) → with_front front (Ok ([], p)) ≡ Ok (front, p)
front_nil {V = V} front p = ap (λ (l : List V). good (l, p)) (append-nil front)

-- ---- the body of an attribute

-- Reading inside a body is reading the body by itself, and then nothing may be left.
pub reads_inside : {A V : Type 0} (n : ℕ) (body : List ℕ) (f : Format A) (make : A → V) (at : ℕ) (bytes : List ℕ)
    → length body ≤ at
    → reads (inside n body f (λ v. done (make v))) at bytes
    ≡ settled (at - n - 6) make (record { at = at; rest = bytes }) (reads f (at - length body) body)
reads_inside {V = V} n body (done v) make at bytes le = by_test (eqb (length body) 0)
  where
    by_test : (b : Bool) → reads (cond b (done (make v)) (refuse (λ at. AttributeLength (at - n - 6)))) at bytes
        ≡ cond b (Ok (make v, record { at = at; rest = bytes })) (Err (AttributeLength (at - n - 6)))
    by_test true = refl
    by_test false = refl
reads_inside {A = A} {V = V} n body (part k after) make at bytes le =
    by_test (ltb (length body) k) refl (λ lt. reads_inside n (drop k body) (after (take k body)) make at bytes lt)
  where
    place : Place
    place = record { at = at; rest = bytes }

    by_test : (b : Bool) → ltb (length body) k ≡ b
        → (length (drop k body) ≤ at → reads
        (inside n (drop k body) (after (take k body)) (λ v. done (make v))) at bytes
        ≡ settled (at - n - 6) make place (reads (after (take k body)) (at - length (drop k body)) (drop k body)))
        → reads (cond b (refuse (λ at. AttributeLength (at - n - 6)))
        (inside n (drop k body) (after (take k body)) (λ v. done (make v)))) at bytes
        ≡ settled (at - n - 6) make place
        (cond b (Err (EndsEarly (at - length body)))
        (reads (after (take k body)) ((at - length body) + k) (drop k body)))
    by_test true e again = refl
    by_test false e again =
        let long : k ≤ length body = ltb-false _ _ e in
        let left : length (drop k body) ≡ length body - k = length-drop k body in
        let there : at - length (drop k body) ≡ (at - length body) + k = omega (arith, left, le, long) in
        again (omega (arith, left, le))
        ∙ ap (λ (p : ℕ). settled (at - n - 6) make place (reads (after (take k body)) p (drop k body))) there
reads_inside n body (refuse fault) make at bytes le = refl

-- ---- so many of the same

times_one : {V : Type 0} (f : Format V) (n at : ℕ) (bytes : List ℕ)
    → reads (times (suc n) f) at bytes
    ≡ behind_it (reads f at bytes) (λ v. andthen (times n f) (λ others. done (v ∷ others)))
unfolding times
times_one f n at bytes = reads_andthen f (λ v. andthen (times n f) (λ others. done (v ∷ others))) at bytes

pub times_on : {V : Type 0} (f : Format V) (front : List V) (count i at : ℕ) (bytes : List ℕ) (v : V) (p : Place)
    (total : Result (List V × Place) ReadFault) → i < count
    → reads f at bytes ≡ Ok (v, p) → with_front front (reads (times (count - i) f) at bytes) ≡ total
    → with_front (front ++ v ∷ []) (reads (times (count - (i + 1)) f) p.at p.rest) ≡ total
times_on {V = V} f front count i at bytes v p total lt read so_far =
    let is : count - i ≡ suc (count - (i + 1)) = omega arith in
    let n = count - (i + 1) in
    let next : V → Format (List V) = λ v. andthen (times n f) (λ others. done (v ∷ others)) in
    sym (front_on front (v ∷ []) (times n f) p.at p.rest)
    ∙ sym (ap (with_front front) (times_one f n at bytes ∙ ap (λ r. behind_it r next) read))
    ∙ sym (ap (λ (k : ℕ). with_front front (reads (times k f) at bytes)) is) ∙ so_far

pub times_stop : {V : Type 0} (f : Format V) (front : List V) (count i at : ℕ) (bytes : List ℕ) (e : ReadFault)
    (total : Result (List V × Place) ReadFault) → i < count
    → with_front front (reads (times (count - i) f) at bytes) ≡ total → reads f at bytes ≡ Err e → total ≡ Err e
times_stop {V = V} f front count i at bytes e total lt so_far read =
    let is : count - i ≡ suc (count - (i + 1)) = omega arith in
    let n = count - (i + 1) in
    let next : V → Format (List V) = λ v. andthen (times n f) (λ others. done (v ∷ others)) in
    sym so_far ∙ ap (λ (k : ℕ). with_front front (reads (times k f) at bytes)) is
    ∙ ap (with_front front) (times_one f n at bytes ∙ ap (λ r. behind_it r next) read)

pub times_end : {V : Type 0} (f : Format V) (front : List V) (count i : ℕ) (p : Place)
    (total : Result (List V × Place) ReadFault) → count ≤ i
    → with_front front (reads (times (count - i) f) p.at p.rest) ≡ total → total ≡ Ok (front, p)
unfolding times
times_end f front count i p total le so_far =
    let is : count - i ≡ 0 = omega arith in
    sym so_far ∙ ap (λ (k : ℕ). with_front front (reads (times k f) p.at p.rest)) is ∙ front_nil front p

pub times_begin : {V : Type 0} (f : Format V) (n at : ℕ) (bytes : List ℕ)
    → with_front [] (reads (times n f) at bytes) ≡ reads (times n f) at bytes
times_begin {V = V} f n at bytes = by_case (reads (times n f) at bytes)
  where
    by_case : (r : Result (List V × Place) ReadFault) → with_front [] r ≡ r
    by_case (Ok x) = refl
    by_case (Err e) = refl

-- ---- numbers

-- bytes that are read as a number are its bytes
back_1 : (a : ℕ) → a < 256 → a ∷ [] ≡ big_bytes 1 (big_number 1 (a ∷ []))
back_1 a h =
    let x : a ≡ (a * 256 ^ 0 + 0) % 256 = omega arith in
    ap (λ (v : ℕ). v ∷ []) x

back_2 : (a b : ℕ) → a < 256 → b < 256 → a ∷ b ∷ [] ≡ big_bytes 2 (big_number 2 (a ∷ b ∷ []))
back_2 a b h k =
    let n = a * 256 ^ 1 + (b * 256 ^ 0 + 0) in
    let x : a ≡ n / 256 ^ 1 % 256 = omega arith in
    let y : b ≡ n % 256 = omega arith in
    ap (λ (v : ℕ). v ∷ b ∷ []) x ∙ ap (λ (v : ℕ). (n / 256 ^ 1 % 256) ∷ v ∷ []) y

back_4 : (a b c d : ℕ) → a < 256 → b < 256 → c < 256 → d < 256
    → a ∷ b ∷ c ∷ d ∷ [] ≡ big_bytes 4 (big_number 4 (a ∷ b ∷ c ∷ d ∷ []))
back_4 a b c d h k l m =
    let n = a * 256 ^ 3 + (b * 256 ^ 2 + (c * 256 ^ 1 + (d * 256 ^ 0 + 0))) in
    let x : a ≡ n / 256 ^ 3 % 256 = omega arith in
    let y : b ≡ n / 256 ^ 2 % 256 = omega arith in
    let z : c ≡ n / 256 ^ 1 % 256 = omega arith in
    let w : d ≡ n % 256 = omega arith in
    ap (λ (v : ℕ). v ∷ b ∷ c ∷ d ∷ []) x ∙ ap (λ (v : ℕ). (n / 256 ^ 3 % 256) ∷ v ∷ c ∷ d ∷ []) y
    ∙ ap (λ (v : ℕ). (n / 256 ^ 3 % 256) ∷ (n / 256 ^ 2 % 256) ∷ v ∷ d ∷ []) z
    ∙ ap (λ (v : ℕ). (n / 256 ^ 3 % 256) ∷ (n / 256 ^ 2 % 256) ∷ (n / 256 ^ 1 % 256) ∷ v ∷ []) w

-- the number that bytes spell has no other bytes
pub record NumberLaw (n : ℕ) : Type 0 where
  pub back : (bytes : List ℕ) → length bytes ≡ n → AreBytes bytes → bytes ≡ big_bytes n (big_number n bytes)
  pub len : (v : ℕ) → length (big_bytes n v) ≡ n

pub number_1 : NumberLaw 1
number_1 = record { back = back; len = λ v. refl }
  where
    back : (bytes : List ℕ) → length bytes ≡ 1 → AreBytes bytes → bytes ≡ big_bytes 1 (big_number 1 bytes)
    back [] len fit = absurd (omega (arith, len))
    back (a ∷ []) len fit = back_1 a fit.0
    back (a ∷ b ∷ bytes) len fit = absurd (omega (arith, len))

pub number_2 : NumberLaw 2
number_2 = record { back = back; len = λ v. refl }
  where
    back : (bytes : List ℕ) → length bytes ≡ 2 → AreBytes bytes → bytes ≡ big_bytes 2 (big_number 2 bytes)
    back [] len fit = absurd (omega (arith, len))
    back (a ∷ []) len fit = absurd (omega (arith, len))
    back (a ∷ b ∷ []) len fit = back_2 a b fit.0 fit.1.0
    back (a ∷ b ∷ c ∷ bytes) len fit = absurd (omega (arith, len))

pub number_4 : NumberLaw 4
number_4 = record { back = back; len = λ v. refl }
  where
    back : (bytes : List ℕ) → length bytes ≡ 4 → AreBytes bytes → bytes ≡ big_bytes 4 (big_number 4 bytes)
    back [] len fit = absurd (omega (arith, len))
    back (a ∷ []) len fit = absurd (omega (arith, len))
    back (a ∷ b ∷ []) len fit = absurd (omega (arith, len))
    back (a ∷ b ∷ c ∷ []) len fit = absurd (omega (arith, len))
    back (a ∷ b ∷ c ∷ d ∷ []) len fit = back_4 a b c d fit.0 fit.1.0 fit.1.1.0 fit.1.1.1.0
    back (a ∷ b ∷ c ∷ d ∷ e ∷ bytes) len fit = absurd (omega (arith, len))

pub number_is : (n : ℕ) → NumberLaw n → (bytes : List ℕ) (v : ℕ) → AreBytes bytes → Spells (number n) bytes v
    → bytes ≡ big_bytes n v
number_is n law bytes v fit s =
    let whole : bytes ≡ s.0 = s.3 ∙ ap (λ (t : List ℕ). s.0 ++ t) s.4.0 ∙ append-nil s.0 in
    law.back bytes (ap length whole ∙ s.2) fit ∙ ap (λ (t : List ℕ). big_bytes n (big_number n t)) whole
    ∙ ap (big_bytes n) s.4.1

pub number_spelled : (n : ℕ) → NumberLaw n → (v : ℕ) → v < 256 ^ n → Spells (number n) (big_bytes n v) v
number_spelled n law v lt = (
  big_bytes n v,
  [],
  law.len v,
  sym (append-nil (big_bytes n v)),
  (refl, ap (big_number n) (sym (append-nil (big_bytes n v))) ∙ big_number-reads_back n v [] lt),
)

-- ---- spellings one after the other

pub andthen_spelled : {V W : Type 0} (f : Format V) (next : V → Format W) (a b : List ℕ) (v : V) (w : W) → Spells f a v
    → Spells (next v) b w → Spells (andthen f next) (a ++ b) w
andthen_spelled {W = W} (done x) next a b v w s t =
    let is : x ≡ v = s.1 in
    let e : a ++ b ≡ b = ap (λ (t : List ℕ). t ++ b) s.0 in
    subst (λ (z : List ℕ). Spells (next x) z w) (sym e) (subst (λ (z : _). Spells (next z) b w) (sym is) t)
andthen_spelled (part n after) next a b v w s t = (
  s.0,
  s.1 ++ b,
  s.2,
  ap (λ (z : List ℕ). z ++ b) s.3 ∙ append_assoc s.0 s.1 b,
  andthen_spelled (after s.0) next s.1 b v w s.4 t,
)
andthen_spelled (refuse fault) next a b v w s t = absurd s

pub andthen_parts : {V W : Type 0} (f : Format V) (next : V → Format W) (bytes : List ℕ) (w : W)
    → Spells (andthen f next) bytes w → (a : List ℕ) × (b : List ℕ) × (v : V) × (bytes ≡ a ++ b) × Spells f a v
    × Spells (next v) b w
andthen_parts (done x) next bytes w s = ([], bytes, x, refl, (refl, refl), s)
andthen_parts (part n after) next bytes w s =
    let i = andthen_parts (after s.0) next s.1 w s.4 in (
      s.0 ++ i.0,
      i.1,
      i.2,
      s.3 ∙ ap (λ (z : List ℕ). s.0 ++ z) i.3 ∙ sym (append_assoc s.0 i.0 i.1),
      (s.0, i.0, s.2, refl, i.4),
      i.5,
    )
andthen_parts (refuse fault) next bytes w s = absurd s

pub AreBytes-parts : (a b : List ℕ) → AreBytes (a ++ b) → AreBytes a × AreBytes b
AreBytes-parts [] b h = (tt, h)
AreBytes-parts (x ∷ a) b h = let i = AreBytes-parts a b h.1 in ((h.0, i.0), i.1)

-- ---- attributes

number_at : (n at : ℕ) (bytes : List ℕ) (x : ℕ × Place) → reads (number n) at bytes ≡ Ok x → (n ≤ length bytes)
    × (x.0 ≡ big_number n (take n bytes)) × (x.1.at ≡ at + n) × (x.1.rest ≡ drop n bytes)
number_at n at bytes x e =
    elim (chosen (ltb (length bytes) n) (Err (EndsEarly at))
    (good (big_number n (take n bytes), record { at = at + n; rest = drop n bytes })) (Ok x) e) [
      | inl h ↦ absurd (let wrong = h.1 in cc)
      | inr h ↦
          let same = same_good (big_number n (take n bytes), record { at = at + n; rest = drop n bytes }) x h.1 in (
            ltb-false _ _ h.0,
            sym (ap (λ (y : ℕ × Place). y.0) same),
            sym (ap (λ (y : ℕ × Place). y.1.at) same),
            sym (ap (λ (y : ℕ × Place). y.1.rest) same),
          )
    ]

abbrev pub headed : {V : Type 0} → (ℕ → ℕ → List ℕ → Format V) → Format V
headed pick = andthen (number 2) (λ name. andthen (number 4) (λ n. part n (λ body. pick name n body)))

-- a name index, a length and so many bytes were read
pub header : {V : Type 0} (pick : ℕ → ℕ → List ℕ → Format V) (at : ℕ) (bytes : List ℕ) (name n : ℕ) (body : List ℕ)
    (p q r : Place)
    → reads (number 2) at bytes ≡ Ok (name, p) → reads (number 4) p.at p.rest ≡ Ok (n, q)
    → reads (part n done) q.at q.rest ≡ Ok (body, r)
    → (length body ≡ n) × (q.at ≡ at + 6) × (r.at ≡ (at + 6) + n)
    × (reads (headed pick) at bytes ≡ reads (pick name n body) r.at r.rest)
header {V = V} pick at bytes name n body p q r e f g =
    let a = number_at 2 at bytes (name, p) e in
    let b = number_at 4 p.at p.rest (n, q) f in
    let c = part_reads n q.at q.rest (body, r) g in
    let len : length body ≡ n = omega (arith, ap length c.1, length-take n q.rest, c.0) in
    let long : ltb (length q.rest) n ≡ false = le-ltb _ _ c.0 in
    let inner : Format V = part n (λ body. pick name n body) in
    let three : reads inner q.at q.rest ≡ reads (pick name n body) r.at r.rest =
    rw (long) (rw (c.1, c.2, c.3) refl) in
    let two = reads_andthen (number 4) (λ n. part n (λ body. pick name n body)) p.at p.rest
    ∙ ap (λ x. behind_it x (λ n. part n (λ body. pick name n body))) f in
    let one = reads_andthen (number 2) (λ name. andthen (number 4) (λ n. part n (λ body. pick name n body))) at bytes
    ∙ ap (λ x. behind_it x (λ name. andthen (number 4) (λ n. part n (λ body. pick name n body)))) e in
    (len, omega (arith, a.2, b.2), omega (arith, a.2, b.2, c.2), one ∙ two ∙ three)

-- reading a body that is read to its end
pub inside_ok : {A V : Type 0} (n : ℕ) (body : List ℕ) (f : Format A) (make : A → V) (start : ℕ) (p : Place) (v : A)
    (last : Place) → length body ≡ n → p.at ≡ start + n
    → reads f start body ≡ Ok (v, last) → length last.rest ≡ 0
    → reads (inside n body f (λ v. done (make v))) p.at p.rest ≡ Ok (make v, p)
inside_ok {A = A} {V = V} n body f make start p v last len at read end =
    let from : p.at - length body ≡ start = omega arith in
    let ended : eqb (length last.rest) 0 ≡ true = eq-eqb _ _ end in
    reads_inside n body f make p.at p.rest (omega arith)
    ∙ ap (λ (k : ℕ). settled (p.at - n - 6) make p (reads f k body)) from
    ∙ ap (settled (p.at - n - 6) make p) read
    ∙ ap (λ (b : Bool). cond b (good (make v, p)) (Err (AttributeLength (p.at - n - 6)))) ended

-- a body that is refused
pub inside_err : {A V : Type 0} (n : ℕ) (body : List ℕ) (f : Format A) (make : A → V) (q start : ℕ) (p : Place)
    (e : ReadFault) → length body ≡ n → start ≡ q + 6 → p.at ≡ start + n
    → settled q (λ v. v) (record { at = start; rest = body }) (reads f start body) ≡ Err e
    → reads (inside n body f (λ v. done (make v))) p.at p.rest ≡ Err e
inside_err {A = A} {V = V} n body f make q start p e len head at refused =
    let from : p.at - length body ≡ start = omega arith in
    let name : p.at - n - 6 ≡ q = omega arith in
    reads_inside n body f make p.at p.rest (omega arith)
    ∙ ap (λ (k : ℕ). settled (p.at - n - 6) make p (reads f k body)) from
    ∙ ap (λ (k : ℕ). settled k make p (reads f start body)) name
    ∙ by_case (reads f start body) refused
  where
    by_end : (b : Bool) (x : A × Place)
        → cond b (good (x.0, record { at = start; rest = body })) (Err (AttributeLength q)) ≡ Err e
        → cond b (good (make x.0, p)) (Err (AttributeLength q)) ≡ Err e
    by_end true x h = absurd cc
    by_end false x h = ap bad (same_bad {V = A} (AttributeLength q) e h)

    by_case : (r : Result (A × Place) ReadFault) → settled q (λ v. v) (record { at = start; rest = body }) r ≡ Err e
        → settled q make p r ≡ Err e
    by_case (Ok x) h = by_end (eqb (length x.1.rest) 0) x h
    by_case (Err d) h = ap bad (same_bad {V = A} (confined q d) e h)

-- one step of reading parts one after the other
pub then_ok : {V W : Type 0} (f : Format V) (next : V → Format W) (at : ℕ) (bytes : List ℕ) (v : V) (p : Place)
    (r : Result (W × Place) ReadFault)
    → reads f at bytes ≡ Ok (v, p) → reads (next v) p.at p.rest ≡ r → reads (andthen f next) at bytes ≡ r
then_ok f next at bytes v p r e g = reads_andthen f next at bytes ∙ ap (λ x. behind_it x next) e ∙ g

pub then_err : {V W : Type 0} (f : Format V) (next : V → Format W) (at : ℕ) (bytes : List ℕ) (e : ReadFault)
    → reads f at bytes ≡ Err e → reads (andthen f next) at bytes ≡ Err e
then_err f next at bytes e g = reads_andthen f next at bytes ∙ ap (λ x. behind_it x next) g
