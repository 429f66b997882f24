-- Bytes that are to be one spelling, all of them: the first fault where they are none, and that they are one or have
-- one.
use Rattle.std.proofs.Common.{◌≡◌, ℕ, ◌+◌, ◌<◌, Bool, true, false, List, [], ◌++◌, length, Result, Ok, Err, refl, sym, ap, subst, ◌∙◌, arith, inl, inr, ◌⊎◌, ltb}
use Rattle.std.proofs.lemmas.Bool.{ltb-true, ltb-false}
use Rattle.std.proofs.lemmas.List.{append-nil, nil_from_length}
use Rattle.layout.specs.Place.{Place}
use Rattle.layout.specs.declared.fault.ReadFault.{ReadFault}
use Rattle.layout.specs.Format.{Format, Spells, FirstFault, reads}
use Rattle.layout.specs.FormatLaws.{reads_spells, spelled_reads, reads_fault, fault_reads, same_good}

-- a spelling stands in front of the bytes, so many bytes long, and more after it
pub record HasMore {V : Type 0} (f : Format V) (bytes : List ℕ) (at : ℕ) : Type 0 where
  pub front : List ℕ
  pub others : List ℕ
  pub value : V
  pub spelled : Spells f front value
  pub parts : bytes ≡ front ++ others
  pub place : length front ≡ at
  pub some : 0 < length others

-- the first part that is not whole or breaks its rule, or the bytes after a spelling
abbrev pub WholeFault : {V : Type 0} → Format V → (ℕ → ReadFault) → List ℕ → ReadFault → Type 0
WholeFault f behind bytes e = FirstFault f 0 bytes e ⊎ ((at : ℕ) × (e ≡ behind at) × HasMore f bytes at)

-- ---- words of the code's own steps: nothing that a reader must believe rests on them

is_read : {V : Type 0} (f : Format V) (bytes : List ℕ) (v : V) → Spells f bytes v
    → reads f 0 bytes ≡ Ok (v, record { at = 0 + length bytes; rest = [] })
is_read f bytes v s = ap (reads f 0) (sym (append-nil bytes)) ∙ spelled_reads f 0 bytes [] v s

pub not_refused : {V : Type 0} (f : Format V) (bytes : List ℕ) (v : V) (e : ReadFault) → Spells f bytes v
    → reads f 0 bytes ≡ Err e → ⊥
not_refused f bytes v e s h =
    let one = is_read f bytes v s in
    cc

pub nothing_more : {V : Type 0} (f : Format V) (bytes : List ℕ) (v w : V) (p : Place) → Spells f bytes v
    → reads f 0 bytes ≡ Ok (w, p) → 0 < length p.rest → ⊥
nothing_more {V = V} f bytes v w p s h more =
    let same = same_good _ _ (sym (is_read f bytes v s) ∙ h) in
    let none : [] ≡ p.rest = ap (λ (x : V × Place). x.1.rest) same in
    omega (arith, ap length none)

pub has_more : {V : Type 0} (f : Format V) (bytes : List ℕ) (v : V) (p : Place) → reads f 0 bytes ≡ Ok (v, p)
    → 0 < length p.rest → HasMore f bytes p.at
has_more f bytes v p h more =
    let r = reads_spells f 0 bytes (v, p) h in
    record {
      front = r.0;
      others = p.rest;
      value = v;
      spelled = r.1;
      parts = r.2.parts;
      place =
          omega (arith, r.2.at);
      some = more;
    }

pub is_whole : {V : Type 0} (f : Format V) (bytes : List ℕ) (v : V) (p : Place) → reads f 0 bytes ≡ Ok (v, p)
    → length p.rest ≡ 0 → Spells f bytes v
is_whole f bytes v p h none =
    let r = reads_spells f 0 bytes (v, p) h in
    let whole : bytes ≡ r.0 = r.2.parts ∙ ap (λ (t : List ℕ). r.0 ++ t) (nil_from_length p.rest none)
    ∙ append-nil r.0 in
    subst (λ (b : List ℕ). Spells f b v) (sym whole) r.1

-- ---- bytes are a spelling or have a fault, not both, and one fault alone

pub whole_or_fault : {V : Type 0} (f : Format V) (behind : ℕ → ReadFault) (bytes : List ℕ)
    → ((v : V) × Spells f bytes v) ⊎ ((e : ReadFault) × WholeFault f behind bytes e)
whole_or_fault {V = V} f behind bytes = by_answer (reads f 0 bytes) refl
  where
    by_answer : (r : Result (V × Place) ReadFault) → reads f 0 bytes ≡ r → ((v : V) × Spells f bytes v)
        ⊎ ((e : ReadFault) × WholeFault f behind bytes e)
    by_answer (Err e) h = inr (e, inl (reads_fault f 0 bytes e h))
    by_answer (Ok x) h = by_rest (ltb 0 (length x.1.rest)) refl
      where
        by_rest : (b : Bool) → ltb 0 (length x.1.rest) ≡ b → ((v : V) × Spells f bytes v)
            ⊎ ((e : ReadFault) × WholeFault f behind bytes e)
        by_rest true t = inr (behind x.1.at, inr (x.1.at, refl, has_more f bytes x.0 x.1 h (ltb-true _ _ t)))
        by_rest false t = inl (x.0, is_whole f bytes x.0 x.1 h (let n = ltb-false _ _ t in omega (arith, n)))

-- what reading says of bytes with more after a spelling
read_more : {V : Type 0} (f : Format V) (bytes : List ℕ) (at : ℕ) (m : HasMore f bytes at)
    → reads f 0 bytes ≡ Ok (m.value, record { at = 0 + length m.front; rest = m.others })
read_more f bytes at m = ap (reads f 0) m.parts ∙ spelled_reads f 0 m.front m.others m.value m.spelled

pub no_fault_in_whole : {V : Type 0} (f : Format V) (behind : ℕ → ReadFault) (bytes : List ℕ) (v : V) (e : ReadFault)
    → Spells f bytes v → WholeFault f behind bytes e → ⊥
no_fault_in_whole f behind bytes v e s (inl h) = not_refused f bytes v e s (fault_reads f 0 bytes e h)
no_fault_in_whole f behind bytes v e s (inr (at, is, m)) =
    nothing_more f bytes v m.value (record { at = 0 + length m.front; rest = m.others }) s
    (read_more f bytes at m) m.some

abbrev place_of : {V : Type 0} → Result (V × Place) ReadFault → ℕ
place_of (Ok x) = x.1.at
place_of (Err e) = 0

pub one_whole_fault : {V : Type 0} (f : Format V) (behind : ℕ → ReadFault) (bytes : List ℕ) (d e : ReadFault)
    → WholeFault f behind bytes d → WholeFault f behind bytes e → d ≡ e
one_whole_fault f behind bytes d e (inl h) (inl k) = let one = fault_reads f 0 bytes d h in
    let two = fault_reads f 0 bytes e k in cc
one_whole_fault f behind bytes d e (inl h) (inr (at, is, m)) =
    absurd (let one = fault_reads f 0 bytes d h in let two = read_more f bytes at m in cc)
one_whole_fault f behind bytes d e (inr (at, is, m)) (inl k) =
    absurd (let one = fault_reads f 0 bytes e k in let two = read_more f bytes at m in cc)
one_whole_fault f behind bytes d e (inr (at, is, m)) (inr (to, also, n)) =
    let same = sym (read_more f bytes at m) ∙ read_more f bytes to n in
    let places : 0 + length m.front ≡ 0 + length n.front = ap place_of same in
    let lengths : length m.front ≡ length n.front = omega (arith, places) in
    is ∙ ap behind (sym m.place ∙ lengths ∙ n.place) ∙ sym also
