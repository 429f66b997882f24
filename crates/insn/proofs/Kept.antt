-- The bytes that a switch was read from have its parts.
use Rattle.std.proofs.Common.{◌≡◌, ℕ, ℤ, pos, ◌+◌, ◌*◌, ◌%◌, ◌-◌, ◌≤◌, ◌&&◌, List, [], ◌∷◌, ◌++◌, length, take, drop, Ok, refl, ap, ◌∙◌, arith, eqb, w32}
use Rattle.std.specs.Prelude.{not, int_lt, unsigned_abs}
use Rattle.std.specs.Int.{cast_signed}
use Rattle.std.proofs.lemmas.Bool.{eqb-true}
use Rattle.std.proofs.lemmas.List.{length-append}
use Rattle.std.proofs.Math.Seq.{take-append_seam, drop-append_seam}
use Rattle.byteorder.specs.Endian.{big_number}
use Rattle.layout.specs.Place.{Place, Took}
use Rattle.layout.specs.Format.{Spells, reads}
use Rattle.insn.specs.Faults.{judged}
use Rattle.insn.specs.Instructions.{Operands, table_switch, lookup_switch, padding_at, table_length, keys, rising, table_switch_at, lookup_switch_at}
use Rattle.insn.specs.SwitchParts.{padding_of, fours, number_of, behind, table_switch_of, lookup_switch_of}
use Rattle.insn.proofs.CodeLaws.{read_spells}
use Rattle.insn.proofs.Spelled.{outcome}
use Rattle.insn.proofs.Switches.{halves, offsets_known, pairs_known}

-- the number of four bytes
abbrev four : List ℕ → ℤ
four bytes = cast_signed w32 (big_number 4 bytes)

number_front : (first others : List ℕ) → length first ≡ 4 → number_of (first ++ others) ≡ four first
number_front (a ∷ b ∷ c ∷ d ∷ []) others long = refl
number_front _ others long = absurd (omega (arith, long))

behind_front : (first others : List ℕ) → length first ≡ 4 → behind (first ++ others) ≡ others
behind_front (a ∷ b ∷ c ∷ d ∷ []) others long = refl
behind_front _ others long = absurd (omega (arith, long))

-- a multiple of four bytes after at most three
padding_front : (padding others : List ℕ) (at n : ℕ) → length padding ≡ padding_at at → length others ≡ 4 * n
    → (padding_of (padding ++ others) ≡ padding) × (fours (padding ++ others) ≡ others)
padding_front padding others at n short long =
    let is : length (padding ++ others) % 4 ≡ length padding = omega (arith, short, long, length-append padding others) in
    (ap (λ (k : ℕ). take k (padding ++ others)) is ∙ take-append_seam padding others, ap (λ (k : ℕ). drop k (padding ++ others)) is ∙ drop-append_seam padding others)

same_table : (p q : List ℕ) (d e l m h i : ℤ) (o r : List ℕ) → p ≡ q → d ≡ e → l ≡ m → h ≡ i → o ≡ r → table_switch p d l h o ≡ table_switch q e m i r
same_table p q d e l m h i o r a b c f g = cc

same_lookup : (p q : List ℕ) (d e n m : ℤ) (o r : List ℕ) → p ≡ q → d ≡ e → n ≡ m → o ≡ r → lookup_switch p d n o ≡ lookup_switch q e m r
same_lookup p q d e n m o r a b c f = cc

table_parts : (at k : ℕ) (padding d l h offsets : List ℕ) → length padding ≡ padding_at at → length d ≡ 4 → length l ≡ 4 → length h ≡ 4 → length offsets ≡ 4 * k
    → table_switch_of (padding ++ (d ++ (l ++ (h ++ offsets)))) ≡ table_switch padding (four d) (four l) (four h) offsets
table_parts at k padding d l h offsets short dl ll hl long =
    let third = h ++ offsets in
    let second = l ++ third in
    let first = d ++ second in
    let all : length first ≡ 4 * (3 + k) = omega (arith, dl, ll, hl, long, length-append d second, length-append l third, length-append h offsets) in
    let f = padding_front padding first at (3 + k) short all in
    let b : behind (fours (padding ++ first)) ≡ second = ap behind f.1 ∙ behind_front d second dl in
    let c : behind (behind (fours (padding ++ first))) ≡ third = ap behind b ∙ behind_front l third ll in
    same_table _ _ _ _ _ _ _ _ _ _ f.0 (ap number_of f.1 ∙ number_front d second dl) (ap number_of b ∙ number_front l third ll) (ap number_of c ∙ number_front h offsets hl)
    (ap behind c ∙ behind_front h offsets hl)

lookup_parts : (at k : ℕ) (padding d n pairs : List ℕ) → length padding ≡ padding_at at → length d ≡ 4 → length n ≡ 4 → length pairs ≡ 4 * k
    → lookup_switch_of (padding ++ (d ++ (n ++ pairs))) ≡ lookup_switch padding (four d) (four n) pairs
lookup_parts at k padding d n pairs short dl nl long =
    let second = n ++ pairs in
    let first = d ++ second in
    let all : length first ≡ 4 * (2 + k) = omega (arith, dl, nl, long, length-append d second, length-append n pairs) in
    let f = padding_front padding first at (2 + k) short all in
    let b : behind (fours (padding ++ first)) ≡ second = ap behind f.1 ∙ behind_front d second dl in
    same_lookup _ _ _ _ _ _ _ _ f.0 (ap number_of f.1 ∙ number_front d second dl) (ap number_of b ∙ number_front n pairs nl) (ap behind b ∙ behind_front n pairs nl)

table_whole : (at : ℕ) (bytes : List ℕ) (x : Operands) → Spells (table_switch_at at) bytes (outcome x) → table_switch_of bytes ≡ x
unfolding table_switch_at
table_whole at bytes x s =
    let d = s.4 in
    let l = d.4 in
    let h = l.4 in
    let lo = four l.0 in
    let hi = four h.0 in
    let o = offsets_known at s.0 (four d.0) lo hi h.1 x (int_lt hi lo) refl h.4 in
    let long : length o.0 ≡ 4 * table_length lo hi = eqb-true _ _ (halves (not (int_lt hi lo)) (eqb (length o.0) (4 * table_length lo hi)) o.3).1 in
    let parts : bytes ≡ s.0 ++ (d.0 ++ (l.0 ++ (h.0 ++ o.0))) =
    s.3 ∙ ap (λ (t : List ℕ). s.0 ++ t) (d.3 ∙ ap (λ (t : List ℕ). d.0 ++ t) (l.3 ∙ ap (λ (t : List ℕ). l.0 ++ t) (h.3 ∙ ap (λ (t : List ℕ). h.0 ++ t) o.1))) in
    ap table_switch_of parts ∙ table_parts at (table_length lo hi) s.0 d.0 l.0 h.0 o.0 s.2 d.2 l.2 h.2 long ∙ o.2

lookup_whole : (at : ℕ) (bytes : List ℕ) (x : Operands) → Spells (lookup_switch_at at) bytes (outcome x) → lookup_switch_of bytes ≡ x
unfolding lookup_switch_at
lookup_whole at bytes x s =
    let d = s.4 in
    let n = d.4 in
    let count = four n.0 in
    let o = pairs_known at s.0 (four d.0) count n.1 x (int_lt count (pos 0)) refl n.4 in
    let up = (halves (not (int_lt count (pos 0))) (eqb (length o.0) (8 * unsigned_abs count) && rising (keys o.0)) o.3).1 in
    let long : length o.0 ≡ 8 * unsigned_abs count = eqb-true _ _ (halves (eqb (length o.0) (8 * unsigned_abs count)) (rising (keys o.0)) up).0 in
    let parts : bytes ≡ s.0 ++ (d.0 ++ (n.0 ++ o.0)) =
    s.3 ∙ ap (λ (t : List ℕ). s.0 ++ t) (d.3 ∙ ap (λ (t : List ℕ). d.0 ++ t) (n.3 ∙ ap (λ (t : List ℕ). n.0 ++ t) o.1)) in
    ap lookup_switch_of parts ∙ lookup_parts at (2 * unsigned_abs count) s.0 d.0 n.0 o.0 s.2 d.2 n.2 (omega (arith, long)) ∙ o.2

-- what was taken is in front of what is left
front : (first : List ℕ) (old new : Place) → Took first old new → take (length old.rest - length new.rest) old.rest ≡ first
front first old new took =
    let whole : length old.rest ≡ length (first ++ new.rest) = ap length took.parts in
    let is : length old.rest - length new.rest ≡ length first = omega (arith, whole, length-append first new.rest) in
    ap (λ (k : ℕ). take k old.rest) is ∙ ap (λ (t : List ℕ). take (length first) t) took.parts ∙ take-append_seam first new.rest

left : (first : List ℕ) (old new : Place) → Took first old new → length new.rest ≤ length old.rest
left first old new took = let whole : length old.rest ≡ length (first ++ new.rest) = ap length took.parts in omega (arith, whole, length-append first new.rest)

pub table_kept : (at : ℕ) (old new : Place) (x : Operands) → judged at (reads (table_switch_at at) old.at old.rest) ≡ Ok (x, new)
    → (length new.rest ≤ length old.rest) × (table_switch_of (take (length old.rest - length new.rest) old.rest) ≡ x)
table_kept at old new x h =
    let s = read_spells at (table_switch_at at) old new x _ refl h in
    (left s.0 old new s.2, ap table_switch_of (front s.0 old new s.2) ∙ table_whole at s.0 x s.1)

pub lookup_kept : (at : ℕ) (old new : Place) (x : Operands) → judged at (reads (lookup_switch_at at) old.at old.rest) ≡ Ok (x, new)
    → (length new.rest ≤ length old.rest) × (lookup_switch_of (take (length old.rest - length new.rest) old.rest) ≡ x)
lookup_kept at old new x h =
    let s = read_spells at (lookup_switch_at at) old new x _ refl h in
    (left s.0 old new s.2, ap lookup_switch_of (front s.0 old new s.2) ∙ lookup_whole at s.0 x s.1)
