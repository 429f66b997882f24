-- Which bytes spell a switch.
use Rattle.std.proofs.Common.{◌≡◌, ℕ, ℤ, pos, ◌*◌, ◌^◌, ◌<◌, Bool, true, false, cond, ◌&&◌, List, [], ◌++◌, length, Err, refl, sym, ap, subst, ◌∙◌, append_assoc, eqb, SFits, to_z, of_z, w32}
use Rattle.std.specs.Prelude.{not, int_lt, unsigned_abs}
use Rattle.std.specs.Int.{cast_signed, cast_unsigned}
use Rattle.std.proofs.lemmas.Bool.{eqb-true, eq-eqb}
use Rattle.std.proofs.lemmas.Int.{to_z-of_z, of_z-to_z}
use Rattle.std.proofs.lemmas.List.{append-nil}
use Rattle.std.proofs.Math.Facts.{Fits-of_z}
use Rattle.byteorder.specs.Endian.{big_bytes}
use Rattle.layout.specs.Format.{AreBytes, Format, done, part, Spells, andthen, number}
use Rattle.layout.specs.FormatLaws.{AreBytes-parts, number_4}
use Rattle.insn.specs.declared.fault.CodeFault.TheVariants.{BadSwitch}
use Rattle.insn.specs.declared.table.Form.TheVariants as forms
use Rattle.insn.specs.Instructions.{Operands, Outcome, table_switch, lookup_switch, padding_at, table_length, keys, rising, table_behind, pairs_behind, table_switch_at, lookup_switch_at}
use Rattle.insn.specs.WrittenInstructions.{fills, pairs_up, agrees, AreInRange, switch_head, operands_bytes}
use Rattle.insn.proofs.Spelled.{outcome, last, Known, signed, number_parts, number_first}

both : (a b : Bool) → a ≡ true → b ≡ true → (a && b) ≡ true
both a b h k = ap (λ (x : Bool). x && b) h ∙ k

pub halves : (a b : Bool) → (a && b) ≡ true → (a ≡ true) × (b ≡ true)
halves true b h = (refl, h)
halves false b h = absurd cc

regroup : (a b c d : List ℕ) → a ++ (b ++ (c ++ d)) ≡ (a ++ (b ++ c)) ++ d
regroup a b c d = ap (λ (t : List ℕ). a ++ t) (sym (append_assoc b c d)) ∙ sym (append_assoc a (b ++ c) d)

-- padding, two numbers, and what follows
headed : (bytes padding rest first others second last : List ℕ) → bytes ≡ padding ++ rest → rest ≡ first ++ others → others ≡ second ++ last → bytes ≡ (padding ++ (first ++ second)) ++ last
headed bytes padding rest first others second last p q r =
    p ∙ ap (λ (t : List ℕ). padding ++ t) (q ∙ ap (λ (t : List ℕ). first ++ t) r) ∙ regroup padding first second last

-- a number as it was read and is written
again : (k : ℕ) → k < 256 ^ 4 → big_bytes 4 k ≡ big_bytes 4 (cast_unsigned w32 (cast_signed w32 k))
again k lt = signed 4 w32 k (of_z-to_z w32 k lt)

headed_again : (padding last : List ℕ) (d n : ℕ) → d < 256 ^ 4 → n < 256 ^ 4
    → (padding ++ (big_bytes 4 d ++ big_bytes 4 n)) ++ last ≡ switch_head padding (cast_signed w32 d) (cast_signed w32 n) ++ last
unfolding switch_head
headed_again padding last d n lt less =
    ap (λ (t : List ℕ). (padding ++ (t ++ big_bytes 4 n)) ++ last) (again d lt)
    ∙ ap (λ (t : List ℕ). (padding ++ (big_bytes 4 (cast_unsigned w32 (cast_signed w32 d)) ++ t)) ++ last) (again n less)

-- ---- tableswitch

pub offsets_known : (at : ℕ) (padding : List ℕ) (d lo hi : ℤ) (bytes : List ℕ) (x : Operands) (b : Bool) → int_lt hi lo ≡ b
    → Spells (cond b (done (Err (BadSwitch at))) (part (4 * table_length lo hi) (λ offsets. done (outcome (table_switch padding d lo hi offsets))))) bytes (outcome x)
    → (offsets : List ℕ) × (bytes ≡ offsets) × (table_switch padding d lo hi offsets ≡ x) × (fills lo hi offsets ≡ true)
offsets_known at padding d lo hi bytes x true is s = absurd (let wrong = s.1 in cc)
offsets_known at padding d lo hi bytes x false is s =
    let offsets = s.0 in
    let l = last (table_switch padding d lo hi offsets) x s.1 s.4 in
    let all : eqb (length offsets) (4 * table_length lo hi) ≡ true = eq-eqb _ _ s.2 in
    (offsets, s.3 ∙ ap (λ (t : List ℕ). offsets ++ t) l.0 ∙ append-nil offsets, l.1, both (not (int_lt hi lo)) _ (ap not is) all)

table_bytes : (bytes padding rest p_others q_others r_others offsets : List ℕ) (d lo hi : ℕ) → d < 256 ^ 4 → lo < 256 ^ 4 → hi < 256 ^ 4
    → bytes ≡ padding ++ rest → rest ≡ big_bytes 4 d ++ p_others → p_others ≡ big_bytes 4 lo ++ q_others → q_others ≡ big_bytes 4 hi ++ r_others → r_others ≡ offsets
    → bytes ≡ operands_bytes (table_switch padding (cast_signed w32 d) (cast_signed w32 lo) (cast_signed w32 hi) offsets)
unfolding operands_bytes
table_bytes bytes padding rest p_others q_others r_others offsets d lo hi dl ll hl e p q r o =
    headed bytes padding rest (big_bytes 4 d) p_others (big_bytes 4 lo) q_others e p q
    ∙ headed_again padding q_others d lo dl ll
    ∙ ap (λ (t : List ℕ). switch_head padding (cast_signed w32 d) (cast_signed w32 lo) ++ t)
    (r ∙ ap (λ (t : List ℕ). t ++ r_others) (again hi hl) ∙ ap (λ (t : List ℕ). big_bytes 4 (cast_unsigned w32 (cast_signed w32 hi)) ++ t) o)

pub table_switch_known : (at : ℕ) (bytes : List ℕ) (x : Operands) → AreBytes bytes → Spells (table_switch_at at) bytes (outcome x) → Known at forms.TableSwitch bytes x
unfolding table_switch_at
table_switch_known at bytes x fit s =
    let padding = s.0 in
    let bs = AreBytes-parts padding s.1 (subst AreBytes s.3 fit) in
    let behind_three : ℕ → ℕ → ℕ → Format Outcome = λ d lo hi. table_behind at padding (cast_signed w32 d) (cast_signed w32 lo) (cast_signed w32 hi) in
    let p = number_parts 4 number_4 (λ d. andthen (number 4) (λ lo. andthen (number 4) (behind_three d lo))) s.1 (outcome x) bs.1 s.4 in
    let q = number_parts 4 number_4 (λ lo. andthen (number 4) (behind_three p.value lo)) p.others (outcome x) p.are_bytes p.behind in
    let r = number_parts 4 number_4 (behind_three p.value q.value) q.others (outcome x) q.are_bytes q.behind in
    let lo = cast_signed w32 q.value in
    let hi = cast_signed w32 r.value in
    let o = offsets_known at padding (cast_signed w32 p.value) lo hi r.others x (int_lt hi lo) refl r.behind in
    let aligned : eqb (length padding) (padding_at at) ≡ true = eq-eqb _ _ s.2 in
    subst (λ (y : Operands). Known at forms.TableSwitch bytes y) o.2 (record {
      has_form = refl;
      agree = both _ (fills lo hi o.0) aligned o.3;
      bytes_are = table_bytes bytes padding s.1 p.others q.others r.others o.0 p.value q.value r.value p.fits q.fits r.fits s.3 p.parts q.parts r.parts o.1;
    })

-- ---- lookupswitch

rising_known : (at : ℕ) (padding : List ℕ) (d n : ℤ) (pairs bytes : List ℕ) (x : Operands) (b : Bool) → rising (keys pairs) ≡ b
    → Spells (cond b (done (outcome (lookup_switch padding d n pairs))) (done (Err (BadSwitch at)))) bytes (outcome x)
    → (bytes ≡ []) × (lookup_switch padding d n pairs ≡ x) × (rising (keys pairs) ≡ true)
rising_known at padding d n pairs bytes x true is s = let l = last (lookup_switch padding d n pairs) x bytes s in (l.0, l.1, is)
rising_known at padding d n pairs bytes x false is s = absurd (let wrong = s.1 in cc)

abbrev pairs_format : ℕ → List ℕ → ℤ → ℤ → Format Outcome
pairs_format at padding d n =
    part (8 * unsigned_abs n) (λ pairs. cond (rising (keys pairs)) (done (outcome (lookup_switch padding d n pairs))) (done (Err (BadSwitch at))))

pub pairs_known : (at : ℕ) (padding : List ℕ) (d n : ℤ) (bytes : List ℕ) (x : Operands) (b : Bool) → int_lt n (pos 0) ≡ b
    → Spells (cond b (done (Err (BadSwitch at))) (pairs_format at padding d n)) bytes (outcome x)
    → (pairs : List ℕ) × (bytes ≡ pairs) × (lookup_switch padding d n pairs ≡ x) × (pairs_up n pairs ≡ true)
pairs_known at padding d n bytes x true is s = absurd (let wrong = s.1 in cc)
pairs_known at padding d n bytes x false is s =
    let pairs = s.0 in
    let r = rising_known at padding d n pairs s.1 x (rising (keys pairs)) refl s.4 in
    let all : eqb (length pairs) (8 * unsigned_abs n) ≡ true = eq-eqb _ _ s.2 in
    (pairs, s.3 ∙ ap (λ (t : List ℕ). pairs ++ t) r.0 ∙ append-nil pairs, r.1, both (not (int_lt n (pos 0))) _ (ap not is) (both _ (rising (keys pairs)) all r.2))

lookup_bytes : (bytes padding rest p_others q_others pairs : List ℕ) (d k : ℕ) → d < 256 ^ 4 → k < 256 ^ 4
    → bytes ≡ padding ++ rest → rest ≡ big_bytes 4 d ++ p_others → p_others ≡ big_bytes 4 k ++ q_others → q_others ≡ pairs
    → bytes ≡ operands_bytes (lookup_switch padding (cast_signed w32 d) (cast_signed w32 k) pairs)
unfolding operands_bytes
lookup_bytes bytes padding rest p_others q_others pairs d k dl kl e p q o =
    headed bytes padding rest (big_bytes 4 d) p_others (big_bytes 4 k) q_others e p q
    ∙ headed_again padding q_others d k dl kl
    ∙ ap (λ (t : List ℕ). switch_head padding (cast_signed w32 d) (cast_signed w32 k) ++ t) o

pub lookup_switch_known : (at : ℕ) (bytes : List ℕ) (x : Operands) → AreBytes bytes → Spells (lookup_switch_at at) bytes (outcome x) → Known at forms.LookupSwitch bytes x
unfolding lookup_switch_at
lookup_switch_known at bytes x fit s =
    let padding = s.0 in
    let bs = AreBytes-parts padding s.1 (subst AreBytes s.3 fit) in
    let behind_two : ℕ → ℕ → Format Outcome = λ d count. pairs_behind at padding (cast_signed w32 d) (cast_signed w32 count) in
    let p = number_parts 4 number_4 (λ d. andthen (number 4) (behind_two d)) s.1 (outcome x) bs.1 s.4 in
    let q = number_parts 4 number_4 (behind_two p.value) p.others (outcome x) p.are_bytes p.behind in
    let n = cast_signed w32 q.value in
    let o = pairs_known at padding (cast_signed w32 p.value) n q.others x (int_lt n (pos 0)) refl q.behind in
    let aligned : eqb (length padding) (padding_at at) ≡ true = eq-eqb _ _ s.2 in
    subst (λ (y : Operands). Known at forms.LookupSwitch bytes y) o.2 (record {
      has_form = refl;
      agree = both _ (pairs_up n o.0) aligned o.3;
      bytes_are = lookup_bytes bytes padding s.1 p.others q.others o.0 p.value q.value p.fits q.fits s.3 p.parts q.parts o.1;
    })

-- ---- what agrees is spelled

-- a number of four bytes that is signed
word : (z : ℤ) → SFits w32 z → of_z w32 z < 256 ^ 4
word z fits = (Fits-of_z fits).fits

pub table_switch_written : (at : ℕ) (padding : List ℕ) (d lo hi : ℤ) (offsets : List ℕ) → agrees at (table_switch padding d lo hi offsets) ≡ true → AreInRange (table_switch padding d lo hi offsets)
    → Spells (table_switch_at at) (operands_bytes (table_switch padding d lo hi offsets)) (outcome (table_switch padding d lo hi offsets))
unfolding table_switch_at operands_bytes switch_head
table_switch_written at padding d lo hi offsets fine range =
    let x = table_switch padding d lo hi offsets in
    let h = halves (eqb (length padding) (padding_at at)) (fills lo hi offsets) fine in
    let k = halves (not (int_lt hi lo)) (eqb (length offsets) (4 * table_length lo hi)) h.1 in
    let behind_three : ℤ → ℤ → ℤ → Format Outcome = λ d lo hi. table_behind at padding d lo hi in
    let inner : Spells (table_behind at padding d lo hi) offsets (outcome x) = rest (int_lt hi lo) k.0 (eqb-true _ _ k.1) in
    let read : Spells (table_behind at padding (to_z w32 (of_z w32 d)) (to_z w32 (of_z w32 lo)) (to_z w32 (of_z w32 hi))) offsets (outcome x) =
    subst (λ (z : ℤ). Spells (table_behind at padding z (to_z w32 (of_z w32 lo)) (to_z w32 (of_z w32 hi))) offsets (outcome x)) (sym (to_z-of_z w32 d range.0))
    (subst (λ (z : ℤ). Spells (table_behind at padding d z (to_z w32 (of_z w32 hi))) offsets (outcome x)) (sym (to_z-of_z w32 lo range.1))
    (subst (λ (z : ℤ). Spells (table_behind at padding d lo z) offsets (outcome x)) (sym (to_z-of_z w32 hi range.2)) inner)) in
    let cast_three : ℕ → ℕ → ℕ → Format Outcome = λ a b c. table_behind at padding (cast_signed w32 a) (cast_signed w32 b) (cast_signed w32 c) in
    let three = number_first 4 number_4 (cast_three (of_z w32 d) (of_z w32 lo)) (of_z w32 hi) offsets (outcome x) (word hi range.2) read in
    let two = number_first 4 number_4 (λ b. andthen (number 4) (cast_three (of_z w32 d) b)) (of_z w32 lo) (big_bytes 4 (of_z w32 hi) ++ offsets) (outcome x) (word lo range.1) three in
    let one = number_first 4 number_4 (λ a. andthen (number 4) (λ b. andthen (number 4) (cast_three a b))) (of_z w32 d) (big_bytes 4 (of_z w32 lo) ++ (big_bytes 4 (of_z w32 hi) ++ offsets)) (outcome x) (word d range.0) two in (
      padding,
      big_bytes 4 (of_z w32 d) ++ (big_bytes 4 (of_z w32 lo) ++ (big_bytes 4 (of_z w32 hi) ++ offsets)),
      eqb-true _ _ h.0,
      sym (regroup padding (big_bytes 4 (of_z w32 d)) (big_bytes 4 (of_z w32 lo)) (big_bytes 4 (of_z w32 hi) ++ offsets)),
      one,
    )
  where
    rest : (b : Bool) → not b ≡ true → length offsets ≡ 4 * table_length lo hi
        → Spells (cond b (done (Err (BadSwitch at))) (part (4 * table_length lo hi) (λ offsets. done (outcome (table_switch padding d lo hi offsets))))) offsets (outcome (table_switch padding d lo hi offsets))
    rest true is long = absurd cc
    rest false is long = (offsets, [], long, sym (append-nil offsets), (refl, refl))

pub lookup_switch_written : (at : ℕ) (padding : List ℕ) (d n : ℤ) (pairs : List ℕ) → agrees at (lookup_switch padding d n pairs) ≡ true → AreInRange (lookup_switch padding d n pairs)
    → Spells (lookup_switch_at at) (operands_bytes (lookup_switch padding d n pairs)) (outcome (lookup_switch padding d n pairs))
unfolding lookup_switch_at operands_bytes switch_head
lookup_switch_written at padding d n pairs fine range =
    let x = lookup_switch padding d n pairs in
    let h = halves (eqb (length padding) (padding_at at)) (pairs_up n pairs) fine in
    let u = halves (not (int_lt n (pos 0))) (eqb (length pairs) (8 * unsigned_abs n) && rising (keys pairs)) h.1 in
    let v = halves (eqb (length pairs) (8 * unsigned_abs n)) (rising (keys pairs)) u.1 in
    let inner : Spells (pairs_behind at padding d n) pairs (outcome x) = counted (int_lt n (pos 0)) u.0 (eqb-true _ _ v.0) v.1 in
    let read : Spells (pairs_behind at padding (to_z w32 (of_z w32 d)) (to_z w32 (of_z w32 n))) pairs (outcome x) =
    subst (λ (z : ℤ). Spells (pairs_behind at padding z (to_z w32 (of_z w32 n))) pairs (outcome x)) (sym (to_z-of_z w32 d range.0))
    (subst (λ (z : ℤ). Spells (pairs_behind at padding d z) pairs (outcome x)) (sym (to_z-of_z w32 n range.1)) inner) in
    let cast_two : ℕ → ℕ → Format Outcome = λ a b. pairs_behind at padding (cast_signed w32 a) (cast_signed w32 b) in
    let two = number_first 4 number_4 (cast_two (of_z w32 d)) (of_z w32 n) pairs (outcome x) (word n range.1) read in
    let one = number_first 4 number_4 (λ a. andthen (number 4) (cast_two a)) (of_z w32 d) (big_bytes 4 (of_z w32 n) ++ pairs) (outcome x) (word d range.0) two in (
      padding,
      big_bytes 4 (of_z w32 d) ++ (big_bytes 4 (of_z w32 n) ++ pairs),
      eqb-true _ _ h.0,
      sym (regroup padding (big_bytes 4 (of_z w32 d)) (big_bytes 4 (of_z w32 n)) pairs),
      one,
    )
  where
    rest : (b : Bool) → b ≡ true → Spells (cond b (done (outcome (lookup_switch padding d n pairs))) (done (Err (BadSwitch at)))) [] (outcome (lookup_switch padding d n pairs))
    rest true is = (refl, refl)
    rest false is = absurd cc

    counted : (b : Bool) → not b ≡ true → length pairs ≡ 8 * unsigned_abs n → rising (keys pairs) ≡ true
        → Spells (cond b (done (Err (BadSwitch at))) (pairs_format at padding d n)) pairs (outcome (lookup_switch padding d n pairs))
    counted true is long up = absurd cc
    counted false is long up = (pairs, [], long, sym (append-nil pairs), rest (rising (keys pairs)) up)
