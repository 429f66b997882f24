-- Bytes that spell a unit each are a text, and so is what lanes pass after a text.
use Rattle.std.proofs.Common.{◌≡◌, ℕ, zero, suc, ◌+◌, ◌-◌, ◌≤◌, ◌<◌, List, [], ◌∷◌, ◌++◌, refl, length, get_or, take, drop, Some, None, true, sym, ap, ◌∙◌, subst, arith}
use Rattle.std.proofs.lemmas.Bool.{and_parts, ltb-true, not-true, eqb-false}
use Rattle.std.proofs.lemmas.List.{drop_more, take_at, take-append-drop, length-take-le}
use Rattle.std.proofs.lemmas.Simd.{get_or-chunk}
use lib.Lanes.{chunk}
use Rattle.names.specs.Texts.{IsText, spelling}
use Rattle.names.specs.Units.{unit_at, is_single, bad_text}
use Rattle.names.specs.Forms.{AreBetween, AreIn}
use Rattle.names.proofs.UnitLaws.{ReadTo, read_on, read_all, text_is_good, again_one}

single_unit : (b : ℕ) (rest : List ℕ) → is_single b ≡ true → unit_at (b ∷ rest) ≡ Some (b, 1)
single_unit b rest is =
    let p = and_parts _ _ is in
    let some = eqb-false b 0 (not-true _ p.1) in
    again_one b rest (omega (arith, some)) (ltb-true _ _ p.0)

pub read_single : (bytes : List ℕ) (at : ℕ) → ReadTo bytes at → at < length bytes → is_single (get_or bytes at 0) ≡ true → ReadTo bytes (at + 1)
read_single bytes at read within is =
    let one = single_unit (get_or bytes at 0) (drop (at + 1) bytes) is in
    read_on bytes at (get_or bytes at 0) 1 read (ap unit_at (drop_more bytes at 0 within) ∙ one)

-- past n bytes after a place
pub read_run : (n : ℕ) (bytes : List ℕ) (at : ℕ) → ReadTo bytes at → at + n ≤ length bytes → AreBetween is_single bytes at (at + n) → ReadTo bytes (at + n)
read_run zero bytes at read within single = subst (ReadTo bytes) (omega arith) read
read_run (suc n) bytes at read within single =
    let there : at + n + 1 ≡ at + suc n = omega arith in
    let before = read_run n bytes at read (omega (arith, within)) (λ k from to. single k from (omega (arith, to))) in
    subst (ReadTo bytes) there (read_single bytes (at + n) before (omega (arith, within)) (single (at + n) (omega arith) (omega arith)))

pub read_from : (bytes : List ℕ) (at end : ℕ) → ReadTo bytes at → at ≤ end → end ≤ length bytes → AreBetween is_single bytes at end → ReadTo bytes end
read_from bytes at end read ahead within single =
    let there : at + (end - at) ≡ end = omega (arith, ahead) in
    subst (ReadTo bytes) there (read_run (end - at) bytes at read (omega (arith, there, within)) (subst (AreBetween is_single bytes at) (sym there) single))

-- the first n lanes of a load are bytes from a place on
pub lanes_between : (bytes : List ℕ) (at lanes n : ℕ) → AreIn is_single (chunk at lanes bytes) 0 lanes n → AreBetween is_single bytes at (at + n)
lanes_between bytes at lanes n single k from to =
    let back : at + (k - at) ≡ k = omega (arith, from) in
    let before : k - at < n = omega (arith, from, to) in
    let same = get_or-chunk at lanes bytes (k - at) 0 (omega (arith, before, single.0)) ∙ ap (λ j. get_or bytes j 0) back in
    subst (λ b. is_single b ≡ true) same (single.1 (k - at) (omega arith) (omega (arith, before)))

pub read_lanes : (bytes : List ℕ) (at lanes n : ℕ) → ReadTo bytes at → at + lanes ≤ length bytes → AreIn is_single (chunk at lanes bytes) 0 lanes n → ReadTo bytes (at + n)
read_lanes bytes at lanes n read within single = read_run n bytes at read (omega (arith, within, single.0)) (lanes_between bytes at lanes n single)

-- no bytes in front of the first
pub read_none : (bytes : List ℕ) → ReadTo bytes 0
read_none bytes = record { units = []; fit = tt; parts = refl; len = refl }

pub text_read : (bytes : List ℕ) (at : ℕ) → at ≤ length bytes → IsText (take at bytes) → ReadTo bytes at
text_read bytes at within t =
    record {
      units = t.units;
      fit = t.fit;
      parts = sym (take-append-drop at bytes) ∙ ap (λ (x : List ℕ). x ++ drop at bytes) t.spelled;
      len = sym (ap length t.spelled) ∙ length-take-le at bytes within;
    }

pub read_text : (bytes : List ℕ) (at : ℕ) → ReadTo bytes at → IsText (take at bytes)
read_text bytes at r = record { units = r.units; fit = r.fit; spelled = ap (take at) r.parts ∙ take_at (spelling r.units) (drop at bytes) at r.len }

pub read_is_good : (bytes : List ℕ) (at : ℕ) → ReadTo bytes at → length bytes ≤ at → bad_text bytes ≡ None
read_is_good bytes at read end = text_is_good bytes (read_all bytes at read end)

pub single_is_good : (bytes : List ℕ) → AreBetween is_single bytes 0 (length bytes) → bad_text bytes ≡ None
single_is_good bytes single = read_is_good bytes (length bytes) (read_from bytes 0 (length bytes) (read_none bytes) (omega arith) (omega arith) single) (omega arith)
