-- A class name's front, found byte by byte.
use Rattle.std.proofs.Common.{◌≡◌, ℕ, zero, suc, ◌-◌, ◌+◌, ◌<◌, Bool, true, false, not, eqb, ◌&&◌, List, [], ◌∷◌, ◌++◌, length, get_or, take, drop, refl, sym, ap, ◌∙◌, append_assoc, arith, subst, eqb-true, eq-eqb, ne_eqb, ◌⊎◌, inl, inr, ◌≤◌}
use Rattle.std.specs.Prelude.{◌↔◌}
use Rattle.std.proofs.lemmas.List.{drop_more, take_more, drop_all, append-nil, nil_from_length}
use Rattle.std.proofs.lemmas.Bool.{and_parts, and_left, and_right, or_left, or_right, or_from, false≢true}
use Rattle.names.specs.Names.{slash, semicolon, is_name_unit, is_angle, IsClassName}
use Rattle.names.specs.Forms.{is_plain, ArePlainBetween, IsPlainUpTo}
use Rattle.names.specs.Reading.{Reading, found, outside, mapped, goes_on, ends_class_name, read_class}
use Rattle.names.proofs.ClassNameLaws.{class_name_ends, class_name_from_ends}
use Rattle.names.proofs.FieldReader.{class_on, class_end, class_outside, class_nothing, wants_no_more}

ends_go : (fresh : Bool) (b : ℕ) (rest : List ℕ) → goes_on fresh b ≡ true → ends_class_name fresh (b ∷ rest) ≡ ends_class_name (eqb b slash) rest
unfolding ends_class_name
ends_go fresh b rest on = ap (λ (t : Bool). t && ends_class_name (eqb b slash) rest) on

ends_stop : (fresh : Bool) (b : ℕ) (rest : List ℕ) → goes_on fresh b ≡ false → ends_class_name fresh (b ∷ rest) ≡ false
unfolding ends_class_name
ends_stop fresh b rest off = and_left (goes_on fresh b) (ends_class_name (eqb b slash) rest) off

ends_nothing : (fresh : Bool) → ends_class_name fresh [] ≡ not fresh
unfolding ends_class_name
ends_nothing fresh = refl

pub scan_ends : (bytes : List ℕ) (at : ℕ) (fresh : Bool) → at < length bytes → goes_on fresh (get_or bytes at 0) ≡ true → ends_class_name true bytes ≡ ends_class_name fresh (drop at bytes)
    → ends_class_name true bytes ≡ ends_class_name (eqb (get_or bytes at 0) slash) (drop (at + 1) bytes)
scan_ends bytes at fresh lt on so_far = so_far ∙ ap (ends_class_name fresh) (drop_more bytes at 0 lt) ∙ ends_go fresh (get_or bytes at 0) (drop (at + 1) bytes) on

joined : (front more : List ℕ) (b : ℕ) (r : Reading (List ℕ)) → more ≡ front ++ b ∷ [] → mapped (λ name. front ++ name) (mapped (λ name. b ∷ name) r) ≡ mapped (λ name. more ++ name) r
joined front more b (found name rest) e = ap (λ (x : List ℕ). found x rest) (sym (append_assoc front (b ∷ []) name) ∙ ap (λ (x : List ℕ). x ++ name) (sym e))
joined front more b (outside rest) e = refl

pub scan_reads : (bytes : List ℕ) (at : ℕ) (fresh : Bool) → at < length bytes → goes_on fresh (get_or bytes at 0) ≡ true
    → read_class true bytes ≡ mapped (λ name. take at bytes ++ name) (read_class fresh (drop at bytes))
    → read_class true bytes ≡ mapped (λ name. take (at + 1) bytes ++ name) (read_class (eqb (get_or bytes at 0) slash) (drop (at + 1) bytes))
scan_reads bytes at fresh lt on so_far =
    so_far
    ∙ ap (λ (x : List ℕ). mapped (λ name. take at bytes ++ name) (read_class fresh x)) (drop_more bytes at 0 lt)
    ∙ ap (mapped (λ name. take at bytes ++ name)) (class_on fresh (get_or bytes at 0) (drop (at + 1) bytes) on)
    ∙ joined (take at bytes) (take (at + 1) bytes) (get_or bytes at 0) (read_class (eqb (get_or bytes at 0) slash) (drop (at + 1) bytes)) (take_more bytes at 0 lt)

-- ---- a plain byte

pub record IsPlain (b : ℕ) : Type 0 where
  pub unit : is_name_unit b ≡ true
  pub no_slash : eqb b slash ≡ false
  pub no_angle : is_angle b ≡ false

pub unit_no_slash : (b : ℕ) → is_name_unit b ≡ true → eqb b slash ≡ false
unit_no_slash b unit = by_test (eqb b slash) refl
  where
    by_test : (t : Bool) → eqb b slash ≡ t → t ≡ false
    by_test false h = refl
    by_test true h = absurd (false≢true (subst (λ x. is_name_unit x ≡ true) (eqb-true b slash h) unit))

not_true : (b : Bool) → not b ≡ true → b ≡ false
not_true true h = absurd (false≢true h)
not_true false h = refl

pub plain_so : (b : ℕ) → is_plain b ≡ true → IsPlain b
plain_so b h =
    let p = and_parts (is_name_unit b) (not (is_angle b)) h in
    record { unit = p.0; no_slash = unit_no_slash b p.0; no_angle = not_true (is_angle b) p.1 }

pub plain_goes_on : (fresh : Bool) (b : ℕ) → IsPlain b → goes_on fresh b ≡ true
plain_goes_on fresh b plain = or_left (is_name_unit b) (not fresh && eqb b slash) plain.unit

-- ---- a byte after the begin of the unqualified name that is read

pub not_first : (at start : ℕ) → start ≤ at → eqb (at + 1) start ≡ false
not_first at start behind = ne_eqb (at + 1) start (λ e. omega (arith, e, behind))

pub on_by_unit : (fresh : Bool) (b : ℕ) → is_name_unit b ≡ true → goes_on fresh b ≡ true
on_by_unit fresh b unit = or_left (is_name_unit b) (not fresh && eqb b slash) unit

pub on_by_slash : (fresh : Bool) (b : ℕ) → fresh ≡ false → eqb b slash ≡ true → goes_on fresh b ≡ true
on_by_slash fresh b later is = or_right (is_name_unit b) (not fresh && eqb b slash) (rw (later, is) refl)

pub off_there : (fresh : Bool) (b : ℕ) → is_name_unit b ≡ false → (not fresh && eqb b slash) ≡ false → goes_on fresh b ≡ false
off_there fresh b no_unit no_slash = or_from (is_name_unit b) (not fresh && eqb b slash) no_unit no_slash

pub no_slash_on : (at start b : ℕ) → ((b ≡ slash) × (at ≡ start)) ⊎ (b ≡ slash → ⊥) → (not (eqb at start) && eqb b slash) ≡ false
no_slash_on at start b (inl both) = ap (λ (t : Bool). not t && eqb b slash) (eq-eqb at start both.1)
no_slash_on at start b (inr other) = and_right (not (eqb at start)) (eqb b slash) (ne_eqb b slash other)

-- the bytes up to a place begin a class name
pub record Front (bytes : List ℕ) (at : ℕ) (fresh : Bool) : Type 0 where
  pub ends : ends_class_name true bytes ≡ ends_class_name fresh (drop at bytes)
  pub reads : read_class true bytes ≡ mapped (λ name. take at bytes ++ name) (read_class fresh (drop at bytes))

pub front_more : (bytes : List ℕ) (at : ℕ) (fresh next : Bool) → at < length bytes → goes_on fresh (get_or bytes at 0) ≡ true → eqb (get_or bytes at 0) slash ≡ next
    → Front bytes at fresh → Front bytes (at + 1) next
front_more bytes at fresh next lt on is so_far =
    record {
      ends = scan_ends bytes at fresh lt on so_far.ends ∙ ap (λ (f : Bool). ends_class_name f (drop (at + 1) bytes)) is;
      reads =
          scan_reads bytes at fresh lt on so_far.reads
          ∙ ap (λ (f : Bool). mapped (λ name. take (at + 1) bytes ++ name) (read_class f (drop (at + 1) bytes))) is;
    }

front_run : (n : ℕ) (bytes : List ℕ) (at start : ℕ) → start ≤ at → at + n ≤ length bytes → ArePlainBetween bytes at (at + n) → Front bytes at (eqb at start) → Front bytes (at + n) (eqb (at + n) start)
front_run zero bytes at start behind within plain so_far =
    let here : at ≡ at + 0 = omega arith in
    subst (λ e. Front bytes e (eqb e start)) here so_far
front_run (suc n) bytes at start behind within plain so_far =
    let there : (at + n) + 1 ≡ at + suc n = omega arith in
    let is = plain_so (get_or bytes (at + n) 0) (plain (at + n) (omega arith) (omega arith)) in
    subst (λ e. Front bytes e (eqb e start)) there
    (front_more bytes (at + n) (eqb (at + n) start) (eqb ((at + n) + 1) start) (omega (arith, within)) (plain_goes_on (eqb (at + n) start) (get_or bytes (at + n) 0) is)
    (is.no_slash ∙ sym (not_first (at + n) start (omega (arith, behind))))
    (front_run n bytes at start behind (omega (arith, within)) (λ k from to. plain k from (omega (arith, to))) so_far))

pub front_up_to : (bytes : List ℕ) (at end start : ℕ) → start ≤ at → IsPlainUpTo bytes at end → Front bytes at (eqb at start) → Front bytes end (eqb end start)
front_up_to bytes at end start behind run so_far =
    let ordered = run.ordered in
    let within = run.within in
    let there : at + (end - at) ≡ end = omega (arith, ordered) in
    subst (λ e. Front bytes e (eqb e start)) there
    (front_run (end - at) bytes at start behind (omega (arith, ordered, within)) (λ k from to. run.plain k from (omega (arith, to, ordered))) so_far)

-- all bytes go on as a class name
pub class_to_the_end : (bytes : List ℕ) (front : ℕ) (fresh : Bool) → front ≡ length bytes → ends_class_name true bytes ≡ ends_class_name fresh (drop front bytes) → (not fresh ≡ true) ↔ IsClassName bytes
class_to_the_end bytes front fresh all e =
    let is : ends_class_name true bytes ≡ not fresh = e ∙ ap (ends_class_name fresh) (drop_all front bytes (omega arith)) ∙ ends_nothing fresh in
    (λ h. class_name_from_ends bytes (is ∙ h), λ c. sym is ∙ class_name_ends bytes c)

-- a byte stands where a class name cannot go on
pub no_class_there : (bytes : List ℕ) (front : ℕ) (fresh : Bool) → front < length bytes → ((b : ℕ) (rest : List ℕ) → drop front bytes ≡ b ∷ rest → goes_on fresh b ≡ false)
    → ends_class_name true bytes ≡ ends_class_name fresh (drop front bytes) → IsClassName bytes → ⊥
no_class_there bytes front fresh lt stops e c =
    let b = get_or bytes front 0 in
    let rest = drop (front + 1) bytes in
    let is = drop_more bytes front 0 lt in
    false≢true (sym (e ∙ ap (ends_class_name fresh) is ∙ ends_stop fresh b rest (stops b rest is)) ∙ class_name_ends bytes c)

-- ---- reading after the front

-- the bytes are a front of a class name and a rest with which it does not go on
pub record Scanned (bytes name rest : List ℕ) (fresh : Bool) : Type 0 where
  reads : read_class true bytes ≡ mapped (λ more. name ++ more) (read_class fresh rest)
  stops : (b : ℕ) (others : List ℕ) → rest ≡ b ∷ others → goes_on fresh b ≡ false

pub scanned : (bytes name rest : List ℕ) (front : ℕ) (fresh : Bool) → name ≡ take front bytes → rest ≡ drop front bytes
    → read_class true bytes ≡ mapped (λ more. take front bytes ++ more) (read_class fresh (drop front bytes))
    → ((b : ℕ) (others : List ℕ) → drop front bytes ≡ b ∷ others → goes_on fresh b ≡ false) → Scanned bytes name rest fresh
scanned bytes name rest front fresh is_front is_rest reads stops = rw (is_front, is_rest) (record { reads = reads; stops = stops })

pub class_read : (bytes name rest others : List ℕ) (b : ℕ) (fresh : Bool) → Scanned bytes name rest fresh → rest ≡ b ∷ others → fresh ≡ false → b ≡ semicolon → read_class true bytes ≡ found name others
class_read bytes name rest others b fresh s is later end =
    s.reads
    ∙ ap (λ (x : List ℕ). mapped (λ more. name ++ more) (read_class fresh x)) is
    ∙ ap (mapped (λ more. name ++ more)) (class_end fresh b others (s.stops b others is) (rw (later, end) refl))
    ∙ ap (λ (x : List ℕ). found x others) (append-nil name)

pub class_unread : (bytes name rest others : List ℕ) (b : ℕ) (fresh : Bool) → Scanned bytes name rest fresh → rest ≡ b ∷ others → wants_no_more fresh b ≡ false → read_class true bytes ≡ outside rest
class_unread bytes name rest others b fresh s is more =
    s.reads
    ∙ ap (λ (x : List ℕ). mapped (λ more. name ++ more) (read_class fresh x)) is
    ∙ ap (mapped (λ more. name ++ more)) (class_outside fresh b others (s.stops b others is) more)
    ∙ ap outside (sym is)

pub class_cut : (bytes name rest : List ℕ) (fresh : Bool) → Scanned bytes name rest fresh → length rest ≡ 0 → read_class true bytes ≡ outside rest
class_cut bytes name rest fresh s none =
    let is = nil_from_length rest none in
    s.reads ∙ ap (λ (x : List ℕ). mapped (λ more. name ++ more) (read_class fresh x)) is ∙ ap (mapped (λ more. name ++ more)) (class_nothing fresh) ∙ ap outside (sym is)
