-- The tests of summaries say whether they are the same.
use Rattle.std.proofs.Common.{◌≡◌, ◌↔◌, ℕ, zero, suc, ◌+◌, ◌<◌, Bool, true, false, not, ◌&&◌, Result, Ok, Err, IfOk, arith, bytes_eq, nat_eq, List, [], ◌∷◌, length, drop, get_or, map, Option, Some, None, refl, sym, ◌∙◌, ap}
use Rattle.std.specs.Prelude.{IsTrue}
use Rattle.std.proofs.lemmas.List.{drop_more}
use Rattle.std.proofs.lemmas.Slice.Eq.{bytes_eq-Decides}
use Rattle.std.specs.declared.alloc.AllocError.{AllocError}
use Rattle.std.specs.Borrow.{Bor}
use Rattle.std.specs.BTreeMap.{is_at}
use Rattle.std.specs.Cmp.Lexicographic.{slice_cmp}
use Rattle.std.specs.Map.{lookup}
use Rattle.std.specs.Ordering.{nat_cmp}
use Rattle.std.proofs.lemmas.Bool.{false≢true, eqb-true, eqb-false}
use Rattle.hierarchy.specs.declared.summary.Kind.{Kind}
use Rattle.hierarchy.specs.declared.summary.Kind.TheVariants.{Field, Method}
use Rattle.hierarchy.specs.declared.summary.MemberSummary.{MemberSummary}
use Rattle.hierarchy.specs.declared.summary.Overriding.{Overriding}
use Rattle.hierarchy.specs.declared.summary.Overriding.TheVariants.{Apart, Open, FinalInPackage, Final}
use Rattle.hierarchy.specs.private.Above.{Numbers, number_of}
use Rattle.hierarchy.specs.private.Flags.{AreNumbers}
use Rattle.hierarchy.specs.Class.{MemberFact, ClassFact}
use Rattle.hierarchy.specs.Summary.{member_of, text_among}
use Rattle.hierarchy.specs.private.SameSummaries.{same_flag, same_flags, same_head, same_kind, same_member, same_members, same_name, same_overriding, same_fact}
use Rattle.hierarchy.proofs.TextPlaces.{among_within}
use Rattle.hierarchy.proofs.Names.{none_some, some_same}

-- ---- the same, where the test holds

left_of : (a b : Bool) → a && b ≡ true → a ≡ true
left_of true b e = refl
left_of false b e = cc

right_of : (a b : Bool) → a && b ≡ true → b ≡ true
right_of true b e = e
right_of false b e = cc

flags : (a b : Bool) → same_flag a b ≡ true → a ≡ b
flags true true e = refl
flags false false e = refl
flags true false e = cc
flags false true e = cc

kinds : (a b : Kind) → same_kind a b ≡ true → a ≡ b
kinds Field Field e = refl
kinds Method Method e = refl
kinds Field Method e = cc
kinds Method Field e = cc

pub parts : (a b : Overriding) → same_overriding a b ≡ true → a ≡ b
parts Apart Apart e = refl
parts Open Open e = refl
parts FinalInPackage FinalInPackage e = refl
parts Final Final e = refl
parts Apart Open e = cc
parts Apart FinalInPackage e = cc
parts Apart Final e = cc
parts Open Apart e = cc
parts Open FinalInPackage e = cc
parts Open Final e = cc
parts FinalInPackage Apart e = cc
parts FinalInPackage Open e = cc
parts FinalInPackage Final e = cc
parts Final Apart e = cc
parts Final Open e = cc
parts Final FinalInPackage e = cc

texts : (a b : List ℕ) → bytes_eq a b ≡ true → a ≡ b
texts a b e = (bytes_eq-Decides a b).0 e

names : (a b : Option (List ℕ)) → same_name a b ≡ true → a ≡ b
names None None e = refl
names (Some a) (Some b) e = ap (λ (z : List ℕ). Some z) (texts a b e)
names None (Some b) e = cc
names (Some a) None e = cc

flags_of : (a b : MemberFact) → same_flags a b ≡ true → (a.kind ≡ b.kind) × (a.is_static ≡ b.is_static) × (a.is_protected ≡ b.is_protected) × (a.overriding ≡ b.overriding)
flags_of a b e =
    let rest = right_of (same_kind a.kind b.kind) _ e in
    let last = right_of (same_flag a.is_static b.is_static) _ rest in (
      kinds a.kind b.kind (left_of (same_kind a.kind b.kind) _ e),
      flags a.is_static b.is_static (left_of (same_flag a.is_static b.is_static) _ rest),
      flags a.is_protected b.is_protected (left_of (same_flag a.is_protected b.is_protected) _ last),
      parts a.overriding b.overriding (right_of (same_flag a.is_protected b.is_protected) _ last),
    )

members : (a b : MemberFact) → same_member a b ≡ true → a ≡ b
members a b e =
    let f = flags_of a b (left_of (same_flags a b) _ e) in
    let rest = right_of (same_flags a b) _ e in
    let n = texts a.name b.name (left_of (bytes_eq a.name b.name) _ rest) in
    let d = texts a.descriptor b.descriptor (right_of (bytes_eq a.name b.name) _ rest) in
    λ i. record { name = n i; descriptor = d i; kind = f.0 i; is_static = f.1 i; is_protected = f.2 i; overriding = f.3 i }

all_members : (a b : List MemberFact) → same_members a b ≡ true → a ≡ b
all_members [] [] e = refl
all_members (m ∷ ms) (n ∷ ns) e =
    let p = members m n (left_of (same_member m n) (same_members ms ns) e) in
    let q = all_members ms ns (right_of (same_member m n) (same_members ms ns) e) in
    λ i. p i ∷ q i
all_members [] (n ∷ ns) e = cc
all_members (m ∷ ms) [] e = cc

pub facts : (a b : ClassFact) → same_fact a b ≡ true → a ≡ b
facts a b e =
    let head = left_of (same_head a b) _ e in
    let r1 = right_of (bytes_eq a.name b.name) _ head in
    let r2 = right_of (same_name a.superclass b.superclass) _ r1 in
    let p1 = texts a.name b.name (left_of (bytes_eq a.name b.name) _ head) in
    let p2 = names a.superclass b.superclass (left_of (same_name a.superclass b.superclass) _ r1) in
    let p3 = flags a.interface b.interface (left_of (same_flag a.interface b.interface) _ r2) in
    let p4 = flags a.is_final b.is_final (right_of (same_flag a.interface b.interface) _ r2) in
    let p5 = all_members a.members b.members (right_of (same_head a b) _ e) in
    λ i. record { name = p1 i; superclass = p2 i; interface = p3 i; is_final = p4 i; members = p5 i }

-- ---- the test holds of what is the same

flag_same : (a : Bool) → same_flag a a ≡ true
flag_same true = refl
flag_same false = refl

kind_same : (a : Kind) → same_kind a a ≡ true
kind_same Field = refl
kind_same Method = refl

pub part_same : (a : Overriding) → same_overriding a a ≡ true
part_same Apart = refl
part_same Open = refl
part_same FinalInPackage = refl
part_same Final = refl

text_same : (a : List ℕ) → bytes_eq a a ≡ true
text_same a = (bytes_eq-Decides a a).1 refl

name_same : (a : Option (List ℕ)) → same_name a a ≡ true
name_same None = refl
name_same (Some a) = text_same a

member_same : (a : MemberFact) → same_member a a ≡ true
member_same a = rw (text_same a.name, text_same a.descriptor, kind_same a.kind, flag_same a.is_static, flag_same a.is_protected, part_same a.overriding) refl

members_same : (a : List MemberFact) → same_members a a ≡ true
members_same [] = refl
members_same (m ∷ ms) = rw (member_same m) (members_same ms)

fact_same : (a : ClassFact) → same_fact a a ≡ true
fact_same a = rw (text_same a.name, name_same a.superclass, flag_same a.interface, flag_same a.is_final, members_same a.members) refl

-- ---- the test says so exactly where they are the same

pub tells : (a b : ClassFact) (t : Bool) → t ≡ same_fact a b → IsTrue t ↔ (a ≡ b)
tells a b t is = (λ h. facts a b (sym is ∙ h), λ h. is ∙ ap (same_fact a) (sym h) ∙ fact_same a)

-- no text has a number
pub none_numbered : (numbers : Numbers) → numbers.entries ≡ [] → AreNumbers numbers
none_numbered numbers none = record { below = λ t n e. absurd (none_some (sym (no_text t) ∙ e)); one = λ t u n e f. absurd (none_some (sym (no_text t) ∙ e)) }
  where
    no_text : (t : List ℕ) → number_of numbers t ≡ None
    no_text t = ap (lookup (is_at (λ (k : Bor (List ℕ)). slice_cmp nat_cmp t k.now))) none

-- texts that have one number are equal
pub one_number : (numbers : Numbers) → AreNumbers numbers → (a b : List ℕ) (n m : ℕ) → number_of numbers a ≡ Some n → number_of numbers b ≡ Some m → nat_eq n m ≡ bytes_eq a b
one_number numbers good a b n m here there = by (nat_eq n m) refl (bytes_eq a b) refl
  where
    by : (s : Bool) → nat_eq n m ≡ s → (t : Bool) → bytes_eq a b ≡ t → s ≡ t
    by true e true f = refl
    by false e false f = refl
    by true e false f = absurd (false≢true (sym f ∙ (bytes_eq-Decides a b).1 (good.one a b n here (there ∙ ap (λ (k : ℕ). Some k) (sym (eqb-true n m e))))))
    by false e true f = absurd (eqb-false n m e (some_same (sym here ∙ ap (number_of numbers) ((bytes_eq-Decides a b).0 f) ∙ there)))

-- ---- members one by one

module _ (ts us : List (Bor (List ℕ))) (ms ns : List MemberSummary) (i : ℕ) (m n : MemberSummary) (lm : i < length ms) (ln : i < length ns) (is_m : m ≡ get_or ms i m) (is_n : n ≡ get_or ns i n) where
  opened : same_members (map (member_of ts) (drop i ms)) (map (member_of us) (drop i ns))
      ≡ (same_member (member_of ts m) (member_of us n) && same_members (map (member_of ts) (drop (i + 1) ms)) (map (member_of us) (drop (i + 1) ns)))
  opened =
      ap (λ z. same_members (map (member_of ts) z) (map (member_of us) (drop i ns))) (drop_more ms i m lm ∙ ap (λ x. x ∷ drop (i + 1) ms) (sym is_m))
      ∙ ap (λ z. same_members (map (member_of ts) (m ∷ drop (i + 1) ms)) (map (member_of us) z)) (drop_more ns i n ln ∙ ap (λ x. x ∷ drop (i + 1) ns) (sym is_n))

  pub members_next : same_member (member_of ts m) (member_of us n) ≡ true
      → same_members (map (member_of ts) (drop i ms)) (map (member_of us) (drop i ns)) ≡ same_members (map (member_of ts) (drop (i + 1) ms)) (map (member_of us) (drop (i + 1) ns))
  members_next e = opened ∙ ap (λ z. z && same_members (map (member_of ts) (drop (i + 1) ms)) (map (member_of us) (drop (i + 1) ns))) e

  pub members_differ : same_member (member_of ts m) (member_of us n) ≡ false → same_members (map (member_of ts) (drop i ms)) (map (member_of us) (drop i ns)) ≡ false
  members_differ e = opened ∙ ap (λ z. z && same_members (map (member_of ts) (drop (i + 1) ms)) (map (member_of us) (drop (i + 1) ns))) e

pub lengths_differ : (ts us : List (Bor (List ℕ))) (ms ns : List MemberSummary) → (length ms ≡ length ns → ⊥) → same_members (map (member_of ts) ms) (map (member_of us) ns) ≡ false
lengths_differ ts us [] [] f = absurd (f refl)
lengths_differ ts us [] (n ∷ ns) f = refl
lengths_differ ts us (m ∷ ms) [] f = refl
lengths_differ ts us (m ∷ ms) (n ∷ ns) f = either (same_member (member_of ts m) (member_of us n)) (lengths_differ ts us ms ns (λ e. f (ap suc e)))
  where
    either : (b : Bool) → same_members (map (member_of ts) ms) (map (member_of us) ns) ≡ false
        → b && same_members (map (member_of ts) ms) (map (member_of us) ns) ≡ false
    either true e = e
    either false e = refl

-- ---- the answers

pub told_member : (a b : MemberFact) (t : Bool) → same_flags a b ≡ true → bytes_eq a.name b.name ≡ true → t ≡ bytes_eq a.descriptor b.descriptor → t ≡ same_member a b
told_member a b t f n is = is ∙ sym (ap (λ z. z && (bytes_eq a.name b.name && bytes_eq a.descriptor b.descriptor)) f ∙ ap (λ z. z && bytes_eq a.descriptor b.descriptor) n)

pub other_flags : (a b : MemberFact) → same_flags a b ≡ false → false ≡ same_member a b
other_flags a b f = sym (ap (λ z. z && (bytes_eq a.name b.name && bytes_eq a.descriptor b.descriptor)) f)

pub other_name : (a b : MemberFact) → same_flags a b ≡ true → bytes_eq a.name b.name ≡ false → false ≡ same_member a b
other_name a b f n = sym (ap (λ z. z && (bytes_eq a.name b.name && bytes_eq a.descriptor b.descriptor)) f ∙ ap (λ z. z && bytes_eq a.descriptor b.descriptor) n)

pub other_head : (a b : ClassFact) → same_head a b ≡ false → false ≡ same_fact a b
other_head a b h = sym (ap (λ z. z && same_members a.members b.members) h)

pub told_fact : (a b : ClassFact) (t : Bool) → same_head a b ≡ true → t ≡ same_members a.members b.members → t ≡ same_fact a b
told_fact a b t h is = is ∙ sym (ap (λ z. z && same_members a.members b.members) h)

pub told_all : (r : Result Bool AllocError) (a b : ClassFact) → same_head a b ≡ true → IfOk r (λ t. t ≡ same_members a.members b.members) → IfOk r (λ t. IsTrue t ↔ (a ≡ b))
told_all (Ok t) a b h is = tells a b t (told_fact a b t h is)
told_all (Err e) a b h is = is

-- ---- equal texts at the same places

pub one_text_more : (ts us : List (Bor (List ℕ))) (i : ℕ) (d e : Bor (List ℕ)) → i < length ts → i < length us → not (bytes_eq (get_or ts i d).now (get_or us i e).now) ≡ false
    → ((p : ℕ) → p < i → text_among ts p ≡ text_among us p) → (p : ℕ) → p < i + 1 → text_among ts p ≡ text_among us p
one_text_more ts us i d e lt lu same before p within = by (nat_eq p i) refl
  where
    equal : (b : Bool) → not b ≡ false → b ≡ true
    equal true e = refl
    equal false e = absurd (false≢true (sym e))

    here : (get_or ts i d).now ≡ (get_or us i e).now
    here = (bytes_eq-Decides (get_or ts i d).now (get_or us i e).now).0 (equal _ same)

    by : (b : Bool) → nat_eq p i ≡ b → text_among ts p ≡ text_among us p
    by true f = ap (text_among ts) (eqb-true p i f) ∙ among_within ts i d lt ∙ here ∙ sym (among_within us i e lu) ∙ ap (text_among us) (sym (eqb-true p i f))
    by false f = before p (omega (arith, within, eqb-false p i f))

pub all_texts : (ts us : List (Bor (List ℕ))) → length ts ≡ length us → ((p : ℕ) → p < length ts → text_among ts p ≡ text_among us p) → (p : ℕ) → text_among ts p ≡ text_among us p
all_texts [] [] long f p = refl
all_texts [] (u ∷ us) long f p = absurd (omega (arith, long))
all_texts (t ∷ ts) [] long f p = absurd (omega (arith, long))
all_texts (t ∷ ts) (u ∷ us) long f zero = f zero (omega arith)
all_texts (t ∷ ts) (u ∷ us) long f (suc p) = all_texts ts us (omega (arith, long)) (λ q lt. f (suc q) (omega (arith, lt))) p
