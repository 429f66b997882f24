-- Names and descriptors that were met, as the numbers of their texts: equal numbers lead to equal texts, and back.
use Rattle.std.proofs.Common.{◌≡◌, ℕ, Bool, true, false, ◌||◌, ◌&&◌, List, [], ◌∷◌, ◌++◌, Some, Ok, Err, Option, Result, refl, sym, ap, subst, ◌∙◌}
use Rattle.std.proofs.lemmas.Bool.{and_parts}
use Rattle.std.specs.Cmp.{nat_cmp_is}
use Rattle.std.proofs.lemmas.List.Elements.{All-head, All-tail}
use Rattle.std.proofs.lemmas.List.Folds.{list_any-append}
use Rattle.std.proofs.lemmas.Map.Lookups.{exact_pairs, exact_unsigned}
use Rattle.std.proofs.lemmas.Map.Views.{All-insert_key}
use Rattle.std.specs.BTreeSet.{insert_key}
use Rattle.std.specs.List.{All, list_any}
use Rattle.std.specs.declared.cmp.Ordering.{Ordering}
use Rattle.std.specs.declared.cmp.Ordering.TheVariants.{Less, Equal, Greater}
use Rattle.std.specs.Ordering.{nat_cmp, ordering_then, is_eq, match_ordering}
use Rattle.std.specs.Str.{bytes_eq}
use Rattle.pool.specs.declared.fault.PoolFault.{PoolFault}
use Rattle.pool.specs.Entries.{Entry}
use Rattle.pool.specs.Lookups.{text_at, Named, named, and_then}
use Rattle.classfile.specs.declared.text_numbers.TextNumbers.{TextNumbers}
use Rattle.classfile.specs.Values.{Member}
use Rattle.classfile.specs.Indices.{on_found}
use Rattle.classfile.specs.MemberForm.{are_same, on_member, is_among, is_repeated}
use Rattle.classfile.specs.TextNumbers.{number_of, AreNumbers}
use Rattle.classfile.specs.Seen.{is_pair_of, IsNumber, AreBothNumbers}
use lib.Pointwise.{bytes_decides}

abbrev pub Key : Type 0
Key = ℕ × ℕ

abbrev pub order : Key → Key → Ordering
order a b = ordering_then (nat_cmp a.0 b.0) (nat_cmp a.1 b.1)

-- ---- tests

pub alike : (a b : Bool) → (a ≡ true → b ≡ true) → (b ≡ true → a ≡ true) → a ≡ b
alike true b f g = sym (f refl)
alike false true f g = g refl
alike false false f g = refl

equal_of : (o : Ordering) → is_eq o ≡ true → o ≡ Equal
equal_of Less h = absurd cc
equal_of Equal h = refl
equal_of Greater h = absurd cc

same_key : (a b : Key) → order a b ≡ Equal → a ≡ b
same_key a b h = exact_pairs nat_cmp nat_cmp exact_unsigned exact_unsigned a b h

at_itself : (a : Key) → is_eq (order a a) ≡ true
at_itself a =
    ap is_eq (ap (λ (o : Ordering). ordering_then o (nat_cmp a.1 a.1)) (sym (nat_cmp_is a.0 a.0 Equal refl)) ∙ sym (nat_cmp_is a.1 a.1 Equal refl))

same_itself : (x : Named) → are_same x x ≡ true
same_itself x = ap (λ (b : Bool). b && bytes_eq x.descriptor x.descriptor) ((bytes_decides x.name x.name).1 refl) ∙ (bytes_decides x.descriptor x.descriptor).1 refl

-- ---- what two texts are together

abbrev good : Named → Result Named PoolFault
good x = Ok x

then : {A B : Type 0} (r : Result A PoolFault) (next : A → Result B PoolFault) (a : A) → r ≡ Ok a → and_then r next ≡ next a
then r next a h = ap (λ (s : Result _ PoolFault). and_then s next) h

pub both_of : (pool : List Entry) (i j : ℕ) (x : Named) → text_at pool i ≡ Ok x.name → text_at pool j ≡ Ok x.descriptor → named pool i j ≡ Ok x
unfolding named
both_of pool i j x n d = then (text_at pool i) _ x.name n ∙ then (text_at pool j) _ x.descriptor d

-- or a name or a descriptor is not there
pub no_name : (pool : List Entry) (i j : ℕ) (fault : PoolFault) → text_at pool i ≡ Err fault → named pool i j ≡ Err fault
unfolding named
no_name pool i j fault e = ap (λ (s : Result (List ℕ) PoolFault). and_then s (λ n. and_then (text_at pool j) (λ d. Ok (record { name = n; descriptor = d })))) e

pub no_descriptor : (pool : List Entry) (i j : ℕ) (name : List ℕ) (fault : PoolFault) → text_at pool i ≡ Ok name → text_at pool j ≡ Err fault → named pool i j ≡ Err fault
unfolding named
no_descriptor pool i j name fault n e =
    then (text_at pool i) _ name n ∙ ap (λ (s : Result (List ℕ) PoolFault). and_then s (λ d. Ok (record { name = name; descriptor = d }))) e

pub parts : {A B : Type 0} (r : Result A PoolFault) (next : A → Result B PoolFault) (b : B) → and_then r next ≡ Ok b → (a : A) × (r ≡ Ok a) × (next a ≡ Ok b)
parts (Ok a) next b h = (a, refl, h)
parts (Err e) next b h = absurd cc

same_ok : (x y : Named) → good x ≡ good y → x ≡ y
same_ok x y h = cc

texts_of : (pool : List Entry) (i j : ℕ) (x : Named) → named pool i j ≡ Ok x → (text_at pool i ≡ Ok x.name) × (text_at pool j ≡ Ok x.descriptor)
unfolding named
texts_of pool i j x h =
    let n = parts (text_at pool i) (λ n. and_then (text_at pool j) (λ d. Ok (record { name = n; descriptor = d }))) x h in
    let d = parts (text_at pool j) (λ d. Ok (record { name = n.0; descriptor = d })) x n.2 in
    let same = same_ok (record { name = n.0; descriptor = d.0 }) x d.2 in
    (n.1 ∙ ap (λ (y : Named). Ok y.name) same, d.1 ∙ ap (λ (y : Named). Ok y.descriptor) same)

found : (r : Result Named PoolFault) (test : Named → Bool) → on_found test r ≡ true → (y : Named) × (r ≡ Ok y) × (test y ≡ true)
found (Ok y) test h = (y, refl, h)
found (Err e) test h = absurd cc

-- ---- a pair of numbers

same_some : (m n : ℕ) → (let o : Option ℕ = Some m in o) ≡ Some n → m ≡ n
same_some m n h = cc

module _ (pool : List Entry) (s : TextNumbers) (numbers : AreNumbers pool s) (x : Named) (n d : ℕ) (name : number_of s x.name ≡ Some n) (descriptor : number_of s x.descriptor ≡ Some d) where
  pub pair_leads : named pool n d ≡ Ok x
  pair_leads = both_of pool n d x (numbers.leads x.name n name) (numbers.leads x.descriptor d descriptor)

  forward : (k : Key) → is_eq (order (n, d) k) ≡ true → is_pair_of pool x k ≡ true
  forward k h =
      subst (λ (l : Key). is_pair_of pool x l ≡ true) (same_key (n, d) k (equal_of (order (n, d) k) h)) (ap (on_found (are_same x)) pair_leads ∙ same_itself x)

  back : (k : Key) → AreBothNumbers pool s k → is_pair_of pool x k ≡ true → is_eq (order (n, d) k) ≡ true
  back k both h =
      let f = found (named pool k.0 k.1) (are_same x) h in
      let same = and_parts (bytes_eq x.name f.0.name) (bytes_eq x.descriptor f.0.descriptor) f.2 in
      let texts = texts_of pool k.0 k.1 f.0 f.1 in
      let first : n ≡ k.0 = same_some n k.0 (sym name ∙ both.0 x.name (texts.0 ∙ ap Ok (sym ((bytes_decides x.name f.0.name).0 same.0)))) in
      let second : d ≡ k.1 = same_some d k.1 (sym descriptor ∙ both.1 x.descriptor (texts.1 ∙ ap Ok (sym ((bytes_decides x.descriptor f.0.descriptor).0 same.1)))) in
      ap is_eq (ap (λ (i : ℕ). order (n, d) (i, k.1)) (sym first) ∙ ap (λ (i : ℕ). order (n, d) (n, i)) (sym second)) ∙ at_itself (n, d)

  told : (k : Key) → AreBothNumbers pool s k → is_eq (order (n, d) k) ≡ is_pair_of pool x k
  told k both = alike (is_eq (order (n, d) k)) (is_pair_of pool x k) (forward k) (back k both)

  -- the pair is in a list exactly where its name and descriptor are
  pub any_told : (ks : List Key) → All (AreBothNumbers pool s) ks → list_any (λ k. is_eq (order (n, d) k)) ks ≡ list_any (is_pair_of pool x) ks
  any_told [] all = refl
  any_told (k ∷ ks) all =
      ap (λ (b : Bool). b || list_any (λ k. is_eq (order (n, d) k)) ks) (told k (All-head (AreBothNumbers pool s) k ks all))
      ∙ ap (λ (b : Bool). is_pair_of pool x k || b) (any_told ks (All-tail (AreBothNumbers pool s) k ks all))

  number_is : (text : List ℕ) (m : ℕ) → number_of s text ≡ Some m → IsNumber pool s m
  number_is text m h t here = ap (number_of s) (same_text t text (sym here ∙ numbers.leads text m h)) ∙ h
    where
      same_text : (t u : List ℕ) → (let r : Result (List ℕ) PoolFault = Ok t in r) ≡ Ok u → t ≡ u
      same_text t u e = cc

  -- the pair is put to the others
  pub put_pair : (ks : List Key) → All (AreBothNumbers pool s) ks → All (AreBothNumbers pool s) (insert_key order ks (n, d))
  put_pair ks all =
      All-insert_key order (n, d) (AreBothNumbers pool s) ks all (number_is x.name n name, number_is x.descriptor d descriptor)

-- numbers stay numbers
pub kept_pairs : (pool : List Entry) (s t : TextNumbers) → ((x : List ℕ) (m : ℕ) → number_of s x ≡ Some m → number_of t x ≡ Some m)
    → (ks : List Key) → All (AreBothNumbers pool s) ks → All (AreBothNumbers pool t) ks
kept_pairs pool s t more ks all = λ k d lt. (λ text here. more text _ ((all k d lt).0 text here), λ text here. more text _ ((all k d lt).1 text here))

twice : (a b : Bool) → (a || b) ≡ (a || (a || b))
twice true b = refl
twice false b = refl

turned : (a b c : Bool) → (a || (b || c)) ≡ (b || (a || c))
turned true true c = refl
turned true false c = refl
turned false b c = refl

-- a test is passed in the set with the key where the key or one of the set passes it
insert_any : (p : Key → Bool) (k : Key) (ks : List Key) → list_any p (insert_key order ks k) ≡ (p k || list_any p ks)
insert_any p k [] = refl
insert_any p k (x ∷ ks) = by_order (insert_any p k ks) (order k x) (λ e. ap p (same_key k x e))
  where
    by_order : list_any p (insert_key order ks k) ≡ (p k || list_any p ks) → (o : Ordering) → (o ≡ Equal → p k ≡ p x)
        → list_any p (match_ordering o (k ∷ x ∷ ks) (x ∷ ks) (x ∷ insert_key order ks k)) ≡ (p k || (p x || list_any p ks))
    by_order more Less e = refl
    by_order more Equal e = twice (p x) (list_any p ks) ∙ ap (λ (b : Bool). b || (p x || list_any p ks)) (sym (e refl))
    by_order more Greater e = ap (λ (b : Bool). p x || b) more ∙ turned (p x) (p k) (list_any p ks)

-- a name and a descriptor were met where they were before, or are those of the pair that was put to the others
pub met_more : (pool : List Entry) (x y : Named) (k : Key) (ks : List Key) → named pool k.0 k.1 ≡ Ok x
    → list_any (is_pair_of pool y) (insert_key order ks k) ≡ (are_same y x || list_any (is_pair_of pool y) ks)
met_more pool x y k ks leads =
    insert_any (is_pair_of pool y) k ks ∙ ap (λ (r : Result Named PoolFault). on_found (are_same y) r || list_any (is_pair_of pool y) ks) leads

-- ---- members

moved : (a b : Bool) → (a || b) ≡ (b || (a || false))
moved true true = refl
moved true false = refl
moved false true = refl
moved false false = refl

on_one : (pool : List Entry) (m : Member) (x : Named) (test : Named → Bool) → named pool m.name m.descriptor ≡ Ok x → on_member pool m test ≡ test x
on_one pool m x test e = ap (on_found test) e

on_none : (pool : List Entry) (m : Member) (fault : PoolFault) (test : Named → Bool) → named pool m.name m.descriptor ≡ Err fault → on_member pool m test ≡ false
on_none pool m fault test e = ap (on_found test) e

pub repeated_one : (pool : List Entry) (earlier : List Member) (m : Member) (x : Named) → named pool m.name m.descriptor ≡ Ok x → is_among pool earlier x ≡ is_repeated pool earlier m
unfolding is_repeated
repeated_one pool earlier m x e = sym (on_one pool m x (is_among pool earlier) e)

pub repeated_none : (pool : List Entry) (earlier : List Member) (m : Member) (fault : PoolFault) → named pool m.name m.descriptor ≡ Err fault → false ≡ is_repeated pool earlier m
unfolding is_repeated
repeated_none pool earlier m fault e = sym (on_none pool m fault (is_among pool earlier) e)

pub among_one : (pool : List Entry) (earlier : List Member) (m : Member) (x y : Named) → named pool m.name m.descriptor ≡ Ok x
    → (are_same y x || is_among pool earlier y) ≡ is_among pool (earlier ++ m ∷ []) y
unfolding is_among
among_one pool earlier m x y e =
    let test : Member → Bool = λ m. on_member pool m (are_same y) in
    moved (are_same y x) (list_any test earlier)
    ∙ ap (λ (b : Bool). list_any test earlier || (b || false)) (sym (on_one pool m x (are_same y) e))
    ∙ sym (list_any-append test earlier (m ∷ []))

none_more : (b : Bool) → b ≡ (b || (false || false))
none_more true = refl
none_more false = refl

pub among_none : (pool : List Entry) (earlier : List Member) (m : Member) (fault : PoolFault) (y : Named) → named pool m.name m.descriptor ≡ Err fault
    → is_among pool earlier y ≡ is_among pool (earlier ++ m ∷ []) y
unfolding is_among
among_none pool earlier m fault y e =
    let test : Member → Bool = λ m. on_member pool m (are_same y) in
    none_more (list_any test earlier)
    ∙ ap (λ (b : Bool). list_any test earlier || (b || false)) (sym (on_none pool m fault (are_same y) e))
    ∙ sym (list_any-append test earlier (m ∷ []))
