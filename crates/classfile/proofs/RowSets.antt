-- Rows of local variables in a set of their keys.
use Rattle.std.proofs.Common.{◌≡◌, ◌∙◌, ◌<◌, ◌+◌, ℕ, Bool, true, false, ◌||◌, ◌&&◌, List, [], ◌∷◌, length, take, drop, slice_index_or, refl, sym, subst, ap, ap₂, nat_eq, arith}
use Rattle.std.proofs.lemmas.Bool.Decides.{nat_tests}
use Rattle.std.proofs.lemmas.List.{at_drop_more, take_more}
use Rattle.std.proofs.lemmas.List.Folds.{list_any-append}
use Rattle.std.proofs.lemmas.Map.Lookups.{exact_pairs, exact_unsigned}
use Rattle.std.specs.BTreeSet.{insert_key}
use Rattle.std.specs.List.{list_any}
use Rattle.std.specs.Ordering.{nat_cmp, ordering_then, is_eq, match_ordering}
use Rattle.std.specs.declared.cmp.Ordering.{Ordering}
use Rattle.std.specs.declared.cmp.Ordering.TheVariants.{Less, Equal, Greater}
use Rattle.classfile.specs.declared.release_form.debug_tables.Variable.{Variable}
use Rattle.classfile.specs.declared.release_form.repeated_rows.MetRows.{MetRows}
use Rattle.classfile.specs.private.MetRows.{Key, key_of, order, is_met, Meets, AreMet}
use Rattle.classfile.specs.release.DebugTables.{are_same}
use Rattle.classfile.specs.release.Twice.{has_twice}
use Rattle.classfile.proofs.MetLaws.{come_again, comes_once}

then_eq : (a b : Ordering) → is_eq (ordering_then a b) ≡ (is_eq a && is_eq b)
then_eq Less b = refl
then_eq Equal b = refl
then_eq Greater b = refl

one_eq : (a b : ℕ) → is_eq (nat_cmp b a) ≡ nat_eq a b
one_eq a b = grind (arith, nat_tests)

two_eq : (a b c d : ℕ) → is_eq (ordering_then (nat_cmp b a) (nat_cmp d c)) ≡ (nat_eq a b && nat_eq c d)
two_eq a b c d = then_eq (nat_cmp b a) (nat_cmp d c) ∙ ap₂ (λ (x y : Bool). x && y) (one_eq a b) (one_eq c d)

pub key_same : (v o : Variable) → is_eq (order (key_of o) (key_of v)) ≡ are_same v o
key_same v o =
    then_eq (ordering_then (nat_cmp o.start v.start) (nat_cmp o.length v.length)) (ordering_then (nat_cmp o.name v.name) (nat_cmp o.index v.index))
    ∙ ap₂ (λ (x y : Bool). x && y) (two_eq v.start o.start v.length o.length) (two_eq v.name o.name v.index o.index)

same_key : (a b : Key) → order a b ≡ Equal → a ≡ b
same_key a b h = exact_pairs _ _ (exact_pairs nat_cmp nat_cmp exact_unsigned exact_unsigned) (exact_pairs nat_cmp nat_cmp exact_unsigned exact_unsigned) a b h

twice : (a b : Bool) → (a || b) ≡ (a || (a || b))
twice true b = refl
twice false b = refl

turned : (a b c : Bool) → (a || (b || c)) ≡ (b || (a || c))
turned true true c = refl
turned true false c = refl
turned false b c = refl

-- a test is passed in the set with the key where the key or one of the set passes it
pub insert_any : (p : Key → Bool) (k : Key) (ks : List Key) → list_any p (insert_key order ks k) ≡ (p k || list_any p ks)
insert_any p k [] = refl
insert_any p k (x ∷ ks) = by_order (insert_any p k ks) (order k x) (λ e. ap p (same_key k x e))
  where
    by_order : list_any p (insert_key order ks k) ≡ (p k || list_any p ks) → (o : Ordering) → (o ≡ Equal → p k ≡ p x)
        → list_any p (match_ordering o (k ∷ x ∷ ks) (x ∷ ks) (x ∷ insert_key order ks k)) ≡ (p k || (p x || list_any p ks))
    by_order more Less e = refl
    by_order more Equal e = twice (p x) (list_any p ks) ∙ ap (λ (b : Bool). b || (p x || list_any p ks)) (sym (e refl))
    by_order more Greater e = ap (λ (b : Bool). p x || b) more ∙ turned (p x) (p k) (list_any p ks)

-- ---- one row more

abbrev pub no_row : Variable
no_row = record { start = 0; length = 0; name = 0; descriptor = 0; index = 0 }

pub first_met : {v : Variable} (old new : MetRows) (before : Bool) → before ≡ false → Meets old new v before → Meets old new v false
first_met {v} old new before not meets = subst (Meets old new v) not meets

moved : (a b : Bool) → (a || b) ≡ (b || (a || false))
moved true true = refl
moved true false = refl
moved false true = refl
moved false false = refl

pub one_more_met : (rows : List Variable) (i : ℕ) (d : Variable) (old new : MetRows) → i < length rows → Meets old new (slice_index_or rows i d) false
    → AreMet (take i rows) old → AreMet (take (i + 1) rows) new
one_more_met rows i d old new lt meets met other =
    let x = slice_index_or rows i d in
    let test : Variable → Bool = λ v. are_same v other in
    meets.behind other
    ∙ ap (λ (b : Bool). are_same x other || b) (met other)
    ∙ moved (are_same x other) (list_any test (take i rows))
    ∙ sym (list_any-append test (take i rows) (x ∷ []))
    ∙ ap (list_any test) (sym (take_more rows i d lt))

pub none_again : (rows : List Variable) (i : ℕ) (d : Variable) (old new : MetRows) → i < length rows → Meets old new (slice_index_or rows i d) false
    → has_twice are_same rows ≡ come_again are_same (is_met old) (drop i rows) → has_twice are_same rows ≡ come_again are_same (is_met new) (drop (i + 1) rows)
none_again rows i d old new lt meets rests =
    rests ∙ at_drop_more (come_again are_same (is_met old)) rows i d lt
    ∙ comes_once are_same (is_met old) (is_met new) (slice_index_or rows i d) meets.behind (drop (i + 1) rows) (sym meets.told)
