-- Members by their marks: of those that were met none has a mark that is not set.
use Rattle.std.proofs.Common.{◌≡◌, ℕ, ◌+◌, ◌*◌, ◌-◌, ◌/◌, ◌%◌, ◌<◌, Bool, true, false, ◌||◌, ◌&&◌, List, [], ◌∷◌, ◌++◌, length, Result, Ok, Err, refl, sym, ap, ◌∙◌}
use Rattle.std.proofs.lemmas.Bool.{and_parts, eqb-true, eqb-false}
use Rattle.std.proofs.lemmas.List.{get_or-set_same, get_or-set_other}
use Rattle.std.specs.Prelude.{nat_eq, slice_index_or, slice_set}
use Rattle.std.specs.Str.{bytes_eq}
use Rattle.pool.specs.declared.fault.PoolFault.{PoolFault}
use Rattle.pool.specs.Entries.{Entry}
use Rattle.pool.specs.Lookups.{Named, named, text_at, and_then}
use Rattle.classfile.specs.Indices.{on_found, on_text}
use Rattle.classfile.specs.private.DuplicateFinder.{byte_at, mark, AreMarked, MeetsMarked}
use Rattle.classfile.specs.MemberForm.{are_same, on_member, is_among}
use Rattle.classfile.specs.Values.{Member}
use Rattle.classfile.proofs.SeenLaws.{alike, repeated_one, repeated_none, among_one, among_none}
use lib.Pointwise.{bytes_decides}

abbrev mark_of : List ℕ → List ℕ → ℕ
mark_of name descriptor =
    (17 * (length name % 256) + 71 * (length descriptor % 256) + 5 * byte_at name (length name - 1) + 29 * byte_at name (length name / 2)) % 256

same_mark : (x y : Named) → are_same y x ≡ true → mark y ≡ mark x
same_mark x y e =
    let both = and_parts (bytes_eq y.name x.name) (bytes_eq y.descriptor x.descriptor) e in
    ap (λ (n : List ℕ). mark_of n y.descriptor) ((bytes_decides y.name x.name).0 both.0)
    ∙ ap (λ (d : List ℕ). mark_of x.name d) ((bytes_decides y.descriptor x.descriptor).0 both.1)

-- a mark that is set stays so
pub set_one : (marks : List Bool) (place n : ℕ) → place < length marks → slice_index_or marks n false ≡ true → slice_index_or (slice_set marks place true) n false ≡ true
set_one marks place n within here = by (nat_eq n place) refl
  where
    by : (b : Bool) → nat_eq n place ≡ b → slice_index_or (slice_set marks place true) n false ≡ true
    by true e = ap (λ (k : ℕ). slice_index_or (slice_set marks place true) k false) (eqb-true _ _ e) ∙ get_or-set_same marks place true false within
    by false e = get_or-set_other marks place n true false (eqb-false _ _ e) ∙ here

-- one more is marked
marked_more : (pool : List Entry) (earlier : List Member) (m : Member) (x : Named) (old new : List Bool) → named pool m.name m.descriptor ≡ Ok x → AreMarked pool earlier old
    → ((n : ℕ) → slice_index_or old n false ≡ true → slice_index_or new n false ≡ true) → slice_index_or new (mark x) false ≡ true
    → AreMarked pool (earlier ++ m ∷ []) new
marked_more pool earlier m x old new is marked stay here y among = by (are_same y x) refl (among_one pool earlier m x y is ∙ among)
  where
    by : (b : Bool) → are_same y x ≡ b → b || is_among pool earlier y ≡ true → slice_index_or new (mark y) false ≡ true
    by true e either = ap (λ (n : ℕ). slice_index_or new n false) (same_mark x y e) ∙ here
    by false e either = stay (mark y) (marked y either)

pub meets_none : (pool : List Entry) (earlier : List Member) (m : Member) (fault : PoolFault) (marks : List Bool) → named pool m.name m.descriptor ≡ Err fault
    → AreMarked pool earlier marks → MeetsMarked pool earlier m marks false
meets_none pool earlier m fault marks none marked = record {
  repeats = repeated_none pool earlier m fault none;
  met = λ y among. marked y (among_none pool earlier m fault y none ∙ among);
}

pub meets_marked : (pool : List Entry) (earlier : List Member) (m : Member) (x : Named) (marks : List Bool) → named pool m.name m.descriptor ≡ Ok x
    → AreMarked pool earlier marks → slice_index_or marks (mark x) false ≡ true → MeetsMarked pool earlier m marks (is_among pool earlier x)
meets_marked pool earlier m x marks is marked here = record {
  repeats = repeated_one pool earlier m x is;
  met = marked_more pool earlier m x marks marks is marked (λ n e. e) here;
}

pub meets_new : (pool : List Entry) (earlier : List Member) (m : Member) (x : Named) (marks : List Bool) → named pool m.name m.descriptor ≡ Ok x
    → AreMarked pool earlier marks → mark x < length marks → slice_index_or marks (mark x) false ≡ false → MeetsMarked pool earlier m (slice_set marks (mark x) true) false
meets_new pool earlier m x marks is marked within unset = record {
  repeats = new ∙ repeated_one pool earlier m x is;
  met = marked_more pool earlier m x marks (slice_set marks (mark x) true) is marked (λ n. set_one marks (mark x) n within) (get_or-set_same marks (mark x) true false within);
}
  where
    new : false ≡ is_among pool earlier x
    new = alike false (is_among pool earlier x) (λ (h : false ≡ true). absurd cc) (λ h. sym unset ∙ marked x h)

-- a member has the name, and it has the descriptor
pub both_texts : (pool : List Entry) (m : Member) (x : Named) → on_text pool m.name (bytes_eq x.name) && on_text pool m.descriptor (bytes_eq x.descriptor) ≡ on_member pool m (are_same x)
unfolding named
both_texts pool m x = by (text_at pool m.name) (text_at pool m.descriptor)
  where
    by : (n d : Result (List ℕ) PoolFault) → on_found (bytes_eq x.name) n && on_found (bytes_eq x.descriptor) d
        ≡ on_found (are_same x) (and_then n (λ a. and_then d (λ b. Ok (record { name = a; descriptor = b }))))
    by (Ok a) (Ok b) = refl
    by (Ok a) (Err e) = neither (bytes_eq x.name a)
      where
        neither : (b : Bool) → b && false ≡ false
        neither true = refl
        neither false = refl
    by (Err e) d = refl
