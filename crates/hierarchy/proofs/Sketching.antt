-- Sketches of names, as they are noted, and values that stay 0 where a name has none of them.
use Rattle.std.proofs.Common.{◌≡◌, ◌∙◌, ℕ, zero, suc, ◌<◌, Bool, true, false, cond, nat_eq, List, [], ◌∷◌, drop, find, length, map, slice_get, slice_set, Option, Some, None, refl, ap, sym, subst, arith}
use Rattle.std.proofs.lemmas.Bool.{eq-eqb, eqb-true, false≢true, true≢false}
use Rattle.std.proofs.lemmas.Grind.{get_or-set_at}
use Rattle.std.proofs.lemmas.List.{get_or-set_other}
use Rattle.hierarchy.specs.declared.numbered_members.Numbered.{Numbered}
use Rattle.hierarchy.specs.declared.numbered_members.Numbered.TheVariants as numbered
use Rattle.hierarchy.specs.private.Inheritance.{declared_value}
use Rattle.hierarchy.specs.private.Sketches.{HaveSketches, has_sketch, sketch}
use Rattle.hierarchy.specs.Class.{MemberFact}
use Rattle.hierarchy.specs.Nearest.{MemberReference, is_named}
use Rattle.hierarchy.proofs.Guards.{named_is}
use Rattle.hierarchy.proofs.Names.{none_some, some_same}

-- ---- a sketch more

module _ (sketches : List Bool) (long : length sketches ≡ 256) (name : List ℕ) where
  abbrev noted : List Bool
  noted = slice_set sketches (sketch name) true

  inside : sketch name < length sketches
  inside = omega (arith, long)

  pub noted_here : has_sketch noted name ≡ true
  noted_here = get_or-set_at sketches (sketch name) (sketch name) true false refl inside

  -- no sketch is taken back
  pub noted_still : (other : List ℕ) → has_sketch sketches other ≡ true → has_sketch noted other ≡ true
  noted_still other h = by (nat_eq (sketch other) (sketch name)) refl
    where
      by : (b : Bool) → nat_eq (sketch other) (sketch name) ≡ b → has_sketch noted other ≡ true
      by true e = get_or-set_at sketches (sketch name) (sketch other) true false (eqb-true _ _ e) inside
      by false e = get_or-set_other sketches (sketch name) (sketch other) true false (λ f. true≢false (sym (eq-eqb _ _ f) ∙ e)) ∙ h

-- where a name has none of some sketches, it has none of fewer
pub unset : (few many : List Bool) → ((name : List ℕ) → has_sketch few name ≡ true → has_sketch many name ≡ true) → (name : List ℕ) → has_sketch many name ≡ false → has_sketch few name ≡ false
unset few many kept name none = by (has_sketch few name) refl
  where
    by : (b : Bool) → has_sketch few name ≡ b → has_sketch few name ≡ false
    by false e = e
    by true e = absurd (false≢true (sym none ∙ kept name e))

-- ---- members

-- the last members have sketches too
pub noted_left : {X : Type 0} (which : Numbered) (sketches : List Bool) (f : X → MemberFact) (xs : List X) (n : ℕ) → HaveSketches which sketches (map f xs) → HaveSketches which sketches (map f (drop n xs))
noted_left which sketches f xs zero noted = noted
noted_left which sketches f [] (suc n) noted = noted
noted_left which sketches f (x ∷ xs) (suc n) noted = noted_left which sketches f xs n (λ i m e. noted (suc i) m e)

-- a declaration of a class is one of its members
pub in_list : (r : MemberReference) (ms : List MemberFact) (m : MemberFact) → find (is_named r) ms ≡ Some m → (i : ℕ) × (slice_get ms i ≡ Some m) × (is_named r m ≡ true)
in_list r [] m e = absurd (none_some e)
in_list r (x ∷ ms) m e = by (is_named r x) refl e (in_list r ms m)
  where
    by : (b : Bool) → is_named r x ≡ b → cond b (Some x) (find (is_named r) ms) ≡ Some m → (find (is_named r) ms ≡ Some m → (i : ℕ) × (slice_get ms i ≡ Some m) × (is_named r m ≡ true))
        → (i : ℕ) × (slice_get (x ∷ ms) i ≡ Some m) × (is_named r m ≡ true)
    by true f e next = (zero, e, subst (λ w. is_named r w ≡ true) (some_same e) f)
    by false f e next = let t = next e in (suc t.0, t.1, t.2)

-- in place of 0 stands 0 where the name of a member has none of the sketches
pub still_zero : (sketches : List Bool) (ms : List MemberFact) (own v : ℕ) → HaveSketches numbered.Protected sketches ms → (r : MemberReference) → has_sketch sketches r.name ≡ false → v ≡ 0 → declared_value own (find (is_named r) ms) v ≡ 0
still_zero sketches ms own v noted r none z = by (find (is_named r) ms) refl
  where
    free : (m : MemberFact) → find (is_named r) ms ≡ Some m → (b : Bool) → m.is_protected ≡ b → cond b own 0 ≡ 0
    free m e false f = refl
    free m e true f =
        let t = in_list r ms m e in
        absurd (false≢true (sym none ∙ ap (has_sketch sketches) (named_is r m t.2).1 ∙ noted t.0 m t.1 f))

    by : (o : Option MemberFact) → find (is_named r) ms ≡ o → declared_value own o v ≡ 0
    by None e = z
    by (Some m) e = free m e m.is_protected refl
