-- The final methods of one class, as they are put: their numbers, and the number of their package.
use Rattle.std.proofs.Common.{◌≡◌, inl, inr, ◌==◌, ◌||◌, ◌&&◌, ◌+◌, ◌<◌, ◌∙◌, ℕ, Bool, true, false, cond, List, [], ◌∷◌, ◌++◌, get_or, length, map, option_map, slice_get, take, Option, Some, None, IsSome, refl, ap, sym, subst}
use Rattle.std.specs.Borrow.{Bor}
use Rattle.std.specs.List.{list_any}
use Rattle.std.proofs.lemmas.Bool.{eq-eqb, false≢true, ne_eqb}
use Rattle.std.proofs.lemmas.List.{length-map}
use Rattle.std.proofs.lemmas.List.Folds.{list_any-append}
use Rattle.std.proofs.lemmas.Option.{slice_get-map}
use Rattle.hierarchy.specs.declared.member_numbers.MemberNumbers.{MemberNumbers}
use Rattle.hierarchy.specs.declared.summary.MemberSummary.{MemberSummary}
use Rattle.hierarchy.specs.declared.summary.Overriding.{Overriding}
use Rattle.hierarchy.specs.declared.summary.Summary.{Summary}
use Rattle.hierarchy.specs.declared.versions.Put.{Put}
use Rattle.hierarchy.specs.private.Above.{number_of}
use Rattle.hierarchy.specs.private.Ancestry.{facts_at}
use Rattle.hierarchy.specs.private.FinalMethods.{AreOnes, HasPackage, HavePackages, takes_part}
use Rattle.hierarchy.specs.private.Flags.{KeepNumbers}
use Rattle.hierarchy.specs.private.MemberNumbers.{AreMemberNumbers, member_number}
use Rattle.hierarchy.specs.private.SameSummaries.{same_overriding}
use Rattle.hierarchy.specs.private.Versions.{put_in}
use Rattle.hierarchy.specs.Class.{MemberFact, ClassFact}
use Rattle.hierarchy.specs.Nearest.{MemberReference, is_named, package_of}
use Rattle.hierarchy.specs.Summary.{fact_of, member_of}
use Rattle.hierarchy.proofs.Guarding.{map_more}
use Rattle.hierarchy.proofs.Guards.{TextNumbers, at_last, is_named_by, named_is}
use Rattle.hierarchy.proofs.InOrder.{read_at}
use Rattle.hierarchy.proofs.Names.{at_map, none_some, some_same}
use Rattle.hierarchy.proofs.Positions.{taken}
use Rattle.hierarchy.proofs.Putting.{put_last}

-- ---- values

or_false : (b : Bool) → (b || false) ≡ b
or_false true = refl
or_false false = refl

or_true : (b : Bool) → (b || true) ≡ true
or_true true = refl
or_true false = refl

module _ (numbers : MemberNumbers) (good : AreMemberNumbers numbers) (ms : List MemberFact) (k : ℕ) (m : MemberFact) (at : slice_get ms k ≡ Some m) (o : Overriding) (puts : List Put) (done : AreOnes numbers (take k ms) o puts) where
  any_next : (r : MemberReference) → list_any (takes_part o r) (take (k + 1) ms) ≡ (list_any (takes_part o r) (take k ms) || takes_part o r m)
  any_next r =
      ap (list_any (takes_part o r)) (taken (λ (x : MemberFact). true) (λ (x : MemberFact). true) ms k m at)
      ∙ list_any-append (takes_part o r) (take k ms) (m ∷ []) ∙ ap (λ b. list_any (takes_part o r) (take k ms) || b) (or_false (takes_part o r m))

  passed : (r : MemberReference) → takes_part o r m ≡ false → list_any (takes_part o r) (take (k + 1) ms) ≡ list_any (takes_part o r) (take k ms)
  passed r e = any_next r ∙ ap (λ b. list_any (takes_part o r) (take k ms) || b) e ∙ or_false (list_any (takes_part o r) (take k ms))

  met : (r : MemberReference) → takes_part o r m ≡ true → list_any (takes_part o r) (take (k + 1) ms) ≡ true
  met r e = any_next r ∙ ap (λ b. list_any (takes_part o r) (take k ms) || b) e ∙ or_true (list_any (takes_part o r) (take k ms))

  -- a member more that takes another part
  pub ones_apart : same_overriding m.overriding o ≡ false → AreOnes numbers (take (k + 1) ms) o puts
  ones_apart e r j v f = done r j v f ∙ ap (λ b. cond b 1 v) (sym (passed r (rw e refl)))

  -- one that has no number
  pub ones_over : member_number numbers m.kind m.name m.descriptor ≡ None → AreOnes numbers (take (k + 1) ms) o puts
  ones_over none r j v f = done r j v f ∙ ap (λ b. cond b 1 v) (sym (passed r (by (same_overriding m.overriding o) (is_named r m) refl)))
    where
      by : (a b : Bool) → is_named r m ≡ b → (a && b) ≡ false
      by false b e = refl
      by true false e = refl
      by true true e =
          let same = named_is r m e in
          absurd (none_some (sym none ∙ (λ i. member_number numbers (sym same.0 i) (sym same.1 i) (sym same.2 i)) ∙ f))

  -- one that has a number
  pub ones_more : (p : Put) (more : List Put) → same_overriding m.overriding o ≡ true → member_number numbers m.kind m.name m.descriptor ≡ Some p.index → p.value ≡ 1 → more ≡ puts ++ p ∷ []
      → AreOnes numbers (take (k + 1) ms) o more
  ones_more p more is_part is_k is_value pushed r j v e = ap (λ xs. put_in xs j v) pushed ∙ put_last puts p j v ∙ by (is_named r m) refl
    where
      by : (b : Bool) → is_named r m ≡ b → cond (p.index == j) p.value (put_in puts j v) ≡ cond (list_any (takes_part o r) (take (k + 1) ms)) 1 v
      by true f =
          let same = named_is r m f in
          let is_j : p.index ≡ j = some_same (sym is_k ∙ (λ i. member_number numbers (sym same.0 i) (sym same.1 i) (sym same.2 i)) ∙ e) in
          ap (λ b. cond b p.value (put_in puts j v)) (eq-eqb p.index j is_j) ∙ is_value ∙ ap (λ b. cond b 1 v) (sym (met r (rw (is_part, f) refl)))
      by false f = ap (λ b. cond b p.value (put_in puts j v)) (ne_eqb p.index j apart) ∙ done r j v e ∙ ap (λ b. cond b 1 v) (sym (passed r (rw (is_part, f) refl)))
        where
          apart : p.index ≡ j → ⊥
          apart same =
              let all = good.one r.kind m.kind r.name m.name r.descriptor m.descriptor j e (is_k ∙ ap (λ n. Some n) same) in
              false≢true (sym f ∙ is_named_by r m all.0 all.1 all.2)

-- ---- packages

some_kept : (o p : Option ℕ) → ((n : ℕ) → o ≡ Some n → p ≡ Some n) → IsSome o → IsSome p
some_kept None p k s = absurd (false≢true s)
some_kept (Some n) p k s = subst IsSome (sym (k n refl)) refl

-- a package more has a number
pub packages_next : (old new : TextNumbers) (cs : List (Bor Summary)) (i : ℕ) (d : Bor Summary) → i < length cs → KeepNumbers old new → HavePackages old (facts_at (take i cs))
    → HasPackage new (fact_of (get_or cs i d).now) → HavePackages new (facts_at (take (i + 1) cs))
packages_next old new cs i d lt kept have here = subst (HavePackages new) (sym (map_more (λ (s : Bor Summary). fact_of s.now) cs i d lt)) all
  where
    stays : (c : ClassFact) → HasPackage old c → HasPackage new c
    stays c (inl none) = inl none
    stays c (inr some) = inr (some_kept (number_of old (package_of c.name)) (number_of new (package_of c.name)) (kept (package_of c.name)) some)

    all : HavePackages new (facts_at (take i cs) ++ fact_of (get_or cs i d).now ∷ [])
    all p c e = by (p == length (facts_at (take i cs))) (sym (at_last (facts_at (take i cs)) (fact_of (get_or cs i d).now) p) ∙ e)
      where
        by : (b : Bool) → cond b (Some (fact_of (get_or cs i d).now)) (slice_get (facts_at (take i cs)) p) ≡ Some c → HasPackage new c
        by true f = subst (HasPackage new) (some_same f) here
        by false f = stays c (have p c f)

-- ---- members as they are read

-- the member that is read at a place
pub member_at : (s : Summary) (i : ℕ) (m : MemberSummary) → i < length s.members.items → m ≡ get_or s.members.items i m → slice_get (fact_of s).members i ≡ Some (member_of s.texts.items m)
member_at s i m lt is = slice_get-map (member_of s.texts.items) s.members.items i ∙ ap (option_map (member_of s.texts.items)) (read_at s.members.items i m lt is)

pub member_next : (s : Summary) (xs : List MemberSummary) → xs ≡ s.members.items → (i : ℕ) (d : MemberSummary) → i < length xs → slice_get (fact_of s).members i ≡ Some (member_of s.texts.items (get_or xs i d))
member_next s xs same i d lt = ap (λ ys. slice_get (map (member_of s.texts.items) ys) i) (sym same) ∙ at_map (member_of s.texts.items) xs i d lt

pub members_long : (s : Summary) → length (fact_of s).members ≡ length s.members.items
members_long s = length-map s.members.items (member_of s.texts.items)
