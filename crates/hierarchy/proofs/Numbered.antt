-- Numbers of some members: of one more member, and of one more class; and the version of what a class declares,
-- from its last member on.
use Rattle.std.proofs.Common.{◌≡◌, ◌==◌, ℕ, zero, suc, ◌+◌, ◌<◌, ◌≤◌, Bool, true, false, cond, List, [], ◌∷◌, ◌++◌, drop, find, get_or, length, map, slice_get, take, Option, Some, None, IsSome, refl, ap, sym, ◌∙◌, subst, arith}
use Rattle.std.specs.Borrow.{Bor}
use Rattle.std.proofs.lemmas.Bool.{eq-eqb, false≢true, ne_eqb}
use Rattle.std.proofs.lemmas.List.{drop_more}
use Rattle.hierarchy.specs.declared.member_numbers.MemberNumbers.{MemberNumbers}
use Rattle.hierarchy.specs.declared.numbered_members.Numbered.{Numbered}
use Rattle.hierarchy.specs.declared.summary.MemberSummary.{MemberSummary}
use Rattle.hierarchy.specs.declared.summary.Summary.{Summary}
use Rattle.hierarchy.specs.declared.versions.Versions.{Versions}
use Rattle.hierarchy.specs.private.Ancestry.{facts_at}
use Rattle.hierarchy.specs.Class.{MemberFact, ClassFact}
use Rattle.hierarchy.specs.private.NumberedMembers.{HaveNumbers, KeepMembers, NumberAll, is_numbered}
use Rattle.hierarchy.specs.declared.numbered_members.Numbered.TheVariants as numbered
use Rattle.hierarchy.specs.private.Inheritance.{AreValues, Declares, IsSketched, declared_value}
use Rattle.hierarchy.specs.private.Sketches.{HaveSketches, has_sketch}
use Rattle.hierarchy.specs.private.MemberNumbers.{AreMemberNumbers, member_number}
use Rattle.hierarchy.specs.Nearest.{is_named}
use Rattle.hierarchy.specs.Summary.{fact_of, member_of, text_among}
use Rattle.hierarchy.specs.declared.versions.Put.{Put}
use Rattle.hierarchy.specs.private.Versions.{PutsAll, put_in, value_at}
use Rattle.hierarchy.proofs.Guarding.{map_more}
use Rattle.hierarchy.proofs.Guards.{at_last, is_named_by, named_is}
use Rattle.hierarchy.proofs.Putting.{put_last}
use Rattle.hierarchy.proofs.Names.{none_some, some_same}
use Rattle.hierarchy.proofs.Sketching.{still_zero}

-- ---- numbers

some_kept : (o p : Option ℕ) → ((n : ℕ) → o ≡ Some n → p ≡ Some n) → IsSome o → IsSome p
some_kept None p k s = absurd (false≢true s)
some_kept (Some n) p k s = subst IsSome (sym (k n refl)) refl

module _ (which : Numbered) (old new : MemberNumbers) (kept : KeepMembers old new) where
  pub numbers_kept : (ms : List MemberFact) → HaveNumbers which old ms → HaveNumbers which new ms
  numbers_kept ms have i m e p =
      some_kept (member_number old m.kind m.name m.descriptor) (member_number new m.kind m.name m.descriptor) (λ n. kept m.kind m.name m.descriptor n) (have i m e p)

  pub all_kept : (all : List ClassFact) → NumberAll which old all → NumberAll which new all
  all_kept all have p c e = numbers_kept c.members (have p c e)

  -- one member more
  pub numbers_more : (ms : List MemberFact) (m : MemberFact) → HaveNumbers which old ms → (is_numbered which m ≡ true → IsSome (member_number new m.kind m.name m.descriptor)) → HaveNumbers which new (ms ++ m ∷ [])
  numbers_more ms m have here i x e p = by (i == length ms) (sym (at_last ms m i) ∙ e)
    where
      by : (b : Bool) → cond b (Some m) (slice_get ms i) ≡ Some x → IsSome (member_number new x.kind x.name x.descriptor)
      by true e = let same = some_same e in subst (λ (y : MemberFact). IsSome (member_number new y.kind y.name y.descriptor)) same (here (ap (is_numbered which) same ∙ p))
      by false e = numbers_kept ms have i x e p

  -- one class more
  pub all_more : (all : List ClassFact) (c : ClassFact) → NumberAll which old all → HaveNumbers which new c.members → NumberAll which new (all ++ c ∷ [])
  all_more all c have here p x e = by (p == length all) (sym (at_last all c p) ∙ e)
    where
      by : (b : Bool) → cond b (Some c) (slice_get all p) ≡ Some x → HaveNumbers which new x.members
      by true e = subst (λ (y : ClassFact). HaveNumbers which new y.members) (some_same e) here
      by false e = all_kept all have p x e

pub members_next : (which : Numbered) (old new : MemberNumbers) (texts : List (Bor (List ℕ))) (ms : List MemberSummary) (i : ℕ) (d : MemberSummary) → i < length ms → KeepMembers old new → HaveNumbers which old (map (member_of texts) (take i ms))
    → (is_numbered which (member_of texts (get_or ms i d)) ≡ true → IsSome (member_number new (get_or ms i d).places.kind (text_among texts (get_or ms i d).places.name) (text_among texts (get_or ms i d).places.descriptor)))
    → HaveNumbers which new (map (member_of texts) (take (i + 1) ms))
members_next which old new texts ms i d lt kept have here =
    subst (HaveNumbers which new) (sym (map_more (member_of texts) ms i d lt)) (numbers_more which old new kept (map (member_of texts) (take i ms)) (member_of texts (get_or ms i d)) have here)

pub classes_next : (which : Numbered) (old new : MemberNumbers) (cs : List (Bor Summary)) (i : ℕ) (d : Bor Summary) → i < length cs → KeepMembers old new → NumberAll which old (facts_at (take i cs))
    → HaveNumbers which new (fact_of (get_or cs i d).now).members → NumberAll which new (facts_at (take (i + 1) cs))
classes_next which old new cs i d lt kept have here =
    subst (NumberAll which new) (sym (map_more (λ (s : Bor Summary). fact_of s.now) cs i d lt)) (all_more which old new kept (facts_at (take i cs)) (fact_of (get_or cs i d).now) have here)

-- ---- what a class declares

module _ (numbers : MemberNumbers) (good : AreMemberNumbers numbers) (sketches : List Bool) (ms : List MemberFact) (m : MemberFact) (own : ℕ) (puts : List Put) (done : AreValues numbers sketches ms own puts) where
  -- a member more, which has no number
  pub values_over : member_number numbers m.kind m.name m.descriptor ≡ None → AreValues numbers sketches (m ∷ ms) own puts
  values_over none r k v e zeros = done r k v e zeros ∙ ap (λ o. declared_value own o v) (by (is_named r m) refl)
    where
      by : (b : Bool) → is_named r m ≡ b → find (is_named r) ms ≡ cond b (Some m) (find (is_named r) ms)
      by false f = refl
      by true f =
          let same = named_is r m f in
          absurd (none_some (sym none ∙ (λ i. member_number numbers (sym same.0 i) (sym same.1 i) (sym same.2 i)) ∙ e))

  -- one whose name has none of the sketches
  pub values_past : HaveSketches numbered.Protected sketches (m ∷ ms) → has_sketch sketches m.name ≡ false → AreValues numbers sketches (m ∷ ms) own puts
  values_past noted none r k v e zeros = by (is_named r m) refl
    where
      by : (b : Bool) → is_named r m ≡ b → put_in puts k v ≡ declared_value own (find (is_named r) (m ∷ ms)) v
      by false f = done r k v e zeros ∙ ap (λ b. declared_value own (cond b (Some m) (find (is_named r) ms)) v) (sym f)
      by true f =
          let unset : has_sketch sketches r.name ≡ false = ap (has_sketch sketches) (named_is r m f).1 ∙ none in
          done r k v e zeros ∙ still_zero sketches ms own v (λ i x. noted (suc i) x) r unset (zeros unset) ∙ sym (still_zero sketches (m ∷ ms) own v noted r unset (zeros unset))

  -- one that has a number
  pub values_more : (p : Put) (more : List Put) → member_number numbers m.kind m.name m.descriptor ≡ Some p.index → p.value ≡ cond m.is_protected own 0 → more ≡ puts ++ p ∷ [] → AreValues numbers sketches (m ∷ ms) own more
  values_more p more is_k is_value pushed r j v e zeros = ap (λ xs. put_in xs j v) pushed ∙ put_last puts p j v ∙ by (is_named r m) refl
    where
      by : (b : Bool) → is_named r m ≡ b → cond (p.index == j) p.value (put_in puts j v) ≡ declared_value own (cond b (Some m) (find (is_named r) ms)) v
      by true f =
          let same = named_is r m f in
          let is_j : p.index ≡ j = some_same (sym is_k ∙ (λ i. member_number numbers (sym same.0 i) (sym same.1 i) (sym same.2 i)) ∙ e) in
          ap (λ b. cond b p.value (put_in puts j v)) (eq-eqb p.index j is_j) ∙ is_value
      by false f = ap (λ b. cond b p.value (put_in puts j v)) (ne_eqb p.index j apart) ∙ done r j v e zeros
        where
          apart : p.index ≡ j → ⊥
          apart same =
              let all = good.one r.kind m.kind r.name m.name r.descriptor m.descriptor j e (is_k ∙ ap (λ n. Some n) same) in
              false≢true (sym f ∙ is_named_by r m all.0 all.1 all.2)

pub no_values : (numbers : MemberNumbers) (sketches : List Bool) (own : ℕ) (puts : List Put) → puts ≡ [] → AreValues numbers sketches [] own puts
no_values numbers sketches own puts none r k v e zeros = ap (λ xs. put_in xs k v) none

-- so the version has the values of the members
pub declares_all : (numbers : MemberNumbers) (sketches : List Bool) (old new : Versions) (ms : List MemberFact) (puts : List Put) (own above made : ℕ) → AreValues numbers sketches ms own puts → IsSketched numbers sketches old above → PutsAll old new above puts made
    → Declares numbers old new ms own above made
declares_all numbers sketches old new ms puts own above made values zeros all = record {
  keeps = record { good = all.good; stays = all.stays; same = all.kept };
  there = all.version;
  values = λ r k e. all.values k ∙ values r k (value_at old above k) e (zeros r k e);
}

pub all_dropped : {X : Type 0} (xs : List X) (k : ℕ) → length xs ≤ k → drop k xs ≡ []
all_dropped [] zero le = refl
all_dropped [] (suc k) le = refl
all_dropped (x ∷ xs) zero le = absurd (omega arith)
all_dropped (x ∷ xs) (suc k) le = all_dropped xs k (omega arith)

pub from_left : (texts : List (Bor (List ℕ))) (ms : List MemberSummary) (left : ℕ) (m : MemberSummary) → left < length ms → m ≡ get_or ms left m
    → map (member_of texts) (drop left ms) ≡ member_of texts m ∷ map (member_of texts) (drop (left + 1) ms)
from_left texts ms left m lt is = ap (map (member_of texts)) (drop_more ms left m lt ∙ ap (λ x. x ∷ drop (left + 1) ms) (sym is))
