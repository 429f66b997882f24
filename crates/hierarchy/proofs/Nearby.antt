-- The nearest declaration from a class above, among all classes above; and that the word for it computes it.
use Rattle.std.proofs.Common.{◌≡◌, ℕ, zero, suc, ◌+◌, ◌-◌, ◌<◌, ◌≤◌, List, drop, length, slice_get, Option, Some, None, refl, ap, sym, ◌∙◌, subst, arith}
use Rattle.std.specs.Option.{option_and_then}
use Rattle.std.proofs.lemmas.List.{length-drop}
use Rattle.std.proofs.lemmas.Option.{slice_get_within}
use Rattle.hierarchy.specs.private.Above.{class_above, upward, first_above, classes_above, first_declared}
use Rattle.hierarchy.specs.Class.{MemberFact, ClassFact, class_of}
use Rattle.hierarchy.specs.Nearest.{MemberReference, Declaration, declared_by, or_above, nearest_among, nearest, IsNearest, here, above, NearestIsComputed}
use Rattle.hierarchy.specs.Rules.{IsHierarchy}
use Rattle.hierarchy.proofs.Names.{none_some, some_same}
use Rattle.hierarchy.proofs.Upward.{IsOwn, named, found_own, none_upward, settled, no_more, few_above, above_own}

module _ (classes : List ClassFact) where
  -- ---- among the classes upward

  module _ (r : MemberReference) where
    -- so many classes from one upward
    nearest_upward : (n : ℕ) (c : ClassFact) → IsOwn classes c → nearest_among classes r n c.name ≡ first_declared (upward classes n (Some c)) r
    nearest_upward zero c e = refl
    nearest_upward (suc n) c e =
        ap (option_and_then (λ (x : ClassFact). or_above x (declared_by x r) (option_and_then (nearest_among classes r n) x.superclass))) e
        ∙ ap (or_above c (declared_by c r)) (by c.superclass (nearest_upward n))
      where
        absent : (k : ℕ) (s : List ℕ) → class_of classes s ≡ None → nearest_among classes r k s ≡ None
        absent zero s g = refl
        absent (suc k) s g = ap (option_and_then (λ (x : ClassFact). or_above x (declared_by x r) (option_and_then (nearest_among classes r k) x.superclass))) g

        at : (s : List ℕ) (o : Option ClassFact) → class_of classes s ≡ o
            → ((x : ClassFact) → IsOwn classes x → nearest_among classes r n x.name ≡ first_declared (upward classes n (Some x)) r)
            → nearest_among classes r n s ≡ first_declared (upward classes n o) r
        at s None g next = absent n s g ∙ ap (λ cs. first_declared cs r) (sym (none_upward classes n))
        at s (Some x) g next = ap (nearest_among classes r n) (sym (named classes s x g)) ∙ next x (found_own classes s x g)

        by : (o : Option (List ℕ)) → ((x : ClassFact) → IsOwn classes x → nearest_among classes r n x.name ≡ first_declared (upward classes n (Some x)) r)
            → option_and_then (nearest_among classes r n) o ≡ first_declared (upward classes n (option_and_then (class_of classes) o)) r
        by None next = ap (λ cs. first_declared cs r) (sym (none_upward classes n))
        by (Some s) next = at s (class_of classes s) refl next

  dropped : (n p : ℕ) (o : Option ClassFact) (d : ClassFact) → slice_get (upward classes n o) p ≡ Some d → drop p (upward classes n o) ≡ upward classes (n - p) (Some d)
  dropped zero p o d f = absurd (none_some f)
  dropped (suc n) p None d f = absurd (none_some f)
  dropped (suc n) zero (Some c) d f =
      let same : suc n ≡ suc n - 0 = omega arith in
      ap (λ x. upward classes (suc n) (Some x)) (some_same f) ∙ ap (λ k. upward classes k (Some d)) same
  dropped (suc n) (suc p) (Some c) d f =
      let same : n - p ≡ suc n - suc p = omega arith in
      dropped n p (class_above classes c) d f ∙ ap (λ k. upward classes k (Some d)) same

  -- ---- in a hierarchy

  module _ (h : IsHierarchy classes) where
    -- the nearest declaration from a class above is the first of those from its place on
    pub nearest_above : (name : List ℕ) (p : ℕ) (d : ClassFact) (r : MemberReference) → slice_get (classes_above classes name) p ≡ Some d → r.class ≡ d.name
        → nearest classes r ≡ first_declared (drop p (classes_above classes name)) r
    nearest_above name p d r f same =
        ap (nearest_among classes r most) same ∙ nearest_upward r most d (above_own classes h name p d f)
        ∙ ap (λ cs. first_declared cs r) (settled classes m most (Some d) (omega arith) few ∙ sym (settled classes m (suc m) (Some d) (omega arith) few) ∙ sym rest)
      where
        most : ℕ
        most = length classes

        m : ℕ
        m = length classes - p

        all : List ClassFact
        all = classes_above classes name

        inside : p < length all
        inside = slice_get_within all p d f

        counted : suc most - p ≡ suc m
        counted = let le = few_above classes h name in omega (arith, inside)

        rest : drop p all ≡ upward classes (suc m) (Some d)
        rest = dropped (suc most) p (first_above classes name) d f ∙ ap (λ k. upward classes k (Some d)) counted

        few : length (upward classes (suc m) (Some d)) ≤ m
        few =
            let le = few_above classes h name in
            let e = ap length rest in
            let l = length-drop p all in
            omega (arith, inside)

    -- ---- the word and the relation

    module _ (r : MemberReference) where
      sound : (n : ℕ) (name : List ℕ) (d : Declaration) → nearest_among classes r n name ≡ Some d → IsNearest classes r name d
      sound zero name d e = absurd (none_some e)
      sound (suc n) name d e = by (class_of classes name) refl e (λ s. sound n s d)
        where
          up : (c : ClassFact) → class_of classes name ≡ Some c → declared_by c r ≡ None → (o : Option (List ℕ)) → c.superclass ≡ o → option_and_then (nearest_among classes r n) o ≡ Some d
              → ((s : List ℕ) → nearest_among classes r n s ≡ Some d → IsNearest classes r s d) → IsNearest classes r name d
          up c g t None k e next = absurd (none_some e)
          up c g t (Some s) k e next = above g t k (next s e)

          at : (c : ClassFact) → class_of classes name ≡ Some c → (o : Option MemberFact) → declared_by c r ≡ o → or_above c o (option_and_then (nearest_among classes r n) c.superclass) ≡ Some d
              → ((s : List ℕ) → nearest_among classes r n s ≡ Some d → IsNearest classes r s d) → IsNearest classes r name d
          at c g (Some m) t e next = subst (IsNearest classes r name) (some_same e) (here g t)
          at c g None t e next = up c g t c.superclass refl e next

          by : (o : Option ClassFact) → class_of classes name ≡ o → option_and_then (λ (c : ClassFact). or_above c (declared_by c r) (option_and_then (nearest_among classes r n) c.superclass)) o ≡ Some d
              → ((s : List ℕ) → nearest_among classes r n s ≡ Some d → IsNearest classes r s d) → IsNearest classes r name d
          by None g e next = absurd (none_some e)
          by (Some c) g e next = at c g (declared_by c r) refl e next

      looked : (n : ℕ) (name : List ℕ) (c : ClassFact) → class_of classes name ≡ Some c → nearest_among classes r (suc n) name ≡ or_above c (declared_by c r) (option_and_then (nearest_among classes r n) c.superclass)
      looked n name c g = ap (option_and_then (λ (x : ClassFact). or_above x (declared_by x r) (option_and_then (nearest_among classes r n) x.superclass))) g

      -- from so many classes on it is found
      found : (name : List ℕ) (d : Declaration) → IsNearest classes r name d → (k : ℕ) × ((n : ℕ) → k ≤ n → nearest_among classes r n name ≡ Some d)
      found name d (here {c = c} {m = m} g t) = (1, by)
        where
          by : (n : ℕ) → 1 ≤ n → nearest_among classes r n name ≡ Some (record { class = c; member = m })
          by zero le = absurd (omega arith)
          by (suc n) le = looked n name c g ∙ ap (λ o. or_above c o (option_and_then (nearest_among classes r n) c.superclass)) t
      found name d (above {s = s} {c = c} g t k p) = let rest = found s d p in (suc rest.0, by rest.0 rest.1)
        where
          by : (m : ℕ) → ((n : ℕ) → m ≤ n → nearest_among classes r n s ≡ Some d) → (n : ℕ) → suc m ≤ n → nearest_among classes r n name ≡ Some d
          by m next zero le = absurd (omega arith)
          by m next (suc n) le =
              looked n name c g ∙ ap (λ o. or_above c o (option_and_then (nearest_among classes r n) c.superclass)) t
              ∙ ap (option_and_then (nearest_among classes r n)) k ∙ next n (omega arith)

      own_class_of : (name : List ℕ) (d : Declaration) → IsNearest classes r name d → (c : ClassFact) × (class_of classes name ≡ Some c)
      own_class_of name d (here {c = c} g t) = (c, g)
      own_class_of name d (above {c = c} g t k p) = (c, g)

      complete : (name : List ℕ) (d : Declaration) → IsNearest classes r name d → nearest_among classes r (length classes) name ≡ Some d
      complete name d p = ap (nearest_among classes r most) (sym same) ∙ nearest_upward r most c own ∙ ap (λ cs. first_declared cs r) (sym fixed) ∙ sym (nearest_upward r all c own) ∙ ap (nearest_among classes r all) same ∙ f.1 all (omega arith)
        where
          f : (k : ℕ) × ((n : ℕ) → k ≤ n → nearest_among classes r n name ≡ Some d)
          f = found name d p

          most : ℕ
          most = length classes

          all : ℕ
          all = length classes + f.0

          c : ClassFact
          c = (own_class_of name d p).0

          own : IsOwn classes c
          own = found_own classes name c (own_class_of name d p).1

          same : c.name ≡ name
          same = named classes name c (own_class_of name d p).1

          fixed : upward classes all (Some c) ≡ upward classes most (Some c)
          fixed = settled classes most all (Some c) (omega arith) (no_more classes h (suc most) c own)

pub computed : NearestIsComputed
computed classes h r d = (sound classes h r (length classes) r.class d, complete classes h r r.class d)
