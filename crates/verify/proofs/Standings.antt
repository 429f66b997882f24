-- Chains of superclasses, step by step and by tables of places, and the classes of files.
use Rattle.std.proofs.Common.{◌≡◌, ◌⊎◌, ℕ, zero, suc, ◌+◌, ◌^◌, ◌<◌, ◌≤◌, List, [], ◌∷◌, ◌++◌, map, length, take, get_or, slice_get, filter, Bool, true, false, cond, Option, Some, None, option_map, is_some, refl, ap, sym, subst, ◌∙◌, inl, inr, arith}
use Rattle.std.specs.Option.{option_and_then, option_map_or}
use Rattle.std.specs.BTreeMap.{BTreeMap}
use Rattle.std.specs.Borrow.{Bor}
use Rattle.std.specs.Str.{bytes_eq}
use Rattle.std.proofs.lemmas.Bool.{cases_lt}
use Rattle.std.proofs.lemmas.List.{length-map}
use Rattle.std.proofs.lemmas.Option.{slice_get-map, slice_get-get_or, slice_get_past}
use Rattle.std.proofs.lemmas.Slice.Eq.{bytes_eq-Decides}
use Rattle.classfile.proofs.Places.{take_one_more}
use Rattle.hierarchy.specs.declared.summary.Summary.{Summary}
use Rattle.hierarchy.specs.Summary.{fact_of, facts_of}
use Rattle.hierarchy.specs.Ancestors.{place_after}
use Rattle.hierarchy.specs.Class.{ClassFact, class_of}
use Rattle.hierarchy.proofs.Doubling.{appended}
use Rattle.hierarchy.proofs.Names.{found_class, found_some, slice_none, some_same, none_some, same_some}
use Rattle.verify.specs.Standing.{is_root, onward, next, ahead, stands}
use Rattle.verify.specs.Each.{with_class}
use Rattle.verify.specs.private.EachSteps.{place_kept, ArePlaced, next_place, class_at, LeadsAhead}

abbrev pub Places : Type 0
Places = BTreeMap (Bor (List ℕ)) ℕ

-- ---- chains

and_same : {A : Type 0} (o : Option A) → option_and_then (λ (a : A). Some a) o ≡ o
and_same None = refl
and_same (Some a) = refl

module _ (classes : List ClassFact) where
  ahead_add : (m n : ℕ) (c : ClassFact) → ahead classes (m + n) c ≡ option_and_then (ahead classes n) (ahead classes m c)
  ahead_add zero n c =
      let e : zero + n ≡ n = omega arith in
      ap (λ k. ahead classes k c) e
  ahead_add (suc m) n c =
      let e : suc m + n ≡ suc (m + n) = omega arith in
      ap (λ k. ahead classes k c) e ∙ from (next classes c) (ahead_add m n)
    where
      from : (o : Option ClassFact) → ((d : ClassFact) → ahead classes (m + n) d ≡ option_and_then (ahead classes n) (ahead classes m d))
          → option_and_then (ahead classes (m + n)) o ≡ option_and_then (ahead classes n) (option_and_then (ahead classes m) o)
      from None k = refl
      from (Some d) k = k d

  -- ---- places of names

  module _ (places : Places) (placed : ArePlaced classes places) where
    -- the class at the place that is kept for a name has it
    pub at_kept : (name : List ℕ) → class_at classes (place_kept places name) ≡ class_of classes name
    at_kept name = by (place_kept places name) (class_of classes name) refl refl
      where
        by : (o : Option ℕ) (found : Option ClassFact) → place_kept places name ≡ o → class_of classes name ≡ found → class_at classes o ≡ found
        by None None e f = refl
        by None (Some d) e f =
            let (j, lt, there, named) = found_class classes name d f in
            absurd (none_some (sym (ap (place_kept places) named ∙ e) ∙ placed.each j d there))
        by (Some i) None e f =
            let (c, there, named) = placed.leads name i e in
            absurd (found_some (λ (d : ClassFact). bytes_eq name d.name) classes i c there ((bytes_eq-Decides name c.name).1 (sym named)) f)
        by (Some i) (Some d) e f =
            let (j, lt, there, named) = found_class classes name d f in
            let same : j ≡ i = same_some (sym (ap (place_kept places) named) ∙ placed.each j d there) e in
            sym (ap (slice_get classes) same) ∙ there

    kept_next : (c : ClassFact) → class_at classes (next_place places c) ≡ next classes c
    kept_next c = by (onward c)
      where
        by : (o : Option (List ℕ)) → class_at classes (option_and_then (place_kept places) o) ≡ option_and_then (class_of classes) o
        by None = refl
        by (Some name) = at_kept name

    -- ---- tables

    pub leads_once : (table : List (Option ℕ)) → table ≡ map (next_place places) classes → LeadsAhead classes 1 table
    leads_once table e = record {
      each = ap length e ∙ length-map classes (next_place places);
      leads = λ i c there.
          let at : slice_get table i ≡ Some (next_place places c) = ap (λ t. slice_get t i) e ∙ slice_get-map (next_place places) classes i ∙ ap (option_map (next_place places)) there in
          ap (λ o. class_at classes (option_and_then (λ (p : Option ℕ). p) o)) at ∙ kept_next c ∙ sym (and_same (next classes c));
    }

  -- after a table the same table once more
  twice_after : (table : List (Option ℕ)) (i : ℕ) → place_after (map (place_after table) table) (Some i) ≡ place_after table (place_after table (Some i))
  twice_after table i = ap (option_and_then (λ (p : Option ℕ). p)) (slice_get-map (place_after table) table i) ∙ by (slice_get table i)
    where
      by : (o : Option (Option ℕ)) → option_and_then (λ (p : Option ℕ). p) (option_map (place_after table) o) ≡ place_after table (option_and_then (λ (p : Option ℕ). p) o)
      by None = refl
      by (Some p) = refl

  module _ (n : ℕ) (table : List (Option ℕ)) (t : LeadsAhead classes n table) where
    -- from a place that a table leads to
    further : (o : Option ℕ) → class_at classes (place_after table o) ≡ option_and_then (ahead classes n) (class_at classes o)
    further None = refl
    further (Some j) = by (slice_get classes j) refl
      where
        nowhere : slice_get classes j ≡ None → class_at classes (place_after table (Some j)) ≡ None
        nowhere f = past (cases_lt j (length classes))
          where
            past : (j < length classes) ⊎ (length classes ≤ j) → class_at classes (place_after table (Some j)) ≡ None
            past (inl lt) = absurd (slice_none classes j lt f)
            past (inr le) =
                let none : slice_get table j ≡ None = slice_get_past table j (omega (arith, le, t.each)) in
                ap (λ o. class_at classes (option_and_then (λ (p : Option ℕ). p) o)) none

        by : (d : Option ClassFact) → slice_get classes j ≡ d → class_at classes (place_after table (Some j)) ≡ option_and_then (ahead classes n) d
        by None f = nowhere f
        by (Some d) f = t.leads j d f

    pub leads_twice : (twice : List (Option ℕ)) → twice ≡ map (place_after table) table → LeadsAhead classes (n + n) twice
    leads_twice twice e = record {
      each = ap length e ∙ length-map table (place_after table) ∙ t.each;
      leads = λ i c there.
          ap (λ x. class_at classes (place_after x (Some i))) e ∙ ap (class_at classes) (twice_after table i) ∙ further (place_after table (Some i))
          ∙ ap (option_and_then (ahead classes n)) (t.leads i c there) ∙ sym (ahead_add n n c);
    }

  -- ---- the classes that stand

  same_maps : {A B C : Type 0} (f : A → C) (g : B → C) (xs : List A) (ys : List B) → length xs ≡ length ys
      → ((i : ℕ) (x : A) (y : B) → slice_get xs i ≡ Some x → slice_get ys i ≡ Some y → f x ≡ g y) → map f xs ≡ map g ys
  same_maps f g [] [] e same = refl
  same_maps f g [] (y ∷ ys) e same = absurd (omega (arith, e))
  same_maps f g (x ∷ xs) [] e same = absurd (omega (arith, e))
  same_maps f g (x ∷ xs) (y ∷ ys) e same =
      ap (λ z. z ∷ map f xs) (same zero x y refl refl) ∙ ap (λ zs. g y ∷ zs) (same_maps f g xs ys (omega (arith, e)) (λ i. same (suc i)))

  pub which_stand : (far : List (Option ℕ)) → LeadsAhead classes (2 ^ 16) far → map (λ p. option_map_or is_root (class_at classes p) false) far ≡ map (stands classes) classes
  which_stand far t = same_maps (λ p. option_map_or is_root (class_at classes p) false) (stands classes) far classes t.each (λ i p c at there.
      ap (λ o. option_map_or is_root o false) (sym (ap (λ o. class_at classes (option_and_then (λ (q : Option ℕ). q) o)) at) ∙ t.leads i c there))

  pub one_more_stands : (some : List ClassFact) (c : ClassFact) (b : Bool) → b ≡ stands classes c
      → filter (stands classes) (some ++ c ∷ []) ≡ filter (stands classes) some ++ cond b (c ∷ []) []
  one_more_stands [] c b e = ap (λ x. cond x (c ∷ []) []) (sym e)
  one_more_stands (d ∷ some) c b e = by (stands classes d) (one_more_stands some c b e)
    where
      by : (x : Bool) → filter (stands classes) (some ++ c ∷ []) ≡ filter (stands classes) some ++ cond b (c ∷ []) []
          → cond x (d ∷ filter (stands classes) (some ++ c ∷ [])) (filter (stands classes) (some ++ c ∷ [])) ≡ cond x (d ∷ filter (stands classes) some) (filter (stands classes) some) ++ cond b (c ∷ []) []
      by true k = ap (λ z. d ∷ z) k
      by false k = k

module _ (items : List Summary) (stand : List Bool) (which : stand ≡ map (stands (facts_of items)) (facts_of items)) where
  -- the next class, and whether it is kept
  pub next_kept : (kept : List Summary) (n i : ℕ) (class : Summary) (b : Bool) → facts_of kept ≡ filter (stands (facts_of items)) (take n (facts_of items))
      → n < length items → class ≡ get_or items n class → i ≡ n → i < length stand → b ≡ get_or stand i b
      → facts_of kept ++ cond b (fact_of class ∷ []) [] ≡ filter (stands (facts_of items)) (take (n + 1) (facts_of items))
  next_kept kept n i class b so lt is same inside read =
      let all = facts_of items in
      let here : slice_get all n ≡ Some (fact_of class) = slice_get-map fact_of items n ∙ ap (option_map fact_of) (slice_get-get_or items n class lt ∙ ap (λ x. Some x) (sym is)) in
      let told : slice_get stand n ≡ Some (stands all (fact_of class)) = ap (λ t. slice_get t n) which ∙ slice_get-map (stands all) all n ∙ ap (option_map (stands all)) here in
      let flag : slice_get stand n ≡ Some b = ap (slice_get stand) (sym same) ∙ slice_get-get_or stand i b inside ∙ ap (λ x. Some x) (sym read) in
      ap (λ fs. fs ++ cond b (fact_of class ∷ []) []) so ∙ sym (one_more_stands all (take n all) (fact_of class) b (same_some flag told))
      ∙ ap (filter (stands all)) (sym (take_one_more all n (fact_of class) here))

-- a name is kept where a class has it
pub known_name : (classes : List ClassFact) (places : Places) → ArePlaced classes places → (name : List ℕ) → is_some (place_kept places name) ≡ is_some (class_of classes name)
known_name classes places placed name = by (place_kept places name) refl
  where
    by : (o : Option ℕ) → place_kept places name ≡ o → is_some o ≡ is_some (class_of classes name)
    by None e = ap is_some (sym (ap (class_at classes) e) ∙ at_kept classes places placed name)
    by (Some i) e =
        let (d, there, named) = placed.leads name i e in
        ap is_some (sym there ∙ sym (ap (class_at classes) e) ∙ at_kept classes places placed name)

-- ---- a class more

module _ (classes : List ClassFact) (places : Places) (placed : ArePlaced classes places) (c : ClassFact) where
  kept_known : is_some (place_kept places c.name) ≡ is_some (class_of classes c.name)
  kept_known = known_name classes places placed c.name

  pub with_same : is_some (place_kept places c.name) ≡ true → classes ≡ with_class classes c
  with_same e = ap (λ b. cond b classes (classes ++ c ∷ [])) (sym e ∙ kept_known)

  module _ (none : place_kept places c.name ≡ None) where
    pub with_more : classes ++ c ∷ [] ≡ with_class classes c
    with_more = ap (λ b. cond b classes (classes ++ c ∷ [])) (sym (ap is_some none) ∙ kept_known)

    at_end : (xs : List ClassFact) → slice_get (xs ++ c ∷ []) (length xs) ≡ Some c
    at_end [] = refl
    at_end (x ∷ xs) = at_end xs

    in_front : (xs : List ClassFact) (i : ℕ) (d : ClassFact) → slice_get xs i ≡ Some d → slice_get (xs ++ c ∷ []) i ≡ Some d
    in_front [] i d e = absurd (none_some e)
    in_front (x ∷ xs) zero d e = e
    in_front (x ∷ xs) (suc i) d e = in_front xs i d e

    pub placed_more : (more : Places) → ((other : List ℕ) → place_kept more other ≡ cond (bytes_eq c.name other) (Some (length classes)) (place_kept places other)) → ArePlaced (classes ++ c ∷ []) more
    placed_more more told = record {
      leads = λ name i e. leads name i (bytes_eq c.name name) refl (sym (told name) ∙ e);
      each = λ i d e. each i d (appended classes c d i e);
    }
      where
        leads : (name : List ℕ) (i : ℕ) (b : Bool) → bytes_eq c.name name ≡ b → cond b (Some (length classes)) (place_kept places name) ≡ Some i
            → (d : ClassFact) × (slice_get (classes ++ c ∷ []) i ≡ Some d) × (d.name ≡ name)
        leads name i true h e = (c, subst (λ k. slice_get (classes ++ c ∷ []) k ≡ Some c) (some_same e) (at_end classes), (bytes_eq-Decides c.name name).0 h)
        leads name i false h e = let (d, there, named) = placed.leads name i e in (d, in_front classes i d there, named)

        other : (i : ℕ) (d : ClassFact) (b : Bool) → bytes_eq c.name d.name ≡ b → slice_get classes i ≡ Some d → cond b (Some (length classes)) (place_kept places d.name) ≡ Some i
        other i d true h e = absurd (none_some (sym none ∙ ap (place_kept places) ((bytes_eq-Decides c.name d.name).0 h) ∙ placed.each i d e))
        other i d false h e = placed.each i d e

        each : (i : ℕ) (d : ClassFact) → (slice_get classes i ≡ Some d) ⊎ ((i ≡ length classes) × (d ≡ c)) → place_kept more d.name ≡ Some i
        each i d (inl e) = told d.name ∙ other i d (bytes_eq c.name d.name) refl e
        each i d (inr (e, f)) =
            told d.name ∙ ap (λ b. cond b (Some (length classes)) (place_kept places d.name)) ((bytes_eq-Decides c.name d.name).1 (sym (ap (λ (x : ClassFact). x.name) f))) ∙ ap (λ k. Some k) (sym e)
