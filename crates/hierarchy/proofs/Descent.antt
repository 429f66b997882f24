-- The inheritance of one class more, and its consequences for the references of a class.
use Rattle.std.proofs.Common.{◌≡◌, ◌⊎◌, inl, inr, ◌==◌, ◌&&◌, ◌%◌, slice_set, ℕ, suc, Bool, true, false, not, cond, List, [], ◌∷◌, ◌++◌, length, slice_get, Option, Some, None, IsSome, refl, ap, sym, ◌∙◌, subst, arith}
use Rattle.std.specs.Option.{option_and_then}
use Rattle.std.specs.Str.{bytes_eq}
use Rattle.std.proofs.lemmas.Bool.{false≢true, eqb-true, eqb-false}
use Rattle.std.proofs.lemmas.List.{length-set}
use Rattle.std.proofs.lemmas.Slice.Eq.{bytes_eq-Decides}
use Rattle.hierarchy.specs.declared.ancestry.Ancestry.{Ancestry}
use Rattle.hierarchy.specs.declared.inheritance.Inherited.{Inherited}
use Rattle.hierarchy.specs.declared.member_numbers.MemberNumbers.{MemberNumbers}
use Rattle.hierarchy.specs.declared.numbered_members.Numbered.TheVariants as numbered
use Rattle.hierarchy.specs.declared.versions.Versions.{Versions}
use Rattle.hierarchy.specs.private.Above.{class_above, number_of}
use Rattle.hierarchy.specs.private.Ancestry.{IsAncestry, IsOwn, facts_at, place_among}
use Rattle.hierarchy.specs.Answer.{on_chain}
use Rattle.hierarchy.specs.Class.{MemberFact, ClassFact, class_of, world_of, IsSubclass}
use Rattle.hierarchy.specs.private.Flags.{AreNumbers, KeepNumbers}
use Rattle.hierarchy.specs.private.NumberedMembers.{NumberAll}
use Rattle.hierarchy.specs.private.Inheritance.{Declares, Inherits, InheritsAny, InheritSoFar, IsCoded, IsSketched, IsProtectedAt, free, kept, declared_value, has_length}
use Rattle.hierarchy.specs.private.MemberNumbers.{member_number, asked_number}
use Rattle.hierarchy.specs.Nearest.{MemberReference, Declaration, declared_by, nearest, IsNearest, here, above, is_elsewhere, is_protected_elsewhere, is_guarded, package_of}
use Rattle.hierarchy.specs.Rules.{IsHierarchy}
use Rattle.hierarchy.specs.private.Sketches.{HaveSketches, has_sketch}
use Rattle.hierarchy.specs.private.Versions.{IsVersion, Puts, value_at, KeepVersions, Tells}
use Rattle.hierarchy.specs.World.{superclass_in, IsSubclassIn}
use Rattle.hierarchy.specs.World as world
use Rattle.hierarchy.proofs.Chain.{shorten}
use Rattle.hierarchy.proofs.Guards.{TextNumbers, at_last, named_is}
use Rattle.hierarchy.proofs.NameLengths.{noted_here, noted_still}
use Rattle.hierarchy.proofs.Names.{none_some, some_same}
use Rattle.hierarchy.proofs.Nearby.{computed}
use Rattle.hierarchy.proofs.Sketching.{in_list, still_zero, unset}
use Rattle.hierarchy.proofs.Subclass.{alone, chain_met, met_chain}
use Rattle.hierarchy.proofs.Upward.{named, own_above, super_there}

-- ---- versions that stay

pub put_keeps : (old new : Versions) (from index value made : ℕ) → Puts old new from index value made → KeepVersions old new
put_keeps old new from index value made p = record { good = p.good; stays = p.stays; same = p.kept }

pub keep_on : (a b c : Versions) → KeepVersions a b → KeepVersions b c → KeepVersions a c
keep_on a b c p q = record {
  good = q.good;
  stays = λ v e. q.stays v (p.stays v e);
  same = λ v e j. q.same v (p.stays v e) j ∙ p.same v e j;
}

module _ (classes all : List ClassFact) (numbers : MemberNumbers) (old new : Versions) (keep : KeepVersions old new) (packages more : TextNumbers) (texts : KeepNumbers packages more) where
  pub inherits_kept : (c : ClassFact) (i : Inherited) → Inherits classes all numbers old packages c i → Inherits classes all numbers new more c i
  inherits_kept c i x = record {
    is_chain = keep.stays i.ancestors x.is_chain;
    is_members = keep.stays i.members x.is_members;
    chain = λ p d e. subst (Tells (IsSubclass classes c.name d.name)) (sym (keep.same i.ancestors x.is_chain p)) (x.chain p d e);
    members = λ r k e. subst (IsCoded classes all r c.name) (sym (keep.same i.members x.is_members k)) (x.members r k e);
    in_package = texts (package_of c.name) i.package_number x.in_package;
    lengths = x.lengths;
    long = x.long;
    sketched = λ r k e none. keep.same i.members x.is_members k ∙ x.sketched r k e none;
    wide = x.wide;
  }

-- ---- the class above

module _ (classes : List ClassFact) where
  -- a class is below another where it is that one, or its superclass is below it
  pub chain_at : (c : ClassFact) (b : List ℕ) → IsOwn classes c → IsSubclass classes c.name b → (c.name ≡ b) ⊎ ((s : List ℕ) × (c.superclass ≡ Some s) × IsSubclass classes s b)
  chain_at c b own p = by c.name refl p
    where
      by : (a : List ℕ) → a ≡ c.name → IsSubclassIn (world_of classes) a b → (c.name ≡ b) ⊎ ((s : List ℕ) × (c.superclass ≡ Some s) × IsSubclass classes s b)
      by a e world.same = inl (sym e)
      by a e (world.above {s = s} f q) = inr (s, sym (own_above classes c own) ∙ ap (superclass_in (world_of classes)) (sym e) ∙ f, q)

  -- the nearest declaration is the class's own where it declares the member, and that of its superclass where it does
  -- not
  nearest_at : (r : MemberReference) (name : List ℕ) (c : ClassFact) (d : Declaration) → class_of classes name ≡ Some c → IsNearest classes r name d
      → ((m : MemberFact) × (declared_by c r ≡ Some m) × (d ≡ record { class = c; member = m })) ⊎ ((declared_by c r ≡ None) × (s : List ℕ) × (c.superclass ≡ Some s) × IsNearest classes r s d)
  nearest_at r name c d g (here {c = x} {m = m} f t) =
      let e : x ≡ c = some_same (sym f ∙ g) in
      inl (m, ap (λ (y : ClassFact). declared_by y r) (sym e) ∙ t, ap (λ (y : ClassFact). record { class = y; member = m }) e)
  nearest_at r name c d g (above {s = s} {c = x} f t k p) =
      let e : x ≡ c = some_same (sym f ∙ g) in
      inr (ap (λ (y : ClassFact). declared_by y r) (sym e) ∙ t, s, ap (λ (y : ClassFact). y.superclass) (sym e) ∙ k, p)

  nearest_present : (r : MemberReference) (name : List ℕ) (d : Declaration) → IsNearest classes r name d → class_of classes name ≡ None → ⊥
  nearest_present r name d (here f t) e = none_some (sym e ∙ f)
  nearest_present r name d (above f t k p) e = none_some (sym e ∙ f)

-- ---- one class more

module _ (classes all : List ClassFact) (a : Ancestry) (is : all ≡ facts_at a.classes.items) (good : IsAncestry classes a) (numbers : MemberNumbers) where
  at_place : (p : ℕ) (c : ClassFact) → slice_get all p ≡ Some c → slice_get (facts_at a.classes.items) p ≡ Some c
  at_place p c e = ap (λ xs. slice_get xs p) (sym is) ∙ e

  own_at : (p : ℕ) (c : ClassFact) → slice_get all p ≡ Some c → IsOwn classes c
  own_at p c e = good.own p c (at_place p c e)

  one_place : (p q : ℕ) (c d : ClassFact) → slice_get all p ≡ Some c → slice_get all q ≡ Some d → c.name ≡ d.name → p ≡ q
  one_place p q c d e f same = some_same (sym (good.places.exact p c (at_place p c e)) ∙ ap (place_among classes a.places) same ∙ good.places.exact q d (at_place q d f))

  module _ (p : ℕ) (c : ClassFact) (at : slice_get all p ≡ Some c) where
    own : IsOwn classes c
    own = own_at p c at

    -- whether a class other than itself is above it, by the value of the class above
    tell_above : (v : ℕ) (q : ℕ) (d : ClassFact) → slice_get all q ≡ Some d → (q ≡ p → ⊥) → (o : Option ClassFact) → class_above classes c ≡ o
        → ((x : ClassFact) → o ≡ Some x → Tells (IsSubclass classes x.name d.name) v) → (o ≡ None → v ≡ 0) → Tells (IsSubclass classes c.name d.name) v
    tell_above v q d e n None g tells none = inl (none refl, λ s. by (chain_at classes c d.name own s))
      where
        absent : (o : Option (List ℕ)) (s : List ℕ) → o ≡ Some s → option_and_then (class_of classes) o ≡ None → class_of classes s ≡ None
        absent None s f h = absurd (none_some f)
        absent (Some t) s f h = ap (class_of classes) (sym (some_same f)) ∙ h

        by : (c.name ≡ d.name) ⊎ ((s : List ℕ) × (c.superclass ≡ Some s) × IsSubclass classes s d.name) → ⊥
        by (inl same) = n (one_place q p d c e at (sym same))
        by (inr (s, f, sub)) =
            let gone = absent c.superclass s f g in
            none_some (sym gone ∙ ap (class_of classes) (alone classes s d.name gone sub) ∙ own_at q d e)
    tell_above v q d e n (Some x) g tells none = by (tells x refl)
      where
        above_name : (o : Option (List ℕ)) → c.superclass ≡ o → option_and_then (class_of classes) o ≡ Some x → c.superclass ≡ Some x.name
        above_name None f h = absurd (none_some h)
        above_name (Some s) f h = f ∙ ap (λ t. Some t) (sym (named classes s x h))

        is_above : c.superclass ≡ Some x.name
        is_above = above_name c.superclass refl g

        back : (c.name ≡ d.name) ⊎ ((s : List ℕ) × (c.superclass ≡ Some s) × IsSubclass classes s d.name) → IsSubclass classes x.name d.name
        back (inl same) = absurd (n (one_place q p d c e at (sym same)))
        back (inr (s, f, sub)) = subst (λ t. IsSubclass classes t d.name) (some_same (sym f ∙ is_above)) sub

        by : Tells (IsSubclass classes x.name d.name) v → Tells (IsSubclass classes c.name d.name) v
        by (inl (z, not_above)) = inl (z, λ s. not_above (back (chain_at classes c d.name own s)))
        by (inr (nz, sub)) = inr (nz, world.above (own_above classes c own ∙ is_above) sub)

    -- the value of a member, by that in the class above
    code_above : (r : MemberReference) (v : ℕ) → (o : Option ClassFact) → class_above classes c ≡ o
        → ((x : ClassFact) → o ≡ Some x → IsCoded classes all r x.name v) → (o ≡ None → v ≡ 0) → IsCoded classes all r c.name (declared_value (suc p) (declared_by c r) v)
    code_above r v o g codes none = by (declared_by c r) refl
      where
        mine : (m : MemberFact) → declared_by c r ≡ Some m → (d : Declaration) → IsNearest classes r c.name d → d ≡ record { class = c; member = m }
        mine m t d n = at_it (nearest_at classes r c.name c d own n)
          where
            at_it : ((k : MemberFact) × (declared_by c r ≡ Some k) × (d ≡ record { class = c; member = k })) ⊎ ((declared_by c r ≡ None) × (s : List ℕ) × (c.superclass ≡ Some s) × IsNearest classes r s d)
                → d ≡ record { class = c; member = m }
            at_it (inl (k, f, e)) = e ∙ ap (λ (y : MemberFact). record { class = c; member = y }) (some_same (sym f ∙ t))
            at_it (inr (f, s, g, h)) = absurd (none_some (sym f ∙ t))

        -- where it declares the member itself
        declares : (m : MemberFact) → declared_by c r ≡ Some m → (b : Bool) → m.is_protected ≡ b → IsCoded classes all r c.name (cond b (suc p) 0)
        declares m t true e = (Some p, refl, kept (record { class = c; member = m }) at (here own t) e)
        declares m t false e = (None, refl, free (λ d n. ap (λ (y : Declaration). y.member.is_protected) (mine m t d n) ∙ e))

        -- where it does not
        super_name : (x : ClassFact) → o ≡ Some x → c.superclass ≡ Some x.name
        super_name x e = above_name c.superclass refl (g ∙ e)
          where
            above_name : (w : Option (List ℕ)) → c.superclass ≡ w → option_and_then (class_of classes) w ≡ Some x → c.superclass ≡ Some x.name
            above_name None f h = absurd (none_some h)
            above_name (Some s) f h = f ∙ ap (λ t. Some t) (sym (named classes s x h))

        up : (x : ClassFact) → o ≡ Some x → declared_by c r ≡ None → (d : Declaration) → IsNearest classes r c.name d → IsNearest classes r x.name d
        up x e t d n = at_it (nearest_at classes r c.name c d own n)
          where
            at_it : ((k : MemberFact) × (declared_by c r ≡ Some k) × (d ≡ record { class = c; member = k })) ⊎ ((declared_by c r ≡ None) × (s : List ℕ) × (c.superclass ≡ Some s) × IsNearest classes r s d)
                → IsNearest classes r x.name d
            at_it (inl (k, f, e)) = absurd (none_some (sym t ∙ f))
            at_it (inr (f, s, k, h)) = subst (λ w. IsNearest classes r w d) (some_same (sym k ∙ super_name x e)) h

        nothing_up : o ≡ None → declared_by c r ≡ None → (d : Declaration) → IsNearest classes r c.name d → ⊥
        nothing_up e t d n = at_it (nearest_at classes r c.name c d own n)
          where
            absent : (w : Option (List ℕ)) (s : List ℕ) → w ≡ Some s → option_and_then (class_of classes) w ≡ None → class_of classes s ≡ None
            absent None s f h = absurd (none_some f)
            absent (Some y) s f h = ap (class_of classes) (sym (some_same f)) ∙ h

            at_it : ((k : MemberFact) × (declared_by c r ≡ Some k) × (d ≡ record { class = c; member = k })) ⊎ ((declared_by c r ≡ None) × (s : List ℕ) × (c.superclass ≡ Some s) × IsNearest classes r s d) → ⊥
            at_it (inl (k, f, h)) = none_some (sym t ∙ f)
            at_it (inr (f, s, k, h)) = nearest_present classes r s d h (absent c.superclass s k (g ∙ e))

        raise : (x : ClassFact) → o ≡ Some x → declared_by c r ≡ None → (w : Option ℕ) → IsProtectedAt classes all r x.name w → IsProtectedAt classes all r c.name w
        raise x e t None (free no_one) = free (λ d n. no_one d (up x e t d n))
        raise x e t (Some q) (kept d f n k) = kept d f (above own t (super_name x e) n) k

        inherits : (w : Option ClassFact) → o ≡ w → declared_by c r ≡ None → IsCoded classes all r c.name v
        inherits None e t = (None, none e, free (λ d n. absurd (nothing_up e t d n)))
        inherits (Some x) e t = let i = codes x e in (i.0, i.1, raise x e t i.0 i.2)

        by : (w : Option MemberFact) → declared_by c r ≡ w → IsCoded classes all r c.name (declared_value (suc p) w v)
        by None t = inherits o refl t
        by (Some m) t = declares m t m.is_protected refl

  -- ---- the next class

  module _ (p : ℕ) (c : ClassFact) (at : slice_get all p ≡ Some c) (old one new : Versions) (packages more : TextNumbers) (of : List Inherited) (far : InheritSoFar classes all numbers old packages of)
      (i : Inherited) (from : InheritsAny classes all numbers old packages (class_above classes c) i) where
    -- the versions of the class above are there
    pub chain_there : IsVersion old i.ancestors
    chain_there = by (class_above classes c) from
      where
        by : (o : Option ClassFact) → InheritsAny classes all numbers old packages o i → IsVersion old i.ancestors
        by None x = subst (IsVersion old) (sym x.0) far.zero_there
        by (Some d) x = x.is_chain

    pub members_there : IsVersion old i.members
    members_there = by (class_above classes c) from
      where
        by : (o : Option ClassFact) → InheritsAny classes all numbers old packages o i → IsVersion old i.members
        by None x = subst (IsVersion old) (sym x.1) far.zero_there
        by (Some d) x = x.is_members

    -- there is room for the lengths of names
    pub lengths_long : length i.lengths ≡ 64
    lengths_long = by (class_above classes c) from
      where
        by : (o : Option ClassFact) → InheritsAny classes all numbers old packages o i → length i.lengths ≡ 64
        by None x = x.2
        by (Some d) x = x.long

    -- so there is for sketches
    pub sketches_wide : length i.sketches ≡ 256
    sketches_wide = by (class_above classes c) from
      where
        by : (o : Option ClassFact) → InheritsAny classes all numbers old packages o i → length i.sketches ≡ 256
        by None x = x.3
        by (Some d) x = x.wide

    -- the values above are 0 where a name has none of these sketches and of others
    pub above_sketched : (sketches : List Bool) → ((name : List ℕ) → has_sketch i.sketches name ≡ true → has_sketch sketches name ≡ true) → (vs : Versions) → KeepVersions old vs → IsSketched numbers sketches vs i.members
    above_sketched sketches stay vs keep r k e none = keep.same i.members members_there k ∙ by (class_above classes c) from
      where
        by : (o : Option ClassFact) → InheritsAny classes all numbers old packages o i → value_at old i.members k ≡ 0
        by None x = ap (λ v. value_at old v k) x.1 ∙ far.zeros k
        by (Some d) x = x.sketched r k e (unset i.sketches sketches stay r.name none)

    module _ (ancestors members number : ℕ) (puts : Puts old one i.ancestors p 1 ancestors) (declares : Declares numbers one new c.members (suc p) i.members members)
        (texts : KeepNumbers packages more) (named_now : number_of more (package_of c.name) ≡ Some number) (texts_good : AreNumbers more)
        (sketches : List Bool) (stay : (name : List ℕ) → has_sketch i.sketches name ≡ true → has_sketch sketches name ≡ true) (own_noted : HaveSketches numbered.Protected sketches c.members) (wide : length sketches ≡ 256) where
      abbrev made : Inherited
      made = record { ancestors = ancestors; members = members; package_number = number; lengths = slice_set i.lengths (length c.name % 64) true; sketches = sketches }

      first : KeepVersions old one
      first = put_keeps old one i.ancestors p 1 ancestors puts

      all_keep : KeepVersions old new
      all_keep = keep_on old one new first declares.keeps

      zero_chain : (q : ℕ) → class_above classes c ≡ None → value_at old i.ancestors q ≡ 0
      zero_chain q e = by (class_above classes c) e from
        where
          by : (o : Option ClassFact) → o ≡ None → InheritsAny classes all numbers old packages o i → value_at old i.ancestors q ≡ 0
          by None e x = ap (λ v. value_at old v q) x.0 ∙ far.zeros q
          by (Some d) e x = absurd (none_some (sym e))

      zero_members : (k : ℕ) → class_above classes c ≡ None → value_at old i.members k ≡ 0
      zero_members k e = by (class_above classes c) e from
        where
          by : (o : Option ClassFact) → o ≡ None → InheritsAny classes all numbers old packages o i → value_at old i.members k ≡ 0
          by None e x = ap (λ v. value_at old v k) x.1 ∙ far.zeros k
          by (Some d) e x = absurd (none_some (sym e))

      from_class : (x : ClassFact) → class_above classes c ≡ Some x → Inherits classes all numbers old packages x i
      from_class x e = by (class_above classes c) e from
        where
          by : (o : Option ClassFact) → o ≡ Some x → InheritsAny classes all numbers old packages o i → Inherits classes all numbers old packages x i
          by None e y = absurd (none_some e)
          by (Some d) e y = subst (λ w. Inherits classes all numbers old packages w i) (some_same e) y

      chains : (q : ℕ) (d : ClassFact) → slice_get all q ≡ Some d → Tells (IsSubclass classes c.name d.name) (value_at new ancestors q)
      chains q d e = subst (Tells (IsSubclass classes c.name d.name)) (sym (declares.keeps.same ancestors puts.version q)) (by (q == p) refl)
        where
          by : (b : Bool) → (q == p) ≡ b → Tells (IsSubclass classes c.name d.name) (value_at one ancestors q)
          by true f =
              let same : q ≡ p = eqb-true q p f in
              let is_one : value_at one ancestors q ≡ 1 = ap (value_at one ancestors) same ∙ puts.here in
              let is_it : c ≡ d = some_same (sym at ∙ ap (slice_get all) (sym same) ∙ e) in
              inr (λ z. absurd (omega (arith, z, is_one)), subst (λ (w : ClassFact). IsSubclass classes c.name w.name) is_it world.same)
          by false f =
              let apart = eqb-false q p f in
              subst (Tells (IsSubclass classes c.name d.name)) (sym (puts.others q apart))
              (tell_above p c at (value_at old i.ancestors q) q d e apart (class_above classes c) refl (λ x g. (from_class x g).chain q d e) (zero_chain q))

      codes : (r : MemberReference) (k : ℕ) → asked_number numbers r ≡ Some k → IsCoded classes all r c.name (value_at new members k)
      codes r k e =
          subst (IsCoded classes all r c.name) (sym (declares.values r k e ∙ ap (declared_value (suc p) (declared_by c r)) (first.same i.members members_there k)))
          (code_above p c at r (value_at old i.members k) (class_above classes c) refl (λ x g. (from_class x g).members r k e) (zero_members k))

      -- the length of a name that another class above has was noted for the class directly above
      noted_above : (q : ℕ) (d : ClassFact) → slice_get all q ≡ Some d → (q ≡ p → ⊥) → IsSubclass classes c.name d.name → has_length i.lengths d.name ≡ true
      noted_above q d e apart sub = by (class_above classes c) refl
        where
          not_zero : Tells (IsSubclass classes c.name d.name) (value_at old i.ancestors q) → value_at old i.ancestors q ≡ 0 → ⊥
          not_zero (inl (z, none)) = absurd (none sub)
          not_zero (inr (nz, is)) = nz

          some : value_at old i.ancestors q ≡ 0 → ⊥
          some = not_zero (tell_above p c at (value_at old i.ancestors q) q d e apart (class_above classes c) refl (λ x g. (from_class x g).chain q d e) (zero_chain q))

          told : (x : ClassFact) → Inherits classes all numbers old packages x i → Tells (IsSubclass classes x.name d.name) (value_at old i.ancestors q) → has_length i.lengths d.name ≡ true
          told x h (inl (z, none)) = absurd (some z)
          told x h (inr (nz, is)) = h.lengths q d e is

          by : (o : Option ClassFact) → class_above classes c ≡ o → has_length i.lengths d.name ≡ true
          by None g = absurd (some (zero_chain q g))
          by (Some x) g = let h = from_class x g in told x h (h.chain q d e)

      noted : (q : ℕ) (d : ClassFact) → slice_get all q ≡ Some d → IsSubclass classes c.name d.name → has_length made.lengths d.name ≡ true
      noted q d e sub = by (q == p) refl
        where
          by : (b : Bool) → (q == p) ≡ b → has_length made.lengths d.name ≡ true
          by true f =
              let is_it : c ≡ d = some_same (sym at ∙ ap (slice_get all) (sym (eqb-true q p f)) ∙ e) in
              subst (λ (w : ClassFact). has_length made.lengths w.name ≡ true) is_it (noted_here i.lengths lengths_long c.name)
          by false f = noted_still i.lengths lengths_long c.name d.name (noted_above q d e (eqb-false q p f) sub)

      inherits_made : Inherits classes all numbers new more c made
      inherits_made = record {
        is_chain = declares.keeps.stays ancestors puts.version;
        is_members = declares.there;
        chain = chains;
        members = codes;
        in_package = named_now;
        lengths = noted;
        long = length-set i.lengths (length c.name % 64) true ∙ lengths_long;
        sketched = λ r k e none. declares.values r k e ∙ still_zero sketches c.members (suc p) (value_at one i.members k) own_noted r none (above_sketched sketches stay one first r k e none);
        wide = wide;
      }

      pub inherit_next : (then : List Inherited) → length of ≡ p → then ≡ of ++ made ∷ [] → InheritSoFar classes all numbers new more then
      inherit_next then long pushed = record {
        good = declares.keeps.good;
        zero_there = all_keep.stays 0 far.zero_there;
        zeros = λ j. all_keep.same 0 far.zero_there j ∙ far.zeros j;
        named = texts_good;
        each = each;
      }
        where
          each : (q : ℕ) (d : ClassFact) (j : Inherited) → slice_get all q ≡ Some d → slice_get then q ≡ Some j → Inherits classes all numbers new more d j
          each q d j e f = by (q == length of) refl (sym (at_last of made q) ∙ ap (λ xs. slice_get xs q) (sym pushed) ∙ f)
            where
              by : (b : Bool) → (q == length of) ≡ b → cond b (Some made) (slice_get of q) ≡ Some j → Inherits classes all numbers new more d j
              by true g h =
                  let same : q ≡ p = eqb-true q (length of) g ∙ long in
                  let is_it : c ≡ d = some_same (sym at ∙ ap (slice_get all) (sym same) ∙ e) in
                  subst (λ w. Inherits classes all numbers new more w j) is_it (subst (Inherits classes all numbers new more c) (some_same h) inherits_made)
              by false g h = inherits_kept classes all numbers old new all_keep packages more texts d j (far.each q d j e h)

  -- ---- what is inherited, by references

  -- each class above one that has a place has a place
  pub reach_placed : IsHierarchy classes → (p : ℕ) (c : ClassFact) (b : List ℕ) → slice_get all p ≡ Some c → IsSubclass classes c.name b → (q : ℕ) × (d : ClassFact) × (slice_get all q ≡ Some d) × (d.name ≡ b)
  reach_placed h p c b at sub = up c.name b sub p c at refl
    where
      super : (c : ClassFact) (s : List ℕ) → IsOwn classes c → c.superclass ≡ Some s → (x : ClassFact) × (class_of classes s ≡ Some x)
      super c s own e = by (class_of classes s) refl
        where
          by : (o : Option ClassFact) → class_of classes s ≡ o → (x : ClassFact) × (class_of classes s ≡ Some x)
          by None f = absurd (super_there classes h c s own e f)
          by (Some x) f = (x, f)

      up : (a b : List ℕ) → IsSubclassIn (world_of classes) a b → (p : ℕ) (c : ClassFact) → slice_get all p ≡ Some c → c.name ≡ a → (q : ℕ) × (d : ClassFact) × (slice_get all q ≡ Some d) × (d.name ≡ b)
      up a b world.same p c at e = (p, c, at, e)
      up a b (world.above {s = s} f sub) p c at e =
          let own = own_at p c at in
          let is_super : c.superclass ≡ Some s = sym (own_above classes c own) ∙ ap (superclass_in (world_of classes)) e ∙ f in
          let x = super c s own is_super in
          let next = good.order p c x.0 (at_place p c at) (ap (option_and_then (class_of classes)) is_super ∙ x.1) in
          up s b sub next.0 x.0 (ap (λ xs. slice_get xs next.0) is ∙ next.2) (named classes s x.0 x.1)

  -- so has the class with the nearest declaration
  nearest_placed : (r : MemberReference) (name : List ℕ) (d : Declaration) → IsNearest classes r name d → (p : ℕ) (c : ClassFact) → slice_get all p ≡ Some c → c.name ≡ name
      → (q : ℕ) × (slice_get all q ≡ Some d.class) × (declared_by d.class r ≡ Some d.member)
  nearest_placed r name d (here {c = x} f t) p c at e =
      let same : x ≡ c = some_same (sym f ∙ ap (class_of classes) (sym e) ∙ own_at p c at) in
      (p, at ∙ ap (λ w. Some w) (sym same), t)
  nearest_placed r name d (above {s = s} {c = x} f t k n) p c at e =
      let same : x ≡ c = some_same (sym f ∙ ap (class_of classes) (sym e) ∙ own_at p c at) in
      let is_super : c.superclass ≡ Some s = ap (λ (w : ClassFact). w.superclass) (sym same) ∙ k in
      let y = found r s d n in
      let next = good.order p c y.0 (at_place p c at) (ap (option_and_then (class_of classes)) is_super ∙ y.1) in
      nearest_placed r s d n next.0 y.0 (ap (λ xs. slice_get xs next.0) is ∙ next.2) (named classes s y.0 y.1)
    where
      found : (r : MemberReference) (s : List ℕ) (d : Declaration) → IsNearest classes r s d → (y : ClassFact) × (class_of classes s ≡ Some y)
      found r s d (here {c = y} f t) = (y, f)
      found r s d (above {c = y} f t k n) = (y, f)

  -- a member that has no number is protected nowhere
  pub no_number : NumberAll numbered.Protected numbers all → (r : MemberReference) → asked_number numbers r ≡ None → (p : ℕ) (c : ClassFact) → slice_get all p ≡ Some c → IsProtectedAt classes all r c.name None
  no_number all_numbered r none p c at = free (λ d n. free_of d (nearest_placed r c.name d n p c at refl))
    where
      numberless : (o : Option ℕ) → o ≡ None → IsSome o → ⊥
      numberless None e s = false≢true s
      numberless (Some n) e s = none_some (sym e)

      free_of : (d : Declaration) → (q : ℕ) × (slice_get all q ≡ Some d.class) × (declared_by d.class r ≡ Some d.member) → d.member.is_protected ≡ false
      free_of d (q, at, declared) = by d.member.is_protected refl
        where
          m : MemberFact
          m = d.member

          by : (b : Bool) → m.is_protected ≡ b → m.is_protected ≡ false
          by false e = e
          by true e =
              let t = in_list r d.class.members m declared in
              let same = named_is r m t.2 in
              let is_none : member_number numbers m.kind m.name m.descriptor ≡ None =
              (λ i. member_number numbers (sym same.0 i) (sym same.1 i) (sym same.2 i)) ∙ none in
              absurd (numberless (member_number numbers m.kind m.name m.descriptor) is_none (all_numbered q d.class at t.0 m t.1 e))

-- ---- what is guarded

module _ (classes : List ClassFact) (h : IsHierarchy classes) (c : ClassFact) (r : MemberReference) where
  by_parts : (t u v : Bool) → bytes_eq c.name r.class ≡ t → on_chain (world_of classes) (length classes) c.name r.class ≡ u → is_protected_elsewhere c.name (nearest classes r) ≡ v
      → (not t && (u && v)) ≡ is_guarded classes c.name r
  by_parts t u v e f g = sym (rw (e, f, g) refl)

  -- a class does not guard what it asks itself for
  pub own_free : c.name ≡ r.class → false ≡ is_guarded classes c.name r
  own_free e = by_parts true _ _ ((bytes_eq-Decides c.name r.class).1 e) refl refl

  pub apart_free : (IsSubclass classes c.name r.class → ⊥) → false ≡ is_guarded classes c.name r
  apart_free n = by (bytes_eq c.name r.class) refl (on_chain (world_of classes) (length classes) c.name r.class) refl
    where
      by : (t : Bool) → bytes_eq c.name r.class ≡ t → (u : Bool) → on_chain (world_of classes) (length classes) c.name r.class ≡ u → false ≡ is_guarded classes c.name r
      by true e u f = by_parts true _ _ e refl refl
      by false e true f = absurd (n (met_chain (world_of classes) (length classes) c.name r.class f))
      by false e false f = by_parts false false _ e f refl

  pub unprotected_free : ((d : Declaration) → IsNearest classes r r.class d → d.member.is_protected ≡ false) → false ≡ is_guarded classes c.name r
  unprotected_free none = by (bytes_eq c.name r.class) refl (on_chain (world_of classes) (length classes) c.name r.class) refl
    where
      told : (o : Option Declaration) → nearest classes r ≡ o → is_protected_elsewhere c.name o ≡ false
      told None e = refl
      told (Some d) e = ap (λ t. t && is_elsewhere c.name d.class.name) (none d ((computed classes h r d).0 e))

      by : (t : Bool) → bytes_eq c.name r.class ≡ t → (u : Bool) → on_chain (world_of classes) (length classes) c.name r.class ≡ u → false ≡ is_guarded classes c.name r
      by true e u f = by_parts true _ _ e refl refl
      by false e true f = by_parts false true false e f (told (nearest classes r) refl)
      by false e false f = by_parts false false _ e f refl

  pub protected_guards : (b : Bool) (d : Declaration) → (c.name ≡ r.class → ⊥) → IsSubclass classes c.name r.class → IsNearest classes r r.class d → d.member.is_protected ≡ true
      → b ≡ is_elsewhere c.name d.class.name → b ≡ is_guarded classes c.name r
  protected_guards b d n sub near prot e =
      by_parts false true b (differs (bytes_eq c.name r.class) refl) (chain_met classes (length classes) c.name r.class (shorten classes sub))
      (ap (is_protected_elsewhere c.name) ((computed classes h r d).1 near) ∙ ap (λ t. t && is_elsewhere c.name d.class.name) prot ∙ sym e)
    where
      differs : (t : Bool) → bytes_eq c.name r.class ≡ t → bytes_eq c.name r.class ≡ false
      differs true e = absurd (n ((bytes_eq-Decides c.name r.class).0 e))
      differs false e = e

-- packages have one number where they are equal
pub elsewhere_by : (packages : TextNumbers) → AreNumbers packages → (c d : ClassFact) (m n : ℕ) → number_of packages (package_of c.name) ≡ Some m → number_of packages (package_of d.name) ≡ Some n
    → not (n == m) ≡ is_elsewhere c.name d.name
elsewhere_by packages good c d m n e f = ap not (by (n == m) refl (bytes_eq (package_of d.name) (package_of c.name)) refl)
  where
    by : (t : Bool) → (n == m) ≡ t → (u : Bool) → bytes_eq (package_of d.name) (package_of c.name) ≡ u → t ≡ u
    by true g true k = refl
    by false g false k = refl
    by true g false k =
        absurd (false≢true (sym k ∙ (bytes_eq-Decides (package_of d.name) (package_of c.name)).1 (good.one (package_of d.name) (package_of c.name) n f (e ∙ ap (λ x. Some x) (sym (eqb-true n m g))))))
    by false g true k =
        absurd (eqb-false n m g (some_same (sym f ∙ ap (number_of packages) ((bytes_eq-Decides (package_of d.name) (package_of c.name)).0 k) ∙ e)))
