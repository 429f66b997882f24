-- Classes with all that stand above them: a step upward, and one more class put after the others.
use Rattle.std.proofs.Common.{◌≡◌, ◌==◌, ℕ, suc, ◌+◌, ◌-◌, ◌<◌, ◌≤◌, Bool, true, false, cond, List, [], ◌∷◌, ◌++◌, get_or, length, slice_get, take, Option, Some, None, option_map, IsSome, is_some, MatchOption, refl, ap, sym, ◌∙◌, subst, arith}
use Rattle.std.specs.BTreeMap.{BTreeMap, get, is_at}
use Rattle.std.specs.Borrow.{Bor}
use Rattle.std.specs.Cmp.{Equal-is}
use Rattle.std.specs.Option.{option_and_then}
use Rattle.std.specs.Ordering.{is_eq, nat_cmp}
use Rattle.std.specs.Str.{bytes_eq}
use Rattle.std.proofs.lemmas.Bool.{false≢true, eqb-true}
use Rattle.std.proofs.lemmas.Cmp.{nat_cmp_total, tied_itself}
use Rattle.std.proofs.lemmas.List.{length-append, length-map, map-append}
use Rattle.std.proofs.lemmas.Option.{slice_get_within, slice_get-get_or, slice_get-map}
use Rattle.std.proofs.lemmas.Map.Lookups.{exact_unsigned}
use Rattle.std.proofs.lemmas.Slice.Eq.{bytes_eq-Decides}
use Rattle.hierarchy.specs.declared.ancestry.Ancestry.{Ancestry}
use Rattle.hierarchy.specs.declared.summary.Summary.{Summary}
use Rattle.hierarchy.specs.private.Above.{class_above, names_of, upward}
use Rattle.hierarchy.specs.private.Ancestry.{Adds, AreInTurn, Has, HasAny, HavePlace, IsAncestry, IsOwn, KeepClasses, facts_at, first_or, place_among}
use Rattle.hierarchy.specs.Class.{ClassFact, class_of}
use Rattle.hierarchy.specs.Places.{place_in}
use Rattle.hierarchy.specs.Rules.{IsHierarchy}
use Rattle.hierarchy.specs.Summary.{fact_of}
use Rattle.hierarchy.proofs.Guarding.{map_more}
use Rattle.hierarchy.proofs.Guards.{behind, before, at_last}
use Rattle.hierarchy.proofs.Names.{no_place, none_some, some_same}
use Rattle.hierarchy.proofs.PlacesKept.{places_are_names}
use Rattle.hierarchy.proofs.Upward.{found_own, no_more}

-- ---- classes in turn

module _ (classes : List ClassFact) where
  -- one more after the last
  pub turn_more : (cs : List ClassFact) (c : ClassFact) (o : Option ClassFact) → AreInTurn classes cs (Some c) → IsOwn classes c → class_above classes c ≡ o → AreInTurn classes (cs ++ c ∷ []) o
  turn_more [] c o t own e = (own, e, tt)
  turn_more (x ∷ []) c o t own e = (t.0, t.1, (own, e, tt))
  turn_more (x ∷ y ∷ cs) c o t own e = (t.0, t.1, turn_more (y ∷ cs) c o t.2 own e)

  -- one less
  pub turn_less : (cs : List ClassFact) (c : ClassFact) (o : Option ClassFact) → AreInTurn classes (cs ++ c ∷ []) o → IsOwn classes c × (class_above classes c ≡ o) × AreInTurn classes cs (Some c)
  turn_less [] c o t = (t.0, t.1, tt)
  turn_less (x ∷ []) c o t = (t.2.0, t.2.1, (t.0, t.1, tt))
  turn_less (x ∷ y ∷ cs) c o t = let r = turn_less (y ∷ cs) c o t.2 in (r.0, r.1, (t.0, t.1, r.2))

  -- the class above one of the list is one of the list
  pub above_is_own : (c : ClassFact) (d : ClassFact) → class_above classes c ≡ Some d → IsOwn classes d
  above_is_own c d e = by c.superclass e
    where
      by : (o : Option (List ℕ)) → option_and_then (class_of classes) o ≡ Some d → IsOwn classes d
      by None e = absurd (none_some e)
      by (Some s) e = found_own classes s d e

  pub own_or_none : (c : ClassFact) (o : Option ClassFact) → class_above classes c ≡ o → MatchOption o (Unit {0}) (IsOwn classes)
  own_or_none c None e = tt
  own_or_none c (Some d) e = above_is_own c d e

  pub one_class : (c d : ClassFact) → IsOwn classes c → IsOwn classes d → c.name ≡ d.name → c ≡ d
  one_class c d e f same = some_same (sym e ∙ ap (class_of classes) same ∙ f)

-- the first stays the first
pub first_less : (cs : List ClassFact) (c : ClassFact) (o : Option ClassFact) → first_or o (cs ++ c ∷ []) ≡ first_or (Some c) cs
first_less [] c o = refl
first_less (x ∷ cs) c o = refl

-- ---- classes as they are kept

pub facts_more : (kept : List (Bor Summary)) (s : Bor Summary) → facts_at (kept ++ s ∷ []) ≡ facts_at kept ++ fact_of s.now ∷ []
facts_more kept s = map-append (λ (s : Bor Summary). fact_of s.now) kept (s ∷ [])

-- ---- a step upward

module _ (classes : List ClassFact) (h : IsHierarchy classes) (start : ClassFact) (own : IsOwn classes start) where
  abbrev most : ℕ
  most = suc (length classes)

  pub step_up : (kept more : List (Bor Summary)) (s : Bor Summary) (next : Option ClassFact)
      → upward classes most (Some start) ≡ facts_at kept ++ upward classes (most - length kept) (Some (fact_of s.now))
      → more ≡ kept ++ s ∷ [] → next ≡ class_above classes (fact_of s.now)
      → (upward classes most (Some start) ≡ facts_at more ++ upward classes (most - length more) next) × (most - length more < most - length kept)
  step_up kept more s next here pushed is = (here ∙ ap (λ cs. facts_at kept ++ cs) opened ∙ sym closed, omega (arith, many, few))
    where
      many : length more ≡ length kept + 1
      many = ap length pushed ∙ length-append kept (s ∷ [])

      few : length kept ≤ length classes
      few =
          let le = no_more classes h most start own in
          let e = ap length here in
          let l = length-append (facts_at kept) (upward classes (most - length kept) (Some (fact_of s.now))) in
          let m = length-map kept (λ (x : Bor Summary). fact_of x.now) in
          omega (arith, le, e, l, m)

      left : most - length kept ≡ suc (length classes - length kept)
      left = omega (arith, few)

      left_then : length classes - length kept ≡ most - length more
      left_then = omega (arith, many)

      opened : upward classes (most - length kept) (Some (fact_of s.now)) ≡ fact_of s.now ∷ upward classes (most - length more) next
      opened = ap (λ k. upward classes k (Some (fact_of s.now))) left ∙ ap (λ k. fact_of s.now ∷ upward classes k (class_above classes (fact_of s.now))) left_then
          ∙ ap (λ o. fact_of s.now ∷ upward classes (most - length more) o) (sym is)

      each : (xs ys : List ClassFact) (c : ClassFact) → (xs ++ c ∷ []) ++ ys ≡ xs ++ (c ∷ ys)
      each [] ys c = refl
      each (x ∷ xs) ys c = ap (λ zs. x ∷ zs) (each xs ys c)

      closed : facts_at more ++ upward classes (most - length more) next ≡ facts_at kept ++ (fact_of s.now ∷ upward classes (most - length more) next)
      closed = ap (λ xs. facts_at xs ++ upward classes (most - length more) next) pushed ∙ ap (λ xs. xs ++ upward classes (most - length more) next) (facts_more kept s)
          ∙ each (facts_at kept) (upward classes (most - length more) next) (fact_of s.now)

-- ---- places among some classes

-- a class of the list of all has a place there
pub own_place : (classes : List ClassFact) (c : ClassFact) → IsOwn classes c → place_in classes c.name ≡ None → ⊥
own_place classes c own e = none_some (sym (no_place (λ (d : ClassFact). bytes_eq c.name d.name) classes e) ∙ own)

-- one class more gets a place
module _ (classes : List ClassFact) (name : List ℕ) (number place : ℕ) (old new : BTreeMap ℕ ℕ) (at : place_in classes name ≡ Some number)
    (updates : (q : ℕ) → get nat_cmp new q ≡ cond (is_at (nat_cmp number) q) (Some place) (get nat_cmp old q)) where
  pub place_given : (t : List ℕ) → place_among classes new t ≡ cond (bytes_eq name t) (Some place) (place_among classes old t)
  place_given t = by (place_in classes t) refl (bytes_eq name t) refl
    where
      reads : (n : ℕ) (b : Bool) → is_at (nat_cmp number) n ≡ b → get nat_cmp new n ≡ cond b (Some place) (get nat_cmp old n)
      reads n b e = updates n ∙ ap (λ b. cond b (Some place) (get nat_cmp old n)) e

      itself : is_at (nat_cmp number) number ≡ true
      itself = ap is_eq (tied_itself nat_cmp_total number)

      by : (o : Option ℕ) → place_in classes t ≡ o → (b : Bool) → bytes_eq name t ≡ b → option_and_then (get nat_cmp new) o ≡ cond b (Some place) (option_and_then (get nat_cmp old) o)
      by None e true f = absurd (none_some (sym e ∙ ap (place_in classes) (sym ((bytes_eq-Decides name t).0 f)) ∙ at))
      by None e false f = refl
      by (Some n) e true f =
          let same : number ≡ n = some_same (sym at ∙ ap (place_in classes) ((bytes_eq-Decides name t).0 f) ∙ e) in
          reads n true (subst (λ m. is_at (nat_cmp number) m ≡ true) same itself)
      by (Some n) e false f = other (is_at (nat_cmp number) n) refl
        where
          other : (b : Bool) → is_at (nat_cmp number) n ≡ b → get nat_cmp new n ≡ get nat_cmp old n
          other true g = absurd (false≢true (sym f ∙ (bytes_eq-Decides name t).1 (places_are_names classes name t n (at ∙ ap (λ m. Some m) (exact_unsigned number n ((Equal-is (nat_cmp number n)).0 g))) e)))
          other false g = reads n false g

-- ---- one more class

-- where no class stands
pub no_ancestry : (classes : List ClassFact) (a : Ancestry) → a.classes.items ≡ [] → ((n : ℕ) → get nat_cmp a.places n ≡ None) → IsAncestry classes a
no_ancestry classes a e none = record {
  places = record { leads = λ name p h. absurd (nowhere (place_in classes name) p h); exact = λ p c h. absurd (empty p c h) };
  own = λ p c h. absurd (empty p c h);
  order = λ p c d h f. absurd (empty p c h);
}
  where
    empty : (p : ℕ) (c : ClassFact) → slice_get (facts_at a.classes.items) p ≡ Some c → ⊥
    empty p c h = none_some (sym (ap (λ xs. slice_get (facts_at xs) p) e) ∙ h)

    nowhere : (o : Option ℕ) (p : ℕ) → option_and_then (get nat_cmp a.places) o ≡ Some p → ⊥
    nowhere None p h = none_some h
    nowhere (Some n) p h = none_some (sym (none n) ∙ h)

-- a class that has a place
pub placed : (classes : List ClassFact) (a : Ancestry) → IsAncestry classes a → (c : ClassFact) → IsOwn classes c → IsSome (place_among classes a.places c.name) → Has a c
placed classes a good c own some = by (place_among classes a.places c.name) refl some
  where
    by : (o : Option ℕ) → place_among classes a.places c.name ≡ o → IsSome o → Has a c
    by None e s = absurd (false≢true s)
    by (Some p) e s =
        let at = good.places.leads c.name p e in
        (p, at.1 ∙ ap (λ x. Some x) (one_class classes at.0 c (good.own p at.0 at.1) own at.2))

-- a class that has none is put after all others
module _ (classes : List ClassFact) (old new : Ancestry) (s : Bor Summary) (own : IsOwn classes (fact_of s.now)) (none : place_among classes old.places s.now.name.now ≡ None)
    (more : new.classes.items ≡ old.classes.items ++ s ∷ []) (written : (t : List ℕ) → place_among classes new.places t ≡ cond (bytes_eq s.now.name.now t) (Some (length old.classes.items)) (place_among classes old.places t)) where
  abbrev c : ClassFact
  c = fact_of s.now

  abbrev was : List ClassFact
  was = facts_at old.classes.items

  is : facts_at new.classes.items ≡ was ++ c ∷ []
  is = ap facts_at more ∙ facts_more old.classes.items s

  long : length was ≡ length old.classes.items
  long = length-map old.classes.items (λ (s : Bor Summary). fact_of s.now)

  end : slice_get (facts_at new.classes.items) (length old.classes.items) ≡ Some c
  end = ap (λ xs. slice_get xs (length old.classes.items)) is ∙ ap (slice_get (was ++ c ∷ [])) (sym long) ∙ behind was c

  stays : (p : ℕ) (d : ClassFact) → slice_get was p ≡ Some d → slice_get (facts_at new.classes.items) p ≡ Some d
  stays p d e =
      let lt = slice_get_within was p d e in
      ap (λ xs. slice_get xs p) is ∙ before was c p (λ same. absurd (omega (arith, lt, same))) ∙ e

  pub put_behind : Adds classes old new c
  put_behind good above = (record { places = record { leads = leads; exact = exact }; own = owns; order = order }, (length old.classes.items, end), λ d has. (has.0, stays has.0 d has.1))
    where
      leads : (name : List ℕ) (p : ℕ) → place_among classes new.places name ≡ Some p → (d : ClassFact) × (slice_get (facts_at new.classes.items) p ≡ Some d) × (d.name ≡ name)
      leads name p e = by (bytes_eq c.name name) refl (sym (written name) ∙ e)
        where
          by : (b : Bool) → bytes_eq c.name name ≡ b → cond b (Some (length old.classes.items)) (place_among classes old.places name) ≡ Some p → (d : ClassFact) × (slice_get (facts_at new.classes.items) p ≡ Some d) × (d.name ≡ name)
          by true f e = (c, ap (slice_get (facts_at new.classes.items)) (sym (some_same e)) ∙ end, (bytes_eq-Decides c.name name).0 f)
          by false f e = let at = good.places.leads name p e in (at.0, stays p at.0 at.1, at.2)

      -- a class of the new list is the last one, or was there
      split : (p : ℕ) (d : ClassFact) → slice_get (facts_at new.classes.items) p ≡ Some d → (b : Bool) → (p == length was) ≡ b → cond b (Some c) (slice_get was p) ≡ Some d
      split p d e b f = ap (λ t. cond t (Some c) (slice_get was p)) (sym f) ∙ sym (at_last was c p) ∙ sym (ap (λ xs. slice_get xs p) is) ∙ e

      exact : (p : ℕ) (d : ClassFact) → slice_get (facts_at new.classes.items) p ≡ Some d → place_among classes new.places d.name ≡ Some p
      exact p d e = by (p == length was) refl (split p d e (p == length was) refl)
        where
          old_name : (b : Bool) → bytes_eq c.name d.name ≡ b → place_among classes old.places d.name ≡ Some p → cond b (Some (length old.classes.items)) (place_among classes old.places d.name) ≡ Some p
          old_name true f at = absurd (none_some (sym none ∙ ap (place_among classes old.places) ((bytes_eq-Decides c.name d.name).0 f) ∙ at))
          old_name false f at = at

          by : (b : Bool) → (p == length was) ≡ b → cond b (Some c) (slice_get was p) ≡ Some d → place_among classes new.places d.name ≡ Some p
          by true f e =
              written d.name ∙ ap (λ b. cond b (Some (length old.classes.items)) (place_among classes old.places d.name)) ((bytes_eq-Decides c.name d.name).1 (ap (λ (x : ClassFact). x.name) (some_same e)))
              ∙ ap (λ n. Some n) (sym long ∙ sym (eqb-true p (length was) f))
          by false f e = written d.name ∙ old_name (bytes_eq c.name d.name) refl (good.places.exact p d e)

      owns : (p : ℕ) (d : ClassFact) → slice_get (facts_at new.classes.items) p ≡ Some d → IsOwn classes d
      owns p d e = by (p == length was) (split p d e (p == length was) refl)
        where
          by : (b : Bool) → cond b (Some c) (slice_get was p) ≡ Some d → IsOwn classes d
          by true e = subst (IsOwn classes) (some_same e) own
          by false e = good.own p d e

      order : (p : ℕ) (d x : ClassFact) → slice_get (facts_at new.classes.items) p ≡ Some d → class_above classes d ≡ Some x → (q : ℕ) × (q < p) × (slice_get (facts_at new.classes.items) q ≡ Some x)
      order p d x e f = by (p == length was) refl (split p d e (p == length was) refl)
        where
          there : (o : Option ClassFact) → o ≡ Some x → HasAny old o → Has old x
          there None e h = absurd (none_some e)
          there (Some y) e h = (h.0, h.1 ∙ e)

          by : (b : Bool) → (p == length was) ≡ b → cond b (Some c) (slice_get was p) ≡ Some d → (q : ℕ) × (q < p) × (slice_get (facts_at new.classes.items) q ≡ Some x)
          by true g e =
              let at = there (class_above classes c) (ap (class_above classes) (some_same e) ∙ f) above in
              let lt = slice_get_within was at.0 x at.1 in
              let same = eqb-true p (length was) g in
              (at.0, omega (arith, lt, same), stays at.0 x at.1)
          by false g e = let at = good.order p d x e f in (at.0, at.1, stays at.0 x at.2)

-- one name more
pub placed_more : (classes : List ClassFact) (old new : Ancestry) (names : List (Bor (List ℕ))) (i : ℕ) (d : Bor (List ℕ)) → i < length names → KeepClasses old new
    → HavePlace classes old (names_of (take i names)) → ((c : ClassFact) → class_of classes (get_or names i d).now ≡ Some c → Has new c) → HavePlace classes new (names_of (take (i + 1) names))
placed_more classes old new names i d lt kept had here = subst (HavePlace classes new) (sym (map_more (λ (n : Bor (List ℕ)). n.now) names i d lt)) all
  where
    all : HavePlace classes new (names_of (take i names) ++ (get_or names i d).now ∷ [])
    all j name c e f = by (j == length (names_of (take i names))) (sym (at_last (names_of (take i names)) (get_or names i d).now j) ∙ e)
      where
        by : (b : Bool) → cond b (Some (get_or names i d).now) (slice_get (names_of (take i names)) j) ≡ Some name → Has new c
        by true g = here c (ap (class_of classes) (some_same g) ∙ f)
        by false g = kept c (had j name c g f)

-- ---- the class above

-- it has a place, in front of that of the class
pub place_above : (classes : List ClassFact) (a : Ancestry) → IsAncestry classes a → (n : ℕ) (c d : ClassFact) (o : Option ℕ) → slice_get (facts_at a.classes.items) n ≡ Some c
    → class_above classes c ≡ Some d → o ≡ place_among classes a.places d.name → (q : ℕ) × (o ≡ Some q) × (q < n) × (slice_get (facts_at a.classes.items) q ≡ Some d)
place_above classes a good n c d o at up is = let r = good.order n c d at up in (r.0, is ∙ good.places.exact r.0 d r.2, r.1, r.2)

pub none_of : {X : Type 0} (o : Option X) → is_some o ≡ false → o ≡ None
none_of None e = refl
none_of (Some x) e = absurd (false≢true (sym e))

-- a read at a place
pub read_at : {X : Type 0} (xs : List X) (i : ℕ) (x : X) → i < length xs → x ≡ get_or xs i x → slice_get xs i ≡ Some x
read_at xs i x lt is = slice_get-get_or xs i x lt ∙ ap (λ y. Some y) (sym is)

-- the class that is read at a place
pub class_read : (kept : List (Bor Summary)) (p : ℕ) (s : Bor Summary) → p < length kept → s ≡ get_or kept p s → slice_get (facts_at kept) p ≡ Some (fact_of s.now)
class_read kept p s lt is = slice_get-map (λ (s : Bor Summary). fact_of s.now) kept p ∙ ap (option_map (λ (s : Bor Summary). fact_of s.now)) (read_at kept p s lt is)
