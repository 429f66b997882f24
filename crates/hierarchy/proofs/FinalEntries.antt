-- The final methods that a class has and inherits: of one class more, and those of a class that has none.
use Rattle.std.proofs.Common.{◌≡◌, ◌⊎◌, inl, inr, ◌==◌, ◌∙◌, ℕ, Bool, true, false, cond, List, [], ◌∷◌, ◌++◌, length, slice_get, Option, Some, None, IsSome, refl, ap, sym, subst, arith}
use Rattle.std.specs.BTreeMap.{btree_map_len}
use Rattle.std.specs.List.{list_any}
use Rattle.std.specs.Option.{option_and_then}
use Rattle.std.proofs.lemmas.Bool.{cases_eq, eq-eqb, false≢true, ne_eqb}
use Rattle.hierarchy.specs.declared.ancestry.Ancestry.{Ancestry}
use Rattle.hierarchy.specs.declared.final_methods.FinalNumbers.{FinalNumbers}
use Rattle.hierarchy.specs.declared.final_methods.Finals.{Finals}
use Rattle.hierarchy.specs.declared.numbered_members.Numbered.TheVariants as numbered
use Rattle.hierarchy.specs.declared.summary.Overriding.{Overriding}
use Rattle.hierarchy.specs.declared.summary.Overriding.TheVariants.{Final, FinalInPackage}
use Rattle.hierarchy.specs.declared.versions.Put.{Put}
use Rattle.hierarchy.specs.declared.versions.Versions.{Versions}
use Rattle.hierarchy.specs.private.Above.{class_above, number_of}
use Rattle.hierarchy.specs.private.Ancestry.{IsAncestry, IsOwn, facts_at}
use Rattle.hierarchy.specs.private.FinalMethods.{AddsFinals, AreFinalNumbers, AreOnes, DeclaresFinal, FinalSoFar, HasAnyFinals, HasFinal, HasFinals, HasNoFinal, HasPackage, IsFinalFor, Overlays, scope_number, takes_part}
use Rattle.hierarchy.specs.private.Flags.{AreNumbers}
use Rattle.hierarchy.specs.private.MemberNumbers.{asked_number, member_number}
use Rattle.hierarchy.specs.private.NumberedMembers.{is_final}
use Rattle.hierarchy.specs.private.SameSummaries.{same_overriding}
use Rattle.hierarchy.specs.private.Sketches.{HaveSketches, has_sketch}
use Rattle.hierarchy.specs.private.Versions.{AreNamed, AreVersions, IsVersion, PutsNested, Tells, nested_at, value_at}
use Rattle.hierarchy.specs.Class.{ClassFact, class_of, world_of, IsSubclass}
use Rattle.hierarchy.specs.Nearest.{MemberReference, is_named, package_of}
use Rattle.hierarchy.specs.World.{superclass_in, IsSubclassIn}
use Rattle.hierarchy.specs.World as world
use Rattle.hierarchy.proofs.Descent.{chain_at, keep_on}
use Rattle.hierarchy.proofs.Guards.{TextNumbers, at_last, named_is}
use Rattle.hierarchy.proofs.InOrder.{one_class}
use Rattle.hierarchy.proofs.Names.{none_some, some_same}
use Rattle.hierarchy.proofs.Overrides.{both, together}
use Rattle.hierarchy.proofs.Positions.{any_at, at_any}
use Rattle.hierarchy.proofs.SameSummaries.{parts, part_same}
use Rattle.hierarchy.proofs.Subclass.{alone}
use Rattle.hierarchy.proofs.Upward.{named, own_above}

-- ---- declarations

is_final_of : (o : Overriding) (own : List ℕ) (scope : Option (List ℕ)) → IsFinalFor o own scope → is_final o ≡ true
is_final_of o own scope (inl e) = ap is_final e.0
is_final_of o own scope (inr e) = ap is_final e.0

pub none_declared : (c : ClassFact) → HasNoFinal c → (r : MemberReference) (scope : Option (List ℕ)) → DeclaresFinal c r scope → ⊥
none_declared c none r scope (i, f, at, is, how) = false≢true (sym (none i f at) ∙ is_final_of f.overriding (package_of c.name) scope how)

-- a class that has a final method declares it, or the class directly above it has one
module _ (classes : List ClassFact) (c : ClassFact) (own : IsOwn classes c) (r : MemberReference) (scope : Option (List ℕ)) where
  pub split : HasFinal classes c.name r scope → DeclaresFinal c r scope ⊎ ((x : ClassFact) × (class_above classes c ≡ Some x) × HasFinal classes x.name r scope)
  split (d, own_d, sub, declares) = by (chain_at classes c d.name own sub)
    where
      by : (c.name ≡ d.name) ⊎ ((s : List ℕ) × (c.superclass ≡ Some s) × IsSubclass classes s d.name) → DeclaresFinal c r scope ⊎ ((x : ClassFact) × (class_above classes c ≡ Some x) × HasFinal classes x.name r scope)
      by (inl same) = inl (subst (λ (w : ClassFact). DeclaresFinal w r scope) (sym (one_class classes c d own own_d same)) declares)
      by (inr (s, super, up)) = inr (at (class_of classes s) refl)
        where
          at : (o : Option ClassFact) → class_of classes s ≡ o → (x : ClassFact) × (class_above classes c ≡ Some x) × HasFinal classes x.name r scope
          at None g = absurd (none_some (sym g ∙ ap (class_of classes) (alone classes s d.name g up) ∙ own_d))
          at (Some x) g = (x, ap (option_and_then (class_of classes)) super ∙ g, (d, own_d, subst (λ n. IsSubclass classes n d.name) (sym (named classes s x g)) up, declares))

  pub raise : (x : ClassFact) → class_above classes c ≡ Some x → HasFinal classes x.name r scope → HasFinal classes c.name r scope
  raise x g (d, own_d, sub, declares) = (d, own_d, world.above (own_above classes c own ∙ super c.superclass refl g) sub, declares)
    where
      super : (o : Option (List ℕ)) → c.superclass ≡ o → option_and_then (class_of classes) o ≡ Some x → c.superclass ≡ Some x.name
      super None f h = absurd (none_some h)
      super (Some s) f h = f ∙ ap (λ t. Some t) (sym (named classes s x h))

-- ---- numbers

module _ (classes all : List ClassFact) (a : Ancestry) (is : all ≡ facts_at a.classes.items) (good : IsAncestry classes a) where
  at_place : (p : ℕ) (c : ClassFact) → slice_get all p ≡ Some c → slice_get (facts_at a.classes.items) p ≡ Some c
  at_place p c e = ap (λ xs. slice_get xs p) (sym is) ∙ e

  own_at : (p : ℕ) (c : ClassFact) → slice_get all p ≡ Some c → IsOwn classes c
  own_at p c e = good.own p c (at_place p c e)

  -- each class above one that has a place has a place
  pub reach : (d : ClassFact) → IsOwn classes d → (p : ℕ) (c : ClassFact) → slice_get all p ≡ Some c → IsSubclass classes c.name d.name → (q : ℕ) × (slice_get all q ≡ Some d)
  reach d own p c at sub = up c.name d.name sub p c at refl refl
    where
      present : (s y : List ℕ) → IsSubclassIn (world_of classes) s y → d.name ≡ y → (z : ClassFact) × (class_of classes s ≡ Some z)
      present s y sub f = by (class_of classes s) refl
        where
          by : (o : Option ClassFact) → class_of classes s ≡ o → (z : ClassFact) × (class_of classes s ≡ Some z)
          by None g = absurd (none_some (sym g ∙ ap (class_of classes) (alone classes s y g sub ∙ sym f) ∙ own))
          by (Some z) g = (z, g)

      up : (x y : List ℕ) → IsSubclassIn (world_of classes) x y → (p : ℕ) (c : ClassFact) → slice_get all p ≡ Some c → c.name ≡ x → d.name ≡ y → (q : ℕ) × (slice_get all q ≡ Some d)
      up x y world.same p c at e f = (p, at ∙ ap (λ w. Some w) (one_class classes c d (own_at p c at) own (e ∙ sym f)))
      up x y (world.above {s = s} g sub) p c at e f =
          let is_super : c.superclass ≡ Some s = sym (own_above classes c (own_at p c at)) ∙ ap (superclass_in (world_of classes)) e ∙ g in
          let z = present s y sub f in
          let next = good.order p c z.0 (at_place p c at) (ap (option_and_then (class_of classes)) is_super ∙ z.1) in
          up s y sub next.0 z.0 (ap (λ xs. slice_get xs next.0) is ∙ next.2) (named classes s z.0 z.1) f

  -- where no class has a final method none inherits one
  pub none_inherited : ((p : ℕ) (c : ClassFact) → slice_get all p ≡ Some c → HasNoFinal c) → (p : ℕ) (c : ClassFact) → slice_get all p ≡ Some c → (r : MemberReference) (scope : Option (List ℕ)) → HasFinal classes c.name r scope → ⊥
  none_inherited none p c at r scope (d, own_d, sub, declares) = let q = reach d own_d p c at sub in none_declared d (none q.0 d q.1) r scope declares

  module _ (numbers : FinalNumbers) (have : AreFinalNumbers all numbers) where
    -- each final method that a class has or inherits has a number, and so has its package
    numbered_at : (p : ℕ) (c : ClassFact) → slice_get all p ≡ Some c → (r : MemberReference) (scope : Option (List ℕ)) → HasFinal classes c.name r scope
        → IsSome (asked_number numbers.members r) × IsSome (scope_number numbers.packages scope)
    numbered_at p c at r scope (d, own_d, sub, (i, f, at_f, is_r, how)) = (
      subst IsSome (λ j. member_number numbers.members (sym same.0 j) (sym same.1 j) (sym same.2 j)) (have.numbered q.0 d q.1 i f at_f (is_final_of f.overriding (package_of d.name) scope how)),
      scoped scope how,
    )
      where
        q : (q : ℕ) × (slice_get all q ≡ Some d)
        q = reach d own_d p c at sub

        same : (r.kind ≡ f.kind) × (r.name ≡ f.name) × (r.descriptor ≡ f.descriptor)
        same = named_is r f is_r

        scoped : (scope : Option (List ℕ)) → IsFinalFor f.overriding (package_of d.name) scope → IsSome (scope_number numbers.packages scope)
        scoped None how = refl
        scoped (Some own) (inl e) = absurd (none_some (sym e.1))
        scoped (Some own) (inr e) = subst (λ n. IsSome (number_of numbers.packages n)) (sym (some_same e.1)) (by (have.packaged q.0 d q.1))
          where
            by : HasNoFinal d ⊎ IsSome (number_of numbers.packages (package_of d.name)) → IsSome (number_of numbers.packages (package_of d.name))
            by (inl none) = absurd (false≢true (sym (none i f at_f) ∙ ap is_final e.0))
            by (inr some) = some

    -- ---- the next class

    module _ (p : ℕ) (c : ClassFact) (at : slice_get all p ≡ Some c) (old : Versions) (of : List Finals) (far : FinalSoFar classes numbers old all of) (above : Finals)
        (from : HasAnyFinals classes numbers old (class_above classes c) above) where
      own : IsOwn classes c
      own = own_at p c at

      -- the versions of the class above are there
      pub scopes_there : IsVersion old above.scopes
      scopes_there = by (class_above classes c) from
        where
          by : (o : Option ClassFact) → HasAnyFinals classes numbers old o above → IsVersion old above.scopes
          by None x = subst (IsVersion old) (sym x.0) far.zero_there
          by (Some y) x = x.version

      pub scopes_named : AreNamed old above.scopes
      scopes_named = by (class_above classes c) from
        where
          by : (o : Option ClassFact) → HasAnyFinals classes numbers old o above → AreNamed old above.scopes
          by None x = λ q. subst (IsVersion old) (sym (ap (λ v. value_at old v q) x.0 ∙ far.zeros q)) far.zero_there
          by (Some y) x = x.named

      module _ (new : Versions) (made : Finals) (adds : AddsFinals numbers old new above c made) where
        tell : (r : MemberReference) (k : ℕ) (scope : Option (List ℕ)) (q : ℕ) → asked_number numbers.members r ≡ Some k → scope_number numbers.packages scope ≡ Some q
            → Tells (HasFinal classes c.name r scope) (nested_at new made.scopes q k)
        tell r k scope q e f = by (adds.values r k scope q e f)
          where
            P : Type 0
            P = HasFinal classes c.name r scope

            unless : (DeclaresFinal c r scope → ⊥) → ((x : ClassFact) → class_above classes c ≡ Some x → HasFinal classes x.name r scope → ⊥) → P → ⊥
            unless mine none h = out (split classes c own r scope h)
              where
                out : DeclaresFinal c r scope ⊎ ((x : ClassFact) × (class_above classes c ≡ Some x) × HasFinal classes x.name r scope) → ⊥
                out (inl declares) = mine declares
                out (inr (x, g, h)) = none x g h

            from_above : (DeclaresFinal c r scope → ⊥) → (o : Option ClassFact) → class_above classes c ≡ o → HasAnyFinals classes numbers old o above → Tells P (nested_at old above.scopes q k)
            from_above mine None g x = inl (
              ap (λ v. value_at old (value_at old v q) k) x.0 ∙ ap (λ v. value_at old v k) (far.zeros q) ∙ far.zeros k,
              unless mine (λ y h. absurd (none_some (sym g ∙ h))),
            )
            from_above mine (Some y) g x = out (x.tells r k scope q e f)
              where
                out : Tells (HasFinal classes y.name r scope) (nested_at old above.scopes q k) → Tells P (nested_at old above.scopes q k)
                out (inl (z, none)) = inl (z, unless mine (λ w h i. none (subst (λ (v : ClassFact). HasFinal classes v.name r scope) (some_same (sym h ∙ g)) i)))
                out (inr (some, has)) = inr (some, raise classes c own r scope y g has)

            by : Overlays (DeclaresFinal c r scope) (nested_at old above.scopes q k) (nested_at new made.scopes q k) → Tells P (nested_at new made.scopes q k)
            by (inl (declares, one)) = inr (λ z. absurd (omega (arith, z, one)), (c, own, world.same, declares))
            by (inr (mine, same)) = subst (Tells P) (sym same) (from_above mine (class_above classes c) refl from)

        sketch_of : (r : MemberReference) (scope : Option (List ℕ)) → HasFinal classes c.name r scope → has_sketch made.sketches r.name ≡ true
        sketch_of r scope h = by (split classes c own r scope h)
          where
            up : (o : Option ClassFact) (x : ClassFact) → o ≡ Some x → HasAnyFinals classes numbers old o above → HasFinal classes x.name r scope → has_sketch above.sketches r.name ≡ true
            up None x g y h = absurd (none_some g)
            up (Some z) x g y h = y.sketched r scope (subst (λ (v : ClassFact). HasFinal classes v.name r scope) (sym (some_same g)) h)

            by : DeclaresFinal c r scope ⊎ ((x : ClassFact) × (class_above classes c ≡ Some x) × HasFinal classes x.name r scope) → has_sketch made.sketches r.name ≡ true
            by (inl (i, f, at_f, is_r, how)) = ap (has_sketch made.sketches) (named_is r f is_r).1 ∙ adds.noted i f at_f (is_final_of f.overriding (package_of c.name) scope how)
            by (inr (x, g, h)) = adds.kept r.name (up (class_above classes c) x g from h)

        made_has : HasFinals classes numbers new c made
        made_has = record {
          version = adds.version;
          named = adds.named;
          tells = tell;
          numbered = numbered_at p c at;
          sketched = sketch_of;
          long = adds.long;
        }

        had : (d : ClassFact) (f : Finals) → HasFinals classes numbers old d f → HasFinals classes numbers new d f
        had d f x = record {
          version = adds.keeps.stays f.scopes x.version;
          named = λ q. subst (IsVersion new) (sym (adds.keeps.same f.scopes x.version q)) (adds.keeps.stays _ (x.named q));
          tells = λ r k scope q e g. subst (Tells (HasFinal classes d.name r scope))
              (sym (ap (λ v. value_at new v k) (adds.keeps.same f.scopes x.version q) ∙ adds.keeps.same (value_at old f.scopes q) (x.named q) k))
              (x.tells r k scope q e g);
          numbered = x.numbered;
          sketched = x.sketched;
          long = x.long;
        }

        pub finals_next : (then : List Finals) → length of ≡ p → then ≡ of ++ made ∷ [] → FinalSoFar classes numbers new all then
        finals_next then long pushed = record {
          good = adds.keeps.good;
          zero_there = adds.keeps.stays 0 far.zero_there;
          zeros = λ j. adds.keeps.same 0 far.zero_there j ∙ far.zeros j;
          each = each;
        }
          where
            each : (q : ℕ) (d : ClassFact) (f : Finals) → slice_get all q ≡ Some d → slice_get then q ≡ Some f → HasFinals classes numbers new d f
            each q d f e g = by (cases_eq q (length of)) (sym (at_last of made q) ∙ ap (λ xs. slice_get xs q) (sym pushed) ∙ g)
              where
                by : (q ≡ length of) ⊎ (q ≡ length of → ⊥) → cond (q == length of) (Some made) (slice_get of q) ≡ Some f → HasFinals classes numbers new d f
                by (inl same) h =
                    let is_c : c ≡ d = some_same (sym at ∙ ap (slice_get all) (sym (same ∙ long)) ∙ e) in
                    let is_f : made ≡ f = some_same (ap (λ b. cond b (Some made) (slice_get of q)) (sym (eq-eqb q (length of) same)) ∙ h) in
                    subst (λ (w : ClassFact). HasFinals classes numbers new w f) is_c (subst (HasFinals classes numbers new c) is_f made_has)
                by (inr apart) h = had d f (far.each q d f e (ap (λ b. cond b (Some made) (slice_get of q)) (sym (ne_eqb q (length of) apart)) ∙ h))

-- ---- the entry of a class

-- a class has no final method where its package has no number
pub not_final : (packages : TextNumbers) (c : ClassFact) → number_of packages (package_of c.name) ≡ None → HasPackage packages c → HasNoFinal c
not_final packages c e (inl none) = none
not_final packages c e (inr some) = absurd (by (number_of packages (package_of c.name)) e some)
  where
    by : (o : Option ℕ) → o ≡ None → IsSome o → ⊥
    by None e s = false≢true s
    by (Some n) e s = none_some (sym e)

-- where no package has a number no class has one
pub none_final : (packages : TextNumbers) → AreNumbers packages → btree_map_len packages ≡ 0 → (c : ClassFact) → HasPackage packages c → HasNoFinal c
none_final packages good none c = not_final packages c (by (number_of packages (package_of c.name)) refl)
  where
    by : (o : Option ℕ) → number_of packages (package_of c.name) ≡ o → number_of packages (package_of c.name) ≡ None
    by None e = e
    by (Some n) e = let lt = good.below (package_of c.name) n e in absurd (omega (arith, lt, none))

-- a class that has no final method has what it inherits
pub adds_nothing : (numbers : FinalNumbers) (vs : Versions) (above : Finals) (c : ClassFact) → AreVersions vs → IsVersion vs above.scopes → AreNamed vs above.scopes → length above.sketches ≡ 256 → HasNoFinal c
    → AddsFinals numbers vs vs above c above
adds_nothing numbers vs above c good there named long none = record {
  keeps = record { good = good; stays = λ v e. e; same = λ v e j. refl };
  version = there;
  named = named;
  values = λ r k scope q e f. inr (none_declared c none r scope, refl);
  kept = λ name e. e;
  noted = λ i m at e. absurd (false≢true (sym (none i m at) ∙ e));
  long = long;
}

module _ (numbers : FinalNumbers) (packages : AreNumbers numbers.packages) (c : ClassFact) (own : ℕ) (is_own : number_of numbers.packages (package_of c.name) ≡ Some own) where
  declared : (r : MemberReference) (o : Overriding) (scope : Option (List ℕ)) → ((x : Overriding) → x ≡ o → IsFinalFor x (package_of c.name) scope) → list_any (takes_part o r) c.members ≡ true → DeclaresFinal c r scope
  declared r o scope how e =
      let t = any_at (takes_part o r) c.members e in
      let u = both (same_overriding t.1.overriding o) (is_named r t.1) t.3 in
      (t.0, t.1, t.2, u.1, how t.1.overriding (parts t.1.overriding o u.0))

  undeclared : (r : MemberReference) (o : Overriding) (scope : Option (List ℕ)) → ((x : Overriding) → IsFinalFor x (package_of c.name) scope → x ≡ o) → list_any (takes_part o r) c.members ≡ false → DeclaresFinal c r scope → ⊥
  undeclared r o scope only e (i, f, at, is, how) =
      false≢true (sym e ∙ at_any (takes_part o r) c.members i f at (together (same_overriding f.overriding o) (is_named r f) (ap (λ x. same_overriding x o) (only f.overriding how) ∙ part_same o) is))

  overlaid : (r : MemberReference) (o : Overriding) (scope : Option (List ℕ)) → ((x : Overriding) → x ≡ o → IsFinalFor x (package_of c.name) scope) → ((x : Overriding) → IsFinalFor x (package_of c.name) scope → x ≡ o)
      → (was is : ℕ) → is ≡ cond (list_any (takes_part o r) c.members) 1 was → Overlays (DeclaresFinal c r scope) was is
  overlaid r o scope how only was is e = by (list_any (takes_part o r) c.members) refl
    where
      by : (b : Bool) → list_any (takes_part o r) c.members ≡ b → Overlays (DeclaresFinal c r scope) was is
      by true f = inl (declared r o scope how f, e ∙ ap (λ b. cond b 1 was) f)
      by false f = inr (undeclared r o scope only f, e ∙ ap (λ b. cond b 1 was) f)

  everywhere : (x : Overriding) → IsFinalFor x (package_of c.name) None → x ≡ Final
  everywhere x (inl e) = e.0
  everywhere x (inr e) = absurd (none_some e.1)

  inside : (x : Overriding) (name : List ℕ) → IsFinalFor x (package_of c.name) (Some name) → x ≡ FinalInPackage
  inside x name (inl e) = absurd (none_some (sym e.1))
  inside x name (inr e) = e.0

  module _ (old mid new : Versions) (above : Finals) (first second all : ℕ) (is_all : all ≡ btree_map_len numbers.packages) (ps qs : List Put) (ones : AreOnes numbers.members c.members Final ps)
      (ones_too : AreOnes numbers.members c.members FinalInPackage qs) (puts : PutsNested old mid above.scopes all ps first) (puts_too : PutsNested mid new first own qs second) where
    -- no package has the number that stands for all classes
    apart_from : (n : ℕ) (name : List ℕ) → number_of numbers.packages name ≡ Some n → n ≡ all → ⊥
    apart_from n name e f = let lt = packages.below name n e in absurd (omega (arith, lt, f, is_all))

    overlay : (r : MemberReference) (k : ℕ) (scope : Option (List ℕ)) (q : ℕ) → asked_number numbers.members r ≡ Some k → scope_number numbers.packages scope ≡ Some q
        → Overlays (DeclaresFinal c r scope) (nested_at old above.scopes q k) (nested_at new second q k)
    overlay r k None q e f =
        subst (λ q. Overlays (DeclaresFinal c r None) (nested_at old above.scopes q k) (nested_at new second q k)) (is_all ∙ some_same f)
        (overlaid r Final None (λ x e. inl (e, refl)) everywhere (nested_at old above.scopes all k) (nested_at new second all k)
        (puts_too.others all (λ e. apart_from own (package_of c.name) is_own (sym e)) k ∙ puts.here k ∙ ones r k (nested_at old above.scopes all k) e))
    overlay r k (Some name) q e f = by (cases_eq q own)
      where
        by : (q ≡ own) ⊎ (q ≡ own → ⊥) → Overlays (DeclaresFinal c r (Some name)) (nested_at old above.scopes q k) (nested_at new second q k)
        by (inl same) =
            let is_name : name ≡ package_of c.name = packages.one name (package_of c.name) q f (is_own ∙ ap (λ m. Some m) (sym same)) in
            subst (λ q. Overlays (DeclaresFinal c r (Some name)) (nested_at old above.scopes q k) (nested_at new second q k)) (sym same)
            (overlaid r FinalInPackage (Some name) (λ x e. inr (e, ap (λ m. Some m) is_name)) (λ x h. inside x name h) (nested_at old above.scopes own k) (nested_at new second own k)
            (puts_too.here k ∙ ones_too r k (nested_at mid first own k) e ∙ ap (cond (list_any (takes_part FinalInPackage r) c.members) 1) (puts.others own (apart_from own (package_of c.name) is_own) k)))
        by (inr apart) = inr (elsewhere, puts_too.others q apart k ∙ puts.others q (apart_from q name f) k)
          where
            elsewhere : DeclaresFinal c r (Some name) → ⊥
            elsewhere (i, g, at, is, inl h) = none_some (sym h.1)
            elsewhere (i, g, at, is, inr h) = apart (some_same (sym f ∙ ap (number_of numbers.packages) (some_same h.1) ∙ is_own))

    pub adds_ones : (sketches : List Bool) → length sketches ≡ 256
        → ((name : List ℕ) → has_sketch above.sketches name ≡ true → has_sketch sketches name ≡ true)
        → HaveSketches numbered.Final sketches c.members → AddsFinals numbers old new above c (record { scopes = second; sketches = sketches })
    adds_ones sketches long kept noted = record {
      keeps = keep_on old mid new puts.keeps puts_too.keeps;
      version = puts_too.version;
      named = puts_too.named;
      values = overlay;
      kept = kept;
      noted = noted;
      long = long;
    }
