-- A method overrides a final one exactly where a chain of superclasses leads to a class that declares one which it may
-- not override.
use Rattle.std.proofs.Common.{◌≡◌, ◌↔◌, ◌⊎◌, inl, inr, ◌&&◌, ◌∙◌, ℕ, Bool, true, false, List, length, Option, Some, None, refl, ap, sym, subst}
use Rattle.std.specs.List.{filter}
use Rattle.std.specs.Option.{option_map_or}
use Rattle.std.proofs.lemmas.Bool.{false≢true}
use Rattle.std.proofs.lemmas.Slice.Eq.{bytes_eq-Decides}
use Rattle.hierarchy.specs.declared.summary.Kind.TheVariants.{Method}
use Rattle.hierarchy.specs.declared.summary.Overriding.{Overriding}
use Rattle.hierarchy.specs.declared.summary.Overriding.TheVariants.{Apart, Open, FinalInPackage, Final}
use Rattle.hierarchy.specs.private.FinalMethods.{HasFinal, IsFinalAbove, IsFinalFor, asked_as}
use Rattle.hierarchy.specs.Answer.{on_chain}
use Rattle.hierarchy.specs.Class.{MemberFact, ClassFact, world_of, IsSubclass}
use Rattle.hierarchy.specs.Nearest.{is_kind, is_named, package_of}
use Rattle.hierarchy.specs.Overrides.{OverridesFinal, forbids, is_closed, is_forbidden_from, is_same_member, may_override, overrides_final}
use Rattle.hierarchy.specs.Rules.{IsHierarchy}
use Rattle.hierarchy.proofs.Ancestors.{own_class}
use Rattle.hierarchy.proofs.Chain.{shorten}
use Rattle.hierarchy.proofs.Guards.{is_named_by, named_is}
use Rattle.hierarchy.proofs.Names.{found_class, none_some, some_same}
use Rattle.hierarchy.proofs.Positions.{any_at, at_any}
use Rattle.hierarchy.proofs.Subclass.{chain_met, met_chain}

pub both : (a b : Bool) → a && b ≡ true → (a ≡ true) × (b ≡ true)
both true b e = (refl, e)
both false b e = absurd (false≢true e)

pub together : (a b : Bool) → a ≡ true → b ≡ true → a && b ≡ true
together a b e f = rw (e, f) refl

-- ---- parts in overriding

takes : (o : Overriding) → may_override o ≡ true → o ≡ Apart → ⊥
takes o e f = false≢true (sym (ap may_override f) ∙ e)

pub may : (o : Overriding) → (o ≡ Apart → ⊥) → may_override o ≡ true
may Apart n = absurd (n refl)
may Open n = refl
may FinalInPackage n = refl
may Final n = refl

closes : (o : Overriding) (own other : List ℕ) → is_closed o own other ≡ true → (o ≡ Final) ⊎ ((o ≡ FinalInPackage) × (own ≡ other))
closes Apart own other e = absurd (false≢true e)
closes Open own other e = absurd (false≢true e)
closes FinalInPackage own other e = inr (refl, (bytes_eq-Decides own other).0 e)
closes Final own other e = inl refl

is_closed_by : (o : Overriding) (own other : List ℕ) → (o ≡ Final) ⊎ ((o ≡ FinalInPackage) × (own ≡ other)) → is_closed o own other ≡ true
is_closed_by o own other (inl e) = ap (λ p. is_closed p own other) e
is_closed_by o own other (inr (e, f)) = ap (λ p. is_closed p own other) e ∙ (bytes_eq-Decides own other).1 f

-- ---- the word and what it stands for

module _ (classes : List ClassFact) (c : ClassFact) (m : MemberFact) where
  abbrev own : List ℕ
  own = package_of c.name

  pub computed_is : IsHierarchy classes → overrides_final classes c m ≡ true → OverridesFinal classes c m
  computed_is h e = by c.superclass refl (both (may_override m.overriding) _ e).1
    where
      by : (o : Option (List ℕ)) → c.superclass ≡ o → option_map_or (is_forbidden_from classes own m) o false ≡ true → OverridesFinal classes c m
      by None g f = absurd (false≢true f)
      by (Some s) g f =
          let at = any_at (λ d. on_chain (world_of classes) (length classes) s d.name && forbids d own m) classes f in
          let d = at.1 in
          let t = both (on_chain (world_of classes) (length classes) s d.name) (forbids d own m) at.3 in
          let there = any_at (λ f. is_closed f.overriding (package_of d.name) own && is_same_member m f) d.members t.1 in
          let u = both (is_closed there.1.overriding (package_of d.name) own) (is_same_member m there.1) there.3 in
          let same = named_is (asked_as m) there.1 u.1 in
          record {
            superclass = s;
            other = d;
            place = there.0;
            final = there.1;
            takes_part = takes m.overriding (both (may_override m.overriding) _ e).0;
            directly = g;
            above = met_chain (world_of classes) (length classes) s d.name t.0;
            own = own_class classes h.one_each at.0 d at.2;
            declared = there.2;
            same = (sym same.0, sym same.1, sym same.2);
            closed = closes there.1.overriding (package_of d.name) own u.0;
          }

  pub is_computed : OverridesFinal classes c m → overrides_final classes c m ≡ true
  is_computed x = together (may_override m.overriding) _ (may m.overriding x.takes_part) (ap (λ o. option_map_or (is_forbidden_from classes own m) o false) x.directly ∙ forbidden)
    where
      d : ClassFact
      d = x.other

      forbid : forbids d own m ≡ true
      forbid =
          at_any (λ f. is_closed f.overriding (package_of d.name) own && is_same_member m f) d.members x.place x.final x.declared
          (together (is_closed x.final.overriding (package_of d.name) own) (is_same_member m x.final) (is_closed_by x.final.overriding (package_of d.name) own x.closed)
          (is_named_by (asked_as m) x.final (sym x.same.0) (sym x.same.1) (sym x.same.2)))

      forbidden : is_forbidden_from classes own m x.superclass ≡ true
      forbidden =
          let at = found_class classes d.name d x.own in
          at_any (λ d. on_chain (world_of classes) (length classes) x.superclass d.name && forbids d own m) classes at.0 d at.2
          (together (on_chain (world_of classes) (length classes) x.superclass d.name) (forbids d own m) (chain_met classes (length classes) x.superclass d.name (shorten classes x.above)) forbid)

  -- ---- by the class above

  module _ (s : List ℕ) (super : c.superclass ≡ Some s) where
    pub final_above : OverridesFinal classes c m → IsFinalAbove classes s own m
    final_above x = (may m.overriding x.takes_part, by x.closed)
      where
        d : ClassFact
        d = x.other

        sub : IsSubclass classes s d.name
        sub = subst (λ n. IsSubclass classes n d.name) (some_same (sym x.directly ∙ super)) x.above

        is : is_named (asked_as m) x.final ≡ true
        is = is_named_by (asked_as m) x.final (sym x.same.0) (sym x.same.1) (sym x.same.2)

        by : (x.final.overriding ≡ Final) ⊎ ((x.final.overriding ≡ FinalInPackage) × (package_of d.name ≡ own)) → HasFinal classes s (asked_as m) None ⊎ HasFinal classes s (asked_as m) (Some own)
        by (inl e) = inl (d, x.own, sub, (x.place, x.final, x.declared, is, inl (e, refl)))
        by (inr e) = inr (d, x.own, sub, (x.place, x.final, x.declared, is, inr (e.0, ap (λ n. Some n) (sym e.1))))

    pub above_final : IsFinalAbove classes s own m → OverridesFinal classes c m
    above_final (t, x) = by x
      where
        by : HasFinal classes s (asked_as m) None ⊎ HasFinal classes s (asked_as m) (Some own) → OverridesFinal classes c m
        by (inl (d, is_own, sub, (i, f, at, is, how))) =
            let same = named_is (asked_as m) f is in
            record {
              superclass = s;
              other = d;
              place = i;
              final = f;
              takes_part = takes m.overriding t;
              directly = super;
              above = sub;
              own = is_own;
              declared = at;
              same = (sym same.0, sym same.1, sym same.2);
              closed = everywhere how;
            }
          where
            everywhere : IsFinalFor f.overriding (package_of d.name) None → (f.overriding ≡ Final) ⊎ ((f.overriding ≡ FinalInPackage) × (package_of d.name ≡ own))
            everywhere (inl e) = inl e.0
            everywhere (inr e) = absurd (none_some e.1)
        by (inr (d, is_own, sub, (i, f, at, is, how))) =
            let same = named_is (asked_as m) f is in
            record {
              superclass = s;
              other = d;
              place = i;
              final = f;
              takes_part = takes m.overriding t;
              directly = super;
              above = sub;
              own = is_own;
              declared = at;
              same = (sym same.0, sym same.1, sym same.2);
              closed = in_package how;
            }
          where
            in_package : IsFinalFor f.overriding (package_of d.name) (Some own) → (f.overriding ≡ Final) ⊎ ((f.overriding ≡ FinalInPackage) × (package_of d.name ≡ own))
            in_package (inl e) = absurd (none_some (sym e.1))
            in_package (inr e) = inr (e.0, sym (some_same e.1))

    -- the answer of the word, from one about the class above
    pub told : IsHierarchy classes → (b : Bool) → (b ≡ true → IsFinalAbove classes s own m) × (IsFinalAbove classes s own m → b ≡ true) → overrides_final classes c m ≡ b
    told h true is = is_computed (above_final (is.0 refl))
    told h false is = by (overrides_final classes c m) refl
      where
        by : (t : Bool) → overrides_final classes c m ≡ t → t ≡ false
        by false e = refl
        by true e = sym (is.1 (final_above (computed_is h e)))

pub computes : (classes : List ClassFact) → IsHierarchy classes → (c : ClassFact) (m : MemberFact) → (overrides_final classes c m ≡ true) ↔ OverridesFinal classes c m
computes classes h c m = (computed_is classes c m h, is_computed classes c m)

-- the methods among members
abbrev pub methods_among : List MemberFact → List MemberFact
methods_among ms = filter (λ m. is_kind m.kind Method) ms
