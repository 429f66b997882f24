-- Objects by their addresses.
use Rattle.std.specs.Prelude.{cond, IfSome, All}
use Rattle.std.proofs.Common.{◌≡◌, ℕ, ◌+◌, ◌-◌, ◌<◌, zero, suc, nat_eq, List, ◌∷◌, length, get_or, drop, Bool, true, false, Option, Some, None, option_map, refl, sym, ◌∙◌, ap, subst, arith, if◌then◌else◌}
use Rattle.std.specs.Option.{is_some}
use Rattle.std.specs.BTreeMap.{BTreeMap, get, is_at, values, IsOrdered}
use Rattle.std.specs.Cmp.{eq_by_cmp_equiv}
use Rattle.std.proofs.lemmas.Cmp.{nat_cmp_total}
use Rattle.std.proofs.lemmas.Map.Views.{IfSome-lookup_from_All, All-values_from_lookup}
use Rattle.std.proofs.lemmas.Map.Keys.{IsDistinct-from_sorted}
use Rattle.std.proofs.lemmas.Map.Lookups.{exact_unsigned}
use Rattle.std.proofs.lemmas.Map.Views.{btree_map_get_iff}
use Rattle.std.proofs.lemmas.List.Elements.{All-contains, All-contains_itself, All-weaker}
use Rattle.std.specs.List.{Contains}
use Rattle.std.specs.Ordering.{nat_cmp, is_eq}
use Rattle.std.proofs.Math.Path.{fun_ext}
use Rattle.std.proofs.lemmas.List.{drop_more}
use Rattle.std.proofs.lemmas.Bool.Decides.{nat_tests}
use Rattle.names.specs.declared.base.Base.{Base}
use Rattle.names.specs.declared.base.Base.TheVariants as bases
use Rattle.names.specs.Descriptors.{dimensions, dimensioned, base_of}
use Rattle.names.specs.ReferenceTypes.{ReferenceType}
use Rattle.machine.specs.declared.objects.RunType.{RunType}
use Rattle.machine.specs.declared.objects.RunType.TheVariants as types
use Rattle.machine.specs.declared.objects.Object.{Object as RawObject}
use Rattle.machine.specs.Heap.{Status, ready, made, this, Object, object, Heap, IsAddress, IsRunTimeType, IsFresh, with_fresh, with_object, HasNoThis}
use Rattle.machine.specs.private.Beginnings.{HasStatus, MayBe, AreObjects}
use Rattle.machine.specs.private.Decided.{is_own, is_this}
use Rattle.machine.specs.Views.{heap_view, object_view, run_type_view, fresh_view}

-- ---- an own object

not_own : (s : Status) → is_own s ≡ false → s ≡ this → ⊥
not_own this e f = cc
not_own ready e f = cc
not_own made e f = cc

own_or_not : (s : Status) → (s ≡ this → ⊥) → is_own s ≡ false
own_or_not this n = absurd (n refl)
own_or_not ready n = refl
own_or_not made n = refl

other_here : (o : Option RawObject) (x : ReferenceType) → IfSome o (λ o. is_this (object_view o) ≡ false) → option_map object_view o ≡ Some (object x this) → ⊥
other_here None x p e = cc
other_here (Some o) x p e =
    let same : object_view o ≡ object x this = cc in
    not_own (object_view o).status p (ap (λ (z : Object). z.status) same)

none_here : (o : Option RawObject) → ((x : ReferenceType) → option_map object_view o ≡ Some (object x this) → ⊥) → IfSome o (λ o. is_this (object_view o) ≡ false)
none_here None n = tt
none_here (Some o) n = own_or_not (object_view o).status (λ e. n (object_view o).type (ap (λ s. Some (object (object_view o).type s)) e))

module _ (objects : BTreeMap ℕ RawObject) where
  pub no_this : All (λ o. is_this (object_view o) ≡ false) (values objects) → HasNoThis (heap_view objects)
  no_this others a x e = other_here (get nat_cmp objects a) x (IfSome-lookup_from_All (λ o. is_this (object_view o) ≡ false) (is_at (nat_cmp a)) objects.entries others) e

  pub this_none : IsOrdered nat_cmp objects → HasNoThis (heap_view objects) → All (λ o. is_this (object_view o) ≡ false) (values objects)
  this_none ordered none = All-values_from_lookup (eq_by_cmp_equiv nat_cmp_total) (λ o. is_this (object_view o) ≡ false) objects.entries (IsDistinct-from_sorted nat_cmp _ ordered) (λ q. none_here (get nat_cmp objects q) (none q))

-- ---- objects when a method begins

module _ (objects : BTreeMap ℕ RawObject) (own : Option ℕ) (ordered : IsOrdered nat_cmp objects) where
  abbrev Fine : ℕ × RawObject → Type 0
  Fine e = MayBe own e.0 (object_view e.1)

  found_object : (a : ℕ) (o : Object) → heap_view objects a ≡ Some o → (r : RawObject) × (get nat_cmp objects a ≡ Some r) × (object_view r ≡ o)
  found_object a o e = by (get nat_cmp objects a) refl e
    where
      by : (g : Option RawObject) → get nat_cmp objects a ≡ g → option_map object_view g ≡ Some o → (r : RawObject) × (get nat_cmp objects a ≡ Some r) × (object_view r ≡ o)
      by None p q = absurd cc
      by (Some r) p q = (r, p, cc)

  one_fine : All Fine objects.entries → (a : ℕ) (o : Object) → heap_view objects a ≡ Some o → MayBe own a o
  one_fine all a o e =
      let f = found_object a o e in
      subst (MayBe own a) f.2 (All-contains Fine objects.entries (a, f.0) all ((btree_map_get_iff nat_cmp_total exact_unsigned objects ordered a f.0).0 f.1))

  pub objects_are : All Fine objects.entries → AreObjects own (heap_view objects)
  objects_are all = record {
    objects = λ a o e. let f = one_fine all a o e in (f.0, f.1);
    none_made = λ a x e. (one_fine all a (object x made) e).2;
    only_own = λ a x e. (one_fine all a (object x this) e).2;
  }

  pub are_objects : AreObjects own (heap_view objects) → All Fine objects.entries
  are_objects are = All-weaker (Contains objects.entries) Fine each objects.entries (All-contains_itself objects.entries)
    where
      status : (a : ℕ) (o : Object) → heap_view objects a ≡ Some o → (s : Status) → o.status ≡ s → HasStatus own a s
      status a o e ready p = tt
      status a o e made p = are.none_made a o.type (e ∙ ap (λ s. Some (object o.type s)) p)
      status a o e this p = are.only_own a o.type (e ∙ ap (λ s. Some (object o.type s)) p)

      each : (x : ℕ × RawObject) → Contains objects.entries x → Fine x
      each x c =
          let there : heap_view objects x.0 ≡ Some (object_view x.1) = ap (option_map object_view) ((btree_map_get_iff nat_cmp_total exact_unsigned objects ordered x.0 x.1).1 c) in
          let h = are.objects x.0 (object_view x.1) there in
          (h.0, h.1, status x.0 (object_view x.1) there (object_view x.1).status refl)

-- ---- new objects

-- while new objects are added: these are still to come
pub record Adding (old : Heap) (all : List (ℕ × ReferenceType)) (now : Heap) (left : List (ℕ × ReferenceType)) : Type 0 where
  pub fresh : IsFresh now left → IsFresh old all
  pub only : IsFresh old all → IsFresh now left
  pub same : with_fresh old all ≡ with_fresh now left

is_used : (o : Option RawObject) → is_some o ≡ true → option_map object_view o ≡ None → ⊥
is_used None e f = cc
is_used (Some o) e f = cc

is_unused : (o : Option RawObject) → is_some o ≡ false → option_map object_view o ≡ None
is_unused None e = refl
is_unused (Some o) e = cc

abbrev pub dims_of : RunType → ℕ
dims_of (types.Class name) = 0
dims_of (types.Array dims base) = dims

pub deep : (d : ℕ) (b : Base) → dimensions (dimensioned d (base_of b)) ≡ d
deep zero (bases.Primitive p) = refl
deep zero (bases.Class name) = refl
deep (suc d) b = omega (arith, deep d b)

pub run_time : (t : RunType) → dims_of t < 256 → IsRunTimeType (run_type_view t)
run_time (types.Class name) lt = omega arith
run_time (types.Array dims base) lt = omega (arith, deep (dims - 1) base)

same_cond : (s t : Bool) (o : RawObject) (p : Option RawObject) → s ≡ t → option_map object_view (cond s (Some o) p) ≡ (if t then Some (object_view o) else option_map object_view p)
same_cond true true o p e = refl
same_cond true false o p e = cc
same_cond false true o p e = cc
same_cond false false o p e = refl

cmp_eq : (a b : ℕ) → is_eq (nat_cmp a b) ≡ nat_eq a b
cmp_eq a b = grind (arith, nat_tests)

pub put : (objects now : BTreeMap ℕ RawObject) (a : ℕ) (o : RawObject) → ((q : ℕ) → get nat_cmp now q ≡ cond (is_at (nat_cmp a) q) (Some o) (get nat_cmp objects q)) → heap_view now ≡ with_object (heap_view objects) a (object_view o)
put objects now a o e = fun_ext (λ q. ap (option_map object_view) (e q) ∙ same_cond (is_at (nat_cmp a) q) (nat_eq a q) o (get nat_cmp objects q) (cmp_eq a q))

module _ (old : Heap) (all : List (ℕ × ReferenceType)) (objects : BTreeMap ℕ RawObject) where
  pub used : (fresh : List (ℕ × RunType)) (i : ℕ) (d : ℕ × RunType) → i < length fresh → Adding old all (heap_view objects) (fresh_view (drop i fresh)) → is_some (get nat_cmp objects (get_or fresh i d).0) ≡ true → IsFresh old all → ⊥
  used fresh i d lt adding taken f =
      let g : IsFresh (heap_view objects) (fresh_view (get_or fresh i d ∷ drop (i + 1) fresh)) = subst (λ z. IsFresh (heap_view objects) (fresh_view z)) (drop_more fresh i d lt) (adding.only f) in
      is_used (get nat_cmp objects (get_or fresh i d).0) taken g.0

  pub added : (now : BTreeMap ℕ RawObject) (fresh : List (ℕ × RunType)) (i : ℕ) (d : ℕ × RunType) → i < length fresh → Adding old all (heap_view objects) (fresh_view (drop i fresh)) → is_some (get nat_cmp objects (get_or fresh i d).0) ≡ false → (o : RawObject) → object_view o ≡ object (run_type_view (get_or fresh i d).1) ready
      → IsAddress (get_or fresh i d).0 → IsRunTimeType (run_type_view (get_or fresh i d).1)
      → ((q : ℕ) → get nat_cmp now q ≡ cond (is_at (nat_cmp (get_or fresh i d).0) q) (Some o) (get nat_cmp objects q))
      → Adding old all (heap_view now) (fresh_view (drop (i + 1) fresh))
  added now fresh i d lt adding free o is address of e =
      let x = get_or fresh i d in
      let here : fresh_view (drop i fresh) ≡ (x.0, run_type_view x.1) ∷ fresh_view (drop (i + 1) fresh) = ap fresh_view (drop_more fresh i d lt) in
      let next : heap_view now ≡ with_object (heap_view objects) x.0 (object (run_type_view x.1) ready) = put objects now x.0 o e ∙ ap (with_object (heap_view objects) x.0) is in
      record {
        fresh = λ f. adding.fresh (subst (IsFresh (heap_view objects)) (sym here) (is_unused (get nat_cmp objects x.0) free, address, of, subst (λ h. IsFresh h (fresh_view (drop (i + 1) fresh))) next f));
        only = λ f. subst (λ h. IsFresh h (fresh_view (drop (i + 1) fresh))) (sym next) (subst (IsFresh (heap_view objects)) here (adding.only f)).3;
        same = adding.same ∙ ap (with_fresh (heap_view objects)) here ∙ ap (λ h. with_fresh h (fresh_view (drop (i + 1) fresh))) (sym next);
      }
