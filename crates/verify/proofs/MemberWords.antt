-- Packages, guarded members, constructors that are used, interfaces and bootstrap methods are what their sections say.
use Rattle.std.proofs.Common.{◌≡◌, ◌≢◌, ◌==◌, ℕ, Bool, true, false, not, ◌&&◌, ◌||◌, List, [], ◌∷◌, ◌++◌, length, slice_get, Option, Some, None, Result, Ok, Err, if◌then◌else◌, inl, inr, refl, sym, ap, ◌∙◌, subst, eqb-true, eq-eqb}
use Rattle.std.specs.List.{list_all, list_any}
use Rattle.std.specs.Option.{option_and_then, option_map_or}
use Rattle.std.specs.Str.{bytes_eq}
use Rattle.std.proofs.lemmas.Slice.Eq.{bytes_eq-Decides}
use Rattle.pool.specs.declared.fault.PoolFault.{PoolFault}
use Rattle.pool.specs.declared.kind.ReferenceKind.{ReferenceKind}
use Rattle.pool.specs.Entries as entries
use Rattle.pool.specs.Entries.{Entry}
use Rattle.pool.specs.Lookups.{StandsAt, entry_at}
use Rattle.pool.proofs.LookupLaws.{entry_stands, stands_entry}
use Rattle.classfile.specs.Indices.{on_found}
use Rattle.classfile.specs.Bootstraps.{BootstrapMethod, is_handle, is_loadable, is_argument, are_arguments, is_sound, has_bootstrap}
use Rattle.hierarchy.specs.Class.{ClassFact, world_of, IsSubclass}
use Rattle.hierarchy.specs.Rules.{IsHierarchy}
use Rattle.hierarchy.specs.Nearest.{MemberReference, Declaration, nearest, has_slash, package_of, is_elsewhere, is_protected_elsewhere, is_guarded}
use Rattle.hierarchy.proofs.Chain.{shorten}
use Rattle.hierarchy.proofs.Nearby.{computed}
use Rattle.hierarchy.proofs.Subclass.{met_chain, chain_met}
use Rattle.insn.specs.Offsets.{IsAmong}
use Rattle.names.specs.ReferenceTypes.{ReferenceType, class_type, array_type}
use Rattle.names.specs.StandardNames.{init_name}
use Rattle.pool.specs.ConstantMeanings.{MethodConstant, method_at}
use Rattle.classfile.specs.Methods.{Method, is_name}
use Rattle.insn.specs.Meanings as acts
use Rattle.insn.specs.Meanings.{Act}
use Rattle.rules.specs.Constants.{is_init_name}
use Rattle.rules.specs.Interfaces.{is_direct, is_indirect, calls_indirect}
use Rattle.rules.specs.Protected.{Use, method_reference, method_use, constructor_use, used_by}
use Rattle.verify.specs.MemberWords.{IsConstructorUse, ConstructorsAreSaid, CallsOther, InterfacesAreSaid, HasNoSlash, IsPackageOf, PackagesAreSaid, IsGuardedFrom, GuardsAreSaid, IsLoadable, integer, float, long, double, class, string, method_handle, method_type, dynamic, HasUsable, BootstrapsAreSaid}

both : (b c : Bool) → b && c ≡ true → (b ≡ true) × (c ≡ true)
both true true e = (refl, refl)
both true false e = cc
both false c e = cc

and_both : (b c : Bool) → b ≡ true → c ≡ true → b && c ≡ true
and_both b c p q = ap (λ z. z && c) p ∙ q

true_false : true ≡ false → ⊥
true_false e = cc

not_true : (b : Bool) → not b ≡ true → b ≡ false
not_true true e = cc
not_true false e = refl

-- ---- packages

or_false : (b c : Bool) → b || c ≡ false → (b ≡ false) × (c ≡ false)
or_false true c e = cc
or_false false c e = (refl, e)

or_true : (b : Bool) → b || true ≡ true
or_true true = refl
or_true false = refl

no_slash : (name : List ℕ) → has_slash name ≡ false → HasNoSlash name
no_slash [] e i = elim i [ ]
no_slash (b ∷ bs) e (inl p) =
    let x = or_false (b == 47) (has_slash bs) e in
    true_false (sym (eq-eqb b 47 (sym p)) ∙ x.0)
no_slash (b ∷ bs) e (inr i) = no_slash bs (or_false (b == 47) (has_slash bs) e).1 i

slashless : (name : List ℕ) → HasNoSlash name → has_slash name ≡ false
slashless [] n = refl
slashless (b ∷ bs) n = by (b == 47) refl (slashless bs (λ i. n (inr i)))
  where
    by : (t : Bool) → (b == 47) ≡ t → has_slash bs ≡ false → (b == 47 || has_slash bs) ≡ false
    by true e k = absurd (n (inl (sym (eqb-true b 47 e))))
    by false e k = ap (λ z. z || has_slash bs) e ∙ k

slash_after : (front simple : List ℕ) → has_slash (front ++ (47 ∷ simple)) ≡ true
slash_after [] simple = refl
slash_after (b ∷ front) simple = ap (λ z. b == 47 || z) (slash_after front simple) ∙ or_true (b == 47)

package_without : (name : List ℕ) → has_slash name ≡ false → package_of name ≡ []
package_without [] e = refl
package_without (b ∷ bs) e = let k = (or_false (b == 47) (has_slash bs) e).1 in ap (λ t. if t then b ∷ package_of bs else []) k

package_before : (prefix simple : List ℕ) → has_slash simple ≡ false → package_of (prefix ++ (47 ∷ simple)) ≡ prefix
package_before [] simple e = ap (λ t. if t then 47 ∷ package_of simple else []) e
package_before (b ∷ prefix) simple e =
    ap (λ t. if t then b ∷ package_of (prefix ++ (47 ∷ simple)) else []) (slash_after prefix simple) ∙ ap (λ z. b ∷ z) (package_before prefix simple e)

package_so : (name prefix : List ℕ) → IsPackageOf name prefix → package_of name ≡ prefix
package_so name prefix (inl (simple, e, n)) = ap package_of e ∙ package_before prefix simple (slashless simple n)
package_so name prefix (inr (n, e)) = package_without name (slashless name n) ∙ sym e

-- the name by its package, where it has a slash
abbrev Split : List ℕ → Type 0
Split name = (simple : List ℕ) × (name ≡ package_of name ++ (47 ∷ simple)) × HasNoSlash simple

split_last : (b : ℕ) (bs : List ℕ) → (b == 47 || has_slash bs) ≡ true → has_slash bs ≡ false → Split (b ∷ bs)
split_last b bs e k = (bs, whole ∙ ap (λ z. z ++ (47 ∷ bs)) (sym empty), no_slash bs k)
  where
    or_first : (t u : Bool) → (t || u) ≡ true → u ≡ false → t ≡ true
    or_first true u p q = refl
    or_first false u p q = absurd (true_false (sym p ∙ q))

    slash : b ≡ 47
    slash = eqb-true b 47 (or_first (b == 47) (has_slash bs) e k)

    empty : package_of (b ∷ bs) ≡ []
    empty = ap (λ t. if t then b ∷ package_of bs else []) k

    whole : b ∷ bs ≡ 47 ∷ bs
    whole = ap (λ z. z ∷ bs) slash

split_later : (b : ℕ) (bs : List ℕ) → has_slash bs ≡ true → Split bs → Split (b ∷ bs)
split_later b bs k s =
    let more : package_of (b ∷ bs) ≡ b ∷ package_of bs = ap (λ t. if t then b ∷ package_of bs else []) k in
    (s.0, ap (λ z. b ∷ z) s.1 ∙ ap (λ z. z ++ (47 ∷ s.0)) (sym more), s.2)

split : (name : List ℕ) → has_slash name ≡ true → Split name
split [] e = cc
split (b ∷ bs) e = by (has_slash bs) refl (split bs)
  where
    by : (t : Bool) → has_slash bs ≡ t → (has_slash bs ≡ true → Split bs) → Split (b ∷ bs)
    by true k s = split_later b bs k (s k)
    by false k s = split_last b bs e k

package_is : (name : List ℕ) → IsPackageOf name (package_of name)
package_is name = by (has_slash name) refl
  where
    by : (t : Bool) → has_slash name ≡ t → IsPackageOf name (package_of name)
    by true e = inl (split name e)
    by false e = inr (no_slash name e, package_without name e)

pub packages_are_said : PackagesAreSaid
packages_are_said name prefix = (λ e. subst (IsPackageOf name) e (package_is name), package_so name prefix)

-- ---- guarded members

equal : (a b : List ℕ) → bytes_eq a b ≡ true → a ≡ b
equal a b e = (bytes_eq-Decides a b).0 e

unequal : (a b : List ℕ) → bytes_eq a b ≡ false → a ≢ b
unequal a b e p = true_false (sym ((bytes_eq-Decides a b).1 p) ∙ e)

is_unequal : (a b : List ℕ) → a ≢ b → not (bytes_eq a b) ≡ true
is_unequal a b n = by (bytes_eq a b) refl
  where
    by : (c : Bool) → bytes_eq a b ≡ c → not c ≡ true
    by true e = absurd (n (equal a b e))
    by false e = refl

module _ (classes : List ClassFact) (h : IsHierarchy classes) (current : List ℕ) (r : MemberReference) where
  guarded_by : (o : Option Declaration) → nearest classes r ≡ o → is_protected_elsewhere current o ≡ true → current ≢ r.class → IsSubclass classes current r.class → IsGuardedFrom classes current r
  guarded_by None e p n s = cc
  guarded_by (Some d) e p n s =
      let x = both d.member.is_protected (is_elsewhere current d.class.name) p in
      let apart = unequal (package_of d.class.name) (package_of current) (not_true _ x.1) in
      record {
        other = n;
        above = s;
        declaration = d;
        nearest = (computed classes h r d).0 e;
        protected = x.0;
        elsewhere = λ prefix a b. apart (package_so d.class.name prefix b ∙ sym (package_so current prefix a));
      }

  guarded_so : is_guarded classes current r ≡ true → IsGuardedFrom classes current r
  guarded_so e =
      let x = both _ _ e in
      let y = both _ _ x.1 in
      guarded_by (nearest classes r) refl y.1 (unequal current r.class (not_true _ x.0)) (met_chain (world_of classes) (length classes) current r.class y.0)

  so_guarded : IsGuardedFrom classes current r → is_guarded classes current r ≡ true
  so_guarded k =
      let d = k.declaration in
      let apart : package_of d.class.name ≢ package_of current = λ e. k.elsewhere (package_of current) (package_is current) (subst (IsPackageOf d.class.name) e (package_is d.class.name)) in
      let elsewhere : is_elsewhere current d.class.name ≡ true = is_unequal (package_of d.class.name) (package_of current) apart in
      let protected : is_protected_elsewhere current (nearest classes r) ≡ true =
      ap (is_protected_elsewhere current) ((computed classes h r d).1 k.nearest) ∙ and_both d.member.is_protected (is_elsewhere current d.class.name) k.protected elsewhere in
      and_both _ _ (is_unequal current r.class k.other) (and_both _ _ (chain_met classes (length classes) current r.class (shorten classes k.above)) protected)

pub guards_are_said : GuardsAreSaid
guards_are_said classes h current r = (guarded_so classes h current r, so_guarded classes h current r)

-- ---- constructors that are used

one_use : (a b : Use) → Some a ≡ Some b → a ≡ b
one_use a b e = cc

module _ (m : Method Act) (index : ℕ) (u : Use) where
  called_use : (c : MethodConstant) → method_at m.constant_pool index ≡ Some c → m.release ≡ true → c.name ≡ init_name → (b : Bool) → c.interface ≡ b → (t : ReferenceType) → c.class ≡ t
      → method_use c b t ≡ Some u → IsConstructorUse m index u
  called_use c at r n true i t of e = cc
  called_use c at r n false i (array_type component) of e = cc
  called_use c at r n false i (class_type name) of e =
      let same = one_use (record { reference = method_reference name c; above = c.type.params }) u e in
      record {
        release = r;
        called = c;
        constant = at;
        init = n;
        of_class = i;
        class = of ∙ ap (λ (z : Use). class_type z.reference.class) same;
        kind = ap (λ (z : Use). z.reference.kind) (sym same);
        name = ap (λ (z : Use). z.reference.name) (sym same);
        descriptor = ap (λ (z : Use). z.reference.descriptor) (sym same);
        above = ap (λ (z : Use). z.above) (sym same);
      }

  used_so : (o : Option MethodConstant) → method_at m.constant_pool index ≡ o → option_and_then (constructor_use m.release) o ≡ Some u → IsConstructorUse m index u
  used_so None at e = cc
  used_so (Some c) at e = by (m.release && is_init_name c) refl e
    where
      by : (b : Bool) → (m.release && is_init_name c) ≡ b → (if b then method_use c c.interface c.class else None) ≡ Some u → IsConstructorUse m index u
      by true q k =
          let x = both m.release (is_init_name c) q in
          called_use c at x.0 (equal c.name init_name x.1) c.interface refl c.class refl k
      by false q k = cc

  so_used : IsConstructorUse m index u → used_by m (acts.InvokeSpecial index) ≡ Some u
  so_used k =
      let c = k.called in
      let asked : (m.release && is_init_name c) ≡ true = and_both m.release (is_init_name c) k.release ((bytes_eq-Decides c.name init_name).1 k.init) in
      let whole : record { reference = method_reference u.reference.class c; above = c.type.params } ≡ u =
      λ i. record {
        reference = record { class = u.reference.class; kind = sym k.kind i; name = sym k.name i; descriptor = sym k.descriptor i };
        above = sym k.above i;
      } in
      ap (option_and_then (constructor_use m.release)) k.constant
      ∙ ap (λ b. if b then method_use c c.interface c.class else None) asked
      ∙ (λ i. method_use c (k.of_class i) (k.class i))
      ∙ ap (λ (z : Use). Some z) whole

pub constructors_are_said : ConstructorsAreSaid
constructors_are_said m index u = (used_so m index u (method_at m.constant_pool index) refl, so_used m index u)

-- ---- interfaces

listed : (name : List ℕ) (names : List (List ℕ)) → list_any (λ other. bytes_eq other name) names ≡ false → IsAmong name names → ⊥
listed name [] e i = elim i [ ]
listed name (n ∷ ns) e (inl p) =
    let x = or_false (bytes_eq n name) (list_any (λ other. bytes_eq other name) ns) e in
    true_false (sym ((bytes_eq-Decides n name).1 (sym p)) ∙ x.0)
listed name (n ∷ ns) e (inr i) = listed name ns (or_false (bytes_eq n name) (list_any (λ other. bytes_eq other name) ns) e).1 i

is_false : (a b : List ℕ) → a ≢ b → bytes_eq a b ≡ false
is_false a b n = not_true (bytes_eq a b) (is_unequal a b n)

unlisted : (name : List ℕ) (names : List (List ℕ)) → (IsAmong name names → ⊥) → list_any (λ other. bytes_eq other name) names ≡ false
unlisted name [] n = refl
unlisted name (x ∷ xs) n = ap (λ b. b || list_any (λ other. bytes_eq other name) xs) (is_false x name (λ e. n (inl (sym e)))) ∙ unlisted name xs (λ i. n (inr i))

no_name : (o : Option (List ℕ)) (name : List ℕ) → is_name o name ≡ false → o ≢ Some name
no_name None name e p = cc
no_name (Some other) name e p = let same : other ≡ name = cc in true_false (sym ((bytes_eq-Decides other name).1 same) ∙ e)

another_name : (o : Option (List ℕ)) (name : List ℕ) → o ≢ Some name → is_name o name ≡ false
another_name None name n = refl
another_name (Some other) name n = is_false other name (λ e. n (ap (λ z. Some z) e))

module _ (m : Method Act) where
  called_so : (index : ℕ) (c : MethodConstant) → method_at m.constant_pool index ≡ Some c → m.release ≡ true → c.interface ≡ true → (t : ReferenceType) → c.class ≡ t → not (is_direct m t) ≡ true
      → CallsOther m (acts.InvokeSpecial index)
  called_so index c at r i (array_type component) of e = cc
  called_so index c at r i (class_type name) of e =
      let x = or_false (bytes_eq m.class name) (is_name m.superclass name || list_any (λ other. bytes_eq other name) m.interfaces) (not_true _ e) in
      let y = or_false (is_name m.superclass name) (list_any (λ other. bytes_eq other name) m.interfaces) x.1 in
      record {
        release = r;
        index = index;
        special = refl;
        called = c;
        constant = at;
        interface = i;
        name = name;
        class = of;
        not_own = unequal m.class name x.0;
        not_above = no_name m.superclass name y.0;
        not_listed = listed name m.interfaces y.1;
      }

  at_index : (index : ℕ) (o : Option MethodConstant) → method_at m.constant_pool index ≡ o → (m.release && is_indirect m o) ≡ true → CallsOther m (acts.InvokeSpecial index)
  at_index index None at e = absurd (true_false (sym (both m.release false e).1))
  at_index index (Some c) at e =
      let x = both m.release (is_indirect m (Some c)) e in
      let y = both c.interface (not (is_direct m c.class)) x.1 in
      called_so index c at x.0 y.0 c.class refl y.1

  other_so : (act : Act) → calls_indirect m act ≡ true → CallsOther m act
  other_so (acts.InvokeSpecial index) e = at_index index (method_at m.constant_pool index) refl e
  other_so act e = cc

  so_other : (act : Act) → CallsOther m act → calls_indirect m act ≡ true
  so_other act k =
      let c = k.called in
      let apart : is_direct m c.class ≡ false =
      ap (is_direct m) k.class
      ∙ ap (λ b. b || (is_name m.superclass k.name || list_any (λ other. bytes_eq other k.name) m.interfaces)) (is_false m.class k.name k.not_own)
      ∙ ap (λ b. b || list_any (λ other. bytes_eq other k.name) m.interfaces) (another_name m.superclass k.name k.not_above)
      ∙ unlisted k.name m.interfaces k.not_listed in
      ap (calls_indirect m) k.special
      ∙ ap (λ o. m.release && is_indirect m o) k.constant
      ∙ and_both m.release (is_indirect m (Some c)) k.release (and_both c.interface (not (is_direct m c.class)) k.interface (ap not apart))

pub interfaces_are_said : InterfacesAreSaid
interfaces_are_said m act = (other_so m act, so_other m act)

-- ---- bootstrap methods

found_so : (test : Entry → Bool) (r : Result Entry PoolFault) → on_found test r ≡ true → (e : Entry) × (r ≡ Ok e) × (test e ≡ true)
found_so test (Ok e) k = (e, refl, k)
found_so test (Err x) k = cc

so_found : (test : Entry → Bool) (r : Result Entry PoolFault) (e : Entry) → r ≡ Ok e → test e ≡ true → on_found test r ≡ true
so_found test r e p q = ap (on_found test) p ∙ q

loadable_so : (e : Entry) → is_loadable e ≡ true → IsLoadable e
loadable_so (entries.Integer bits) k = integer
loadable_so (entries.Float bits) k = float
loadable_so (entries.Long high low) k = long
loadable_so (entries.Double high low) k = double
loadable_so (entries.Class name) k = class
loadable_so (entries.String text) k = string
loadable_so (entries.MethodHandle kind target) k = method_handle
loadable_so (entries.MethodType descriptor) k = method_type
loadable_so (entries.Dynamic bootstrap named) k = dynamic
loadable_so _ k = cc

so_loadable : (e : Entry) → IsLoadable e → is_loadable e ≡ true
so_loadable e integer = refl
so_loadable e float = refl
so_loadable e long = refl
so_loadable e double = refl
so_loadable e class = refl
so_loadable e string = refl
so_loadable e method_handle = refl
so_loadable e method_type = refl
so_loadable e dynamic = refl

handle_so : (e : Entry) → is_handle e ≡ true → (kind : ReferenceKind) × (target : ℕ) × (e ≡ entries.MethodHandle kind target)
handle_so (entries.MethodHandle kind target) k = (kind, target, refl)
handle_so _ k = cc

all_so : (p : ℕ → Bool) (xs : List ℕ) → list_all p xs ≡ true → (x : ℕ) → IsAmong x xs → p x ≡ true
all_so p [] e x i = elim i [ ]
all_so p (y ∷ ys) e x (inl q) = ap p q ∙ (both (p y) (list_all p ys) e).0
all_so p (y ∷ ys) e x (inr i) = all_so p ys (both (p y) (list_all p ys) e).1 x i

so_all : (p : ℕ → Bool) (xs : List ℕ) → ((x : ℕ) → IsAmong x xs → p x ≡ true) → list_all p xs ≡ true
so_all p [] h = refl
so_all p (y ∷ ys) h = and_both (p y) (list_all p ys) (h y (inl refl)) (so_all p ys (λ x i. h x (inr i)))

module _ (pool : List Entry) where
  abbrev Sound : BootstrapMethod → Type 0
  Sound b = ((kind : ReferenceKind) × (target : ℕ) × StandsAt pool b.handle (entries.MethodHandle kind target)) × ((index : ℕ) → IsAmong index b.arguments → (e : Entry) × StandsAt pool index e × IsLoadable e)

  sound_so : (b : BootstrapMethod) → is_sound pool b ≡ true → Sound b
  unfolding is_sound are_arguments
  sound_so b e =
      let x = both _ _ e in
      let y = found_so is_handle (entry_at pool b.handle) x.0 in
      let z = handle_so y.0 y.2 in (
        (z.0, z.1, entry_stands pool b.handle (entries.MethodHandle z.0 z.1) (y.1 ∙ ap Ok z.2)),
        λ index i.
            let u = found_so is_loadable (entry_at pool index) (all_so (is_argument pool) b.arguments x.1 index i) in
            (u.0, entry_stands pool index u.0 u.1, loadable_so u.0 u.2),
      )

  so_sound : (b : BootstrapMethod) → Sound b → is_sound pool b ≡ true
  unfolding is_sound are_arguments
  so_sound b s =
      and_both _ _ (so_found is_handle (entry_at pool b.handle) (entries.MethodHandle s.0.0 s.0.1) (stands_entry pool b.handle (entries.MethodHandle s.0.0 s.0.1) s.0.2) refl)
      (so_all (is_argument pool) b.arguments (λ index i.
      let k = s.1 index i in
      so_found is_loadable (entry_at pool index) k.0 (stands_entry pool index k.0 k.1) (so_loadable k.0 k.2)))

  usable_by : (methods : List BootstrapMethod) (number : ℕ) (o : Option BootstrapMethod) → slice_get methods number ≡ o → option_map_or (is_sound pool) o false ≡ true → HasUsable pool methods number
  usable_by methods number None e k = cc
  usable_by methods number (Some b) e k =
      let s = sound_so b k in
      record { method = b; here = e; kind = s.0.0; target = s.0.1; handle = s.0.2; arguments = s.1 }

  usable_so : (methods : List BootstrapMethod) (number : ℕ) → has_bootstrap pool methods number ≡ true → HasUsable pool methods number
  unfolding has_bootstrap
  usable_so methods number e = usable_by methods number (slice_get methods number) refl e

  so_usable : (methods : List BootstrapMethod) (number : ℕ) → HasUsable pool methods number → has_bootstrap pool methods number ≡ true
  unfolding has_bootstrap
  so_usable methods number k =
      ap (λ o. option_map_or (is_sound pool) o false) k.here ∙ so_sound k.method ((k.kind, k.target, k.handle), k.arguments)

pub bootstraps_are_said : BootstrapsAreSaid
bootstraps_are_said pool methods number = (usable_so pool methods number, so_usable pool methods number)
