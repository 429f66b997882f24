-- Numbers of texts, starts of references, and that the first flag from a start on says whether a reference is guarded.
use Rattle.std.proofs.Common.{◌≡◌, ◌&&◌, ◌||◌, ◌==◌, ℕ, zero, suc, ◌+◌, ◌-◌, ◌<◌, ◌≤◌, Bool, true, false, cond, not, List, [], ◌∷◌, ◌++◌, get_or, length, map, slice_get, take, Option, Some, None, option_map, IsSome, Result, Ok, Err, IfOk, refl, ap, sym, ◌∙◌, subst, arith}
use Rattle.std.specs.BTreeMap.{BTreeMap, btree_map_len}
use Rattle.std.specs.Global.{Vec}
use Rattle.std.specs.declared.alloc.AllocError.{AllocError}
use Rattle.std.specs.Borrow.{Bor}
use Rattle.std.specs.List.{AllZip, list_any}
use Rattle.std.specs.Str.{bytes_eq}
use Rattle.std.proofs.lemmas.Bool.{false≢true}
use Rattle.std.proofs.lemmas.List.{take_more, get_or-map, length-map, length-append, length-take-le}
use Rattle.std.proofs.lemmas.Option.{slice_get_within, slice_get-get_or, slice_get-map}
use Rattle.std.proofs.lemmas.Slice.Eq.{bytes_eq-Decides}
use Rattle.hierarchy.specs.declared.member_references.MemberRef.{MemberRef}
use Rattle.hierarchy.specs.declared.spot.Spot.{Spot}
use Rattle.hierarchy.specs.private.Above.{class_above, upward, classes_above, names_above, names_of, number_of, ArePlaces}
use Rattle.hierarchy.specs.Answer.{on_chain}
use Rattle.hierarchy.specs.Class.{ClassFact, class_of, world_of}
use Rattle.hierarchy.specs.private.Flags.{AreNumbers, KeepNumbers, GetsNumber, IsStart, IsMember, own, outside, begins, place_above, AreStarts, AreFlags, KeepsClass, first_flag}
use Rattle.hierarchy.specs.Nearest.{MemberReference, nearest, is_elsewhere, is_protected_elsewhere, is_guarded}
use Rattle.hierarchy.specs.Rules.{IsHierarchy}
use Rattle.hierarchy.proofs.Guards.{TextNumbers, behind, before, at_last, first_is}
use Rattle.hierarchy.proofs.Names.{mapped, none_some, some_same}
use Rattle.hierarchy.proofs.Nearby.{nearest_above}
use Rattle.hierarchy.proofs.Upward.{named, above_own, few_above, chain_above}

-- ---- numbers

module _ (old new : TextNumbers) (text : List ℕ) (good : AreNumbers old) where
  -- a text that has none gets the next one
  pub next_number : (n : ℕ) → n ≡ btree_map_len old → number_of old text ≡ None → ((t : List ℕ) → number_of new t ≡ cond (bytes_eq text t) (Some n) (number_of old t))
      → btree_map_len new ≡ btree_map_len old + 1 → GetsNumber old new text n
  next_number n is none written more = record {
    here = written text ∙ ap (λ b. cond b (Some n) (number_of old text)) ((bytes_eq-Decides text text).1 refl);
    kept = λ t m h. written t ∙ keeps t m h (bytes_eq text t) refl;
    good = record {
      below = λ t m h. below t m (bytes_eq text t) refl (sym (written t) ∙ h);
      one = λ t u m h k. one t u m (bytes_eq text t) refl (sym (written t) ∙ h) (bytes_eq text u) refl (sym (written u) ∙ k);
    };
  }
    where
      keeps : (t : List ℕ) (m : ℕ) → number_of old t ≡ Some m → (b : Bool) → bytes_eq text t ≡ b → cond b (Some n) (number_of old t) ≡ Some m
      keeps t m h true e = absurd (none_some (sym none ∙ ap (number_of old) ((bytes_eq-Decides text t).0 e) ∙ h))
      keeps t m h false e = h

      below : (t : List ℕ) (m : ℕ) (b : Bool) → bytes_eq text t ≡ b → cond b (Some n) (number_of old t) ≡ Some m → m < btree_map_len new
      below t m true e h = let same : n ≡ m = some_same h in omega arith
      below t m false e h = let lt = good.below t m h in omega arith

      one : (t u : List ℕ) (m : ℕ) (b : Bool) → bytes_eq text t ≡ b → cond b (Some n) (number_of old t) ≡ Some m
          → (d : Bool) → bytes_eq text u ≡ d → cond d (Some n) (number_of old u) ≡ Some m → t ≡ u
      one t u m true e h true f k = sym ((bytes_eq-Decides text t).0 e) ∙ (bytes_eq-Decides text u).0 f
      one t u m true e h false f k = let same : n ≡ m = some_same h in let lt = good.below u m k in absurd (omega arith)
      one t u m false e h true f k = let same : n ≡ m = some_same k in let lt = good.below t m h in absurd (omega arith)
      one t u m false e h false f k = good.one t u m h k

-- ---- places

-- one name more has a place
pub places_more : (names : List (List ℕ)) (last : List ℕ) (old new : TextNumbers) → ArePlaces names old
    → ((t : List ℕ) → number_of new t ≡ cond (bytes_eq last t) (Some (length names)) (number_of old t)) → ArePlaces (names ++ last ∷ []) new
places_more names last old new places written = record {
  leads = λ name p e. leads name p (bytes_eq last name) refl (sym (written name) ∙ e);
  each = λ p name e. each p name (p == length names) (sym (at_last names last p) ∙ e);
}
  where
    leads : (name : List ℕ) (p : ℕ) (b : Bool) → bytes_eq last name ≡ b → cond b (Some (length names)) (number_of old name) ≡ Some p → slice_get (names ++ last ∷ []) p ≡ Some name
    leads name p true e h = ap (slice_get (names ++ last ∷ [])) (sym (some_same h)) ∙ behind names last ∙ ap (λ x. Some x) ((bytes_eq-Decides last name).0 e)
    leads name p false e h =
        let at = places.leads name p h in
        let lt = slice_get_within names p name at in
        before names last p (λ same. absurd (omega arith)) ∙ at

    some_of : (b : Bool) (o : Option ℕ) → IsSome o → IsSome (cond b (Some (length names)) o)
    some_of true o p = refl
    some_of false o p = p

    each : (p : ℕ) (name : List ℕ) (b : Bool) → cond b (Some last) (slice_get names p) ≡ Some name → IsSome (number_of new name)
    each p name true e = subst (λ (x : List ℕ). IsSome (number_of new x)) (some_same e) (rw (written last, (bytes_eq-Decides last last).1 refl) refl)
    each p name false e = subst IsSome (sym (written name)) (some_of (bytes_eq last name) (number_of old name) (places.each p name e))

pub places_next : (kept : List (Bor (List ℕ))) (i : ℕ) (d : Bor (List ℕ)) (old new : TextNumbers) → i < length kept → ArePlaces (take i (names_of kept)) old
    → ((t : List ℕ) → number_of new t ≡ cond (bytes_eq (get_or kept i d).now t) (Some i) (number_of old t)) → ArePlaces (take (i + 1) (names_of kept)) new
places_next kept i d old new lt places written =
    let now : Bor (List ℕ) → List ℕ = λ n. n.now in
    let name : List ℕ = (get_or kept i d).now in
    let e = length-map kept now in
    let within : i < length (names_of kept) = omega arith in
    let next = take_more (names_of kept) i name within ∙ ap (λ x. take i (names_of kept) ++ x ∷ []) (get_or-map now kept i d name lt) in
    let taken : length (take i (names_of kept)) ≡ i = length-take-le i (names_of kept) (omega arith) in
    subst (λ cs. ArePlaces cs new) (sym next)
    (places_more (take i (names_of kept)) name old new places (λ t. written t ∙ ap (λ k. cond (bytes_eq name t) (Some k) (number_of old t)) (sym taken)))

-- a step up
pub one_up : (classes : List ClassFact) → IsHierarchy classes → (name : List ℕ) (kept more : List (Bor (List ℕ))) (c : ClassFact) (n : Bor (List ℕ)) (next : Option ClassFact)
    → names_above classes name ≡ names_of kept ++ map (λ (c : ClassFact). c.name) (upward classes (suc (length classes) - length kept) (Some c))
    → more ≡ kept ++ n ∷ [] → n.now ≡ c.name → next ≡ class_above classes c
    → (names_above classes name ≡ names_of more ++ map (λ (c : ClassFact). c.name) (upward classes (suc (length classes) - length more) next)) × (suc (length classes) - length more < suc (length classes) - length kept)
one_up classes h name kept more c n next here pushed is_name is = (here ∙ ap (λ cs. names_of kept ++ map (λ (c : ClassFact). c.name) cs) opened ∙ sym closed, omega (arith, many, few))
  where
    many : length more ≡ length kept + 1
    many = ap length pushed ∙ length-append kept (n ∷ [])

    few : length kept ≤ length classes
    few =
        let le = few_above classes h name in
        let e = ap length here in
        let a = length-map (classes_above classes name) (λ (c : ClassFact). c.name) in
        let l = length-append (names_of kept) (map (λ (c : ClassFact). c.name) (upward classes (suc (length classes) - length kept) (Some c))) in
        let m = length-map kept (λ (x : Bor (List ℕ)). x.now) in
        omega arith

    left : suc (length classes) - length kept ≡ suc (length classes - length kept)
    left = omega (arith, few)

    left_then : length classes - length kept ≡ suc (length classes) - length more
    left_then = omega (arith, many)

    opened : upward classes (suc (length classes) - length kept) (Some c) ≡ c ∷ upward classes (suc (length classes) - length more) next
    opened = ap (λ k. upward classes k (Some c)) left ∙ ap (λ k. c ∷ upward classes k (class_above classes c)) left_then
        ∙ ap (λ o. c ∷ upward classes (suc (length classes) - length more) o) (sym is)

    each : (xs : List (Bor (List ℕ))) (rest : List (List ℕ)) → names_of (xs ++ n ∷ []) ++ rest ≡ names_of xs ++ (n.now ∷ rest)
    each [] rest = refl
    each (x ∷ xs) rest = ap (λ ys. x.now ∷ ys) (each xs rest)

    rest : List (List ℕ)
    rest = map (λ (c : ClassFact). c.name) (upward classes (suc (length classes) - length more) next)

    closed : names_of more ++ rest ≡ names_of kept ++ (c.name ∷ rest)
    closed = ap (λ xs. names_of xs ++ rest) pushed ∙ each kept rest ∙ ap (λ m. names_of kept ++ (m ∷ rest)) is_name

-- ---- classes by their names

module _ (classes : List ClassFact) (h : IsHierarchy classes) (class : List ℕ) (kept : List (Bor (List ℕ))) (i : ℕ) (d : Bor (List ℕ)) (lt : i < length kept)
    (names : names_of kept ≡ names_above classes class) where
  abbrev s : Bor (List ℕ)
  s = get_or kept i d

  -- the class at a place by the name there
  pub class_at : (d : ClassFact) × (slice_get (classes_above classes class) i ≡ Some d) × (class_of classes s.now ≡ Some d)
  class_at =
      let now : Bor (List ℕ) → List ℕ = λ n. n.now in
      let here : slice_get (names_of kept) i ≡ Some s.now = slice_get-map now kept i ∙ ap (option_map now) (slice_get-get_or kept i d lt) in
      let x = mapped (λ (c : ClassFact). c.name) (slice_get (classes_above classes class) i) s.now (sym (slice_get-map (λ (c : ClassFact). c.name) (classes_above classes class) i) ∙ ap (λ ns. slice_get ns i) (sym names) ∙ here) in
      (x.0, x.1, ap (class_of classes) (sym x.2) ∙ above_own classes h class i x.0 x.1)

  pub no_absent : class_of classes s.now ≡ None → ⊥
  no_absent e = none_some (sym e ∙ class_at.2)

  -- one class more
  pub flags_next : (numbers : TextNumbers) (old new : BTreeMap Spot Bool) (c : ClassFact) (elsewhere : Bool) → class_of classes s.now ≡ Some c
      → elsewhere ≡ is_elsewhere class s.now → AreFlags numbers class (take i (classes_above classes class)) old → KeepsClass numbers c i elsewhere old new
      → AreFlags numbers class (take (i + 1) (classes_above classes class)) new
  flags_next numbers old new c elsewhere found e flags keeps =
      let all = classes_above classes class in
      let at = class_at in
      let same : at.0 ≡ c = some_same (sym at.2 ∙ found) in
      let within = slice_get_within all i at.0 at.1 in
      let next : take (i + 1) all ≡ take i all ++ c ∷ [] = take_more all i at.0 within ∙ ap (λ x. take i all ++ x ∷ []) (some_same (sym (slice_get-get_or all i at.0 within) ∙ at.1) ∙ same) in
      let taken : length (take i all) ≡ i = length-take-le i all (omega arith) in
      let name : c.name ≡ s.now = named classes s.now c found in
      subst (λ cs. AreFlags numbers class cs new) (sym next) (keeps class (take i all) taken (e ∙ ap (is_elsewhere class) (sym name)) flags)

-- ---- starts

module _ (places old new : TextNumbers) (class : List ℕ) (kept : KeepNumbers old new) where
  start_kept : (r : MemberReference) (o : Option Spot) → IsStart places old class r o → IsStart places new class r o
  start_kept r None (own e) = own e
  start_kept r None (outside e) = outside e
  start_kept r (Some s) (begins n p m) = begins n p (record { name = kept r.name s.name m.name; descriptor = kept r.descriptor s.descriptor m.descriptor; kind = m.kind })

  pub starts_kept : (rs : List MemberReference) (os : List (Option Spot)) → AreStarts places old class rs os → AreStarts places new class rs os
  starts_kept [] [] a = a
  starts_kept [] (o ∷ os) a = a
  starts_kept (r ∷ rs) [] a = a
  starts_kept (r ∷ rs) (o ∷ os) a = (start_kept r o a.0, starts_kept rs os a.1)

pub none_above : (places numbers : TextNumbers) (class : List ℕ) (r : MemberReference) → None ≡ place_above places class r.class → IsStart places numbers class r None
none_above places numbers class r is = by (bytes_eq r.class class) refl is
  where
    by : (b : Bool) → bytes_eq r.class class ≡ b → None ≡ cond b None (number_of places r.class) → IsStart places numbers class r None
    by true e is = own (sym ((bytes_eq-Decides r.class class).0 e))
    by false e is = outside (sym is)

pub one_above : (places numbers : TextNumbers) (class : List ℕ) (r : MemberReference) (s : Spot) → Some s.place ≡ place_above places class r.class → IsMember numbers r s → IsStart places numbers class r (Some s)
one_above places numbers class r s is member = by (bytes_eq r.class class) refl is
  where
    by : (b : Bool) → bytes_eq r.class class ≡ b → Some s.place ≡ cond b None (number_of places r.class) → IsStart places numbers class r (Some s)
    by true e is = absurd (none_some (sym is))
    by false e is = begins (λ same. false≢true (sym e ∙ (bytes_eq-Decides r.class class).1 (sym same))) (sym is) member

pub zip_more : {A B : Type 0} (R : A → B → Type 0) (xs : List A) (ys : List B) (x : A) (y : B) → AllZip R xs ys → R x y → AllZip R (xs ++ x ∷ []) (ys ++ y ∷ [])
zip_more R [] [] x y a r = (r, tt)
zip_more R [] (v ∷ ys) x y a r = absurd a
zip_more R (u ∷ xs) [] x y a r = absurd a
zip_more R (u ∷ xs) (v ∷ ys) x y a r = (a.0, zip_more R xs ys x y a.1 r)

pub map_more : {A B : Type 0} (f : A → B) (xs : List A) (i : ℕ) (d : A) → i < length xs → map f (take (i + 1) xs) ≡ map f (take i xs) ++ f (get_or xs i d) ∷ []
map_more f xs i d lt = ap (map f) (take_more xs i d lt) ∙ each f (take i xs) (get_or xs i d)
  where
    each : {A B : Type 0} (f : A → B) (ys : List A) (y : A) → map f (ys ++ y ∷ []) ≡ map f ys ++ f y ∷ []
    each f [] y = refl
    each f (x ∷ ys) y = ap (λ zs. f x ∷ zs) (each f ys y)

pub map_twice : {A B C : Type 0} (f : B → C) (g : A → B) (xs : List A) → map f (map g xs) ≡ map (λ x. f (g x)) xs
map_twice f g [] = refl
map_twice f g (x ∷ xs) = ap (λ ys. f (g x) ∷ ys) (map_twice f g xs)

-- the start of the next reference
pub starts_next : (f : MemberRef → MemberReference) (places old new : TextNumbers) (class : List ℕ) (rs : List MemberRef) (i : ℕ) (d : MemberRef) (os more : List (Option Spot)) (o : Option Spot)
    → KeepNumbers old new → i < length rs → AreStarts places old class (map f (take i rs)) os → IsStart places new class (f (get_or rs i d)) o
    → more ≡ os ++ o ∷ [] → AreStarts places new class (map f (take (i + 1) rs)) more
starts_next f places old new class rs i d os more o kept lt starts start pushed =
    let all = zip_more (IsStart places new class) (map f (take i rs)) os (f (get_or rs i d)) o (starts_kept places old new class kept (map f (take i rs)) os starts) start in
    let with_one = subst (λ xs. AreStarts places new class xs (os ++ o ∷ [])) (sym (map_more f rs i d lt)) all in
    subst (λ ys. AreStarts places new class (map f (take (i + 1) rs)) ys) (sym pushed) with_one

-- ---- what the first flags say

module _ (classes : List ClassFact) (h : IsHierarchy classes) (class : List ℕ) (places numbers : TextNumbers) (flags : BTreeMap Spot Bool)
    (there : ArePlaces (names_above classes class) places) (kept : AreFlags numbers class (classes_above classes class) flags) where
  abbrev cs : List ClassFact
  cs = classes_above classes class

  named_any : (xs : List ClassFact) (b : List ℕ) → list_any (λ (d : ClassFact). bytes_eq d.name b) xs ≡ true → (p : ℕ) × (d : ClassFact) × (slice_get xs p ≡ Some d) × (d.name ≡ b)
  named_any [] b e = absurd (false≢true e)
  named_any (x ∷ xs) b e = by (bytes_eq x.name b) refl e (named_any xs b)
    where
      by : (t : Bool) → bytes_eq x.name b ≡ t → (t || list_any (λ (d : ClassFact). bytes_eq d.name b) xs) ≡ true
          → (list_any (λ (d : ClassFact). bytes_eq d.name b) xs ≡ true → (p : ℕ) × (d : ClassFact) × (slice_get xs p ≡ Some d) × (d.name ≡ b)) → (p : ℕ) × (d : ClassFact) × (slice_get (x ∷ xs) p ≡ Some d) × (d.name ≡ b)
      by true g e next = (zero, x, refl, (bytes_eq-Decides x.name b).0 g)
      by false g e next = let r = next e in (suc r.0, r.1, r.2, r.3)

  any_named : (xs : List ClassFact) (b : List ℕ) (p : ℕ) (d : ClassFact) → slice_get xs p ≡ Some d → d.name ≡ b → list_any (λ (d : ClassFact). bytes_eq d.name b) xs ≡ true
  any_named [] b p d e n = absurd (none_some e)
  any_named (x ∷ xs) b zero d e n = ap (λ t. t || list_any (λ (d : ClassFact). bytes_eq d.name b) xs) ((bytes_eq-Decides x.name b).1 (ap (λ (y : ClassFact). y.name) (some_same e) ∙ n))
  any_named (x ∷ xs) b (suc p) d e n = ap (λ t. bytes_eq x.name b || t) (any_named xs b p d e n) ∙ or_true (bytes_eq x.name b)
    where
      or_true : (t : Bool) → (t || true) ≡ true
      or_true true = refl
      or_true false = refl

  absent_some : {X : Type 0} (o : Option X) → o ≡ None → IsSome o → ⊥
  absent_some None e p = absurd (false≢true p)
  absent_some (Some x) e p = cc

  not_above : (b : List ℕ) → number_of places b ≡ None → list_any (λ (d : ClassFact). bytes_eq d.name b) cs ≡ false
  not_above b none = by (list_any (λ (d : ClassFact). bytes_eq d.name b) cs) refl
    where
      by : (t : Bool) → list_any (λ (d : ClassFact). bytes_eq d.name b) cs ≡ t → t ≡ false
      by true e =
          let r = named_any cs b e in
          absurd (absent_some (number_of places b) none (there.each r.0 b (slice_get-map (λ (d : ClassFact). d.name) cs r.0 ∙ ap (option_map (λ (d : ClassFact). d.name)) r.2 ∙ ap (λ n. Some n) r.3)))
      by false e = refl

  guarded_by : (r : MemberReference) (t u v : Bool) → bytes_eq class r.class ≡ t → on_chain (world_of classes) (length classes) class r.class ≡ u → is_protected_elsewhere class (nearest classes r) ≡ v
      → is_guarded classes class r ≡ (not t && (u && v))
  guarded_by r t u v e f g = rw (e, f, g) refl

  pub first_guards : (r : MemberReference) (o : Option Spot) → IsStart places numbers class r o → first_flag flags (length cs) o ≡ is_guarded classes class r
  first_guards r None (own e) = sym (guarded_by r true _ _ ((bytes_eq-Decides class r.class).1 e) refl refl)
  first_guards r None (outside e) = by (bytes_eq class r.class) refl
    where
      by : (t : Bool) → bytes_eq class r.class ≡ t → false ≡ is_guarded classes class r
      by true g = sym (guarded_by r true _ _ g refl refl)
      by false g = sym (guarded_by r false false _ g (chain_above classes h class r.class (λ same. false≢true (sym g ∙ (bytes_eq-Decides class r.class).1 same)) ∙ not_above r.class e) refl)
  first_guards r (Some s) (begins n p m) =
      let at = mapped (λ (d : ClassFact). d.name) (slice_get cs s.place) r.class (sym (slice_get-map (λ (d : ClassFact). d.name) cs s.place) ∙ there.leads r.class s.place p) in
      let inside = slice_get_within cs s.place at.0 at.1 in
      first_is numbers class cs flags kept r s m (length cs - s.place) s.place (omega arith)
      ∙ ap (is_protected_elsewhere class) (sym (nearest_above classes h class s.place at.0 r at.1 (sym at.2)))
      ∙ sym (guarded_by r false true _ (differs (bytes_eq class r.class) refl) (chain_above classes h class r.class n ∙ any_named cs r.class s.place at.0 at.1 at.2) refl)
    where
      differs : (t : Bool) → bytes_eq class r.class ≡ t → bytes_eq class r.class ≡ false
      differs true e = absurd (n ((bytes_eq-Decides class r.class).0 e))
      differs false e = e

  pub all_guards : {X : Type 0} (f : X → MemberReference) (rs : List X) (os : List (Option Spot)) → AreStarts places numbers class (map f rs) os
      → map (first_flag flags (length cs)) os ≡ map (λ x. is_guarded classes class (f x)) rs
  all_guards f [] [] a = refl
  all_guards f [] (o ∷ os) a = absurd a
  all_guards f (x ∷ rs) [] a = absurd a
  all_guards f (x ∷ rs) (o ∷ os) a = λ i. first_guards (f x) o a.0 i ∷ all_guards f rs os a.1 i

pub all_told : (r : Result (Vec Bool) AllocError) (xs ys : List Bool) → xs ≡ ys → IfOk r (λ v. v.items ≡ xs) → IfOk r (λ v. v.items ≡ ys)
all_told (Ok v) xs ys e h = h ∙ e
all_told (Err f) xs ys e h = h

pub as_many : (classes : List ClassFact) (class : List ℕ) (kept : List (Bor (List ℕ))) → names_of kept ≡ names_above classes class → length kept ≡ length (classes_above classes class)
as_many classes class kept e = sym (length-map kept (λ (n : Bor (List ℕ)). n.now)) ∙ ap length e ∙ length-map (classes_above classes class) (λ (c : ClassFact). c.name)
