-- Chains of superclasses: a class that can be reached is reached without passing a class twice.
use Rattle.std.proofs.lemmas.List.{length-map}
use Rattle.std.proofs.Common.{◌≡◌, ◌≢◌, ℕ, zero, suc, ◌≤◌, List, [], ◌∷◌, Bool, true, false, Option, Some, None, option_map, map, length, refl, ap, sym, ◌∙◌, subst, arith, cond, ◌||◌, ◌↔◌, IsTrue}
use Rattle.std.proofs.lemmas.Bool.{true≢false, false≢true}
use Rattle.std.specs.List.{IsDistinct, AllByRecursion, list_any}
use Rattle.std.specs.Set.{is_member}
use Rattle.std.specs.Str.{bytes_eq}
use Rattle.std.proofs.lemmas.Map.Made.{length-le_from_is_member}
use Rattle.std.proofs.lemmas.Map.Keys.{IsDistinct-tail, IsDistinct-cons}
use Rattle.std.proofs.lemmas.Cmp.{nat_list_eq_equiv}
use Rattle.std.proofs.lemmas.Slice.Eq.{bytes_eq-Decides}
use Rattle.std.specs.Option.{option_and_then}
use Rattle.hierarchy.specs.World.{Entry, same, above}
use Rattle.hierarchy.specs.Class.{ClassFact, class_of, entry_of, superclass_of, IsSubclass}

-- a chain of at most k steps
pub data IsWithin (classes : List ClassFact) : ℕ → List ℕ → List ℕ → Type 0 where
  here : {k : ℕ} {a : List ℕ} → IsWithin classes k a a
  up : {k : ℕ} {a s b : List ℕ} → superclass_of classes a ≡ Some s → IsWithin classes k s b → IsWithin classes (suc k) a b

-- the names that a chain passes, without its last
data Path (classes : List ClassFact) : List (List ℕ) → List ℕ → List ℕ → Type 0 where
  stop : {a : List ℕ} → Path classes [] a a
  go : {a s b : List ℕ} {xs : List (List ℕ)} → superclass_of classes a ≡ Some s → Path classes xs s b → Path classes (a ∷ xs) a b

none_passes : {X : Type 0} (p : X → Bool) (xs : List X) → list_any p xs ≡ false → AllByRecursion (λ y. p y ≡ false) xs
none_passes p [] h = tt
none_passes p (x ∷ xs) h = by (p x) refl h (none_passes p xs)
  where
    by : (t : Bool) → p x ≡ t → (t || list_any p xs) ≡ false → (list_any p xs ≡ false → AllByRecursion (λ y. p y ≡ false) xs) → AllByRecursion (λ y. p y ≡ false) (x ∷ xs)
    by true e h k = absurd (true≢false h)
    by false e h k = (e, k h)

found_member : (q : List ℕ) (classes : List ClassFact) (s : List ℕ) → superclass_of classes q ≡ Some s → is_member bytes_eq (map (λ d. d.name) classes) q ≡ true
found_member q [] s e = cc
found_member q (d ∷ ds) s e = by (bytes_eq q d.name) e (found_member q ds s)
  where
    by : (t : Bool) → option_and_then (λ (e : Entry). e.superclass) (option_map entry_of (cond t (Some d) (class_of ds q))) ≡ Some s → (superclass_of ds q ≡ Some s → is_member bytes_eq (map (λ d. d.name) ds) q ≡ true) → (t || is_member bytes_eq (map (λ d. d.name) ds) q) ≡ true
    by true e k = refl
    by false e k = k e

module _ (classes : List ClassFact) where
  -- a chain that passes no name twice
  record Simple (a b : List ℕ) : Type 0 where
    names : List (List ℕ)
    path : Path classes names a b
    distinct : IsDistinct bytes_eq names

  -- from a name that a chain passes, the rest of the chain
  rest : {a s b : List ℕ} {xs : List (List ℕ)} → Path classes xs s b → is_member bytes_eq xs a ≡ true → IsDistinct bytes_eq xs → Simple a b
  rest stop m d = absurd (false≢true m)
  rest {a} {b = b} (go {a = x} {xs = xs} e p) m d = by (bytes_eq a x) refl m (λ m. rest p m (IsDistinct-tail bytes_eq x xs d))
    where
      by : (t : Bool) → bytes_eq a x ≡ t → (t || is_member bytes_eq xs a) ≡ true → (is_member bytes_eq xs a ≡ true → Simple a b) → Simple a b
      by true h m k = subst (λ y. Simple y b) (sym ((bytes_eq-Decides a x).0 h)) (record { names = x ∷ xs; path = go e p; distinct = d })
      by false h m k = k m

  simple : {a b : List ℕ} → IsSubclass classes a b → Simple a b
  unfolding IsDistinct
  simple same = record { names = []; path = stop; distinct = tt }
  simple {a} {b} (above {s = s} e p) = by (simple p) (is_member bytes_eq (simple p).names a) refl
    where
      by : (r : Simple s b) (t : Bool) → is_member bytes_eq r.names a ≡ t → Simple a b
      by r true h = rest r.path h r.distinct
      by r false h = record { names = a ∷ r.names; path = go e r.path; distinct = IsDistinct-cons bytes_eq a r.names (none_passes (bytes_eq a) r.names h) r.distinct }

  within_path : {a b : List ℕ} {xs : List (List ℕ)} → Path classes xs a b → IsWithin classes (length xs) a b
  within_path stop = here
  within_path (go e p) = up e (within_path p)

  more_steps : {a b : List ℕ} {k : ℕ} (n : ℕ) → k ≤ n → IsWithin classes k a b → IsWithin classes n a b
  more_steps n h here = here
  more_steps zero h (up e p) = absurd (omega arith)
  more_steps (suc n) h (up e p) = up e (more_steps n (omega arith) p)

  -- each name that a chain passes is that of a class
  members : {a b : List ℕ} {xs : List (List ℕ)} → Path classes xs a b → (q : List ℕ) → is_member bytes_eq xs q ≡ true → is_member bytes_eq (map (λ c. c.name) classes) q ≡ true
  members stop q m = absurd (false≢true m)
  members (go {a = x} {s = s} {xs = xs} e p) q m = by (bytes_eq q x) refl m (members p q)
    where
      by : (t : Bool) → bytes_eq q x ≡ t → (t || is_member bytes_eq xs q) ≡ true → (is_member bytes_eq xs q ≡ true → is_member bytes_eq (map (λ d. d.name) classes) q ≡ true) → is_member bytes_eq (map (λ d. d.name) classes) q ≡ true
      by true h m k = found_member q classes s (ap (superclass_of classes) ((bytes_eq-Decides q x).0 h) ∙ e)
      by false h m k = k m

  -- a chain has no more steps than there are classes
  pub shorten : {a b : List ℕ} → IsSubclass classes a b → IsWithin classes (length classes) a b
  shorten p =
      let r = simple p in
      let h : length r.names ≤ length (map (λ (c : ClassFact). c.name) classes) = length-le_from_is_member nat_list_eq_equiv r.names (map (λ c. c.name) classes) r.distinct (members r.path) in
      let e = length-map classes (λ (c : ClassFact). c.name) in
      more_steps (length classes) (omega arith) (within_path r.path)

  pub within_zero : {a b : List ℕ} → IsWithin classes zero a b → a ≡ b
  within_zero here = refl

  -- no superclass: only the class itself
  pub within_top : {k : ℕ} {a b : List ℕ} → superclass_of classes a ≡ None → IsWithin classes k a b → a ≡ b
  within_top e here = refl
  within_top e (up f p) = absurd (apart e f)
    where
      apart : {X : Type 0} {o : Option X} {x : X} → o ≡ None → o ≡ Some x → ⊥
      apart e f = cc

  pub within_up : {k : ℕ} {a s b : List ℕ} → superclass_of classes a ≡ Some s → a ≢ b → IsWithin classes (suc k) a b → IsWithin classes k s b
  within_up e n here = absurd (n refl)
  within_up {b = b} e n (up {k = k} f p) = subst (λ x. IsWithin classes k x b) (agree f e) p
    where
      agree : {X : Type 0} {o : Option X} {x y : X} → o ≡ Some x → o ≡ Some y → x ≡ y
      agree e f = cc

-- what the walk knows at the class `at`, with k steps left
module _ (classes : List ClassFact) (from at to : List ℕ) (k : ℕ) (upward : IsSubclass classes at to → IsSubclass classes from to) (onward : IsWithin classes (length classes) from to → IsWithin classes k at to) where
  pub walk_yes : at ≡ to → IsTrue true ↔ IsSubclass classes from to
  walk_yes e = (λ _. upward (subst (λ x. IsSubclass classes at x) e same), λ _. refl)

  pub walk_no : superclass_of classes at ≡ None → at ≢ to → IsTrue false ↔ IsSubclass classes from to
  walk_no e n = (λ h. absurd (false≢true h), λ p. absurd (n (within_top classes e (onward (shorten classes p)))))

  pub walk_more : (s : List ℕ) (m : ℕ) → superclass_of classes at ≡ Some s → at ≢ to → k ≡ suc m →
      (IsSubclass classes s to → IsSubclass classes from to) × (IsWithin classes (length classes) from to → IsWithin classes m s to)
  walk_more s m e n h = (λ p. upward (above e p), λ w. within_up classes e n (subst (λ j. IsWithin classes j at to) h (onward w)))

  pub walk_end : (b : Bool) → b ≡ bytes_eq at to → k ≡ 0 → IsTrue b ↔ IsSubclass classes from to
  walk_end true e h = walk_yes ((bytes_eq-Decides at to).0 (sym e))
  walk_end false e h = (λ g. absurd (false≢true g), λ p. absurd (false≢true (e ∙ (bytes_eq-Decides at to).1 (within_zero classes (subst (λ j. IsWithin classes j at to) h (onward (shorten classes p)))))))
