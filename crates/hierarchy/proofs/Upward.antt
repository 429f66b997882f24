-- The classes above a class: how many they are, which names they have, and what the nearest of them declares.
use Rattle.std.proofs.Common.{◌≡◌, ◌||◌, ℕ, zero, suc, ◌+◌, ◌-◌, ◌<◌, ◌≤◌, Bool, true, false, List, [], ◌∷◌, get_or, length, map, slice_get, Option, Some, None, option_map, MatchOption, cond, refl, ap, sym, ◌∙◌, subst, arith}
use Rattle.std.specs.List.{list_any}
use Rattle.std.specs.Option.{option_and_then, option_map_or}
use Rattle.std.specs.Set.{is_member}
use Rattle.std.specs.Str.{bytes_eq}
use Rattle.std.proofs.lemmas.Bool.{true≢false}
use Rattle.std.proofs.lemmas.Cmp.{nat_list_eq_equiv}
use Rattle.std.proofs.lemmas.List.{length-map}
use Rattle.std.proofs.lemmas.Map.Keys.{IsDistinct-from_apart}
use Rattle.std.proofs.lemmas.Map.Made.{length-le_from_is_member}
use Rattle.std.proofs.lemmas.Option.{slice_get-get_or, slice_get-map}
use Rattle.std.proofs.lemmas.Slice.Eq.{bytes_eq-Decides}
use Rattle.names.specs.StandardNames.{object_name}
use Rattle.hierarchy.specs.private.Above.{class_above, upward, classes_above}
use Rattle.hierarchy.specs.Answer.{on_chain}
use Rattle.hierarchy.specs.Class.{ClassFact, class_of, entry_of, world_of}
use Rattle.hierarchy.specs.Rules.{IsHierarchy}
use Rattle.hierarchy.specs.World.{Entry, World, superclass_in, climb}
use Rattle.hierarchy.proofs.Ancestors.{climb_on}
use Rattle.hierarchy.proofs.Names.{found_class, mapped, none_some, some_same}
use Rattle.hierarchy.proofs.Worlds.{chain_of, up_from}

or_false : (b : Bool) → (b || false) ≡ b
or_false true = refl
or_false false = refl

unequal : (a b : List ℕ) → (a ≡ b → ⊥) → bytes_eq a b ≡ false
unequal a b n = by (bytes_eq a b) refl
  where
    by : (t : Bool) → bytes_eq a b ≡ t → t ≡ false
    by true e = absurd (n ((bytes_eq-Decides a b).0 e))
    by false e = refl

-- a name that classes have is among theirs
member_there : (q : List ℕ) (cs : List ClassFact) (c : ClassFact) → class_of cs q ≡ Some c → is_member bytes_eq (map (λ d. d.name) cs) q ≡ true
member_there q [] c e = cc
member_there q (d ∷ ds) c e = by (bytes_eq q d.name) e (member_there q ds c)
  where
    by : (t : Bool) → cond t (Some d) (class_of ds q) ≡ Some c → (class_of ds q ≡ Some c → is_member bytes_eq (map (λ d. d.name) ds) q ≡ true) → (t || is_member bytes_eq (map (λ d. d.name) ds) q) ≡ true
    by true e k = refl
    by false e k = k e

among : (q : List ℕ) (xs : List ClassFact) → is_member bytes_eq (map (λ d. d.name) xs) q ≡ true → (i : ℕ) × (d : ClassFact) × (slice_get xs i ≡ Some d) × (q ≡ d.name)
among q [] m = absurd (true≢false (sym m))
among q (x ∷ xs) m = by (bytes_eq q x.name) refl m (among q xs)
  where
    by : (t : Bool) → bytes_eq q x.name ≡ t → (t || is_member bytes_eq (map (λ d. d.name) xs) q) ≡ true
        → (is_member bytes_eq (map (λ d. d.name) xs) q ≡ true → (i : ℕ) × (d : ClassFact) × (slice_get xs i ≡ Some d) × (q ≡ d.name))
        → (i : ℕ) × (d : ClassFact) × (slice_get (x ∷ xs) i ≡ Some d) × (q ≡ d.name)
    by true g m k = (zero, x, refl, (bytes_eq-Decides q x.name).0 g)
    by false g m k = let r = k m in (suc r.0, r.1, r.2, r.3)

module _ (classes : List ClassFact) where
  abbrev world : World
  world = world_of classes

  -- the class of the list that has this name
  abbrev pub IsOwn : ClassFact → Type 0
  IsOwn c = class_of classes c.name ≡ Some c

  pub named : (a : List ℕ) (c : ClassFact) → class_of classes a ≡ Some c → c.name ≡ a
  named a c e = (found_class classes a c e).3

  pub found_own : (a : List ℕ) (c : ClassFact) → class_of classes a ≡ Some c → IsOwn c
  found_own a c e = ap (class_of classes) (named a c e) ∙ e

  pub own_above : (c : ClassFact) → IsOwn c → superclass_in world c.name ≡ c.superclass
  own_above c e = ap (λ o. option_and_then (λ (e : Entry). e.superclass) (option_map entry_of o)) e

  pub none_upward : (n : ℕ) → upward classes n None ≡ []
  none_upward zero = refl
  none_upward (suc n) = refl

  -- where fewer classes stand above than are looked for, more steps find no more
  pub settled : (n k : ℕ) (o : Option ClassFact) → n ≤ k → length (upward classes (suc n) o) ≤ n → upward classes k o ≡ upward classes n o
  settled zero k None h le = none_upward k
  settled zero k (Some c) h le = absurd (omega arith)
  settled (suc n) zero o h le = absurd (omega arith)
  settled (suc n) (suc k) None h le = refl
  settled (suc n) (suc k) (Some c) h le = ap (λ cs. c ∷ cs) (settled n k (class_above classes c) (omega arith) (omega arith))

  -- a class above is so many steps up, and one of the list
  pub reached : (n p : ℕ) (c d : ClassFact) → IsOwn c → slice_get (upward classes n (class_above classes c)) p ≡ Some d → (climb world (suc p) c.name ≡ Some d.name) × IsOwn d
  reached zero p c d e f = absurd (none_some f)
  reached (suc n) p c d e f = by c.superclass refl p f (λ q x. reached n q x d)
    where
      at : (s : List ℕ) → c.superclass ≡ Some s → (o : Option ClassFact) → class_of classes s ≡ o → (p : ℕ) → slice_get (upward classes (suc n) o) p ≡ Some d
          → ((q : ℕ) (x : ClassFact) → IsOwn x → slice_get (upward classes n (class_above classes x)) q ≡ Some d → (climb world (suc q) x.name ≡ Some d.name) × IsOwn d)
          → (climb world (suc p) c.name ≡ Some d.name) × IsOwn d
      at s g None h p f k = absurd (none_some f)
      at s g (Some x) h zero f k =
          let same : x ≡ d = some_same f in (
            ap (option_and_then (climb world 0)) (own_above c e ∙ g) ∙ ap (λ m. Some m) (sym (named s x h)) ∙ ap (λ (y : ClassFact). Some y.name) same,
            subst IsOwn same (found_own s x h),
          )
      at s g (Some x) h (suc p) f k =
          let r = k p x (found_own s x h) f in
          (ap (option_and_then (climb world (suc p))) (own_above c e ∙ g) ∙ ap (climb world (suc p)) (sym (named s x h)) ∙ r.0, r.1)

      by : (o : Option (List ℕ)) → c.superclass ≡ o → (p : ℕ) → slice_get (upward classes (suc n) (option_and_then (class_of classes) o)) p ≡ Some d
          → ((q : ℕ) (x : ClassFact) → IsOwn x → slice_get (upward classes n (class_above classes x)) q ≡ Some d → (climb world (suc q) x.name ≡ Some d.name) × IsOwn d)
          → (climb world (suc p) c.name ≡ Some d.name) × IsOwn d
      by None g p f k = absurd (none_some f)
      by (Some s) g p f k = at s g (class_of classes s) refl p f k

  standing : (n i : ℕ) (c d : ClassFact) → IsOwn c → slice_get (upward classes n (Some c)) i ≡ Some d → (climb world i c.name ≡ Some d.name) × IsOwn d
  standing zero i c d e f = absurd (none_some f)
  standing (suc n) zero c d e f =
      let same : c ≡ d = some_same f in
      (ap (λ (y : ClassFact). Some y.name) same, subst IsOwn same e)
  standing (suc n) (suc i) c d e f = reached n i c d e f

  -- ---- in a hierarchy

  module _ (h : IsHierarchy classes) where
    -- no class stands above itself
    apart : (c x y : ClassFact) (i j : ℕ) → i < j → climb world i c.name ≡ Some x.name → climb world j c.name ≡ Some y.name → IsOwn x → x.name ≡ y.name → ⊥
    apart c x y i j lt e f own same = h.acyclic at.0 at.1 x at.2 (s.0, sym (own_above x own) ∙ s.1, chain_of world m s.0 x.name s.2)
      where
        m : ℕ
        m = j - (i + 1)

        at : (k : ℕ) × (k < length classes) × (slice_get classes k ≡ Some x) × (x.name ≡ x.name)
        at = found_class classes x.name x own

        steps : i + suc m ≡ j
        steps = omega arith

        up : climb world (suc m) x.name ≡ Some x.name
        up = sym (climb_on world i (suc m) c.name x.name e) ∙ ap (λ k. climb world k c.name) steps ∙ f ∙ ap (λ a. Some a) (sym same)

        s : (t : List ℕ) × (superclass_in world x.name ≡ Some t) × (climb world m t ≡ Some x.name)
        s = up_from (superclass_in world x.name) (climb world m) x.name up

    -- a class and those above it are no more than there are
    pub no_more : (n : ℕ) (c : ClassFact) → IsOwn c → length (upward classes n (Some c)) ≤ length classes
    no_more n c e = omega (arith, few, length-map xs (λ (d : ClassFact). d.name), length-map classes (λ (d : ClassFact). d.name))
      where
        xs : List ClassFact
        xs = upward classes n (Some c)

        names : List (List ℕ)
        names = map (λ d. d.name) xs

        at : (i : ℕ) (d : List ℕ) → i < length names → (x : ClassFact) × (slice_get xs i ≡ Some x) × (x.name ≡ get_or names i d)
        at i d lt = mapped (λ (x : ClassFact). x.name) (slice_get xs i) (get_or names i d) (sym (slice_get-map (λ (x : ClassFact). x.name) xs i) ∙ slice_get-get_or names i d lt)

        differ : (i j : ℕ) (d : List ℕ) → i < j → j < length names → bytes_eq (get_or names i d) (get_or names j d) ≡ false
        differ i j d lt within =
            let x = at i d (omega arith) in
            let y = at j d within in
            let up = standing n i c x.0 e x.1 in
            unequal (get_or names i d) (get_or names j d) (λ same. apart c x.0 y.0 i j lt up.0 (standing n j c y.0 e y.1).0 up.1 (x.2 ∙ same ∙ sym y.2))

        inside : (q : List ℕ) → is_member bytes_eq names q ≡ true → is_member bytes_eq (map (λ d. d.name) classes) q ≡ true
        inside q m =
            let r = among q xs m in
            member_there q classes r.1 (ap (class_of classes) r.3 ∙ (standing n r.0 c r.1 e r.2).1)

        few : length names ≤ length (map (λ (d : ClassFact). d.name) classes)
        few = length-le_from_is_member nat_list_eq_equiv names (map (λ d. d.name) classes) (IsDistinct-from_apart bytes_eq names differ) inside

    -- the classes above a class are fewer than all
    pub few_above : (name : List ℕ) → length (classes_above classes name) ≤ length classes
    few_above name = by (class_of classes name) refl
      where
        by : (o : Option ClassFact) → class_of classes name ≡ o → length (upward classes (suc (length classes)) (option_and_then (class_above classes) o)) ≤ length classes
        by None e = omega arith
        by (Some c) e = let le = no_more (suc (suc (length classes))) c (found_own name c e) in omega (arith, le)

    pub above_own : (name : List ℕ) (p : ℕ) (d : ClassFact) → slice_get (classes_above classes name) p ≡ Some d → IsOwn d
    above_own name p d f = by (class_of classes name) refl f
      where
        by : (o : Option ClassFact) → class_of classes name ≡ o → slice_get (upward classes (suc (length classes)) (option_and_then (class_above classes) o)) p ≡ Some d → IsOwn d
        by None e f = absurd (none_some f)
        by (Some c) e f = (reached (suc (length classes)) p c d (found_own name c e) f).1

    -- the superclass of a class is in the list
    pub super_there : (c : ClassFact) (s : List ℕ) → IsOwn c → c.superclass ≡ Some s → class_of classes s ≡ None → ⊥
    super_there c s e g n = h.rooted at.0 at.1 c at.2 (is_object, rw g n)
      where
        at : (k : ℕ) × (k < length classes) × (slice_get classes k ≡ Some c) × (c.name ≡ c.name)
        at = found_class classes c.name c e

        object_super : (o : Option ClassFact) → o ≡ Some c → MatchOption o ⊥ (λ d. (d.interface ≡ false) × (d.superclass ≡ None)) → c.superclass ≡ None
        object_super None f m = absurd m
        object_super (Some d) f m = ap (λ (y : ClassFact). y.superclass) (sym (some_same f)) ∙ m.1

        is_object : c.name ≡ object_name → ⊥
        is_object same = none_some (sym (object_super (class_of classes object_name) (ap (class_of classes) (sym same) ∙ e) h.object) ∙ g)

    -- the names on the chain of a class are its own and those of the classes above
    pub chain_names : (n : ℕ) (c : ClassFact) (b : List ℕ) → IsOwn c → on_chain world n c.name b ≡ (bytes_eq c.name b || list_any (λ (d : ClassFact). bytes_eq d.name b) (upward classes n (class_above classes c)))
    chain_names zero c b e = sym (or_false (bytes_eq c.name b))
    chain_names (suc n) c b e = ap (λ t. bytes_eq c.name b || t) (ap (λ o. option_map_or (λ s. on_chain world n s b) o false) (own_above c e) ∙ by c.superclass refl (λ x. chain_names n x b))
      where
        at : (s : List ℕ) → c.superclass ≡ Some s → (o : Option ClassFact) → class_of classes s ≡ o
            → ((x : ClassFact) → IsOwn x → on_chain world n x.name b ≡ (bytes_eq x.name b || list_any (λ (d : ClassFact). bytes_eq d.name b) (upward classes n (class_above classes x))))
            → on_chain world n s b ≡ list_any (λ (d : ClassFact). bytes_eq d.name b) (upward classes (suc n) o)
        at s g None k next = absurd (super_there c s e g k)
        at s g (Some x) k next = ap (λ a. on_chain world n a b) (sym (named s x k)) ∙ next x (found_own s x k)

        by : (o : Option (List ℕ)) → c.superclass ≡ o
            → ((x : ClassFact) → IsOwn x → on_chain world n x.name b ≡ (bytes_eq x.name b || list_any (λ (d : ClassFact). bytes_eq d.name b) (upward classes n (class_above classes x))))
            → option_map_or (λ s. on_chain world n s b) o false ≡ list_any (λ (d : ClassFact). bytes_eq d.name b) (upward classes (suc n) (option_and_then (class_of classes) o))
        by None g next = refl
        by (Some s) g next = at s g (class_of classes s) refl next

    -- so is any name but its own that is on the chain of a class
    pub chain_above : (name b : List ℕ) → (name ≡ b → ⊥) → on_chain world (length classes) name b ≡ list_any (λ (d : ClassFact). bytes_eq d.name b) (classes_above classes name)
    chain_above name b n = by (class_of classes name) refl
      where
        alone : (k : ℕ) → class_of classes name ≡ None → on_chain world k name b ≡ false
        alone zero e = unequal name b n
        alone (suc k) e = rw (unequal name b n, e) refl

        by : (o : Option ClassFact) → class_of classes name ≡ o → on_chain world (length classes) name b ≡ list_any (λ (d : ClassFact). bytes_eq d.name b) (upward classes (suc (length classes)) (option_and_then (class_above classes) o))
        by None e = alone (length classes) e
        by (Some c) e =
            let own = found_own name c e in
            let le = no_more (suc (suc (length classes))) c own in
            let few : length (upward classes (suc (length classes)) (class_above classes c)) ≤ length classes = omega (arith, le) in
            ap (λ a. on_chain world (length classes) a b) (sym (named name c e)) ∙ chain_names (length classes) c b own
            ∙ ap (λ t. t || list_any (λ (d : ClassFact). bytes_eq d.name b) (upward classes (length classes) (class_above classes c))) (unequal c.name b (λ same. n (sym (named name c e) ∙ same)))
            ∙ ap (list_any (λ (d : ClassFact). bytes_eq d.name b)) (sym (settled (length classes) (suc (length classes)) (class_above classes c) (omega arith) few))
