-- The classes of other names, one after the other; a class in front of others, and which of them stand behind it.
use Rattle.std.proofs.Common.{◌≡◌, option_map, map, ℕ, zero, suc, ◌+◌, ◌^◌, ◌<◌, List, [], ◌∷◌, ◌++◌, take, filter, slice_get, Bool, true, false, ◌&&◌, cond, not, Option, Some, None, is_some, Result, Ok, Err, inl, inr, refl, sym, ap, ◌∙◌, arith}
use Rattle.std.specs.List.{list_all}
use Rattle.std.specs.Option.{option_and_then, option_map_or}
use Rattle.std.specs.Str.{bytes_eq}
use Rattle.std.proofs.lemmas.List.Elements.{filter-append}
use Rattle.std.proofs.lemmas.Slice.Eq.{bytes_eq-Decides}
use Rattle.classfile.proofs.Places.{take_one_more}
use Rattle.classfile.specs.Methods.{JudgedClass}
use Rattle.classfile.specs.Values.{Class}
use Rattle.classfile.specs.declared.profile.Profile.{Profile}
use Rattle.hierarchy.specs.Class.{ClassFact, class_of}
use Rattle.hierarchy.proofs.Names.{none_some, some_same}
use Rattle.verify.specs.Among.{AnswersAmong}
use Rattle.verify.specs.Beside.{standing_beside, AnswersBeside, IsOfNoKnown}
use Rattle.verify.specs.Each.{with_class}
use Rattle.verify.specs.Files.{Read, IsFormed}
use Rattle.verify.specs.declared.known_classes.AmongFault.{AmongFault}
use Rattle.verify.specs.declared.known_classes.AmongFault.TheVariants as amongs
use Rattle.verify.specs.private.EachSteps.{ArePlaced, place_kept}
use Rattle.verify.proofs.Standings.{Places}
use Rattle.verify.specs.Standing.{is_root, onward, ahead, stands}
use Rattle.hierarchy.specs.Summary.{fact_of, facts_of}
use Rattle.hierarchy.specs.declared.summary.Summary.{Summary}
use Rattle.std.proofs.lemmas.Option.{slice_get-map}

abbrev is_other : List ℕ → ClassFact → Bool
is_other name c = not (bytes_eq name c.name)

pub not_true : (b : Bool) → not b ≡ true → b ≡ false
not_true false e = refl
not_true true e = absurd cc

pub not_false : (b : Bool) → not b ≡ false → b ≡ true
not_false true e = refl
not_false false e = absurd cc

absent_in : (name : List ℕ) (p : ClassFact → Bool) (xs : List ClassFact) → ((j : ℕ) (d : ClassFact) → slice_get xs j ≡ Some d → d.name ≡ name → ⊥) → class_of (filter p xs) name ≡ None
absent_in name p [] h = refl
absent_in name p (x ∷ xs) h = by (p x) (bytes_eq name x.name) refl (absent_in name p xs (λ j d. h (suc j) d))
  where
    by : (q b : Bool) → bytes_eq name x.name ≡ b → class_of (filter p xs) name ≡ None → class_of (cond q (x ∷ filter p xs) (filter p xs)) name ≡ None
    by false b e rest = rest
    by true true e rest = absurd (h zero x refl (sym ((bytes_eq-Decides name x.name).0 e)))
    by true false e rest = ap (λ b. cond b (Some x) (class_of (filter p xs) name)) e ∙ rest

front_of : (xs : List ClassFact) (n j : ℕ) (d : ClassFact) → slice_get (take n xs) j ≡ Some d → (j < n) × (slice_get xs j ≡ Some d)
front_of xs zero j d e = absurd (none_some e)
front_of [] (suc n) j d e = absurd (none_some e)
front_of (x ∷ xs) (suc n) zero d e = (omega arith, e)
front_of (x ∷ xs) (suc n) (suc j) d e = let (lt, there) = front_of xs n j d e in (omega (arith, lt), there)

module _ (all : List ClassFact) (places : Places) (placed : ArePlaced all places) (n : ℕ) (c : ClassFact) (here : slice_get all n ≡ Some c) (name : List ℕ) where
  clash : (j : ℕ) (d : ClassFact) → slice_get (take n all) j ≡ Some d → d.name ≡ c.name → ⊥
  clash j d at same =
      let (lt, there) = front_of all n j d at in
      let one : j ≡ n = some_same (sym (placed.each j d there) ∙ ap (place_kept places) same ∙ placed.each n c here) in
      omega (arith, lt, one)

  -- no class in front has its name, so it is put after them
  pub next_other : bytes_eq name c.name ≡ false → with_class (filter (is_other name) (take n all)) c ≡ filter (is_other name) (take (n + 1) all)
  next_other e =
      let front = filter (is_other name) (take n all) in
      ap (λ o. cond (is_some o) front (front ++ c ∷ [])) (absent_in c.name (is_other name) (take n all) clash)
      ∙ ap (λ b. front ++ cond (not b) (c ∷ []) []) (sym e)
      ∙ sym (filter-append (is_other name) (take n all) (c ∷ [])) ∙ ap (filter (is_other name)) (sym (take_one_more all n c here))

  -- it is left out
  pub left_out : bytes_eq name c.name ≡ true → filter (is_other name) (take n all) ≡ filter (is_other name) (take (n + 1) all)
  left_out e =
      let front = filter (is_other name) (take n all) in
      sym (append_none front) ∙ ap (λ b. front ++ cond (not b) (c ∷ []) []) (sym e)
      ∙ sym (filter-append (is_other name) (take n all) (c ∷ [])) ∙ ap (filter (is_other name)) (sym (take_one_more all n c here))
    where
      append_none : (xs : List ClassFact) → xs ++ [] ≡ xs
      append_none [] = refl
      append_none (x ∷ xs) = ap (λ ys. x ∷ ys) (append_none xs)

-- ---- a class in front of others

with_behind : (front d : ClassFact) (xs : List ClassFact) → bytes_eq d.name front.name ≡ false → with_class (front ∷ xs) d ≡ front ∷ with_class xs d
with_behind front d xs e =
    ap (λ b. cond (is_some (cond b (Some front) (class_of xs d.name))) (front ∷ xs) (front ∷ (xs ++ d ∷ []))) e ∙ by (is_some (class_of xs d.name))
  where
    by : (b : Bool) → cond b (front ∷ xs) (front ∷ (xs ++ d ∷ [])) ≡ front ∷ cond b xs (xs ++ d ∷ [])
    by true = refl
    by false = refl

apart : false ≡ true → ⊥
apart e = cc

other_way : (x y : List ℕ) → bytes_eq x y ≡ false → bytes_eq y x ≡ false
other_way x y e = by (bytes_eq y x) refl
  where
    by : (b : Bool) → bytes_eq y x ≡ b → b ≡ false
    by false f = refl
    by true f = absurd (apart (sym e ∙ (bytes_eq-Decides x y).1 (sym ((bytes_eq-Decides y x).0 f))))

-- one more class behind it, unless it has its name
pub next_behind : (all : List ClassFact) (places : Places) → ArePlaced all places → (n : ℕ) (d : ClassFact) → slice_get all n ≡ Some d → (front : ClassFact)
    → with_class (front ∷ filter (is_other front.name) (take n all)) d ≡ front ∷ filter (is_other front.name) (take (n + 1) all)
next_behind all places placed n d here front = by (bytes_eq front.name d.name) refl
  where
    rest : List ClassFact
    rest = filter (is_other front.name) (take n all)

    by : (b : Bool) → bytes_eq front.name d.name ≡ b → with_class (front ∷ filter (is_other front.name) (take n all)) d ≡ front ∷ filter (is_other front.name) (take (n + 1) all)
    by true e =
        ap (λ b. cond (is_some (cond b (Some front) (class_of rest d.name))) (front ∷ rest) (front ∷ (rest ++ d ∷ []))) ((bytes_eq-Decides d.name front.name).1 (sym ((bytes_eq-Decides front.name d.name).0 e)))
        ∙ ap (λ xs. front ∷ xs) (left_out all places placed n d here front.name e)
    by false e =
        with_behind front d rest (other_way front.name d.name e) ∙ ap (λ xs. front ∷ xs) (next_other all places placed n d here front.name e)

-- ---- which stand behind it

-- the first, and of the others those of which this holds
abbrev pub first_and : (ClassFact → Bool) → List ClassFact → List ClassFact
first_and p [] = []
first_and p (x ∷ xs) = x ∷ filter p xs

pub first_next : (p : ClassFact → Bool) (all : List ClassFact) (n : ℕ) (d : ClassFact) → slice_get all n ≡ Some d → n ≡ 0 → first_and p (take n all) ++ d ∷ [] ≡ first_and p (take (n + 1) all)
first_next p [] n d here first = absurd (none_some here)
first_next p (x ∷ xs) zero d here first = ap (λ y. y ∷ []) (sym (some_same here))
first_next p (x ∷ xs) (suc n) d here first = absurd (omega (arith, first))

pub later_next : (p : ClassFact → Bool) (all : List ClassFact) (n : ℕ) (d : ClassFact) (b : Bool) → slice_get all n ≡ Some d → (n ≡ 0 → ⊥) → b ≡ p d
    → first_and p (take n all) ++ cond b (d ∷ []) [] ≡ first_and p (take (n + 1) all)
later_next p all zero d b here later e = absurd (later refl)
later_next p [] (suc n) d b here later e = absurd (none_some here)
later_next p (x ∷ xs) (suc n) d b here later e =
    let count : suc n + 1 ≡ suc (n + 1) = omega arith in
    ap (λ b. x ∷ (filter p (take n xs) ++ cond b (d ∷ []) [])) e
    ∙ ap (λ ys. x ∷ ys) (sym (filter-append p (take n xs) (d ∷ [])) ∙ ap (filter p) (sym (take_one_more xs n d here)))
    ∙ ap (λ k. first_and p (take k (x ∷ xs))) (sym count)

-- the mark of a class
pub marked_at : (p : ClassFact → Bool) (items : List Summary) (marks : List Bool) → marks ≡ map p (facts_of items) → (n : ℕ) (class : Summary) (b : Bool)
    → slice_get items n ≡ Some class → slice_get marks n ≡ Some b → (slice_get (facts_of items) n ≡ Some (fact_of class)) × (b ≡ p (fact_of class))
marked_at p items marks which n class b there at =
    let all = facts_of items in
    let here : slice_get all n ≡ Some (fact_of class) = slice_get-map fact_of items n ∙ ap (option_map fact_of) there in
    (here, some_same (sym at ∙ ap (λ t. slice_get t n) which ∙ slice_get-map p all n ∙ ap (option_map p) here))

-- ---- all of them, where all stand without it and none has its name

none_other : (name : List ℕ) (xs : List ClassFact) → class_of xs name ≡ None → filter (is_other name) xs ≡ xs
none_other name [] e = refl
none_other name (x ∷ xs) e = by (bytes_eq name x.name) (none_other name xs) e
  where
    by : (b : Bool) → (class_of xs name ≡ None → filter (is_other name) xs ≡ xs) → cond b (Some x) (class_of xs name) ≡ None
        → cond (not b) (x ∷ filter (is_other name) xs) (filter (is_other name) xs) ≡ x ∷ xs
    by true rest f = absurd (none_some (sym f))
    by false rest f = ap (λ ys. x ∷ ys) (rest f)

module _ (classes : List ClassFact) (c : ClassFact) (none : class_of classes c.name ≡ None) where
  found_behind : (name : List ℕ) (d : ClassFact) → class_of classes name ≡ Some d → class_of (c ∷ classes) name ≡ Some d
  found_behind name d e = by (bytes_eq name c.name) refl
    where
      by : (b : Bool) → bytes_eq name c.name ≡ b → cond b (Some c) (class_of classes name) ≡ Some d
      by true f = absurd (none_some (sym none ∙ ap (class_of classes) (sym ((bytes_eq-Decides name c.name).0 f)) ∙ e))
      by false f = e

  -- a chain goes on behind it as it did
  ahead_behind : (n : ℕ) (d e : ClassFact) → ahead classes n d ≡ Some e → ahead (c ∷ classes) n d ≡ Some e
  ahead_behind zero d e is = is
  ahead_behind (suc n) d e is = by (onward d) (λ x. ahead_behind n x e) is
    where
      found : (name : List ℕ) (x : Option ClassFact) → ((y : ClassFact) → ahead classes n y ≡ Some e → ahead (c ∷ classes) n y ≡ Some e) → class_of classes name ≡ x
          → option_and_then (ahead classes n) x ≡ Some e → option_and_then (ahead (c ∷ classes) n) (class_of (c ∷ classes) name) ≡ Some e
      found name None rest f g = absurd (none_some g)
      found name (Some x) rest f g = ap (option_and_then (ahead (c ∷ classes) n)) (found_behind name x f) ∙ rest x g

      by : (o : Option (List ℕ)) → ((y : ClassFact) → ahead classes n y ≡ Some e → ahead (c ∷ classes) n y ≡ Some e)
          → option_and_then (ahead classes n) (option_and_then (class_of classes) o) ≡ Some e
          → option_and_then (ahead (c ∷ classes) n) (option_and_then (class_of (c ∷ classes)) o) ≡ Some e
      by None rest g = absurd (none_some g)
      by (Some name) rest g = found name (class_of classes name) rest refl g

  rooted_behind : (n : ℕ) (d : ClassFact) → option_map_or is_root (ahead classes n d) false ≡ true → option_map_or is_root (ahead (c ∷ classes) n d) false ≡ true
  rooted_behind n d e = by (ahead classes n d) refl e
    where
      by : (o : Option ClassFact) → ahead classes n d ≡ o → option_map_or is_root o false ≡ true → option_map_or is_root (ahead (c ∷ classes) n d) false ≡ true
      by None f g = absurd (apart g)
      by (Some r) f g = ap (λ o. option_map_or is_root o false) (ahead_behind n d r f) ∙ g

  stands_behind : (d : ClassFact) → stands classes d ≡ true → stands (c ∷ classes) d ≡ true
  stands_behind d e = rooted_behind (2 ^ 16) d e

  all_behind : (xs : List ClassFact) → list_all (stands classes) xs ≡ true → filter (stands (c ∷ classes)) xs ≡ xs
  all_behind [] e = refl
  all_behind (x ∷ xs) e =
      let (first, rest) = both (stands classes x) (list_all (stands classes) xs) e in
      ap (λ b. cond b (x ∷ filter (stands (c ∷ classes)) xs) (filter (stands (c ∷ classes)) xs)) (stands_behind x first) ∙ ap (λ ys. x ∷ ys) (all_behind xs rest)
    where
      both : (p q : Bool) → (p && q) ≡ true → (p ≡ true) × (q ≡ true)
      both true true e = (refl, refl)
      both true false e = absurd (apart e)
      both false q e = absurd (apart e)

  pub all_beside : list_all (stands classes) classes ≡ true → standing_beside c classes ≡ classes
  all_beside e = ap (λ xs. filter (stands (c ∷ xs)) xs) (none_other c.name classes none) ∙ all_behind classes e

-- ---- without known files no known file is at fault

pub none_known : {R : Type 0} (P : List ClassFact → JudgedClass → R → Type 0) (profile : Profile) (read : Read) (fault : AmongFault) → AnswersAmong P profile read [] (Err fault) → IsOfNoKnown fault
none_known P profile read amongs.OutOfMemory p = tt
none_known P profile read (amongs.Refused fault) p = tt
none_known P profile read (amongs.KnownRefused number fault) (c, i, formed, e, first) = absurd (none_some first.here)
none_known P profile read (amongs.NoHierarchy fault) p = tt
none_known P profile read (amongs.Final rule) p = tt

-- ---- the files that go with a class

module _ {R : Type 0} (P : List ClassFact → JudgedClass → R → Type 0) (profile : Profile) (read : Read) (beside : Class → List Read) where
  -- the file is refused, or memory ran out
  pub beside_refused : (fault : AmongFault) → ((known : List Read) → AnswersAmong P profile read known (Err fault)) → AnswersBeside P profile read beside (Err fault)
  beside_refused amongs.OutOfMemory p = tt
  beside_refused (amongs.Refused fault) p = ([], inl (fault, p [], refl), p [])
  beside_refused (amongs.KnownRefused number fault) p = let (c, i, formed, e, first) = p [] in absurd (none_some first.here)
  beside_refused (amongs.NoHierarchy fault) p = let (c, cs, formed, none, why, more) = p [] in (beside c, inr (c, formed, refl), p (beside c))
  beside_refused (amongs.Final rule) p = let (c, cs, formed, none, why, more) = p [] in (beside c, inr (c, formed, refl), p (beside c))

  pub beside_formed : (c : Class) → IsFormed read c → (r : Result R AmongFault) → AnswersAmong P profile read (beside c) r → AnswersBeside P profile read beside r
  beside_formed c formed (Ok x) p = (beside c, inr (c, formed, refl), p)
  beside_formed c formed (Err amongs.OutOfMemory) p = tt
  beside_formed c formed (Err (amongs.Refused fault)) p = (beside c, inr (c, formed, refl), p)
  beside_formed c formed (Err (amongs.KnownRefused number fault)) p = (beside c, inr (c, formed, refl), p)
  beside_formed c formed (Err (amongs.NoHierarchy fault)) p = (beside c, inr (c, formed, refl), p)
  beside_formed c formed (Err (amongs.Final rule)) p = (beside c, inr (c, formed, refl), p)

-- a fault is one whatever is returned otherwise
pub same_fault_beside : {R S : Type 0} (P : List ClassFact → JudgedClass → R → Type 0) (Q : List ClassFact → JudgedClass → S → Type 0) (profile : Profile) (read : Read) (beside : Class → List Read) (fault : AmongFault)
    → AnswersBeside P profile read beside (Err fault) → AnswersBeside Q profile read beside (Err fault)
same_fault_beside P Q profile read beside amongs.OutOfMemory p = p
same_fault_beside P Q profile read beside (amongs.Refused fault) p = p
same_fault_beside P Q profile read beside (amongs.KnownRefused number fault) p = p
same_fault_beside P Q profile read beside (amongs.NoHierarchy fault) p = p
same_fault_beside P Q profile read beside (amongs.Final rule) p = p
