-- Versions: the value at an index by the nodes on the way to it, and what a node more leaves as it was.
use Rattle.std.proofs.Common.{◌≡◌, ◌==◌, ℕ, zero, suc, ◌+◌, ◌-◌, ◌/◌, ◌%◌, ◌<◌, ◌≤◌, Bool, true, false, cond, List, [], ◌∷◌, ◌++◌, length, get_or, Result, IfOk, refl, ap, sym, ◌∙◌, subst, inl, inr, ◌⊎◌, arith}
use Rattle.std.specs.declared.alloc.AllocError.{AllocError}
use Rattle.std.proofs.lemmas.Bool.{eq-eqb, ne_eqb, cases_eq}
use Rattle.std.proofs.lemmas.List.{get_or_append_left, get_or_push, get_or_read, length_push}
use Rattle.std.proofs.lemmas.Result.{IfOk-weaker}
use Rattle.hierarchy.specs.declared.versions.Node.{Node}
use Rattle.hierarchy.specs.declared.versions.Versions.{Versions}
use Rattle.hierarchy.specs.private.Versions.{node_at, node_below, value_in, value_at, IsVersion, AreVersions, IsAdded, Puts}

-- ---- the way to an index

-- more looks than the index asks for find no other value
enough : (nodes : List Node) (n m v i : ℕ) → i ≤ n → i ≤ m → value_in nodes n v i ≡ value_in nodes m v i
enough nodes zero zero v i a b = refl
enough nodes zero (suc m) v zero a b = refl
enough nodes zero (suc m) v (suc i) a b = absurd (omega arith)
enough nodes (suc n) zero v zero a b = refl
enough nodes (suc n) zero v (suc i) a b = absurd (omega arith)
enough nodes (suc n) (suc m) v zero a b = refl
enough nodes (suc n) (suc m) v (suc i) a b = enough nodes n m (node_below (node_at nodes v) (suc i)) (i / 2) (omega arith) (omega arith)

module _ (nodes : List Node) (v : ℕ) where
  -- the node below has the value at the index halved
  pub down : (i : ℕ) → 0 < i → value_in nodes i v i ≡ value_in nodes ((i - 1) / 2) (node_below (node_at nodes v) i) ((i - 1) / 2)
  down zero p = absurd (omega arith)
  down (suc i) p =
      let back : i ≡ suc i - 1 = omega arith in
      enough nodes i (i / 2) (node_below (node_at nodes v) (suc i)) (i / 2) (omega arith) (omega arith)
      ∙ ap (λ k. value_in nodes (k / 2) (node_below (node_at nodes v) (suc i)) (k / 2)) back

pub at_odd : (node : Node) (i : ℕ) → i % 2 ≡ 1 → node_below node i ≡ node.odd
at_odd node i e = ap (λ b. cond b node.odd node.even) (eq-eqb (i % 2) 1 e)

pub at_even : (node : Node) (i : ℕ) → (i % 2 ≡ 1 → ⊥) → node_below node i ≡ node.even
at_even node i n = ap (λ b. cond b node.odd node.even) (ne_eqb (i % 2) 1 n)

-- the node below is there where both are
below_there : (node : Node) (i n : ℕ) → node.odd < n → node.even < n → node_below node i < n
below_there node i n p q = by (i % 2 == 1)
  where
    by : (b : Bool) → cond b node.odd node.even < n
    by true = p
    by false = q

pub next_there : (vs : Versions) → AreVersions vs → (v i : ℕ) → IsVersion vs v → IsVersion vs (node_below (node_at vs.nodes.items v) i)
next_there vs good v i p = below_there (node_at vs.nodes.items v) i (length vs.nodes.items) (good.odd v p) (good.even v p)

-- ---- zeros

module _ (vs : Versions) (is : vs.nodes.items ≡ record { value = 0; odd = 0; even = 0 } ∷ []) where
  abbrev alone : List Node
  alone = record { value = 0; odd = 0; even = 0 } ∷ []

  zero_below : (i : ℕ) → node_below (node_at alone 0) i ≡ 0
  zero_below i = by (i % 2 == 1)
    where
      by : (b : Bool) → cond b (node_at alone 0).odd (node_at alone 0).even ≡ 0
      by true = refl
      by false = refl

  all_zero : (n i : ℕ) → value_in alone n 0 i ≡ 0
  all_zero zero i = refl
  all_zero (suc n) zero = refl
  all_zero (suc n) (suc i) = ap (λ v. value_in alone n v (i / 2)) (zero_below (suc i)) ∙ all_zero n (i / 2)

  long : length vs.nodes.items ≡ 1
  long = ap length is

  first : (v : ℕ) → IsVersion vs v → v ≡ 0
  first v p = let l = long in omega arith

  pub zeros : AreVersions vs × IsVersion vs 0 × ((i : ℕ) → value_at vs 0 i ≡ 0)
  zeros = (record { odd = λ v p. there (λ (x : Node). x.odd) v p refl; even = λ v p. there (λ (x : Node). x.even) v p refl }, (let l = long in omega arith), λ i. ap (λ xs. value_in xs i 0 i) is ∙ all_zero i i)
    where
      there : (f : Node → ℕ) (v : ℕ) → IsVersion vs v → f (node_at alone 0) ≡ 0 → IsVersion vs (f (node_at vs.nodes.items v))
      there f v p e =
          let l = long in
          let k : f (node_at vs.nodes.items v) ≡ 0 = ap (λ n. f (node_at vs.nodes.items n)) (first v p) ∙ ap (λ xs. f (node_at xs 0)) is ∙ e in
          omega arith

-- ---- a node more

module _ (old new : Versions) (node : Node) (made : ℕ) (good : AreVersions old) (odd : IsVersion old node.odd) (even : IsVersion old node.even)
    (is_made : made ≡ length old.nodes.items) (is : new.nodes.items ≡ old.nodes.items ++ node ∷ []) where
  abbrev xs : List Node
  xs = old.nodes.items

  abbrev ys : List Node
  ys = old.nodes.items ++ node ∷ []

  one_longer : length new.nodes.items ≡ length xs + 1
  one_longer = ap length is ∙ length_push xs node

  stay : (v : ℕ) → IsVersion old v → IsVersion new v
  stay v p = let l = one_longer in omega arith

  same_node : (v : ℕ) → v < length xs → node_at ys v ≡ node_at xs v
  same_node v p = get_or_append_left xs (node ∷ []) (record { value = 0; odd = 0; even = 0 }) v p

  new_node : node_at ys made ≡ node
  new_node = get_or_push xs node (record { value = 0; odd = 0; even = 0 }) made (sym is_made)

  same_values : (n v i : ℕ) → v < length xs → value_in ys n v i ≡ value_in xs n v i
  same_values zero v i p = ap (λ (x : Node). x.value) (same_node v p)
  same_values (suc n) v zero p = ap (λ (x : Node). x.value) (same_node v p)
  same_values (suc n) v (suc i) p =
      ap (λ (x : Node). value_in ys n (node_below x (suc i)) (i / 2)) (same_node v p)
      ∙ same_values n (node_below (node_at xs v) (suc i)) (i / 2) (next_there old good v (suc i) p)

  by_node : (f : Node → ℕ) → f node < length xs → ((v : ℕ) → v < length xs → f (node_at xs v) < length xs) → (v : ℕ) → IsVersion new v → IsVersion new (f (node_at new.nodes.items v))
  by_node f here others v p = subst (λ zs. f (node_at zs v) < length new.nodes.items) (sym is) (by (cases_eq v made))
    where
      by : (v ≡ made) ⊎ (v ≡ made → ⊥) → f (node_at ys v) < length new.nodes.items
      by (inl e) =
          let l = one_longer in
          let k : f (node_at ys v) ≡ f node = ap (λ n. f (node_at ys n)) e ∙ ap f new_node in
          omega arith
      by (inr apart) =
          let l = one_longer in
          let within : v < length xs = omega arith in
          let k : f (node_at ys v) ≡ f (node_at xs v) = ap f (same_node v within) in
          let o = others v within in
          omega arith

  pub added : IsAdded old new node made
  added = record {
    version = let l = one_longer in omega arith;
    own = ap (λ zs. value_in zs 0 made 0) is ∙ ap (λ (x : Node). x.value) new_node;
    further = λ i p.
        ap (λ zs. value_in zs i made i) is ∙ down ys made i p
        ∙ ap (λ (x : Node). value_in ys ((i - 1) / 2) (node_below x i) ((i - 1) / 2)) new_node
        ∙ same_values ((i - 1) / 2) (node_below node i) ((i - 1) / 2) (below_there node i (length xs) odd even);
    kept = λ v p j. ap (λ zs. value_in zs j v j) is ∙ same_values j v j p;
    stays = stay;
    good = record { odd = by_node (λ (x : Node). x.odd) odd good.odd; even = by_node (λ (x : Node). x.even) even good.even };
  }

-- ---- a value put

-- the node is pushed, and the version that was made begins there
abbrev pub IsPushed : Versions → Versions → Node → ℕ → Type 0
IsPushed old new node made = (made ≡ length old.nodes.items) × (new.nodes.items ≡ old.nodes.items ++ node ∷ [])

by_parity : (node : Node) (i j : ℕ) → i % 2 ≡ j % 2 → node_below node i ≡ node_below node j
by_parity node i j e = ap (λ b. cond (b == 1) node.odd node.even) e

module _ (old mid new : Versions) (from value made : ℕ) (good : AreVersions old) (there : IsVersion old from) where
  abbrev node : Node
  node = node_at old.nodes.items from

  -- the value is put at index 0
  put_here : IsPushed old new (record { value = value; odd = node.odd; even = node.even }) made → Puts old new from 0 value made
  put_here pushed = record {
    version = a.version;
    here = a.own;
    others = λ j apart. let some : 0 < j = omega arith in a.further j some ∙ sym (down old.nodes.items from j some);
    kept = a.kept;
    stays = a.stays;
    good = a.good;
  }
    where
      a : IsAdded old new (record { value = value; odd = node.odd; even = node.even }) made
      a = added old new (record { value = value; odd = node.odd; even = node.even }) made good (good.odd from there) (good.even from there) pushed.0 pushed.1

  module _ (index below : ℕ) (some : 0 < index) where
    -- the value is put in the version below, and the new version below takes the place of that one
    put_below : (next : Node) → next.value ≡ node.value → node_below next index ≡ below → ((j : ℕ) → (j % 2 ≡ index % 2 → ⊥) → node_below next j ≡ node_below node j)
        → IsVersion mid next.odd → IsVersion mid next.even → Puts old mid (node_below node index) ((index - 1) / 2) value below → IsPushed mid new next made → Puts old new from index value made
    put_below next own same other odd even p pushed = record {
      version = a.version;
      here = a.further index some ∙ ap (λ v. value_at mid v ((index - 1) / 2)) same ∙ p.here;
      others = λ j apart. by j apart (cases_eq j 0) (cases_eq (j % 2) (index % 2));
      kept = λ v q j. a.kept v (p.stays v q) j ∙ p.kept v q j;
      stays = λ v q. a.stays v (p.stays v q);
      good = a.good;
    }
      where
        a : IsAdded mid new next made
        a = added mid new next made p.good odd even pushed.0 pushed.1

        by : (j : ℕ) → (j ≡ index → ⊥) → (j ≡ 0) ⊎ (j ≡ 0 → ⊥) → (j % 2 ≡ index % 2) ⊎ (j % 2 ≡ index % 2 → ⊥) → value_at new made j ≡ value_at old from j
        by j apart (inl z) o = ap (value_at new made) z ∙ a.own ∙ own ∙ sym (ap (value_at old from) z)
        by j apart (inr z) (inl e) =
            let above : 0 < j = omega arith in
            a.further j above ∙ ap (λ v. value_at mid v ((j - 1) / 2)) (by_parity next j index e ∙ same)
            ∙ p.others ((j - 1) / 2) (λ q. apart (omega arith))
            ∙ sym (down old.nodes.items from j above ∙ ap (λ v. value_at old v ((j - 1) / 2)) (by_parity node j index e))
        by j apart (inr z) (inr n) =
            let above : 0 < j = omega arith in
            a.further j above ∙ ap (λ v. value_at mid v ((j - 1) / 2)) (other j n)
            ∙ p.kept (node_below node j) (next_there old good from j there) ((j - 1) / 2)
            ∙ sym (down old.nodes.items from j above)

    put_odd : index % 2 ≡ 1 → Puts old mid node.odd ((index - 1) / 2) value below → IsPushed mid new (record { value = node.value; odd = below; even = node.even }) made → Puts old new from index value made
    put_odd is p =
        let next : Node = record { value = node.value; odd = below; even = node.even } in
        put_below next refl (at_odd next index is) (λ j n. at_even next j (λ o. n (o ∙ sym is)) ∙ sym (at_even node j (λ o. n (o ∙ sym is))))
        p.version (p.stays node.even (good.even from there)) (subst (λ v. Puts old mid v ((index - 1) / 2) value below) (sym (at_odd node index is)) p)

    put_even : (index % 2 ≡ 1 → ⊥) → Puts old mid node.even ((index - 1) / 2) value below → IsPushed mid new (record { value = node.value; odd = node.odd; even = below }) made → Puts old new from index value made
    put_even is p =
        let next : Node = record { value = node.value; odd = node.odd; even = below } in
        put_below next refl (at_even next index is) (λ j n. at_odd next j (omega arith) ∙ sym (at_odd node j (omega arith)))
        (p.stays node.odd (good.odd from there)) p.version (subst (λ v. Puts old mid v ((index - 1) / 2) value below) (sym (at_even node index is)) p)

-- a version that has the value stays as it is
pub put_nothing : (vs : Versions) (from index value : ℕ) → AreVersions vs → IsVersion vs from → value_at vs from index ≡ value → Puts vs vs from index value from
put_nothing vs from index value good there e = record { version = there; here = e; others = λ j apart. refl; kept = λ v p j. refl; stays = λ v p. p; good = good }

-- the node of the version was read
module _ (old : Versions) (from : ℕ) (node : Node) (good : AreVersions old) (there : IsVersion old from) (read : node ≡ get_or old.nodes.items from node) where
  pub is_read : node ≡ node_at old.nodes.items from
  is_read = get_or_read old.nodes.items from node there read (record { value = 0; odd = 0; even = 0 })

  -- the walk goes one node down
  pub stepped : (next left value : ℕ) → 0 < left → next ≡ node_below node left → value_at old from left ≡ value → IsVersion old next × (value_at old next ((left - 1) / 2) ≡ value)
  stepped next left value some e h = (
    subst (IsVersion old) (sym way) (next_there old good from left there),
    ap (λ v. value_at old v ((left - 1) / 2)) way ∙ sym (down old.nodes.items from left some) ∙ h,
  )
    where
      way : next ≡ node_below (node_at old.nodes.items from) left
      way = e ∙ ap (λ (x : Node). node_below x left) is_read

  -- the walk ends at the node that has the value
  pub arrived : (left value : ℕ) → left ≤ 0 → value_at old from left ≡ value → node.value ≡ value
  arrived left value none h = let z : 0 ≡ left = omega arith in ap (λ (x : Node). x.value) is_read ∙ ap (value_at old from) z ∙ h

  module _ (new : Versions) (index value : ℕ) (r : Result ℕ AllocError) where
    pub new_at_top : index ≡ 0 → IfOk r (IsPushed old new (record { value = value; odd = node.odd; even = node.even })) → IfOk r (Puts old new from index value)
    new_at_top z h = IfOk-weaker r (IsPushed old new (record { value = value; odd = node.odd; even = node.even })) (Puts old new from index value)
        (λ made pushed. subst (λ i. Puts old new from i value made) (sym z) (put_here old old new from value made good there
        (subst (λ (x : Node). IsPushed old new (record { value = value; odd = x.odd; even = x.even }) made) is_read pushed))) h

    module _ (mid : Versions) (below : ℕ) (above : index ≡ 0 → ⊥) where
      pub new_in_odd : index % 2 ≡ 1 → Puts old mid node.odd ((index - 1) / 2) value below → IfOk r (IsPushed mid new (record { value = node.value; odd = below; even = node.even })) → IfOk r (Puts old new from index value)
      new_in_odd odd p h = IfOk-weaker r (IsPushed mid new (record { value = node.value; odd = below; even = node.even })) (Puts old new from index value)
          (λ made pushed. put_odd old mid new from value made good there index below (omega arith) odd
          (subst (λ (x : Node). Puts old mid x.odd ((index - 1) / 2) value below) is_read p)
          (subst (λ (x : Node). IsPushed mid new (record { value = x.value; odd = below; even = x.even }) made) is_read pushed)) h

      pub new_in_even : (index % 2 ≡ 1 → ⊥) → Puts old mid node.even ((index - 1) / 2) value below → IfOk r (IsPushed mid new (record { value = node.value; odd = node.odd; even = below })) → IfOk r (Puts old new from index value)
      new_in_even even p h = IfOk-weaker r (IsPushed mid new (record { value = node.value; odd = node.odd; even = below })) (Puts old new from index value)
          (λ made pushed. put_even old mid new from value made good there index below (omega arith) even
          (subst (λ (x : Node). Puts old mid x.even ((index - 1) / 2) value below) is_read p)
          (subst (λ (x : Node). IsPushed mid new (record { value = x.value; odd = x.odd; even = below }) made) is_read pushed)) h
