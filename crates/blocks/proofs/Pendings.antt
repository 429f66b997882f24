-- Rows that are read through replacements that are pending.
use Rattle.std.proofs.Common.{◌≡◌, ◌≢◌, ◌∙◌, ℕ, ◌<◌, Bool, true, false, if◌then◌else◌, List, [], ◌∷◌, ◌++◌, map, length, get_or, set, take, drop, refl, sym, ap, subst, arith, inl, inr, eqb, eq-eqb, take-append-drop, drop_of_length-le, ◌+◌, ◌≤◌}
use Rattle.std.proofs.lemmas.Bool.{cases_eq, ne_eqb}
use Rattle.std.proofs.lemmas.List.{length-map, map-set, ext_get_or, get_or-map, at_drop_more}
use Rattle.blocks.specs.Rows.{Rows, replaced}
use Rattle.blocks.specs.declared.pending.Pair.{Pair}
use Rattle.blocks.specs.private.Pending.{no_pair, shown, read_through, AreReplacedSome, Commute, ShowsEarlier, IsPushed}

pub shown_none : (xs : List ℕ) → map (shown []) xs ≡ xs
shown_none [] = refl
shown_none (x ∷ xs) = ap (λ ys. x ∷ ys) (shown_none xs)

pub none_pending : (ps : List Pair) (rows : Rows) → ps ≡ [] → read_through ps rows ≡ rows
none_pending ps rows e =
    ap (λ qs. read_through qs rows) e ∙ ap (λ (xs : List ℕ). let x : Rows = record rows { running = xs } in x) (shown_none rows.running)

chosen : (b : Bool) (n : ℕ) → (if b then n else n) ≡ n
chosen true n = refl
chosen false n = refl

replaced_by : (number by : ℕ) → replaced number by by ≡ by
replaced_by number by = chosen (eqb by number) by

replaced_itself : (number by : ℕ) → replaced number by number ≡ by
replaced_itself number by = ap (λ b. if b then by else number) (eq-eqb number number refl)

replaced_no : (number by n : ℕ) → n ≢ number → replaced number by n ≡ n
replaced_no number by n ne = ap (λ b. if b then by else n) (ne_eqb n number ne)

replaced_here : (number by n : ℕ) → n ≡ number → replaced number by n ≡ by
replaced_here number by n e = ap (replaced number by) e ∙ replaced_itself number by

-- two that commute may be done in both orders
swapped : (p q : Pair) → Commute p q → (n : ℕ) → replaced q.number q.by (replaced p.number p.by n) ≡ replaced p.number p.by (replaced q.number q.by n)
swapped p q c n = elim (cases_eq n p.number) [
  | inl e ↦
      ap (replaced q.number q.by) (replaced_here p.number p.by n e)
      ∙ replaced_no q.number q.by p.by c.first
      ∙ sym (ap (replaced p.number p.by) (replaced_no q.number q.by n (λ k. c.others (sym e ∙ k))) ∙ replaced_here p.number p.by n e)
  | inr ne ↦ elim (cases_eq n q.number) [
    | inl e ↦
        ap (replaced q.number q.by) (replaced_no p.number p.by n ne)
        ∙ replaced_here q.number q.by n e
        ∙ sym (ap (replaced p.number p.by) (replaced_here q.number q.by n e) ∙ replaced_no p.number p.by q.by c.second)
    | inr other ↦
        ap (replaced q.number q.by) (replaced_no p.number p.by n ne)
        ∙ replaced_no q.number q.by n other
        ∙ sym (ap (replaced p.number p.by) (replaced_no q.number q.by n other) ∙ replaced_no p.number p.by n ne)
  ]
]

shown_both : (ps qs : List Pair) (n : ℕ) → shown (ps ++ qs) n ≡ shown qs (shown ps n)
shown_both [] qs n = refl
shown_both (p ∷ ps) qs n = shown_both ps qs (replaced p.number p.by n)

-- one is put where it may be done as if it were the last
pub pushed_there : (ps : List Pair) (p : Pair) (place : ℕ) → ShowsEarlier p (drop place ps) → IsPushed ps p.number p.by (take place ps ++ p ∷ drop place ps)
pushed_there ps p place earlier = λ n.
    shown_both (take place ps) (p ∷ drop place ps) n
    ∙ earlier (shown (take place ps) n)
    ∙ ap (replaced p.number p.by) (sym (shown_both (take place ps) (drop place ps) n) ∙ ap (λ qs. shown qs n) (take-append-drop place ps))

-- and so is one before it, if the two commute
pub earlier_more : (p q : Pair) (ps : List Pair) → Commute p q → ShowsEarlier p ps → ShowsEarlier p (q ∷ ps)
earlier_more p q ps c earlier = λ n. ap (shown ps) (swapped p q c n) ∙ earlier (replaced q.number q.by n)

pub nothing_behind : (ps : List Pair) (p : Pair) (place : ℕ) → length ps ≤ place → ShowsEarlier p (drop place ps)
nothing_behind ps p place le = subst (ShowsEarlier p) (sym (drop_of_length-le ps {i = place} le)) (λ n. refl)

pub next_behind : (ps : List Pair) (place : ℕ) → place < length ps → drop place ps ≡ get_or ps place no_pair ∷ drop (place + 1) ps
next_behind ps place lt = at_drop_more (λ (qs : List Pair). qs) ps place no_pair lt

pub all_push : (ps qs : List Pair) (number by : ℕ) → IsPushed ps number by qs → (xs : List ℕ) → map (shown qs) xs ≡ map (replaced number by) (map (shown ps) xs)
all_push ps qs number by is [] = refl
all_push ps qs number by is (x ∷ xs) =
    ap (λ y. y ∷ map (shown qs) xs) (is x)
    ∙ ap (λ ys. replaced number by (shown ps x) ∷ ys) (all_push ps qs number by is xs)

-- the first one is done, and is pending no more
pub first_done : (ps : List Pair) (xs : List ℕ) → 0 < length ps
    → map (shown (drop 1 ps)) (map (replaced (get_or ps 0 no_pair).number (get_or ps 0 no_pair).by) xs) ≡ map (shown ps) xs
first_done [] xs lt = absurd (omega (arith, lt))
first_done (p ∷ ps) [] lt = refl
first_done (p ∷ ps) (x ∷ xs) lt = ap (λ ys. shown ps (replaced p.number p.by x) ∷ ys) (first_done (p ∷ ps) xs lt)

-- some of what the first one replaces may be replaced already
pub some_done : (ps : List Pair) (xs ys : List ℕ) → 0 < length ps → AreReplacedSome (get_or ps 0 no_pair).number (get_or ps 0 no_pair).by xs ys
    → map (shown ps) ys ≡ map (shown ps) xs
some_done [] xs ys lt r = absurd (omega (arith, lt))
some_done (p ∷ ps) xs ys lt r =
    let size = r.size in
    ext_get_or 0 _ _ (length-map ys (shown (p ∷ ps)) ∙ size ∙ sym (length-map xs (shown (p ∷ ps)))) (λ k less.
    let long = length-map ys (shown (p ∷ ps)) in
    let inside : k < length ys = omega (arith, less, long) in
    get_or-map (shown (p ∷ ps)) ys k 0 0 inside
    ∙ elim (r.each k) [
      | inl same ↦ ap (shown (p ∷ ps)) same
      | inr there ↦
          ap (λ n. shown ps (replaced p.number p.by n)) there.1
          ∙ ap (shown ps) (replaced_by p.number p.by ∙ sym (replaced_itself p.number p.by))
          ∙ ap (λ n. shown ps (replaced p.number p.by n)) (sym there.0)
    ]
    ∙ sym (get_or-map (shown (p ∷ ps)) xs k 0 0 (omega (arith, inside, size))))

-- nothing but the running row changed, and it is read as before
through_same : (ps qs : List Pair) (old new : Rows) → new ≡ record old { running = new.running } → map (shown ps) new.running ≡ map (shown qs) old.running
    → read_through ps new ≡ read_through qs old
through_same ps qs old new rest e =
    ap (λ (x : Rows). let y : Rows = record x { running = map (shown ps) new.running } in y) rest
    ∙ ap (λ (xs : List ℕ). let y : Rows = record old { running = xs } in y) e

module _ (ps : List Pair) (pair : Pair) (old new : Rows) (some : 0 < length ps) (first : pair ≡ get_or ps 0 no_pair) (rest : new ≡ record old { running = new.running }) where
  pub some_through : AreReplacedSome pair.number pair.by old.running new.running → read_through ps new ≡ read_through ps old
  some_through each =
      through_same ps ps old new rest
      (some_done ps old.running new.running some (subst (λ (p : Pair). AreReplacedSome p.number p.by old.running new.running) first each))

  pub done_through : new.running ≡ map (replaced pair.number pair.by) old.running → read_through (drop 1 ps) new ≡ read_through ps old
  done_through e =
      through_same (drop 1 ps) ps old new rest
      (ap (map (shown (drop 1 ps))) (e ∙ ap (λ (p : Pair). map (replaced p.number p.by) old.running) first) ∙ first_done ps old.running some)

-- nothing is pending any more, and the rows are read as before
pub settled_rows : (ps : List Pair) (rows now : Rows) → ps ≡ [] → read_through ps rows ≡ now → rows ≡ now
settled_rows ps rows now none same = sym (none_pending ps rows none) ∙ same

-- a number that no replacement changes is put into a slot
pub set_through_all : (ps : List Pair) (rows now : Rows) (slot number : ℕ) → shown ps number ≡ number → read_through ps rows ≡ now
    → read_through ps (record rows { running = set rows.running slot number }) ≡ record now { running = set now.running slot number }
set_through_all ps rows now slot number e is =
    ap (λ (xs : List ℕ). let y : Rows = record rows { running = xs } in y) (map-set (shown ps) rows.running slot number ∙ ap (set (map (shown ps) rows.running) slot) e)
    ∙ ap (λ (x : Rows). let y : Rows = record x { running = set x.running slot number } in y) is

-- one replacement more
pub push_through : (ps qs : List Pair) (number by : ℕ) (rows now : Rows) → IsPushed ps number by qs → read_through ps rows ≡ now
    → read_through qs rows ≡ record now { running = map (replaced number by) now.running }
push_through ps qs number by rows now e is =
    ap (λ (xs : List ℕ). let y : Rows = record rows { running = xs } in y) (all_push ps qs number by e rows.running)
    ∙ ap (λ (x : Rows). let y : Rows = record x { running = map (replaced number by) x.running } in y) is
