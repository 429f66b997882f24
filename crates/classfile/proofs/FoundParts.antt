-- A part is found exactly where the place lies in the items of a table.
use Rattle.std.proofs.Common.{◌≡◌, ◌∙◌, ◌⊎◌, inl, inr, ℕ, zero, suc, ◌+◌, ◌-◌, ◌≤◌, ltb, Bool, true, false, cond, List, Option, Some, None, Result, Ok, Err, refl, sym, ap, subst, arith}
use Rattle.std.proofs.lemmas.Bool.{ltb-true, ltb-false}
use Rattle.std.specs.Prelude.{nat_eq}
use Rattle.layout.specs.Place.{Place}
use Rattle.layout.specs.Format.{Format, reads, behind_it, andthen, number}
use Rattle.layout.specs.FormatLaws.{reads_andthen, reads_spells, same_good}
use Rattle.layout.specs.declared.fault.ReadFault.{ReadFault}
use Rattle.classfile.specs.declared.file_parts.FilePart.{FilePart}
use Rattle.classfile.specs.declared.form_fault.Place.{Place as Holder}
use Rattle.classfile.specs.declared.form_fault.Place.TheVariants as places
use Rattle.classfile.specs.Outline.{head, indexed, constants, numbers, repeated, attribute, attributes, member}
use Rattle.classfile.specs.FileParts.{Search, then_search, passing, search_in, constant_of, attribute_of, header_of, between, member_head, search_constants, search_attributes, search_member, search_members, search_pool, search_tables, search_file, part_of, IsReached, LiesBehind, LiesIn, counted_constants, so_many_members, so_many_attributes, to_constants, to_fields, to_methods, to_attributes, PartIsFound}

-- reading goes forward
forward : {V : Type 0} (f : Format V) (here : Place) (x : V × Place) → reads f here.at here.rest ≡ Ok x → here.at ≤ x.1.at
forward f here x h =
    let r = reads_spells f here.at here.rest x h in
    omega (arith, r.2.at)

err_not_ok : {V : Type 0} (e : ReadFault) (x : V) → Err e ≡ Ok x → ⊥
err_not_ok e x h = cc

one_answer : {V : Type 0} (r : Result (V × Place) ReadFault) (x y : V × Place) → r ≡ Ok x → r ≡ Ok y → x ≡ y
one_answer r x y h k = same_good x y (sym h ∙ k)

-- ---- a search beside the reading of the same bytes

-- It ends in a part of this kind where what is read reaches the place, and goes on after what was read.
abbrev Follows : {V : Type 0} → (FilePart → Type 0) → ℕ → Search V → Result (V × Place) ReadFault → Type 0
Follows Kind at (Ok x) r = (r ≡ Ok x) × (x.1.at ≤ at)
Follows Kind at (Err found) r = IsReached at r × ((part : FilePart) × (found ≡ Some part) × Kind part)

abbrev IsIn : (ℕ → Holder) → FilePart → Type 0
IsIn kind part = (n : ℕ) × (part.place ≡ kind n)

abbrev IsOfClass : FilePart → Type 0
IsOfClass part = part.place ≡ places.Class

module _ (at : ℕ) where
  follows_search : {V : Type 0} (Kind : FilePart → Type 0) (part : FilePart) (f : Format V) (here : Place) → Kind part
      → Follows Kind at (search_in at (Some part) f here) (reads f here.at here.rest)
  follows_search {V = V} Kind part f here of_kind = by_read (reads f here.at here.rest)
    where
      by_test : (x : V × Place) (b : Bool) → ltb at x.1.at ≡ b → Follows Kind at (cond b (Err (Some part)) (Ok x)) (Ok x)
      by_test x true t = (ltb-true _ _ t, (part, refl, of_kind))
      by_test x false t = (refl, ltb-false _ _ t)

      by_read : (r : Result (V × Place) ReadFault) → Follows Kind at (passing at (Some part) r) r
      by_read (Err e) = (tt, (part, refl, of_kind))
      by_read (Ok x) = by_test x (ltb at x.1.at) refl

  reached_then : {V W : Type 0} (r : Result (V × Place) ReadFault) (next : V → Format W) → IsReached at r → IsReached at (behind_it r next)
  reached_then (Err e) next h = tt
  reached_then {V = V} {W = W} (Ok x) next h = by_read (reads (next x.0) x.1.at x.1.rest) refl
    where
      by_read : (s : Result (W × Place) ReadFault) → reads (next x.0) x.1.at x.1.rest ≡ s → IsReached at s
      by_read (Err e) is = tt
      by_read (Ok y) is = let further = forward (next x.0) x.1 y is in omega (arith, h, further)

  follows_then : {V W : Type 0} (Kind : FilePart → Type 0) (f : Format V) (next : V → Format W) (here : Place) (s : Search V) (after : V → Place → Search W)
      → Follows Kind at s (reads f here.at here.rest)
      → ((v : V) (p : Place) → p.at ≤ at → Follows Kind at (after v p) (reads (next v) p.at p.rest))
      → Follows Kind at (then_search s after) (reads (andthen f next) here.at here.rest)
  follows_then {W = W} Kind f next here (Ok x) after first second =
      subst (Follows Kind at (after x.0 x.1)) (sym (reads_andthen f next here.at here.rest ∙ ap (λ r. behind_it r next) first.0)) (second x.0 x.1 first.1)
  follows_then {W = W} Kind f next here (Err found) after first second =
      (subst (IsReached at) (sym (reads_andthen f next here.at here.rest)) (reached_then (reads f here.at here.rest) next first.0), first.1)

  follows_constants : (left index : ℕ) (second : Bool) (here : Place) → here.at ≤ at
      → Follows (IsIn places.Pool) at (search_constants at left index second here) (reads (constants left second) here.at here.rest)
  unfolding search_constants constants
  follows_constants zero index second here le = (refl, le)
  follows_constants (suc n) index second here le =
      follows_then (IsIn places.Pool) (indexed second (nat_eq n 0)) (λ next. constants n next) here (search_in at (Some (constant_of index here.rest)) (indexed second (nat_eq n 0)) here)
      (search_constants at n (index + 1)) (follows_search (IsIn places.Pool) (constant_of index here.rest) (indexed second (nat_eq n 0)) here (index, refl)) (λ next p. follows_constants n (index + 1) next p)

  follows_attributes : (Kind : FilePart → Type 0) (holder : Holder) → ((n : ℕ) → Kind (attribute_of holder n)) → (left n : ℕ) (here : Place) → here.at ≤ at
      → Follows Kind at (search_attributes at holder left n here) (reads (repeated left attribute) here.at here.rest)
  unfolding search_attributes repeated
  follows_attributes Kind holder of_kind zero n here le = (refl, le)
  follows_attributes Kind holder of_kind (suc left) n here le =
      follows_then Kind attribute (λ skipped. repeated left attribute) here (search_in at (Some (attribute_of holder n)) attribute here)
      (λ skipped. search_attributes at holder left (n + 1)) (follows_search Kind (attribute_of holder n) attribute here (of_kind n)) (λ skipped p. follows_attributes Kind holder of_kind left (n + 1) p)

  -- the three numbers of a member, and the number of its attributes
  whole_member : (here : Place) → reads (andthen member_head (λ n. repeated n attribute)) here.at here.rest ≡ reads member here.at here.rest
  unfolding member_head member attributes
  whole_member here =
      reads_andthen (andthen (numbers 3) (λ skipped. number 2)) (λ n. repeated n attribute) here.at here.rest
      ∙ ap (λ r. behind_it r (λ n. repeated n attribute)) (reads_andthen (numbers 3) (λ skipped. number 2) here.at here.rest)
      ∙ by_read (reads (numbers 3) here.at here.rest)
      ∙ sym (reads_andthen (numbers 3) (λ skipped. andthen (number 2) (λ n. repeated n attribute)) here.at here.rest)
    where
      by_read : (r : Result (Unit {0} × Place) ReadFault) → behind_it (behind_it r (λ skipped. number 2)) (λ n. repeated n attribute)
          ≡ behind_it r (λ skipped. andthen (number 2) (λ n. repeated n attribute))
      by_read (Err e) = refl
      by_read (Ok x) = sym (reads_andthen (number 2) (λ n. repeated n attribute) x.1.at x.1.rest)

  follows_member : (Kind : FilePart → Type 0) (holder : Holder) → Kind (header_of holder) → ((n : ℕ) → Kind (attribute_of holder n)) → (here : Place)
      → Follows Kind at (search_member at holder here) (reads member here.at here.rest)
  follows_member Kind holder of_header of_attributes here =
      subst (Follows Kind at (search_member at holder here)) (whole_member here)
      (follows_then Kind member_head (λ n. repeated n attribute) here (search_in at (Some (header_of holder)) member_head here)
      (λ count. search_attributes at holder count 0) (follows_search Kind (header_of holder) member_head here of_header) (λ n p. follows_attributes Kind holder of_attributes n 0 p))

  follows_members : (kind : ℕ → Holder) (left n : ℕ) (here : Place) → here.at ≤ at
      → Follows (IsIn kind) at (search_members at kind left n here) (reads (repeated left member) here.at here.rest)
  unfolding search_members repeated
  follows_members kind zero n here le = (refl, le)
  follows_members kind (suc left) n here le =
      follows_then (IsIn kind) member (λ skipped. repeated left member) here (search_member at (kind n) here) (λ skipped. search_members at kind left (n + 1))
      (follows_member (IsIn kind) (kind n) (n, refl) (λ j. (n, refl)) here) (λ skipped p. follows_members kind left (n + 1) p)

  abbrev fault : Option FilePart → Search (Unit {0})
  fault found = Err found

  found_same : (a b : Option FilePart) (s : Search (Unit {0})) → s ≡ Err a → s ≡ Err b → a ≡ b
  found_same a b s h k = ap part_of (sym h ∙ k)

  module _ (bytes : List ℕ) where
    -- ---- it ends only in parts of the table in which the place lies, and ends in one where this holds

    abbrev Finds : Search (Unit {0}) → Type 0 → Type 0
    Finds s P = ((part : FilePart) → s ≡ Err (Some part) → LiesIn part.place bytes at) × (P → (part : FilePart) × (s ≡ Err (Some part)))

    -- after what is in no part
    finds_gap : {V : Type 0} (f : Format V) (here : Place) (after : V → Place → Search (Unit {0})) (P : Type 0)
        → ((x : V × Place) → reads f here.at here.rest ≡ Ok x → x.1.at ≤ at → Finds (after x.0 x.1) P)
        → (P → (x : V × Place) × (reads f here.at here.rest ≡ Ok x) × (x.1.at ≤ at))
        → Finds (then_search (search_in at None f here) after) P
    finds_gap {V = V} f here after P goes whole = by_read (reads f here.at here.rest) refl
      where
        nothing : (s : Search (Unit {0})) → s ≡ Err None → (P → ⊥) → Finds s P
        nothing s is none =
            (λ part h. absurd (let e : None ≡ Some part = found_same None (Some part) s is h in cc), λ p. absurd (none p))

        by_test : (x : V × Place) (b : Bool) → reads f here.at here.rest ≡ Ok x → ltb at x.1.at ≡ b
            → Finds (then_search (cond b (Err None) (Ok x)) after) P
        by_test x true is t =
            nothing (Err None) refl (λ p. let w = whole p in let same : x ≡ w.0 = one_answer _ x w.0 is w.1 in
            let le : x.1.at ≤ at = subst (λ (y : V × Place). y.1.at ≤ at) (sym same) w.2 in let lt = ltb-true _ _ t in omega (arith, le, lt))
        by_test x false is t = goes x is (ltb-false _ _ t)

        by_read : (r : Result (V × Place) ReadFault) → reads f here.at here.rest ≡ r → Finds (then_search (passing at None r) after) P
        by_read (Err e) is = nothing (Err None) refl (λ p. let w = whole p in err_not_ok e w.0 (sym is ∙ w.1))
        by_read (Ok x) is = by_test x (ltb at x.1.at) is refl

    -- ---- what stands in front of a place

    abbrev Before : {V : Type 0} → Format V → Type 0
    Before {V = V} front = (x : V × Place) × (reads front 0 bytes ≡ Ok x) × (x.1.at ≤ at)

    before_first : {V W : Type 0} (front : Format V) (next : V → Format W) → Before (andthen front next) → Before front
    before_first {V = V} {W = W} front next (y, is, le) = by_read (reads front 0 bytes) refl
      where
        by_read : (r : Result (V × Place) ReadFault) → reads front 0 bytes ≡ r → Before front
        by_read (Err e) is_err =
            absurd (err_not_ok e y (sym (reads_andthen front next 0 bytes ∙ ap (λ r. behind_it r next) is_err) ∙ is))
        by_read (Ok x) is_ok =
            let read : reads (next x.0) x.1.at x.1.rest ≡ Ok y = sym (reads_andthen front next 0 bytes ∙ ap (λ r. behind_it r next) is_ok) ∙ is in
            let further = forward (next x.0) x.1 y read in
            (x, is_ok, omega (arith, further, le))

    -- what is read after the front
    read_behind : {V W : Type 0} (front : Format V) (next : V → Format W) (x : V × Place) → reads front 0 bytes ≡ Ok x
        → reads (andthen front next) 0 bytes ≡ reads (next x.0) x.1.at x.1.rest
    read_behind front next x is = reads_andthen front next 0 bytes ∙ ap (λ r. behind_it r next) is

    before_behind : {V W : Type 0} (front : Format V) (next : V → Format W) (x : V × Place) → reads front 0 bytes ≡ Ok x
        → Before (andthen front next) → (y : W × Place) × (reads (next x.0) x.1.at x.1.rest ≡ Ok y) × (y.1.at ≤ at)
    before_behind front next x is (y, read, le) = (y, sym (read_behind front next x is) ∙ read, le)

    -- ---- in a table, or after it

    -- a part of a kind that stands in this table
    abbrev Stands : (FilePart → Type 0) → Format ℕ → (ℕ → Format (Unit {0})) → Type 0
    Stands Kind front items = (part : FilePart) → Kind part → LiesBehind front items bytes at → LiesIn part.place bytes at

    stands_found : (Kind : FilePart → Type 0) (front : Format ℕ) (items : ℕ → Format (Unit {0})) → Stands Kind front items → LiesBehind front items bytes at
        → (found : Option FilePart) → ((part : FilePart) × (found ≡ Some part) × Kind part)
        → (part : FilePart) → fault found ≡ fault (Some part) → LiesIn part.place bytes at
    stands_found Kind front items stands lies found (other, is, of_kind) part h =
        let all : Some other ≡ Some part = sym is ∙ found_same found (Some part) (fault found) refl h in
        let same : other ≡ part = cc in
        subst (λ (p : FilePart). LiesIn p.place bytes at) same (stands other of_kind lies)

    finds_table : (Kind : FilePart → Type 0) (front : Format ℕ) (items : ℕ → Format (Unit {0})) (gap : Format ℕ) (searched : ℕ → Place → Search (Unit {0}))
        (others : ℕ → Place → Search (Unit {0})) (Later : Type 0) → Stands Kind front items
        → ((n : ℕ) (here : Place) → here.at ≤ at → Follows Kind at (searched n here) (reads (items n) here.at here.rest))
        → ((x : ℕ × Place) → reads (andthen front (λ n. andthen (items n) (λ skipped. gap))) 0 bytes ≡ Ok x → x.1.at ≤ at → Finds (others x.0 x.1) Later)
        → (Later → Before (andthen front (λ n. andthen (items n) (λ skipped. gap))))
        → (x : ℕ × Place) → reads front 0 bytes ≡ Ok x → x.1.at ≤ at
        → Finds (then_search (searched x.0 x.1) (λ skipped p. then_search (search_in at None gap p) others)) (LiesBehind front items bytes at ⊎ Later)
    finds_table Kind front items gap searched others Later stands follows goes whole x is le = by_search (searched x.0 x.1) (follows x.0 x.1 le)
      where
        behind : ℕ → Format ℕ
        behind n = andthen (items n) (λ skipped. gap)

        -- the place lies in the items that were read
        reached : LiesBehind front items bytes at → IsReached at (reads (items x.0) x.1.at x.1.rest)
        reached (n, here, read, before, r) =
            let same : x ≡ (n, here) = one_answer _ x (n, here) is read in
            subst (λ (y : ℕ × Place). IsReached at (reads (items y.0) y.1.at y.1.rest)) (sym same) r

        by_search : (s : Search (Unit {0})) → Follows Kind at s (reads (items x.0) x.1.at x.1.rest)
            → Finds (then_search s (λ skipped p. then_search (search_in at None gap p) others)) (LiesBehind front items bytes at ⊎ Later)
        by_search (Err found) f =
            (stands_found Kind front items stands (x.0, x.1, is, le, f.0) found f.1, λ l. (f.1.0, ap (λ o. Err o) f.1.1))
        by_search (Ok y) f =
            let not_here : LiesBehind front items bytes at → ⊥ = λ l.
            let r : IsReached at (Ok y) = subst (IsReached at) f.0 (reached l) in
            let before = f.1 in omega (arith, r, before) in
            let all : reads (andthen front behind) 0 bytes ≡ reads gap y.1.at y.1.rest =
            read_behind front behind x is ∙ reads_andthen (items x.0) (λ skipped. gap) x.1.at x.1.rest ∙ ap (λ r. behind_it r (λ skipped. gap)) f.0 in
            finds_gap gap y.1 others (LiesBehind front items bytes at ⊎ Later)
            (λ z g before.
            let found = goes z (all ∙ g) before in
            (found.0, λ l. found.1 (later not_here l)))
            (λ l.
            let b = whole (later not_here l) in
            (b.0, sym all ∙ b.1, b.2))
          where
            later : (LiesBehind front items bytes at → ⊥) → LiesBehind front items bytes at ⊎ Later → Later
            later none (inl l) = absurd (none l)
            later none (inr l) = l

    lies_before : (front : Format ℕ) (items : ℕ → Format (Unit {0})) → LiesBehind front items bytes at → Before front
    lies_before front items (n, here, read, before, r) = ((n, here), read, before)

    -- ---- table by table, from the last one on

    abbrev InAttributes : Type 0
    InAttributes = LiesBehind to_attributes so_many_attributes bytes at

    abbrev InMethods : Type 0
    InMethods = LiesBehind to_methods so_many_members bytes at ⊎ InAttributes

    abbrev InFields : Type 0
    InFields = LiesBehind to_fields so_many_members bytes at ⊎ InMethods

    abbrev InConstants : Type 0
    InConstants = LiesBehind to_constants counted_constants bytes at ⊎ InFields

    before_attributes : InAttributes → Before to_attributes
    before_attributes l = lies_before to_attributes so_many_attributes l

    before_methods : InMethods → Before to_methods
    before_methods (inl l) = lies_before to_methods so_many_members l
    before_methods (inr l) = before_first to_methods (λ n. andthen (so_many_members n) (λ skipped. number 2)) (before_attributes l)

    before_fields : InFields → Before to_fields
    before_fields (inl l) = lies_before to_fields so_many_members l
    before_fields (inr l) = before_first to_fields (λ n. andthen (so_many_members n) (λ skipped. number 2)) (before_methods l)

    before_constants : InConstants → Before to_constants
    before_constants (inl l) = lies_before to_constants counted_constants l
    before_constants (inr l) = before_first to_constants (λ n. andthen (counted_constants n) (λ skipped. between)) (before_fields l)

    abbrev rest_attributes : ℕ → Place → Search (Unit {0})
    rest_attributes n here = search_attributes at places.Class n 0 here

    abbrev rest_methods : ℕ → Place → Search (Unit {0})
    rest_methods n here = then_search (search_members at places.Method n 0 here) (λ skipped p. then_search (search_in at None (number 2) p) rest_attributes)

    abbrev rest_fields : ℕ → Place → Search (Unit {0})
    rest_fields n here = then_search (search_members at places.Field n 0 here) (λ skipped p. then_search (search_in at None (number 2) p) rest_methods)

    abbrev rest_constants : ℕ → Place → Search (Unit {0})
    rest_constants n here = then_search (search_constants at (n - 1) 1 false here) (λ skipped p. then_search (search_in at None between p) rest_fields)

    finds_attributes : (x : ℕ × Place) → reads to_attributes 0 bytes ≡ Ok x → x.1.at ≤ at → Finds (rest_attributes x.0 x.1) InAttributes
    finds_attributes x is le = by_search (rest_attributes x.0 x.1) (follows_attributes IsOfClass places.Class (λ n. refl) x.0 0 x.1 le)
      where
        stands : Stands IsOfClass to_attributes so_many_attributes
        stands part of_kind l = subst (λ (h : Holder). LiesIn h bytes at) (sym of_kind) l

        by_search : (s : Search (Unit {0})) → Follows IsOfClass at s (reads (so_many_attributes x.0) x.1.at x.1.rest) → Finds s InAttributes
        by_search (Err found) f =
            (stands_found IsOfClass to_attributes so_many_attributes stands (x.0, x.1, is, le, f.0) found f.1, λ l. (f.1.0, ap (λ o. Err o) f.1.1))
        by_search (Ok y) f = (
          λ part h. absurd (let e : Err (Some part) ≡ Ok y = sym h in cc),
          λ (n, here, read, before, r).
              let same : x ≡ (n, here) = one_answer _ x (n, here) is read in
              let q : IsReached at (Ok y) = subst (IsReached at) f.0 (subst (λ (z : ℕ × Place). IsReached at (reads (so_many_attributes z.0) z.1.at z.1.rest)) (sym same) r) in
              let within = f.1 in absurd (omega (arith, q, within)),
        )

    finds_methods : (x : ℕ × Place) → reads to_methods 0 bytes ≡ Ok x → x.1.at ≤ at → Finds (rest_methods x.0 x.1) InMethods
    finds_methods =
        finds_table (IsIn places.Method) to_methods so_many_members (number 2) (λ n here. search_members at places.Method n 0 here) rest_attributes InAttributes
        (λ part of_kind l. subst (λ (h : Holder). LiesIn h bytes at) (sym of_kind.1) l)
        (λ n here le. follows_members places.Method n 0 here le) finds_attributes before_attributes

    finds_fields : (x : ℕ × Place) → reads to_fields 0 bytes ≡ Ok x → x.1.at ≤ at → Finds (rest_fields x.0 x.1) InFields
    finds_fields =
        finds_table (IsIn places.Field) to_fields so_many_members (number 2) (λ n here. search_members at places.Field n 0 here) rest_methods InMethods
        (λ part of_kind l. subst (λ (h : Holder). LiesIn h bytes at) (sym of_kind.1) l)
        (λ n here le. follows_members places.Field n 0 here le) finds_methods before_methods

    finds_constants : (x : ℕ × Place) → reads to_constants 0 bytes ≡ Ok x → x.1.at ≤ at → Finds (rest_constants x.0 x.1) InConstants
    finds_constants =
        finds_table (IsIn places.Pool) to_constants counted_constants between (λ n here. search_constants at (n - 1) 1 false here) rest_fields InFields
        (λ part of_kind l. subst (λ (h : Holder). LiesIn h bytes at) (sym of_kind.1) l)
        (λ n here le. follows_constants (n - 1) 1 false here le) finds_fields before_fields

    -- ---- from the beginning

    abbrev start : Place
    start = record { at = 0; rest = bytes }

    finds_all : Finds (then_search (search_in at None head start) (λ skipped p. then_search (search_in at None (number 2) p) rest_constants)) InConstants
    finds_all =
        finds_gap head start (λ skipped p. then_search (search_in at None (number 2) p) rest_constants) InConstants
        (λ x is le. finds_gap (number 2) x.1 rest_constants InConstants
        (λ y read before. finds_constants y (read_behind head (λ skipped. number 2) x is ∙ read) before)
        (λ l. before_behind head (λ skipped. number 2) x is (before_constants l)))
        (λ l. before_first head (λ skipped. number 2) (before_constants l))

    -- the searches are one after the other
    after_both : {V W X : Type 0} (s : Search V) (f : V → Place → Search W) (g : W → Place → Search X)
        → then_search (then_search s f) g ≡ then_search s (λ v p. then_search (f v p) g)
    after_both (Ok x) f g = refl
    after_both (Err part) f g = refl

    then_same : {V W : Type 0} (s : Search V) (f g : V → Place → Search W) → ((v : V) (p : Place) → f v p ≡ g v p) → then_search s f ≡ then_search s g
    then_same (Ok x) f g same = same x.0 x.1
    then_same (Err part) f g same = refl

    in_order : search_file at start ≡ then_search (search_in at None head start) (λ skipped p. then_search (search_in at None (number 2) p) rest_constants)
    unfolding search_pool search_tables
    in_order =
        after_both (search_in at None head start) (λ skipped p. then_search (search_in at None (number 2) p) (λ count. search_constants at (count - 1) 1 false))
        (λ skipped. search_tables at)
        ∙ then_same (search_in at None head start) _ _
        (λ skipped p. after_both (search_in at None (number 2) p) (λ count. search_constants at (count - 1) 1 false) (λ skipped. search_tables at))

    found_in : (s : Search (Unit {0})) (part : FilePart) → part_of s ≡ Some part → s ≡ Err (Some part)
    found_in (Ok x) part h = absurd (let e : None ≡ Some part = h in cc)
    found_in (Err found) part h = ap (λ o. Err o) h

    in_some : (holder : Holder) → LiesIn holder bytes at → InConstants
    in_some (places.Pool index) l = inl l
    in_some (places.Field n) l = inr (inl l)
    in_some (places.Method n) l = inr (inr (inl l))
    in_some places.Class l = inr (inr (inr l))

pub part_is_found : PartIsFound
part_is_found bytes at =
    let all = subst (λ s. Finds at bytes s (InConstants at bytes)) (sym (in_order at bytes)) (finds_all at bytes) in (
      λ part h. all.0 part (found_in at bytes (search_file at (start at bytes)) part h),
      λ holder l. let found = all.1 (in_some at bytes holder l) in (found.0, ap part_of found.1),
    )
