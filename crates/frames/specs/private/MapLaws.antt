-- Words of the code's own steps: nothing that a reader must believe rests on them. The formats of a stack map spell
-- exactly what is written.
use Rattle.std.proofs.Common.{◌≡◌, ℕ, ◌+◌, ◌-◌, ◌<◌, ◌≤◌, zero, suc, Bool, true, false, cond, Option, Some, None, List, [], ◌∷◌, ◌++◌, length, refl, sym, ap, subst, ◌∙◌, arith}
use Rattle.std.specs.List.{flat_map}
use Rattle.std.specs.Prelude.{nat_eq, nat_le, if◌then◌else◌, ◌&&◌}
use Rattle.std.proofs.lemmas.Bool.{eqb-true, eqb-false, ne_eqb, le-leb, lt-leb, leb-true, leb-false}
use Rattle.layout.specs.Format.{AreBytes, Format, done, Spells, andthen, number, times}
use Rattle.layout.specs.FormatLaws.{AreBytes-parts, andthen_spelled, andthen_parts, number_1, number_2}
use Rattle.layout.specs.Numbers.{number_below}
use Rattle.layout.specs.Pieces.{Piece, field, text, ArePlain}
use Rattle.layout.specs.PieceLaws.{Made, Writes, made_done, made_then, made_last, made_number, made_counted, counted, text_append, plain_parts, plain_append}
use Rattle.frames.specs.StackMaps.{TypeInfo, top, integer, float, double, long, null, uninitialized_this, object, uninitialized, type_behind, type_info, type_table, tag_of, operand_pieces, type_pieces}
use Rattle.frames.specs.StackMaps.{MapEntry, same, same_with_item, same_with_item_extended, chop, same_extended, append, full, entry_behind, map_entry, stack_map, between, frame_type, frame_type_pieces, behind_pieces, entry_pieces, map_pieces}

-- ---- a byte that says what stands after it

-- this byte stands in front of the value, and these bytes spell what is after it
record Behind {V : Type 0} (first : V → Option ℕ) (pieces : V → List Piece) (byte : ℕ) (bytes : List ℕ)
    (v : V) : Type 0 where
  is : first v ≡ Some byte
  spelled : bytes ≡ text (pieces v)
  fine : ArePlain (pieces v)

-- after each byte stand exactly the values that it stands in front of, each by its pieces
record Told {V : Type 0} (next : ℕ → Format V) (first : V → Option ℕ) (pieces : V → List Piece) : Type 0 where
  has : (v : V) (byte : ℕ) → first v ≡ Some byte → ArePlain (pieces v) → Spells (next byte) (text (pieces v)) v
  only : (v : V) (byte : ℕ) (bytes : List ℕ) → byte < 256 → AreBytes bytes → Spells (next byte) bytes v
      → Behind first pieces byte bytes v

abbrev told_pieces : {V : Type 0} → (V → Option ℕ) → (V → List Piece) → V → List Piece
told_pieces first pieces v = frame_type_pieces (first v) ++ pieces v

writes_told : {V : Type 0} {next : ℕ → Format V} {first : V → Option ℕ} {pieces : V → List Piece}
    → Told next first pieces → Writes (andthen (number 1) next) (told_pieces first pieces)
writes_told {V = V} {next = next} {first = first} {pieces = pieces} told =
    record { has = λ v h. has v (first v) refl h; only = only }
  where
    has : (v : V) (o : Option ℕ) → first v ≡ o → ArePlain (frame_type_pieces o ++ pieces v)
        → Spells (andthen (number 1) next) (text (frame_type_pieces o ++ pieces v)) v
    has v None is h = absurd h
    has v (Some byte) is h =
        let parts = plain_parts (field 1 byte) (pieces v) h in
        subst (λ (t : List ℕ). Spells (andthen (number 1) next) t v) (sym (text_append (field 1 byte) (pieces v)))
        (andthen_spelled (number 1) next (text (field 1 byte)) (text (pieces v)) byte v
        ((made_number 1 number_1).has byte parts.0) (told.has v byte is parts.1))

    only : (v : V) (bytes : List ℕ) → AreBytes bytes → Spells (andthen (number 1) next) bytes v → (x : V) × (x ≡ v)
        × (bytes ≡ text (told_pieces first pieces x)) × ArePlain (told_pieces first pieces x)
    only v bytes fit s =
        let i = andthen_parts (number 1) next bytes v s in
        let bs = AreBytes-parts i.0 i.1 (subst AreBytes i.3 fit) in
        let byte = i.2 in
        let x = (made_number 1 number_1).only byte i.0 bs.0 i.4 in
        let k = told.only v byte i.1 (number_below 1 i.0 byte bs.0 i.4) bs.1 i.5 in
        let same_first : i.0 ≡ text (field 1 byte) = x.2 ∙ ap (λ (n : ℕ). text (field 1 n)) x.1 in
        let are : told_pieces first pieces v ≡ field 1 byte ++ pieces v =
        ap (λ (o : Option ℕ). frame_type_pieces o ++ pieces v) k.is in (
          v,
          refl,
          i.3 ∙ ap (λ (t : List ℕ). t ++ i.1) same_first ∙ ap (λ (t : List ℕ). text (field 1 byte) ++ t) k.spelled
              ∙ sym (text_append (field 1 byte) (pieces v)) ∙ ap text (sym are),
          subst ArePlain (sym are) (plain_append (field 1 byte) (pieces v)
              (subst (λ (n : ℕ). ArePlain (field 1 n)) x.1 x.3) k.fine),
        )

-- what stands after one byte
behind_this : {A V : Type 0} {f : Format V} {make : A → V} {p : A → List Piece} (first : V → Option ℕ)
    (pieces : V → List Piece) (byte : ℕ) → Made f make p
    → ((a : A) → first (make a) ≡ Some byte) → ((a : A) → p a ≡ pieces (make a)) → (v : V) (bytes : List ℕ)
    → AreBytes bytes → Spells f bytes v → Behind first pieces byte bytes v
behind_this first pieces byte m is are v bytes fit s =
    let x = m.only v bytes fit s in
    subst (λ (v : _). Behind first pieces byte bytes v) x.1
    (record { is = is x.0; spelled = x.2 ∙ ap text (are x.0); fine = subst ArePlain (are x.0) x.3 })

-- choices by the byte
if_equal : {V : Type 0} (byte k : ℕ) (f g : Format V) (v : V) (bytes : List ℕ) {C : Type 0}
    → (byte ≡ k → Spells f bytes v → C) → ((byte ≡ k → ⊥) → Spells g bytes v → C)
    → Spells (if nat_eq byte k then f else g) bytes v → C
if_equal byte k f g v bytes {C = C} here there = by_test (nat_eq byte k) refl
  where
    by_test : (b : Bool) → nat_eq byte k ≡ b → Spells (cond b f g) bytes v → C
    by_test true h s = here (eqb-true _ _ h) s
    by_test false h s = there (eqb-false _ _ h) s

if_within : {V : Type 0} (byte k : ℕ) (f g : Format V) (v : V) (bytes : List ℕ) {C : Type 0}
    → (byte ≤ k → Spells f bytes v → C) → (k < byte → Spells g bytes v → C)
    → Spells (if nat_le byte k then f else g) bytes v → C
if_within byte k f g v bytes {C = C} here there = by_test (nat_le byte k) refl
  where
    by_test : (b : Bool) → nat_le byte k ≡ b → Spells (cond b f g) bytes v → C
    by_test true h s = here (leb-true _ _ h) s
    by_test false h s = there (leb-false _ _ h) s

-- ---- types

made_object : Made (andthen (number 2) (λ class. done (object class))) object (field 2)
made_object = made_last object (made_number 2 number_2)

made_uninitialized : Made (andthen (number 2) (λ offset. done (uninitialized offset))) uninitialized (field 2)
made_uninitialized = made_last uninitialized (made_number 2 number_2)

abbrev first_of : TypeInfo → Option ℕ
first_of t = Some (tag_of t)

same_byte : (a b : ℕ) → Some a ≡ Some b → a ≡ b
same_byte a b h = cc

type_has : (t : TypeInfo) → ArePlain (operand_pieces t) → Spells (type_behind (tag_of t)) (text (operand_pieces t)) t
type_has top h = (refl, refl)
type_has integer h = (refl, refl)
type_has float h = (refl, refl)
type_has double h = (refl, refl)
type_has long h = (refl, refl)
type_has null h = (refl, refl)
type_has uninitialized_this h = (refl, refl)
type_has (object class) h = made_object.has class h
type_has (uninitialized offset) h = made_uninitialized.has offset h

type_only : (t : TypeInfo) (byte : ℕ) (bytes : List ℕ) → AreBytes bytes → Spells (type_behind byte) bytes t
    → Behind first_of operand_pieces byte bytes t
type_only t byte bytes fit =
    if_tag 0 _ _ (made_done top) (λ a. refl) (λ a. refl)
    (if_tag 1 _ _ (made_done integer) (λ a. refl) (λ a. refl)
    (if_tag 2 _ _ (made_done float) (λ a. refl) (λ a. refl)
    (if_tag 3 _ _ (made_done double) (λ a. refl) (λ a. refl)
    (if_tag 4 _ _ (made_done long) (λ a. refl) (λ a. refl)
    (if_tag 5 _ _ (made_done null) (λ a. refl) (λ a. refl)
    (if_tag 6 _ _ (made_done uninitialized_this) (λ a. refl) (λ a. refl)
    (if_tag 7 _ _ made_object (λ a. refl) (λ a. refl)
    (if_tag 8 _ _ made_uninitialized (λ a. refl) (λ a. refl)
    (λ s. absurd s)))))))))
  where
    if_tag : {A : Type 0} {make : A → TypeInfo} {p : A → List Piece} (k : ℕ) (f g : Format TypeInfo) → Made f make p
        → ((a : A) → first_of (make a) ≡ Some k) → ((a : A) → p a ≡ operand_pieces (make a))
        → (Spells g bytes t → Behind first_of operand_pieces byte bytes t)
        → Spells (if nat_eq byte k then f else g) bytes t → Behind first_of operand_pieces byte bytes t
    if_tag k f g m is are there =
        if_equal byte k f g t bytes
        (λ e s. subst (λ (n : ℕ). Behind first_of operand_pieces n bytes t) (sym e)
        (behind_this first_of operand_pieces k m is are t bytes fit s))
        (λ e s. there s)

told_type : Told type_behind first_of operand_pieces
told_type = record {
  has = λ t byte is h. subst (λ (n : ℕ). Spells (type_behind n) (text (operand_pieces t)) t) (same_byte _ _ is)
      (type_has t h);
  only = λ t byte bytes lt fit s. type_only t byte bytes fit s;
}

pub writes_type : Writes type_info type_pieces
unfolding type_info
writes_type = writes_told told_type

pub writes_types : Writes type_table (counted type_pieces)
unfolding type_table
writes_types = made_counted number_2 writes_type

-- ---- so many types

abbrev Tuple : Type 0 → ℕ → Type 0
Tuple V zero = Unit {0}
Tuple V (suc n) = V × Tuple V n

abbrev listed : {V : Type 0} → (n : ℕ) → Tuple V n → List V
listed zero x = []
listed (suc n) x = x.0 ∷ listed n x.1

length-listed : (V : Type 0) (n : ℕ) (x : Tuple V n) → length (listed {V = V} n x) ≡ n
length-listed V zero x = refl
length-listed V (suc n) x = ap suc (length-listed V n x.1)

abbrev tuple_of : {V : Type 0} (vs : List V) → Tuple V (length vs)
tuple_of [] = tt
tuple_of (v ∷ vs) = (v, tuple_of vs)

listed-tuple_of : {V : Type 0} (vs : List V) → listed (length vs) (tuple_of vs) ≡ vs
listed-tuple_of [] = refl
listed-tuple_of (v ∷ vs) = ap (λ (us : List _). v ∷ us) (listed-tuple_of vs)

made_times : {V : Type 0} {f : Format V} {p : V → List Piece} → Writes f p → (n : ℕ)
    → Made {A = Tuple V n} (times n f) (listed n) (λ x. flat_map p (listed n x))
unfolding times
made_times m zero = made_done []
made_times {V = V} m (suc n) = made_then _ m (λ v. made_last (λ (us : List V). v ∷ us) (made_times m n))

-- ---- entries, by the ranges of their frame types

made_with_item : (delta : ℕ) → Made (andthen type_info (λ item. done (same_with_item delta item)))
    (same_with_item delta) type_pieces
made_with_item delta = made_last (same_with_item delta) writes_type

made_with_item_extended : Made {A = ℕ × TypeInfo}
    (andthen (number 2) (λ delta. andthen type_info (λ item. done (same_with_item_extended delta item))))
    (λ a. same_with_item_extended a.0 a.1) (λ a. field 2 a.0 ++ type_pieces a.1)
made_with_item_extended = made_then _ (made_number 2 number_2)
    (λ delta. made_last (same_with_item_extended delta) writes_type)

made_chop : (count : ℕ) → Made (andthen (number 2) (λ delta. done (chop count delta))) (chop count) (field 2)
made_chop count = made_last (chop count) (made_number 2 number_2)

made_same_extended : Made (andthen (number 2) (λ delta. done (same_extended delta))) same_extended (field 2)
made_same_extended = made_last same_extended (made_number 2 number_2)

made_append : (n : ℕ) → Made {A = ℕ × Tuple TypeInfo n}
    (andthen (number 2) (λ delta. andthen (times n type_info) (λ locals. done (append delta locals))))
    (λ a. append a.0 (listed n a.1))
    (λ a. field 2 a.0 ++ flat_map type_pieces (listed n a.1))
made_append n = made_then _ (made_number 2 number_2) (λ delta. made_last (append delta) (made_times writes_type n))

made_full : Made {A = ℕ × (List TypeInfo × List TypeInfo)}
    (andthen (number 2) (λ delta. andthen type_table
    (λ locals. andthen type_table (λ stack. done (full delta locals stack))))) (λ a. full a.0 a.1.0 a.1.1)
    (λ a. field 2 a.0 ++ (counted type_pieces a.1.0 ++ counted type_pieces a.1.1))
made_full = made_then _ (made_number 2 number_2)
    (λ delta. made_then _ writes_types (λ locals. made_last (full delta locals) writes_types))

-- what stands after a frame type of each range
at_same : (type : ℕ) → type ≤ 63 → entry_behind type ≡ done (same type)
at_same type le = rw (le-leb type 63 le) refl

at_item : (type : ℕ) → 63 < type → type ≤ 127
    → entry_behind type ≡ andthen type_info (λ item. done (same_with_item (type - 64) item))
at_item type lt le = rw (lt-leb type 63 lt, le-leb type 127 le) refl

at_chop : (type : ℕ) → 247 < type → type ≤ 250
    → entry_behind type ≡ andthen (number 2) (λ delta. done (chop (251 - type) delta))
at_chop type lt le =
    rw (
      lt-leb type 63 (omega (arith, lt)),
      lt-leb type 127 (omega (arith, lt)),
      lt-leb type 246 (omega (arith, lt)),
      ne_eqb type 247 (λ e. omega (arith, lt, e)),
      le-leb type 250 le,
    ) refl

at_append : (type : ℕ) → 251 < type → type ≤ 254
    → entry_behind type ≡ andthen (number 2)
    (λ delta. andthen (times (type - 251) type_info) (λ locals. done (append delta locals)))
at_append type lt le =
    rw (
      lt-leb type 63 (omega (arith, lt)),
      lt-leb type 127 (omega (arith, lt)),
      lt-leb type 246 (omega (arith, lt)),
      ne_eqb type 247 (λ e. omega (arith, lt, e)),
      lt-leb type 250 (omega (arith, lt)),
      ne_eqb type 251 (λ e. omega (arith, lt, e)),
      le-leb type 254 le,
    ) refl

some_if : (b : Bool) (n byte : ℕ) → cond b (Some n) None ≡ Some byte → (b ≡ true) × (n ≡ byte)
some_if true n byte h = (refl, cc)
some_if false n byte h = absurd cc

-- the range of a number
in_range : (least most n : ℕ) → between least most n ≡ true → (least ≤ n) × (n ≤ most)
in_range least most n h = by_tests (nat_le least n) (nat_le n most) refl refl h
  where
    by_tests : (a b : Bool) → nat_le least n ≡ a → nat_le n most ≡ b → (a && b) ≡ true → (least ≤ n) × (n ≤ most)
    by_tests true true x y e = (leb-true _ _ x, leb-true _ _ y)
    by_tests true false x y e = absurd cc
    by_tests false b x y e = absurd cc

is_between : (least most n : ℕ) → least ≤ n → n ≤ most → between least most n ≡ true
is_between least most n h k = rw (le-leb least n h, le-leb n most k) refl

-- one format in place of another
spells_by : {f g : Format MapEntry} (bytes : List ℕ) (e : MapEntry) → f ≡ g → Spells g bytes e → Spells f bytes e
spells_by bytes e is s = subst (λ (h : Format MapEntry). Spells h bytes e) (sym is) s

entry_has : (e : MapEntry) (byte : ℕ) → frame_type e ≡ Some byte → ArePlain (behind_pieces e)
    → Spells (entry_behind byte) (text (behind_pieces e)) e
entry_has (same delta) byte is h =
    let r = some_if (nat_le delta 63) delta byte is in
    subst (λ (n : ℕ). Spells (entry_behind n) [] (same delta)) r.1
    (spells_by _ _ (at_same delta (leb-true _ _ r.0)) (refl, refl))
entry_has (same_with_item delta item) byte is h =
    let r = some_if (nat_le delta 63) (64 + delta) byte is in
    let le : delta ≤ 63 = leb-true _ _ r.0 in
    let back : (64 + delta) - 64 ≡ delta = omega arith in
    let s : Spells (andthen type_info (λ item. done (same_with_item ((64 + delta) - 64) item)))
    (text (type_pieces item)) (same_with_item delta item) =
    subst (λ (n : ℕ). Spells (andthen type_info (λ item. done (same_with_item n item))) (text (type_pieces item))
    (same_with_item delta item)) (sym back) ((made_with_item delta).has item h) in
    subst (λ (n : ℕ). Spells (entry_behind n) (text (type_pieces item)) (same_with_item delta item)) r.1
    (spells_by _ _ (at_item (64 + delta) (omega arith) (omega (arith, le))) s)
entry_has (same_with_item_extended delta item) byte is h =
    subst (λ (n : ℕ). Spells (entry_behind n) (text (field 2 delta ++ type_pieces item))
    (same_with_item_extended delta item)) (same_byte _ _ is) (made_with_item_extended.has (delta, item) h)
entry_has (chop count delta) byte is h =
    let r = some_if (between 1 3 count) (251 - count) byte is in
    let few = in_range 1 3 count r.0 in
    let back : 251 - (251 - count) ≡ count = omega (arith, few.0, few.1) in
    let s : Spells (andthen (number 2) (λ delta. done (chop (251 - (251 - count)) delta))) (text (field 2 delta))
    (chop count delta) =
    subst (λ (n : ℕ). Spells (andthen (number 2) (λ delta. done (chop n delta))) (text (field 2 delta))
    (chop count delta)) (sym back) ((made_chop count).has delta h) in
    subst (λ (n : ℕ). Spells (entry_behind n) (text (field 2 delta)) (chop count delta)) r.1
    (spells_by _ _ (at_chop (251 - count) (omega (arith, few.0, few.1)) (omega (arith, few.0, few.1))) s)
entry_has (same_extended delta) byte is h =
    subst (λ (n : ℕ). Spells (entry_behind n) (text (field 2 delta)) (same_extended delta)) (same_byte _ _ is)
    (made_same_extended.has delta h)
entry_has (append delta locals) byte is h =
    let n = length locals in
    let r = some_if (between 1 3 n) (251 + n) byte is in
    let few = in_range 1 3 n r.0 in
    let all = listed-tuple_of locals in
    let back : (251 + n) - 251 ≡ n = omega arith in
    let of_count : ℕ → Format MapEntry =
    λ k. andthen (number 2) (λ delta. andthen (times k type_info) (λ locals. done (append delta locals))) in
    let one = (made_append n).has (delta, tuple_of locals)
    (subst (λ (ts : List TypeInfo). ArePlain (field 2 delta ++ flat_map type_pieces ts)) (sym all) h) in
    let two : Spells (of_count n) (text (field 2 delta ++ flat_map type_pieces locals)) (append delta locals) =
    subst (λ (ts : List TypeInfo). Spells (of_count n) (text (field 2 delta ++ flat_map type_pieces ts))
    (append delta ts)) all one in
    let s : Spells (of_count ((251 + n) - 251)) (text (field 2 delta ++ flat_map type_pieces locals))
    (append delta locals) =
    subst (λ (k : ℕ). Spells (of_count k) (text (field 2 delta ++ flat_map type_pieces locals)) (append delta locals))
    (sym back) two in
    subst (λ (k : ℕ). Spells (entry_behind k) (text (field 2 delta ++ flat_map type_pieces locals))
    (append delta locals)) r.1 (spells_by _ _ (at_append (251 + n) (omega (arith, few.0)) (omega (arith, few.1))) s)
entry_has (full delta locals stack) byte is h =
    subst (λ (n : ℕ). Spells (entry_behind n)
    (text (field 2 delta ++ (counted type_pieces locals ++ counted type_pieces stack))) (full delta locals stack))
    (same_byte _ _ is) (made_full.has (delta, (locals, stack)) h)

entry_only : (e : MapEntry) (byte : ℕ) (bytes : List ℕ) → byte < 256 → AreBytes bytes
    → Spells (entry_behind byte) bytes e → Behind frame_type behind_pieces byte bytes e
entry_only e byte bytes lt fit =
    if_within byte 63 _ _ e bytes
    (λ le s. behind_this frame_type behind_pieces byte (made_done (same byte)) (λ a. rw (le-leb byte 63 le) refl)
    (λ a. refl) e bytes fit s) (λ up63.
    if_within byte 127 _ _ e bytes
    (λ le s. behind_this frame_type behind_pieces byte (made_with_item (byte - 64)) (λ a. item_type byte up63 le)
    (λ a. refl) e bytes fit s) (λ up127.
    if_within byte 246 _ _ e bytes (λ le s. absurd s) (λ up246.
    if_equal byte 247 _ _ e bytes
    (λ is s. behind_this frame_type behind_pieces byte made_with_item_extended (λ a. ap Some (sym is))
    (λ a. refl) e bytes fit s) (λ not247.
    if_within byte 250 _ _ e bytes
    (λ le s. behind_this frame_type behind_pieces byte (made_chop (251 - byte))
    (λ a. chop_type byte (omega (arith, up246, not247)) le) (λ a. refl) e bytes fit s) (λ up250.
    if_equal byte 251 _ _ e bytes
    (λ is s. behind_this frame_type behind_pieces byte made_same_extended (λ a. ap Some (sym is))
    (λ a. refl) e bytes fit s) (λ not251.
    if_within byte 254 _ _ e bytes
    (λ le s. behind_this frame_type behind_pieces byte (made_append (byte - 251))
    (λ a. append_type byte a.1 (omega (arith, up250, not251)) le) (λ a. refl) e bytes fit s) (λ up254 s.
    behind_this frame_type behind_pieces byte made_full (λ a. ap Some (omega (arith, up254, lt)))
    (λ a. refl) e bytes fit s)))))))
  where
    item_type : (byte : ℕ) → 63 < byte → byte ≤ 127
        → cond (nat_le (byte - 64) 63) (Some (64 + (byte - 64))) None ≡ Some byte
    item_type byte lt le = let back : 64 + (byte - 64) ≡ byte = omega (arith, lt) in
        rw (le-leb (byte - 64) 63 (omega (arith, le)), back) refl

    chop_type : (byte : ℕ) → 247 < byte → byte ≤ 250
        → cond (between 1 3 (251 - byte)) (Some (251 - (251 - byte))) None ≡ Some byte
    chop_type byte lt le = let back : 251 - (251 - byte) ≡ byte = omega (arith, le) in
        rw (is_between 1 3 (251 - byte) (omega (arith, le)) (omega (arith, lt)), back) refl

    append_type : (byte : ℕ) (x : Tuple TypeInfo (byte - 251)) → 251 < byte → byte ≤ 254
        → frame_type (append 0 (listed (byte - 251) x)) ≡ Some byte
    append_type byte x lt le =
        let back : 251 + (byte - 251) ≡ byte = omega (arith, lt) in
        ap (λ (n : ℕ). cond (between 1 3 n) (Some (251 + n)) None) (length-listed TypeInfo (byte - 251) x)
        ∙ rw (is_between 1 3 (byte - 251) (omega (arith, lt)) (omega (arith, le)), back) refl

pub writes_entry : Writes map_entry entry_pieces
unfolding map_entry
writes_entry = writes_told (record { has = entry_has; only = entry_only })

pub writes_map : Writes stack_map map_pieces
unfolding stack_map
writes_map = made_counted number_2 writes_entry
