-- Words of the code's own steps: nothing that a reader must believe rests on them. Each format of the pool spells
-- exactly the entries whose pieces are plain.
use Rattle.std.proofs.Common.{◌≡◌, ℕ, ◌+◌, ◌-◌, zero, suc, Bool, true, false, cond, List, [], ◌∷◌, ◌++◌, length, refl, sym, ap, subst, ◌∙◌, arith, Option, Some, None}
use Rattle.std.proofs.lemmas.Bool.{eqb-true, eqb-false, ne_eqb}
use Rattle.std.proofs.lemmas.List.{append-nil}
use Rattle.std.specs.Prelude.{nat_eq, not, if◌then◌else◌}
use Rattle.layout.specs.declared.fault.ReadFault.TheVariants.{BadPoolCount}
use Rattle.layout.specs.Format.{AreBytes, Format, done, part, refuse, Spells, andthen, number}
use Rattle.layout.specs.FormatLaws.{AreBytes-parts, andthen_spelled, andthen_parts, NumberLaw, number_1, number_2, number_4}
use Rattle.layout.specs.Pieces.{Piece, field, text, ArePlain, marked}
use Rattle.layout.specs.PieceLaws.{Made, Writes, made_then, made_last, made_number, text_append, plain_parts, plain_append}
use Rattle.names.specs.Units.{bad_text}
use Rattle.pool.specs.declared.kind.ReferenceKind.{ReferenceKind}
use Rattle.pool.specs.declared.kind.ReferenceKind.TheVariants.{GetField, GetStatic, PutField, PutStatic, InvokeVirtual, InvokeStatic, InvokeSpecial, NewInvokeSpecial, InvokeInterface}
use Rattle.pool.specs.Kinds.{kind_number, kind_of}
use Rattle.pool.specs.Entries.{Entry, Utf8, Integer, Float, Long, Double, Class, String, Fieldref, Methodref, InterfaceMethodref, NameAndType, MethodHandle, MethodType, Dynamic, InvokeDynamic, Unusable, one, two, utf8, method_handle, wide, body, entry, text_or, kind_or, text_pieces, entry_pieces, second_pieces, indexed, indexed_pieces, entries, entries_pieces, is_wide, pool, pool_pieces}

-- ---- bodies of numbers

made_one : (n : ℕ) → NumberLaw n → (make : ℕ → Entry) → Made (one n make) make (field n)
unfolding one
made_one n law make = made_last make (made_number n law)

made_two : (n : ℕ) → NumberLaw n → (make : ℕ → ℕ → Entry)
    → Made {A = ℕ × ℕ} (two n make) (λ a. make a.0 a.1) (λ a. field n a.0 ++ field n a.1)
unfolding two
made_two n law make = made_then (λ x. andthen (number n) (λ y. done (make x y))) (made_number n law)
    (λ x. made_last (make x) (made_number n law))

-- ---- texts

well_spelled : (bytes : List ℕ) (o : Option ℕ) → ArePlain (text_pieces bytes o) → (text (text_pieces bytes o) ≡ bytes)
    × (o ≡ None)
well_spelled bytes None h = (append-nil bytes, refl)
well_spelled bytes (Some k) h = absurd h

was_spelled : (bytes rest : List ℕ) (o : Option ℕ) (e : Entry) → Spells (text_or bytes o) rest e → (rest ≡ [])
    × (Utf8 bytes ≡ e) × (bytes ≡ text (text_pieces bytes o)) × ArePlain (text_pieces bytes o)
was_spelled bytes rest None e s = (s.0, s.1, sym (append-nil bytes), tt)
was_spelled bytes rest (Some k) e s = absurd s

made_utf8 : Made utf8 Utf8 (λ bytes. field 2 (length bytes) ++ text_pieces bytes (bad_text bytes))
unfolding utf8
made_utf8 = record { has = has; only = only }
  where
    next_part : ℕ → Format Entry
    next_part n = part n (λ bytes. text_or bytes (bad_text bytes))

    has : (bytes : List ℕ) → ArePlain (field 2 (length bytes) ++ text_pieces bytes (bad_text bytes))
        → Spells (andthen (number 2) next_part) (text (field 2 (length bytes) ++ text_pieces bytes (bad_text bytes)))
        (Utf8 bytes)
    has bytes h =
        let p = plain_parts (field 2 (length bytes)) (text_pieces bytes (bad_text bytes)) h in
        let w = well_spelled bytes (bad_text bytes) p.1 in
        let good : Spells (text_or bytes (bad_text bytes)) [] (Utf8 bytes) =
        subst (λ (o : Option ℕ). Spells (text_or bytes o) [] (Utf8 bytes)) (sym w.1) (refl, refl) in
        let rest : Spells (next_part (length bytes)) bytes (Utf8 bytes) =
        (bytes, [], refl, sym (append-nil bytes), good) in
        subst (λ (t : List ℕ). Spells (andthen (number 2) next_part) t (Utf8 bytes))
        (sym (text_append (field 2 (length bytes)) (text_pieces bytes (bad_text bytes))
        ∙ ap (λ (t : List ℕ). text (field 2 (length bytes)) ++ t) w.0))
        (andthen_spelled (number 2) next_part (text (field 2 (length bytes))) bytes (length bytes) (Utf8 bytes)
        ((made_number 2 number_2).has (length bytes) p.0) rest)

    only : (e : Entry) (bytes : List ℕ) → AreBytes bytes → Spells (andthen (number 2) next_part) bytes e
        → (b : List ℕ) × (Utf8 b ≡ e) × (bytes ≡ text (field 2 (length b) ++ text_pieces b (bad_text b)))
        × ArePlain (field 2 (length b) ++ text_pieces b (bad_text b))
    only e bytes fit s =
        let i = andthen_parts (number 2) next_part bytes e s in
        let bs = AreBytes-parts i.0 i.1 (subst AreBytes i.3 fit) in
        let x = (made_number 2 number_2).only i.2 i.0 bs.0 i.4 in
        let t = i.5 in
        let w = was_spelled t.0 t.1 (bad_text t.0) e t.4 in
        let n : x.0 ≡ length t.0 = x.1 ∙ sym t.2 in
        let rest : i.1 ≡ text (text_pieces t.0 (bad_text t.0)) =
        t.3 ∙ ap (λ (r : List ℕ). t.0 ++ r) w.0 ∙ append-nil t.0 ∙ w.2 in (
          t.0,
          w.1,
          i.3 ∙ ap (λ (r : List ℕ). r ++ i.1) (x.2 ∙ ap (λ (k : ℕ). text (field 2 k)) n)
              ∙ ap (λ (r : List ℕ). text (field 2 (length t.0)) ++ r) rest
              ∙ sym (text_append (field 2 (length t.0)) (text_pieces t.0 (bad_text t.0))),
          plain_append (field 2 (length t.0)) (text_pieces t.0 (bad_text t.0))
              (subst (λ (k : ℕ). ArePlain (field 2 k)) n x.3) w.3,
        )

-- ---- method handles

-- each kind has its number, and no number two kinds
kind_back : (kind : ReferenceKind) → kind_of (kind_number kind) ≡ Some kind
kind_back GetField = refl
kind_back GetStatic = refl
kind_back PutField = refl
kind_back PutStatic = refl
kind_back InvokeVirtual = refl
kind_back InvokeStatic = refl
kind_back InvokeSpecial = refl
kind_back NewInvokeSpecial = refl
kind_back InvokeInterface = refl

same_kind : (j k : ReferenceKind) → Some j ≡ Some k → j ≡ k
same_kind j k h = cc

this_or : (n : ℕ) (j k : ReferenceKind) (o : Option ReferenceKind) → (o ≡ Some k → kind_number k ≡ n)
    → (if nat_eq n (kind_number j) then Some j else o) ≡ Some k → kind_number k ≡ n
this_or n j k o others = by_test (nat_eq n (kind_number j)) refl
  where
    by_test : (b : Bool) → nat_eq n (kind_number j) ≡ b → cond b (Some j) o ≡ Some k → kind_number k ≡ n
    by_test true h e = ap kind_number (sym (same_kind j k e)) ∙ sym (eqb-true _ _ h)
    by_test false h e = others e

kind_is : (n : ℕ) (k : ReferenceKind) → kind_of n ≡ Some k → kind_number k ≡ n
kind_is n k =
    this_or n GetField k _
    (this_or n GetStatic k _
    (this_or n PutField k _
    (this_or n PutStatic k _
    (this_or n InvokeVirtual k _
    (this_or n InvokeStatic k _
    (this_or n InvokeSpecial k _
    (this_or n NewInvokeSpecial k _
    (this_or n InvokeInterface k _
    (λ (e : None ≡ Some k). absurd cc)))))))))

-- the reference of a method handle, after its kind
reference_of : (kind : ReferenceKind)
    → Made (andthen (number 2) (λ reference. done (MethodHandle kind reference)))
    (λ reference. MethodHandle kind reference) (field 2)
reference_of kind = made_last (λ reference. MethodHandle kind reference) (made_number 2 number_2)

behind_kind : (n : ℕ) (o : Option ReferenceKind) (e : Entry) (bytes : List ℕ) → kind_of n ≡ o → AreBytes bytes
    → Spells (kind_or n o) bytes e
    → (kind : ReferenceKind) × (kind_number kind ≡ n) × (r : ℕ) × (MethodHandle kind r ≡ e) × (bytes ≡ text (field 2 r))
    × ArePlain (field 2 r)
behind_kind n None e bytes is fit s = absurd s
behind_kind n (Some kind) e bytes is fit s = let x = (reference_of kind).only e bytes fit s in
    (kind, kind_is n kind is, x.0, x.1, x.2, x.3)

made_method_handle : Made {A = ReferenceKind × ℕ} method_handle (λ a. MethodHandle a.0 a.1)
    (λ a. field 1 (kind_number a.0) ++ field 2 a.1)
unfolding method_handle
made_method_handle = record { has = has; only = only }
  where
    next_part : ℕ → Format Entry
    next_part n = kind_or n (kind_of n)

    has : (a : ReferenceKind × ℕ) → ArePlain (field 1 (kind_number a.0) ++ field 2 a.1)
        → Spells (andthen (number 1) next_part) (text (field 1 (kind_number a.0) ++ field 2 a.1)) (MethodHandle a.0 a.1)
    has a h =
        let n = kind_number a.0 in
        let p = plain_parts (field 1 n) (field 2 a.1) h in
        let there : Spells (next_part n) (text (field 2 a.1)) (MethodHandle a.0 a.1) =
        subst (λ (o : Option ReferenceKind). Spells (kind_or n o) (text (field 2 a.1)) (MethodHandle a.0 a.1))
        (sym (kind_back a.0)) ((reference_of a.0).has a.1 p.1) in
        subst (λ (t : List ℕ). Spells (andthen (number 1) next_part) t (MethodHandle a.0 a.1))
        (sym (text_append (field 1 n) (field 2 a.1)))
        (andthen_spelled (number 1) next_part (text (field 1 n)) (text (field 2 a.1)) n (MethodHandle a.0 a.1)
        ((made_number 1 number_1).has n p.0) there)

    only : (e : Entry) (bytes : List ℕ) → AreBytes bytes → Spells (andthen (number 1) next_part) bytes e
        → (a : ReferenceKind × ℕ) × (MethodHandle a.0 a.1 ≡ e)
        × (bytes ≡ text (field 1 (kind_number a.0) ++ field 2 a.1))
        × ArePlain (field 1 (kind_number a.0) ++ field 2 a.1)
    only e bytes fit s =
        let i = andthen_parts (number 1) next_part bytes e s in
        let bs = AreBytes-parts i.0 i.1 (subst AreBytes i.3 fit) in
        let x = (made_number 1 number_1).only i.2 i.0 bs.0 i.4 in
        let y = behind_kind i.2 (kind_of i.2) e i.1 refl bs.1 i.5 in
        let n = kind_number y.0 in
        let same : x.0 ≡ n = x.1 ∙ sym y.1 in
        let first : i.0 ≡ text (field 1 n) = x.2 ∙ ap (λ (k : ℕ). text (field 1 k)) same in (
          (y.0, y.2),
          y.3,
          i.3 ∙ ap (λ (t : List ℕ). t ++ i.1) first ∙ ap (λ (t : List ℕ). text (field 1 n) ++ t) y.4
              ∙ sym (text_append (field 1 n) (field 2 y.2)),
          plain_append (field 1 n) (field 2 y.2) (subst (λ (k : ℕ). ArePlain (field 1 k)) same x.3) y.5,
        )

-- ---- one entry

record Kind (last : Bool) (tag : ℕ) (e : Entry) (bytes : List ℕ) : Type 0 where
  behind : List Piece
  are : entry_pieces last e ≡ field 1 tag ++ behind
  spelled : bytes ≡ text behind
  fine : ArePlain behind

has_kind : {A : Type 0} {make : A → Entry} {p : A → List Piece} (last : Bool) (tag : ℕ) → Made (body last tag) make p
    → (a : A) → ArePlain (field 1 tag ++ p a) → Spells (entry last) (text (field 1 tag ++ p a)) (make a)
unfolding entry
has_kind {make = make} {p = p} last tag m a h =
    let parts = plain_parts (field 1 tag) (p a) h in
    subst (λ (t : List ℕ). Spells (andthen (number 1) (λ tag. body last tag)) t (make a))
    (sym (text_append (field 1 tag) (p a)))
    (andthen_spelled (number 1) (λ tag. body last tag) (text (field 1 tag)) (text (p a)) tag (make a)
    ((made_number 1 number_1).has tag parts.0) (m.has a parts.1))

is_this : {A : Type 0} {f : Format Entry} {make : A → Entry} {p : A → List Piece} (last : Bool) (tag : ℕ)
    → Made f make p → ((a : A) → entry_pieces last (make a) ≡ field 1 tag ++ p a)
    → (e : Entry) (bytes : List ℕ) → AreBytes bytes → Spells f bytes e → Kind last tag e bytes
is_this {p = p} last tag m are e bytes fit s =
    let x = m.only e bytes fit s in
    subst (λ (e : Entry). Kind last tag e bytes) x.1
    (record { behind = p x.0; are = are x.0; spelled = x.2; fine = x.3 })

either : (last : Bool) (tag k : ℕ) (f g : Format Entry) (e : Entry) (bytes : List ℕ)
    → (Spells f bytes e → Kind last k e bytes) → (Spells g bytes e → Kind last tag e bytes)
    → Spells (if nat_eq tag k then f else g) bytes e → Kind last tag e bytes
either last tag k f g e bytes here there = by_test (nat_eq tag k) refl
  where
    by_test : (b : Bool) → nat_eq tag k ≡ b → Spells (cond b f g) bytes e → Kind last tag e bytes
    by_test true h s = subst (λ (n : ℕ). Kind last n e bytes) (sym (eqb-true _ _ h)) (here s)
    by_test false h s = there s

wide_is : (last : Bool) (tag : ℕ) (make : ℕ → ℕ → Entry)
    → ((x y : ℕ) → entry_pieces last (make x y) ≡ marked (not last) (field 1 tag ++ (field 4 x ++ field 4 y)))
    → (e : Entry) (bytes : List ℕ) → AreBytes bytes → Spells (wide last tag (two 4 make)) bytes e
    → Kind last tag e bytes
wide_is true tag make are e bytes fit s = absurd s
wide_is false tag make are e bytes fit s = is_this false tag (made_two 4 number_4 make) (λ a. are a.0 a.1) e bytes fit s

body_kind : (last : Bool) (tag : ℕ) (e : Entry) (bytes : List ℕ) → AreBytes bytes → Spells (body last tag) bytes e
    → Kind last tag e bytes
body_kind last tag e bytes fit =
    either last tag 1 _ _ e bytes (is_this last 1 made_utf8 (λ a. refl) e bytes fit)
    (either last tag 3 _ _ e bytes (is_this last 3 (made_one 4 number_4 Integer) (λ a. refl) e bytes fit)
    (either last tag 4 _ _ e bytes (is_this last 4 (made_one 4 number_4 Float) (λ a. refl) e bytes fit)
    (either last tag 5 _ _ e bytes (wide_is last 5 Long (λ x y. refl) e bytes fit)
    (either last tag 6 _ _ e bytes (wide_is last 6 Double (λ x y. refl) e bytes fit)
    (either last tag 7 _ _ e bytes (is_this last 7 (made_one 2 number_2 Class) (λ a. refl) e bytes fit)
    (either last tag 8 _ _ e bytes (is_this last 8 (made_one 2 number_2 String) (λ a. refl) e bytes fit)
    (either last tag 9 _ _ e bytes (is_this last 9 (made_two 2 number_2 Fieldref) (λ a. refl) e bytes fit)
    (either last tag 10 _ _ e bytes (is_this last 10 (made_two 2 number_2 Methodref) (λ a. refl) e bytes fit)
    (either last tag 11 _ _ e bytes (is_this last 11 (made_two 2 number_2 InterfaceMethodref) (λ a. refl) e bytes fit)
    (either last tag 12 _ _ e bytes (is_this last 12 (made_two 2 number_2 NameAndType) (λ a. refl) e bytes fit)
    (either last tag 15 _ _ e bytes (is_this last 15 made_method_handle (λ a. refl) e bytes fit)
    (either last tag 16 _ _ e bytes (is_this last 16 (made_one 2 number_2 MethodType) (λ a. refl) e bytes fit)
    (either last tag 17 _ _ e bytes (is_this last 17 (made_two 2 number_2 Dynamic) (λ a. refl) e bytes fit)
    (either last tag 18 _ _ e bytes (is_this last 18 (made_two 2 number_2 InvokeDynamic) (λ a. refl) e bytes fit)
    (λ s. absurd s)))))))))))))))

entry_has : (last : Bool) (e : Entry) → ArePlain (entry_pieces last e)
    → Spells (entry last) (text (entry_pieces last e)) e
entry_has last (Utf8 bytes) h = has_kind last 1 made_utf8 bytes h
entry_has last (Integer x) h = has_kind last 3 (made_one 4 number_4 Integer) x h
entry_has last (Float x) h = has_kind last 4 (made_one 4 number_4 Float) x h
entry_has true (Long x y) h = absurd h
entry_has false (Long x y) h = has_kind false 5 (made_two 4 number_4 Long) (x, y) h
entry_has true (Double x y) h = absurd h
entry_has false (Double x y) h = has_kind false 6 (made_two 4 number_4 Double) (x, y) h
entry_has last (Class x) h = has_kind last 7 (made_one 2 number_2 Class) x h
entry_has last (String x) h = has_kind last 8 (made_one 2 number_2 String) x h
entry_has last (Fieldref x y) h = has_kind last 9 (made_two 2 number_2 Fieldref) (x, y) h
entry_has last (Methodref x y) h = has_kind last 10 (made_two 2 number_2 Methodref) (x, y) h
entry_has last (InterfaceMethodref x y) h = has_kind last 11 (made_two 2 number_2 InterfaceMethodref) (x, y) h
entry_has last (NameAndType x y) h = has_kind last 12 (made_two 2 number_2 NameAndType) (x, y) h
entry_has last (MethodHandle kind reference) h = has_kind last 15 made_method_handle (kind, reference) h
entry_has last (MethodType x) h = has_kind last 16 (made_one 2 number_2 MethodType) x h
entry_has last (Dynamic x y) h = has_kind last 17 (made_two 2 number_2 Dynamic) (x, y) h
entry_has last (InvokeDynamic x y) h = has_kind last 18 (made_two 2 number_2 InvokeDynamic) (x, y) h
entry_has last Unusable h = absurd h

pub writes_entry : (last : Bool) → Writes (entry last) (entry_pieces last)
unfolding entry
writes_entry last = record { has = entry_has last; only = only }
  where
    only : (e : Entry) (bytes : List ℕ) → AreBytes bytes → Spells (andthen (number 1) (λ tag. body last tag)) bytes e
        → (x : Entry) × (x ≡ e) × (bytes ≡ text (entry_pieces last x)) × ArePlain (entry_pieces last x)
    only e bytes fit s =
        let i = andthen_parts (number 1) (λ tag. body last tag) bytes e s in
        let bs = AreBytes-parts i.0 i.1 (subst AreBytes i.3 fit) in
        let x = (made_number 1 number_1).only i.2 i.0 bs.0 i.4 in
        let k = body_kind last i.2 e i.1 bs.1 i.5 in
        let first : i.0 ≡ text (field 1 i.2) = x.2 ∙ ap (λ (n : ℕ). text (field 1 n)) x.1 in (
          e,
          refl,
          i.3 ∙ ap (λ (t : List ℕ). t ++ i.1) first ∙ ap (λ (t : List ℕ). text (field 1 i.2) ++ t) k.spelled
              ∙ sym (text_append (field 1 i.2) k.behind) ∙ ap text (sym k.are),
          subst ArePlain (sym k.are) (plain_append (field 1 i.2) k.behind
              (subst (λ (n : ℕ). ArePlain (field 1 n)) x.1 x.3) k.fine),
        )

-- ---- the entries of all indices

unusable_has : (last : Bool) (e : Entry) → ArePlain (second_pieces last e) → (text (second_pieces last e) ≡ [])
    × (Unusable ≡ e)
unusable_has last Unusable h = (refl, refl)
unusable_has last (Utf8 bytes) h = absurd h
unusable_has last (Integer x) h = absurd h
unusable_has last (Float x) h = absurd h
unusable_has last (Long x y) h = absurd h
unusable_has last (Double x y) h = absurd h
unusable_has last (Class x) h = absurd h
unusable_has last (String x) h = absurd h
unusable_has last (Fieldref x y) h = absurd h
unusable_has last (Methodref x y) h = absurd h
unusable_has last (InterfaceMethodref x y) h = absurd h
unusable_has last (NameAndType x y) h = absurd h
unusable_has last (MethodHandle kind reference) h = absurd h
unusable_has last (MethodType x) h = absurd h
unusable_has last (Dynamic x y) h = absurd h
unusable_has last (InvokeDynamic x y) h = absurd h

writes_indexed : (second last : Bool) → Writes (indexed second last) (indexed_pieces second last)
writes_indexed true last = record { has = unusable_has last; only = λ e bytes fit s. (Unusable, s.1, s.0, tt) }
writes_indexed false last = writes_entry last

entries_has : (second : Bool) (es : List Entry) → ArePlain (entries_pieces second es)
    → Spells (entries (length es) second) (text (entries_pieces second es)) es
unfolding entries entries_pieces
entries_has second [] h = (refl, refl)
entries_has second (e ∷ es) h =
    let last = nat_eq (length es) 0 in
    let parts = plain_parts (indexed_pieces second last e) (entries_pieces (is_wide e) es) h in
    let n = length es in
    let rest : List ℕ = text (entries_pieces (is_wide e) es) in
    let behind : Entry → Format (List Entry) = λ x. andthen (entries n (is_wide x)) (λ others. done (x ∷ others)) in
    let tail = andthen_spelled (entries n (is_wide e)) (λ others. done (e ∷ others)) rest [] es (e ∷ es)
    (entries_has (is_wide e) es parts.1) (refl, refl) in
    let plainly : Spells (behind e) rest (e ∷ es) =
    subst (λ (t : List ℕ). Spells (behind e) t (e ∷ es)) (append-nil rest) tail in
    subst (λ (t : List ℕ). Spells (andthen (indexed second last) behind) t (e ∷ es))
    (sym (text_append (indexed_pieces second last e) (entries_pieces (is_wide e) es)))
    (andthen_spelled (indexed second last) behind (text (indexed_pieces second last e)) rest e (e ∷ es)
    ((writes_indexed second last).has e parts.0) plainly)

entries_only : (n : ℕ) (second : Bool) (es : List Entry) (bytes : List ℕ) → AreBytes bytes
    → Spells (entries n second) bytes es
    → (length es ≡ n) × (bytes ≡ text (entries_pieces second es)) × ArePlain (entries_pieces second es)
unfolding entries entries_pieces
entries_only zero second es bytes fit s = (
  sym (ap length s.1),
  s.0 ∙ ap (λ (t : List Entry). text (entries_pieces second t)) s.1,
  subst (λ (t : List Entry). ArePlain (entries_pieces second t)) s.1 tt,
)
entries_only (suc n) second es bytes fit s =
    let behind : Entry → Format (List Entry) = λ x. andthen (entries n (is_wide x)) (λ others. done (x ∷ others)) in
    let i = andthen_parts (indexed second (nat_eq n 0)) behind bytes es s in
    let bs = AreBytes-parts i.0 i.1 (subst AreBytes i.3 fit) in
    let x = (writes_indexed second (nat_eq n 0)).only i.2 i.0 bs.0 i.4 in
    let e = i.2 in
    let j = andthen_parts (entries n (is_wide e)) (λ others. done (e ∷ others)) i.1 es i.5 in
    let cs = AreBytes-parts j.0 j.1 (subst AreBytes j.3 bs.1) in
    let y = entries_only n (is_wide e) j.2 j.0 cs.0 j.4 in
    let is_last : nat_eq n 0 ≡ nat_eq (length j.2) 0 = ap (λ (k : ℕ). nat_eq k 0) (sym y.0) in
    let one : i.0 ≡ text (indexed_pieces second (nat_eq (length j.2) 0) e) =
    x.2 ∙ ap (λ (t : Entry). text (indexed_pieces second (nat_eq n 0) t)) x.1
    ∙ ap (λ (b : Bool). text (indexed_pieces second b e)) is_last in
    let fine : ArePlain (indexed_pieces second (nat_eq (length j.2) 0) e) =
    subst (λ (b : Bool). ArePlain (indexed_pieces second b e)) is_last
    (subst (λ (t : Entry). ArePlain (indexed_pieces second (nat_eq n 0) t)) x.1 x.3) in
    let rest : i.1 ≡ text (entries_pieces (is_wide e) j.2) =
    j.3 ∙ ap (λ (t : List ℕ). j.0 ++ t) j.5.0 ∙ append-nil j.0 ∙ y.1 in
    let whole : e ∷ j.2 ≡ es = j.5.1 in (
      sym (ap length whole) ∙ ap suc y.0,
      i.3 ∙ ap (λ (t : List ℕ). t ++ i.1) one
          ∙ ap (λ (t : List ℕ). text (indexed_pieces second (nat_eq (length j.2) 0) e) ++ t) rest
          ∙ sym (text_append (indexed_pieces second (nat_eq (length j.2) 0) e) (entries_pieces (is_wide e) j.2))
          ∙ ap (λ (t : List Entry). text (entries_pieces second t)) whole,
      subst (λ (t : List Entry). ArePlain (entries_pieces second t)) whole
          (plain_append (indexed_pieces second (nat_eq (length j.2) 0) e) (entries_pieces (is_wide e) j.2) fine y.2),
    )

abbrev behind_count : Bool → ℕ → Format (List Entry)
behind_count b count = cond b (refuse (λ at. BadPoolCount (at - 2))) (entries (count - 1) false)

count_only : (count : ℕ) (b : Bool) (es : List Entry) (bytes : List ℕ) → nat_eq count 0 ≡ b → AreBytes bytes
    → Spells (behind_count b count) bytes es
    → (count ≡ length es + 1) × (bytes ≡ text (entries_pieces false es)) × ArePlain (entries_pieces false es)
count_only count true es bytes h fit s = absurd s
count_only count false es bytes h fit s =
    let y = entries_only (count - 1) false es bytes fit s in
    (omega (arith, y.0, eqb-false _ _ h), y.1, y.2)

pub writes_pool : Writes pool pool_pieces
unfolding pool pool_pieces
writes_pool = record { has = has; only = only }
  where
    next_part : ℕ → Format (List Entry)
    next_part count = behind_count (nat_eq count 0) count

    has : (es : List Entry) → ArePlain (field 2 (length es + 1) ++ entries_pieces false es)
        → Spells (andthen (number 2) next_part) (text (field 2 (length es + 1) ++ entries_pieces false es)) es
    has es h =
        let parts = plain_parts (field 2 (length es + 1)) (entries_pieces false es) h in
        let some : nat_eq (length es + 1) 0 ≡ false = ne_eqb _ _ (λ e. omega (arith, e)) in
        let less : length es ≡ (length es + 1) - 1 = omega arith in
        let moved : Spells (entries ((length es + 1) - 1) false) (text (entries_pieces false es)) es =
        subst (λ (k : ℕ). Spells (entries k false) (text (entries_pieces false es)) es) less
        (entries_has false es parts.1) in
        let there : Spells (next_part (length es + 1)) (text (entries_pieces false es)) es =
        subst (λ (b : Bool). Spells (behind_count b (length es + 1)) (text (entries_pieces false es)) es)
        (sym some) moved in
        subst (λ (t : List ℕ). Spells (andthen (number 2) next_part) t es)
        (sym (text_append (field 2 (length es + 1)) (entries_pieces false es)))
        (andthen_spelled (number 2) next_part (text (field 2 (length es + 1))) (text (entries_pieces false es))
        (length es + 1) es ((made_number 2 number_2).has (length es + 1) parts.0) there)

    only : (es : List Entry) (bytes : List ℕ) → AreBytes bytes → Spells (andthen (number 2) next_part) bytes es
        → (x : List Entry) × (x ≡ es) × (bytes ≡ text (field 2 (length x + 1) ++ entries_pieces false x))
        × ArePlain (field 2 (length x + 1) ++ entries_pieces false x)
    only es bytes fit s =
        let i = andthen_parts (number 2) next_part bytes es s in
        let bs = AreBytes-parts i.0 i.1 (subst AreBytes i.3 fit) in
        let x = (made_number 2 number_2).only i.2 i.0 bs.0 i.4 in
        let y = count_only i.2 (nat_eq i.2 0) es i.1 refl bs.1 i.5 in
        let n : x.0 ≡ length es + 1 = x.1 ∙ y.0 in (
          es,
          refl,
          i.3 ∙ ap (λ (t : List ℕ). t ++ i.1) (x.2 ∙ ap (λ (k : ℕ). text (field 2 k)) n)
              ∙ ap (λ (t : List ℕ). text (field 2 (length es + 1)) ++ t) y.1
              ∙ sym (text_append (field 2 (length es + 1)) (entries_pieces false es)),
          plain_append (field 2 (length es + 1)) (entries_pieces false es)
              (subst (λ (k : ℕ). ArePlain (field 2 k)) n x.3) y.2,
        )
