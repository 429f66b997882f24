-- The reader of field types finds what the grammar spells.
use Rattle.std.proofs.Common.{◌≡◌, ℕ, Bool, true, false, eqb, not, ◌&&◌, List, [], ◌∷◌, ◌++◌, Option, Some, None, refl, sym, ap, subst, ◌∙◌, append_assoc, inl, inr}
use Rattle.std.proofs.lemmas.Bool.{cases_Bool, and_parts, and_from, not-true, eqb-true, cond-true, cond-false}
use Rattle.names.specs.declared.base.Primitive.{Primitive}
use Rattle.names.specs.declared.base.Primitive.TheVariants.{Byte, Char, Double, Float, Int, Long, Short, Boolean}
use Rattle.names.specs.Names.{slash, semicolon, bracket}
use Rattle.names.specs.Descriptors.{FieldDescriptor, primitive, class, array, letter, class_letter, field_spelling, IsWellNamed, SpellsField}
use Rattle.names.specs.Reading.{Reading, found, outside, mapped, goes_on, ends_class_name, read_class, lettered, primitives, primitive_of, primitive_before, read_base, read_field}
use Rattle.names.proofs.Readers.{mapped_found, mapped_outside, StopsAt, SpelledFront, IsReader}
use Rattle.names.proofs.ClassNameLaws.{class_name_ends, class_name_from_ends}

-- ---- class names up to a ';'

abbrev pub wants_no_more : Bool → ℕ → Bool
wants_no_more fresh b = not fresh && eqb b semicolon

pub class_on : (fresh : Bool) (b : ℕ) (bytes : List ℕ) → goes_on fresh b ≡ true → read_class fresh (b ∷ bytes) ≡ mapped (λ name. b ∷ name) (read_class (eqb b slash) bytes)
unfolding read_class
class_on fresh b bytes h = cond-true (goes_on fresh b) _ _ h

pub class_end : (fresh : Bool) (b : ℕ) (bytes : List ℕ) → goes_on fresh b ≡ false → wants_no_more fresh b ≡ true → read_class fresh (b ∷ bytes) ≡ found [] bytes
unfolding read_class
class_end fresh b bytes h k = cond-false (goes_on fresh b) _ _ h ∙ cond-true (wants_no_more fresh b) _ _ k

pub class_outside : (fresh : Bool) (b : ℕ) (bytes : List ℕ) → goes_on fresh b ≡ false → wants_no_more fresh b ≡ false → read_class fresh (b ∷ bytes) ≡ outside (b ∷ bytes)
unfolding read_class
class_outside fresh b bytes h k = cond-false (goes_on fresh b) _ _ h ∙ cond-false (wants_no_more fresh b) _ _ k

pub class_nothing : (fresh : Bool) → read_class fresh [] ≡ outside []
unfolding read_class
class_nothing fresh = refl

apart : {A : Type 0} (a : A) (x y : List ℕ) → found a x ≡ outside y → ⊥
apart a x y e = cc

same_value : {A : Type 0} (a b : A) (x y : List ℕ) → found a x ≡ found b y → b ≡ a
same_value a b x y e = cc

same_behind : {A : Type 0} (a b : A) (x y : List ℕ) → found a x ≡ found b y → x ≡ y
same_behind a b x y e = cc

same_outside : {A : Type 0} (x y : List ℕ) → (let r : Reading A = outside x in r) ≡ outside y → x ≡ y
same_outside x y e = cc

-- the bytes are a class name's end, a ';' and the others
record Ended (fresh : Bool) (bytes name rest : List ℕ) : Type 0 where
  ends : ends_class_name fresh name ≡ true
  parts : bytes ≡ name ++ semicolon ∷ rest

ends_cons : (fresh : Bool) (b : ℕ) (name : List ℕ) → goes_on fresh b ≡ true → ends_class_name (eqb b slash) name ≡ true → ends_class_name fresh (b ∷ name) ≡ true
unfolding ends_class_name
ends_cons fresh b name h k = and_from (goes_on fresh b) (ends_class_name (eqb b slash) name) h k

ends_parts : (fresh : Bool) (b : ℕ) (name : List ℕ) → ends_class_name fresh (b ∷ name) ≡ true → (goes_on fresh b ≡ true) × (ends_class_name (eqb b slash) name ≡ true)
unfolding ends_class_name
ends_parts fresh b name h = and_parts (goes_on fresh b) (ends_class_name (eqb b slash) name) h

ends_nothing : (fresh : Bool) → not fresh ≡ true → ends_class_name fresh [] ≡ true
unfolding ends_class_name
ends_nothing fresh h = h

nothing_ends : (fresh : Bool) → ends_class_name fresh [] ≡ true → not fresh ≡ true
unfolding ends_class_name
nothing_ends fresh h = h

class_sound : (fresh : Bool) (bytes name rest : List ℕ) → read_class fresh bytes ≡ found name rest → Ended fresh bytes name rest
class_sound fresh [] name rest e = absurd (apart name rest [] (sym e ∙ class_nothing fresh))
class_sound fresh (b ∷ bytes) name rest e =
    elim (cases_Bool (goes_on fresh b)) [
      | inl on ↦
          let m = mapped_found (λ (t : List ℕ). b ∷ t) (read_class (eqb b slash) bytes) name rest (sym (class_on fresh b bytes on) ∙ e) in
          let inner = class_sound (eqb b slash) bytes m.0 rest m.1 in
          subst (λ (t : List ℕ). Ended fresh (b ∷ bytes) t rest) (sym m.2) (record { ends = ends_cons fresh b m.0 on inner.ends; parts = ap (λ (t : List ℕ). b ∷ t) inner.parts })
      | inr off ↦
          elim (cases_Bool (wants_no_more fresh b)) [
            | inl end ↦
                let is = sym (class_end fresh b bytes off end) ∙ e in
                let p = and_parts (not fresh) (eqb b semicolon) end in
                let none : name ≡ [] = same_value [] name bytes rest is in
                let whole : b ∷ bytes ≡ semicolon ∷ rest = ap (λ (x : ℕ). x ∷ bytes) (eqb-true b semicolon p.1) ∙ ap (λ (t : List ℕ). semicolon ∷ t) (same_behind [] name bytes rest is) in
                subst (λ (t : List ℕ). Ended fresh (b ∷ bytes) t rest) (sym none) (record { ends = ends_nothing fresh p.0; parts = whole })
            | inr stop ↦ absurd (apart name rest (b ∷ bytes) (sym e ∙ class_outside fresh b bytes off stop))
          ]
    ]

class_at_end : (rest : List ℕ) → read_class false (semicolon ∷ rest) ≡ found [] rest
unfolding read_class
class_at_end rest = refl

class_complete : (fresh : Bool) (name rest : List ℕ) → ends_class_name fresh name ≡ true → read_class fresh (name ++ semicolon ∷ rest) ≡ found name rest
class_complete fresh [] rest h = ap (λ (f : Bool). read_class f (semicolon ∷ rest)) (not-true fresh (nothing_ends fresh h)) ∙ class_at_end rest
class_complete fresh (b ∷ name) rest h =
    let p = ends_parts fresh b name h in
    class_on fresh b (name ++ semicolon ∷ rest) p.0 ∙ ap (mapped (λ (t : List ℕ). b ∷ t)) (class_complete (eqb b slash) name rest p.1)

-- the class name that a front begins may be ended by these units
abbrev an_end : Bool → List ℕ
an_end true = 97 ∷ []
an_end false = []

an_end_ends : (fresh : Bool) → ends_class_name fresh (an_end fresh) ≡ true
unfolding ends_class_name
an_end_ends true = refl
an_end_ends false = refl

record ClassStops (fresh : Bool) (bytes rest : List ℕ) : Type 0 where
  front : List ℕ
  more : List ℕ
  parts : bytes ≡ front ++ rest
  ends : ends_class_name fresh (front ++ more) ≡ true
  alike : (b : ℕ) (r others : List ℕ) → rest ≡ b ∷ r → read_class fresh (front ++ b ∷ others) ≡ outside (b ∷ others)

first_of_two : (a b : ℕ) (x y : List ℕ) → a ∷ x ≡ b ∷ y → a ≡ b
first_of_two a b x y e = cc

class_stops : (fresh : Bool) (bytes rest : List ℕ) → read_class fresh bytes ≡ outside rest → ClassStops fresh bytes rest
class_stops fresh [] rest e =
    let none : [] ≡ rest = same_outside [] rest (sym (class_nothing fresh) ∙ e) in
    subst (ClassStops fresh []) none (record { front = []; more = an_end fresh; parts = refl; ends = an_end_ends fresh; alike = λ b r others is. absurd cc })
class_stops fresh (b ∷ bytes) rest e =
    elim (cases_Bool (goes_on fresh b)) [
      | inl on ↦
          let inner = class_stops (eqb b slash) bytes rest (mapped_outside (λ (t : List ℕ). b ∷ t) (read_class (eqb b slash) bytes) rest (sym (class_on fresh b bytes on) ∙ e)) in
          record {
            front = b ∷ inner.front;
            more = inner.more;
            parts = ap (λ (t : List ℕ). b ∷ t) inner.parts;
            ends = ends_cons fresh b (inner.front ++ inner.more) on inner.ends;
            alike = λ c r others is. class_on fresh b (inner.front ++ c ∷ others) on ∙ ap (mapped (λ (t : List ℕ). b ∷ t)) (inner.alike c r others is);
          }
      | inr off ↦
          elim (cases_Bool (wants_no_more fresh b)) [
            | inl end ↦ absurd (apart [] bytes rest (sym (class_end fresh b bytes off end) ∙ e))
            | inr stop ↦
                let is : b ∷ bytes ≡ rest = same_outside (b ∷ bytes) rest (sym (class_outside fresh b bytes off stop) ∙ e) in
                subst (ClassStops fresh (b ∷ bytes)) is
                (record {
                  front = [];
                  more = an_end fresh;
                  parts = refl;
                  ends = an_end_ends fresh;
                  alike = λ c r others same. subst (λ (x : ℕ). read_class fresh (x ∷ others) ≡ outside (x ∷ others)) (first_of_two b c bytes r same) (class_outside fresh b others off stop);
                })
          ]
    ]

-- ---- primitive types

has_letter : (types : List Primitive) (b : ℕ) (p : Primitive) → lettered types b ≡ Some p → b ≡ letter p
has_letter [] b p e = absurd cc
has_letter (q ∷ types) b p e =
    elim (cases_Bool (eqb b (letter q))) [
      | inl hit ↦
          let is : Some q ≡ Some p = sym (cond-true (eqb b (letter q)) _ _ hit) ∙ e in
          let same : q ≡ p = cc in
          eqb-true b (letter q) hit ∙ ap letter same
      | inr miss ↦ has_letter types b p (sym (cond-false (eqb b (letter q)) _ _ miss) ∙ e)
    ]

pub primitive_has_letter : (b : ℕ) (p : Primitive) → primitive_of b ≡ Some p → b ≡ letter p
primitive_has_letter b p e = has_letter primitives b p e

-- ---- types that are no arrays

pub base_class : (b : ℕ) (bytes : List ℕ) → eqb b class_letter ≡ true → read_base (b ∷ bytes) ≡ mapped class (read_class true bytes)
unfolding read_base
base_class b bytes h = cond-true (eqb b class_letter) _ _ h

pub base_letter : (b : ℕ) (bytes : List ℕ) → eqb b class_letter ≡ false → read_base (b ∷ bytes) ≡ primitive_before (primitive_of b) b bytes
unfolding read_base
base_letter b bytes h = cond-false (eqb b class_letter) _ _ h

pub field_array : (b : ℕ) (bytes : List ℕ) → eqb b bracket ≡ true → read_field (b ∷ bytes) ≡ mapped array (read_field bytes)
unfolding read_field
field_array b bytes h = cond-true (eqb b bracket) _ _ h

pub field_base : (b : ℕ) (bytes : List ℕ) → eqb b bracket ≡ false → read_field (b ∷ bytes) ≡ read_base (b ∷ bytes)
unfolding read_field
field_base b bytes h = cond-false (eqb b bracket) _ _ h

pub field_nothing : read_field [] ≡ outside []
unfolding read_field
field_nothing = refl

pub base_nothing : read_base [] ≡ outside []
unfolding read_base
base_nothing = refl

base_sound : (b : ℕ) (bytes rest : List ℕ) (t : FieldDescriptor) → read_base (b ∷ bytes) ≡ found t rest → SpelledFront SpellsField (b ∷ bytes) rest t
base_sound b bytes rest t e =
    elim (cases_Bool (eqb b class_letter)) [
      | inl hit ↦
          let m = mapped_found class (read_class true bytes) t rest (sym (base_class b bytes hit) ∙ e) in
          let inner = class_sound true bytes m.0 rest m.1 in
          let regrouped : m.0 ++ semicolon ∷ rest ≡ (m.0 ++ semicolon ∷ []) ++ rest = sym (append_assoc m.0 (semicolon ∷ []) rest) in
          subst (SpelledFront SpellsField (b ∷ bytes) rest) (sym m.2)
          (record {
            front = field_spelling (class m.0);
            spells = record { named = class_name_from_ends m.0 inner.ends; spelled = refl };
            parts = ap (λ (x : ℕ). x ∷ bytes) (eqb-true b class_letter hit) ∙ ap (λ (x : List ℕ). class_letter ∷ x) (inner.parts ∙ regrouped);
          })
      | inr miss ↦ by_letter (primitive_of b) refl (sym (base_letter b bytes miss) ∙ e)
    ]
  where
    by_letter : (o : Option Primitive) → primitive_of b ≡ o → primitive_before o b bytes ≡ found t rest → SpelledFront SpellsField (b ∷ bytes) rest t
    by_letter None is f = absurd (apart t rest (b ∷ bytes) (sym f))
    by_letter (Some p) is f =
        let same = same_value (primitive p) t bytes rest f in
        let left = same_behind (primitive p) t bytes rest f in
        subst (SpelledFront SpellsField (b ∷ bytes) rest) (sym same)
        (record {
          front = letter p ∷ [];
          spells = record { named = tt; spelled = refl };
          parts = ap (λ (x : ℕ). x ∷ bytes) (primitive_has_letter b p is) ∙ ap (λ (x : List ℕ). letter p ∷ x) left;
        })

field_sound : (bytes rest : List ℕ) (t : FieldDescriptor) → read_field bytes ≡ found t rest → SpelledFront SpellsField bytes rest t
field_sound [] rest t e = absurd (apart t rest [] (sym e ∙ field_nothing))
field_sound (b ∷ bytes) rest t e =
    elim (cases_Bool (eqb b bracket)) [
      | inl hit ↦
          let m = mapped_found array (read_field bytes) t rest (sym (field_array b bytes hit) ∙ e) in
          let inner = field_sound bytes rest m.0 m.1 in
          subst (SpelledFront SpellsField (b ∷ bytes) rest) (sym m.2)
          (record {
            front = bracket ∷ inner.front;
            spells = record { named = inner.spells.named; spelled = ap (λ (x : List ℕ). bracket ∷ x) inner.spells.spelled };
            parts = ap (λ (x : ℕ). x ∷ bytes) (eqb-true b bracket hit) ∙ ap (λ (x : List ℕ). bracket ∷ x) inner.parts;
          })
      | inr miss ↦ base_sound b bytes rest t (sym (field_base b bytes miss) ∙ e)
    ]

primitive_complete : (p : Primitive) (rest : List ℕ) → read_field (letter p ∷ rest) ≡ found (primitive p) rest
unfolding read_field read_base
primitive_complete Byte rest = refl
primitive_complete Char rest = refl
primitive_complete Double rest = refl
primitive_complete Float rest = refl
primitive_complete Int rest = refl
primitive_complete Long rest = refl
primitive_complete Short rest = refl
primitive_complete Boolean rest = refl

class_begun : (bytes : List ℕ) → read_field (class_letter ∷ bytes) ≡ mapped class (read_class true bytes)
unfolding read_field read_base
class_begun bytes = refl

array_begun : (bytes : List ℕ) → read_field (bracket ∷ bytes) ≡ mapped array (read_field bytes)
unfolding read_field
array_begun bytes = refl

spelled_field : (t : FieldDescriptor) (rest : List ℕ) → IsWellNamed t → read_field (field_spelling t ++ rest) ≡ found t rest
spelled_field (primitive p) rest h = primitive_complete p rest
spelled_field (class name) rest h =
    class_begun ((name ++ semicolon ∷ []) ++ rest)
    ∙ ap (λ (x : List ℕ). mapped class (read_class true x)) (append_assoc name (semicolon ∷ []) rest)
    ∙ ap (mapped class) (class_complete true name rest (class_name_ends name h))
spelled_field (array t) rest h = array_begun (field_spelling t ++ rest) ∙ ap (mapped array) (spelled_field t rest h)

field_complete : (front rest : List ℕ) (t : FieldDescriptor) → SpellsField front t → read_field (front ++ rest) ≡ found t rest
field_complete front rest t s = ap (λ (x : List ℕ). read_field (x ++ rest)) s.spelled ∙ spelled_field t rest s.named

-- where nothing of a type stands yet, `I` makes one
stops_here : (bytes : List ℕ) → ((b : ℕ) (r others : List ℕ) → bytes ≡ b ∷ r → read_field (b ∷ others) ≡ outside (b ∷ others)) → StopsAt read_field SpellsField bytes bytes
stops_here bytes alike = record { front = []; more = letter Int ∷ []; value = primitive Int; parts = refl; begins = record { named = tt; spelled = refl }; alike = alike }

base_stops : (b : ℕ) (bytes rest : List ℕ) → eqb b bracket ≡ false → read_base (b ∷ bytes) ≡ outside rest → StopsAt read_field SpellsField (b ∷ bytes) rest
base_stops b bytes rest plain e =
    elim (cases_Bool (eqb b class_letter)) [
      | inl hit ↦
          let inner = class_stops true bytes rest (mapped_outside class (read_class true bytes) rest (sym (base_class b bytes hit) ∙ e)) in
          let name = inner.front ++ inner.more in
          record {
            front = class_letter ∷ inner.front;
            more = inner.more ++ semicolon ∷ [];
            value = class name;
            parts = ap (λ (x : ℕ). x ∷ bytes) (eqb-true b class_letter hit) ∙ ap (λ (x : List ℕ). class_letter ∷ x) inner.parts;
            begins = record { named = class_name_from_ends name inner.ends; spelled = ap (λ (x : List ℕ). class_letter ∷ x) (sym (append_assoc inner.front inner.more (semicolon ∷ []))) };
            alike = λ c r others is. class_begun (inner.front ++ c ∷ others) ∙ ap (mapped class) (inner.alike c r others is);
          }
      | inr miss ↦ by_letter miss (primitive_of b) refl (sym (base_letter b bytes miss) ∙ e)
    ]
  where
    again : eqb b class_letter ≡ false → primitive_of b ≡ None → (others : List ℕ) → read_field (b ∷ others) ≡ outside (b ∷ others)
    again miss none others = field_base b others plain ∙ base_letter b others miss ∙ ap (λ (o : Option Primitive). primitive_before o b others) none

    by_letter : eqb b class_letter ≡ false → (o : Option Primitive) → primitive_of b ≡ o → primitive_before o b bytes ≡ outside rest → StopsAt read_field SpellsField (b ∷ bytes) rest
    by_letter miss None is f =
        let same : b ∷ bytes ≡ rest = same_outside (b ∷ bytes) rest f in
        subst (StopsAt read_field SpellsField (b ∷ bytes)) same
        (stops_here (b ∷ bytes) (λ c r others e. subst (λ (x : ℕ). read_field (x ∷ others) ≡ outside (x ∷ others)) (first_of_two b c bytes r e) (again miss is others)))
    by_letter miss (Some p) is f = absurd (apart (primitive p) bytes rest f)

field_stops : (bytes rest : List ℕ) → read_field bytes ≡ outside rest → StopsAt read_field SpellsField bytes rest
field_stops [] rest e =
    let none : [] ≡ rest = same_outside [] rest (sym field_nothing ∙ e) in
    subst (StopsAt read_field SpellsField []) none (stops_here [] (λ b r others is. absurd cc))
field_stops (b ∷ bytes) rest e =
    elim (cases_Bool (eqb b bracket)) [
      | inl hit ↦
          let inner = field_stops bytes rest (mapped_outside array (read_field bytes) rest (sym (field_array b bytes hit) ∙ e)) in
          record {
            front = bracket ∷ inner.front;
            more = inner.more;
            value = array inner.value;
            parts = ap (λ (x : ℕ). x ∷ bytes) (eqb-true b bracket hit) ∙ ap (λ (x : List ℕ). bracket ∷ x) inner.parts;
            begins = record { named = inner.begins.named; spelled = ap (λ (x : List ℕ). bracket ∷ x) inner.begins.spelled };
            alike = λ c r others is. array_begun (inner.front ++ c ∷ others) ∙ ap (mapped array) (inner.alike c r others is);
          }
      | inr miss ↦ base_stops b bytes rest miss (sym (field_base b bytes miss) ∙ e)
    ]

pub field_reader : IsReader read_field SpellsField
field_reader = record { sound = field_sound; complete = field_complete; stops = field_stops }
