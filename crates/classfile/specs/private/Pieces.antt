-- The pieces that a class file is written as, part by part in the order of the file; its layout spells exactly these.
use Rattle.std.proofs.Common.{◌≡◌, ℕ, Bool, true, false, cond, Option, Some, None, List, [], ◌∷◌, ◌++◌, length, refl, sym, ap, subst, ◌∙◌}
use Rattle.std.specs.Prelude.{nat_eq, ◌&&◌, ◌-◌}
use Rattle.std.proofs.lemmas.Bool.{eqb-true}
use Rattle.std.proofs.lemmas.List.{append-nil}
use Rattle.layout.specs.declared.fault.ReadFault.TheVariants.{AttributeLength, BadMagic, BadVersion}
use Rattle.layout.specs.Format.{AreBytes, Format, done, refuse, Spells, andthen, number, inside}
use Rattle.layout.specs.FormatLaws.{AreBytes-parts, andthen_spelled, andthen_parts, number_2, number_4}
use Rattle.layout.specs.Pieces.{Piece, plain, field, text, ArePlain, lengthened, marked}
use Rattle.layout.specs.PieceLaws.{Made, Writes, Bodies, not, made_headed, made_then, made_last, made_number, made_counted, made_whole, counted, text_append, plain_parts, plain_append}
use Rattle.layout.specs.AttributeLaws.{inside_spells, spells_inside, made_held}
use Rattle.pool.specs.Entries.{Entry, pool_pieces}
use Rattle.pool.specs.EntryLaws.{writes_pool}
use Rattle.classfile.specs.declared.location.Location.{Location}
use Rattle.classfile.specs.declared.location.Location.TheVariants as location
use Rattle.classfile.specs.declared.versions.Versions.{Versions}
use Rattle.classfile.specs.Versions.{is_version, is_release}
use mathlib.Core.Bool.{beq}
use Rattle.classfile.specs.Locations.{is_code, is_stack_map, is_record}
use Rattle.classfile.specs.Layouts.{AttributeLayout, has_layout, layout_at}
use Rattle.classfile.specs.Numbers.{Numbers, is_laid_out}
use Rattle.classfile.specs.private.NumbersLaws.{laid_out_parts, laid_out_as_it_is}
use Rattle.classfile.specs.Values.{AttributeOf, of_parts, of_numbers, raw, name_of, Handler, Nested, CodeBody, Attribute, Member, Component, ClassAttribute, Class}
use Rattle.classfile.specs.ClassFile.{attribute_info, Sizes, kept, handler, nested, sizes, handlers, nested_attributes, code, attribute, attributes, three, member, members, two, component, components, class_attribute, class_attributes, version, manner, interfaces, class}

-- ---- what each part is written as

abbrev pub handler_pieces : Handler → List Piece
handler_pieces h = field 2 h.start_pc ++ (field 2 h.end_pc ++ (field 2 h.handler_pc ++ field 2 h.catch_type))

-- attributes of this name have no layout here
abbrev pub has_none : Option AttributeLayout → Bool
has_none None = true
has_none (Some layout) = false

-- The body of an attribute: parts where the test holds for its name; numbers where it does not, and attributes of its
-- name have this layout; and as it is where they have none.
abbrev pub body_pieces : {A : Type 0} → (ℕ → Bool) → (ℕ → Option AttributeLayout) → (A → List Piece) → AttributeOf A
    → List Piece
body_pieces test layout_of p (of_parts name value) = marked (test name) (p value)
body_pieces test layout_of p (of_numbers name n) =
    marked (not (test name) && is_laid_out (layout_of name) n) (plain n.body ∷ [])
body_pieces test layout_of p (raw name body) = marked (not (test name) && has_none (layout_of name)) (plain body ∷ [])

-- an attribute: its name index, and its body after a length
abbrev pub headed_pieces : {A : Type 0} → (ℕ → Bool) → (ℕ → Option AttributeLayout) → (A → List Piece) → AttributeOf A
    → List Piece
headed_pieces test layout_of p x = field 2 (name_of x) ++ lengthened (body_pieces test layout_of p x)

abbrev pub nested_pieces : List Entry → Nested → List Piece
nested_pieces pool = headed_pieces (is_stack_map pool location.Code) (layout_at pool location.Code)
    (λ body. plain body ∷ [])

abbrev pub sizes_pieces : Sizes → List Piece
sizes_pieces s = field 2 s.max_stack ++ (field 2 s.max_locals ++ lengthened (plain s.code ∷ []))

abbrev pub code_pieces : List Entry → CodeBody → List Piece
code_pieces pool c =
    sizes_pieces (record { max_stack = c.max_stack; max_locals = c.max_locals; code = c.code })
    ++ (counted handler_pieces c.exception_table ++ counted (nested_pieces pool) c.attributes)

abbrev pub attribute_pieces : List Entry → Location → Attribute → List Piece
attribute_pieces pool place = headed_pieces (is_code pool place) (layout_at pool place) (code_pieces pool)

abbrev pub three_pieces : ℕ × ℕ × ℕ → List Piece
three_pieces x = field 2 x.0 ++ (field 2 x.1 ++ field 2 x.2)

abbrev pub member_pieces : List Entry → Location → Member → List Piece
member_pieces pool place m = three_pieces (m.access_flags, m.name, m.descriptor)
    ++ counted (attribute_pieces pool place) m.attributes

abbrev pub two_pieces : ℕ × ℕ → List Piece
two_pieces x = field 2 x.0 ++ field 2 x.1

abbrev pub component_pieces : List Entry → Component → List Piece
component_pieces pool c = two_pieces (c.name, c.descriptor)
    ++ counted (attribute_pieces pool location.RecordComponent) c.attributes

abbrev pub class_attribute_pieces : List Entry → Location → ClassAttribute → List Piece
class_attribute_pieces pool place =
    headed_pieces (is_record pool place) (layout_at pool place) (counted (component_pieces pool))

-- the magic number, the minor and the major version
abbrev pub version_pieces : Versions → ℕ × ℕ → List Piece
version_pieces versions v =
    field 4 0xCAFEBABE ++ (field 2 v.0 ++ marked (is_version versions v.0 v.1) (field 2 v.1))

-- nothing is written where the class is read otherwise
abbrev pub manner_pieces : Versions → Bool → List Piece
manner_pieces versions release = marked (beq (is_release versions) release) []

-- the fields, the methods and the attributes of a class, where this is its pool
abbrev pub tables_pieces : List Entry → Class → List Piece
tables_pieces pool c =
    counted (member_pieces pool location.Field) c.fields
    ++ (counted (member_pieces pool location.Method) c.methods
    ++ counted (class_attribute_pieces pool (location.Class c.major_version)) c.attributes)

abbrev pub behind_pool_pieces : List Entry → Class → List Piece
behind_pool_pieces pool c =
    three_pieces (c.access_flags, c.this_class, c.super_class)
    ++ (counted (field 2) c.interfaces ++ tables_pieces pool c)

abbrev pub pieces_with : Versions → List Entry → Class → List Piece
pieces_with versions pool c = version_pieces versions (c.minor_version, c.major_version)
    ++ (manner_pieces versions c.release ++ (pool_pieces pool ++ behind_pool_pieces pool c))

unfoldable pub class_pieces : Versions → Class → List Piece
class_pieces versions c = pieces_with versions c.constant_pool c

-- ---- the layouts spell exactly these

handler_of : ℕ → ℕ → ℕ → ℕ → Handler
handler_of a b c d = record { start_pc = a; end_pc = b; handler_pc = c; catch_type = d }

pub writes_handler : Writes handler handler_pieces
unfolding handler handler_of
writes_handler = made_whole {A = ℕ × (ℕ × (ℕ × ℕ))} (λ h. (h.start_pc, (h.end_pc, (h.handler_pc, h.catch_type))))
    (λ h. refl) (λ a. refl)
    (made_then _ (made_number 2 number_2)
    (λ a. made_then _ (made_number 2 number_2)
    (λ b. made_then _ (made_number 2 number_2)
    (λ c. made_last (λ d. handler_of a b c d) (made_number 2 number_2)))))

pub writes_handlers : Writes handlers (counted handler_pieces)
unfolding handlers
writes_handlers = made_counted number_2 writes_handler

-- The body of an attribute, where that of one which is read by its parts has this format.
abbrev body_of : {A : Type 0} → (ℕ → Bool) → (ℕ → Option AttributeLayout) → (ℕ → ℕ → List ℕ → Format (AttributeOf A))
    → ℕ → ℕ → List ℕ → Format (AttributeOf A)
body_of test layout_of f name n body = cond (test name) (f name n body) (kept (layout_of name) name n body)

-- that format spells exactly the values that are read by their parts, each by its pieces
record OfParts {A : Type 0} (f : ℕ → ℕ → List ℕ → Format (AttributeOf A)) (p : A → List Piece) : Type 0 where
  has : (name : ℕ) (value : A) → ArePlain (p value)
      → Spells (f name (length (text (p value))) (text (p value))) [] (of_parts name value)
  only : (name : ℕ) (body bytes : List ℕ) (v : AttributeOf A) → AreBytes body
      → Spells (f name (length body) body) bytes v
      → (bytes ≡ []) × (value : A) × (of_parts name value ≡ v) × (body ≡ text (p value)) × ArePlain (p value)

marked_parts : (b : Bool) (p : List Piece) → ArePlain (marked b p) → (b ≡ true) × (marked b p ≡ p)
marked_parts true p h = (refl, refl)
marked_parts false p h = absurd h

both_true : (a b : Bool) → not a && b ≡ true → (a ≡ false) × (b ≡ true)
both_true false true e = (refl, refl)
both_true false false e = absurd (let x : false ≡ true = e in cc)
both_true true b e = absurd (let x : false ≡ true = e in cc)

none_there : (o : Option AttributeLayout) → has_none o ≡ true → o ≡ None
none_there None e = refl
none_there (Some layout) e = absurd (let x : false ≡ true = e in cc)

-- numbers that are laid out as attributes of their name are here
kept_numbers : (A : Type 0) (o : Option AttributeLayout) (name : ℕ) (n : Numbers) → is_laid_out o n ≡ true
    → Spells (kept {A = A} o name (length n.body) n.body) [] (of_numbers name n)
kept_numbers A o name n e =
    let so = laid_out_parts o n e in
    let x : AttributeOf A = of_numbers name n in
    subst (λ (o : Option AttributeLayout). Spells (kept {A = A} o name (length n.body) n.body) [] x) (sym so.0)
    (subst (λ (b : Bool). Spells (cond b (done x) (refuse (λ at. AttributeLength (at - length n.body - 6)))) [] x)
    (sym so.1) (refl, refl))

bodies_of : {A : Type 0} (test : ℕ → Bool)
    (layout_of : ℕ → Option AttributeLayout) {f : ℕ → ℕ → List ℕ → Format (AttributeOf A)} {p : A → List Piece}
    → OfParts f p
    → Bodies (body_of test layout_of f) name_of (λ x. x) (body_pieces test layout_of p)
bodies_of {A = A} test layout_of {f = f} {p = p} m =
    record {
      has = has;
      only = λ name body bytes v fit s. only name body bytes v (test name)
          (layout_of name) refl refl fit s;
    }
  where
    has : (x : AttributeOf A) → ArePlain (body_pieces test layout_of p x)
        → Spells (body_of test layout_of f (name_of x) (length (text (body_pieces test layout_of p x)))
        (text (body_pieces test layout_of p x))) [] x
    has (of_parts name value) h =
        let r = marked_parts (test name) (p value) h in
        let plainly : ArePlain (p value) = subst ArePlain r.1 h in
        subst (λ (q : List Piece). Spells (body_of test layout_of f name (length (text q)) (text q)) []
        (of_parts name value)) (sym r.1)
        (subst (λ (b : Bool). Spells (cond b (f name (length (text (p value))) (text (p value)))
        (kept (layout_of name) name (length (text (p value))) (text (p value)))) [] (of_parts name value)) (sym r.0)
        (m.has name value plainly))
    has (of_numbers name n) h =
        let r = marked_parts (not (test name) && is_laid_out (layout_of name) n) (plain n.body ∷ []) h in
        let so = both_true (test name) (is_laid_out (layout_of name) n) r.0 in
        let is : text (marked (not (test name) && is_laid_out (layout_of name) n) (plain n.body ∷ [])) ≡ n.body =
        ap text r.1 ∙ append-nil n.body in
        subst (λ (t : List ℕ). Spells (body_of test layout_of f name (length t) t) [] (of_numbers name n)) (sym is)
        (subst (λ (b : Bool). Spells (cond b (f name (length n.body) n.body)
        (kept (layout_of name) name (length n.body) n.body)) [] (of_numbers name n)) (sym so.0)
        (kept_numbers A (layout_of name) name n so.1))
    has (raw name body) h =
        let r = marked_parts (not (test name) && has_none (layout_of name)) (plain body ∷ []) h in
        let so = both_true (test name) (has_none (layout_of name)) r.0 in
        let is : text (marked (not (test name) && has_none (layout_of name)) (plain body ∷ [])) ≡ body =
        ap text r.1 ∙ append-nil body in
        subst (λ (t : List ℕ). Spells (body_of test layout_of f name (length t) t) [] (raw name body)) (sym is)
        (subst (λ (b : Bool). Spells (cond b (f name (length body) body)
        (kept (layout_of name) name (length body) body)) [] (raw name body)) (sym so.0)
        (subst (λ (o : Option AttributeLayout). Spells (kept {A = A} o name (length body) body) [] (raw name body))
        (sym (none_there (layout_of name) so.1)) (refl, refl)))

    by_layout : (name : ℕ) (body bytes : List ℕ) (v : AttributeOf A) (layout : AttributeLayout) (l : Bool)
        → test name ≡ false → layout_of name ≡ Some layout → has_layout layout body ≡ l
        → Spells (cond l (done (of_numbers name (record { layout = layout; body = body })))
        (refuse (λ at. AttributeLength (at - length body - 6)))) bytes v
        → (bytes ≡ []) × (x : AttributeOf A) × (x ≡ v) × (name_of x ≡ name)
        × (body ≡ text (body_pieces test layout_of p x)) × ArePlain (body_pieces test layout_of p x)
    by_layout name body bytes v layout true e o l s =
        let n : Numbers = record { layout = layout; body = body } in
        let so : is_laid_out (layout_of name) n ≡ true =
        ap (λ (o : Option AttributeLayout). is_laid_out o n) o ∙ laid_out_as_it_is layout body l in
        let same : plain body ∷ [] ≡ marked (not (test name) && is_laid_out (layout_of name) n) (plain body ∷ []) =
        ap (λ (b : Bool). marked (not b && true) (plain body ∷ [])) (sym e)
        ∙ ap (λ (b : Bool). marked (not (test name) && b) (plain body ∷ [])) (sym so) in
        (s.0, of_numbers name n, s.1, refl, sym (append-nil body) ∙ ap text same, subst ArePlain same tt)
    by_layout name body bytes v layout false e o l s = absurd s

    only : (name : ℕ) (body bytes : List ℕ) (v : AttributeOf A) (b : Bool) (o : Option AttributeLayout) → test name ≡ b
        → layout_of name ≡ o → AreBytes body
        → Spells (cond b (f name (length body) body) (kept o name (length body) body)) bytes v
        → (bytes ≡ []) × (x : AttributeOf A) × (x ≡ v) × (name_of x ≡ name)
        × (body ≡ text (body_pieces test layout_of p x)) × ArePlain (body_pieces test layout_of p x)
    only name body bytes v true o e k fit s =
        let i = m.only name body bytes v fit s in
        let same : p i.1 ≡ marked (test name) (p i.1) = ap (λ (b : Bool). marked b (p i.1)) (sym e) in
        (i.0, of_parts name i.1, i.2, refl, i.3 ∙ ap text same, subst ArePlain same i.4)
    only name body bytes v false None e k fit s =
        let same : plain body ∷ [] ≡ marked (not (test name) && has_none (layout_of name)) (plain body ∷ []) =
        ap (λ (b : Bool). marked (not b && true) (plain body ∷ [])) (sym e)
        ∙ ap (λ (o : Option AttributeLayout). marked (not (test name) && has_none o) (plain body ∷ [])) (sym k) in
        (s.0, raw name body, s.1, refl, sym (append-nil body) ∙ ap text same, subst ArePlain same tt)
    only name body bytes v false (Some layout) e k fit s =
        by_layout name body bytes v layout (has_layout layout body) e k refl s

kept_of_parts : OfParts (λ name n body. done (of_parts name body)) (λ body. plain body ∷ [])
kept_of_parts = record {
  has = λ name value h. (refl, ap (of_parts name) (append-nil value));
  only = λ name body bytes v fit s. (s.0, body, s.1, sym (append-nil body), tt);
}

inside_of_parts : {A : Type 0} {f : Format A} {p : A → List Piece} → Writes f p
    → OfParts (λ name n body. inside n body f (λ v. done (of_parts name v))) p
inside_of_parts {A = A} {f = f} {p = p} m = record {
  has = λ name value h. spells_inside (length (text (p value))) (text (p value)) f (of_parts name) value
      (m.has value h);
  only = λ name body bytes v fit s.
      let i = inside_spells (length body) body f (of_parts name) bytes v s in
      let x = m.only i.0 body fit i.1 in
      (i.2, i.0, i.3, x.2 ∙ ap (λ (w : A). text (p w)) x.1, subst (λ (w : A). ArePlain (p w)) x.1 x.3);
}

pub writes_nested : (pool : List Entry) → Writes (nested pool) (nested_pieces pool)
unfolding nested attribute_info
writes_nested pool = made_headed number_2 number_4
    (bodies_of (is_stack_map pool location.Code) (layout_at pool location.Code) kept_of_parts)

pub writes_nested_attributes : (pool : List Entry) → Writes (nested_attributes pool) (counted (nested_pieces pool))
unfolding nested_attributes
writes_nested_attributes pool = made_counted number_2 (writes_nested pool)

sizes_of : ℕ → ℕ → List ℕ → Sizes
sizes_of a b c = record { max_stack = a; max_locals = b; code = c }

pub writes_sizes : Writes sizes sizes_pieces
unfolding sizes sizes_of
writes_sizes = made_whole {A = ℕ × (ℕ × List ℕ)} (λ s. (s.max_stack, (s.max_locals, s.code))) (λ s. refl) (λ a. refl)
    (made_then _ (made_number 2 number_2)
    (λ x. made_then _ (made_number 2 number_2) (λ y. made_held (λ b. sizes_of x y b) number_4)))

pub writes_code : (pool : List Entry) → Writes (code pool) (code_pieces pool)
unfolding code
writes_code pool = made_whole {A = Sizes × (List Handler × List Nested)}
    (λ c. (
      record { max_stack = c.max_stack; max_locals = c.max_locals; code = c.code },
      (c.exception_table, c.attributes),
    )) (λ c. refl) (λ a. refl)
    (made_then _ writes_sizes (λ s. made_then _ writes_handlers (λ h. made_last _ (writes_nested_attributes pool))))

pub writes_of : (pool : List Entry) (place : Location) → Writes (attribute pool place) (attribute_pieces pool place)
unfolding attribute attribute_info
writes_of pool place = made_headed number_2 number_4
    (bodies_of (is_code pool place) (layout_at pool place) (inside_of_parts (writes_code pool)))

pub writes_attributes : (pool : List Entry) (place : Location)
    → Writes (attributes pool place) (counted (attribute_pieces pool place))
unfolding attributes
writes_attributes pool place = made_counted number_2 (writes_of pool place)

triple : ℕ → ℕ → ℕ → ℕ × ℕ × ℕ
triple a b c = (a, b, c)

pub writes_three : Writes three three_pieces
unfolding three triple
writes_three = made_whole {A = ℕ × (ℕ × ℕ)} (λ x. (x.0, (x.1, x.2))) (λ x. refl) (λ a. refl)
    (made_then _ (made_number 2 number_2)
    (λ a. made_then _ (made_number 2 number_2) (λ b. made_last (λ c. triple a b c) (made_number 2 number_2))))

pub writes_member : (pool : List Entry) (place : Location) → Writes (member pool place) (member_pieces pool place)
unfolding member
writes_member pool place = made_whole {A = (ℕ × ℕ × ℕ) × List Attribute}
    (λ m. ((m.access_flags, m.name, m.descriptor), m.attributes)) (λ m. refl) (λ a. refl)
    (made_then _ writes_three (λ h. made_last _ (writes_attributes pool place)))

pub writes_members : (pool : List Entry) (place : Location)
    → Writes (members pool place) (counted (member_pieces pool place))
unfolding members
writes_members pool place = made_counted number_2 (writes_member pool place)

pair : ℕ → ℕ → ℕ × ℕ
pair a b = (a, b)

pub writes_two : Writes two two_pieces
unfolding two pair
writes_two = made_whole {A = ℕ × ℕ} (λ x. x) (λ x. refl) (λ a. refl)
    (made_then _ (made_number 2 number_2) (λ a. made_last (λ b. pair a b) (made_number 2 number_2)))

pub writes_component : (pool : List Entry) → Writes (component pool) (component_pieces pool)
unfolding component
writes_component pool = made_whole {A = (ℕ × ℕ) × List Attribute} (λ c. ((c.name, c.descriptor), c.attributes))
    (λ c. refl) (λ a. refl)
    (made_then _ writes_two (λ h. made_last _ (writes_attributes pool location.RecordComponent)))

pub writes_components : (pool : List Entry) → Writes (components pool) (counted (component_pieces pool))
unfolding components
writes_components pool = made_counted number_2 (writes_component pool)

pub writes_class_attribute : (pool : List Entry) (place : Location)
    → Writes (class_attribute pool place) (class_attribute_pieces pool place)
unfolding class_attribute attribute_info
writes_class_attribute pool place =
    made_headed number_2 number_4
    (bodies_of (is_record pool place) (layout_at pool place) (inside_of_parts (writes_components pool)))

pub writes_class_attributes : (pool : List Entry) (place : Location)
    → Writes (class_attributes pool place) (counted (class_attribute_pieces pool place))
unfolding class_attributes
writes_class_attributes pool place = made_counted number_2 (writes_class_attribute pool place)

pub writes_interfaces : Writes interfaces (counted (field 2))
unfolding interfaces
writes_interfaces = made_counted number_2 (made_number 2 number_2)

abbrev by_version : Bool → ℕ → ℕ → Format (ℕ × ℕ)
by_version b minor major = cond b (done (minor, major)) (refuse (λ at. BadVersion major minor))

marked_version : (major : ℕ) (b : Bool) → ArePlain (marked b (field 2 major)) → (b ≡ true) × ArePlain (field 2 major)
marked_version major true h = (refl, h)
marked_version major false h = absurd h

-- the two numbers after the magic one
made_numbers : (versions : Versions) → Made {A = ℕ × ℕ}
    (andthen (number 2) (λ minor. andthen (number 2) (λ major. by_version (is_version versions minor major) minor major)))
    (λ v. v) (λ v. field 2 v.0 ++ marked (is_version versions v.0 v.1) (field 2 v.1))
made_numbers versions = made_then _ (made_number 2 number_2) (λ minor. majors minor)
  where
    majors : (minor : ℕ) → Made (andthen (number 2) (λ major. by_version (is_version versions minor major) minor major))
        (λ major. (minor, major)) (λ major. marked (is_version versions minor major) (field 2 major))
    majors minor = record { has = has; only = only }
      where
        next_part : ℕ → Format (ℕ × ℕ)
        next_part major = by_version (is_version versions minor major) minor major

        has : (major : ℕ) → ArePlain (marked (is_version versions minor major) (field 2 major))
            → Spells (andthen (number 2) next_part) (text (marked (is_version versions minor major) (field 2 major)))
            (minor, major)
        has major h =
            let m = marked_version major (is_version versions minor major) h in
            let same : field 2 major ≡ marked (is_version versions minor major) (field 2 major) =
            ap (λ (b : Bool). marked b (field 2 major)) (sym m.0) in
            let there : Spells (next_part major) [] (minor, major) =
            subst (λ (b : Bool). Spells (by_version b minor major) [] (minor, major)) (sym m.0) (refl, refl) in
            subst (λ (t : List ℕ). Spells (andthen (number 2) next_part) t (minor, major))
            (append-nil (text (field 2 major)) ∙ ap text same)
            (andthen_spelled (number 2) next_part (text (field 2 major)) [] major (minor, major)
            ((made_number 2 number_2).has major m.1) there)

        behind : (major : ℕ) (b : Bool) (bytes : List ℕ) (v : ℕ × ℕ) → Spells (by_version b minor major) bytes v
            → (b ≡ true) × (bytes ≡ []) × ((minor, major) ≡ v)
        behind major true bytes v s = (refl, s.0, s.1)
        behind major false bytes v s = absurd s

        only : (v : ℕ × ℕ) (bytes : List ℕ) → AreBytes bytes → Spells (andthen (number 2) next_part) bytes v
            → (major : ℕ) × ((minor, major) ≡ v) × (bytes ≡ text (marked (is_version versions minor major) (field 2 major)))
            × ArePlain (marked (is_version versions minor major) (field 2 major))
        only v bytes fit s =
            let i = andthen_parts (number 2) next_part bytes v s in
            let bs = AreBytes-parts i.0 i.1 (subst AreBytes i.3 fit) in
            let x = (made_number 2 number_2).only i.2 i.0 bs.0 i.4 in
            let y = behind i.2 (is_version versions minor i.2) i.1 v i.5 in
            let same : field 2 i.2 ≡ marked (is_version versions minor i.2) (field 2 i.2) =
            ap (λ (b : Bool). marked b (field 2 i.2)) (sym y.0) in (
              i.2,
              y.2,
              i.3 ∙ ap (λ (t : List ℕ). i.0 ++ t) y.1 ∙ append-nil i.0 ∙ x.2
                  ∙ ap (λ (k : ℕ). text (field 2 k)) x.1 ∙ ap text same,
              subst ArePlain same (subst (λ (k : ℕ). ArePlain (field 2 k)) x.1 x.3),
            )

abbrev two_numbers : Versions → Format (ℕ × ℕ)
two_numbers versions = andthen (number 2)
    (λ minor. andthen (number 2) (λ major. by_version (is_version versions minor major) minor major))

abbrev by_magic : Versions → Bool → Format (ℕ × ℕ)
by_magic versions b = cond b (two_numbers versions) (refuse (λ at. BadMagic))

pub writes_version : (versions : Versions) → Writes (version versions) (version_pieces versions)
unfolding version
writes_version versions = record { has = has; only = only }
  where
    next_part : ℕ → Format (ℕ × ℕ)
    next_part magic = by_magic versions (nat_eq magic 0xCAFEBABE)

    rest_of : ℕ × ℕ → List Piece
    rest_of v = field 2 v.0 ++ marked (is_version versions v.0 v.1) (field 2 v.1)

    has : (v : ℕ × ℕ) → ArePlain (version_pieces versions v) → Spells (andthen (number 4) next_part) (text (version_pieces versions v)) v
    has v h =
        let p = plain_parts (field 4 0xCAFEBABE) (rest_of v) h in
        subst (λ (t : List ℕ). Spells (andthen (number 4) next_part) t v)
        (sym (text_append (field 4 0xCAFEBABE) (rest_of v)))
        (andthen_spelled (number 4) next_part (text (field 4 0xCAFEBABE)) (text (rest_of v)) 0xCAFEBABE v
        ((made_number 4 number_4).has 0xCAFEBABE p.0) ((made_numbers versions).has v p.1))

    behind : (magic : ℕ) (b : Bool) (bytes : List ℕ) (v : ℕ × ℕ) → nat_eq magic 0xCAFEBABE ≡ b
        → Spells (by_magic versions b) bytes v → (magic ≡ 0xCAFEBABE) × Spells (two_numbers versions) bytes v
    behind magic true bytes v e s = (eqb-true _ _ e, s)
    behind magic false bytes v e s = absurd s

    only : (v : ℕ × ℕ) (bytes : List ℕ) → AreBytes bytes → Spells (andthen (number 4) next_part) bytes v → (x : ℕ × ℕ)
        × (x ≡ v) × (bytes ≡ text (version_pieces versions x)) × ArePlain (version_pieces versions x)
    only v bytes fit s =
        let i = andthen_parts (number 4) next_part bytes v s in
        let bs = AreBytes-parts i.0 i.1 (subst AreBytes i.3 fit) in
        let x = (made_number 4 number_4).only i.2 i.0 bs.0 i.4 in
        let y = behind i.2 (nat_eq i.2 0xCAFEBABE) i.1 v refl i.5 in
        let z = (made_numbers versions).only v i.1 bs.1 y.1 in
        let magic = x.1 ∙ y.0 in (
          z.0,
          z.1,
          i.3 ∙ ap (λ (t : List ℕ). t ++ i.1) (x.2 ∙ ap (λ (k : ℕ). text (field 4 k)) magic)
              ∙ ap (λ (t : List ℕ). text (field 4 0xCAFEBABE) ++ t) z.2
              ∙ sym (text_append (field 4 0xCAFEBABE) (rest_of z.0)),
          plain_append (field 4 0xCAFEBABE) (rest_of z.0) (subst (λ (k : ℕ). ArePlain (field 4 k)) magic x.3) z.3,
        )

pub writes_manner : (versions : Versions) → Writes (manner versions) (manner_pieces versions)
unfolding manner
writes_manner versions = record { has = has (is_release versions); only = only (is_release versions) }
  where
    has : (own release : Bool) → ArePlain (marked (beq own release) []) → Spells (done own) (text (marked (beq own release) [])) release
    has true true h = (refl, refl)
    has false false h = (refl, refl)
    has true false h = absurd h
    has false true h = absurd h

    only : (own release : Bool) (bytes : List ℕ) → AreBytes bytes → Spells (done own) bytes release
        → (x : Bool) × (x ≡ release) × (bytes ≡ text (marked (beq own x) [])) × ArePlain (marked (beq own x) [])
    only true release bytes fit s = (true, s.1, s.0, tt)
    only false release bytes fit s = (false, s.1, s.0, tt)

pub writes_class : (versions : Versions) → Writes (class versions) (class_pieces versions)
unfolding class class_pieces
writes_class versions = made_whole {A = (ℕ × ℕ)
    × (Bool × (List Entry × ((ℕ × ℕ × ℕ) × (List ℕ × (List Member × (List Member × List ClassAttribute))))))}
    (λ c. (
      (c.minor_version, c.major_version),
      (
        c.release,
        (
          c.constant_pool,
          (
            (c.access_flags, c.this_class, c.super_class),
            (c.interfaces, (c.fields, (c.methods, c.attributes))),
          ),
        ),
      ),
    )) (λ c. refl) (λ a. refl)
    (made_then _ (writes_version versions) (λ v. made_then _ (writes_manner versions) (λ release. made_then _ writes_pool
    (λ pool. made_then _ writes_three (λ head. made_then _ writes_interfaces (λ i.
    made_then _ (writes_members pool location.Field)
    (λ f. made_then _ (writes_members pool location.Method)
    (λ m. made_last _ (writes_class_attributes pool (location.Class v.1))))))))))
