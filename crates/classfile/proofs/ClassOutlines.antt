-- A class file is the outline of one: what spells a part of the one spells that part of the other.
use Rattle.std.proofs.Common.{◌≡◌, ℕ, zero, suc, ◌-◌, Bool, true, false, cond, List, [], ◌∷◌, ◌++◌, refl, sym, ap, subst, ◌∙◌, Option, Some, None}
use Rattle.std.proofs.lemmas.Bool.{eqb-true}
use Rattle.std.proofs.lemmas.List.{append-nil}
use Rattle.std.specs.Prelude.{nat_eq, if◌then◌else◌}
use Rattle.layout.specs.Format.{Format, done, part, refuse, Spells, andthen, number, times, inside}
use Rattle.layout.specs.FormatLaws.{andthen_parts, andthen_spelled}
use Rattle.layout.specs.AttributeLaws.{inside_spells}
use Rattle.layout.specs.declared.fault.ReadFault.TheVariants.{BadPoolCount}
use Rattle.classfile.specs.Locations.{is_code, is_record}
use Rattle.classfile.specs.Layouts.{AttributeLayout, layout_at}
use Rattle.layout.specs.declared.fault.ReadFault.{ReadFault}
use Rattle.classfile.specs.declared.location.Location.TheVariants as location
use Rattle.names.specs.Units.{bad_text}
use Rattle.pool.specs.declared.kind.ReferenceKind.{ReferenceKind}
use Rattle.pool.specs.Entries.{Entry, one, two, utf8, text_or, kind_or, method_handle, wide as wide_entry, body, entry, indexed as indexed_entry, entries, is_wide as takes_two, pool as pool_entries}
use Rattle.pool.specs.Entries.{Integer, Float, Long, Double, Class, String, Fieldref, Methodref, InterfaceMethodref, NameAndType, MethodType, Dynamic, InvokeDynamic}
use Rattle.classfile.specs.declared.location.Location.{Location}
use Rattle.classfile.specs.Values.{of_parts, Class as Value}
use Rattle.classfile.specs.declared.versions.Versions.{Versions}
use Rattle.classfile.specs.ClassFile as layouts
use Rattle.classfile.specs.Outline.{end, bytes, repeated, counted, text, both, wide, constant, is_wide, tagged, indexed, constants, pool, attribute, attributes, numbers, member, members, interfaces, behind_pool, head, outline}

-- Bytes that spell a value of the one format spell one of the other, and the two go together.
record Covers {V W : Type 0} (f : Format V) (g : Format W) (R : V → W → Type 0) : Type 0 where
  holds : (given : List ℕ) (v : V) → Spells f given v → (w : W) × Spells g given w × R v w

abbrev Any : {V W : Type 0} → V → W → Type 0
Any v w = Unit {0}

abbrev Same : {V : Type 0} → V → V → Type 0
Same v w = v ≡ w

covers_then : {V W X Y : Type 0} (f : Format V) (g : Format W) (next : V → Format X) (other : W → Format Y) (R : V → W → Type 0) (S : X → Y → Type 0)
    → Covers f g R → ((v : V) (w : W) → R v w → Covers (next v) (other w) S) → Covers (andthen f next) (andthen g other) S
covers_then {X = X} {Y = Y} f g next other R S first second = record { holds = holds }
  where
    holds : (given : List ℕ) (x : X) → Spells (andthen f next) given x → (w : Y) × Spells (andthen g other) given w × S x w
    holds given x s =
        let i = andthen_parts f next given x s in
        let j = first.holds i.0 i.2 i.4 in
        let after = second i.2 j.0 j.2 in
        let k = after.holds i.1 x i.5 in
        (k.0, subst (λ (t : List ℕ). Spells (andthen g other) t k.0) (sym i.3) (andthen_spelled g other i.0 i.1 j.0 k.0 j.1 k.1), k.2)

covers_done : {V W : Type 0} (R : V → W → Type 0) (v : V) (w : W) → R v w → Covers (done v) (done w) R
covers_done {V = V} R v w r = record { holds = λ given x s. (w, (s.0, refl), subst (λ (y : V). R y w) s.1 r) }

covers_refused : {V W : Type 0} (R : V → W → Type 0) (fault : ℕ → ReadFault) (g : Format W) → Covers (refuse fault) g R
covers_refused R fault g = record { holds = λ given x s. absurd s }

covers_itself : {V : Type 0} (f : Format V) → Covers f f Same
covers_itself f = record { holds = λ given v s. (v, s, refl) }

covers_part : {V W : Type 0} (R : V → W → Type 0) (n : ℕ) (next : List ℕ → Format V) (other : List ℕ → Format W)
    → ((first : List ℕ) → Covers (next first) (other first) R) → Covers (part n next) (part n other) R
covers_part {V = V} {W = W} R n next other h = record { holds = holds }
  where
    holds : (given : List ℕ) (x : V) → Spells (part n next) given x → (w : W) × Spells (part n other) given w × R x w
    holds given x (first, others, len, is, s) =
        let inner = h first in
        let i = inner.holds others x s in
        (i.0, (first, others, len, is, i.1), i.2)

covers_if : {V W : Type 0} (R : V → W → Type 0) (b : Bool) (x y : Format V) (z w : Format W) → Covers x z R → Covers y w R → Covers (cond b x y) (cond b z w) R
covers_if R true x y z w h k = h
covers_if R false x y z w h k = k

-- the second format ignores what the first one makes of its value
covers_made : {V W X : Type 0} (f : Format V) (g : Format W) (make : V → X) → Covers f g Any → Covers (andthen f (λ v. done (make v))) g Any
covers_made {W = W} {X = X} f g make h = record { holds = holds }
  where
    holds : (given : List ℕ) (x : X) → Spells (andthen f (λ v. done (make v))) given x → (w : W) × Spells g given w × Unit {0}
    holds given x s =
        let i = andthen_parts f (λ v. done (make v)) given x s in
        let j = h.holds i.0 i.2 i.4 in
        let all : i.0 ≡ given = sym (i.3 ∙ ap (λ (t : List ℕ). i.0 ++ t) i.5.0 ∙ append-nil i.0) in
        (j.0, subst (λ (t : List ℕ). Spells g t j.0) all j.1, tt)

covers_times : {V W : Type 0} (f : Format V) (g : Format W) → Covers f g Any → (n : ℕ) → Covers (times n f) (repeated n g) Any
unfolding times repeated
covers_times f g h zero = covers_done Any [] tt tt
covers_times f g h (suc n) =
    covers_then f g (λ v. andthen (times n f) (λ others. done (v ∷ others))) (λ skipped. repeated n g) Any Any h
    (λ v w r. covers_made (times n f) (repeated n g) (λ others. v ∷ others) (covers_times f g h n))

covers_table : {V W : Type 0} (f : Format V) (g : Format W) → Covers f g Any → Covers (layouts.table f) (counted g) Any
covers_table f g h =
    covers_then (number 2) (number 2) (λ n. times n f) (λ n. repeated n g) Same Any (covers_itself (number 2))
    (λ v w same. subst (λ (n : ℕ). Covers (times v f) (repeated n g) Any) same (covers_times f g h v))

-- ---- what nothing stands after

record Ends {V : Type 0} (f : Format V) : Type 0 where
  none : (given : List ℕ) (v : V) → Spells f given v → given ≡ []

covers_end : {V : Type 0} (f : Format V) → Ends f → Covers f end Any
covers_end f h = record { holds = λ given v s. (tt, (h.none given v s, refl), tt) }

ends_done : {V : Type 0} (v : V) → Ends (done v)
ends_done v = record { none = λ given w s. s.0 }

ends_if : {V : Type 0} (b : Bool) (x y : Format V) → Ends x → Ends y → Ends (cond b x y)
ends_if true x y h k = h
ends_if false x y h k = k

ends_refuse : {V : Type 0} (fault : ℕ → ReadFault) → Ends {V = V} (refuse fault)
ends_refuse fault = record { none = λ given v s. absurd s }

ends_inside : {A V : Type 0} (n : ℕ) (body : List ℕ) (f : Format A) (make : A → V) → Ends (inside n body f (λ v. done (make v)))
ends_inside n body f make = record { none = λ given w s. (inside_spells n body f make given w s).2 }

-- ---- the constant pool

abbrev Wide : Entry → Bool → Type 0
Wide e w = takes_two e ≡ w

step : (tag k : ℕ) (x y : Format Entry) (z w : Format (Unit {0}))
    → Covers x (andthen z (λ skipped. done (is_wide k))) Wide → Covers y (andthen w (λ skipped. done (is_wide tag))) Wide
    → Covers (if nat_eq tag k then x else y) (andthen (if nat_eq tag k then z else w) (λ skipped. done (is_wide tag))) Wide
step tag k x y z w h i = by_test (nat_eq tag k) refl
  where
    by_test : (b : Bool) → nat_eq tag k ≡ b → Covers (cond b x y) (andthen (cond b z w) (λ skipped. done (is_wide tag))) Wide
    by_test true e = subst (λ (t : ℕ). Covers x (andthen z (λ skipped. done (is_wide t))) Wide) (sym (eqb-true _ _ e)) h
    by_test false e = i

covers_one : (n : ℕ) (make : ℕ → Entry) (w : Bool) → ((v : ℕ) → takes_two (make v) ≡ w) → Covers (one n make) (andthen (bytes n) (λ skipped. done w)) Wide
unfolding one
covers_one n make w h = covers_part Wide n _ _ (λ first. covers_done Wide _ w (h _))

covers_two : (n : ℕ) (make : ℕ → ℕ → Entry) (w : Bool) → ((u v : ℕ) → takes_two (make u v) ≡ w) → Covers (two n make) (andthen (both n n) (λ skipped. done w)) Wide
unfolding two both
covers_two n make w h = covers_part Wide n _ _ (λ first. covers_part Wide n _ _ (λ second. covers_done Wide _ w (h _ _)))

covers_wide : (last : Bool) (tag : ℕ) (make : ℕ → ℕ → Entry) → ((u v : ℕ) → takes_two (make u v) ≡ true)
    → Covers (wide_entry last tag (two 4 make)) (andthen (wide last tag) (λ skipped. done true)) Wide
unfolding wide
covers_wide true tag make h = covers_refused Wide _ _
covers_wide false tag make h = covers_two 4 make true h

covers_text : Covers utf8 (andthen text (λ skipped. done false)) Wide
unfolding utf8 text
covers_text = covers_part Wide 2 _ _ (λ first. covers_part Wide _ _ _ (λ second. by_text second (bad_text second)))
  where
    by_text : (second : List ℕ) (o : Option ℕ) → Covers (text_or second o) (done false) Wide
    by_text second None = covers_done Wide _ false refl
    by_text second (Some k) = covers_refused Wide _ _

covers_handle : Covers method_handle (andthen (both 1 2) (λ skipped. done false)) Wide
unfolding method_handle both
covers_handle = covers_part Wide 1 _ _ (λ first. by_kind _ _)
  where
    by_kind : (n : ℕ) (o : Option ReferenceKind) → Covers (kind_or n o) (part 2 (λ second. done false)) Wide
    by_kind n None = covers_refused Wide _ _
    by_kind n (Some kind) = covers_part Wide 2 _ _ (λ second. covers_done Wide _ false refl)

covers_body : (last : Bool) (tag : ℕ) → Covers (body last tag) (andthen (constant last tag) (λ skipped. done (is_wide tag))) Wide
unfolding constant
covers_body last tag =
    step tag 1 _ _ _ _ covers_text
    (step tag 3 _ _ _ _ (covers_one 4 Integer false (λ v. refl))
    (step tag 4 _ _ _ _ (covers_one 4 Float false (λ v. refl))
    (step tag 5 _ _ _ _ (covers_wide last 5 Long (λ u v. refl))
    (step tag 6 _ _ _ _ (covers_wide last 6 Double (λ u v. refl))
    (step tag 7 _ _ _ _ (covers_one 2 Class false (λ v. refl))
    (step tag 8 _ _ _ _ (covers_one 2 String false (λ v. refl))
    (step tag 9 _ _ _ _ (covers_two 2 Fieldref false (λ u v. refl))
    (step tag 10 _ _ _ _ (covers_two 2 Methodref false (λ u v. refl))
    (step tag 11 _ _ _ _ (covers_two 2 InterfaceMethodref false (λ u v. refl))
    (step tag 12 _ _ _ _ (covers_two 2 NameAndType false (λ u v. refl))
    (step tag 15 _ _ _ _ covers_handle
    (step tag 16 _ _ _ _ (covers_one 2 MethodType false (λ v. refl))
    (step tag 17 _ _ _ _ (covers_two 2 Dynamic false (λ u v. refl))
    (step tag 18 _ _ _ _ (covers_two 2 InvokeDynamic false (λ u v. refl)) (covers_refused Wide _ _)))))))))))))))

covers_indexed : (second last : Bool) → Covers (indexed_entry second last) (indexed second last) Wide
unfolding indexed entry tagged
covers_indexed true last = covers_done Wide _ false refl
covers_indexed false last =
    covers_then (number 1) (number 1) (body last) (λ tag. andthen (constant last tag) (λ skipped. done (is_wide tag))) Same Wide (covers_itself (number 1))
    (λ v w same. subst (λ (tag : ℕ). Covers (body last v) (andthen (constant last tag) (λ skipped. done (is_wide tag))) Wide) same (covers_body last v))

covers_entries : (n : ℕ) (second : Bool) → Covers (entries n second) (constants n second) Any
unfolding entries constants
covers_entries zero second = covers_done Any [] tt tt
covers_entries (suc n) second =
    covers_then (indexed_entry second (nat_eq n 0)) (indexed second (nat_eq n 0)) (λ e. andthen (entries n (takes_two e)) (λ others. done (e ∷ others))) (constants n) Wide Any (covers_indexed second (nat_eq n 0))
    (λ e w r. covers_made (entries n (takes_two e)) (constants n w) (λ others. e ∷ others) (subst (λ (b : Bool). Covers (entries n (takes_two e)) (constants n b) Any) r (covers_entries n (takes_two e))))

covers_pool : Covers pool_entries pool Any
unfolding pool_entries pool
covers_pool =
    covers_then (number 2) (number 2) source made Same Any (covers_itself (number 2))
    (λ v w same. subst (λ (count : ℕ). Covers (source v) (made count) Any) same
    (covers_if Any (nat_eq v 0) _ _ _ _ (covers_refused Any (λ at. BadPoolCount (at - 2)) _) (covers_entries (v - 1) false)))
  where
    source : ℕ → Format (List Entry)
    source count = if nat_eq count 0 then refuse (λ at. BadPoolCount (at - 2)) else entries (count - 1) false

    made : ℕ → Format (Unit {0})
    made count = if nat_eq count 0 then refuse (λ at. BadPoolCount (at - 2)) else constants (count - 1) false

-- ---- attributes, members and the class

covers_body_of : {V : Type 0} (pick : ℕ → ℕ → List ℕ → Format V) → ((name n : ℕ) (body : List ℕ) → Ends (pick name n body))
    → Covers (andthen (number 2) (λ name. andthen (number 4) (λ n. part n (λ body. pick name n body)))) attribute Any
unfolding attribute
covers_body_of pick h = covers_part Any 2 _ _ (λ first. covers_part Any 4 _ _ (λ second. covers_part Any _ _ _ (λ body. covers_end _ (h _ _ body))))

ends_kept : {A : Type 0} (o : Option AttributeLayout) (name n : ℕ) (body : List ℕ) → Ends (layouts.kept {A = A} o name n body)
ends_kept None name n body = ends_done _
ends_kept (Some layout) name n body = ends_if _ _ _ (ends_done _) (ends_refuse _)

covers_attribute : (entries_of : List Entry) (place : Location) → Covers (layouts.attribute entries_of place) attribute Any
unfolding layouts.attribute layouts.attribute_info
covers_attribute entries_of place = covers_body_of
    (λ name n body. if is_code entries_of place name then inside n body (layouts.code entries_of) (λ c. done (of_parts name c)) else layouts.kept (layout_at entries_of place name) name n body)
    (λ name n body. ends_if _ _ _ (ends_inside n body (layouts.code entries_of) _) (ends_kept (layout_at entries_of place name) name n body))

covers_class_attribute : (entries_of : List Entry) (place : Location) → Covers (layouts.class_attribute entries_of place) attribute Any
unfolding layouts.class_attribute layouts.attribute_info
covers_class_attribute entries_of place = covers_body_of
    (λ name n body. if is_record entries_of place name then inside n body (layouts.components entries_of) (λ c. done (of_parts name c)) else layouts.kept (layout_at entries_of place name) name n body)
    (λ name n body. ends_if _ _ _ (ends_inside n body (layouts.components entries_of) _) (ends_kept (layout_at entries_of place name) name n body))

covers_three : Covers layouts.three (numbers 3) Any
unfolding layouts.three numbers repeated
covers_three = covers_part Any 2 _ _ (λ a. covers_part Any 2 _ _ (λ b. covers_part Any 2 _ _ (λ c. covers_done Any _ tt tt)))

covers_member : (entries_of : List Entry) (place : Location) → Covers (layouts.member entries_of place) member Any
unfolding layouts.member member attributes layouts.attributes
covers_member entries_of place =
    covers_then layouts.three (numbers 3) _ _ Any Any covers_three (λ v w r. covers_made (layouts.attributes entries_of place) attributes _ (covers_table _ _ (covers_attribute entries_of place)))

covers_members : (entries_of : List Entry) (place : Location) → Covers (layouts.members entries_of place) members Any
unfolding layouts.members members
covers_members entries_of place = covers_table _ _ (covers_member entries_of place)

covers_interfaces : Covers layouts.interfaces interfaces Any
unfolding layouts.interfaces interfaces numbers
covers_interfaces = covers_table (number 2) (number 2) (record { holds = λ given v s. (v, s, tt) })

covers_head : (versions : Versions) → Covers (layouts.version versions) head Any
unfolding layouts.version head numbers repeated
covers_head versions =
    covers_part Any 4 _ _ (λ first. covers_if Any _ _ _ _ _ (covers_part Any 2 _ _ (λ minor. covers_part Any 2 _ _ (λ major. covers_end _ (ends_if _ _ _ (ends_done _) (ends_refuse _))))) (covers_refused Any _ _))

covers_class_attributes : (entries_of : List Entry) (place : Location) → Covers (layouts.class_attributes entries_of place) attributes Any
unfolding layouts.class_attributes attributes
covers_class_attributes entries_of place = covers_table _ _ (covers_class_attribute entries_of place)

covers_class : (versions : Versions) → Covers (layouts.class versions) outline Any
unfolding layouts.class outline behind_pool layouts.manner
covers_class versions =
    covers_then (layouts.version versions) head _ _ Any Any (covers_head versions) (λ version v r.
    covers_then pool_entries pool _ _ Any Any covers_pool (λ entries_of w s.
    covers_then layouts.three (numbers 3) _ _ Any Any covers_three (λ flags x t.
    covers_then layouts.interfaces interfaces _ _ Any Any covers_interfaces (λ above y u.
    covers_then (layouts.members entries_of location.Field) members _ _ Any Any (covers_members entries_of location.Field) (λ fields z k.
    covers_then (layouts.members entries_of location.Method) members _ _ Any Any (covers_members entries_of location.Method) (λ methods l m.
    covers_made (layouts.class_attributes entries_of (location.Class version.1)) attributes _ (covers_class_attributes entries_of (location.Class version.1))))))))

pub class_is_outline : (versions : Versions) (given : List ℕ) (c : Value) → Spells (layouts.class versions) given c → Spells outline given tt
class_is_outline versions given c s = ((covers_class versions).holds given c s).1
