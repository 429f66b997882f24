-- Laws of numbers: one for each type, the slots of packed frames, and kept.
use Rattle.std.proofs.Common.{◌≡◌, ◌≢◌, ◌∙◌, ℕ, ◌+◌, ◌*◌, Bool, true, false, cond, ◌&&◌, nat_lt, List, Option, Some, None, refl, sym, ap, position}
use Rattle.std.specs.Str.{bytes_eq}
use Rattle.names.specs.Descriptors.{FieldDescriptor, primitive, class as class_type, array as array_type}
use Rattle.hierarchy.specs.Places.{place_in}
use Rattle.hierarchy.proofs.Names.{none_some, some_same}
use Rattle.frames.specs.VerificationType.{VerificationType, top, int, float, long, double, null, class, array, uninit_this, uninit}
use Rattle.frames.specs.Packing.{absent_slot, slot, class_slot, array_slot, slot_of, element_code}
use Rattle.type_numbers.specs.Numbers.{Numbering, IsNoted, IsBaseNoted, IsNumber, Extends, number_by, numbered, class_number, array_number}

pub one_number : (s : Numbering) (n m : ℕ) (t : VerificationType) → IsNumber s n t → IsNumber s m t → n ≡ m
one_number s n m t h k = some_same (sym h.number ∙ k.number)

-- ---- slots

slot_numbered : (tag dims rest n : ℕ) → numbered tag dims rest ≡ Some n → n ≡ slot tag dims rest
slot_numbered tag dims rest n e = by (nat_lt dims 256 && nat_lt rest 65536) refl e
  where
    by : (b : Bool) → (nat_lt dims 256 && nat_lt rest 65536) ≡ b → cond b (Some (tag * 16777216 + dims * 65536 + rest)) None ≡ Some n → n ≡ slot tag dims rest
    by false h e = absurd (none_some e)
    by true h e = sym (some_same e) ∙ sym (ap (λ b. cond b (tag * 16777216 + dims * 65536 + rest) absent_slot) h)

class_by : (dims n : ℕ) (o k : Option ℕ) → number_by dims o k ≡ Some n → class_slot dims o ≢ absent_slot → n ≡ class_slot dims o
class_by dims n (Some place) k e there = slot_numbered 7 dims place n e
class_by dims n None k e there = absurd (there refl)

array_by : (s : Numbering) (d n : ℕ) (x : FieldDescriptor) → array_number s.classes s.absent d x ≡ Some n → array_slot s.classes d x ≢ absent_slot → n ≡ array_slot s.classes d x
array_by s d n (primitive p) e there = slot_numbered 9 d (element_code p) n e
array_by s d n (class_type name) e there = class_by d n (place_in s.classes name) (position (bytes_eq name) s.absent) e there
array_by s d n (array_type x) e there = array_by s (d + 1) n x e there

pub number_is_slot : (s : Numbering) (n : ℕ) (t : VerificationType) → IsNumber s n t → slot_of s.classes t ≢ absent_slot → n ≡ slot_of s.classes t
number_is_slot s n top h there = slot_numbered 0 0 0 n h.number
number_is_slot s n int h there = slot_numbered 1 0 0 n h.number
number_is_slot s n float h there = slot_numbered 2 0 0 n h.number
number_is_slot s n double h there = slot_numbered 3 0 0 n h.number
number_is_slot s n long h there = slot_numbered 4 0 0 n h.number
number_is_slot s n null h there = slot_numbered 5 0 0 n h.number
number_is_slot s n uninit_this h there = slot_numbered 6 0 0 n h.number
number_is_slot s n (class name) h there = class_by 0 n (place_in s.classes name) (position (bytes_eq name) s.absent) h.number there
number_is_slot s n (uninit offset) h there = slot_numbered 8 0 offset n h.number
number_is_slot s n (array x) h there = array_by s 1 n x h.number there

-- ---- more types have numbers

module _ (old new : Numbering) (more : Extends old new) where
  by_stays : (dims n : ℕ) (name : List ℕ) (o k : Option ℕ) → position (bytes_eq name) old.absent ≡ k → number_by dims o k ≡ Some n → number_by dims o (position (bytes_eq name) new.absent) ≡ Some n
  by_stays dims n name (Some place) k is e = e
  by_stays dims n name None (Some i) is e = ap (number_by dims None) (more.absent name i is) ∙ e
  by_stays dims n name None None is e = absurd (none_some e)

  class_stays : (dims n : ℕ) (name : List ℕ) → class_number old.classes old.absent dims name ≡ Some n → class_number new.classes new.absent dims name ≡ Some n
  class_stays dims n name e =
      ap (λ cs. number_by dims (place_in cs name) (position (bytes_eq name) new.absent)) more.classes
      ∙ by_stays dims n name (place_in old.classes name) (position (bytes_eq name) old.absent) refl e

  array_stays : (d n : ℕ) (x : FieldDescriptor) → array_number old.classes old.absent d x ≡ Some n → array_number new.classes new.absent d x ≡ Some n
  array_stays d n (primitive p) e = e
  array_stays d n (class_type name) e = class_stays d n name e
  array_stays d n (array_type x) e = array_stays (d + 1) n x e

  noted_stays : (name : List ℕ) → IsNoted old name → IsNoted new name
  noted_stays name h = λ place e. more.present place name (h place (sym (ap (λ cs. place_in cs name) more.classes) ∙ e))

  base_stays : (x : FieldDescriptor) → IsBaseNoted old x → IsBaseNoted new x
  base_stays (primitive p) h = h
  base_stays (class_type name) h = noted_stays name h
  base_stays (array_type x) h = base_stays x h

  pub number_stays : (n : ℕ) (t : VerificationType) → IsNumber old n t → IsNumber new n t
  number_stays n top h = record { number = h.number; noted = tt }
  number_stays n int h = record { number = h.number; noted = tt }
  number_stays n float h = record { number = h.number; noted = tt }
  number_stays n double h = record { number = h.number; noted = tt }
  number_stays n long h = record { number = h.number; noted = tt }
  number_stays n null h = record { number = h.number; noted = tt }
  number_stays n uninit_this h = record { number = h.number; noted = tt }
  number_stays n (uninit offset) h = record { number = h.number; noted = tt }
  number_stays n (class name) h = record { number = class_stays 0 n name h.number; noted = noted_stays name h.noted }
  number_stays n (array x) h = record { number = array_stays 1 n x h.number; noted = base_stays x h.noted }

pub extends_on : (a b c : Numbering) → Extends a b → Extends b c → Extends a c
extends_on a b c e f = record {
  classes = f.classes ∙ e.classes;
  absent = λ name k h. f.absent name k (e.absent name k h);
  present = λ place name h. f.present place name (e.present place name h);
}

pub extends_itself : (a : Numbering) → Extends a a
extends_itself a = record { classes = refl; absent = λ name k h. h; present = λ place name h. h }
