-- The dimensions in the numbers of reference types.
use Rattle.std.proofs.Common.{◌≡◌, ℕ, ◌+◌, ◌/◌, ◌%◌, ◌≤◌, Bool, true, false, cond, nat_lt, List, Option, Some, None, position, arith}
use Rattle.std.specs.Str.{bytes_eq}
use Rattle.names.specs.Descriptors.{FieldDescriptor, primitive, class as class_type, array as array_type}
use Rattle.hierarchy.specs.Places.{place_in}
use Rattle.hierarchy.proofs.Names.{none_some}
use Rattle.frames.specs.VerificationType.{class, array}
use Rattle.frames.specs.Packing.{element_code}
use Rattle.type_numbers.specs.Numbers.{Numbering, IsNumber, absent_limit, number_by, numbered, array_number}
use Rattle.type_numbers.proofs.NumberParts.{parts_of, dims_back}

numbered_dims : (tag dims rest n : ℕ) → numbered tag dims rest ≡ Some n → n / 65536 % 256 ≡ dims
numbered_dims tag dims rest n e = dims_back tag dims rest n (parts_of tag dims rest n e)

dims_by : (dims n : ℕ) (o k : Option ℕ) → number_by dims o k ≡ Some n → n / 65536 % 256 ≡ dims
dims_by dims n (Some place) k e = numbered_dims 7 dims place n e
dims_by dims n None None e = absurd (none_some e)
dims_by dims n None (Some k) e = by (nat_lt k absent_limit) e
  where
    by : (b : Bool) → cond b (numbered (10 + k / 65536) dims (k % 65536)) None ≡ Some n → n / 65536 % 256 ≡ dims
    by true e = numbered_dims (10 + k / 65536) dims (k % 65536) n e
    by false e = absurd (none_some e)

array_deep : (s : Numbering) (d n : ℕ) (x : FieldDescriptor) → array_number s.classes s.absent d x ≡ Some n → d ≤ n / 65536 % 256
array_deep s d n (primitive p) e = let is = numbered_dims 9 d (element_code p) n e in omega arith
array_deep s d n (class_type name) e = let is = dims_by d n (place_in s.classes name) (position (bytes_eq name) s.absent) e in omega arith
array_deep s d n (array_type x) e = let deep = array_deep s (d + 1) n x e in omega arith

pub class_flat : (s : Numbering) (n : ℕ) (name : List ℕ) → IsNumber s n (class name) → n / 65536 % 256 ≡ 0
class_flat s n name h = dims_by 0 n (place_in s.classes name) (position (bytes_eq name) s.absent) h.number

pub array_dims : (s : Numbering) (n : ℕ) (x : FieldDescriptor) → IsNumber s n (array x) → 1 ≤ n / 65536 % 256
array_dims s n x h = array_deep s 1 n x h.number
