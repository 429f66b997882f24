-- The bootstrap methods of a class (JVMS 4.7.23), to which its Dynamic and InvokeDynamic constants lead (4.4.10).
use Rattle.std.specs.Prelude.{◌≡◌, ℕ, Bool, true, false, not, ◌&&◌, nat_eq, nat_le, if◌then◌else◌, List, [], ◌∷◌, ◌++◌, length, map, slice_get, Option, Some, None, option_to_list, Result, Ok, Err, codes}
use Rattle.std.specs.List.{list_all, list_any}
use Rattle.std.specs.Option.{option_map_or}
use Rattle.layout.specs.Format.{Format, done, andthen, number, reads}
use Rattle.layout.specs.Place.{Place}
use Rattle.layout.specs.Pieces.{Piece, field}
use Rattle.layout.specs.PieceLaws.{counted}
use Rattle.layout.specs.declared.fault.ReadFault.{ReadFault}
use Rattle.pool.specs.Entries.{Entry, Integer, Float, Long, Double, Class, String, MethodHandle, MethodType, Dynamic}
use Rattle.pool.specs.Lookups.{entry_at}
use Rattle.classfile.specs.ClassFile.{table}
use Rattle.classfile.specs.Indices.{on_found}
use Rattle.classfile.specs.Locations.{is_named}
use Rattle.classfile.specs.Values as values
use Rattle.classfile.specs.Values.{of_parts, of_numbers, raw, ClassAttribute}

-- an entry of a BootstrapMethods attribute: the indices of its method handle and of its static arguments
pub record BootstrapMethod : Type 0 where
  pub handle : ℕ
  pub arguments : List ℕ

-- ---- the body of the attribute

unfoldable pub arguments : Format (List ℕ)
arguments = table (number 2)

unfoldable pub bootstrap_method : Format BootstrapMethod
bootstrap_method = andthen (number 2)
    (λ handle. andthen arguments (λ arguments. done (record { handle = handle; arguments = arguments })))

unfoldable pub bootstrap_methods : Format (List BootstrapMethod)
bootstrap_methods = table bootstrap_method

-- an entry as it is written
abbrev pub bootstrap_pieces : BootstrapMethod → List Piece
bootstrap_pieces b = field 2 b.handle ++ counted (field 2) b.arguments

-- what was read, where no bytes stand after it
abbrev pub all_read : Result (List BootstrapMethod × Place) ReadFault → List BootstrapMethod
all_read (Ok x) = if nat_eq (length x.1.rest) 0 then x.0 else []
all_read (Err e) = []

-- the entries of a body; a body that is not laid out so has none
abbrev pub entries_of : List ℕ → List BootstrapMethod
entries_of body = all_read (reads bootstrap_methods 0 body)

-- ---- the attribute of a class

abbrev pub body_of : List Entry → ClassAttribute → Option (List ℕ)
body_of pool (of_parts name components) = None
body_of pool (of_numbers name numbers) = None
body_of pool (raw name body) = if is_named pool name (codes "BootstrapMethods") then Some body else None

-- the bodies of all BootstrapMethods attributes
abbrev pub bodies_of : List Entry → List ClassAttribute → List (List ℕ)
bodies_of pool [] = []
bodies_of pool (a ∷ others) = option_to_list (body_of pool a) ++ bodies_of pool others

-- the only one
abbrev pub only : List (List ℕ) → Option (List ℕ)
only (body ∷ []) = Some body
only _ = None

-- at most one such attribute may stand in a class: where there are more, the class has no bootstrap methods
unfoldable pub bootstraps_of : values.Class → List BootstrapMethod
bootstraps_of c = option_map_or entries_of (only (bodies_of c.constant_pool c.attributes)) []

-- ---- which may be used

abbrev pub is_handle : Entry → Bool
is_handle (MethodHandle kind reference) = true
is_handle _ = false

-- the constant may be loaded (4.4, table 4.4-C)
abbrev pub is_loadable : Entry → Bool
is_loadable (Integer bits) = true
is_loadable (Float bits) = true
is_loadable (Long high low) = true
is_loadable (Double high low) = true
is_loadable (Class name) = true
is_loadable (String text) = true
is_loadable (MethodHandle kind reference) = true
is_loadable (MethodType descriptor) = true
is_loadable (Dynamic bootstrap named) = true
is_loadable _ = false

abbrev pub is_argument : List Entry → ℕ → Bool
is_argument pool index = on_found is_loadable (entry_at pool index)

unfoldable pub are_arguments : List Entry → List ℕ → Bool
are_arguments pool indices = list_all (is_argument pool) indices

-- its handle is a MethodHandle, and each of its static arguments may be loaded
unfoldable pub is_sound : List Entry → BootstrapMethod → Bool
is_sound pool b = on_found is_handle (entry_at pool b.handle) && are_arguments pool b.arguments

-- among the bootstrap methods there is one of this number, which counts from 0, and it may be used
unfoldable pub has_bootstrap : List Entry → List BootstrapMethod → ℕ → Bool
has_bootstrap pool methods number = option_map_or (is_sound pool) (slice_get methods number) false

-- ---- whole tables

-- bytes stand behind the entries, or one of these may not be used; or the body is not laid out so
abbrev pub is_bad_reading : List Entry → Result (List BootstrapMethod × Place) ReadFault → Bool
is_bad_reading pool (Ok x) = not (nat_eq (length x.1.rest) 0 && list_all (is_sound pool) x.0)
is_bad_reading pool (Err e) = true

unfoldable pub is_bad_body : List Entry → List ℕ → Bool
is_bad_body pool body = is_bad_reading pool (reads bootstrap_methods 0 body)

-- class files have the attribute from major version 51 on
unfoldable pub has_bad_bootstraps : values.Class → Bool
has_bad_bootstraps c =
    nat_le 51 c.major_version && list_any (is_bad_body c.constant_pool) (bodies_of c.constant_pool c.attributes)
