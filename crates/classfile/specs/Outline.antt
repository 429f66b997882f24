-- The outline of a class file (JVMS 4.1, 4.4 to 4.7): how far it reaches by its magic number, by the tags and lengths
-- of its constants, and by the counts of its tables and the lengths of its attributes. What these hold does not matter.
use Rattle.std.specs.Prelude.{◌≡◌, ℕ, zero, suc, ◌-◌, Bool, true, false, List, length, Option, nat_eq, if◌then◌else◌, ◌||◌}
use Rattle.layout.specs.Format.{Format, done, part, refuse, andthen, number}
use Rattle.std.specs.Io.KnownBytes.{Consumes, IsAtEnd}
use Rattle.layout.specs.Streams.{Leads, StreamHas, whole, partial, refused}
use Rattle.layout.specs.declared.fault.ReadFault.{ReadFault}
use Rattle.layout.specs.declared.fault.ReadFault.TheVariants.{OutOfMemory, EndsEarly, ReadFailed, BadMagic, BadTag, BadPoolCount}

-- nothing more
abbrev pub end : Format (Unit {0})
end = done tt

-- so many bytes, whatever they are
abbrev pub bytes : ℕ → Format (Unit {0})
bytes n = andthen (part n done) (λ skipped. end)

-- so many of the same, one after the other
unfoldable pub repeated : {V : Type 0} → ℕ → Format V → Format (Unit {0})
repeated zero f = end
repeated (suc n) f = andthen f (λ skipped. repeated n f)

-- a table: a count of two bytes, and so many items
abbrev pub counted : {V : Type 0} → Format V → Format (Unit {0})
counted item = andthen (number 2) (λ n. repeated n item)

-- ---- the constant pool

-- a text: its length of two bytes, and so many bytes
unfoldable pub text : Format (Unit {0})
text = andthen (number 2) bytes

-- two parts
unfoldable pub both : ℕ → ℕ → Format (Unit {0})
both m n = andthen (part m done) (λ skipped. bytes n)

-- a Long or Double: two numbers, and a second index, which the last index has not (4.4.5)
unfoldable pub wide : Bool → ℕ → Format (Unit {0})
wide last tag = if last then refuse (λ at. BadTag (at - 1) tag) else both 4 4

-- what stands after a tag (4.4); `last` says that no second index is left
unfoldable pub constant : Bool → ℕ → Format (Unit {0})
constant last tag =
    if nat_eq tag 1 then text
    else if nat_eq tag 3 then bytes 4
    else if nat_eq tag 4 then bytes 4
    else if nat_eq tag 5 then wide last 5
    else if nat_eq tag 6 then wide last 6
    else if nat_eq tag 7 then bytes 2
    else if nat_eq tag 8 then bytes 2
    else if nat_eq tag 9 then both 2 2
    else if nat_eq tag 10 then both 2 2
    else if nat_eq tag 11 then both 2 2
    else if nat_eq tag 12 then both 2 2
    else if nat_eq tag 15 then both 1 2
    else if nat_eq tag 16 then bytes 2
    else if nat_eq tag 17 then both 2 2
    else if nat_eq tag 18 then both 2 2
    else refuse (λ at. BadTag (at - 1) tag)

-- a Long or Double takes two indices
abbrev pub is_wide : ℕ → Bool
is_wide tag = nat_eq tag 5 || nat_eq tag 6

-- a tag and what stands after it; told is whether it takes a second index
unfoldable pub tagged : Bool → Format Bool
tagged last = andthen (number 1) (λ tag. andthen (constant last tag) (λ skipped. done (is_wide tag)))

-- what stands at an index: nothing at the second index of a Long or Double
unfoldable pub indexed : Bool → Bool → Format Bool
indexed true last = done false
indexed false last = tagged last

-- the constants of so many indices; `second` says that the first is the second index of a Long or Double
unfoldable pub constants : ℕ → Bool → Format (Unit {0})
constants zero second = end
constants (suc n) second = andthen (indexed second (nat_eq n 0)) (λ next. constants n next)

unfoldable pub pool : Format (Unit {0})
pool = andthen (number 2) (λ count. if nat_eq count 0 then refuse (λ at. BadPoolCount (at - 2))
    else constants (count - 1) false)

-- ---- the rest

-- an attribute: its name's index, the length of its body, and so many bytes
unfoldable pub attribute : Format (Unit {0})
attribute = andthen (number 2) (λ name. andthen (number 4) bytes)

unfoldable pub attributes : Format (Unit {0})
attributes = counted attribute

-- numbers of two bytes
unfoldable pub numbers : ℕ → Format (Unit {0})
numbers n = repeated n (number 2)

-- a field or a method: access flags, the indices of its name and descriptor, and its attributes
unfoldable pub member : Format (Unit {0})
member = andthen (numbers 3) (λ skipped. attributes)

unfoldable pub members : Format (Unit {0})
members = counted member

unfoldable pub interfaces : Format (Unit {0})
interfaces = andthen (number 2) numbers

-- access flags, this class, its superclass, and the four tables
unfoldable pub behind_pool : Format (Unit {0})
behind_pool = andthen (numbers 3)
    (λ skipped. andthen interfaces (λ skipped. andthen members (λ skipped. andthen members (λ skipped. attributes))))

-- the magic number, and the version, which does not matter
unfoldable pub head : Format (Unit {0})
head = andthen (number 4) (λ magic. if nat_eq magic 0xCAFEBABE then numbers 2 else refuse (λ at. BadMagic))

unfoldable pub outline : Format (Unit {0})
outline = andthen head (λ skipped. andthen pool (λ skipped. behind_pool))

-- ---- what is read of a stream

-- These bytes are the outline of a class file, all of them.
abbrev pub IsOutline : List ℕ → Type 0
IsOutline given = Leads outline 0 given (whole tt)

-- The fault of a stream of which no front is an outline: the first part in the order of the file that is not whole,
-- that breaks its rule, or that would pass the limit.
abbrev pub OutlineFault : List ℕ → ReadFault → Type 0
OutlineFault stream e = StreamHas outline stream e

-- So far nothing is decided: these bytes are no outline and have no fault, and more may follow.
abbrev pub IsUndecided : List ℕ → Type 0
IsUndecided given = (at : ℕ) × Leads outline 0 given (partial at)

-- Why a stream was given up after these bytes. Memory ran out or the reader failed while nothing was decided; or the
-- reader ended within a part; or these bytes have a fault, and no fewer of them have it.
abbrev pub GivesUp : List ℕ → Option (List ℕ) → ReadFault → Type 0
GivesUp given after OutOfMemory = IsUndecided given
GivesUp given after (ReadFailed at) = (at ≡ length given) × IsUndecided given
GivesUp given after (EndsEarly at) = Leads outline 0 given (partial at) × IsAtEnd after
GivesUp given after e = Leads outline 0 given (refused e)

-- These bytes were taken from the reader, and after them it was given up.
pub record Stopped (before after : Option (List ℕ)) (given : List ℕ) (why : ReadFault) : Type 0 where
  pub consumed : Consumes before after given
  pub gives_up : GivesUp given after why

-- Memory ran out or the reader failed; or it is such a fault.
abbrev pub IsLostOr : (ReadFault → Type 0) → ReadFault → Type 0
IsLostOr is_fault OutOfMemory = Unit {0}
IsLostOr is_fault (ReadFailed at) = Unit {0}
IsLostOr is_fault e = is_fault e
