-- Formats: which bytes spell which values, as the structures of JVMS 4 are laid out. A format is a chain of parts, each
-- of so many bytes; what comes after a part may hang on its bytes. It is read in three ways: `Spells` (the bytes are
-- the value's parts one after the other), `FirstFault` (the first part in order that is not whole or breaks a rule)
-- and `reads` (what a program answers). The laws in `FormatLaws` say that the third is the other two.
use Rattle.std.specs.Prelude.{◌≡◌, ℕ, ◌+◌, ◌<◌, List, [], ◌++◌, length, take, drop, nat_lt, if◌then◌else◌, Result, Ok, Err, ◌⊎◌, zero, suc, ◌∷◌, ◌-◌, nat_eq}
use Rattle.byteorder.specs.Endian.{big_number}
use Rattle.layout.specs.Place.{Place}
use Rattle.layout.specs.declared.fault.ReadFault.{ReadFault}
use Rattle.layout.specs.declared.fault.ReadFault.TheVariants.{EndsEarly, AttributeLength}

pub data Format (V : Type 0) : Type 0 where
  -- nothing more: the value
  done : V → Format V
  -- this many bytes, and what follows them
  part : ℕ → (List ℕ → Format V) → Format V
  -- a rule is broken; the fault is reported where the next part would begin
  refuse : (ℕ → ReadFault) → Format V

-- The bytes spell the value: they are its parts one after the other.
abbrev pub Spells : {V : Type 0} → Format V → List ℕ → V → Type 0
Spells (done w) bytes v = (bytes ≡ []) × (w ≡ v)
Spells (part n next) bytes v = (first : List ℕ) × (others : List ℕ) × (length first ≡ n) × (bytes ≡ first ++ others)
    × Spells (next first) others v
Spells (refuse fault) bytes v = ⊥

-- The parts in order, up to the first that is not whole or breaks its rule, and the fault for that.
abbrev pub FirstFault : {V : Type 0} → Format V → ℕ → List ℕ → ReadFault → Type 0
FirstFault (done w) at bytes e = ⊥
FirstFault (part n next) at bytes e =
    ((length bytes < n) × (e ≡ EndsEarly at))
    ⊎ ((first : List ℕ) × (others : List ℕ) × (length first ≡ n) × (bytes ≡ first ++ others)
    × FirstFault (next first) (at + n) others e)
FirstFault (refuse fault) at bytes e = e ≡ fault at

-- The answer of reading by the format, from a place on: the value and the place after it, or the fault.
abbrev pub reads : {V : Type 0} → Format V → ℕ → List ℕ → Result (V × Place) ReadFault
reads (done w) at bytes = Ok (w, record { at = at; rest = bytes })
reads (part n next) at bytes =
    if nat_lt (length bytes) n then Err (EndsEarly at) else reads (next (take n bytes)) (at + n) (drop n bytes)
reads (refuse fault) at bytes = Err (fault at)

-- one format after another
abbrev pub andthen : {V W : Type 0} → Format V → (V → Format W) → Format W
andthen (done v) next = next v
andthen (part n after) next = part n (λ first. andthen (after first) next)
andthen (refuse fault) next = refuse fault

-- a number of n bytes, the highest first
abbrev pub number : ℕ → Format ℕ
number n = part n (λ bytes. done (big_number n bytes))

-- what is read after what was read
abbrev pub behind_it : {V W : Type 0} → Result (V × Place) ReadFault → (V → Format W) → Result (W × Place) ReadFault
behind_it (Ok x) next = reads (next x.0) x.1.at x.1.rest
behind_it (Err e) next = Err e

-- so many of the same, one after the other
unfoldable pub times : {V : Type 0} → ℕ → Format V → Format (List V)
times zero f = done []
times (suc n) f = andthen f (λ v. andthen (times n f) (λ others. done (v ∷ others)))

-- A fault in the body of the attribute whose name index stands at q (JVMS 4.7): what passes the body's end is that
-- attribute's fault.
abbrev pub confined : ℕ → ReadFault → ReadFault
confined q (EndsEarly at) = AttributeLength q
confined q e = e

-- The parts of a body of n bytes that was just taken, all of it. Its attribute's name index and length stand before it.
abbrev pub inside : {A V : Type 0} → ℕ → List ℕ → Format A → (A → Format V) → Format V
inside n body (done v) next = if nat_eq (length body) 0 then next v else refuse (λ at. AttributeLength (at - n - 6))
inside n body (part k after) next =
    if nat_lt (length body) k then refuse (λ at. AttributeLength (at - n - 6))
    else inside n (drop k body) (after (take k body)) next
inside n body (refuse fault) next = refuse (λ at. confined (at - n - 6) (fault (at - length body)))

-- what is made of reading a body
abbrev pub settled : {A V : Type 0} → ℕ → (A → V) → Place → Result (A × Place) ReadFault → Result (V × Place) ReadFault
settled q make behind (Ok x) = if nat_eq (length x.1.rest) 0 then Ok (make x.0, behind) else Err (AttributeLength q)
settled q make behind (Err e) = Err (confined q e)

-- each is a byte
abbrev pub AreBytes : List ℕ → Type 0
AreBytes [] = Unit {0}
AreBytes (b ∷ bytes) = (b < 256) × AreBytes bytes
