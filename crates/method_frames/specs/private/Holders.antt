-- The places, of rows or of an operand stack, that came to hold objects that are not initialized.
use Rattle.std.specs.Prelude.{◌≡◌, ℕ, ◌+◌, ◌*◌, ◌≤◌, ◌<◌, Bool, true, ◌⊎◌, List, length, slice_index}
use Rattle.std.specs.List.{list_any}
use Rattle.std.specs.Ordering.{nat_cmp}
use Rattle.std.specs.BTreeMap.{is_at}
use Rattle.type_numbers.specs.Numbers.{Numbering}
use Rattle.blocks.specs.Rows.{Rows, declared_row}
use Rattle.method_frames.specs.Objects.{is_uninitialized, replaced}
use Rattle.method_frames.specs.private.KnownRows.{AreKnown}
use Rattle.method_frames.specs.private.Counted.{IsCounted}
use Rattle.method_frames.specs.declared.holders.Holders.{Holders}

-- an object and a place in one number
abbrev pub key_of : ℕ → ℕ → ℕ
key_of object place = object * 4294967296 + place

abbrev pub is_among : List ℕ → ℕ → Bool
is_among keys key = list_any (is_at (nat_cmp key)) keys

-- the place is among those that came to hold the object
unfoldable pub IsListed : Holders → ℕ → ℕ → Type 0
IsListed x object place = (is_among x.keys.keys (key_of object place) ≡ true) × (place < 4294967296)

-- each place that came to hold the object has its key among these
abbrev pub AreOf : Holders → ℕ → List ℕ → Type 0
AreOf x object keys = (place : ℕ) → IsListed x object place
    → (is_among keys (key_of object place) ≡ true) × (place < 4294967296)

-- each place of a row that holds an object is listed
abbrev pub AreListed : Holders → List ℕ → Type 0
AreListed x row = (place : ℕ) → place < length row → is_uninitialized (slice_index row place) ≡ true
    → IsListed x (slice_index row place) place

pub record AreHeld (s : Numbering) (rows : Rows) (x : Holders) : Type 0 where
  pub known : AreKnown s rows
  pub running : AreListed x rows.running
  pub declared : (row : ℕ) → row < length rows.declared → AreListed x (declared_row rows row)

-- what is listed stays listed
abbrev pub KeepsListed : Holders → Holders → Type 0
KeepsListed old new = (object place : ℕ) → IsListed old object place → IsListed new object place

-- a slot holds what it is to hold, or what it held while its key is still to come
abbrev pub IsOpen : ℕ → ℕ → List ℕ → List ℕ → List ℕ → ℕ → Type 0
IsOpen object by old new rest i =
    (slice_index new i ≡ replaced object by (slice_index old i))
    ⊎ ((slice_index new i ≡ slice_index old i) × (is_among rest (key_of object i) ≡ true) × (i < 4294967296))

-- the running row has another number at places that held an object's, and nothing else changed
pub record Replaces (object by : ℕ) (old new : Rows) : Type 0 where
  pub rest : new ≡ record old { running = new.running }
  pub size : length new.running ≡ length old.running
  pub each : (place : ℕ) → (slice_index new.running place ≡ slice_index old.running place)
      ⊎ ((slice_index old.running place ≡ object) × (slice_index new.running place ≡ by))

-- items that are counted, and of which those that are objects are listed
pub record AreItems (numbers : List ℕ) (wides : ℕ) (x : Holders) : Type 0 where
  pub counted : IsCounted numbers wides
  pub listed : AreListed x numbers

-- each item from a place up that is an object is listed
abbrev pub AreListedFrom : ℕ → Holders → List ℕ → Type 0
AreListedFrom from x row = (place : ℕ) → from ≤ place → place < length row
    → is_uninitialized (slice_index row place) ≡ true → IsListed x (slice_index row place) place
