-- Messages, taken piece by piece.
use Rattle.std.proofs.Common.{◌≡◌, ◌∙◌, ◌⊎◌, ℕ, ◌<◌, ◌≤◌, List, [], ◌∷◌, ◌++◌, length, Option, Some, None, Result, Ok, Err, inl, inr, refl, sym, ap, subst, append_assoc, append-nil}
use Rattle.std.specs.Prelude.{Vec, IfOk, IfErr}
use Rattle.std.specs.Io.KnownBytes.{Consumes, IsAtEnd}
use Rattle.std.proofs.KnownBytes.{Consumes-trans}
use Rattle.byteorder.specs.Endian.{big_number}
use Rattle.serving.specs.Messages.{MessageFact, IsWhole, IsShort, IsCut, IsTooLong, IsBroken, letter, message_bytes, TakesMessage}
use Rattle.serving.specs.private.Taking.{IsWhy, IsFewer, IsRest, TakesFirst, TakesBytes}
use Rattle.serving.specs.declared.message.Kind.{Kind}
use Rattle.serving.specs.declared.message.Message.{Message}
use Rattle.serving.specs.declared.stop.Stop.{Stop}
use Rattle.serving.specs.declared.stop.Stop.TheVariants as stops

-- fewer than four bytes of the head came
pub short_head : (a b : Option (List ℕ)) (stop : Stop) → IsFewer 4 a b stop → (rest : List ℕ) × Consumes a b rest × IsRest rest b stop
short_head a b stops.Cut (given, few, taken, end) = (given, taken, (given, [], sym (append-nil given), inl (few, refl), end))
short_head a b stops.ReadFailed (given, few, taken, why) = (given, taken, tt)
short_head a b stops.OutOfMemory (given, few, taken, why) = (given, taken, tt)
short_head a b stops.NoRandom (given, few, taken, why) = absurd why
short_head a b stops.NoKind (given, few, taken, why) = absurd why
short_head a b stops.TooLong (given, few, taken, why) = absurd why
short_head a b stops.NotWritten (given, few, taken, why) = absurd why
short_head a b stops.TooMany (given, few, taken, why) = absurd why

-- the head came, and fewer bytes than it says
pub short_bytes : (a b c : Option (List ℕ)) (head : List ℕ) (n : ℕ) (stop : Stop) → length head ≡ 4 → big_number 4 head ≡ n → n ≤ 16777216 → Consumes a b head → IsFewer n b c stop
    → (rest : List ℕ) × Consumes a c rest × IsRest rest c stop
short_bytes a b c head n stops.Cut four number most first (given, few, taken, end) =
    let m : big_number 4 head ≤ 16777216 = subst (λ k. k ≤ 16777216) (sym number) most in
    let f : length given < big_number 4 head = subst (λ k. length given < k) (sym number) few in
    (head ++ given, Consumes-trans a b c head given first taken, (head, given, refl, inr (four, m, f), end))
short_bytes a b c head n stops.ReadFailed four number most first (given, few, taken, why) = (head ++ given, Consumes-trans a b c head given first taken, tt)
short_bytes a b c head n stops.OutOfMemory four number most first (given, few, taken, why) = (head ++ given, Consumes-trans a b c head given first taken, tt)
short_bytes a b c head n stops.NoRandom four number most first (given, few, taken, why) = absurd why
short_bytes a b c head n stops.NoKind four number most first (given, few, taken, why) = absurd why
short_bytes a b c head n stops.TooLong four number most first (given, few, taken, why) = absurd why
short_bytes a b c head n stops.NotWritten four number most first (given, few, taken, why) = absurd why
short_bytes a b c head n stops.TooMany four number most first (given, few, taken, why) = absurd why

pub taken_bytes : {Z : Type 0} (a b c : Option (List ℕ)) (head : List ℕ) (n : ℕ) (r : Result (Vec ℕ Z) Stop) → length head ≡ 4 → big_number 4 head ≡ n → n ≤ 16777216 → Consumes a b head
    → IfOk r (λ v. (length v.items ≡ n) × Consumes b c v.items) → IfErr r (IsFewer n b c) → TakesBytes a c r
taken_bytes a b c head n (Ok v) four number most first all fewer =
    let (long, taken) = all in
    (head, four, number ∙ sym long, subst (λ k. k ≤ 16777216) (sym long) most, Consumes-trans a b c head v.items first taken)
taken_bytes a b c head n (Err stop) four number most first all fewer = short_bytes a b c head n stop four number most first fewer

-- a letter, and then the rest of a message that did not come whole
pub broken_behind : (a b c : Option (List ℕ)) (kind : Kind) (rest : List ℕ) (stop : Stop) → Consumes a b (letter kind ∷ []) → Consumes b c rest → IsRest rest c stop
    → (all : List ℕ) × Consumes a c all × IsBroken stop all c
broken_behind a b c kind rest stops.Cut first taken (head, bytes, is, short, end) =
    (letter kind ∷ rest, Consumes-trans a b c (letter kind ∷ []) rest first taken, ((kind, head, bytes, ap (λ r. letter kind ∷ r) is, short), end))
broken_behind a b c kind rest stops.TooLong first taken (four, more) =
    (letter kind ∷ rest, Consumes-trans a b c (letter kind ∷ []) rest first taken, (kind, rest, refl, four, more))
broken_behind a b c kind rest stops.ReadFailed first taken why = (letter kind ∷ rest, Consumes-trans a b c (letter kind ∷ []) rest first taken, tt)
broken_behind a b c kind rest stops.OutOfMemory first taken why = (letter kind ∷ rest, Consumes-trans a b c (letter kind ∷ []) rest first taken, tt)
broken_behind a b c kind rest stops.NoRandom first taken why = absurd why
broken_behind a b c kind rest stops.NoKind first taken why = absurd why
broken_behind a b c kind rest stops.NotWritten first taken why = absurd why
broken_behind a b c kind rest stops.TooMany first taken why = absurd why

-- a letter, and then the rest of a message that came whole
pub whole_behind : (a b c : Option (List ℕ)) (kind : Kind) (head bytes : List ℕ) → length head ≡ 4 → big_number 4 head ≡ length bytes → length bytes ≤ 16777216 → Consumes a b (letter kind ∷ []) → Consumes b c (head ++ bytes)
    → (f : MessageFact) × IsWhole f × (f.kind ≡ kind) × (f.bytes ≡ bytes) × Consumes a c (message_bytes f)
whole_behind a b c kind head bytes four number most first taken = (
  record { kind = kind; head = head; bytes = bytes },
  record { four = four; number = number; most = most },
  refl,
  refl,
  Consumes-trans a b c (letter kind ∷ []) (head ++ bytes) first taken,
)

-- the first byte of a message is the letter of its kind
pub first_letter : (a b : Option (List ℕ)) (o : Option ℕ) (byte : ℕ) (kind : Kind) → TakesFirst a b (Ok o) → o ≡ Some byte → letter kind ≡ byte → Consumes a b (letter kind ∷ [])
first_letter a b o byte kind taken is same =
    let some : TakesFirst a b (Ok (Some byte)) = subst (λ (x : Option ℕ). TakesFirst a b (Ok x)) is taken in
    subst (λ n. Consumes a b (n ∷ [])) (sym same) some
