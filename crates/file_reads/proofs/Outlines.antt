-- Steps that pass parts of an outline.
use Rattle.std.proofs.Common.{◌≡◌, ◌∙◌, ℕ, zero, suc, ◌+◌, ◌-◌, ◌*◌, ◌<◌, ◌≤◌, Bool, true, false, List, [], ◌∷◌, ◌++◌, length, take, drop, Option, Some, None, refl, sym, ap, subst, append_assoc, arith}
use Rattle.std.proofs.lemmas.Bool.{eq-eqb, eqb-true, eqb-false, ne_eqb}
use Rattle.std.proofs.lemmas.List.{take-append-drop, append-nil, length-take}
use Rattle.std.specs.Prelude.{nat_eq, if◌then◌else◌, IfSome}
use Rattle.byteorder.specs.Endian.{big_number}
use Rattle.layout.specs.Format.{Format, done, refuse, andthen, number, Spells}
use Rattle.layout.specs.FormatLaws.{andthen_spelled}
use Rattle.layout.specs.declared.fault.ReadFault.TheVariants.{BadMagic, BadPoolCount}
use Rattle.classfile.specs.Outline.{bytes, repeated, indexed, constants, pool, numbers, attribute, head}
use Rattle.file_reads.specs.private.Passing.{Passes, Skips}

-- one part after another
pub passes_then : {V W : Type 0} (f : Format V) (next : V → Format W) (a b c : List ℕ) (v : V) (w : W) → Passes f a b v → Passes (next v) b c w → Passes (andthen f next) a c w
passes_then f next a b c v w one more = record {
  front = one.front ++ more.front;
  parts = one.parts ∙ ap (λ (l : List ℕ). one.front ++ l) more.parts ∙ sym (append_assoc one.front more.front c);
  spelled = andthen_spelled f next one.front more.front v w one.spelled more.spelled;
}

-- a part, and what the last call of a function passed behind it
pub and_last : {X V : Type 0} (now : X → List ℕ) (f : Format V) (next : V → Format (Unit {0})) (a b : List ℕ) (v : V) (r : Option X)
    → Passes f a b v → IfSome r (λ x. Skips (next v) b (now x)) → IfSome r (λ x. Skips (andthen f next) a (now x))
and_last now f next a b v (Some x) one last = passes_then f next a b (now x) v tt one last
and_last now f next a b v None one last = tt

-- nothing is passed
pub passes_done : {V : Type 0} (v : V) (a : List ℕ) → Passes (done v) a a v
passes_done v a = record { front = []; parts = refl; spelled = (refl, refl) }

-- ---- parts of which the length is known

length_front : (n : ℕ) (given : List ℕ) → n ≤ length given → length (take n given) ≡ n
length_front n given le = omega (arith, length-take n given)

pub in_front : {V : Type 0} (f : Format V) (n : ℕ) (given : List ℕ) (v : V) → Spells f (take n given) v → Passes f given (drop n given) v
in_front f n given v spelled = record { front = take n given; parts = sym (take-append-drop n given); spelled = spelled }

number_in_front : (n : ℕ) (given : List ℕ) → n ≤ length given → Passes (number n) given (drop n given) (big_number n (take n given))
number_in_front n given le = in_front (number n) n given (big_number n (take n given)) (take n given, [], length_front n given le, sym (append-nil (take n given)), (refl, refl))

pub bytes_in_front : (n : ℕ) (given : List ℕ) → n ≤ length given → Skips (bytes n) given (drop n given)
bytes_in_front n given le = in_front (bytes n) n given tt (take n given, [], length_front n given le, sym (append-nil (take n given)), (refl, refl))

-- a number that was split off
pub number_front : (n : ℕ) (given front rest : List ℕ) (v : ℕ) → n ≤ length given → front ≡ take n given → rest ≡ drop n given → v ≡ big_number n front
    → Passes (number n) given rest v
number_front n given front rest v le first others is =
    let value : big_number n (take n given) ≡ v = sym (is ∙ ap (big_number n) first) in
    subst (λ (b : List ℕ). Passes (number n) given b v) (sym others) (subst (Passes (number n) given (drop n given)) value (number_in_front n given le))

-- the four bytes of the magic number were split off, and what the last call passed behind them
pub magic_front : {X : Type 0} (now : X → List ℕ) (given front rest : List ℕ) (v : ℕ) (r : Option X) → 4 ≤ length given → front ≡ take 4 given → rest ≡ drop 4 given
    → v ≡ big_number 4 front → v ≡ 0xCAFEBABE → IfSome r (λ x. Skips (numbers 2) rest (now x)) → IfSome r (λ x. Skips head given (now x))
unfolding head
magic_front now given front rest v r le first others value is last =
    let magic : Passes (number 4) given rest 0xCAFEBABE = subst (Passes (number 4) given rest) is (number_front 4 given front rest v le first others value) in
    and_last now (number 4) (λ it. if nat_eq it 0xCAFEBABE then numbers 2 else refuse (λ at. BadMagic)) given rest 0xCAFEBABE r magic last

-- the count of a constant pool, and what the last call passed behind it
pub pool_front : {X : Type 0} (now : X → List ℕ) (given rest : List ℕ) (count : ℕ) (r : Option X) → Passes (number 2) given rest count → (count ≡ 0 → ⊥)
    → IfSome r (λ x. Skips (constants (count - 1) false) rest (now x)) → IfSome r (λ x. Skips pool given (now x))
unfolding pool
pool_front now given rest count r one some last =
    let next : ℕ → Format (Unit {0}) = λ n. if nat_eq n 0 then refuse (λ at. BadPoolCount (at - 2)) else constants (n - 1) false in
    let is : next count ≡ constants (count - 1) false = rw (ne_eqb count 0 some) refl in
    and_last now (number 2) next given rest count r one (subst (λ (f : Format (Unit {0})). IfSome r (λ x. Skips f rest (now x))) (sym is) last)

-- ---- so many of the same, of which i were passed

-- Where the rest is skipped from here, all is skipped from the start.
abbrev pub Continues : Format (Unit {0}) → Format (Unit {0}) → (here start : List ℕ) → Type 0
Continues rest all here start = (behind : List ℕ) → Skips rest here behind → Skips all start behind

pub pass_on : {V : Type 0} (f : Format V) (all : Format (Unit {0})) (count i : ℕ) (v : V) (start here there : List ℕ)
    → i < count → Passes f here there v → Continues (repeated (count - i) f) all here start
    → Continues (repeated (count - (i + 1)) f) all there start
unfolding repeated
pass_on f all count i v start here there lt passed go = λ behind rest.
    let is : count - i ≡ suc (count - (i + 1)) = omega arith in
    let next = passes_then f (λ skipped. repeated (count - (i + 1)) f) here there behind v tt passed rest in
    go behind (subst (λ (k : ℕ). Skips (repeated k f) here behind) (sym is) next)

pub pass_end : {V : Type 0} (f : Format V) (all : Format (Unit {0})) (count i : ℕ) (start here : List ℕ)
    → count ≤ i → Continues (repeated (count - i) f) all here start → Skips all start here
unfolding repeated
pass_end f all count i start here le go =
    let is : count - i ≡ 0 = omega arith in
    go here (subst (λ (k : ℕ). Skips (repeated k f) here here) (sym is) (passes_done tt here))

-- ---- the constants, of whose indices i were passed

at_last : (n i : ℕ) → i < n → nat_eq (i + 1) n ≡ nat_eq (n - (i + 1)) 0
at_last n i lt = by_test (nat_eq (n - (i + 1)) 0) refl
  where
    by_test : (b : Bool) → nat_eq (n - (i + 1)) 0 ≡ b → nat_eq (i + 1) n ≡ b
    by_test true e = eq-eqb _ _ (let h = eqb-true _ _ e in omega (arith, h))
    by_test false e = ne_eqb _ _ (λ same. let h = eqb-false _ _ e in h (omega (arith, same)))

pub constants_on : (all : Format (Unit {0})) (count i : ℕ) (second next : Bool) (start here there : List ℕ)
    → i < count → Passes (indexed second (nat_eq (i + 1) count)) here there next → Continues (constants (count - i) second) all here start
    → Continues (constants (count - (i + 1)) next) all there start
unfolding constants
constants_on all count i second next start here there lt passed go = λ behind rest.
    let is : count - i ≡ suc (count - (i + 1)) = omega arith in
    let after : Bool → Format (Unit {0}) = λ more. constants (count - (i + 1)) more in
    let one = subst (λ (b : Bool). Passes (indexed second b) here there next) (at_last count i lt) passed in
    let more = passes_then (indexed second (nat_eq (count - (i + 1)) 0)) after here there behind next tt one rest in
    go behind (subst (λ (k : ℕ). Skips (constants k second) here behind) (sym is) more)

pub constants_end : (all : Format (Unit {0})) (count i : ℕ) (second : Bool) (start here : List ℕ)
    → count ≤ i → Continues (constants (count - i) second) all here start → Skips all start here
unfolding constants
constants_end all count i second start here le go =
    let is : count - i ≡ 0 = omega arith in
    go here (subst (λ (k : ℕ). Skips (constants k second) here here) (sym is) (passes_done tt here))

-- ---- numbers, and an attribute

numbers_spelled : (n : ℕ) (front : List ℕ) → length front ≡ 2 * n → Spells (numbers n) front tt
unfolding numbers repeated
numbers_spelled zero [] len = (refl, refl)
numbers_spelled (suc n) (a ∷ b ∷ front) len =
    andthen_spelled (number 2) (λ skipped. repeated n (number 2)) (a ∷ b ∷ []) front (big_number 2 (a ∷ b ∷ [])) tt
    (a ∷ b ∷ [], [], refl, refl, (refl, refl)) (numbers_spelled n front (omega (arith, len)))
numbers_spelled zero (a ∷ front) len = absurd (omega (arith, len))
numbers_spelled (suc n) [] len = absurd (omega (arith, len))
numbers_spelled (suc n) (a ∷ []) len = absurd (omega (arith, len))

pub numbers_front : (n : ℕ) (given : List ℕ) → 2 * n ≤ length given → Skips (numbers n) given (drop (2 * n) given)
numbers_front n given le = in_front (numbers n) (2 * n) given tt (numbers_spelled n (take (2 * n) given) (length_front (2 * n) given le))

-- an attribute: its first six bytes were split off
pub attribute_front : (given front rest : List ℕ) (v : ℕ) → 6 ≤ length given → front ≡ take 6 given → rest ≡ drop 6 given
    → v ≡ big_number 4 (take (length front - 2) (drop 2 front)) → v ≤ length rest → Skips attribute given (drop v rest)
unfolding attribute
attribute_front (a ∷ b ∷ c ∷ d ∷ e ∷ f ∷ given) front rest v le first others is within =
    let length_is : v ≡ big_number 4 (c ∷ d ∷ e ∷ f ∷ []) = subst (λ (l : List ℕ). v ≡ big_number 4 (take (length l - 2) (drop 2 l))) first is in
    let name = number_in_front 2 (a ∷ b ∷ c ∷ d ∷ e ∷ f ∷ given) (omega arith) in
    let size = number_front 4 (c ∷ d ∷ e ∷ f ∷ given) (c ∷ d ∷ e ∷ f ∷ []) rest v (omega arith) refl others length_is in
    let body = passes_then (number 4) bytes (c ∷ d ∷ e ∷ f ∷ given) rest (drop v rest) v tt size (bytes_in_front v rest within) in
    passes_then (number 2) (λ skipped. andthen (number 4) bytes) (a ∷ b ∷ c ∷ d ∷ e ∷ f ∷ given) (c ∷ d ∷ e ∷ f ∷ given) (drop v rest) _ tt name body
attribute_front [] front rest v le first others is within = absurd (omega (arith, le))
attribute_front (a ∷ []) front rest v le first others is within = absurd (omega (arith, le))
attribute_front (a ∷ b ∷ []) front rest v le first others is within = absurd (omega (arith, le))
attribute_front (a ∷ b ∷ c ∷ []) front rest v le first others is within = absurd (omega (arith, le))
attribute_front (a ∷ b ∷ c ∷ d ∷ []) front rest v le first others is within = absurd (omega (arith, le))
attribute_front (a ∷ b ∷ c ∷ d ∷ e ∷ []) front rest v le first others is within = absurd (omega (arith, le))
