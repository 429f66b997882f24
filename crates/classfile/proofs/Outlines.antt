-- Lemmas that the steps of reading an outline share.
use Rattle.std.proofs.Common.{◌≡◌, ℕ, suc, ◌+◌, ◌-◌, ◌<◌, ◌≤◌, List, Result, Ok, Err, Option, refl, subst, arith}
use Rattle.std.proofs.Common.{Bool, true, false}
use Rattle.std.proofs.lemmas.Bool.{eq-eqb, eqb-true, eqb-false, ne_eqb}
use Rattle.std.specs.Prelude.{nat_eq}
use Rattle.layout.specs.Format.{Format, andthen}
use Rattle.layout.specs.Streams.{whole, Led, Streams}
use Rattle.layout.specs.StreamLaws.{then_led, stops_on, stops_behind, then_streams, led_nothing, led_refused}
use Rattle.layout.specs.declared.fault.StreamFault.{StreamFault}
use Rattle.classfile.specs.Outline.{repeated, indexed, constants}

-- the first of two steps stopped
pub streams_on : {X Y V W : Type 0} (f : Format V) (next : V → Format W) (view : X → V) (made : Y → W) (a b : List ℕ) (q r : Option (List ℕ)) (e : StreamFault)
    → Streams f view a b q r (Err e) → Streams (andthen f next) made a b q r (Err e)
streams_on f next view made a b q r e h = (h.0, stops_on f next a b q r e.why h.1)

-- the second one stopped
pub behind_streams : {V W : Type 0} (f : Format V) (next : V → Format W) (v : V) (a b c : List ℕ) (q r s : Option (List ℕ)) (e : StreamFault)
    → Led f (whole v) a b q r → Streams {X = W} (next v) (λ x. x) b c r s (Err e) → Streams {X = W} (andthen f next) (λ x. x) a c q s (Err e)
behind_streams f next v a b c q r s e h t = (t.0, stops_behind f next v a b c q r s e.why h t.1)

-- The format that is still to be read leads from here on to what the whole one leads to from the start.
abbrev pub Continues : {V : Type 0} → Format V → Format V → List ℕ → List ℕ → Option (List ℕ) → Option (List ℕ) → Type 0
Continues {V = V} rest all here start now before =
    (there : List ℕ) (after : Option (List ℕ)) (result : Result V StreamFault) → Streams rest (λ x. x) here there now after result → Streams all (λ x. x) start there before after result

pub ruleset steps = (then_led, then_streams, stops_on, stops_behind, streams_on, led_nothing, led_refused)

-- ---- a step of a loop

on : {V W : Type 0} (f : Format V) (next : V → Format W) (all : Format W) (v : V) (here there start : List ℕ) (now left before : Option (List ℕ))
    → Continues (andthen f next) all here start now before → Led f (whole v) here there now left → Continues (next v) all there start left before
on f next all v here there start now left before go led = λ end after result rest. go end after result (then_streams f next (λ x. x) v here there end now left after result led rest)

stop : {X V W : Type 0} (f : Format V) (next : V → Format W) (all : Format W) (view : X → V) (here there start : List ℕ) (now left before : Option (List ℕ)) (e : StreamFault)
    → Continues (andthen f next) all here start now before → Streams f view here there now left (Err e) → Streams all (λ x. x) start there before left (Err e)
stop {W = W} f next all view here there start now left before e go stopped =
    let at : Streams {X = W} (andthen f next) (λ x. x) here there now left (Err e) = streams_on f next view (λ x. x) here there now left e stopped in
    go there left (Err e) at

from_start : {V : Type 0} (f : Format V) (a : List ℕ) (q : Option (List ℕ)) → Continues f f a a q q
from_start f a q = λ there after result h. h

-- so many of the same, of which i were read
pub repeated_start : {V : Type 0} (f : Format V) (n : ℕ) (a : List ℕ) (q : Option (List ℕ)) → Continues (repeated (n - 0) f) (repeated n f) a a q q
repeated_start f n a q = let none : n ≡ n - 0 = omega arith in subst (λ (k : ℕ). Continues (repeated k f) (repeated n f) a a q q) none (from_start (repeated n f) a q)

pub repeated_on : {V : Type 0} (f : Format V) (n i : ℕ) (v : V) (here there start : List ℕ) (now left before : Option (List ℕ)) → i < n
    → Continues (repeated (n - i) f) (repeated n f) here start now before → Led f (whole v) here there now left
    → Continues (repeated (n - (i + 1)) f) (repeated n f) there start left before
unfolding repeated
repeated_on f n i v here there start now left before lt go led =
    let is : n - i ≡ suc (n - (i + 1)) = omega arith in
    on f (λ skipped. repeated (n - (i + 1)) f) (repeated n f) v here there start now left before
    (subst (λ (k : ℕ). Continues (repeated k f) (repeated n f) here start now before) is go) led

pub repeated_stop : {X V : Type 0} (f : Format V) (view : X → V) (n i : ℕ) (here there start : List ℕ) (now left before : Option (List ℕ)) (e : StreamFault) → i < n
    → Continues (repeated (n - i) f) (repeated n f) here start now before → Streams f view here there now left (Err e)
    → Streams {X = Unit {0}} (repeated n f) (λ x. x) start there before left (Err e)
unfolding repeated
repeated_stop f view n i here there start now left before e lt go stopped =
    let is : n - i ≡ suc (n - (i + 1)) = omega arith in
    stop f (λ skipped. repeated (n - (i + 1)) f) (repeated n f) view here there start now left before e
    (subst (λ (k : ℕ). Continues (repeated k f) (repeated n f) here start now before) is go) stopped

pub repeated_end : {V : Type 0} (f : Format V) (n i : ℕ) (here start : List ℕ) (now before : Option (List ℕ)) → n ≤ i
    → Continues (repeated (n - i) f) (repeated n f) here start now before → Led (repeated n f) (whole tt) start here before now
unfolding repeated
repeated_end f n i here start now before le go =
    let is : n - i ≡ 0 = omega arith in
    let last = subst (λ (k : ℕ). Continues (repeated k f) (repeated n f) here start now before) is go in
    last here now (Ok tt) (led_nothing tt here now)

-- ---- the constants, of whose indices i were read

pub at_last : (n i : ℕ) → i < n → nat_eq (i + 1) n ≡ nat_eq (n - (i + 1)) 0
at_last n i lt = by_test (nat_eq (n - (i + 1)) 0) refl
  where
    by_test : (b : Bool) → nat_eq (n - (i + 1)) 0 ≡ b → nat_eq (i + 1) n ≡ b
    by_test true e = eq-eqb _ _ (let h = eqb-true _ _ e in omega (arith, h))
    by_test false e = ne_eqb _ _ (λ same. let h = eqb-false _ _ e in h (omega (arith, same)))

pub constants_start : (n : ℕ) (a : List ℕ) (q : Option (List ℕ)) → Continues (constants (n - 0) false) (constants n false) a a q q
constants_start n a q = let none : n ≡ n - 0 = omega arith in subst (λ (k : ℕ). Continues (constants k false) (constants n false) a a q q) none (from_start (constants n false) a q)

pub constants_on : (n i : ℕ) (second next : Bool) (here there start : List ℕ) (now left before : Option (List ℕ)) → i < n
    → Continues (constants (n - i) second) (constants n false) here start now before → Led (indexed second (nat_eq (i + 1) n)) (whole next) here there now left
    → Continues (constants (n - (i + 1)) next) (constants n false) there start left before
unfolding constants
constants_on n i second next here there start now left before lt go led =
    let is : n - i ≡ suc (n - (i + 1)) = omega arith in
    on (indexed second (nat_eq (n - (i + 1)) 0)) (λ (more : Bool). constants (n - (i + 1)) more) (constants n false) next here there start now left before
    (subst (λ (k : ℕ). Continues (constants k second) (constants n false) here start now before) is go)
    (subst (λ (b : Bool). Led (indexed second b) (whole next) here there now left) (at_last n i lt) led)

pub constants_stop : (n i : ℕ) (second : Bool) (here there start : List ℕ) (now left before : Option (List ℕ)) (e : StreamFault) → i < n
    → Continues (constants (n - i) second) (constants n false) here start now before → Streams {X = Bool} (indexed second (nat_eq (i + 1) n)) (λ x. x) here there now left (Err e)
    → Streams {X = Unit {0}} (constants n false) (λ x. x) start there before left (Err e)
unfolding constants
constants_stop n i second here there start now left before e lt go stopped =
    let is : n - i ≡ suc (n - (i + 1)) = omega arith in
    stop (indexed second (nat_eq (n - (i + 1)) 0)) (λ (more : Bool). constants (n - (i + 1)) more) (constants n false) (λ x. x) here there start now left before e
    (subst (λ (k : ℕ). Continues (constants k second) (constants n false) here start now before) is go)
    (subst (λ (b : Bool). Streams {X = Bool} (indexed second b) (λ x. x) here there now left (Err e)) (at_last n i lt) stopped)

pub constants_end : (n i : ℕ) (second : Bool) (here start : List ℕ) (now before : Option (List ℕ)) → n ≤ i
    → Continues (constants (n - i) second) (constants n false) here start now before → Led (constants n false) (whole tt) start here before now
unfolding constants
constants_end n i second here start now before le go =
    let is : n - i ≡ 0 = omega arith in
    let last = subst (λ (k : ℕ). Continues (constants k second) (constants n false) here start now before) is go in
    last here now (Ok tt) (led_nothing tt here now)
