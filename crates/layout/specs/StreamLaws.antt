-- Words of the code's own steps: nothing that a reader must believe rests on them. One step of reading from a stream
-- after another, then what follows from `Leads` for every format.
use Rattle.std.proofs.Common.{◌≡◌, ℕ, ◌+◌, ◌≤◌, ◌<◌, List, [], ◌++◌, length, Result, Ok, Err, Option, refl, sym, ap, subst, ◌∙◌, append_assoc, arith, inl, inr, ◌⊎◌}
use Rattle.std.proofs.Common.{Bool, true, false, ltb, take, drop}
use Rattle.std.proofs.lemmas.Bool.{ltb-true, ltb-false}
use Rattle.std.proofs.lemmas.List.{length-append, append-nil, take_at, drop_at, take-append-drop, length-take-le}
use Rattle.std.specs.Io.KnownBytes.{Consumes}
use Rattle.std.proofs.KnownBytes.{Consumes-trans, Consumes-nil}
use Rattle.layout.specs.Format.{Format, done, part, refuse, andthen, Spells}
use Rattle.layout.specs.Streams.{Progress, whole, partial, refused, Leads, Led, Stops, Streams, Gives, IsDecided, IsPartial}
use Rattle.layout.specs.declared.fault.ReadFault.{ReadFault}
use Rattle.layout.specs.declared.fault.ReadFault.TheVariants.{OutOfMemory, EndsEarly, TooLong, ReadFailed}
use Rattle.layout.specs.declared.fault.StreamFault.{StreamFault}
use Rattle.layout.specs.declared.limits.TheConstants.{MAX_CLASS_BYTES}

same_value : {V : Type 0} (v w : V) → whole v ≡ whole w → v ≡ w
same_value v w e = cc

-- ---- one format after another

leads_behind : {V W : Type 0} (f : Format V) (next : V → Format W) (at : ℕ) (a b : List ℕ) (v : V) (p : Progress W)
    → Leads f at a (whole v) → Leads (next v) (at + length a) b p → Leads (andthen f next) at (a ++ b) p
leads_behind {V = V} {W = W} (done w) next at a b v p s t =
    let is : v ≡ w = same_value v w s.1 in
    let front : a ++ b ≡ b = ap (λ (x : List ℕ). x ++ b) s.0 in
    let place : at + length a ≡ at = let none = ap length s.0 in omega (arith, none) in
    subst (λ (x : List ℕ). Leads (next w) at x p) (sym front)
    (subst (λ (k : ℕ). Leads (next w) k b p) place (subst (λ (x : V). Leads (next x) (at + length a) b p) is t))
leads_behind (part n after) next at a b v p (inl s) t = absurd (let wrong = s.2 in cc)
leads_behind (part n after) next at a b v p (inr (inl s)) t = absurd (let wrong = s.2 in cc)
leads_behind (part n after) next at a b v p (inr (inr (le, first, others, len, is, s))) t =
    let place : at + length a ≡ (at + n) + length others = let e = ap length is in
    omega (arith, e, length-append first others, len) in
    inr (inr (
      le,
      first,
      others ++ b,
      len,
      ap (λ (x : List ℕ). x ++ b) is ∙ append_assoc first others b,
      leads_behind (after first) next (at + n) others b v p s (subst (λ (k : ℕ). Leads (next v) k b p) place t),
    ))
leads_behind (refuse fault) next at a b v p s t = absurd (let wrong = s.1 in cc)

partial_on : {V W : Type 0} (f : Format V) (next : V → Format W) (at from : ℕ) (a : List ℕ)
    → Leads f at a (partial from) → Leads (andthen f next) at a (partial from)
partial_on (done w) next at from a s = absurd (let wrong = s.1 in cc)
partial_on (part n after) next at from a (inl s) = absurd (let wrong = s.2 in cc)
partial_on {W = W} (part n after) next at from a (inr (inl s)) = inr (inl (s.0, s.1, let e = s.2 in cc))
partial_on (part n after) next at from a (inr (inr (le, first, others, len, is, s))) =
    inr (inr (le, first, others, len, is, partial_on (after first) next (at + n) from others s))
partial_on (refuse fault) next at from a s = absurd (let wrong = s.1 in cc)

refused_on : {V W : Type 0} (f : Format V) (next : V → Format W) (at : ℕ) (a : List ℕ) (e : ReadFault)
    → Leads f at a (refused e) → Leads (andthen f next) at a (refused e)
refused_on (done w) next at a e s = absurd (let wrong = s.1 in cc)
refused_on (part n after) next at a e (inl s) = inl (s.0, s.1, let h = s.2 in cc)
refused_on (part n after) next at a e (inr (inl s)) = absurd (let wrong = s.2 in cc)
refused_on (part n after) next at a e (inr (inr (le, first, others, len, is, s))) =
    inr (inr (le, first, others, len, is, refused_on (after first) next (at + n) others e s))
refused_on (refuse fault) next at a e s = (s.0, let h = s.1 in cc)

-- ---- one step after another

pub then_led : {V W : Type 0} (f : Format V) (next : V → Format W) (v : V) (p : Progress W) (a b c : List ℕ)
    (q r s : Option (List ℕ))
    → Led f (whole v) a b q r → Led (next v) p b c r s → Led (andthen f next) p a c q s
then_led f next v p a b c q r s x y =
    let place : length b ≡ length a + length x.given = ap length x.held ∙ length-append a x.given in
    record {
      given = x.given ++ y.given;
      held = y.held ∙ ap (λ (t : List ℕ). t ++ y.given) x.held ∙ append_assoc a x.given y.given;
      consumed = Consumes-trans q r s x.given y.given x.consumed y.consumed;
      leads = leads_behind f next (length a) x.given y.given v p x.leads
          (subst (λ (k : ℕ). Leads (next v) k y.given p) place y.leads);
    }

partial_led : {V W : Type 0} (f : Format V) (next : V → Format W) (from : ℕ) (a b : List ℕ) (q r : Option (List ℕ))
    → Led f (partial from) a b q r → Led (andthen f next) (partial from) a b q r
partial_led f next from a b q r x =
    record {
      given = x.given;
      held = x.held;
      consumed = x.consumed;
      leads =
          partial_on f next (length a) from x.given x.leads;
    }

refused_led : {V W : Type 0} (f : Format V) (next : V → Format W) (e : ReadFault) (a b : List ℕ) (q r : Option (List ℕ))
    → Led f (refused e) a b q r → Led (andthen f next) (refused e) a b q r
refused_led f next e a b q r x =
    record {
      given = x.given;
      held = x.held;
      consumed = x.consumed;
      leads =
          refused_on f next (length a) x.given e x.leads;
    }

-- the first of two steps stopped
pub stops_on : {V W : Type 0} (f : Format V) (next : V → Format W) (a b : List ℕ) (q r : Option (List ℕ))
    (why : ReadFault) → Stops f a b q r why → Stops (andthen f next) a b q r why
stops_on f next a b q r OutOfMemory x = (x.0, partial_led f next x.0 a b q r x.1)
stops_on f next a b q r (ReadFailed at) x = (x.0, x.1, partial_led f next x.1 a b q r x.2)
stops_on f next a b q r (EndsEarly at) x = (partial_led f next at a b q r x.0, x.1)
stops_on f next a b q r e x = refused_led f next e a b q r x

-- the second one stopped
pub stops_behind : {V W : Type 0} (f : Format V) (next : V → Format W) (v : V) (a b c : List ℕ)
    (q r s : Option (List ℕ)) (why : ReadFault)
    → Led f (whole v) a b q r → Stops (next v) b c r s why → Stops (andthen f next) a c q s why
stops_behind f next v a b c q r s OutOfMemory x y = (y.0, then_led f next v (partial y.0) a b c q r s x y.1)
stops_behind f next v a b c q r s (ReadFailed at) x y = (y.0, y.1, then_led f next v (partial y.1) a b c q r s x y.2)
stops_behind f next v a b c q r s (EndsEarly at) x y = (then_led f next v (partial at) a b c q r s x y.0, y.1)
stops_behind f next v a b c q r s e x y = then_led f next v (refused e) a b c q r s x y

-- whatever the second one answers
pub then_streams : {X V W : Type 0} (f : Format V) (next : V → Format W) (view : X → W) (v : V) (a b c : List ℕ)
    (q r s : Option (List ℕ)) (result : Result X StreamFault)
    → Led f (whole v) a b q r → Streams (next v) view b c r s result → Streams (andthen f next) view a c q s result
then_streams f next view v a b c q r s (Ok x) h t = then_led f next v (whole (view x)) a b c q r s h t
then_streams f next view v a b c q r s (Err e) h t = (t.0, stops_behind f next v a b c q r s e.why h t.1)

-- nothing was wanted
pub led_nothing : {V : Type 0} (v : V) (a : List ℕ) (q : Option (List ℕ)) → Led (done v) (whole v) a a q q
led_nothing v a q = record { given = []; held = sym (append-nil a); consumed = Consumes-nil q; leads = (refl, refl) }

-- a step that is refused before it reads
pub led_refused : {V : Type 0} (fault : ℕ → ReadFault) (a : List ℕ) (q : Option (List ℕ))
    → Led {V = V} (refuse fault) (refused (fault (length a))) a a q q
led_refused fault a q = record {
  given = [];
  held = sym (append-nil a);
  consumed = Consumes-nil q;
  leads =
      (refl, refl);
}

-- a part was asked for in pieces, and one of them was not given
pub part_stops : (n k left : ℕ) (old mid new given : List ℕ) (before now after : Option (List ℕ)) (e : StreamFault)
    → length old + n ≤ MAX_CLASS_BYTES → mid ≡ old ++ given → Consumes before now given → length given + left ≡ n
    → 0 < left → k ≤ left
    → Gives k mid new now after (Err e) → (e.taken ≡ length new) × Stops (part n done) old new before after e.why
part_stops n k left old mid new given before now after e le held consumed sum some small (taken, more, gave, why) =
    (taken, stops e.why why)
  where
    all : List ℕ
    all = given ++ more

    led : length more < left → Led (part n done) (partial (length old)) old new before after
    led few = record {
      given = all;
      held = gave.held ∙ ap (λ (t : List ℕ). t ++ more) held ∙ append_assoc old given more;
      consumed = Consumes-trans before now after given more consumed gave.consumed;
      leads = inr (inl (le, omega (arith, length-append given more, sum, few), refl));
    }

    stops : (w : ReadFault) → ((w ≡ OutOfMemory) × (more ≡ [])) ⊎ ((w ≡ ReadFailed (length new)) × (length more < k))
        → Stops (part n done) old new before after w
    stops w (inl (is, none)) = let short = led (let e = ap length none in omega (arith, e, some)) in
        rw is (length old, short)
    stops w (inr (is, few)) = let short = led (omega (arith, few, small)) in rw is (refl, length old, short)

-- ---- what follows from `Leads`

-- bytes that lead to the end are a spelling within the limit
pub leads_spells : {V : Type 0} (f : Format V) (at : ℕ) (given : List ℕ) (v : V) → Leads f at given (whole v)
    → Spells f given v × (at ≤ MAX_CLASS_BYTES → at + length given ≤ MAX_CLASS_BYTES)
leads_spells (done w) at given v s =
    ((s.0, sym (same_value v w s.1)), λ le. let none = ap length s.0 in omega (arith, none, le))
leads_spells (part n next) at given v (inl s) = absurd (let wrong = s.2 in cc)
leads_spells (part n next) at given v (inr (inl s)) = absurd (let wrong = s.2 in cc)
leads_spells (part n next) at given v (inr (inr (le, first, others, len, is, s))) =
    let i = leads_spells (next first) (at + n) others v s in (
      (first, others, len, is, i.0),
      λ from. let rest = i.1 le in let e = ap length is in
          omega (arith, e, length-append first others, len, rest),
    )
leads_spells (refuse fault) at given v s = absurd (let wrong = s.1 in cc)

-- a spelling within the limit leads to the end
pub spells_leads : {V : Type 0} (f : Format V) (at : ℕ) (given : List ℕ) (v : V) → Spells f given v
    → at + length given ≤ MAX_CLASS_BYTES → Leads f at given (whole v)
spells_leads (done w) at given v s le = (s.0, ap whole (sym s.1))
spells_leads (part n next) at given v (first, others, len, is, s) le =
    let e = ap length is in
    let long = length-append first others in
    inr (inr (
      omega (arith, e, long, len, le),
      first,
      others,
      len,
      is,
      spells_leads (next first) (at + n) others v s (omega (arith, e, long, len, le)),
    ))
spells_leads (refuse fault) at given v s le = absurd s

-- the same lists, in front and after
same_parts : (a b x y : List ℕ) (n : ℕ) → length a ≡ n → length b ≡ n → a ++ x ≡ b ++ y → (a ≡ b) × (x ≡ y)
same_parts a b x y n la lb e = (
  sym (take_at a x n la) ∙ ap (take n) e ∙ take_at b y n lb,
  sym (drop_at a x n la) ∙ ap (drop n) e
      ∙ drop_at b y n lb,
)

-- One front of a stream alone decides; fronts that leave it open are shorter.
pub one_lead : {V : Type 0} (f : Format V) (at : ℕ) (a b x y : List ℕ) (p q : Progress V) → IsDecided p
    → a ++ x ≡ b ++ y → Leads f at a p → Leads f at b q
    → ((a ≡ b) × (p ≡ q)) ⊎ ((length b < length a) × IsPartial q)
one_lead (done w) at a b x y p q d e s t = inl (s.0 ∙ sym t.0, s.1 ∙ sym t.1)
one_lead (part n next) at a b x y p q d e (inl s) (inl t) = inl (s.1 ∙ sym t.1, s.2 ∙ sym t.2)
one_lead (part n next) at a b x y p q d e (inl s) (inr (inl t)) = absurd (omega (arith, s.0, t.0))
one_lead (part n next) at a b x y p q d e (inl s) (inr (inr t)) = absurd (omega (arith, s.0, t.0))
one_lead (part n next) at a b x y p q d e (inr (inl s)) t = absurd (subst IsDecided s.2 d)
one_lead (part n next) at a b x y p q d e (inr (inr s)) (inl t) = absurd (omega (arith, s.0, t.0))
one_lead (part n next) at a b x y p q d e (inr (inr (le, first, others, len, is, s))) (inr (inl t)) =
    inr (let h = ap length is in omega (arith, h, length-append first others, len, t.1), subst IsPartial (sym t.2) tt)
one_lead {V = V} (part n next) at a b x y p q d e (inr (inr (le, first, others, len, is, s)))
    (inr (inr (also, second, rest, long, same, t))) =
    let whole_stream : first ++ (others ++ x) ≡ second ++ (rest ++ y) =
    sym (append_assoc first others x) ∙ sym (ap (λ (l : List ℕ). l ++ x) is) ∙ e ∙ ap (λ (l : List ℕ). l ++ y) same
    ∙ append_assoc second rest y in
    let parts = same_parts first second (others ++ x) (rest ++ y) n len long whole_stream in
    joined (one_lead (next first) (at + n) others rest x y p q d parts.1 s
    (subst (λ (l : List ℕ). Leads (next l) (at + n) rest q) (sym parts.0) t)) parts.0
  where
    joined : ((others ≡ rest) × (p ≡ q)) ⊎ ((length rest < length others) × IsPartial q) → first ≡ second
        → ((a ≡ b) × (p ≡ q)) ⊎ ((length b < length a) × IsPartial q)
    joined (inl h) k = inl (
      is ∙ ap (λ (l : List ℕ). l ++ others) k ∙ ap (λ (l : List ℕ). second ++ l) h.0 ∙ sym same,
      h.1,
    )
    joined (inr h) k = inr (
      let u = ap length is in let v = ap length same in
          omega (arith, u, v, length-append first others, length-append second rest, len, long, h.0),
      h.1,
    )
one_lead (refuse fault) at a b x y p q d e s t = inl (s.0 ∙ sym t.0, s.1 ∙ sym t.1)

-- Every stream has a front that decides, or is too short.
pub decided_or_partial : {V : Type 0} (f : Format V) (at : ℕ) (stream : List ℕ)
    → ((front : List ℕ) × (rest : List ℕ) × (p : Progress V) × (stream ≡ front ++ rest) × IsDecided p
    × Leads f at front p) ⊎ ((from : ℕ) × Leads f at stream (partial from))
decided_or_partial (done w) at stream = inl ([], stream, whole w, refl, tt, (refl, refl))
decided_or_partial {V = V} (part n next) at stream =
    by_limit (ltb MAX_CLASS_BYTES (at + n)) refl (decided_or_partial (next (take n stream)) (at + n) (drop n stream))
  where
    Found : Type 0
    Found = ((front : List ℕ) × (rest : List ℕ) × (p : Progress V) × (stream ≡ front ++ rest) × IsDecided p
        × Leads (part n next) at front p) ⊎ ((from : ℕ) × Leads (part n next) at stream (partial from))

    Again : Type 0
    Again = ((front : List ℕ) × (rest : List ℕ) × (p : Progress V) × (drop n stream ≡ front ++ rest) × IsDecided p
        × Leads (next (take n stream)) (at + n) front p)
        ⊎ ((from : ℕ) × Leads (next (take n stream)) (at + n) (drop n stream) (partial from))

    on : at + n ≤ MAX_CLASS_BYTES → n ≤ length stream → Again → Found
    on le long (inl (front, rest, p, is, d, s)) =
        let first = take n stream in
        inl (
          first ++ front,
          rest,
          p,
          sym (take-append-drop n stream) ∙ ap (λ (l : List ℕ). first ++ l) is ∙ sym (append_assoc first front rest),
          d,
          inr (inr (le, first, front, length-take-le n stream long, refl, s)),
        )
    on le long (inr (from, s)) = inr (
      from,
      inr (inr (
        le,
        take n stream,
        drop n stream,
        length-take-le n stream long,
        sym (take-append-drop n stream),
        s,
      )),
    )

    by_length : at + n ≤ MAX_CLASS_BYTES → (b : Bool) → ltb (length stream) n ≡ b → Again → Found
    by_length le true t again = inr (at, inr (inl (le, ltb-true _ _ t, refl)))
    by_length le false t again = on le (ltb-false _ _ t) again

    by_limit : (b : Bool) → ltb MAX_CLASS_BYTES (at + n) ≡ b → Again → Found
    by_limit true t again = inl ([], stream, refused (TooLong at), refl, tt, inl (ltb-true _ _ t, refl, refl))
    by_limit false t again = by_length (ltb-false _ _ t) (ltb (length stream) n) refl again
decided_or_partial (refuse fault) at stream = inl ([], stream, refused (fault at), refl, tt, (refl, refl))
