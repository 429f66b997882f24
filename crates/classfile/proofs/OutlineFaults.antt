-- A stream has an outline in front or a fault, and not both; what read_class says of its reader is said of the stream.
use Rattle.std.proofs.Common.{◌≡◌, ◌<◌, ℕ, List, [], ◌++◌, length, refl, sym, ap, subst, ◌∙◌, Option, Some, None, inl, inr, ◌⊎◌, arith}
use Rattle.std.proofs.lemmas.List.{append-nil, length-append}
use Rattle.layout.specs.Streams.{Progress, whole, partial, refused, Leads, IsDecided, IsPartial}
use Rattle.layout.specs.StreamLaws.{one_lead, decided_or_partial}
use Rattle.layout.specs.declared.fault.ReadFault.{ReadFault}
use Rattle.layout.specs.declared.fault.ReadFault.TheVariants.{OutOfMemory, EndsEarly, ReadFailed}
use Rattle.std.specs.Prelude.{IfSome}
use Rattle.std.specs.Io.KnownBytes.{Consumes}
use Rattle.classfile.specs.Outline.{outline, IsOutline, OutlineFault, GivesUp, Stopped, IsLostOr}

abbrev all : Progress (Unit {0})
all = whole tt

abbrev from : ℕ → Progress (Unit {0})
from at = partial at

same_outline : (a b : List ℕ) (q : Progress (Unit {0})) → IsDecided q → ((a ≡ b) × (whole tt ≡ q)) ⊎ ((length b < length a) × IsPartial q) → (a ≡ b) × (whole tt ≡ q)
same_outline a b q d (inl h) = h
same_outline a b (whole v) d (inr h) = absurd h.1
same_outline a b (partial at) d (inr h) = absurd d
same_outline a b (refused e) d (inr h) = absurd h.1

pub one_outline : (a b x y : List ℕ) → a ++ x ≡ b ++ y → IsOutline a → IsOutline b → a ≡ b
one_outline a b x y same s t = (same_outline a b (whole tt) tt (one_lead outline 0 a b x y (whole tt) (whole tt) tt same s t)).0

pub no_fault_behind : (front rest : List ℕ) (e : ReadFault) → IsOutline front → OutlineFault (front ++ rest) e → ⊥
no_fault_behind front rest e s (inl (other, more, parts, t)) =
    let same = (same_outline front other (refused e) tt (one_lead outline 0 front other rest more (whole tt) (refused e) tt parts s t)).1 in cc
no_fault_behind front rest e s (inr (at, is, t)) = by_case (one_lead outline 0 front (front ++ rest) rest [] (whole tt) (partial at) tt (sym (append-nil (front ++ rest))) s t)
  where
    by_case : ((front ≡ front ++ rest) × (all ≡ from at)) ⊎ ((length (front ++ rest) < length front) × IsPartial (from at)) → ⊥
    by_case (inl h) = let wrong = h.1 in cc
    by_case (inr h) = let less = h.0 in omega (arith, less, length-append front rest)

abbrev Either : List ℕ → Type 0
Either stream = ((front : List ℕ) × (rest : List ℕ) × (stream ≡ front ++ rest) × IsOutline front) ⊎ ((e : ReadFault) × OutlineFault stream e)

pub outline_or_fault : (stream : List ℕ) → Either stream
outline_or_fault stream = by_case (decided_or_partial outline 0 stream)
  where
    by_front : (front rest : List ℕ) (p : Progress (Unit {0})) → stream ≡ front ++ rest → IsDecided p → Leads outline 0 front p → Either stream
    by_front front rest (whole v) is d s = inl (front, rest, is, s)
    by_front front rest (partial at) is d s = absurd d
    by_front front rest (refused e) is d s = inr (e, inl (front, rest, is, s))

    by_case : ((front : List ℕ) × (rest : List ℕ) × (p : Progress (Unit {0})) × (stream ≡ front ++ rest) × IsDecided p × Leads outline 0 front p) ⊎ ((at : ℕ) × Leads outline 0 stream (partial at)) → Either stream
    by_case (inl h) = by_front h.0 h.1 h.2 h.3 h.4 h.5
    by_case (inr h) = inr (EndsEarly h.0, inr (h.0, refl, h.1))

-- what was taken was in front of the stream
front_of : (stream given : List ℕ) (after : Option (List ℕ)) → Consumes (Some stream) after given → (rest : List ℕ) × (after ≡ Some rest) × (stream ≡ given ++ rest)
front_of stream given None h = absurd h
front_of stream given (Some rest) h = (rest, refl, h)

pub stopped_faults : (stream given : List ℕ) (after : Option (List ℕ)) (e : ReadFault) → Consumes (Some stream) after given → GivesUp given after e → IsLostOr (OutlineFault stream) e
stopped_faults stream given after OutOfMemory h g = tt
stopped_faults stream given after (ReadFailed at) h g = tt
stopped_faults stream given None (EndsEarly at) h g = absurd h
stopped_faults stream given (Some rest) (EndsEarly at) h g =
    let all : given ≡ stream = sym (h ∙ ap (λ (t : List ℕ). given ++ t) g.1 ∙ append-nil given) in
    inr (at, refl, subst (λ (t : List ℕ). Leads outline 0 t (partial at)) all g.0)
stopped_faults stream given after e h g = let f = front_of stream given after h in inl (given, f.0, f.2, g)

pub known_faults : (before after : Option (List ℕ)) (given : List ℕ) (why : ReadFault) → Stopped before after given why
    → IfSome before (λ stream. IsLostOr (OutlineFault stream) why)
known_faults None after given why s = tt
known_faults (Some stream) after given why s = stopped_faults stream given after why s.consumed s.gives_up
