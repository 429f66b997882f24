use Rattle.std.proofs.Common.{◌≡◌, ◌<◌, List, ℕ, ◌⊎◌, length, inl, inr, arith}
use Rattle.layout.specs.Streams.{Progress, whole, partial, refused, IsDecided, IsPartial}
use Rattle.layout.specs.StreamLaws.{leads_spells, spells_leads, one_lead, decided_or_partial}
use Rattle.layout.proofs.laws.streams_are_decided.Goals as goal

not_partial : {V : Type 0} (q : Progress V) → IsDecided q → IsPartial q → ⊥
not_partial (whole v) d h = h
not_partial (partial at) d h = d
not_partial (refused e) d h = h

one_of : {V : Type 0} (a b : List ℕ) (p q : Progress V) → IsDecided q → ((a ≡ b) × (p ≡ q)) ⊎ ((length b < length a) × IsPartial q) → (a ≡ b) × (p ≡ q)
one_of a b p q d (inl h) = h
one_of a b p q d (inr h) = absurd (not_partial q d h.1)

pub returns-clause-spelled : goal.returns-clause-spelled
returns-clause-spelled g c f given v s = let i = leads_spells f 0 given v s in (i.0, let le = i.1 (omega arith) in omega (arith, le))

pub returns-clause-whole : goal.returns-clause-whole
returns-clause-whole g c f given v s le = spells_leads f 0 given v s (omega (arith, le))

pub returns-clause-one : goal.returns-clause-one
returns-clause-one g c f a b x y p q d e same s t = one_of a b p q e (one_lead f 0 a b x y p q d same s t)

pub returns-clause-either : goal.returns-clause-either
returns-clause-either g c f stream = decided_or_partial f 0 stream
