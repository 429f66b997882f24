use Rattle.std.proofs.Common.{◌≡◌, ◌≢◌, ◌∙◌, ℕ, ◌<◌, get_or, true, sym, ap, arith, ◌⊎◌, inl, inr}
use Rattle.std.proofs.lemmas.Bool.{true≢false}
use Rattle.std.proofs.lemmas.Bool.Decides.{nat_tests}
use Rattle.method_frames.specs.private.Holders.{is_among, key_of}
use Rattle.method_frames.proofs.Among.{holds_at, holds_none}
use Rattle.method_frames.proofs.items.has_listed.Goals as goal

pub returns-then-numbers-place : goal.returns-then-numbers-place
returns-then-numbers-place c =
    sym (holds_at c.args.object c.args.numbers.now c.place_in-place.result (omega (arith, c.if-place-numbers.true)) (grind (arith, nat_tests, c.if-numbers-place.true)))

pub returns : goal.returns
returns c = sym (holds_none c.args.object c.args.numbers.now (λ i. none i (c.loop-key.invariant i)))
  where
    none : (i : ℕ) → (get_or c.args.numbers.now i 0 ≢ c.args.object) ⊎ ((is_among c.loop-key.key-iterator (key_of c.args.object i) ≡ true) × (i < 4294967296)) → get_or c.args.numbers.now i 0 ≢ c.args.object
    none i (inl ne) = ne
    none i (inr a) = absurd (true≢false (sym a.0 ∙ ap (λ rest. is_among rest (key_of c.args.object i)) c.in-None.ensures.steps.0))
