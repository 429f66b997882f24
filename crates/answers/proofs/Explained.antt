-- Explanations of methods, one after the other.
use Rattle.std.proofs.Common.{◌≡◌, ◌<◌, ◌≤◌, ◌+◌, ℕ, List, [], ◌∷◌, ◌++◌, map, length, drop, slice_index_or, refl, ◌∙◌, ap, inl, inr, arith}
use Rattle.std.specs.Prelude.{◌⊎◌, min, Option}
use Rattle.std.proofs.lemmas.Bool.{cases_order}
use Rattle.std.proofs.lemmas.List.{at_drop_more, drop_all}
use Rattle.classfile.specs.Methods.{code_of}
use Rattle.classfile.specs.Values.{CodeBody, Member}
use Rattle.verify.specs.declared.report.MethodVerdict.{MethodVerdict}
use Rattle.verify.specs.declared.frames_at.FramesAt.{FramesAt}
use Rattle.verify.specs.Coming.{FramesFact, frames_view}
use Rattle.answers.specs.Explanations.{explanations}

module _ {X : Type 0} (view : X → Member) (said : MethodVerdict → Option CodeBody → FramesFact → List ℕ) where
  abbrev pub left : List X → List MethodVerdict → List FramesAt → ℕ → List ℕ
  left ms rs xs i = explanations said (map view (drop i ms)) (drop i rs) (drop i xs)

  abbrev pub one : X → MethodVerdict → FramesAt → List ℕ
  one m r x = said r (code_of (view m).attributes) (frames_view x)

  -- that of the method at i, in front of those after it
  pub explained_left : (ms : List X) (rs : List MethodVerdict) (xs : List FramesAt) (i : ℕ) (m : X) (r : MethodVerdict) (x : FramesAt)
      → i < length ms → i < length rs → i < length xs
      → left ms rs xs i ≡ one (slice_index_or ms i m) (slice_index_or rs i r) (slice_index_or xs i x) ++ left ms rs xs (i + 1)
  explained_left ms rs xs i m r x lt less few =
      at_drop_more (λ l. explanations said (map view l) (drop i rs) (drop i xs)) ms i m lt
      ∙ at_drop_more (λ l. explanations said (map view (slice_index_or ms i m ∷ drop (i + 1) ms)) l (drop i xs)) rs i r less
      ∙ at_drop_more (λ l. explanations said (map view (slice_index_or ms i m ∷ drop (i + 1) ms)) (slice_index_or rs i r ∷ drop (i + 1) rs) l) xs i x few

  without_verdicts : (ms : List X) (xs : List FramesAt) → explanations said (map view ms) [] xs ≡ []
  without_verdicts [] xs = refl
  without_verdicts (m ∷ ms) xs = refl

  without_frames : (ms : List X) (rs : List MethodVerdict) → explanations said (map view ms) rs [] ≡ []
  without_frames [] rs = refl
  without_frames (m ∷ ms) [] = refl
  without_frames (m ∷ ms) (r ∷ rs) = refl

  -- none is left where one of the lists is at its end
  pub none_left : (ms : List X) (rs : List MethodVerdict) (xs : List FramesAt) (i : ℕ) → min (min (length ms) (length rs)) (length xs) ≤ i → left ms rs xs i ≡ []
  none_left ms rs xs i le = by (cases_order (length ms) i)
    where
      at_members : length ms ≤ i → left ms rs xs i ≡ []
      at_members past = ap (λ l. explanations said (map view l) (drop i rs) (drop i xs)) (drop_all i ms past)

      at_verdicts : length rs ≤ i → left ms rs xs i ≡ []
      at_verdicts past = ap (λ l. explanations said (map view (drop i ms)) l (drop i xs)) (drop_all i rs past) ∙ without_verdicts (drop i ms) (drop i xs)

      by_verdicts : i < length ms → (length rs ≡ i) ⊎ ((length rs < i) ⊎ (i < length rs)) → left ms rs xs i ≡ []
      by_verdicts lt (inl e) = at_verdicts (omega (arith, e))
      by_verdicts lt (inr (inl less)) = at_verdicts (omega (arith, less))
      by_verdicts lt (inr (inr less)) =
          let past : length xs ≤ i = omega (arith, lt, less, le) in
          ap (λ l. explanations said (map view (drop i ms)) (drop i rs) l) (drop_all i xs past) ∙ without_frames (drop i ms) (drop i rs)

      by : (length ms ≡ i) ⊎ ((length ms < i) ⊎ (i < length ms)) → left ms rs xs i ≡ []
      by (inl e) = at_members (omega (arith, e))
      by (inr (inl lt)) = at_members (omega (arith, lt))
      by (inr (inr lt)) = by_verdicts lt (cases_order (length rs) i)
