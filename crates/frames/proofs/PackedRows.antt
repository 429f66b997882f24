-- The places of two packed frames: what their slots decide.
use Rattle.std.proofs.Common.{◌≡◌, ◌∙◌, ℕ, ◌+◌, ◌<◌, ◌≤◌, Some, drop, length, slice_get, get_or, List, refl, sym, subst, inl, arith, false}
use lib.Lanes.{chunk}
use Rattle.blocks.specs.Lanes.{is_decided_by, AreDecidedLanes}
use Rattle.hierarchy.specs.Class.{ClassFact}
use Rattle.hierarchy.specs.Answer.{Outcome, yes, no}
use Rattle.frames.specs.declared.packed_frame.Packed.{Packed}
use Rattle.frames.specs.FrameFact.{frame_of}
use Rattle.frames.specs.FrameAssignable.{both, frame_answer}
use Rattle.frames.specs.Meaning.{IsAlike}
use Rattle.frames.specs.Packing.{absent_slot}
use Rattle.frames.specs.PackedFrames.{IsPacked, place_answers, joined}
use Rattle.frames.specs.Undecided.{is_undecided}
use Rattle.frames.proofs.Frames.{alike_answer, one_frame_answer}
use Rattle.frames.proofs.SlotRows.{decided_on}
use Rattle.frames.proofs.PlaceAnswers.{os_length, row_length, decided_yes, walk_on, walk_over, walk_no, walk_end}

pub not_alike : (h : List ClassFact) (p q : Packed) → (IsAlike (frame_of p.frame) (frame_of q.frame) → ⊥) → no ≡ frame_answer h (frame_of p.frame) (frame_of q.frame)
not_alike h p q k = (one_frame_answer h (frame_of p.frame) (frame_of q.frame) no).0 (inl k)

module _ (h : List ClassFact) (p q : Packed) (first : IsPacked h p) (second : IsPacked h q) (alike : IsAlike (frame_of p.frame) (frame_of q.frame)) where
  abbrev os : List Outcome
  os = place_answers h p q

  abbrev a : List ℕ
  a = p.slots.items

  abbrev b : List ℕ
  b = q.slots.items

  pub begun : joined os ≡ both yes (joined (drop 0 os))
  begun = refl

  pub whole : frame_answer h (frame_of p.frame) (frame_of q.frame) ≡ joined os
  whole = alike_answer h (frame_of p.frame) (frame_of q.frame) alike

  answers_length : length os ≡ length a
  answers_length = os_length h p.frame q.frame alike ∙ sym (row_length h p.frame q.frame alike a b first second)

  at_decided : (k : ℕ) → k < length a → is_undecided (get_or a k 0) (get_or b k 0) ≡ false → slice_get os k ≡ Some yes
  at_decided = decided_yes h p.frame q.frame alike a b first second

  module _ (r : Outcome) (at : ℕ) (so_far : joined os ≡ both r (joined (drop at os))) where
    -- past slots that lanes decide
    pub past : (n : ℕ) → at + 8 ≤ length a → AreDecidedLanes (is_decided_by absent_slot false) (chunk at 8 a) (chunk at 8 b) 8 n → joined os ≡ both r (joined (drop (at + n) os))
    past n room lanes =
        let few = lanes.few in
        walk_over os r at so_far n (λ j from to. at_decided j (omega (arith, few, to, room)) (decided_on a b at n lanes at (λ k from_k to_k. absurd (omega (arith, from_k, to_k))) j from to))

    -- past one slot
    pub past_one : at < length a → is_undecided (get_or a at 0) (get_or b at 0) ≡ false → joined os ≡ both r (joined (drop (at + 1) os))
    past_one lt e = walk_over os r at so_far 1 (λ j from to. let same : at ≡ j = omega (arith, from, to) in subst (λ k. slice_get os k ≡ Some yes) same (at_decided at lt e))

    pub past_answer : (s : Outcome) → slice_get os at ≡ Some s → joined os ≡ both (both r s) (joined (drop (at + 1) os))
    past_answer s e = walk_on os r at so_far s e

    pub at_no : slice_get os at ≡ Some no → no ≡ frame_answer h (frame_of p.frame) (frame_of q.frame)
    at_no e = walk_no os r at so_far e ∙ sym whole

    pub at_end : length a ≤ at → r ≡ frame_answer h (frame_of p.frame) (frame_of q.frame)
    at_end le = let long = answers_length in walk_end os r at so_far (omega (arith, long, le)) ∙ sym whole
