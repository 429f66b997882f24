-- Items of the stack, and the places of forms that they fit.
use Rattle.std.proofs.Common.{◌≡◌, ◌∙◌, ℕ, zero, suc, ◌+◌, ◌<◌, ◌&&◌, Bool, true, false, if◌then◌else◌, List, [], ◌∷◌, ◌++◌, Option, Some, None, Result, drop, map, length, get_or, slice_get, refl, sym, ap, ap₂, arith}
use Rattle.std.specs.Prelude.{option_map}
use Rattle.std.proofs.lemmas.List.{drop_more, drop_all, map-append}
use Rattle.std.proofs.lemmas.Option.{slice_get-map, slice_get_within, get_or_from_slice_get}
use Rattle.classfile.specs.Methods.{Method}
use Rattle.hierarchy.specs.Answer.{yes}
use Rattle.hierarchy.proofs.Names.{none_some, some_same}
use Rattle.insn.specs.Meanings.{Act}
use Rattle.insn.specs.declared.stack.StackOperator.TheVariants.{Dup}
use Rattle.insn.specs.declared.stack.StackPlace.{StackPlace}
use Rattle.insn.specs.declared.stack.StackPlace.TheVariants.{Narrow}
use Rattle.insn.specs.Operators.{StackForm, stack_forms}
use Rattle.insn.specs.OperandStacks.{beneath, chosen, with_item, rearranged}
use Rattle.frames.specs.VerificationType.{VerificationType, top}
use Rattle.frames.specs.FrameFact.{FrameFact}
use Rattle.frames.proofs.Units.{units_least}
use Rattle.type_numbers.specs.Numbers.{Numbering, IsNumber, IsGiven}
use Rattle.type_numbers.specs.Decoding.{type_by, types_by}
use Rattle.type_numbers.proofs.Decoded.{number_read}
use Rattle.method_frames.specs.NumberedFrames.{NumberedFrames}
use Rattle.rules.specs.declared.reason.Reason.{Reason}
use Rattle.rules.specs.TypingRules.{rearranges}
use Rattle.rules.specs.After.{after, fits_place, fits_places, is_narrow}
use Rattle.rules.specs.Rules.{conditions}
use Rattle.rules.specs.Outcomes.{Done, pushed, settled}
use Rattle.rules.proofs.Settling.{moves_done}
use Rattle.numbered_rules.specs.RunningFrame.{held}

-- ---- places from one on

pub place_none : (ps : List StackPlace) (ts : List VerificationType) (i : ℕ) → i < length ps → slice_get ts i ≡ None → fits_places (drop i ps) (drop i ts) ≡ false
place_none [] ts i lt e = absurd (omega (arith, lt))
place_none (p ∷ ps) [] zero lt e = refl
place_none (p ∷ ps) (t ∷ ts) zero lt e = absurd (none_some (sym e))
place_none (p ∷ ps) [] (suc i) lt e =
    ap (fits_places (drop i ps)) (drop_all (suc i) [] (omega arith) ∙ sym (drop_all i [] (omega arith))) ∙ place_none ps [] i (omega (arith, lt)) refl
place_none (p ∷ ps) (t ∷ ts) (suc i) lt e = place_none ps ts i (omega (arith, lt)) e

pub place_some : (ps : List StackPlace) (ts : List VerificationType) (i : ℕ) (d : StackPlace) (t : VerificationType) → i < length ps → slice_get ts i ≡ Some t
    → fits_places (drop i ps) (drop i ts) ≡ (fits_place (get_or ps i d) t && fits_places (drop (i + 1) ps) (drop (i + 1) ts))
place_some ps ts i d t lt e =
    (λ j. fits_places (drop_more ps i d lt j) (drop_more ts i top (slice_get_within ts i t e) j))
    ∙ ap (λ u. fits_place (get_or ps i d) u && fits_places (drop (i + 1) ps) (drop (i + 1) ts)) (get_or_from_slice_get ts i t top e)

pub typed_item : (s : Numbering) (row : List ℕ) (i : ℕ) (o : Option ℕ) → o ≡ slice_get row i → slice_get (types_by s row) i ≡ option_map (type_by s) o
typed_item s row i o e = slice_get-map (type_by s) row i ∙ ap (option_map (type_by s)) (sym e)

-- an item whose place is looked at
pub place_item : (s : Numbering) (ps : List StackPlace) (row : List ℕ) (i : ℕ) (d : StackPlace) (n : ℕ) (b : Bool) → i < length ps → Some n ≡ slice_get row i → IsGiven s n
    → ((v : Numbering) (t : VerificationType) → IsNumber v n t → b ≡ fits_place (get_or ps i d) t) → fits_places ps (types_by s row) ≡ fits_places (drop i ps) (drop i (types_by s row))
    → fits_places ps (types_by s row) ≡ (b && fits_places (drop (i + 1) ps) (drop (i + 1) (types_by s row)))
place_item s ps row i d n b lt e g h so_far =
    so_far ∙ place_some ps (types_by s row) i d (type_by s n) lt (typed_item s row i (Some n) e)
    ∙ ap (λ x. x && fits_places (drop (i + 1) ps) (drop (i + 1) (types_by s row))) (ap (fits_place (get_or ps i d)) (number_read s n g.0 g.1) ∙ sym (h s g.0 g.1))

-- ---- items as a form leaves them

module _ {A B : Type 0} (f : A → B) where
  map_beneath : {P : Type 0} (ps : List P) (xs : List A) → map f (beneath ps xs) ≡ beneath ps (map f xs)
  map_beneath [] xs = refl
  map_beneath (p ∷ ps) [] = refl
  map_beneath (p ∷ ps) (x ∷ xs) = map_beneath ps xs

  map_with : (o : Option A) (xs : List A) → map f (with_item o xs) ≡ with_item (option_map f o) (map f xs)
  map_with None xs = refl
  map_with (Some x) xs = refl

  map_chosen : (xs : List A) (ns : List ℕ) → map f (chosen xs ns) ≡ chosen (map f xs) ns
  map_chosen xs [] = refl
  map_chosen xs (n ∷ ns) = map_with (slice_get xs n) (chosen xs ns) ∙ ap₂ with_item (sym (slice_get-map f xs n)) (map_chosen xs ns)

  pub map_rearranged : (form : StackForm) (xs : List A) → map f (rearranged form xs) ≡ rearranged form (map f xs)
  map_rearranged form xs = map-append f (chosen xs form.leaves) (beneath form.takes xs) ∙ ap₂ (λ (a b : List B). a ++ b) (map_chosen xs form.leaves) (map_beneath form.takes xs)

-- ---- dup

module _ (m : Method Act) (x : NumberedFrames) (n : ℕ) (e : Some n ≡ slice_get x.running.stack 0) (narrow : is_narrow (type_by x.types n) ≡ true) where
  abbrev dup_form : StackForm
  dup_form = record { takes = Narrow ∷ []; leaves = 0 ∷ 0 ∷ [] }

  on_top : (ns : List ℕ) → Some n ≡ slice_get ns 0 → types_by x.types ns ≡ type_by x.types n ∷ drop 1 (types_by x.types ns)
  on_top [] h = absurd (none_some (sym h))
  on_top (k ∷ ns) h = ap (λ i. type_by x.types i ∷ types_by x.types ns) (sym (some_same h))

  top_is : (held x).stack ≡ type_by x.types n ∷ drop 1 (held x).stack
  top_is = on_top x.running.stack e

  pub dup_done : (now : FrameFact) (r : Result Unit Reason) → let f = held x in let g = pushed (type_by x.types n ∷ []) f in
      Done (settled m yes g) g now r → Done (conditions x.types.classes m 0 (rearranges (stack_forms Dup)) f) (after m 0 (rearranges (stack_forms Dup)) f) now r
  dup_done now r d =
      let t = type_by x.types n in
      let us = drop 1 (held x).stack in
      let fits : fits_places (Narrow ∷ []) (held x).stack ≡ true = ap (fits_places (Narrow ∷ [])) top_is ∙ ap (λ b. b && true) narrow in
      let long = ap length top_is in
      moves_done x.types.classes m (stack_forms Dup) (held x) dup_form (t ∷ (held x).stack) now r (omega (arith, long, units_least (held x).stack))
      (ap (λ b. if b then Some dup_form else None) fits)
      (ap (λ ts. t ∷ ts) top_is ∙ sym (ap (rearranged dup_form) top_is))
      d
