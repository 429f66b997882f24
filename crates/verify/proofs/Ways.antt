-- The first difference on a list of ways to declared frames.
use Rattle.std.proofs.Common.{◌≡◌, ◌∙◌, ℕ, zero, suc, ◌+◌, ◌≤◌, ◌<◌, ℤ, pos, true, false, true≢false, is_some, List, [], ◌∷◌, length, Option, Some, None, option_map, refl, sym, ap, subst, inl, inr, arith}
use Rattle.std.specs.Prelude.{◌≢◌, All, Contains, IfSome}
use Rattle.std.specs.Option.{option_or}
use Rattle.std.specs.List.Sorted.{IsPermutation}
use Rattle.std.proofs.lemmas.List.{length-map}
use Rattle.std.proofs.lemmas.List.Elements.{All-nil, All-cons, All-head, All-tail, All-contains, All-weaker}
use Rattle.std.proofs.lemmas.List.Sorted.{All-permutation, Contains-permutation, IsPermutation-sym}
use Rattle.hierarchy.specs.Class.{ClassFact}
use Rattle.classfile.specs.Methods.{ExceptionEntry}
use Rattle.insn.specs.Offsets.{at_offset}
use Rattle.frames.specs.FrameFact.{FrameFact}
use Rattle.frames.specs.FrameAssignable.{frame_answer}
use Rattle.frames.specs.Slots.{to_reference}
use Rattle.frames.specs.Differences.{DifferenceFact, is_sought}
use Rattle.frames.specs.declared.difference.Sought.{Sought}
use Rattle.frames.specs.declared.difference.Sought.TheVariants.{No, Missing}
use Rattle.frames.proofs.Differences as differing
use Rattle.frames.proofs.Differences.{missing_is_some}
use Rattle.type_numbers.specs.Decoding.{type_by}
use Rattle.type_numbers.proofs.Decoded.{number_read}
use Rattle.method_frames.specs.NumberedFrames.{NumberedFrames, frame_by, declared_frame}
use Rattle.method_frames.specs.MapFrames.{frames_by}
use Rattle.numbered_rules.specs.RunningFrame.{held}
use Rattle.rules.specs.After.{with_stack}
use Rattle.verify.specs.TypeSafety.{caught_frame}
use Rattle.verify.specs.DifferencesAt.{DifferenceAtFact, sought_difference, placed, from_declared, at_target, at_targets, at_handler, at_handlers}
use Rattle.verify.specs.declared.difference_at.Way.{Way}
use Rattle.verify.specs.declared.pass.exceptions.Entry.{Entry}
use Rattle.verify.specs.private.Ways.{IsWay, IsWayIf, IsPassed, IsAlikeBefore, FindsUnlike, IsFirstUnlike, difference_if, first_of_ways, led_frame, way_difference, with_places}
use Rattle.verify.specs.private.pass.Exceptions.{IsEntryBy}
use Rattle.verify.specs.private.pass.Finding.{IsFound}
use Rattle.verify.proofs.numbered.Following.{begun_covers}

-- the answer is sought exactly where a place is found
sought_is_some : (s : Sought) (classes : List ClassFact) (f g : FrameFact) → length f.locals ≡ length g.locals
    → is_sought s (frame_answer classes f g) ≡ is_some (sought_difference s classes f g)
sought_is_some No classes f g even = differing.no_difference classes f g even
sought_is_some Missing classes f g even = missing_is_some classes f g even

some_placed : (at : ℕ) (o : Option DifferenceFact) → is_some (placed at o) ≡ is_some o
some_placed at None = refl
some_placed at (Some d) = refl

pub none_there : {A : Type 0} (o : Option A) → is_some o ≡ false → o ≡ None
none_there None e = refl
none_there (Some x) e = absurd (true≢false e)

pub some_there : {A : Type 0} (o : Option A) → is_some o ≡ true → o ≢ None
some_there o e n = absurd (true≢false (sym (sym (ap is_some n) ∙ e)))

-- ---- one way

module _ (s : Sought) (x : NumberedFrames) where
  -- the answer for a way is sought exactly where there is a difference
  pub way_is_some : (w : Way) → length (declared_frame x w.frame).locals ≡ length x.running.locals
      → is_sought s (frame_answer x.types.classes (led_frame x w.caught) (frame_by x.types (declared_frame x w.frame))) ≡ is_some (way_difference s x w)
  way_is_some w even =
      sought_is_some s x.types.classes (led_frame x w.caught) (frame_by x.types (declared_frame x w.frame))
      (as_long w.caught ∙ sym even ∙ sym (length-map (declared_frame x w.frame).locals (type_by x.types)))
      ∙ sym (some_placed w.at (sought_difference s x.types.classes (led_frame x w.caught) (frame_by x.types (declared_frame x w.frame))))
    where
      as_long : (caught : Option ℕ) → length (led_frame x caught).locals ≡ length x.running.locals
      as_long None = length-map x.running.locals (type_by x.types)
      as_long (Some n) = length-map x.running.locals (type_by x.types)

  -- the handler of an entry
  module _ (at : ℕ) (e : ExceptionEntry) (y : Entry) (is : IsEntryBy x.types e y) where
    pub handler_is : (w : Way) → y.from ≤ at → at < y.to → IsFound x.types x.declared (pos y.handler) w.frame → w.at ≡ y.handler → w.caught ≡ Some y.caught
        → at_handler s x.types.classes (frames_by x.types x.declared) at (held x) e ≡ way_difference s x w
    handler_is w begun lasts found there alone =
        let covered = begun_covers e at (omega (arith, is.from, begun)) (omega (arith, is.to, lasts)) in
        let declared : FrameFact = frame_by x.types (declared_frame x w.frame) in
        rw covered (ap (from_declared s x.types.classes (caught_frame e (held x)) e.handler) (ap (at_offset (frames_by x.types x.declared)) (sym is.handler) ∙ found.place.declared)
        ∙ ap (λ k. from_declared s x.types.classes (caught_frame e (held x)) k (Some declared)) (sym is.handler ∙ sym there)
        ∙ ap (λ t. from_declared s x.types.classes (with_stack (held x) (t ∷ [])) w.at (Some declared)) (sym (number_read x.types y.caught (to_reference e.caught) is.caught))
        ∙ ap (λ caught. from_declared s x.types.classes (led_frame x caught) w.at (Some declared)) (sym alone))

-- a way that is passed over has no difference in front of the end
pub passed_alike : (s : Sought) (x : NumberedFrames) (alike end : ℕ) (last : Option Way) (w : ℕ × Way) → IfSome last (λ (l : Way). way_difference s x l ≡ None)
    → IsAlikeBefore s x alike w → IsPassed alike end last w → IsAlikeBefore s x end w
passed_alike s x alike end last w none before (inl front) lt = before front
passed_alike s x alike end last w none before (inr (inl behind)) lt = absurd (omega (arith, lt, behind))
passed_alike s x alike end last w none before (inr (inr same)) lt = subst (λ (o : Option Way). IfSome o (λ (l : Way). way_difference s x l ≡ None)) same none

-- ---- many ways

-- the first of two, where there is one
first_is : {A : Type 0} (a b : Option A) → a ≢ None → option_or a b ≡ a
first_is None b n = absurd (n refl)
first_is (Some x) b n = refl

second_is : {A : Type 0} (a b : Option A) → a ≡ None → option_or a b ≡ b
second_is a b e = rw e refl

some_more : {A B : Type 0} (g : A → B) (o : Option A) → o ≢ None → option_map g o ≢ None
some_more g None n = absurd (n refl)
some_more g (Some x) n = λ e. cc

abbrev pub no_way : ℕ × Way
no_way = (0, record { at = 0; frame = 0; caught = None })

-- the places are those of the list
pub within : (place : ℕ) (ws : List (Option Way)) → All (λ (w : ℕ × Way). (place ≤ w.0) × (w.0 < place + length ws)) (with_places place ws)
within place [] = All-nil (λ (w : ℕ × Way). (place ≤ w.0) × (w.0 < place + 0))
within place (None ∷ ws) =
    All-weaker (λ (w : ℕ × Way). (suc place ≤ w.0) × (w.0 < suc place + length ws)) (λ (w : ℕ × Way). (place ≤ w.0) × (w.0 < place + suc (length ws)))
    (λ w k. (omega (arith, k.0), omega (arith, k.1))) (with_places (suc place) ws) (within (suc place) ws)
within place (Some w ∷ ws) =
    All-cons (λ (w : ℕ × Way). (place ≤ w.0) × (w.0 < place + suc (length ws))) (place, w) (with_places (suc place) ws) (omega arith, omega arith)
    (All-weaker (λ (w : ℕ × Way). (suc place ≤ w.0) × (w.0 < suc place + length ws)) (λ (w : ℕ × Way). (place ≤ w.0) × (w.0 < place + suc (length ws)))
    (λ w k. (omega (arith, k.0), omega (arith, k.1))) (with_places (suc place) ws) (within (suc place) ws))

-- each is a way
pub each_way : (x : NumberedFrames) (place : ℕ) (ws : List (Option Way)) → All (IsWayIf x) ws → All (λ w. IsWay x w.1) (with_places place ws)
each_way x place [] a = All-nil (λ w. IsWay x w.1)
each_way x place (None ∷ ws) a = each_way x (suc place) ws (All-tail (IsWayIf x) None ws a)
each_way x place (Some w ∷ ws) a =
    All-cons (λ (w : ℕ × Way). IsWay x w.1) (place, w) (with_places (suc place) ws) (All-head (IsWayIf x) (Some w) ws a) (each_way x (suc place) ws (All-tail (IsWayIf x) (Some w) ws a))

module _ (s : Sought) (x : NumberedFrames) where
  -- one by one
  abbrev pub alone : List (Option Way) → Option DifferenceAtFact
  alone [] = None
  alone (w ∷ ws) = option_or (difference_if s x w) (alone ws)

  pub alone_is : (place : ℕ) (ws : List (Option Way)) → option_map (λ d. d.1) (first_of_ways s x place ws) ≡ alone ws
  alone_is place [] = refl
  alone_is place (w ∷ ws) = by (difference_if s x w) (first_of_ways s x (suc place) ws) ∙ ap (option_or (difference_if s x w)) (alone_is (suc place) ws)
    where
      by : (a : Option DifferenceAtFact) (b : Option (ℕ × DifferenceAtFact)) → option_map (λ (d : ℕ × DifferenceAtFact). d.1) (option_or (option_map (λ d. (place, d)) a) b) ≡ option_or a (option_map (λ d. d.1) b)
      by None b = refl
      by (Some d) b = refl

  -- one more
  pub target_more : (t : ℤ) (ts : List ℤ) (w : Option Way) (more : List (Option Way)) → at_target s x.types.classes (frames_by x.types x.declared) (held x) t ≡ difference_if s x w
      → at_targets s x.types.classes (frames_by x.types x.declared) (held x) ts ≡ alone more → at_targets s x.types.classes (frames_by x.types x.declared) (held x) (t ∷ ts) ≡ alone (w ∷ more)
  target_more t ts w more here rest = ap (λ o. option_or o (at_targets s x.types.classes (frames_by x.types x.declared) (held x) ts)) here ∙ ap (option_or (difference_if s x w)) rest

  pub handler_more : (at place : ℕ) (e : ExceptionEntry) (es : List ExceptionEntry) (w : Option Way) (more : List (Option Way))
      → at_handler s x.types.classes (frames_by x.types x.declared) at (held x) e ≡ difference_if s x w
      → at_handlers s x.types.classes (frames_by x.types x.declared) at (held x) (suc place) es ≡ first_of_ways s x (suc place) more
      → at_handlers s x.types.classes (frames_by x.types x.declared) at (held x) place (e ∷ es) ≡ first_of_ways s x place (w ∷ more)
  handler_more at place e es w more here rest =
      ap (λ o. option_or (option_map (λ d. (place, d)) o) (at_handlers s x.types.classes (frames_by x.types x.declared) at (held x) (suc place) es)) here
      ∙ ap (option_or (option_map (λ d. (place, d)) (difference_if s x w))) rest

  -- ---- the first that is unlike

  first_none : (place : ℕ) (ws : List (Option Way)) → All (λ w. way_difference s x w.1 ≡ None) (with_places place ws) → first_of_ways s x place ws ≡ None
  first_none place [] a = refl
  first_none place (None ∷ ws) a = first_none (suc place) ws a
  first_none place (Some w ∷ ws) a =
      second_is (option_map (λ d. (place, d)) (way_difference s x w)) (first_of_ways s x (suc place) ws)
      (ap (option_map (λ d. (place, d))) (All-head (λ (w : ℕ × Way). way_difference s x w.1 ≡ None) (place, w) (with_places (suc place) ws) a))
      ∙ first_none (suc place) ws (All-tail (λ (w : ℕ × Way). way_difference s x w.1 ≡ None) (place, w) (with_places (suc place) ws) a)

  first_some : (place : ℕ) (ws : List (Option Way)) (u : ℕ × Way) → Contains (with_places place ws) u → way_difference s x u.1 ≢ None → All (IsAlikeBefore s x u.0) (with_places place ws)
      → first_of_ways s x place ws ≡ option_map (λ d. (u.0, d)) (way_difference s x u.1)
  first_some place [] u c n a = absurd (omega (arith, c.1))
  first_some place (None ∷ ws) u c n a = first_some (suc place) ws u c n a
  first_some place (Some w ∷ ws) u (zero, lt, is) n a =
      ap (λ (v : ℕ × Way). option_or (option_map (λ d. (v.0, d)) (way_difference s x v.1)) (first_of_ways s x (suc place) ws)) is
      ∙ first_is (option_map (λ d. (u.0, d)) (way_difference s x u.1)) (first_of_ways s x (suc place) ws) (some_more (λ d. (u.0, d)) (way_difference s x u.1) n)
  first_some place (Some w ∷ ws) u (suc k, lt, is) n a =
      let later : Contains (with_places (suc place) ws) u = (k, omega (arith, lt), is) in
      let behind = (All-contains (λ (v : ℕ × Way). (suc place ≤ v.0) × (v.0 < suc place + length ws)) (with_places (suc place) ws) u (within (suc place) ws) later).0 in
      second_is (option_map (λ d. (place, d)) (way_difference s x w)) (first_of_ways s x (suc place) ws)
      (ap (option_map (λ d. (place, d))) (All-head (IsAlikeBefore s x u.0) (place, w) (with_places (suc place) ws) a (omega (arith, behind))))
      ∙ first_some (suc place) ws u later n (All-tail (IsAlikeBefore s x u.0) (place, w) (with_places (suc place) ws) a)

  pub first_is_none : (ws : List (Option Way)) → IsFirstUnlike s x (with_places 0 ws) None → first_of_ways s x 0 ws ≡ None
  first_is_none ws a = first_none 0 ws a

  pub first_is_some : (ws : List (Option Way)) (u : ℕ × Way) → IsFirstUnlike s x (with_places 0 ws) (Some u) → first_of_ways s x 0 ws ≡ option_map (λ d. (u.0, d)) (way_difference s x u.1)
  first_is_some ws u a = first_some 0 ws u a.0 a.1 a.2

  -- ---- while half of the places are left each time

  -- the list in another order has the same ways
  pub moved_found : (end : ℕ) (ws ys : List (ℕ × Way)) → IsPermutation ws ys → (o : Option (ℕ × Way)) → FindsUnlike s x end ys o → FindsUnlike s x end ws o
  moved_found end ws ys moved None a = All-permutation (IsAlikeBefore s x end) ys ws (IsPermutation-sym ws ys moved) a
  moved_found end ws ys moved (Some u) a = (Contains-permutation ys ws u (IsPermutation-sym ws ys moved) a.0, a.1, a.2)

  -- the one that was found is at the end of those that are left
  abbrev pub IsFoundAt : List (Option Way) → ℕ → Option (ℕ × Way) → Type 0
  IsFoundAt ws end None = end ≡ length ws
  IsFoundAt ws end (Some u) = Contains (with_places 0 ws) u × (way_difference s x u.1 ≢ None) × (u.0 ≡ end)

  -- none is left
  pub first_found : (ws : List (Option Way)) (alike end : ℕ) (o : Option (ℕ × Way)) → end ≤ alike → All (IsAlikeBefore s x alike) (with_places 0 ws) → IsFoundAt ws end o → IsFirstUnlike s x (with_places 0 ws) o
  first_found ws alike end None le a is = All-both ws alike end le is a
    where
      All-both : (ws : List (Option Way)) (alike end : ℕ) → end ≤ alike → end ≡ length ws → All (IsAlikeBefore s x alike) (with_places 0 ws) → All (λ w. way_difference s x w.1 ≡ None) (with_places 0 ws)
      All-both ws alike end le is a = λ k d lt. a k d lt (let w = within 0 ws k d lt in let less = w.1 in omega (arith, less, le, is))
  first_found ws alike end (Some u) le a is =
      (is.0, is.1, All-weaker (IsAlikeBefore s x alike) (IsAlikeBefore s x u.0) (λ w k lt. k (let at = is.2 in omega (arith, lt, le, at))) (with_places 0 ws) a)
