-- Where a method is refused for an operand, a local variable, a target, a handler, a frame that comes or an entry of
-- the exception table, it is told what is wrong.
use Rattle.std.proofs.Common.{◌≡◌, ◌⊎◌, inl, inr, ℕ, ◌≤◌, ℤ, pos, Bool, true, false, ◌&&◌, ◌||◌, is_some, is_none, nat_eq, nat_lt, List, [], ◌∷◌, length, Option, Some, None, Result, Ok, Err, refl, sym, ◌∙◌, ap, subst, arith, true≢false, eqb-true, if◌then◌else◌}
use Rattle.classfile.specs.Methods.{Method, ExceptionEntry}
use Rattle.hierarchy.specs.Class.{ClassFact}
use Rattle.hierarchy.specs.Answer.{Outcome, yes, no, missing}
use Rattle.insn.specs.Meanings.{Act}
use Rattle.insn.specs.Offsets.{at_offset, next_offset, led_to, IsAmong, IsStart, StartsRise}
use Rattle.frames.specs.FrameFact.{FrameFact}
use Rattle.frames.specs.Slots.{in_locals}
use Rattle.frames.specs.FrameAssignable.{frame_answer}
use Rattle.frames.specs.Differences.{first_difference}
use Rattle.frames.specs.declared.difference.Sought.TheVariants.{No}
use Rattle.frames.specs.Conditions.{Reason, reason, class_missing, number_of, least}
use Rattle.frames.proofs.Differences.{some_map, the_some}
use Rattle.rules.specs.TypingRules.{TypingRule, falls, offsets_of, targets}
use Rattle.rules.specs.Table.{typing_rule}
use Rattle.rules.specs.After.{after}
use Rattle.rules.specs.Rules as rules
use Rattle.rules.specs.ExpectedTypes.{expected_types}
use Rattle.rules.specs.Unmet.{first_unmet}
use Rattle.rules.specs.UnmetLaws.{HasNoForm}
use Rattle.rules.proofs.Directions.{way_of}
use Rattle.rules.proofs.FoundOperands.{holds, among_holds, found_missing, found_wrong, found_local, IsOfNoRule, rule_none}
use Rattle.verify.specs.InitialFrames.{initial_types, initial_frame}
use Rattle.verify.specs.TypeSafety.{Frames, caught_frame}
use Rattle.verify.specs.Verdict.{MapRefusal, Verdict, refused, answer_conditions, table_conditions, table_judged, at_conditions, code_judged, frames_declared, with_frames}
use Rattle.verify.specs.Breaks.{Holds, Meets, Target, Covering, Breaks, rule, no_frame_at_target, not_assignable_at_target, missing_at_target, protected_member, not_direct, missing_object, no_frame_at_handler, not_assignable_at_handler, missing_at_handler, falls_off, constructor_covered, BreaksEntry, covers_nothing, no_start, no_end, no_handler, no_handler_frame, no_throwable, missing_class}
use Rattle.verify.specs.DifferencesAt.{target_difference, handler_difference, at_targets, first_refused, first_covering}
use Rattle.verify.specs.Details.{arriving, taken, target, handler, entry as entry_at, arriving_if, refused_if, covering_if, unmet_if, target_if, handler_if}
use Rattle.verify.specs.Coming.{FramesFact, frames_with, before, frame_if, going, met, frames_at}
use Rattle.verify.specs.JudgedFrames.{entry_by, IsJudgedBy}
use Rattle.verify.specs.DetailLaws.{told_numbers, IsTold, HasNoFormAt, DetailsAreTold}
use Rattle.verify.proofs.verdicts.Breaks.{conditions_are_fields, least_held, holds_front}
use Rattle.verify.proofs.Declared.{none_least}
use Rattle.verify.proofs.FullFrames.{after_length, declared_full}
use Rattle.verify.proofs.FoundPlaces.{differs, targets_found, handlers_found, covering_found, refused_found}
use Rattle.verify.proofs.Successors.{IsEarly, IsCalm, ways}
use Rattle.verify.proofs.Meeting.{frames_are, started_length}
use Rattle.verify.proofs.Premises.{sound_of}
use Rattle.verify.proofs.verdicts.Refusing.{told}
use Rattle.verify.proofs.verdicts.Shown.{frames_are_judged}

-- ---- numbers

same_number : (a b : ℕ) → reason a ≡ reason b → a ≡ b
same_number a b e = ap number_of e

abbrev is_told : ℕ → Bool
is_told n = nat_eq n 61 || (nat_eq n 62 || (nat_eq n 63 || (nat_eq n 68 || (nat_eq n 69 || (nat_eq n 72 || (nat_eq n 73 || nat_eq n 75))))))

told_test : (n : ℕ) → IsAmong n told_numbers → is_told n ≡ true
told_test n (inl e) = ap is_told e
told_test n (inr (inl e)) = ap is_told e
told_test n (inr (inr (inl e))) = ap is_told e
told_test n (inr (inr (inr (inl e)))) = ap is_told e
told_test n (inr (inr (inr (inr (inl e))))) = ap is_told e
told_test n (inr (inr (inr (inr (inr (inl e)))))) = ap is_told e
told_test n (inr (inr (inr (inr (inr (inr (inl e))))))) = ap is_told e
told_test n (inr (inr (inr (inr (inr (inr (inr (inl e)))))))) = ap is_told e
told_test n (inr (inr (inr (inr (inr (inr (inr (inr e)))))))) = elim e [ ]

-- a number of which nothing is told
untold : {A : Type 0} (n k : ℕ) → is_told k ≡ false → IsAmong n told_numbers → reason n ≡ reason k → A
untold n k no_one t e = absurd (true≢false (sym (sym (ap is_told (same_number n k e)) ∙ told_test n t) ∙ no_one))

missing_clash : {A : Type 0} (n : ℕ) (name : List ℕ) → reason n ≡ class_missing name → A
missing_clash n name e = cc

of_no_rule : (k : ℕ) → nat_eq 61 k ≡ false → nat_eq 62 k ≡ false → nat_eq 63 k ≡ false → nat_eq 64 k ≡ false → nat_eq 65 k ≡ false → nat_eq 66 k ≡ false → nat_eq 74 k ≡ false
    → (nat_eq k 60 || (nat_eq k 66 || (nat_eq k 76 || nat_eq k 90))) ≡ false → IsOfNoRule k
of_no_rule k a b c d e f g h = record {
  not_missing = a;
  not_wrong = b;
  not_local = c;
  not_outside = d;
  not_over = e;
  not_constant = f;
  not_ready = g;
  not_of_table = h;
}

-- ---- where an instruction that branches is refused for no number below, its rule does not refuse it

module _ (classes : List ClassFact) (m : Method Act) (at : ℕ) (f : FrameFact) where
  branch_fine : (a : Act) (t : ℤ) → IsAmong t (targets at (typing_rule m a)) → ((r : Reason) → Holds (rules.conditions classes m at (typing_rule m a) f) r → 68 ≤ number_of r)
      → is_none (least (rules.conditions classes m at (typing_rule m a) f)) ≡ true
  branch_fine a t i high = by (ways m a).calm
    where
      early : IsEarly (least (rules.conditions classes m at (typing_rule m a) f)) → is_none (least (rules.conditions classes m at (typing_rule m a) f)) ≡ true
      early (inl e) = ap is_none e
      early (inr (n, e, low)) = absurd (omega (arith, low, high (reason n) (least_held (rules.conditions classes m at (typing_rule m a) f) (reason n) e).0))

      nowhere : (os : List ℤ) → os ≡ [] → IsAmong t (led_to at os) → ⊥
      nowhere [] e k = k
      nowhere (o ∷ os) e k = cc

      by : (offsets_of (typing_rule m a) ≡ []) ⊎ IsCalm (typing_rule m a) → is_none (least (rules.conditions classes m at (typing_rule m a) f)) ≡ true
      by (inl e) = absurd (nowhere (offsets_of (typing_rule m a)) e i)
      by (inr calm) = early (calm classes m at f)

-- ---- the frames at an instruction

module _ (classes : List ClassFact) (m : Method Act) (frames : Frames) (n : ℕ) (full : (at : ℕ) (g : FrameFact) → at_offset frames at ≡ Some g → length g.locals ≡ m.max_locals) where
  abbrev IsFull : Option FrameFact → Type 0
  IsFull o = (g : FrameFact) → o ≡ Some g → length g.locals ≡ m.max_locals

  abbrev met_in : List (ℕ × Act) → Option FrameFact → ℕ → FramesFact
  met_in cs coming at = met typing_rule classes m frames n cs coming at

  abbrev frames_for : ℕ → Act → Option FrameFact → FramesFact
  frames_for at act coming = frames_with classes m frames at act (typing_rule m act) n coming (at_offset frames at)

  pub record IsMet (cs : List (ℕ × Act)) (start : Option FrameFact) (at : ℕ) (act : Act) : Type 0 where
    pub coming : Option FrameFact
    pub whole : IsFull coming
    pub same : met_in cs start at ≡ frames_for at act coming

  before_full : (coming : Option FrameFact) (at : ℕ) → IsFull coming → (d : Option FrameFact) → at_offset frames at ≡ d → IsFull (before coming d)
  before_full coming at k None e g h = k g h
  before_full coming at k (Some d) e g h = full at g (e ∙ h)

  going_full : (at : ℕ) (a : Act) (o : Option FrameFact) → IsFull o → IsFull (going classes m at (typing_rule m a) o)
  going_full at a None k g h = cc
  going_full at a (Some f) k g h = by (falls (typing_rule m a) && is_none (least (rules.conditions classes m at (typing_rule m a) f))) h (k f refl)
    where
      by : (b : Bool) → frame_if b (after m at (typing_rule m a) f) ≡ Some g → length f.locals ≡ m.max_locals → length g.locals ≡ m.max_locals
      by true e j =
          let there : after m at (typing_rule m a) f ≡ g = cc in
          sym (ap (λ (x : FrameFact). length x.locals) there) ∙ after_length m at (typing_rule m a) f ∙ j
      by false e j = cc

  meets : (cs : List (ℕ × Act)) (start : Option FrameFact) (at : ℕ) (act : Act) → IsFull start → at_offset cs at ≡ Some act → IsMet cs start at act
  meets [] start at act k e = cc
  meets (c ∷ cs) start at act k e =
      by (nat_eq c.0 at) refl e
      (meets cs (going classes m c.0 (typing_rule m c.1) (before start (at_offset frames c.0))) at act (going_full c.0 c.1 (before start (at_offset frames c.0)) (before_full start c.0 k (at_offset frames c.0) refl)))
    where
      by : (b : Bool) → nat_eq c.0 at ≡ b → (if b then Some c.1 else at_offset cs at) ≡ Some act
          → (at_offset cs at ≡ Some act → IsMet cs (going classes m c.0 (typing_rule m c.1) (before start (at_offset frames c.0))) at act) → IsMet (c ∷ cs) start at act
      by true q h rec =
          let there : c.0 ≡ at = eqb-true c.0 at q in
          let here : c.1 ≡ act = cc in
          let first : met_in (c ∷ cs) start at ≡ frames_for c.0 c.1 start = rw q refl in
          record { coming = start; whole = k; same = first ∙ ap (λ z. frames_for z c.1 start) there ∙ ap (λ a. frames_for at a start) here }
      by false q h rec =
          let r = rec h in
          let past : met_in (c ∷ cs) start at ≡ met_in cs (going classes m c.0 (typing_rule m c.1) (before start (at_offset frames c.0))) at = rw q refl in
          record { coming = r.coming; whole = r.whole; same = past ∙ r.same }

-- ---- what is wrong, by the number of the reason

module _ (classes : List ClassFact) (m : Method Act) (frames : Frames) (full : (at : ℕ) (g : FrameFact) → at_offset frames at ≡ Some g → length g.locals ≡ m.max_locals)
    (at : ℕ) (act : Act) (here_is : at_offset m.code at ≡ Some act) (coming : Option FrameFact) (whole : (g : FrameFact) → coming ≡ Some g → length g.locals ≡ m.max_locals) where
  abbrev p : TypingRule
  p = typing_rule m act

  abbrev declared : Option FrameFact
  declared = at_offset frames at

  abbrev frames_by : ℕ → FramesFact
  frames_by n = frames_with classes m frames at act p n coming declared

  abbrev Goal : ℕ → Type 0
  Goal n = IsTold (frames_by n) ⊎ ((n ≡ 62) × HasNoFormAt m at (frames_by n))

  -- something is told for this number
  tells : (n k : ℕ) → n ≡ k → is_some (frames_by k).detail ≡ true → Goal n
  tells n k e h = inl (the_some (frames_by n).detail (ap (λ z. is_some (frames_by z).detail) e ∙ h))

  -- the frame that comes
  by_arrival : (n : ℕ) → IsAmong n told_numbers → (c d : Option FrameFact) → coming ≡ c → declared ≡ d → entry_by classes c d ≡ Some (reason n) → Goal n
  by_arrival n t None None c_is d_is e = untold n 70 refl t (cc)
  by_arrival n t None (Some d) c_is d_is e = cc
  by_arrival n t (Some f) None c_is d_is e = cc
  by_arrival n t (Some f) (Some d) c_is d_is e = by (frame_answer classes f d) refl e
    where
      by : (o : Outcome) → frame_answer classes f d ≡ o → least (answer_conditions 69 o) ≡ Some (reason n) → Goal n
      by yes k h = cc
      by no k h =
          let here : reason n ≡ reason 69 = cc in
          let found : is_some (arriving_if No classes coming declared) ≡ true =
          ap (λ x. is_some (arriving_if No classes x declared)) c_is ∙ ap (λ x. is_some (arriving_if No classes (Some f) x)) d_is ∙ some_map arriving (first_difference classes f d)
          ∙ differs classes f d m.max_locals (whole f c_is) (full at d d_is) k in
          tells n 69 (same_number n 69 here) found
      by (missing name) k h = missing_clash n name (cc)

  module _ (f : FrameFact) (there : before coming declared ≡ Some f) (sized : length f.locals ≡ m.max_locals) (n : ℕ) (t : IsAmong n told_numbers) where
    -- what it takes
    unmet_told : is_some (first_unmet classes m (expected_types p) f) ≡ true → is_some (unmet_if classes m p (before coming declared)) ≡ true
    unmet_told h = ap (λ o. is_some (unmet_if classes m p o)) there ∙ some_map taken (first_unmet classes m (expected_types p) f) ∙ h

    held : Holds (rules.conditions classes m at p f) (reason n) → (k : ℕ) → n ≡ k → holds k (rules.conditions classes m at p f) ≡ true
    held h k e = sym (ap (λ z. holds z (rules.conditions classes m at p f)) e) ∙ among_holds n (rules.conditions classes m at p f) h

    no_rule : (k : ℕ) → IsOfNoRule k → Holds (rules.conditions classes m at p f) (reason n) → n ≡ k → Goal n
    no_rule k x h e = absurd (rule_none k x classes m at f p (way_of m act).elsewise (held h k e))

    wrong_told : n ≡ 62 → is_some (first_unmet classes m (expected_types p) f) ≡ true ⊎ HasNoForm at p f → Goal n
    wrong_told e (inl h) = tells n 62 e (unmet_told h)
    wrong_told e (inr x) = inr (e, record { act = act; here = here_is; frame = f; there = there; no_form = x })

    by_rule : Holds (rules.conditions classes m at p f) (reason n) → IsAmong n told_numbers → Goal n
    by_rule h (inl e) = tells n 61 e (unmet_told (found_missing classes m at f p (way_of m act).elsewise (held h 61 e)))
    by_rule h (inr (inl e)) = wrong_told e (found_wrong classes m at f p (way_of m act).elsewise (held h 62 e))
    by_rule h (inr (inr (inl e))) = tells n 63 e (unmet_told (found_local classes m at f p (way_of m act).elsewise (held h 63 e)))
    by_rule h (inr (inr (inr (inl e)))) = no_rule 68 (of_no_rule 68 refl refl refl refl refl refl refl refl) h e
    by_rule h (inr (inr (inr (inr (inl e))))) = no_rule 69 (of_no_rule 69 refl refl refl refl refl refl refl refl) h e
    by_rule h (inr (inr (inr (inr (inr (inl e)))))) = no_rule 72 (of_no_rule 72 refl refl refl refl refl refl refl refl) h e
    by_rule h (inr (inr (inr (inr (inr (inr (inl e))))))) = no_rule 73 (of_no_rule 73 refl refl refl refl refl refl refl refl) h e
    by_rule h (inr (inr (inr (inr (inr (inr (inr (inl e)))))))) = no_rule 75 (of_no_rule 75 refl refl refl refl refl refl refl refl) h e
    by_rule h (inr (inr (inr (inr (inr (inr (inr (inr e)))))))) = elim e [ ]

    -- a target
    target_told : (x : Target at p) (to : ℕ) → x.target ≡ pos to → Meets classes frames (after m at p f) to no → is_none (least (rules.conditions classes m at p f)) ≡ true
        → is_some (target_if classes m frames at act p No (before coming declared)) ≡ true
    target_told x to e y fine =
        let found = targets_found classes frames m.max_locals full (after m at p f) (targets at p) x.target to x.among e (after_length m at p f ∙ sized) y in
        let here : target_difference No classes m frames at p (Some f) ≡ at_targets No classes frames (after m at p f) (targets at p) = rw fine refl in
        ap (λ o. is_some (target_if classes m frames at act p No o)) there ∙ some_map target (target_difference No classes m frames at p (Some f)) ∙ ap is_some here ∙ found

    -- a handler
    handler_told : (x : Covering m at) → Meets classes frames (caught_frame x.e f) x.e.handler no → is_some (handler_if classes m frames at act p No (before coming declared)) ≡ true
    handler_told x y =
        ap (λ o. is_some (handler_if classes m frames at act p No o)) there ∙ some_map (λ (h : ℕ × _). handler h.0 h.1) (handler_difference No classes m frames at (Some f))
        ∙ handlers_found classes frames m.max_locals full at f 0 m.exceptions x.e x.among x.covered sized y

    covering_told : (x : Covering m at) → is_some (covering_if m at) ≡ true
    covering_told x = some_map entry_at (first_covering at 0 m.exceptions) ∙ covering_found at 0 m.exceptions x.e x.among x.covered

    abbrev Broken : Reason → Type 0
    Broken why = Breaks classes m frames at act p (next_offset m.code at) f why

    by_field : ((e : ExceptionEntry) → IsAmong e m.exceptions → (g : FrameFact) × (at_offset frames e.handler ≡ Some g)) → ((r : Reason) → Holds (rules.conditions classes m at p f) r → n ≤ number_of r)
        → Broken (reason n) → Goal n
    by_field sound high (rule h) = by_rule h t
    by_field sound high (no_frame_at_target e x y) = untold n 67 refl t e
    by_field sound high (not_assignable_at_target e x to i y) =
        let is : n ≡ 68 = same_number n 68 e in
        let fine = branch_fine classes m at f act x.target x.among (λ r h. omega (arith, is, high r h)) in
        tells n 68 is (target_told x to i y fine)
    by_field sound high (missing_at_target name e x to i y) = missing_clash n name e
    by_field sound high (protected_member e g x) = untold n 82 refl t e
    by_field sound high (not_direct e x) = untold n 86 refl t e
    by_field sound high (missing_object name e g x) = missing_clash n name e
    by_field sound high (no_frame_at_handler e x y) = let d = sound x.e x.among in absurd (y d.0 d.1)
    by_field sound high (not_assignable_at_handler e x y) = tells n 73 (same_number n 73 e) (handler_told x y)
    by_field sound high (missing_at_handler name e x y) = missing_clash n name e
    by_field sound high (falls_off e x y) = untold n 71 refl t e
    by_field sound high (constructor_covered e x y) = tells n 75 (same_number n 75 e) (covering_told y)

-- ---- the code

module _ (classes : List ClassFact) (m : Method Act) (rise : StartsRise 0 m.code) (frames : Frames) (full : (at : ℕ) (g : FrameFact) → at_offset frames at ≡ Some g → length g.locals ≡ m.max_locals)
    (begins : length (initial_frame m).locals ≡ m.max_locals) (n at : ℕ) (t : IsAmong n told_numbers) where
  abbrev met_at : ℕ → FramesFact
  met_at to = met typing_rule classes m frames n m.code (Some (initial_frame m)) to

  abbrev Told : FramesFact → Type 0
  Told x = IsTold x ⊎ ((n ≡ 62) × HasNoFormAt m at x)

  begins_full : (g : FrameFact) → Some (initial_frame m) ≡ Some g → length g.locals ≡ m.max_locals
  begins_full g e = let there : initial_frame m ≡ g = cc in sym (ap (λ (x : FrameFact). length x.locals) there) ∙ begins

  abbrev Judged : Act → FramesFact → Type 0
  Judged act x =
      (entry_by classes x.coming x.declared ≡ Some (reason n))
      ⊎ ((f : FrameFact) × (before x.coming x.declared ≡ Some f) × (least (at_conditions classes m frames at act (typing_rule m act) (next_offset m.code at) f) ≡ Some (reason n)))

  code_told : ((e : ExceptionEntry) → IsAmong e m.exceptions → (g : FrameFact) × (at_offset frames e.handler ≡ Some g)) → code_judged typing_rule classes m frames ≡ refused at (reason n) → Told (met_at at)
  code_told sound e =
      subst Told (sym i.same) (by (subst (Judged j.act) i.same j.told))
    where
      j : IsJudgedBy typing_rule classes m frames m.code at (reason n) (met_at at)
      j = frames_are_judged typing_rule classes m frames rise n at (reason n) e

      i : IsMet classes m frames n full m.code (Some (initial_frame m)) at j.act
      i = meets classes m frames n full m.code (Some (initial_frame m)) at j.act begins_full j.here

      by : Judged j.act (frames_with classes m frames at j.act (typing_rule m j.act) n i.coming (at_offset frames at)) → Told (frames_with classes m frames at j.act (typing_rule m j.act) n i.coming (at_offset frames at))
      by (inl x) = by_arrival classes m frames full at j.act j.here i.coming i.whole n t i.coming (at_offset frames at) refl refl x
      by (inr (f, b, x)) =
          let p = typing_rule m j.act in
          let next = next_offset m.code at in
          let l = least_held (at_conditions classes m frames at j.act p next f) (reason n) x in
          let sized = before_full classes m frames n full i.coming at i.whole (at_offset frames at) refl f b in
          by_field classes m frames full at j.act j.here i.coming i.whole f b sized n t sound
          (λ r h. l.1 r (holds_front (rules.conditions classes m at p f) _ r h))
          (((conditions_are_fields classes m frames).instructions at j.act p next f (reason n)).0 l.0)

  -- ---- the exception table

  entry_number : (e : ExceptionEntry) → BreaksEntry classes m frames e (reason n) → n ≡ 72
  entry_number e (covers_nothing x y) = same_number n 72 x
  entry_number e (no_start x y) = same_number n 72 x
  entry_number e (no_end x y) = same_number n 72 x
  entry_number e (no_handler x y) = same_number n 72 x
  entry_number e (no_handler_frame x y) = same_number n 72 x
  entry_number e (no_throwable x y) = same_number n 72 x
  entry_number e (missing_class name x y) = missing_clash n name x

  entry_told : IsStart m.code 0 → (e : ExceptionEntry) → IsAmong e m.exceptions → least (table_conditions classes m frames e) ≡ Some (reason n) → at ≡ 0 → Told (met_at at)
  entry_told start e among l zero_there =
      let i = meets classes m frames n full m.code (Some (initial_frame m)) 0 start.what begins_full start.here in
      let is : n ≡ 72 = entry_number e (((conditions_are_fields classes m frames).entries e (reason n)).0 (least_held (table_conditions classes m frames e) (reason n) l).0) in
      let found : is_some (refused_if classes m frames) ≡ true = some_map entry_at (first_refused classes m frames 0 m.exceptions) ∙ refused_found classes m frames 0 m.exceptions e (reason n) among l in
      let by_number : (k : ℕ) → FramesFact = λ k. frames_with classes m frames 0 start.what (typing_rule m start.what) k i.coming (at_offset frames 0) in
      let there : is_some (by_number n).detail ≡ true = ap (λ k. is_some (by_number k).detail) is ∙ found in
      inl (the_some (met_at at).detail (ap (λ z. is_some (met_at z).detail) zero_there ∙ ap (λ (x : FramesFact). is_some x.detail) i.same ∙ there))

-- the entry that is refused, or none is, and the rest refuses
table_either : (classes : List ClassFact) (m : Method Act) (frames : Frames) (at : ℕ) (why : Reason) (es : List ExceptionEntry) (rest : Verdict) → table_judged classes m frames es rest ≡ refused at why
    → ((e : ExceptionEntry) × IsAmong e es × (least (table_conditions classes m frames e) ≡ Some why) × (at ≡ 0))
    ⊎ (((e : ExceptionEntry) → IsAmong e es → least (table_conditions classes m frames e) ≡ None) × (rest ≡ refused at why))
table_either classes m frames at why [] rest h = inr (λ e i. elim i [ ], h)
table_either classes m frames at why (y ∷ ys) rest h =
    by (told (least (table_conditions classes m frames y)) 0 (table_judged classes m frames ys rest) at why h) (λ k. table_either classes m frames at why ys rest k)
  where
    all : least (table_conditions classes m frames y) ≡ None → ((e : ExceptionEntry) → IsAmong e ys → least (table_conditions classes m frames e) ≡ None)
        → (e : ExceptionEntry) → IsAmong e (y ∷ ys) → least (table_conditions classes m frames e) ≡ None
    all first others e (inl i) = ap (λ z. least (table_conditions classes m frames z)) i ∙ first
    all first others e (inr i) = others e i

    more : least (table_conditions classes m frames y) ≡ None
        → ((e : ExceptionEntry) × IsAmong e ys × (least (table_conditions classes m frames e) ≡ Some why) × (at ≡ 0))
        ⊎ (((e : ExceptionEntry) → IsAmong e ys → least (table_conditions classes m frames e) ≡ None) × (rest ≡ refused at why))
        → ((e : ExceptionEntry) × IsAmong e (y ∷ ys) × (least (table_conditions classes m frames e) ≡ Some why) × (at ≡ 0))
        ⊎ (((e : ExceptionEntry) → IsAmong e (y ∷ ys) → least (table_conditions classes m frames e) ≡ None) × (rest ≡ refused at why))
    more first (inl (e, i, l, z)) = inl (e, inr i, l, z)
    more first (inr (none, k)) = inr (all first none, k)

    by : ((least (table_conditions classes m frames y) ≡ Some why) × (0 ≡ at)) ⊎ ((least (table_conditions classes m frames y) ≡ None) × (table_judged classes m frames ys rest ≡ refused at why))
        → (table_judged classes m frames ys rest ≡ refused at why
        → ((e : ExceptionEntry) × IsAmong e ys × (least (table_conditions classes m frames e) ≡ Some why) × (at ≡ 0))
        ⊎ (((e : ExceptionEntry) → IsAmong e ys → least (table_conditions classes m frames e) ≡ None) × (rest ≡ refused at why)))
        → ((e : ExceptionEntry) × IsAmong e (y ∷ ys) × (least (table_conditions classes m frames e) ≡ Some why) × (at ≡ 0))
        ⊎ (((e : ExceptionEntry) → IsAmong e (y ∷ ys) → least (table_conditions classes m frames e) ≡ None) × (rest ≡ refused at why))
    by (inl (l, z)) rec = inl (y, inl refl, l, sym z)
    by (inr (none, k)) rec = more none (rec k)

-- ---- the method

pub details_are_told : DetailsAreTold
details_are_told classes m rise start at n e t = by (nat_lt m.max_locals (length (in_locals (initial_types m)))) refl e
  where
    with_these : nat_lt m.max_locals (length (in_locals (initial_types m))) ≡ false → (r : Result Frames MapRefusal) → frames_declared m ≡ r → with_frames typing_rule classes m r ≡ refused at (reason n)
        → IsTold (frames_at typing_rule classes m n at) ⊎ ((n ≡ 62) × HasNoFormAt m at (frames_at typing_rule classes m n at))
    with_these room (Err why) d h = cc
    with_these room (Ok frames) d h =
        subst (λ x. IsTold x ⊎ ((n ≡ 62) × HasNoFormAt m at x)) (frames_are classes m frames n at room d (initial_frame m) refl)
        (elim (table_either classes m frames at (reason n) m.exceptions (code_judged typing_rule classes m frames) h) [
          | inl x ↦ entry_told classes m rise frames (declared_full m frames d) begins n at t start x.0 x.1 x.2 x.3
          | inr x ↦ code_told classes m rise frames (declared_full m frames d) begins n at t (λ y i. (sound_of classes m frames y (none_least (table_conditions classes m frames y) (x.0 y i))).handler_frame) x.1
        ])
      where
        begins : length (initial_frame m).locals ≡ m.max_locals
        begins = started_length m room

    by : (b : Bool) → nat_lt m.max_locals (length (in_locals (initial_types m))) ≡ b → (if b then refused 0 (reason 64) else with_frames typing_rule classes m (frames_declared m)) ≡ refused at (reason n)
        → IsTold (frames_at typing_rule classes m n at) ⊎ ((n ≡ 62) × HasNoFormAt m at (frames_at typing_rule classes m n at))
    by true room h = let there : reason n ≡ reason 64 = cc in untold n 64 refl t there
    by false room h = with_these room (frames_declared m) refl h
