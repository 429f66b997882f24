-- A frame that comes to the handlers of entries, by what changed since the frame was kept that came to them.
use Rattle.std.proofs.Common.{◌≡◌, ◌⊎◌, ◌∙◌, ℕ, suc, ◌+◌, ◌≤◌, ◌<◌, Bool, true, false, ◌||◌, ◌&&◌, if◌then◌else◌, List, [], ◌∷◌, ◌++◌, length, get_or, slice_get, Some, None, refl, sym, ap, ap₂, subst, inl, inr, arith}
use Rattle.std.specs.Prelude.{slice_index, Result, Ok, Err, IfOk, OnOk, IsTrue}
use Rattle.std.specs.Bool.{beq}
use Rattle.std.proofs.lemmas.Bool.{cases_lt}
use Rattle.classfile.specs.Methods.{ExceptionEntry, covers}
use Rattle.hierarchy.specs.Answer.{Outcome, yes, no, missing}
use Rattle.insn.specs.Offsets.{at_offset}
use Rattle.frames.specs.Assignable.{type_answer}
use Rattle.frames.specs.FrameFact.{FrameFact}
use Rattle.frames.specs.FrameAssignable.{both, flag_answer, list_answer, stack_answer, item_answer, frame_answer}
use Rattle.frames.specs.Conditions.{least}
use Rattle.frames.specs.Slots.{to_reference}
use Rattle.type_numbers.specs.Numbers.{Numbering}
use Rattle.type_numbers.specs.Decoding.{type_by, types_by}
use Rattle.method_frames.proofs.Lacking.{both_left}
use Rattle.method_frames.specs.NumberedFrames.{NumberedFrame, NumberedFrames, frame_by}
use Rattle.method_frames.specs.MapFrames.{frames_by}
use Rattle.numbered_rules.specs.RunningFrame.{held}
use Rattle.verify.specs.TypeSafety.{caught_frame}
use Rattle.verify.specs.Verdict.{handler_conditions, one_handler, is_covered}
use Rattle.verify.specs.private.Catching.{answer_at}
use Rattle.verify.proofs.InTurn.{all_pass}
use Rattle.verify.specs.declared.pass.handlers.Handler.{Handler}
use Rattle.verify.specs.declared.pass.handlers.Handlers.{Handlers}
use Rattle.verify.specs.declared.pass.representatives.Representatives.{Representatives}
use Rattle.verify.specs.private.pass.Finding.{frame_in}
use Rattle.verify.specs.private.pass.Following.{IsHandler, IsTaken, Comes, IsOpen, IsSettled, TakesAll, AreStanding, AreCaught, AreBegunTaken, AreAllTaken, Follows, AreAhead, kept_frame, one_handler_at}
use Rattle.verify.specs.private.pass.Buckets.{AreRepresentatives}
use Rattle.verify.specs.private.pass.Representatives.{TakesLocal, TakesChanges}
use Rattle.verify.proofs.numbered.Following.{none_if}
use Rattle.verify.proofs.numbered.Starting.{has_handler, covering_open, same_one}

-- ---- two answers that are yes

pub both_right : (a b : Outcome) → both a b ≡ yes → b ≡ yes
both_right yes b e = e
both_right no b e = cc
both_right (missing name) yes e = refl
both_right (missing name) no e = e
both_right (missing name) (missing _) e = cc

-- ---- locals of which those that changed may stand where they are wanted

module _ (s : Numbering) where
  abbrev Fits : ℕ → ℕ → Type 0
  Fits n wanted = type_answer s.classes (type_by s n) (type_by s wanted) ≡ yes

  head_fits : (l k f : ℕ) → Fits k f → (l ≡ k) ⊎ Fits l f → Fits l f
  head_fits l k f was (inl e) = subst (λ n. Fits n f) (sym e) was
  head_fits l k f was (inr t) = t

  locals_fit : (ls kept fs : List ℕ) → length ls ≡ length kept → list_answer (type_answer s.classes) (types_by s kept) (types_by s fs) ≡ yes
      → ((place : ℕ) → place < length ls → (get_or ls place 0 ≡ get_or kept place 0) ⊎ Fits (get_or ls place 0) (get_or fs place 0))
      → list_answer (type_answer s.classes) (types_by s ls) (types_by s fs) ≡ yes
  locals_fit [] [] fs long was each = was
  locals_fit [] (k ∷ ks) fs long was each = absurd (omega (arith, long))
  locals_fit (l ∷ ls) [] fs long was each = absurd (omega (arith, long))
  locals_fit (l ∷ ls) (k ∷ ks) [] long was each = absurd (cc)
  locals_fit (l ∷ ls) (k ∷ ks) (f ∷ fs) long was each =
      let head = type_answer s.classes (type_by s k) (type_by s f) in
      let tail = list_answer (type_answer s.classes) (types_by s ks) (types_by s fs) in
      ap₂ both (head_fits l k f (both_left head tail was) (each 0 (omega arith)))
      (locals_fit ls ks fs (omega (arith, long)) (both_right head tail was) (λ place lt. each (suc place) (omega (arith, lt))))

  -- the answer is yes for lists of one length alone
  pub lists_long : (ls fs : List ℕ) → list_answer (type_answer s.classes) (types_by s ls) (types_by s fs) ≡ yes → length ls ≡ length fs
  lists_long [] [] e = refl
  lists_long [] (f ∷ fs) e = absurd (cc)
  lists_long (l ∷ ls) [] e = absurd (cc)
  lists_long (l ∷ ls) (f ∷ fs) e =
      let head = type_answer s.classes (type_by s l) (type_by s f) in
      let tail = list_answer (type_answer s.classes) (types_by s ls) (types_by s fs) in
      ap suc (lists_long ls fs (both_right head tail e))

module _ (x : NumberedFrames) where
  abbrev s : Numbering
  s = x.types

  abbrev ds : List (ℕ × NumberedFrame)
  ds = x.declared

  -- the handler's frame takes a frame by its locals and its flag
  same_taken : (f g : FrameFact) (e : ExceptionEntry) → f.locals ≡ g.locals → f.flag ≡ g.flag → IsTaken s ds f e → IsTaken s ds g e
  same_taken f g e l b t =
      sym (ap (λ ls. answer_at s.classes (at_offset (frames_by s ds) e.handler) (record { locals = ls; stack = to_reference e.caught ∷ []; flag = f.flag })) l
      ∙ ap (λ z. answer_at s.classes (at_offset (frames_by s ds) e.handler) (record { locals = g.locals; stack = to_reference e.caught ∷ []; flag = z })) b) ∙ t

  module _ (e : ExceptionEntry) (h : Handler) (is : IsHandler s ds e h) where
    abbrev declared : FrameFact
    declared = frame_by s (frame_in ds h.frame)

    told : (f : FrameFact) → IsTaken s ds f e → frame_answer s.classes (caught_frame e f) declared ≡ yes
    told f t = sym (ap (λ d. answer_at s.classes d (caught_frame e f)) is.frame.place.declared) ∙ t

    tells : (f : FrameFact) → frame_answer s.classes (caught_frame e f) declared ≡ yes → IsTaken s ds f e
    tells f t = ap (λ d. answer_at s.classes d (caught_frame e f)) is.frame.place.declared ∙ t

    -- a frame that comes there has as many locals
    as_many_locals : (kept : List ℕ) (flag : Bool) → IsTaken s ds (record { locals = types_by s kept; stack = []; flag = flag }) e → length kept ≡ length (frame_in ds h.frame).locals
    as_many_locals kept flag t =
        let own = flag_answer flag declared.flag in
        let stack = stack_answer (item_answer s.classes) (to_reference e.caught ∷ []) declared.stack in
        let locals = list_answer (type_answer s.classes) (types_by s kept) declared.locals in
        let slots = both_right own (both locals stack) (told (record { locals = types_by s kept; stack = []; flag = flag }) t) in
        lists_long s kept (frame_in ds h.frame).locals (both_left locals stack slots)

    -- the frame takes what the one takes that stands for it
    led : (kept : List ℕ) (flag : Bool) → IsTaken s ds (record { locals = types_by s kept; stack = []; flag = flag }) e → (place number : ℕ) → place < length kept
        → TakesLocal s ds h.lead place number → TakesLocal s ds h.frame place number
    led kept flag t place number lt takes =
        let long = as_many_locals kept flag t in
        subst (λ l. type_answer s.classes (type_by s number) (type_by s l) ≡ yes) (is.lead.equal place (omega (arith, lt, long))) takes

    pub changes_taken : (flag : Bool) → x.running.flag ≡ flag → length x.running.locals ≡ length x.kept → IsTaken s ds (kept_frame x flag) e
        → TakesChanges x h.lead (length x.running.locals) → IsTaken s ds (held x) e
    changes_taken flag same even was each =
        let own = flag_answer flag declared.flag in
        let stack = stack_answer (item_answer s.classes) (to_reference e.caught ∷ []) declared.stack in
        let locals = list_answer (type_answer s.classes) (types_by s x.kept) declared.locals in
        let all = told (kept_frame x flag) was in
        let slots = both_right own (both locals stack) all in
        let fit = locals_fit s x.running.locals x.kept (frame_in ds h.frame).locals even (both_left locals stack slots) (λ place lt. elim (each place lt) [
          | inl same ↦ inl same
          | inr takes ↦ inr (led x.kept flag was place (get_or x.running.locals place 0) (omega (arith, lt, even)) takes)
        ]) in
        tells (held x)
        (ap₂ both (ap (λ b. flag_answer b declared.flag) same ∙ both_left own (both locals stack) all) (ap₂ both fit (both_right locals stack slots)))

  -- a frame that comes does so by its locals and its flag
  pub kept_comes : (flag : Bool) (one : Handler) → x.kept ≡ x.running.locals → flag ≡ x.running.flag → Comes x (held x) one → Comes x (kept_frame x flag) one
  kept_comes flag one kept own comes e is = same_taken (held x) (kept_frame x flag) e (ap (types_by s) (sym kept)) (sym own) (comes e is)

  -- ---- of all entries

  module _ (es : List ExceptionEntry) (at : ℕ) (h : Handlers) (k : Follows x es at h) where
    -- those that were compared come by what changed
    pub changes_settled : x.running.flag ≡ h.flag → length x.running.locals ≡ length x.kept
        → ((f : ℕ) → 0 < slice_index h.representatives.until.items f → TakesChanges x f (length x.running.locals)) → AreBegunTaken x at h
    changes_settled own even each place one o e is =
        let so = k.settled place one o in
        let stands = so.stands in
        let lasts = o.lasts in
        changes_taken e one is h.flag own even (so.comes e is) (each one.lead (omega (arith, stands, lasts)))

    -- there are none where no frame stands for others
    none_named : h.representatives.buckets.items ≡ [] → (f : ℕ) → 0 < slice_index h.representatives.until.items f → ⊥
    none_named none f lt =
        let n = k.representatives.named f lt in
        let q : slice_get [] n.0 ≡ Some n.1.bucket = sym (ap (λ bs. slice_get bs n.0) none) ∙ n.1.there in cc

    pub none_settled : h.representatives.buckets.items ≡ [] → AreAllTaken x at h
    none_settled none = record {
      begun = λ place one o e is.
          let stands = (k.settled place one o).stands in
          let lasts = o.lasts in
          absurd (none_named none one.lead (omega (arith, stands, lasts)));
      standing = λ f lt. absurd (none_named none f lt);
    }

    -- frames that stand for others take the locals, if they take what changed
    pub changes_standing : length x.running.locals ≡ length x.kept
        → ((f : ℕ) → 0 < slice_index h.representatives.until.items f → TakesChanges x f (length x.running.locals)) → AreStanding x x.running.locals h
    changes_standing even each f lt place less = elim (each f lt place less) [
      | inl same ↦ subst (TakesLocal s ds f place) (sym same) (k.standing f lt place (omega (arith, less, even)))
      | inr takes ↦ takes
    ]

    -- all that cover the offset were compared, and come
    pub none_against_all : AreAhead at h → h.settled ≡ h.begun → AreBegunTaken x at h → least (handler_conditions s.classes (frames_by s ds) at (held x) es) ≡ None
    none_against_all ahead all taken =
        all_pass (one_handler_at s.classes (frames_by s ds) at (held x)) (handler_conditions s.classes (frames_by s ds) at (held x)) refl (λ e es. refl) es (λ place e got.
        none_if s.classes (at_offset (frames_by s ds) e.handler) (caught_frame e (held x)) (covers e at) (λ here.
        let t = has_handler s ds es h.table.items place e k.entries got in
        let o = covering_open x es at h k ahead place e t.handler t.got t.is here in
        taken o.0 t.handler (subst (λ n. IsOpen at n h o.0 t.handler) (sym all) o.1) e t.is))

    -- nothing changed, where all were compared
    pub unchanged : x.running.flag ≡ h.flag → length x.kept ≡ length x.running.locals → ((i : ℕ) → 0 ≤ i → i < length x.running.locals → get_or x.running.locals i 0 ≡ get_or x.kept i 0)
        → AreBegunTaken x at h
    unchanged own even same = changes_settled own (sym even) (λ f lt i less. inl (same i (omega arith) less))

    -- the frame is the one that was kept
    pub kept_taken : x.kept ≡ x.running.locals → h.flag ≡ x.running.flag → AreBegunTaken x at h
    kept_taken kept own = unchanged (sym own) (ap length kept) (λ i a b. ap (λ ls. get_or ls i 0) (sym kept))

  -- ---- the running frame is kept

  pub kept_follows : (es : List ExceptionEntry) (at : ℕ) (h : Handlers) → Follows x es at h → AreAllTaken x at h
      → Follows (record x { kept = x.running.locals }) es at (record h { flag = x.running.flag })
  kept_follows es at h k taken = record {
    entries = k.entries;
    moved = k.moved;
    rises = k.rises;
    few = k.few;
    within = k.within;
    reached = record { started = k.reached.started; last = k.reached.last };
    later = k.later;
    settled = λ place one o.
        let was : IsOpen at h.settled h place one = record { early = o.early; here = o.here; lasts = o.lasts } in
        record {
          stands = (k.settled place one was).stands;
          comes = λ e is. same_taken (held x) (kept_frame (record x { kept = x.running.locals }) x.running.flag) e refl refl (taken.begun place one was e is);
        };
    representatives = k.representatives;
    standing = taken.standing;
    caught = λ key one there. let c = k.caught key one there in record { even = c.even; stack = c.stack };
  }

-- ---- the tables are followed on

pub follows_later : (x : NumberedFrames) (es : List ExceptionEntry) (at later : ℕ) (h : Handlers) → at ≤ later → Follows x es at h → Follows x es later h
follows_later x es at later h le k = record {
  entries = k.entries;
  moved = k.moved;
  rises = k.rises;
  few = k.few;
  within = k.within;
  reached = record {
    started = λ place one lt here. let so = k.reached.started place one lt here in let starts = so.0 in (omega (arith, starts, le), so.1);
    last = k.reached.last;
  };
  later = k.later;
  settled = λ place one o. k.settled place one (let lasts = o.lasts in record { early = o.early; here = o.here; lasts = omega (arith, lasts, le) });
  representatives = k.representatives;
  standing = k.standing;
  caught = k.caught;
}

-- more is remembered of entries
pub follows_caught : (x : NumberedFrames) (es : List ExceptionEntry) (at : ℕ) (h now : Handlers) → now ≡ record h { caught = now.caught } → AreCaught x now → Follows x es at h → Follows x es at now
follows_caught x es at h now is caught k = subst (Follows x es at) (sym is) (record {
  entries = k.entries;
  moved = k.moved;
  rises = k.rises;
  few = k.few;
  within = k.within;
  reached = record { started = k.reached.started; last = k.reached.last };
  later = k.later;
  settled = λ place one o. k.settled place one (record { early = o.early; here = o.here; lasts = o.lasts });
  representatives = k.representatives;
  standing = k.standing;
  caught = caught;
})

-- others stand for frames
pub follows_dropped : (x : NumberedFrames) (es : List ExceptionEntry) (at : ℕ) (h : Handlers) (rs : Representatives) → AreRepresentatives x.types x.declared rs
    → ((f : ℕ) → at < slice_index h.representatives.until.items f → slice_index rs.until.items f ≡ slice_index h.representatives.until.items f)
    → ((f : ℕ) → 0 < slice_index rs.until.items f → 0 < slice_index h.representatives.until.items f)
    → Follows x es at h → Follows x es at (record h { representatives = rs })
follows_dropped x es at h rs are same fewer k = record {
  entries = k.entries;
  moved = k.moved;
  rises = k.rises;
  few = k.few;
  within = k.within;
  reached = record { started = k.reached.started; last = k.reached.last };
  later = k.later;
  settled = λ place one o.
      let so = k.settled place one (record { early = o.early; here = o.here; lasts = o.lasts }) in
      let stands = so.stands in
      let lasts = o.lasts in
      let is = same one.lead (omega (arith, stands, lasts)) in
      record { stands = omega (arith, stands, is); comes = so.comes };
  representatives = are;
  standing = λ f lt. k.standing f (fewer f lt);
  caught = k.caught;
}

-- more is known of the frames that stand for others
module _ (x : NumberedFrames) (es : List ExceptionEntry) (at : ℕ) (h : Handlers) (rs : Representatives) (k : Follows x es at h) (until : rs.until ≡ h.representatives.until) where
  pub follows_learned : {R E : Type 0} (r : Result R E) → OnOk r (AreRepresentatives x.types x.declared rs) → OnOk r (Follows x es at (record h { representatives = rs }))
  follows_learned (Ok v) are = follows_dropped x es at h rs are (λ f lt. ap (λ u. slice_index u.items f) until) (λ f. subst (λ u. 0 < slice_index u.items f) until) k
  follows_learned (Err e) are = tt

  pub taken_learned : {E : Type 0} (r : Result Bool E) → x.running.flag ≡ h.flag → length x.running.locals ≡ length x.kept
      → IfOk r (λ all. IsTrue all → (f : ℕ) → 0 < slice_index h.representatives.until.items f → TakesChanges x f (length x.running.locals))
      → IfOk r (λ all. IsTrue all → AreAllTaken x at (record h { representatives = rs }))
  taken_learned (Ok all) own even takes = λ t. record {
    begun = λ place one o. changes_settled x es at h k own even (takes t) place one (record { early = o.early; here = o.here; lasts = o.lasts });
    standing = λ f lt. changes_standing x es at h k even (takes t) f (subst (λ u. 0 < slice_index u.items f) until lt);
  }
  taken_learned (Err e) own even takes = tt

-- an entry was compared, and a frame stands for that of its handler
pub settled_one : (x : NumberedFrames) (h : Handlers) (one other : Handler) (rs : Representatives) → one ≡ get_or h.by_start.items h.settled one → slice_get h.by_start.items h.settled ≡ Some other
    → one.to ≤ slice_index rs.until.items one.lead → Comes x (kept_frame x h.flag) one → IsSettled x h.flag rs.until.items other
settled_one x h one other rs is there stands comes =
    subst (IsSettled x h.flag rs.until.items) (same_one h.by_start.items h.settled one other is there) (record { stands = stands; comes = comes })

-- one more was compared, or has ended
pub follows_settled : (x : NumberedFrames) (es : List ExceptionEntry) (at : ℕ) (h : Handlers) (rs : Representatives) (n : ℕ) → n ≡ h.settled + 1 → h.settled < h.begun → AreRepresentatives x.types x.declared rs
    → ((f : ℕ) → slice_index h.representatives.until.items f ≤ slice_index rs.until.items f)
    → ((one : Handler) → slice_get h.by_start.items h.settled ≡ Some one → at < one.to → IsSettled x h.flag rs.until.items one)
    → ((f : ℕ) → 0 < slice_index rs.until.items f → TakesAll x x.kept f)
    → Follows x es at h → Follows x es at (record h { representatives = rs; settled = n })
follows_settled x es at h rs n more lt are grows here standing k = record {
  entries = k.entries;
  moved = k.moved;
  rises = k.rises;
  few = omega (arith, more, lt);
  within = k.within;
  reached = record { started = k.reached.started; last = k.reached.last };
  later = k.later;
  settled = λ place one o. by place one o (cases_lt place h.settled);
  representatives = are;
  standing = standing;
  caught = k.caught;
}
  where
    by : (place : ℕ) (one : Handler) → IsOpen at n (record h { representatives = rs; settled = n }) place one → (place < h.settled) ⊎ (h.settled ≤ place) → IsSettled x h.flag rs.until.items one
    by place one o (inl before) =
        let so = k.settled place one (record { early = before; here = o.here; lasts = o.lasts }) in
        let stands = so.stands in
        let up = grows one.lead in
        record { stands = omega (arith, stands, up); comes = so.comes }
    by place one o (inr behind) =
        let early = o.early in
        let is : place ≡ h.settled = omega (arith, early, behind, more) in
        here one (ap (slice_get h.by_start.items) (sym is) ∙ o.here) o.lasts

-- no entry covers the offset
pub none_covered : (x : NumberedFrames) (es : List ExceptionEntry) (at : ℕ) (f : FrameFact) → is_covered es at ≡ false → least (handler_conditions x.types.classes (frames_by x.types x.declared) at f es) ≡ None
none_covered x [] at f none = refl
none_covered x (e ∷ es) at f none =
    let both = neither (covers e at) (is_covered es at) none in
    ap (λ b. least ((if b then one_handler x.types.classes (at_offset (frames_by x.types x.declared) e.handler) (caught_frame e f) else []) ++ handler_conditions x.types.classes (frames_by x.types x.declared) at f es)) both.0
    ∙ none_covered x es at f both.1
  where
    neither : (a b : Bool) → (a || b) ≡ false → (a ≡ false) × (b ≡ false)
    neither false b e = (refl, e)
    neither true b e = absurd (cc)

pub same_flag : (a b : Bool) → beq a b ≡ true → a ≡ b
same_flag true true e = refl
same_flag true false e = absurd (cc)
same_flag false true e = absurd (cc)
same_flag false false e = refl
