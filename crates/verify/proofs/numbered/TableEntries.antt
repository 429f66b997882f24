-- Exception tables by the numbers of the types that are caught, as they are made and as they are judged.
use Rattle.std.proofs.Common.{◌≡◌, ◌⊎◌, ◌∙◌, ℕ, zero, suc, ◌+◌, ◌≤◌, ◌<◌, pos, Bool, true, false, not, nat_lt, ◌&&◌, List, [], ◌∷◌, ◌++◌, length, map, get_or, drop, Option, Some, None, Ok, Err, refl, sym, ap, subst, arith, inl, inr}
use Rattle.std.proofs.lemmas.Bool.Decides.{nat_tests}
use Rattle.std.proofs.lemmas.List.{drop_more, drop_all, append-nil, append_assoc}
use Rattle.names.specs.ReferenceTypes.{ReferenceType}
use Rattle.names.specs.StandardNames.{throwable_name}
use Rattle.pool.specs.Entries as entries
use Rattle.classfile.specs.declared.code.ExceptionHandler.{ExceptionHandler}
use Rattle.classfile.specs.MethodParts.{or_empty}
use Rattle.classfile.specs.Views.{handler_view}
use Rattle.classfile.specs.Methods.{Method, ExceptionEntry, caught_type, entry_with, exception_entries}
use Rattle.hierarchy.specs.Answer.{Outcome, yes, no, missing}
use Rattle.insn.specs.Meanings.{Act}
use Rattle.insn.specs.Offsets.{has_offset}
use Rattle.frames.specs.VerificationType.{class}
use Rattle.frames.specs.Slots.{to_reference}
use Rattle.frames.specs.Assignable.{type_answer}
use Rattle.frames.specs.Conditions as conditions
use Rattle.frames.specs.Conditions.{reason, number_of, Conditions, lesser, least}
use Rattle.type_numbers.specs.Numbers.{Numbering}
use Rattle.method_frames.specs.NumberedFrames.{NumberedFrame, NumberedFrames}
use Rattle.method_frames.specs.MapFrames.{frames_by}
use Rattle.rules.specs.declared.reason.Reason.{Reason}
use Rattle.rules.specs.declared.reason.Reason.TheVariants.{OutOfMemory, BadException}
use Rattle.rules.specs.Reasons.{reason_view}
use Rattle.rules.specs.Outcomes.{Judges}
use Rattle.verify.specs.TypeSafety.{Frames}
use Rattle.verify.specs.Verdict.{Verdict, refused_or, answer_conditions, is_end, table_judged}
use Rattle.verify.specs.declared.pass.exceptions.Entry.{Entry}
use Rattle.verify.specs.declared.pass.handlers.Handler.{Handler}
use Rattle.verify.specs.private.pass.Exceptions.{IsEntryBy, AreEntriesBy, HasEntries, has_places, IsPlaced, entry_conditions, JudgesEntry, JudgesTable}
use Rattle.verify.specs.private.pass.Finding.{IsFound}
use Rattle.verify.specs.private.pass.Following.{IsHandler, AreHandlers}

-- ---- entries as they are made

-- these, and then those, if they are there
abbrev pub onto : List ExceptionEntry → Option (List ExceptionEntry) → Option (List ExceptionEntry)
onto es None = None
onto es (Some others) = Some (es ++ others)

-- the entry of an item that catches this type
abbrev pub entry_of : ExceptionHandler → ReferenceType → ExceptionEntry
entry_of h caught = record { from = h.start_pc; to = h.end_pc; handler = h.handler_pc; caught = caught }

abbrev pub no_entry : Entry
no_entry = record { from = 0; to = 0; handler = 0; caught = 0 }

module _ (s : Numbering) where
  pub entries_pushed : (es : List ExceptionEntry) (xs : List Entry) (e : ExceptionEntry) (x : Entry) → AreEntriesBy s es xs → IsEntryBy s e x → AreEntriesBy s (es ++ e ∷ []) (xs ++ x ∷ [])
  entries_pushed [] [] e x a is = (is, tt)
  entries_pushed [] (y ∷ ys) e x a is = absurd a
  entries_pushed (d ∷ ds) [] e x a is = absurd a
  entries_pushed (d ∷ ds) (y ∷ ys) e x a is = (a.0, entries_pushed ds ys e x a.1 is)

  -- an entry, where there is a place
  pub record HasEntryBy (es : List ExceptionEntry) (i : ℕ) (x : Entry) : Type 0 where
    pub entry : ExceptionEntry
    pub is : IsEntryBy s entry x
    pub here : drop i es ≡ entry ∷ drop (i + 1) es

  pub has_entry_by : (es : List ExceptionEntry) (xs : List Entry) (i : ℕ) → AreEntriesBy s es xs → i < length xs → HasEntryBy es i (get_or xs i no_entry)
  has_entry_by [] [] i a lt = absurd (omega (arith, lt))
  has_entry_by [] (x ∷ xs) i a lt = absurd a
  has_entry_by (e ∷ es) [] i a lt = absurd a
  has_entry_by (e ∷ es) (x ∷ xs) zero a lt = record { entry = e; is = a.0; here = refl }
  has_entry_by (e ∷ es) (x ∷ xs) (suc i) a lt =
      let k = has_entry_by es xs i a.1 (omega (arith, lt)) in
      record { entry = k.entry; is = k.is; here = k.here ∙ ap (λ n. k.entry ∷ drop n (e ∷ es)) (let q : suc (i + 1) ≡ suc i + 1 = omega arith in q) }

  pub as_many_entries : (es : List ExceptionEntry) (xs : List Entry) → AreEntriesBy s es xs → length es ≡ length xs
  as_many_entries [] [] a = refl
  as_many_entries [] (x ∷ xs) a = absurd a
  as_many_entries (e ∷ es) [] a = absurd a
  as_many_entries (e ∷ es) (x ∷ xs) a = ap suc (as_many_entries es xs a.1)

  -- a table with an item that names no type is empty
  pub or_none : (o : Option (List ExceptionEntry)) → HasEntries s o None → AreEntriesBy s (or_empty o) []
  or_none None h = tt
  or_none (Some es) h = absurd h

  pub or_some : (o : Option (List ExceptionEntry)) (xs : List Entry) → HasEntries s o (Some xs) → AreEntriesBy s (or_empty o) xs
  or_some None xs h = absurd h
  or_some (Some es) xs h = h

  module _ (pool : List entries.Entry) (table : List ExceptionHandler) where
    abbrev from_place : ℕ → Option (List ExceptionEntry)
    from_place i = exception_entries pool (map handler_view (drop i table))

    -- the entries that are made from the table; these were made so far
    pub record Made (i : ℕ) (xs : List Entry) : Type 0 where
      pub done : List ExceptionEntry
      pub parts : exception_entries pool (map handler_view table) ≡ onto done (from_place i)
      pub are : AreEntriesBy s done xs

    whole : (o : Option (List ExceptionEntry)) → o ≡ onto [] o
    whole None = refl
    whole (Some es) = refl

    pub made_none : Made 0 []
    made_none = record { done = []; parts = whole (exception_entries pool (map handler_view table)); are = tt }

    onto_entry : (es : List ExceptionEntry) (h : ExceptionHandler) (c : ReferenceType) (o : Option (List ExceptionEntry)) → onto es (entry_with (handler_view h) (Some c) o) ≡ onto (es ++ entry_of h c ∷ []) o
    onto_entry es h c None = refl
    onto_entry es h c (Some others) = ap (λ (z : List ExceptionEntry). Some z) (sym (append_assoc es (entry_of h c ∷ []) others))

    module _ (i : ℕ) (d : ExceptionHandler) (lt : i < length table) (xs : List Entry) (made : Made i xs) where
      here : from_place i ≡ entry_with (handler_view (get_or table i d)) (caught_type pool (get_or table i d).catch_type) (from_place (i + 1))
      here = ap (λ z. exception_entries pool (map handler_view z)) (drop_more table i d lt)

      pub made_more : (c : ReferenceType) → caught_type pool (get_or table i d).catch_type ≡ Some c → (x : Entry) → IsEntryBy s (entry_of (get_or table i d) c) x → (now : List Entry) → now ≡ xs ++ x ∷ [] → Made (i + 1) now
      made_more c named x is now pushed = record {
        done = made.done ++ entry_of (get_or table i d) c ∷ [];
        parts =
            made.parts
            ∙ ap (onto made.done) (here ∙ ap (λ z. entry_with (handler_view (get_or table i d)) z (from_place (i + 1))) named)
            ∙ onto_entry made.done (get_or table i d) c (from_place (i + 1));
        are = subst (AreEntriesBy s (made.done ++ entry_of (get_or table i d) c ∷ [])) (sym pushed) (entries_pushed made.done xs (entry_of (get_or table i d) c) x made.are is);
      }

      pub made_not : caught_type pool (get_or table i d).catch_type ≡ None → HasEntries s (exception_entries pool (map handler_view table)) None
      made_not unnamed =
          let none : exception_entries pool (map handler_view table) ≡ None = made.parts ∙ ap (onto made.done) (here ∙ ap (λ z. entry_with (handler_view (get_or table i d)) z (from_place (i + 1))) unnamed) in
          subst (λ o. HasEntries s o None) (sym none) tt

    pub made_all : (i : ℕ) (xs : List Entry) → length table ≤ i → Made i xs → HasEntries s (exception_entries pool (map handler_view table)) (Some xs)
    made_all i xs le made =
        let all : exception_entries pool (map handler_view table) ≡ Some made.done =
        made.parts ∙ ap (λ z. onto made.done (exception_entries pool (map handler_view z))) (drop_all i table le) ∙ ap (λ (z : List ExceptionEntry). Some z) (append-nil made.done) in
        subst (λ o. HasEntries s o (Some xs)) (sym all) made.are

-- ---- an entry as it is judged

-- a reason has no number below 72
abbrev IsHigh : Option conditions.Reason → Type 0
IsHigh None = Unit {0}
IsHigh (Some r) = 72 ≤ number_of r

answer_high : (a : Outcome) → IsHigh (least (answer_conditions 72 a))
answer_high yes = tt
answer_high no = omega arith
answer_high (missing name) = omega arith

first_is : (o : Option conditions.Reason) → IsHigh o → lesser (reason 72) o ≡ reason 72
first_is None p = refl
first_is (Some s) p = let e : nat_lt (number_of s) 72 ≡ false = grind (arith, nat_tests, p) in rw e refl

first : (cs : Conditions) → IsHigh (least cs) → least ((reason 72, true) ∷ cs) ≡ Some (reason 72)
first cs p = ap (λ (r : conditions.Reason). Some r) (first_is (least cs) p)

-- refused unless each of these is so, and then as the others say
abbrev unless_all : List Bool → Conditions → Conditions
unless_all [] others = others
unless_all (b ∷ bs) others = (reason 72, not b) ∷ unless_all bs others

abbrev all_of : List Bool → Bool
all_of [] = true
all_of (b ∷ bs) = b && all_of bs

unless_high : (bs : List Bool) (others : Conditions) → IsHigh (least others) → IsHigh (least (unless_all bs others))
unless_high [] others p = p
unless_high (true ∷ bs) others p = unless_high bs others p
unless_high (false ∷ bs) others p = subst IsHigh (sym (first (unless_all bs others) (unless_high bs others p))) (omega arith)

in_place : (bs : List Bool) (others : Conditions) → all_of bs ≡ true → least (unless_all bs others) ≡ least others
in_place [] others q = refl
in_place (true ∷ bs) others q = in_place bs others q
in_place (false ∷ bs) others q = absurd (cc)

out_of_place : (bs : List Bool) (others : Conditions) → IsHigh (least others) → all_of bs ≡ false → least (unless_all bs others) ≡ Some (reason 72)
out_of_place [] others p q = absurd (cc)
out_of_place (true ∷ bs) others p q = out_of_place bs others p q
out_of_place (false ∷ bs) others p q = first (unless_all bs others) (unless_high bs others p)

five : (a b c d e : Bool) → all_of (a ∷ b ∷ c ∷ d ∷ e ∷ []) ≡ ((((a && b) && c) && d) && e)
five true true true true true = refl
five true true true true false = refl
five true true true false e = refl
five true true false d e = refl
five true false c d e = refl
five false b c d e = refl

module _ (x : NumberedFrames) (m : Method Act) (e : ExceptionEntry) where
  abbrev frames : Frames
  frames = frames_by x.types x.declared

  abbrev places : List Bool
  places = nat_lt e.from e.to ∷ has_offset m.code e.from ∷ is_end m e.to ∷ has_offset m.code e.handler ∷ has_offset frames e.handler ∷ []

  all_placed : all_of places ≡ has_places m frames e
  all_placed = five (nat_lt e.from e.to) (has_offset m.code e.from) (is_end m e.to) (has_offset m.code e.handler) (has_offset frames e.handler)

  abbrev throws : Outcome
  throws = type_answer x.types.classes (to_reference e.caught) (class throwable_name)

  misplaced : has_places m frames e ≡ false → least (entry_conditions x m e) ≡ Some (reason 72)
  misplaced q = out_of_place places (answer_conditions 72 throws) (answer_high throws) (all_placed ∙ q)

  pub refuses_misplaced : {A : Type 0} (made : A → Type 0) → IsPlaced x m e None → JudgesEntry x m e made (Err BadException)
  refuses_misplaced made q = record { outcome = inr (misplaced q) }

  placed : has_places m frames e ≡ true → least (entry_conditions x m e) ≡ least (answer_conditions 72 throws)
  placed q = in_place places (answer_conditions 72 throws) (all_placed ∙ q)

  pub refuses_placed : {A : Type 0} (made : A → Type 0) (frame : ℕ) (why : Reason) → IsPlaced x m e (Some frame) → Judges (answer_conditions 72 throws) (Err why) → JudgesEntry x m e made (Err why)
  refuses_placed made frame why q j = record { outcome = by j.outcome }
    where
      by : (why ≡ OutOfMemory) ⊎ (least (answer_conditions 72 throws) ≡ Some (reason_view why)) → (why ≡ OutOfMemory) ⊎ (least (entry_conditions x m e) ≡ Some (reason_view why))
      by (inl z) = inl z
      by (inr z) = inr (placed q.0 ∙ z)

  pub takes_placed : (frame : ℕ) (u : Unit {0}) → IsPlaced x m e (Some frame) → Judges (answer_conditions 72 throws) (Ok u) → JudgesEntry x m e (IsFound x.types x.declared (pos e.handler)) (Ok frame)
  takes_placed frame u q j = record { outcome = (placed q.0 ∙ j.outcome, q.1) }

-- ---- the table as it is judged

module _ (s : Numbering) (ds : List (ℕ × NumberedFrame)) where
  handlers_pushed : (es : List ExceptionEntry) (hs : List Handler) (e : ExceptionEntry) (h : Handler) → AreHandlers s ds es hs → IsHandler s ds e h → AreHandlers s ds (es ++ e ∷ []) (hs ++ h ∷ [])
  handlers_pushed [] [] e h a is = (is, tt)
  handlers_pushed [] (g ∷ gs) e h a is = absurd a
  handlers_pushed (d ∷ es) [] e h a is = absurd a
  handlers_pushed (d ∷ es) (g ∷ gs) e h a is = (a.0, handlers_pushed es gs e h a.1 is)

module _ (x : NumberedFrames) (m : Method Act) (es : List ExceptionEntry) where
  abbrev judged : List ExceptionEntry → Verdict → Verdict
  judged left rest = table_judged x.types.classes m (frames_by x.types x.declared) left rest

  -- the first entries are judged and have these handlers, and these entries are left
  pub record Built (left : List ExceptionEntry) (hs : List Handler) : Type 0 where
    pub done : List ExceptionEntry
    pub parts : done ++ left ≡ es
    pub handlers : AreHandlers x.types x.declared done hs
    pub judged_on : (rest : Verdict) → judged es rest ≡ judged left rest

  pub built_none : Built es []
  built_none = record { done = []; parts = refl; handlers = tt; judged_on = λ rest. refl }

  module _ (left : List ExceptionEntry) (hs : List Handler) (built : Built left hs) where
    module _ (e : ExceptionEntry) (others : List ExceptionEntry) (here : left ≡ e ∷ others) where
      judged_here : (rest : Verdict) → judged left rest ≡ refused_or (least (entry_conditions x m e)) 0 (judged others rest)
      judged_here rest = ap (λ z. judged z rest) here

      pub built_more : (h : Handler) → (least (entry_conditions x m e) ≡ None) × IsHandler x.types x.declared e h → (now : List Handler) → now ≡ hs ++ h ∷ [] → Built others now
      built_more h is now pushed = record {
        done = built.done ++ e ∷ [];
        parts = append_assoc built.done (e ∷ []) others ∙ ap (λ z. built.done ++ z) (sym here) ∙ built.parts;
        handlers = subst (AreHandlers x.types x.declared (built.done ++ e ∷ [])) (sym pushed) (handlers_pushed x.types x.declared built.done hs e h built.handlers is.1);
        judged_on = λ rest. built.judged_on rest ∙ judged_here rest ∙ ap (λ q. refused_or q 0 (judged others rest)) is.0;
      }

      pub stops : {A : Type 0} (why : Reason) → (why ≡ OutOfMemory) ⊎ (least (entry_conditions x m e) ≡ Some (reason_view why))
          → JudgesTable {A = A} x.types.classes m (frames_by x.types x.declared) es (Err why)
      stops why (inl z) = record { outcome = inl z }
      stops why (inr z) = record { outcome = inr (λ rest. built.judged_on rest ∙ judged_here rest ∙ ap (λ q. refused_or q 0 (judged others rest)) z) }

  -- a table without entries
  pub judged_empty : {A : Type 0} (made : A) → es ≡ [] → JudgesTable x.types.classes m (frames_by x.types x.declared) es (Ok made)
  judged_empty made none = record { outcome = λ rest. ap (λ z. judged z rest) none }

  module _ (left : List ExceptionEntry) (hs : List Handler) (built : Built left hs) (end : left ≡ []) where
    pub all_handlers : AreHandlers x.types x.declared es hs
    all_handlers = subst (λ z. AreHandlers x.types x.declared z hs) (sym (append-nil built.done) ∙ ap (λ z. built.done ++ z) (sym end) ∙ built.parts) built.handlers

    pub all_judged : {A : Type 0} (made : A) → JudgesTable x.types.classes m (frames_by x.types x.declared) es (Ok made)
    all_judged made = record { outcome = λ rest. built.judged_on rest ∙ ap (λ z. judged z rest) end }
