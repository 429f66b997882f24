-- The premises of the pass: the frames that are declared, and the exception table.
use Rattle.std.proofs.Common.{◌≡◌, ◌⊎◌, ℕ, ◌+◌, ◌<◌, Bool, true, false, not, ◌||◌, is_some, nat_eq, nat_lt, List, [], ◌∷◌, ◌++◌, length, Option, Some, None, Result, Ok, Err, refl, sym, ◌∙◌, ap, subst, inl, inr, arith, if◌then◌else◌, eq-eqb, eqb-true, ne_eqb, ltb-true, lt-ltb}
use Rattle.std.proofs.lemmas.List.{append-nil}
use Rattle.names.specs.StandardNames.{throwable_name}
use Rattle.layout.specs.Place.{Place}
use Rattle.layout.specs.Format.{reads}
use Rattle.layout.specs.FormatLaws.{reads_spells, spelled_reads}
use Rattle.layout.specs.declared.fault.ReadFault.{ReadFault}
use Rattle.layout.specs.declared.fault.ReadFault.TheVariants.{AttributeLength}
use Rattle.classfile.specs.Methods.{Method, ExceptionEntry}
use Rattle.hierarchy.specs.Class.{ClassFact}
use Rattle.insn.specs.Meanings.{Act}
use Rattle.insn.specs.Offsets.{at_offset, has_offset, first_offset, IsStart, IsAmong, StartsRise}
use Rattle.frames.specs.VerificationType.{class}
use Rattle.frames.specs.Slots.{to_reference}
use Rattle.frames.specs.Assignable.{type_answer}
use Rattle.frames.specs.Conditions.{Reason, NoneHolds, least}
use Rattle.frames.specs.StackMaps.{MapEntry, stack_map}
use Rattle.frames.specs.DeclaredFrames.{declared_frames}
use Rattle.verify.specs.InitialFrames.{initial_types}
use Rattle.verify.specs.TypeSafety.{Frames, HasEntries, Declares, IsSoundEntry}
use Rattle.verify.specs.Verdict.{MapRefusal, Verdict, verified, refused_or, all_entries, entries_read, or_undeclared, frames_of, frames_declared, is_end, table_conditions, table_judged}
use Rattle.verify.proofs.Declared.{none_least}
use Rattle.verify.proofs.Reasons.{none_told, not_refused, answer_yes, yes_none}
use Rattle.verify.proofs.verdicts.Passing.{AreApart}

-- ---- offsets that rise

pub not_at : (from : ℕ) (cs : List (ℕ × Act)) (p : ℕ) → StartsRise from cs → p < from → at_offset cs p ≡ None
not_at from [] p r l = refl
not_at from (c ∷ cs) p r l =
    let apart : nat_eq c.0 p ≡ false = ne_eqb c.0 p (λ q. omega (arith, q, r.0, l)) in
    rw apart (not_at (c.0 + 1) cs p r.1 (omega (arith, r.0, l)))

pub rising_apart : (from : ℕ) (cs : List (ℕ × Act)) → StartsRise from cs → AreApart cs
rising_apart from [] r = tt
rising_apart from (c ∷ cs) r = (not_at (c.0 + 1) cs c.0 r.1 (omega arith), rising_apart (c.0 + 1) cs r.1)

pub first_at_zero : (cs : List (ℕ × Act)) → StartsRise 0 cs → IsStart cs 0 → first_offset cs ≡ Some 0
first_at_zero [] r s = clash s.what s.here
  where
    clash : (act : Act) → None ≡ Some act → first_offset {A = Act} [] ≡ Some 0
    clash act e = cc
first_at_zero (c ∷ cs) r s = by (nat_eq c.0 0) refl s.here
  where
    clash : (act : Act) → None ≡ Some act → ⊥
    clash act e = cc

    by : (b : Bool) → nat_eq c.0 0 ≡ b → (if b then Some c.1 else at_offset cs 0) ≡ Some s.what → first_offset (c ∷ cs) ≡ Some 0
    by true e h = ap (λ (z : ℕ). Some z) (eqb-true c.0 0 e)
    by false e h = absurd (clash s.what (sym (not_at (c.0 + 1) cs 0 r.1 (omega arith)) ∙ h))

-- ---- the stack map

pub no_more : (xs : List ℕ) → length xs ≡ 0 → xs ≡ []
no_more [] e = refl
no_more (x ∷ xs) e = cc

abbrev entries_ok : List MapEntry → Result (List MapEntry) ReadFault
entries_ok entries = Ok entries

same_entries : (a b : List MapEntry) → entries_ok a ≡ entries_ok b → a ≡ b
same_entries a b e = cc

abbrev frames_ok : Frames → Result Frames MapRefusal
frames_ok frames = Ok frames

pub entries_spelled : (o : Option (List ℕ)) (entries : List MapEntry) → entries_read o ≡ Ok entries → HasEntries o entries
entries_spelled None entries e = sym (same_entries [] entries e)
entries_spelled (Some body) entries e = by (reads stack_map 0 body) refl e
  where
    whole : (x : List MapEntry × Place) → reads stack_map 0 body ≡ Ok x → (b : Bool) → nat_eq (length x.1.rest) 0 ≡ b
        → (if b then Ok x.0 else Err (AttributeLength x.1.at)) ≡ Ok entries → HasEntries (Some body) entries
    whole x r false n h = cc
    whole x r true n h =
        let s = reads_spells stack_map 0 body x r in
        let none : x.1.rest ≡ [] = no_more x.1.rest (eqb-true (length x.1.rest) 0 n) in
        let all : body ≡ s.0 = s.2.parts ∙ ap (λ z. s.0 ++ z) none ∙ append-nil s.0 in
        subst (λ z. HasEntries (Some body) z) (same_entries x.0 entries h) (subst (λ z. HasEntries (Some z) x.0) (sym all) s.1)

    by : (r : Result (List MapEntry × Place) ReadFault) → reads stack_map 0 body ≡ r → all_entries r ≡ Ok entries → HasEntries (Some body) entries
    by (Err fault) r h = cc
    by (Ok x) r h = whole x r (nat_eq (length x.1.rest) 0) refl h

pub entries_there : (o : Option (List ℕ)) (entries : List MapEntry) → HasEntries o entries → entries_read o ≡ Ok entries
entries_there None entries e = ap (λ (z : List MapEntry). Ok z) (sym e)
entries_there (Some body) entries s =
    ap (λ z. all_entries (reads stack_map 0 z)) (sym (append-nil body)) ∙ ap all_entries (spelled_reads stack_map 0 body [] entries s)

pub frames_there : (m : Method Act) (frames : Frames) → frames_declared m ≡ Ok frames → Declares m frames
frames_there m frames e = by (entries_read m.stack_map) refl e
  where
    same : (a b : Frames) → frames_ok a ≡ frames_ok b → a ≡ b
    same a b h = cc

    found : (entries : List MapEntry) → entries_read m.stack_map ≡ Ok entries → (r : Result Frames Reason)
        → declared_frames m.constant_pool m.code m.max_locals m.max_stack (initial_types m) entries ≡ r → or_undeclared r ≡ Ok frames → Declares m frames
    found entries read (Err why) d h = cc
    found entries read (Ok others) d h = record { entries = entries; spelled = entries_spelled m.stack_map entries read; declared = d ∙ ap (λ (z : Frames). Ok z) (same others frames h) }

    by : (r : Result (List MapEntry) ReadFault) → entries_read m.stack_map ≡ r → frames_of m r ≡ Ok frames → Declares m frames
    by (Err fault) r h = cc
    by (Ok entries) r h = found entries r (declared_frames m.constant_pool m.code m.max_locals m.max_stack (initial_types m) entries) refl h

pub there_frames : (m : Method Act) (frames : Frames) → Declares m frames → frames_declared m ≡ Ok frames
there_frames m frames d = ap (frames_of m) (entries_there m.stack_map d.entries d.spelled) ∙ ap or_undeclared d.declared

-- ---- the exception table

holds : (b : Bool) → not b ≡ false → b ≡ true
holds true e = refl
holds false e = cc

is_there : {A : Type 0} (o : Option A) → is_some o ≡ true → (x : A) × (o ≡ Some x)
is_there None e = cc
is_there (Some x) e = (x, refl)

start_there : (code : List (ℕ × Act)) (at : ℕ) → not (has_offset code at) ≡ false → IsStart code at
start_there code at e = let x = is_there (at_offset code at) (holds (has_offset code at) e) in record { what = x.0; here = x.1 }

either : (a b : Bool) → a || b ≡ true → (a ≡ true) ⊎ (b ≡ true)
either true b e = inl refl
either false b e = inr e

either_true : (a b : Bool) → (a ≡ true) ⊎ (b ≡ true) → a || b ≡ true
either_true true b e = refl
either_true false b (inl e) = cc
either_true false b (inr e) = e

module _ (classes : List ClassFact) (m : Method Act) (frames : Frames) where
  end_there : (to : ℕ) → not (is_end m to) ≡ false → IsStart m.code to ⊎ (to ≡ m.code_length)
  end_there to e = elim (either (has_offset m.code to) (nat_eq to m.code_length) (holds (is_end m to) e)) [
    | inl h ↦ inl (let x = is_there (at_offset m.code to) h in record { what = x.0; here = x.1 })
    | inr h ↦ inr (eqb-true to m.code_length h)
  ]

  there_end : (to : ℕ) → IsStart m.code to ⊎ (to ≡ m.code_length) → is_end m to ≡ true
  there_end to (inl s) = either_true (has_offset m.code to) (nat_eq to m.code_length) (inl (ap is_some s.here))
  there_end to (inr e) = either_true (has_offset m.code to) (nat_eq to m.code_length) (inr (eq-eqb to m.code_length e))

  pub sound_of : (e : ExceptionEntry) → NoneHolds (table_conditions classes m frames e) → IsSoundEntry classes m frames e
  sound_of e n = record {
    some = ltb-true e.from e.to (holds (nat_lt e.from e.to) n.0);
    from_start = start_there m.code e.from n.1.0;
    to_start = end_there e.to n.1.1.0;
    handler_start = start_there m.code e.handler n.1.1.1.0;
    handler_frame = is_there (at_offset frames e.handler) (holds (has_offset frames e.handler) n.1.1.1.1.0);
    throwable = answer_yes 72 (type_answer classes (to_reference e.caught) (class throwable_name)) n.1.1.1.1.1;
  }

  of_sound : (e : ExceptionEntry) → IsSoundEntry classes m frames e → NoneHolds (table_conditions classes m frames e)
  of_sound e s = (
    ap not (lt-ltb e.from e.to s.some),
    (
      ap (λ z. not (is_some z)) s.from_start.here,
      (
        ap not (there_end e.to s.to_start),
        (
          ap (λ z. not (is_some z)) s.handler_start.here,
          (
            ap (λ z. not (is_some z)) s.handler_frame.1,
            yes_none 72 (type_answer classes (to_reference e.caught) (class throwable_name)) s.throwable,
          ),
        ),
      ),
    ),
  )

  pub table_sound : (es : List ExceptionEntry) (rest : Verdict) → table_judged classes m frames es rest ≡ verified
      → ((e : ExceptionEntry) → IsAmong e es → IsSoundEntry classes m frames e) × (rest ≡ verified)
  table_sound [] rest v = (λ e i. absurd i, v)
  table_sound (x ∷ es) rest v =
      let n = not_refused (least (table_conditions classes m frames x)) 0 (table_judged classes m frames es rest) v in
      let others = table_sound es rest n.1 in
      (λ e i. by e i n.0 others.0, others.1)
    where
      by : (e : ExceptionEntry) → IsAmong e (x ∷ es) → least (table_conditions classes m frames x) ≡ None → ((e : ExceptionEntry) → IsAmong e es → IsSoundEntry classes m frames e) → IsSoundEntry classes m frames e
      by e (inl i) n others = subst (λ z. IsSoundEntry classes m frames z) (sym i) (sound_of x (none_least (table_conditions classes m frames x) n))
      by e (inr i) n others = others e i

  -- sound entries in front of others change nothing
  pub sound_front : (front es : List ExceptionEntry) (rest : Verdict) → ((e : ExceptionEntry) → IsAmong e front → IsSoundEntry classes m frames e)
      → table_judged classes m frames (front ++ es) rest ≡ table_judged classes m frames es rest
  sound_front [] es rest s = refl
  sound_front (x ∷ front) es rest s =
      ap (λ z. refused_or z 0 (table_judged classes m frames (front ++ es) rest)) (none_told (table_conditions classes m frames x) (of_sound x (s x (inl refl)))) ∙ sound_front front es rest (λ e i. s e (inr i))

  pub sound_table : (es : List ExceptionEntry) (rest : Verdict) → ((e : ExceptionEntry) → IsAmong e es → IsSoundEntry classes m frames e) → table_judged classes m frames es rest ≡ rest
  sound_table es rest s = ap (λ z. table_judged classes m frames z rest) (sym (append-nil es)) ∙ sound_front es [] rest s
