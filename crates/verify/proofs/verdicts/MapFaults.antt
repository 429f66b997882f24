-- Where a stack map is refused, it has a fault.
use Rattle.std.proofs.Common.{◌≡◌, ℕ, zero, suc, ◌<◌, ◌≤◌, Bool, true, false, nat_eq, nat_lt, List, [], ◌∷◌, length, Option, Some, None, Result, Ok, Err, refl, sym, ◌∙◌, ap, subst, inl, inr, arith, if◌then◌else◌, ltb-false, le-ltb}
use Rattle.std.proofs.lemmas.Bool.{eqb-false}
use Rattle.layout.specs.Place.{Place}
use Rattle.layout.specs.Format.{reads}
use Rattle.layout.specs.Whole.{no_fault_in_whole, one_whole_fault}
use Rattle.layout.specs.FormatLaws.{reads_spells, reads_fault}
use Rattle.layout.specs.declared.fault.ReadFault.{ReadFault}
use Rattle.layout.specs.declared.fault.ReadFault.TheVariants.{AttributeLength}
use Rattle.hierarchy.specs.Class.{ClassFact}
use Rattle.insn.specs.Meanings.{Act}
use Rattle.insn.specs.Offsets.{at_offset, first_offset}
use Rattle.frames.specs.FrameFact.{FrameFact}
use Rattle.frames.specs.Slots.{in_locals}
use Rattle.frames.specs.Conditions.{Reason, reason, least}
use Rattle.frames.specs.StackMaps.{MapEntry, stack_map, MapFault}
use Rattle.frames.specs.DeclaredFrames.{declared_frames}
use Rattle.classfile.specs.Methods.{Method, ExceptionEntry}
use Rattle.rules.specs.TypingRules.{falls}
use Rattle.rules.specs.Table.{TypingRules}
use Rattle.rules.specs.After.{after}
use Rattle.verify.specs.InitialFrames.{initial_types, initial_frame}
use Rattle.verify.specs.TypeSafety.{Frames}
use Rattle.verify.specs.Verdict.{MapRefusal, unreadable, undeclared, Verdict, refused, map_refused, refused_or, all_entries, entries_read, or_undeclared, frames_of, frames_declared, entry, entered, arrives, at_conditions, passes, code_judged, table_conditions, table_judged, with_frames, verdict}
use Rattle.verify.specs.Refusals.{IsMapFault, MapRefusedWhere}
use Rattle.verify.proofs.Premises.{entries_spelled, entries_there}

body_fault : (body : List ℕ) (fault : ReadFault) (r : Result (List MapEntry × Place) ReadFault) → reads stack_map 0 body ≡ r → all_entries r ≡ Err fault → MapFault body fault
body_fault body fault (Err e) r h = let same : e ≡ fault = cc in inl (reads_fault stack_map 0 body fault (r ∙ ap (λ (z : ReadFault). Err z) same))
body_fault body fault (Ok x) r h = by (nat_eq (length x.1.rest) 0) refl h
  where
    by : (b : Bool) → nat_eq (length x.1.rest) 0 ≡ b → (if b then Ok x.0 else Err (AttributeLength x.1.at)) ≡ Err fault → MapFault body fault
    by true b h = cc
    by false b h =
        let s = reads_spells stack_map 0 body x r in
        let same : AttributeLength x.1.at ≡ fault = cc in
        let more : length x.1.rest ≡ 0 → ⊥ = eqb-false (length x.1.rest) 0 b in
        inr (
          x.1.at,
          sym same,
          record {
            front = s.0;
            others = x.1.rest;
            value = x.0;
            spelled = s.1;
            parts = s.2.parts;
            place = omega (arith, s.2.at);
            some = positive (length x.1.rest) more;
          },
        )
      where
        positive : (n : ℕ) → (n ≡ 0 → ⊥) → 0 < n
        positive zero f = absurd (f refl)
        positive (suc n) f = omega arith

stack_map_fault : (m : Method Act) (o : Option (List ℕ)) → m.stack_map ≡ o → (fault : ReadFault) → entries_read o ≡ Err fault → IsMapFault m (unreadable fault)
stack_map_fault m None o fault e = cc
stack_map_fault m (Some body) o fault e = (body, o, body_fault body fault (reads stack_map 0 body) refl e)

map_fault : (m : Method Act) (why : MapRefusal) → frames_declared m ≡ Err why → IsMapFault m why
map_fault m why e = by (entries_read m.stack_map) refl e
  where
    found : (entries : List MapEntry) → entries_read m.stack_map ≡ Ok entries → (r : Result Frames Reason)
        → declared_frames m.constant_pool m.code m.max_locals m.max_stack (initial_types m) entries ≡ r → or_undeclared r ≡ Err why → IsMapFault m why
    found entries read (Ok frames) d h = cc
    found entries read (Err other) d h =
        let same : undeclared other ≡ why = cc in
        subst (λ z. IsMapFault m z) same (entries, entries_spelled m.stack_map entries read, d)

    by : (r : Result (List MapEntry) ReadFault) → entries_read m.stack_map ≡ r → frames_of m r ≡ Err why → IsMapFault m why
    by (Err fault) r h = let same : unreadable fault ≡ why = cc in subst (λ z. IsMapFault m z) same (stack_map_fault m m.stack_map refl fault r)
    by (Ok entries) r h = found entries r (declared_frames m.constant_pool m.code m.max_locals m.max_stack (initial_types m) entries) refl h

-- ---- no other step answers so

module _ (typing_rule : TypingRules) (classes : List ClassFact) (m : Method Act) (frames : Frames) (why : MapRefusal) where
  reason_clash : (o : Option Reason) (at : ℕ) (rest : Verdict) → (rest ≡ map_refused why → ⊥) → refused_or o at rest ≡ map_refused why → ⊥
  reason_clash None at rest f e = f e
  reason_clash (Some w) at rest f e = cc

  arrival_clash : (cs : List (ℕ × Act)) (b : Bool) (f : FrameFact) → ((g : FrameFact) → passes typing_rule classes m frames cs g ≡ map_refused why → ⊥) → arrives classes frames cs b f (passes typing_rule classes m frames cs) ≡ map_refused why → ⊥
  arrival_clash [] b f rec e = cc
  arrival_clash (c ∷ cs) b f rec e =
      reason_clash (entry classes b f (at_offset frames c.0)) c.0 (passes typing_rule classes m frames (c ∷ cs) (entered f (at_offset frames c.0))) (rec (entered f (at_offset frames c.0))) e

  pass_clash : (cs : List (ℕ × Act)) (f : FrameFact) → passes typing_rule classes m frames cs f ≡ map_refused why → ⊥
  pass_clash [] f e = cc
  pass_clash (c ∷ cs) f e =
      reason_clash (least (at_conditions classes m frames c.0 c.1 (typing_rule m c.1) (first_offset cs) f)) c.0 (arrives classes frames cs (falls (typing_rule m c.1)) (after m c.0 (typing_rule m c.1) f) (passes typing_rule classes m frames cs))
      (arrival_clash cs (falls (typing_rule m c.1)) (after m c.0 (typing_rule m c.1) f) (λ g. pass_clash cs g)) e

  table_clash : (es : List ExceptionEntry) (rest : Verdict) → (rest ≡ map_refused why → ⊥) → table_judged classes m frames es rest ≡ map_refused why → ⊥
  table_clash [] rest f e = f e
  table_clash (x ∷ es) rest f e = reason_clash (least (table_conditions classes m frames x)) 0 (table_judged classes m frames es rest) (table_clash es rest f) e

map_refused_why : (typing_rule : TypingRules) (classes : List ClassFact) (m : Method Act) (why : MapRefusal) → verdict typing_rule classes m ≡ map_refused why → (length (in_locals (initial_types m)) ≤ m.max_locals) × IsMapFault m why
map_refused_why typing_rule classes m why v = by (nat_lt m.max_locals (length (in_locals (initial_types m)))) refl v
  where
    on : (r : Result Frames MapRefusal) → frames_declared m ≡ r → with_frames typing_rule classes m r ≡ map_refused why → IsMapFault m why
    on (Ok frames) r w =
        absurd (table_clash typing_rule classes m frames why m.exceptions (code_judged typing_rule classes m frames) (arrival_clash typing_rule classes m frames why m.code true (initial_frame m) (λ g. pass_clash typing_rule classes m frames why m.code g)) w)
    on (Err other) r w = let same : other ≡ why = cc in map_fault m why (r ∙ ap (λ (z : MapRefusal). Err z) same)

    by : (b : Bool) → nat_lt m.max_locals (length (in_locals (initial_types m))) ≡ b → (if b then refused 0 (reason 64) else with_frames typing_rule classes m (frames_declared m)) ≡ map_refused why
        → (length (in_locals (initial_types m)) ≤ m.max_locals) × IsMapFault m why
    by true b w = cc
    by false b w = (ltb-false m.max_locals (length (in_locals (initial_types m))) b, on (frames_declared m) refl w)

-- ---- and where it has a fault, it is refused

abbrev unreadable_map : ReadFault → Result Frames MapRefusal
unreadable_map fault = Err (unreadable fault)

faulty_map : (m : Method Act) (body : List ℕ) (fault : ReadFault) → MapFault body fault → (r : Result (List MapEntry) ReadFault) → entries_read (Some body) ≡ r → frames_of m r ≡ Err (unreadable fault)
faulty_map m body fault f (Ok entries) r = absurd (no_fault_in_whole stack_map AttributeLength body entries fault (entries_spelled (Some body) entries r) f)
faulty_map m body fault f (Err other) r =
    let there : MapFault body other = body_fault body other (reads stack_map 0 body) refl r in
    ap (λ (z : ReadFault). unreadable_map z) (one_whole_fault stack_map AttributeLength body other fault there f)

pub fault_refused : (m : Method Act) (why : MapRefusal) → IsMapFault m why → frames_declared m ≡ Err why
fault_refused m (unreadable fault) (body, map, f) = ap (λ z. frames_of m (entries_read z)) map ∙ faulty_map m body fault f (entries_read (Some body)) refl
fault_refused m (undeclared why) (entries, spelled, d) = ap (frames_of m) (entries_there m.stack_map entries spelled) ∙ ap or_undeclared d

pub map_refused_where : MapRefusedWhere
map_refused_where typing_rule classes m why = (
  map_refused_why typing_rule classes m why,
  λ x. rw (le-ltb m.max_locals (length (in_locals (initial_types m))) x.0) (ap (with_frames typing_rule classes m) (fault_refused m why x.1)),
)
