-- Each method of playable classes is in play, and so its runs are class runs.
use Rattle.std.proofs.Common.{◌≡◌, ℕ, not, List, [], ◌∷◌, map, Option, Some, None, Result, Ok, Err, ◌⊎◌, inl, inr, sym, ap, refl, ◌∙◌, subst}
use Rattle.std.specs.Option.{option_and_then}
use Rattle.names.specs.Descriptors.{MethodDescriptor}
use Rattle.names.specs.Reading.{method_answer}
use Rattle.pool.specs.Entries.{Entry}
use Rattle.pool.specs.Lookups.{text_at}
use Rattle.pool.specs.ConstantMeanings.{found, class_at}
use Rattle.pool.proofs.LookupLaws.{text_stands}
use Rattle.classfile.specs.Flags.{has, STATIC}
use Rattle.classfile.specs.Values.{CodeBody, Member}
use Rattle.classfile.specs.Methods.{JudgedClass, Method, ExceptionEntry, class_named, member_type, exception_entries, method_with, method_from}
use Rattle.hierarchy.specs.World.{World}
use Rattle.hierarchy.specs.Class.{ClassFact}
use Rattle.insn.specs.Meanings.{Act}
use Rattle.insn.specs.Offsets.{acts, IsAmong}
use Rattle.machine.specs.Demands.{State, IsNoFault}
use Rattle.machine.specs.Steps.{goes_on, Happens}
use Rattle.machine.specs.Runs.{IsRun}
use Rattle.verify.specs.Safety.{IsSafe}
use Rattle.verify.specs.ClassMethods.{IsMethod}
use Rattle.verify.specs.ClassRuns.{Callee, state_in, types_of, activation, Moment, moment, IsClassRun}
use Rattle.verify.specs.ClassRunSafety.{IsInPlay, ArePlayable}
use Rattle.verify.specs.PlayableMethods.{AllAreInPlay, PlayableIsSafe}
use Rattle.verify.proofs.safety.ClassMoments.{round}
use Rattle.verify.proofs.safety.OneMethod.{in_all}

-- ---- the names of a method with code

some_where : {A : Type 0} (o : Option A) → (o ≡ None → ⊥) → (a : A) × (o ≡ Some a)
some_where None n = absurd (n refl)
some_where (Some a) n = (a, refl)

ok_where : {A E : Type 0} (r : Result A E) (a : A) → found r ≡ Some a → r ≡ Ok a
ok_where (Ok b) a e = let q : b ≡ a = cc in ap Ok q
ok_where (Err x) a e = cc

needs_name : (c : JudgedClass) (member : Member) (code : List (ℕ × Act)) (body : CodeBody) (oc on : Option (List ℕ)) (ot : Option MethodDescriptor) (oe : Option (List ExceptionEntry)) (m : Method Act) → method_with c member code body oc on ot oe ≡ Some m
    → ((on ≡ None) ⊎ (ot ≡ None)) → ⊥
needs_name c member code body (Some k) (Some name) (Some type) (Some exceptions) m e (inl q) = cc
needs_name c member code body (Some k) (Some name) (Some type) (Some exceptions) m e (inr q) = cc
needs_name c member code body _ _ _ _ m e q = cc

module _ (c : JudgedClass) (number : ℕ) (m : Method Act) (i : IsMethod c number m) where
  abbrev pool : List Entry
  pool = c.file.constant_pool

  named : ((found (text_at pool i.member.name) ≡ None) ⊎ (member_type pool i.member ≡ None)) → ⊥
  named q =
      let code = acts i.instructions in
      let e : option_and_then (method_from c code) (Some i.member) ≡ Some m = sym (ap (option_and_then (method_from c code)) i.numbered) ∙ i.method in
      let build : CodeBody → Option (Method Act) = λ body. method_with c i.member code body (class_named (class_at pool c.file.this_class)) (found (text_at pool i.member.name)) (member_type pool i.member) (exception_entries pool body.exception_table) in
      let f : build i.body ≡ Some m = sym (ap (option_and_then build) i.has_code) ∙ e in
      needs_name c i.member code i.body (class_named (class_at pool c.file.this_class)) (found (text_at pool i.member.name)) (member_type pool i.member) (exception_entries pool i.body.exception_table) m f q

  name : (n : List ℕ) × (found (text_at pool i.member.name) ≡ Some n)
  name = some_where (found (text_at pool i.member.name)) (λ e. named (inl e))

  descriptor : (d : List ℕ) × (found (text_at pool i.member.descriptor) ≡ Some d)
  descriptor = some_where (found (text_at pool i.member.descriptor)) (λ e. named (inr (ap (option_and_then (λ text. found (method_answer (not (has i.member.access_flags STATIC)) text))) e)))

pub all_are_in_play : AllAreInPlay
all_are_in_play cs c among number m i =
    let n = name c number m i in
    let d = descriptor c number m i in
    let k : Callee = record { name = n.0; descriptor = d.0; method = m } in
    record {
      callee = k;
      in_play = record { class = c; among = among; number = number; method = i; name = n.1; descriptor = d.1 };
      method = refl;
      member = i.member;
      numbered = i.numbered;
      name = text_stands c.file.constant_pool i.member.name n.0 (ok_where (text_at c.file.constant_pool i.member.name) n.0 n.1);
      descriptor = text_stands c.file.constant_pool i.member.descriptor d.0 (ok_where (text_at c.file.constant_pool i.member.descriptor) d.0 d.1);
    }

-- ---- a run of a method in play, with one activation

abbrev alone : Method Act → State → Moment
alone m s = moment (types_of s.heap) (activation m s ∷ [])

again : (m : Method Act) (s : State) → state_in (types_of s.heap) (activation m s) ≡ s
again m s = round (types_of s.heap) m s (λ a. refl)

module _ (w : World) (cs : List JudgedClass) (k : Callee) (in_play : IsInPlay cs k) where
  runs_alone : (run : List State) → IsRun w k.method run → IsClassRun w (IsInPlay cs) (map (alone k.method) run)
  runs_alone [] r = elim r [ ]
  runs_alone (s ∷ []) r = record { callee = k; in_play = in_play; state = s; initial = r; result = refl }
  runs_alone (t ∷ (s ∷ ss)) r =
      (inl (r.0.0, record { state = t; happens = subst (λ z. Happens w k.method z r.0.0 (goes_on t)) (sym (again k.method s)) r.0.1; result = refl }), runs_alone (s ∷ ss) r.1)

among_moments : (m : Method Act) (s : State) (run : List State) → IsAmong s run → IsAmong (alone m s) (map (alone m) run)
among_moments m s [] i = elim i [ ]
among_moments m s (x ∷ xs) (inl e) = inl (ap (alone m) e)
among_moments m s (x ∷ xs) (inr i) = inr (among_moments m s xs i)

safe_alone : (classes : List ClassFact) (cs : List JudgedClass) → ArePlayable classes cs → (k : Callee) → IsInPlay cs k → IsSafe classes k.method
safe_alone classes cs p k in_play w x run r s i =
    subst (IsNoFault w k.method) (again k.method s)
    (p w x (map (alone k.method) run) (runs_alone w cs k in_play run r) (alone k.method s) (among_moments k.method s run i) (activation k.method s) (inl refl))

pub playable_is_safe : PlayableIsSafe
playable_is_safe classes cs p c among number m i =
    let k = all_are_in_play cs c among number m i in
    in_all classes m (subst (IsSafe classes) k.method (safe_alone classes cs p k.callee k.in_play))
