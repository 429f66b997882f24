-- Where a stack map is refused, it is told which entry is at fault, if one is.
use Rattle.std.proofs.Common.{◌≡◌, ◌⊎◌, inl, inr, ℕ, ◌<◌, ◌≤◌, Bool, true, false, is_some, nat_eq, nat_lt, List, length, Option, Some, None, Result, Ok, Err, refl, sym, ◌∙◌, ap, arith, ltb-true, ltb-false}
use Rattle.std.proofs.lemmas.Bool.{le-ltb}
use Rattle.std.proofs.lemmas.Bool.Decides.{nat_tests}
use Rattle.std.specs.Option.{option_and_then}
use Rattle.layout.specs.Place.{Place}
use Rattle.layout.specs.Format.{reads}
use Rattle.layout.specs.FormatLaws.{reads_fault}
use Rattle.layout.specs.declared.fault.ReadFault.{ReadFault}
use Rattle.classfile.specs.Methods.{Method}
use Rattle.insn.specs.Meanings.{Act}
use Rattle.frames.specs.Slots.{in_locals}
use Rattle.frames.specs.Conditions.{Reason}
use Rattle.frames.specs.StackMaps.{MapEntry, stack_map}
use Rattle.frames.specs.DeclaredFrames.{declared_frames}
use Rattle.frames.specs.RefusedEntries.{refused_entry, faulty_entry}
use Rattle.frames.proofs.Differences.{some_map, the_some}
use Rattle.frames.proofs.FaultyEntries.{faulty_is_fault}
use Rattle.frames.proofs.Refused.{refused_is_reason}
use Rattle.rules.specs.Table.{typing_rule}
use Rattle.verify.specs.InitialFrames.{initial_types}
use Rattle.verify.specs.TypeSafety.{Frames}
use Rattle.verify.specs.Verdict.{MapRefusal, all_entries, entries_read, or_undeclared, frames_of, frames_declared}
use Rattle.verify.specs.Details.{map_entry, refused_detail, faulty_detail, map_detail_of, map_detail}
use Rattle.verify.specs.Coming.{FramesFact, frames_at}
use Rattle.verify.specs.DetailLaws.{IsInNoEntry, MapDetailsAreTold}
use Rattle.verify.proofs.verdicts.MapFaults.{map_refused_where, fault_refused}
use Rattle.verify.proofs.Meeting.{map_is}

module _ (m : Method Act) where
  -- an entry that declares no frame
  undeclared_told : (entries : List MapEntry) (r : Result Frames Reason) (why : MapRefusal)
      → declared_frames m.constant_pool m.code m.max_locals m.max_stack (initial_types m) entries ≡ r → or_undeclared r ≡ Err why → is_some (map_detail_of m (Ok entries)) ≡ true
  undeclared_told entries (Ok frames) why d e = cc
  undeclared_told entries (Err r) why d e =
      let x = (refused_is_reason m.constant_pool m.code m.max_locals m.max_stack (initial_types m) entries r).0 d in
      some_map refused_detail (refused_entry m.constant_pool m.code m.max_locals m.max_stack (initial_types m) entries) ∙ ap is_some x.1

  -- bytes that spell no entry
  spelled_told : (body : List ℕ) (fault : ReadFault) → m.stack_map ≡ Some body → (r : Result (List MapEntry × Place) ReadFault) → reads stack_map 0 body ≡ r → all_entries r ≡ Err fault
      → (is_some (map_detail_of m (Err fault)) ≡ true) ⊎ IsInNoEntry m
  spelled_told body fault there (Ok x) read e = by (nat_eq (length x.1.rest) 0) refl e
    where
      by : (b : Bool) → nat_eq (length x.1.rest) 0 ≡ b → all_entries (Ok x) ≡ Err fault → (is_some (map_detail_of m (Err fault)) ≡ true) ⊎ IsInNoEntry m
      by true k h = let whole : all_entries (Ok x) ≡ Ok x.0 = rw k refl in cc
      by false k h = let left : 0 < length x.1.rest = grind (arith, nat_tests, k) in inr (body, there, inr (x, read, left))
  spelled_told body fault there (Err f) read e = by (nat_lt (length body) 2) refl
    where
      by : (b : Bool) → nat_lt (length body) 2 ≡ b → (is_some (map_detail_of m (Err fault)) ≡ true) ⊎ IsInNoEntry m
      by true k = inr (body, there, inl (ltb-true (length body) 2 k))
      by false k =
          let long : 2 ≤ length body = ltb-false (length body) 2 k in
          let place = (faulty_is_fault body long).0 (f, reads_fault stack_map 0 body f read) in
          inl (ap (λ o. is_some (option_and_then faulty_detail o)) there ∙ some_map (λ n. map_entry n None) (faulty_entry body) ∙ ap is_some place.1)

  read_told : (o : Option (List ℕ)) → m.stack_map ≡ o → (fault : ReadFault) → entries_read o ≡ Err fault → (is_some (map_detail_of m (Err fault)) ≡ true) ⊎ IsInNoEntry m
  read_told None there fault e = cc
  read_told (Some body) there fault e = spelled_told body fault there (reads stack_map 0 body) refl e

  told_by : (r : Result (List MapEntry) ReadFault) (why : MapRefusal) → entries_read m.stack_map ≡ r → frames_of m r ≡ Err why → (is_some (map_detail_of m r) ≡ true) ⊎ IsInNoEntry m
  told_by (Ok entries) why read e = inl (undeclared_told entries (declared_frames m.constant_pool m.code m.max_locals m.max_stack (initial_types m) entries) why refl e)
  told_by (Err fault) why read e = read_told m.stack_map refl fault read

  map_told : (why : MapRefusal) → frames_declared m ≡ Err why → (is_some (map_detail m) ≡ true) ⊎ IsInNoEntry m
  map_told why e = told_by (entries_read m.stack_map) why refl e

pub map_details_are_told : MapDetailsAreTold
map_details_are_told classes m why e at n =
    let x = (map_refused_where typing_rule classes m why).0 e in
    let d = fault_refused m why x.1 in
    let same = map_is classes m why n at (le-ltb m.max_locals (length (in_locals (initial_types m))) x.0) d in
    elim (map_told m why d) [
      | inl h ↦ inl (the_some (frames_at typing_rule classes m n at).detail (sym (ap (λ (f : FramesFact). is_some f.detail) same) ∙ h))
      | inr h ↦ inr h
    ]
