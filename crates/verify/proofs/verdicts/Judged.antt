-- The verdict on a method, step by step.
use Rattle.std.proofs.Common.{◌≡◌, true, false, nat_lt, List, length, Some, Err, refl, ap}
use Rattle.classfile.specs.Methods.{Method}
use Rattle.hierarchy.specs.Class.{ClassFact}
use Rattle.insn.specs.Meanings.{Act}
use Rattle.frames.specs.Slots.{in_locals}
use Rattle.frames.specs.Conditions.{reason, with_fault}
use Rattle.rules.specs.ReasonNumbers.{bad_stack_map}
use Rattle.rules.specs.Table.{typing_rule}
use Rattle.verify.specs.InitialFrames.{initial_types}
use Rattle.verify.specs.Verdict.{refused, map_refused, MapRefusal, map_fault_number, told_of, frames_declared, with_frames, verdict}

module _ (m : Method Act) (classes : List ClassFact) where
  pub too_narrow : nat_lt m.max_locals (length (in_locals (initial_types m))) ≡ true → verdict typing_rule classes m ≡ refused 0 (reason 64)
  too_narrow e = rw e refl

  module _ (wide : nat_lt m.max_locals (length (in_locals (initial_types m))) ≡ false) where
    pub map_told : (why : MapRefusal) → frames_declared m ≡ Err why
        → told_of (verdict typing_rule classes m) ≡ Some (0, with_fault bad_stack_map (map_fault_number why))
    map_told why d = let e : verdict typing_rule classes m ≡ map_refused why = rw wide (ap (with_frames typing_rule classes m) d) in ap told_of e
