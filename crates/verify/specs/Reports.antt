-- The report on a class: of each method its name, its descriptor and its verdict, in the order of the file (JVMS
-- 4.10.1).
use Rattle.std.specs.Prelude.{◌≡◌, ℕ, List, length, slice_get, Some, None, Result, Ok, Err}
use Rattle.pool.specs.Lookups.{named}
use Rattle.classfile.specs.Values.{Member, Class}
use Rattle.classfile.specs.Methods.{JudgedClass}
use Rattle.classfile.specs.CodeMethods.{judged}
use Rattle.classfile.specs.declared.profile.Profile.{Profile}
use Rattle.classfile.specs.Versions.{judged_versions}
use Rattle.classfile.specs.ClassFile as class_files
use Rattle.classfile.specs.ClassFile.{IsClass}
use Rattle.classfile.specs.WellFormed.{WellFormed, IsFirstFault}
use Rattle.hierarchy.specs.Class.{ClassFact}
use Rattle.hierarchy.specs.ClassSummary.{summary_of}
use Rattle.verify.specs.declared.verdict.Verdict.TheVariants.{Verified}
use Rattle.verify.specs.declared.report.MethodVerdict.{MethodVerdict}
use Rattle.verify.specs.declared.report.Report.{Report}
use Rattle.verify.specs.declared.report.ClassFault.{ClassFault}
use Rattle.verify.specs.declared.report.ClassFault.TheVariants.{OutOfMemory, NoClass, Malformed, NotInHierarchy, Final}
use Rattle.verify.specs.ClassMethods.{IsSafeIn}
use Rattle.verify.specs.Listed.{IsListed}
use Rattle.verify.specs.FinalRules.{final_rule}
use Rattle.verify.specs.Answers.{Answers, VerifiesTypeSafe}

-- this is the method of this number, with the verdict on it
pub record IsReported (classes : List ClassFact) (c : JudgedClass) (number : ℕ) (r : MethodVerdict) : Type 0 where
  pub member : Member
  pub numbered : slice_get c.file.methods number ≡ Some member
  pub called : named c.file.constant_pool member.name member.descriptor
      ≡ Ok (record { name = r.name.bytes.now; descriptor = r.descriptor.bytes.now })
  pub exactly : Answers classes c number (Ok r.verdict)
  pub only : VerifiesTypeSafe classes c number (Ok r.verdict)
  -- a method that is verified is safe, in all five parts of that and in every world that extends the hierarchy
  pub safe : r.verdict ≡ Verified → IsSafeIn classes c number

-- this is the report on a class that the hierarchy has as it is, even if the class has no methods
pub record IsReport (classes : List ClassFact) (c : JudgedClass) (rs : List MethodVerdict) : Type 0 where
  pub listed : IsListed classes c.file
  pub all : length rs ≡ length c.file.methods
  pub each : (number : ℕ) (r : MethodVerdict) → slice_get rs number ≡ Some r → IsReported classes c number r

-- The answer about a class that is well formed, by the first of these that holds: the hierarchy does not have it as it
-- is (80); it breaks a rule on final classes and methods there (81, 85); and otherwise there is a report.
abbrev pub Reports : List ClassFact → JudgedClass → Result Report ClassFault → Type 0
Reports classes c (Ok report) = (final_rule classes (summary_of c.file) ≡ None)
    × IsReport classes c report.methods.items
Reports classes c (Err OutOfMemory) = Unit {0}
Reports classes c (Err NotInHierarchy) = IsListed classes c.file → ⊥
Reports classes c (Err (Final rule)) = IsListed classes c.file × (final_rule classes (summary_of c.file) ≡ Some rule)
Reports classes c (Err (NoClass fault)) = ⊥
Reports classes c (Err (Malformed rule place)) = ⊥

-- the answer about bytes, by a profile: their fault as a class file, or the rule that the class breaks first, or the
-- answer about a class that is well formed
abbrev pub ReportsBytes : Profile → List ClassFact → List ℕ → Result Report ClassFault → Type 0
ReportsBytes profile classes bytes (Err OutOfMemory) = Unit {0}
ReportsBytes profile classes bytes (Err (NoClass fault)) =
    class_files.ClassFault (judged_versions profile) bytes fault
ReportsBytes profile classes bytes (Err (Malformed rule place)) = (c : Class)
    × IsClass (judged_versions profile) bytes c × IsFirstFault c rule place
ReportsBytes profile classes bytes answer = (c : Class) × IsClass (judged_versions profile) bytes c × WellFormed c
    × Reports classes (judged profile c) answer
