-- A call that writes a text about a class, or about a file that is refused, answers the command.
use Rattle.std.proofs.Common.{◌≡◌, ◌≢◌, ℕ, List, [], Option, Result, Ok, Err, refl, subst, inl, inr}
use Rattle.classfile.specs.Values.{Class}
use Rattle.classfile.specs.Methods.{JudgedClass}
use Rattle.classfile.specs.declared.profile.Profile.{Profile}
use Rattle.hierarchy.specs.Class.{ClassFact}
use Rattle.answers.specs.Answers.{Answered, FileSays}
use Rattle.verify.specs.declared.files.FileFault.{FileFault}
use Rattle.verify.specs.declared.files.FileFault.TheVariants as faults
use Rattle.verify.specs.Files.{Read, IsFormed, IsRefused, OrMemory}
use Rattle.verify.specs.Among.{AnswersAmong}
use Rattle.verify.specs.Beside.{GoWith}
use Rattle.verify.specs.declared.known_classes.AmongFault.{AmongFault}
use Rattle.answers.specs.Files.{File, reads_of, refusal_status}
use Rattle.answers.specs.declared.command.Form.{Form}
use Rattle.answers.specs.Texts.{refusal_line}
use Rattle.answers.specs.declared.fault.AnswerFault.{AnswerFault}
use Rattle.answers.specs.declared.fault.AnswerFault.TheVariants.{OutOfMemory, WriteFailed}

pub answered_more : (P Q : List ℕ → ℕ → Type 0) → ((text : List ℕ) (status : ℕ) → P text status → Q text status)
    → (old new : Option (List ℕ)) (r : Result ℕ AnswerFault) → Answered P old new r → Answered Q old new r
answered_more P Q more old new (Ok status) (text, told, wrote) = (text, more text status told, wrote)
answered_more P Q more old new (Err OutOfMemory) kept = kept
answered_more P Q more old new (Err WriteFailed) (text, status, told, wrote) = (text, status, more text status told, wrote)

-- the text is about a class
pub of_class : (form : Form) (Tells : Class → List ℕ → ℕ → Type 0) (read : Read) (c : Class) (P : List ℕ → ℕ → Type 0) → IsFormed read c
    → ((text : List ℕ) (status : ℕ) → P text status → Tells c text status)
    → (old new : Option (List ℕ)) (r : Result ℕ AnswerFault) → Answered P old new r → Answered (FileSays form Tells read) old new r
of_class form Tells read c P formed tells old new r told =
    answered_more P (FileSays form Tells read) (λ text status p. inl (c, formed, tells text status p)) old new r told

-- the file is refused
refused : (read : Read) (fault : FileFault) → OrMemory read fault → fault ≢ faults.OutOfMemory → IsRefused read fault
refused read faults.OutOfMemory p other = absurd (other refl)
refused read (faults.Unread e) p other = p
refused read (faults.NoClass e) p other = p
refused read (faults.Malformed rule place) p other = p

pub of_refusal : (form : Form) (Tells : Class → List ℕ → ℕ → Type 0) (read : Read) (fault : FileFault) → OrMemory read fault
    → (old new : Option (List ℕ)) (r : Result ℕ AnswerFault)
    → Answered (λ t s. (fault ≢ faults.OutOfMemory) × (t ≡ refusal_line form fault) × (s ≡ refusal_status fault)) old new r
    → Answered (FileSays form Tells read) old new r
of_refusal form Tells read fault why old new r told =
    answered_more (λ t s. (fault ≢ faults.OutOfMemory) × (t ≡ refusal_line form fault) × (s ≡ refusal_status fault)) (FileSays form Tells read)
    (λ text status p. inr (fault, refused read fault why p.0, p.1, p.2)) old new r told

-- ---- the files that go with a class

pub with_files : {R : Type 0} (P : List ClassFact → JudgedClass → R → Type 0) (profile : Profile) (read : Read) (beside : Class → List File) (r : Result R AmongFault)
    → (known : List Read) × GoWith read (λ c. reads_of (beside c)) known × AnswersAmong P profile read known r
    → (files : List File) × GoWith read beside files × AnswersAmong P profile read (reads_of files) r
with_files P profile read beside r (known, inl (fault, why, none), p) = ([], inl (fault, why, refl), subst (λ k. AnswersAmong P profile read k r) none p)
with_files P profile read beside r (known, inr (c, formed, are), p) = (beside c, inr (c, formed, refl), subst (λ k. AnswersAmong P profile read k r) are p)
