-- The text and the status of a call.
use Rattle.std.proofs.Common.{◌≡◌, ◌∙◌, ℕ, suc, ◌+◌, List, [], ◌∷◌, ◌++◌, length, take, drop, map, Some, Ok, inl, inr, refl, sym, ap, subst}
use Rattle.answers.specs.Answers.{Answered, Says}
use Rattle.answers.specs.Files.{Input}
use Rattle.answers.specs.declared.command.Command.{Command}
use Rattle.libclassck.specs.Calls.{Told, NothingAsked, Answers, no_status}
use Rattle.libclassck.specs.Files.{AreFiles, AreReads, ends_from}
use Rattle.libclassck.specs.Requests.{Asks}
use Rattle.libclassck.specs.declared.request.Request.{Request}
use Rattle.libclassck.specs.declared.Outcome.{Outcome}
use Rattle.libclassck.specs.declared.no_answer.NoAnswer.{NoAnswer}
use Rattle.libclassck.specs.declared.no_answer.NoAnswer.TheVariants.{NotAsked, OutOfMemory}

-- there are as many ends as files
as_many : (start : ℕ) (files : List (List ℕ)) → length (ends_from start files) ≡ length files
as_many start [] = refl
as_many start (file ∷ files) = ap suc (as_many (start + length file) files)

ends_count : (bytes ends : List ℕ) (files : List (List ℕ)) → AreFiles bytes ends files → length ends ≡ length files
ends_count bytes ends files are = ap length are.places ∙ as_many 0 files

-- of files that `f` sees, and reads that `v` sees
pub told_by : {X R : Type 0} (f : X → List ℕ) (v : R → Input) (r : Request) (bytes ends before text : List ℕ) (status : ℕ) (files lent : List X) (command : Command)
    (reads given : List R) → Asks r (length ends) command → AreFiles bytes ends (map f files) → lent ≡ files → AreReads (map f lent) (map v reads) → given ≡ reads
    → before ≡ [] → Answered (Says command (map v given)) (Some before) (Some text) (Ok status) → Told r bytes ends text status
told_by {X = X} {R = R} f v r bytes ends before text status files lent command reads given asks are is read same none answered =
    let told = answered.0 in
    let written : text ≡ told = answered.2 ∙ ap (λ (l : List ℕ). l ++ told) none in
    let said : Says command (map v reads) told status = subst (λ (l : List R). Says command (map v l) told status) same answered.1 in
    record {
      files = map f files;
      held = are;
      command = command;
      asked = subst (λ (n : ℕ). Asks r n command) (ends_count bytes ends (map f files) are) asks;
      reads = map v reads;
      read = subst (λ (l : List X). AreReads (map f l) (map v reads)) is read;
      said = subst (λ (t : List ℕ). Says command (map v reads) t status) (sym written) said;
    }

pub nothing_by_request : (r : Request) (bytes ends : List ℕ) → ((command : Command) → Asks r (length ends) command → ⊥) → NothingAsked r bytes ends
nothing_by_request r bytes ends none files command are asks =
    none command (subst (λ (n : ℕ). Asks r n command) (sym (ends_count bytes ends files are)) asks)

pub given : (r : Request) (bytes ends old new text : List ℕ) (outcome : Outcome) → Told r bytes ends text outcome.status → outcome.needed ≡ length text
    → new ≡ take (length old) text ++ drop (length text) old → Answers r bytes ends old new outcome
given r bytes ends old new text outcome told needed put = inl (text, told, needed, put)

pub none_given : (r : Request) (bytes ends old new : List ℕ) (outcome : Outcome) (e : NoAnswer) → (e ≡ NotAsked → NothingAsked r bytes ends)
    → outcome.status ≡ no_status e → outcome.needed ≡ 0 → new ≡ old → Answers r bytes ends old new outcome
none_given r bytes ends old new outcome NotAsked nothing status needed same = inr (inl (status, nothing refl), needed, same)
none_given r bytes ends old new outcome OutOfMemory nothing status needed same = inr (inr status, needed, same)
