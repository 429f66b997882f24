-- The command that a request asks for: by its number and the sum of the options, and how many of the files it judges.
use Rattle.std.specs.Prelude.{◌≡◌, ◌≤◌, ◌+◌, ◌*◌, ℕ}
use Rattle.classfile.specs.declared.profile.Profile.{Profile}
use Rattle.classfile.specs.declared.profile.Profile.TheVariants.{Default, Dynamic, Release}
use Rattle.answers.specs.declared.command.Form.{Form}
use Rattle.answers.specs.declared.command.Form.TheVariants.{Plain, Json}
use Rattle.answers.specs.declared.command.Command.{Command}
use Rattle.answers.specs.declared.command.Command.TheVariants.{Check, Show, Verify, Explain, Play, VerifyEach}
use Rattle.libclassck.specs.declared.request.Request.{Request}

-- the option of a form
abbrev pub json : Form → ℕ
json Plain = 0
json Json = 1

-- The sum of the options is that of a form and a profile: 2 for `--dynamic`, or 256 times the number of a release.
abbrev pub HaveOptions : ℕ → Form → Profile → Type 0
HaveOptions options form Default = options ≡ json form
HaveOptions options form Dynamic = options ≡ json form + 2
HaveOptions options form (Release n) = (7 ≤ n) × (n ≤ 27) × (options ≡ json form + 256 * n)

-- `check` and `show` judge no calls, so that they have no option for those that are dynamic
abbrev pub IsOfVersions : Profile → Type 0
IsOfVersions Default = Unit {0}
IsOfVersions Dynamic = ⊥
IsOfVersions (Release n) = Unit {0}

-- the request has the number of this command, and its options
abbrev pub Names : Request → Command → Type 0
Names r (Check form profile) = (r.command ≡ 1) × HaveOptions r.options form profile × IsOfVersions profile
Names r (Show profile) = (r.command ≡ 2) × HaveOptions r.options Plain profile × IsOfVersions profile
Names r (Verify form profile) = (r.command ≡ 3) × HaveOptions r.options form profile
Names r (Explain form profile) = (r.command ≡ 4) × HaveOptions r.options form profile
Names r (Play form profile) = (r.command ≡ 5) × HaveOptions r.options form profile
Names r (VerifyEach form profile classes) =
    (r.command ≡ 6) × HaveOptions r.options form profile × (r.classes ≡ classes)

-- the command may judge so many files of so many: as many as a line of the program has
abbrev pub MayJudge : Command → (classes count : ℕ) → Type 0
MayJudge (Check form profile) classes count = (classes ≡ 1) × (count ≡ 1)
MayJudge (Show profile) classes count = (classes ≡ 1) × (count ≡ 1)
MayJudge (Verify form profile) classes count = (classes ≡ 1) × (1 ≤ count)
MayJudge (Explain form profile) classes count = (classes ≡ 1) × (1 ≤ count)
MayJudge (Play form profile) classes count = (classes ≡ count) × (1 ≤ count)
MayJudge (VerifyEach form profile few) classes count = (1 ≤ classes) × (classes ≤ count)

-- the request asks for this command about so many files
abbrev pub Asks : Request → ℕ → Command → Type 0
Asks r count command = Names r command × MayJudge command r.classes count
