-- One message and its reply: the text, and the classes that are known then.
use Rattle.std.specs.Prelude.{◌≡◌, ◌≢◌, ◌⊎◌, ℕ, true, false, List, [], ◌∷◌, ◌++◌}
use Rattle.classfile.specs.Values.{Class}
use Rattle.classfile.specs.declared.profile.Profile.{Profile}
use Rattle.hierarchy.specs.ClassSummary.{summary_of}
use Rattle.verify.specs.Files.{IsFormed, IsRefused}
use Rattle.verify.specs.declared.files.FileFault.{FileFault}
use Rattle.answers.specs.Files.{Input, known_file, judged_file}
use Rattle.answers.specs.Verdicts.{BesideSays}
use Rattle.answers.specs.declared.manner.Manner.{Manner}
use Rattle.answers.specs.declared.manner.Manner.TheVariants as manners
use Rattle.serving.specs.Messages.{MessageFact, ReplyFact}
use Rattle.serving.specs.Lines.{known_line, refused_line, twice_line}
use Rattle.serving.specs.KnownClasses.{KnownClass, IsReadOf, is_known, standing_beside, files, others}
use Rattle.serving.specs.declared.message.Kind.{Kind}
use Rattle.serving.specs.declared.message.Kind.TheVariants.{Known, Verify, Define, Explain, Forget}
use Rattle.serving.specs.declared.setting.Setting.{Setting}

-- k: the class becomes known, after the others; or the file is refused, or a class of its name is known: all stays.
abbrev pub Introduces : Setting → List KnownClass → Input → ReplyFact → List KnownClass → Type 0
Introduces s old file reply new =
    ((r : FileFault) × IsRefused (known_file s.profile file).read r
    × (reply ≡ record { status = 1; text = refused_line s.form r }) × (new ≡ old))
    ⊎ ((c : Class) × IsFormed (known_file s.profile file).read c
    × (((is_known old (summary_of c).name ≡ true) × (reply ≡ record { status = 1; text = twice_line s.form })
    × (new ≡ old))
    ⊎ ((is_known old (summary_of c).name ≡ false)
    × (reply ≡ record { status = 0; text = known_line s.form (summary_of c).name (summary_of c).superclass })
    × (new ≡ old ++ record { file = file; class = c } ∷ []))))

-- v, x: the text and the status of `verify` or `explain` about the class and the known ones of other names that stand
-- where it is in front of them; or about the file alone, where it is refused
abbrev pub Judges : Manner → Profile → List KnownClass → Input → ReplyFact → Type 0
Judges manner profile known file reply =
    BesideSays manner profile (judged_file profile file)
    (λ c. files profile (standing_beside (summary_of c) known)) reply.text reply.status

-- The class that is defined becomes known, after the others, and one of its name is known no longer. (Each version that
-- is judged is one that a known class may have, so that its file is not refused.)
abbrev pub Defines : Profile → List KnownClass → Input → List KnownClass → Type 0
Defines profile old file new =
    ((r : FileFault) × IsRefused (known_file profile file).read r × (new ≡ old))
    ⊎ ((c : Class) × IsFormed (known_file profile file).read c
    × (new ≡ others (summary_of c).name old ++ record { file = file; class = c } ∷ []))

-- d: that of `verify`; and if nothing is refused, the class is defined
abbrev pub JudgesAndDefines : Setting → List KnownClass → Input → ReplyFact → List KnownClass → Type 0
JudgesAndDefines s old file reply new = Judges (manners.Told s.form) s.profile old file reply
    × (((reply.status ≡ 0) × Defines s.profile old file new) ⊎ ((reply.status ≢ 0) × (new ≡ old)))

-- the step of a message of a kind with these bytes
abbrev pub StepsBy : Setting → Kind → List ℕ → List KnownClass → ReplyFact → List KnownClass → Type 0
StepsBy s Known bytes old reply new = (file : Input) × IsReadOf bytes file × Introduces s old file reply new
StepsBy s Verify bytes old reply new = (file : Input) × IsReadOf bytes file
    × Judges (manners.Told s.form) s.profile old file reply × (new ≡ old)
StepsBy s Explain bytes old reply new = (file : Input) × IsReadOf bytes file
    × Judges (manners.Explained s.form) s.profile old file reply × (new ≡ old)
StepsBy s Define bytes old reply new = (file : Input) × IsReadOf bytes file × JudgesAndDefines s old file reply new
StepsBy s Forget bytes old reply new = (reply ≡ record { status = 0; text = [] }) × (new ≡ [])

-- the step of a message: from the known classes to the reply, and to those that are known then
abbrev pub Steps : Setting → List KnownClass → MessageFact → ReplyFact → List KnownClass → Type 0
Steps s old m reply new = StepsBy s m.kind m.bytes old reply new
