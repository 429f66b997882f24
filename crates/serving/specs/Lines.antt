-- The line that answers a class that is to be known, and the one with which the program ends where it stops.
use Rattle.std.specs.Prelude.{ℕ, List, [], ◌∷◌, ◌++◌, codes, decimal, Option, Some, None}
use Rattle.hierarchy.specs.Class.{ClassFact}
use Rattle.printing.specs.Json.{Field, number, spelled, object_line}
use Rattle.printing.specs.Names.{spelled_text}
use Rattle.verify.specs.declared.files.FileFault.{FileFault}
use Rattle.answers.specs.declared.command.Form.{Form}
use Rattle.answers.specs.declared.command.Form.TheVariants.{Plain, Json}
use Rattle.serving.specs.declared.known.KnownFault.{KnownFault}
use Rattle.serving.specs.declared.known.KnownFault.TheVariants as known
use Rattle.serving.specs.declared.stop.ServeFault.{ServeFault}
use Rattle.serving.specs.declared.stop.ServeFault.TheVariants.{NotKnown, Stopped}
use Rattle.serving.specs.declared.stop.Stop.{Stop}
use Rattle.serving.specs.declared.stop.Stop.TheVariants.{OutOfMemory, NoRandom, Cut, NoKind, TooLong, ReadFailed, NotWritten, TooMany}
use Rattle.answers.specs.Texts.{kind, answer, refusal_text, refusal_fields}

-- the name of the superclass, or `none`
abbrev pub super_text : Option (List ℕ) → List ℕ
super_text (Some name) = spelled_text name
super_text None = codes "none"

abbrev pub super_fields : Option (List ℕ) → List Field
super_fields (Some name) = (codes "super", spelled name) ∷ []
super_fields None = []

-- the class is known now
abbrev pub known_line : Form → List ℕ → Option (List ℕ) → List ℕ
known_line Plain name super =
    codes "known " ++ (spelled_text name ++ (codes " super " ++ (super_text super ++ codes "\n")))
known_line Json name super =
    object_line (kind (codes "known") ∷ answer (codes "ok") ∷ (codes "name", spelled name) ∷ super_fields super)

-- the file is no class that is well formed
abbrev pub refused_line : Form → FileFault → List ℕ
refused_line Plain r = codes "known refused " ++ (refusal_text r ++ codes "\n")
refused_line Json r = object_line (kind (codes "known") ∷ answer (codes "refused") ∷ refusal_fields r)

-- a class of its name is known already
abbrev pub twice_line : Form → List ℕ
twice_line Plain = codes "known refused 40\n"
twice_line Json = object_line (kind (codes "known") ∷ answer (codes "refused") ∷ (codes "number", number 40) ∷ [])

-- ---- on standard error

-- why a known file of the line is none
abbrev pub fault_text : KnownFault → List ℕ
fault_text known.OutOfMemory = codes "1"
fault_text (known.Refused r) = refusal_text r
fault_text known.Twice = codes "40"

abbrev pub stop_line : Stop → List ℕ
stop_line OutOfMemory = codes "refused 1\n"
stop_line NoRandom = codes "no random words\n"
stop_line Cut = codes "a message is cut\n"
stop_line NoKind = codes "a message has no kind\n"
stop_line TooLong = codes "a message is too long\n"
stop_line ReadFailed = codes "the messages cannot be read\n"
stop_line NotWritten = codes "refused 19\n"
stop_line TooMany = codes "too many messages\n"

abbrev pub serve_line : ServeFault → List ℕ
serve_line (NotKnown position fault) =
    codes "known " ++ (decimal position ++ (codes " refused " ++ (fault_text fault ++ codes "\n")))
serve_line (Stopped stop) = stop_line stop
