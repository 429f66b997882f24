-- Refusals of files, from what the verifier says of them.
use Rattle.std.proofs.Common.{◌≡◌, ℕ, ◌-◌, ◌<◌, List, Ok, Err, map, length, Result, ◌∙◌, ap, arith}
use Rattle.std.specs.Prelude.{Vec}
use Rattle.std.proofs.lemmas.Option.{slice_get_within}
use Rattle.classfile.specs.declared.profile.Profile.{Profile}
use Rattle.classfile.specs.declared.versions.Versions.{Versions}
use Rattle.classfile.specs.Values.{Class}
use Rattle.classfile.specs.Laws.{OneClass}
use Rattle.verify.specs.declared.known_classes.AmongFault.{AmongFault}
use Rattle.verify.specs.declared.known_classes.AmongFault.TheVariants.{OutOfMemory, Refused, KnownRefused, NoHierarchy, Final}
use Rattle.verify.specs.Among.{ReportsAmong}
use Rattle.classfile.specs.declared.reading.CutShort.{CutShort}
use Rattle.verify.specs.Files.{Read, IsFormed}
use Rattle.printing.proofs.Fields.{of_views}
use Rattle.answers.specs.Files.{Input, File, file_with, input_view, input_file, input_read, reads_of, CountsKnown}

-- a file is one class
pub one_file : OneClass → (read : Read) (c d : Class) → IsFormed read c → IsFormed read d → c ≡ d
one_file law (Ok file) c d p q = law file.versions file.bytes c d p.0 q.0
one_file law (Err fault) c d p q = absurd p

-- a known class that is refused has a number
pub counted : (profile : Profile) (read : Read) (known : List Read) (fault : AmongFault) → ReportsAmong profile read known (Err fault)
    → CountsKnown fault (length known)
counted profile read known OutOfMemory p = tt
counted profile read known (Refused fault) p = tt
counted profile read known (KnownRefused number fault) (c, i, formed, same, first) =
    let lt : i < length known = slice_get_within known i first.read first.here in
    (omega (arith, same), omega (arith, same, lt))
counted profile read known (NoHierarchy fault) p = tt
counted profile read known (Final rule) p = tt

-- what was read of each file
pub viewed : {Z : Type 0} (v : Versions) (xs : List (Result (Vec ℕ Z) CutShort)) → map (input_read v) xs ≡ reads_of (map (input_file v) xs)
viewed v xs = of_views (λ (file : File). file.read) (input_file v) xs

-- files of these versions, by what was read of them
pub as_inputs : {Z : Type 0} (v w : Versions) (xs : List (Result (Vec ℕ Z) CutShort)) (inputs : List Input) → w ≡ v → map input_view xs ≡ inputs
    → map (input_file w) xs ≡ map (file_with v) inputs
as_inputs v w xs inputs same are =
    ap (λ u. map (input_file u) xs) same ∙ of_views (file_with v) input_view xs ∙ ap (map (file_with v)) are
