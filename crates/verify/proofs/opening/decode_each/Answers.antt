use Rattle.std.proofs.Common.{◌≡◌, ◌∙◌, ◌+◌, ◌++◌, ◌∷◌, [], Some, map, take, get_or, sym, ap, subst}
use Rattle.std.specs.Prelude.{slice_get}
use Rattle.std.specs.Option.{option_map}
use Rattle.std.proofs.lemmas.Option.{slice_get-map, slice_get-get_or}
use Rattle.classfile.proofs.Places.{take_one_more}
use Rattle.classfile.specs.declared.versions.Versions.TheVariants.{Java7To17}
use Rattle.verify.specs.declared.files.FileRead.{FileRead}
use Rattle.verify.specs.declared.files.FileRead.TheVariants.{Bytes}
use Rattle.verify.specs.Files.{read_of}
use Rattle.verify.specs.private.OpeningSteps.{AreDecodedEach, IsDecodedOr}
use Rattle.verify.proofs.Openings.{each_more}
use Rattle.verify.proofs.opening.decode_each.Goals as goal

no_read : FileRead
no_read = Bytes record { ref_ptr = (0, 0); now = [] } Java7To17

pub loop-file-preserved : goal.loop-file-preserved
unfolding no_read
loop-file-preserved c =
    let files = c.args.files.now in
    let i = c.loop-file.file-index in
    let read = read_of (get_or files i no_read) in
    let here : slice_get (map read_of files) i ≡ Some read =
    slice_get-map read_of files i ∙ ap (option_map read_of) (slice_get-get_or files i no_read c.loop-file-test.true) in
    let old = c.loop-file.classes.items in
    let x = c.class_in.result in
    subst (AreDecodedEach (take (i + 1) (map read_of files))) (sym c.in_ok-push.ensures.items)
    (subst (λ reads. AreDecodedEach reads (old ++ x ∷ [])) (sym (take_one_more (map read_of files) i read here))
    (each_more IsDecodedOr (take i (map read_of files)) old read x c.loop-file.invariant c.class_in.ensures))
