use Rattle.std.proofs.Common.{◌≡◌, ◌∙◌, [], Some, map, take, get_or, sym, ap, subst}
use Rattle.std.specs.Prelude.{slice_get}
use Rattle.std.specs.Option.{option_map}
use Rattle.std.proofs.lemmas.Option.{slice_get-map, slice_get-get_or}
use Rattle.classfile.proofs.Places.{take_one_more}
use Rattle.hierarchy.specs.Summary.{facts_of}
use Rattle.verify.specs.declared.files.FileRead.{FileRead}
use Rattle.classfile.specs.declared.versions.Versions.TheVariants.{Java7To17}
use Rattle.verify.specs.declared.files.FileRead.TheVariants.{Bytes}
use Rattle.verify.specs.Files.{read_of}
use Rattle.verify.specs.Each.{AddsFiles}
use Rattle.verify.proofs.OneMore.{one_more_added}
use Rattle.verify.proofs.gathering.Gathered.add_files.Goals as goal

no_read : FileRead
no_read = Bytes record { ref_ptr = (0, 0); now = [] } Java7To17

pub loop-file-preserved : goal.loop-file-preserved
unfolding no_read
loop-file-preserved c =
    let (placed, added) = c.loop-file.invariant in
    let files = c.args.files.now in
    let i = c.loop-file.file-index in
    let read = read_of (get_or files i no_read) in
    let here : slice_get (map read_of files) i ≡ Some read =
    slice_get-map read_of files i ∙ ap (option_map read_of) (slice_get-get_or files i no_read c.loop-file-test.true) in (
      c.in_ok-add_file.ensures.placed,
      subst (λ reads. AddsFiles reads (facts_of c.args.self.now.classes.items) (facts_of c.add_file.new.self.classes.items)) (sym (take_one_more (map read_of files) i read here))
          (one_more_added (take i (map read_of files)) read _ _ _ added c.in_ok-add_file.ensures.added),
    )
