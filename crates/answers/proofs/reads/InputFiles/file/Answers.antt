use Rattle.std.proofs.Common.{◌∙◌, ap, option_map}
use Rattle.std.proofs.lemmas.Option.{slice_get-map, slice_get-get_or}
use Rattle.answers.specs.Files.{input_file}
use Rattle.answers.proofs.reads.InputFiles.file.Goals as goal

pub returns : goal.returns
returns c =
    let xs = c.args.self.reads.now in
    let v = c.args.self.versions in
    slice_get-map (input_file v) xs c.args.place
    ∙ ap (option_map (input_file v)) (slice_get-get_or xs c.args.place c.index-self-place.result c.requires)
