use Rattle.answers.specs.Files.{input_view}
use Rattle.libclassck.proofs.ReadFiles.{reads_step}
use Rattle.libclassck.proofs.files.read_files.Goals as goal

pub loop-file-preserved : goal.loop-file-preserved
loop-file-preserved c =
    reads_step (λ file. file.now) input_view c.args.files.now c.loop-file.file-index _ c.loop-file.reads.items c.push.new.self.items c.in_ok-read_file.field-0
    c.loop-file-test.true c.in_ok-push.ensures.items c.loop-file.invariant c.in_ok-read_file.ensures
