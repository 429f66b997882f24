use Rattle.std.proofs.Common.{refl}
use Rattle.classfile.specs.Versions.{known_versions}
use Rattle.answers.proofs.Refused.{as_inputs}
use Rattle.answers.proofs.answering.all_known.Goals as goal

pub returns : goal.returns
returns c = as_inputs (known_versions c.args.profile) c.known_versions-versions.result c.args.reads.now _ c.known_versions-versions.ensures refl
