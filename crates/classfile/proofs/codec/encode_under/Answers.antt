use Rattle.classfile.specs.Views.{class_view}
use Rattle.classfile.proofs.Encodings.{encodes, only_memory}
use Rattle.classfile.proofs.codec.encode_under.Goals as goal

pub returns-clause-exact : goal.returns-clause-exact
returns-clause-exact c = encodes c.args.versions (class_view c.args.class.now) (λ v. v.items) c.written.result c.written.ensures

pub returns-clause-only : goal.returns-clause-only
returns-clause-only c = only_memory c.args.versions (class_view c.args.class.now) (λ v. v.items) c.written.result c.written.ensures
