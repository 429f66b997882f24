use Rattle.classfile.specs.private.Pieces.{class_pieces}
use Rattle.classfile.specs.Views.{class_view}
use Rattle.classfile.proofs.codec.written.Goals as goal

pub returns : goal.returns
returns c = c.delivered.ensures (class_pieces c.args.versions (class_view c.args.class.now)) (rw c.new-out.ensures at c.put_class-answer.ensures)
