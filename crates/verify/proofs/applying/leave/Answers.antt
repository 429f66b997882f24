use Rattle.std.proofs.Common.{◌∙◌, ap}
use Rattle.insn.specs.Meanings.{act}
use Rattle.insn.specs.Offsets.{led_to}
use Rattle.insn.specs.Views.{view}
use Rattle.rules.proofs.Directions.{way_of}
use Rattle.verify.proofs.applying.leave.Goals as goal

pub returns : goal.returns
returns g c = λ m f now own.
    let way = way_of m (act (view c.args.insn.now)) in
    record {
      frame_is = c.in_ok-frame.ensures ∙ now;
      targets_are = c.new.ensures ∙ ap (led_to c.args.at) (c.branches.ensures ∙ way.branches);
      falls_is = c.falls.ensures ∙ way.falls_on;
      own_is = own;
    }
