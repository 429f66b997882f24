use Rattle.method_frames.proofs.MapWriting.{rest_given}
use Rattle.method_frames.proofs.declaring.change_all.Goals as goal

pub append_all-requires-clause-given : goal.append_all-requires-clause-given
append_all-requires-clause-given g c = rest_given c.args.frames.now c.chop.new.frames c.args.numbers.now c.common-kept.result c.requires.given c.in_ok-chop.ensures.rest
