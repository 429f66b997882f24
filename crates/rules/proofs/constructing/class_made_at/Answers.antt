use Rattle.std.proofs.Common.{sym, ap, ◌∙◌}
use Rattle.insn.specs.Offsets.{at_offset}
use Rattle.frames.specs.Marks.{new_index}
use Rattle.rules.specs.Bodies.{method_view}
use Rattle.rules.proofs.Made.{class_of_index, index_made}
use Rattle.rules.proofs.constructing.class_made_at.Goals as goal

pub returns-in-None : goal.returns-in-None
returns-in-None g c =
    let m = method_view c.args.method.now in
    ap (class_of_index m) (sym c.in-None.is ∙ c.class_index.ensures ∙ ap (λ code. new_index (at_offset code c.args.at)) c.requires.code) ∙ index_made m (at_offset m.code c.args.at)
