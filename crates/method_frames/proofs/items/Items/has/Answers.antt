use Rattle.std.proofs.Common.{◌∙◌, ap, sym}
use Rattle.method_frames.specs.Objects.{holds}
use Rattle.method_frames.proofs.Among.{holds_reverse}
use Rattle.method_frames.proofs.items.Items.has.Goals as goal

pub returns : goal.returns
returns c =
    let x = c.self.inside in
    c.has_listed.ensures ∙ ap (holds c.args.object) c.deref.ensures.value ∙ sym (holds_reverse c.args.object x.numbers.items) ∙ ap (holds c.args.object) c.self.view_is
