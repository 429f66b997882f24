use Rattle.std.proofs.Common.{◌∙◌, map, reverse, ap, sym, subst}
use Rattle.method_frames.specs.Objects.{replaced}
use Rattle.method_frames.specs.private.Holders.{AreItems}
use Rattle.method_frames.proofs.Among.{counted_replaced}
use Rattle.method_frames.proofs.Counting.{map_reverse}
use Rattle.method_frames.proofs.Holding.{listed_map}
use Rattle.method_frames.proofs.items.Items.replace.Goals as goal

pub invariant_of-self : goal.invariant_of-self
invariant_of-self c =
    let x = c.self.inside in
    let ns = x.numbers.items in
    subst (λ row. AreItems row x.wides x.holders) (sym c.replace_listed.ensures) (record {
      counted = counted_replaced c.args.object c.args.by c.requires.object c.requires.narrow ns x.wides c.self.invariant.counted;
      listed = listed_map x.holders ns c.args.object c.args.by c.requires.none c.self.invariant.listed;
    })

pub returns : goal.returns
returns c =
    let x = c.self.inside in
    let f = replaced c.args.object c.args.by in
    ap reverse c.replace_listed.ensures ∙ sym (map_reverse f x.numbers.items) ∙ ap (map f) c.self.view_is
