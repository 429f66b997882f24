use Rattle.std.proofs.Common.{map, sym}
use Rattle.std.proofs.lemmas.List.{length-map}
use Rattle.numbered_rules.proofs.AtOnce.{met_took}
use Rattle.numbered_rules.proofs.operands.took_at_once.Goals as goal

pub returns-then-are_met_at_once-clause-taken : goal.returns-then-are_met_at_once-clause-taken
returns-then-are_met_at_once-clause-taken g c = λ e ws z.
    let all = c.args.asked.now in
    met_took (map g.A.Asked.asked all) c.args.frames.now c.drop_items.new.frames ws _ (sym (length-map all g.A.Asked.asked)) (c.are_met_at_once.ensures c.if-are_met_at_once.true) z c.drop_items.ensures
