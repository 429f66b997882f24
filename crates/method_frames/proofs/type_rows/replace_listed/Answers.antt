use Rattle.std.proofs.Common.{refl, inl}
use Rattle.method_frames.proofs.Holding.{none_replaced}
use Rattle.method_frames.proofs.type_rows.replace_listed.Goals as goal

pub returns-then-are_none-clause-only : goal.returns-then-are_none-clause-only
returns-then-are_none-clause-only c = record { rest = refl; size = refl; each = λ place. inl refl }

pub returns-then-are_none-clause-all : goal.returns-then-are_none-clause-all
returns-then-are_none-clause-all c = none_replaced c.args.object c.args.by c.requires.object c.args.holders.now c.args.rows.now.running (c.are_none.ensures c.if-are_none.true) c.requires.listed
