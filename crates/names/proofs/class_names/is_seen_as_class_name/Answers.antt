use Rattle.std.proofs.Common.{ne_eqb}
use Rattle.names.proofs.JoinedNames.{joined_to_the_end}
use Rattle.names.proofs.class_names.is_seen_as_class_name.Goals as goal

pub returns : goal.returns
returns c joined =
    joined_to_the_end c.args.bytes.now c.in-len2-up.len_at_least (ne_eqb _ _ c.if-first-eq47.false) (c.is_plain.ensures c.if-not-is_plain.false) (c.are_joined.ensures joined)
