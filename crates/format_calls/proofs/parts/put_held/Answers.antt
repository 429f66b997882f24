use Rattle.std.proofs.Common.{[], ◌∷◌}
use Rattle.layout.specs.Pieces.{plain}
use Rattle.layout.specs.AttributeLaws.{still}
use Rattle.format_calls.proofs.parts.put_held.Goals as goal

pub end-requires : goal.end-requires
end-requires c = still (plain c.args.bytes.now ∷ []) c.args.out.now c.begin.new.self c.put_bytes.new.self c.in_ok-mark.mark c.in_ok-mark.ensures c.in_ok-put_bytes.ensures
