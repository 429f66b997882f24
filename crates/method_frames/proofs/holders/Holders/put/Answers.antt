use Rattle.std.proofs.Common.{◌≡◌, subst, true, arith}
use Rattle.method_frames.specs.private.Holders.{key_of}
use Rattle.method_frames.specs.private.Holders.{IsListed, is_among}
use Rattle.method_frames.proofs.Listing.{among_kept}
use Rattle.method_frames.proofs.holders.Holders.put.Goals as goal

pub returns-clause-kept : goal.returns-clause-kept
unfolding IsListed
returns-clause-kept c n p listed =
    (among_kept c.args.self.now.keys.keys c.insert.new.self.keys c.key_of.result (key_of n p) (c.in_ok-insert.ensures.updates.0 (key_of n p)) listed.0, listed.1)

pub returns-clause-listed : goal.returns-clause-listed
unfolding IsListed
returns-clause-listed c =
    (subst (λ key. is_among c.insert.new.self.keys key ≡ true) c.key_of.ensures c.in_ok-insert.ensures.updates.1, omega (arith, c.if-place.false))
