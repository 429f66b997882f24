use Rattle.method_frames.specs.private.Holders.{IsListed, key_of}
use Rattle.method_frames.proofs.Listing.{among_none}
use Rattle.method_frames.proofs.holders.Holders.are_none.Goals as goal

pub returns : goal.returns
unfolding IsListed
returns c e object place listed = among_none c.args.self.now.keys.keys (key_of object place) (c.is_empty.ensures.0 e) listed.0
