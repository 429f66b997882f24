use Rattle.std.proofs.Common.{◌∙◌, ap, ap₂, arith}
use Rattle.std.specs.Prelude.{filter}
use Rattle.std.specs.Ordering.{nat_cmp}
use Rattle.std.specs.BTreeMap.Range.{range_contains}
use Rattle.std.specs.declared.ops.Bound.TheVariants.{Included}
use Rattle.method_frames.specs.private.Holders.{key_of}
use Rattle.method_frames.specs.private.Holders.{IsListed, is_among}
use Rattle.method_frames.proofs.Listing.{among_between}
use Rattle.method_frames.proofs.holders.Holders.of.Goals as goal

pub returns : goal.returns
unfolding IsListed
returns c place listed =
    let keys = c.args.self.now.keys.keys in
    let key = key_of c.args.object place in
    let first = c.new.ensures.start ∙ c.key_of.ensures in
    let last = c.new.ensures.end ∙ c.key_of-2.ensures in (
      ap (λ ks. is_among ks key) (c.range.ensures.between c.new.ensures.exhausted)
          ∙ ap₂ (λ lo hi. is_among (filter (range_contains nat_cmp (Included lo) (Included hi)) keys) key) first last
          ∙ among_between (key_of c.args.object 0) (key_of c.args.object 4294967295) key keys (omega arith) (omega (arith, listed.1)) listed.0,
      listed.1,
    )
