use Rattle.std.proofs.Common.{◌≡◌, ◌∙◌, ◌++◌, ◌∷◌, [], ◌+◌, Some, arith, slice_get, take, sym, ap, subst}
use Rattle.std.proofs.lemmas.List.{length-map, take_all, take_more}
use Rattle.std.proofs.lemmas.Option.{slice_get_within, get_or_from_slice_get}
use Rattle.pool.specs.Entries.{Entry}
use Rattle.pool.specs.Views.{view, views}
use Rattle.classfile.proofs.Places.{viewed_at}
use Rattle.rules.specs.Guards.{AreRead, AreReadSoFar}
use Rattle.rules.proofs.Guarding.{all_read, none_read, one_more}
use Rattle.rules.proofs.guards.read_all.Goals as goal

pub loop-constant-init : goal.loop-constant-init
loop-constant-init c =
    let class = c.args.class.now in
    subst (λ xs. AreReadSoFar class [] xs c.in_ok-read.read) (sym c.in_ok-places.ensures.items) (none_read class c.in_ok-read.read (c.in_ok-read.ensures class.constant_pool))

pub loop-constant-preserved : goal.loop-constant-preserved
loop-constant-preserved c =
    let class = c.args.class.now in
    let xs = views c.constants-constants.result.now in
    let at = c.loop-constant.constant-index in
    let e : Entry = view c.constant-item.result in
    let here : slice_get xs at ≡ Some e = viewed_at view c.constants-constants.result.now at c.constant-item.result c.loop-constant-test.true c.constant-item.is in
    let more : take (at + 1) xs ≡ take at xs ++ e ∷ [] =
    take_more xs at e (slice_get_within xs at e here) ∙ ap (λ (x : Entry). take at xs ++ x ∷ []) (get_or_from_slice_get xs at e e here) in
    let places = c.loop-constant.places.items in
    let now = c.number_of.new.read in
    let read = one_more class (take at xs) places e c.loop-constant.read now c.in_ok-number_of.field-0 c.loop-constant.invariant c.in_ok-number_of.ensures in
    subst (λ ps. AreReadSoFar class (take (at + 1) xs) ps now) (sym c.in_ok-push.ensures.items)
    (subst (λ es. AreReadSoFar class es (places ++ c.in_ok-number_of.field-0 ∷ []) now) (sym more) read)

pub returns : goal.returns
returns c =
    let class = c.args.class.now in
    let constants = c.constants-constants.result.now in
    let at = c.loop-constant.constant-index in
    let long = length-map constants view in
    let all = take_all at (views constants) (omega (arith, long, c.loop-constant-test.false)) ∙ c.constants-constants.ensures in
    let so_far = subst (λ es. AreReadSoFar class es c.loop-constant.places.items c.loop-constant.read) all c.loop-constant.invariant in
    subst (AreRead class c.loop-constant.places.items) (sym c.into_references.ensures) (all_read class c.loop-constant.places.items c.loop-constant.read so_far)
