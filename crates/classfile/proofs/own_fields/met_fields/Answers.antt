use Rattle.std.proofs.Common.{◌≡◌, ◌∙◌, ◌++◌, ◌∷◌, [], ◌+◌, map, take, sym, ap, subst}
use Rattle.std.specs.Prelude.{Some, slice_get}
use Rattle.std.proofs.lemmas.List.{take_more}
use Rattle.std.proofs.lemmas.Option.{slice_get_within, get_or_from_slice_get}
use Rattle.classfile.specs.Seen.{AreSeen}
use Rattle.classfile.specs.Values.{Member}
use Rattle.classfile.specs.Views.{member_view}
use Rattle.classfile.proofs.Places.{viewed_at}
use Rattle.classfile.proofs.own_fields.met_fields.Goals as goal

pub loop-field-preserved : goal.loop-field-preserved
loop-field-preserved c =
    let pool = c.args.pool.now in
    let xs = map member_view c.args.fields.now in
    let at = c.loop-field.field-index in
    let f : Member = member_view c.field-item.result in
    let here : slice_get xs at ≡ Some f = viewed_at member_view c.args.fields.now at c.field-item.result c.loop-field-test.true c.field-item.is in
    let more : take (at + 1) xs ≡ take at xs ++ f ∷ [] =
    take_more xs at f (slice_get_within xs at f here) ∙ ap (λ (x : Member). take at xs ++ x ∷ []) (get_or_from_slice_get xs at f f here) in
    subst (λ ms. AreSeen pool ms c.meet_member.new.self) (sym more) (c.in_ok-meet_member.ensures.seen (take at xs) c.loop-field.invariant)
