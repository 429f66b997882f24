use Rattle.std.proofs.Common.{◌≡◌, ◌∙◌, IsSome, is_some, Some, cond, length, ap, sym, arith}
use Rattle.std.specs.Option.{option_and_then}
use Rattle.std.specs.BTreeMap.{get}
use Rattle.std.specs.Ordering.{nat_cmp}
use Rattle.std.specs.Str.{bytes_eq}
use Rattle.hierarchy.specs.private.Ancestry.{place_among}
use Rattle.hierarchy.specs.Summary.{fact_of}
use Rattle.hierarchy.proofs.InOrder.{none_of, own_place, place_given, placed, put_behind}
use Rattle.hierarchy.proofs.ancestry.Ancestry.push.Goals as goal

pub unreachable-requires : goal.unreachable-requires
unreachable-requires g c = own_place (g.C.Classes.content c.args.classes.now) (fact_of c.args.class.now) c.requires.own (sym c.in_default.ensures)

pub returns-then-contains_key : goal.returns-then-contains_key
returns-then-contains_key g c good above =
    let classes = g.C.Classes.content c.args.classes.now in
    let old = c.args.self.now in
    let some : IsSome (place_among classes old.places c.args.class.now.name.now) = ap (λ o. is_some (option_and_then (get nat_cmp old.places) o)) (sym c.in-Some.ensures) ∙ sym c.contains_key.ensures ∙ c.if-contains_key.true in
    (good, placed classes old good (fact_of c.args.class.now) c.requires.own some, λ d has. has)

pub returns : goal.returns
returns g c =
    let classes = g.C.Classes.content c.args.classes.now in
    let old = c.args.self.now in
    let name = c.args.class.now.name.now in
    let number = c.in-Some.number in
    let at = sym c.in-Some.ensures in
    let long : c.len-place.result ≡ length old.classes.items = omega (arith, c.len-place.ensures) in
    put_behind classes old (record { classes = c.push.new.self; places = c.insert.new.self }) c.args.class c.requires.own
    (ap (option_and_then (get nat_cmp old.places)) at ∙ none_of (get nat_cmp old.places number) (sym c.contains_key.ensures ∙ c.if-contains_key.false)) c.in_ok-push.ensures.items
    (λ t. place_given classes name number c.len-place.result old.places c.insert.new.self at c.in_ok-insert.ensures.updates.0 t ∙ ap (λ n. cond (bytes_eq name t) (Some n) (place_among classes old.places t)) long)
