use Rattle.std.proofs.Common.{◌≡◌, ◌∙◌, ap, subst, sym, length, map, arith}
use Rattle.hierarchy.specs.private.Above.{classes_above, names_of, ArePlaces}
use Rattle.hierarchy.specs.private.Flags.{first_flag}
use Rattle.hierarchy.specs.Nearest.{is_guarded}
use Rattle.hierarchy.specs.Summary.{reference_of, references_of}
use Rattle.hierarchy.proofs.Guarding.{all_guards, all_told, as_many, map_twice}
use Rattle.hierarchy.proofs.member_references.guarded_by_walk.Goals as goal

pub returns : goal.returns
returns g c =
    let classes = g.C.Classes.content c.args.classes.now in
    let class = c.args.class.now in
    let flags = c.in_ok-flags.flags in
    let rs = c.args.references.now in
    let places = subst (λ ns. ArePlaces ns c.in_ok-places.places) (ap names_of c.deref.ensures.value ∙ c.in_ok-above.ensures.names) c.in_ok-places.ensures in
    let end : c.len.result ≡ length (classes_above classes class) = omega (arith, c.len.ensures, as_many classes class c.in_ok-above.above.items c.in_ok-above.ensures.names) in
    let told = all_guards classes c.in_ok-above.ensures.formed class c.in_ok-places.places c.starts_of.new.numbers flags places c.in_ok-flags.ensures (reference_of rs) rs.members.items c.in_ok-starts.starts.items c.in_ok-starts.ensures.starts in
    all_told c.first_flags.result (map (first_flag flags c.len.result) c.deref-3.result.now) (map (is_guarded classes class) (references_of rs))
    (ap (map (first_flag flags c.len.result)) c.deref-3.ensures.value ∙ ap (λ n. map (first_flag flags n) c.in_ok-starts.starts.items) end ∙ told ∙ sym (map_twice (is_guarded classes class) (reference_of rs) rs.members.items)) c.first_flags.ensures
