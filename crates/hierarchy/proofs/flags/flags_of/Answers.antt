use Rattle.std.proofs.Common.{◌∙◌, not, subst, sym}
use Rattle.std.specs.Str.{bytes_eq}
use Rattle.hierarchy.specs.private.TextNumbers.{AreFound}
use Rattle.hierarchy.specs.Summary.{fact_of}
use Rattle.hierarchy.proofs.Guarding.{no_absent, flags_next}
use Rattle.hierarchy.proofs.flags.flags_of.Goals as goal

pub unreachable-requires : goal.unreachable-requires
unreachable-requires g c =
    no_absent (g.C.Classes.content c.args.classes.now) c.requires.formed c.args.class.now c.args.above.now c.loop-place.place _ c.loop-place-test.true c.requires.names (sym c.in_default.ensures.found)

pub loop-place-preserved : goal.loop-place-preserved
loop-place-preserved g c =
    flags_next (g.C.Classes.content c.args.classes.now) c.requires.formed c.args.class.now c.args.above.now c.loop-place.place _ c.loop-place-test.true c.requires.names
    c.args.numbers.now c.loop-place.flags c.keep_class.new.flags (fact_of c.in-Some.other.now) c.ne-elsewhere.result (sym c.in-Some.ensures.found)
    (c.ne-elsewhere.ensures ∙ (λ i. not (bytes_eq (c.package_of.ensures i) (c.package_of-package.ensures i)))) c.loop-place.invariant (c.in_ok-keep_class.ensures c.args.numbers.now c.requires.good (subst (λ ts. AreFound c.args.numbers.now ts c.in_ok-lookups.lookups) c.deref.ensures.value c.in_ok-lookups.ensures))
