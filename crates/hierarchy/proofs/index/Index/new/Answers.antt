use Rattle.std.proofs.Common.{◌∙◌, ap, sym, refl, map, get_or, List}
use Rattle.std.specs.Str.{bytes_eq}
use Rattle.std.specs.List.{list_any}
use Rattle.hierarchy.specs.declared.name_key.NameKey.{NameKey}
use Rattle.hierarchy.specs.declared.summary.Summary.{Summary}
use Rattle.hierarchy.specs.Summary.{fact_of, facts_of}
use Rattle.hierarchy.proofs.Names.{at_map}
use Rattle.hierarchy.proofs.OneFault.{none_before}
use Rattle.hierarchy.proofs.Table.{none_twice, grown, filled_all, added_last, kept_all, was_there}
use Rattle.hierarchy.proofs.index.Index.new.Goals as goal

pub first_twice-requires-clause-repeated : goal.first_twice-requires-clause-repeated
first_twice-requires-clause-repeated g c =
    let xs = c.args.classes.now in
    let d = c.index-classes-i.result in
    let name = c.index-classes-i.result.name.now in
    let keys = c.loop-i.names.keys in
    let t = was_there (list_any (λ (k : NameKey). bytes_eq name k.bytes.now) keys) c.in_ok-added.added c.in_ok-added.ensures.added c.if-not-added.true in
    let same = c.in_ok-added.ensures.keys ∙ kept_all (list_any (λ (k : NameKey). bytes_eq name k.bytes.now) keys) keys (record { bytes = d.name }) t in
    let here = ap (λ (s : Summary). list_any (λ (k : NameKey). bytes_eq s.name.now k.bytes.now) c.insert_full.new.self.keys) (sym c.index-classes-i.is) in
    (fact_of (get_or xs c.loop-i.i d), at_map fact_of xs c.loop-i.i d c.loop-i-test.true, here ∙ ap (list_any (λ (k : NameKey). bytes_eq name k.bytes.now)) same ∙ t)

pub loop-i-preserved : goal.loop-i-preserved
loop-i-preserved g c =
    let name = c.index-classes-i.result.name in
    let key : NameKey = record { bytes = name } in
    let keys = c.loop-i.names.keys in
    let last = c.in_ok-added.ensures.keys ∙ added_last (list_any (λ (k : NameKey). bytes_eq name.now k.bytes.now) keys) c.in_ok-added.added keys key c.in_ok-added.ensures.added c.if-not-added.false in
    let more = grown c.args.classes.now keys key c.loop-i.i c.index-classes-i.result c.loop-i-test.true c.loop-i.invariant.named (ap (λ (s : Summary). s.name.now) c.index-classes-i.is) in
    record { named = ap (λ (ks : List NameKey). map (λ k. k.bytes.now) ks) last ∙ more; distinct = c.in_ok-added.ensures.unique }

pub returns-clause-ok : goal.returns-clause-ok
returns-clause-ok g c = (refl, none_twice c.args.classes.now c.loop-i.names.keys (filled_all c.args.classes.now c.loop-i.names.keys c.loop-i.i c.loop-i-test.false c.loop-i.invariant.named) c.loop-i.invariant.distinct)

pub returns-then-not-added-clause-err : goal.returns-then-not-added-clause-err
returns-then-not-added-clause-err g c = (c.in_ok-name.ensures, none_before (facts_of c.args.classes.now))
