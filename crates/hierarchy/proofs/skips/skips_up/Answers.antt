use Rattle.std.proofs.Common.{◌≡◌, ◌∙◌, ◌^◌, Vec, Global, [], ◌∷◌, length, ap, map, subst, sym, arith}
use Rattle.std.proofs.lemmas.List.{map-append, length-map}
use Rattle.hierarchy.specs.Summary.{fact_of}
use Rattle.hierarchy.specs.declared.skips.Skip.{Skip}
use Rattle.hierarchy.specs.private.Skips.{LeadOn, onward}
use Rattle.hierarchy.proofs.Doubling.{AreDoubled, first_doubled, next_doubled, all_tables, lead_on}
use Rattle.hierarchy.proofs.skips.skips_up.Goals as goal

pub loop-left-init : goal.loop-left-init
loop-left-init g c =
    let long : length c.args.index.now ≡ length c.args.classes.now = ap length c.requires.same ∙ length-map c.args.classes.now fact_of in
    rw c.new-tables.ensures.items (subst (λ n. AreDoubled c.args.index.now n [] c.in_ok-tops.tops.items) long (first_doubled c.args.index.now c.requires.formed c.in_ok-tops.tops.items c.in_ok-tops.ensures))

pub doubled-requires : goal.doubled-requires
doubled-requires g c =
    let tables = map (λ (t : Vec Skip Global). t.items) c.loop-left.tables.items in
    subst LeadOn (sym c.deref.ensures.value) (lead_on c.args.index.now c.requires.formed (2 ^ length tables) c.loop-left.tops.items c.loop-left.invariant.last)

pub loop-left-preserved : goal.loop-left-preserved
loop-left-preserved g c =
    let items = λ (t : Vec Skip Global). t.items in
    next_doubled c.args.index.now c.requires.formed c.loop-left.left (map items c.loop-left.tables.items) (map items c.push.new.self.items) c.loop-left.tops.items c.in_ok-twice.twice.items c.loop-left.invariant
    (ap (map items) c.in_ok-push.ensures.items ∙ map-append items c.loop-left.tables.items (c.loop-left.tops ∷ []))
    (c.in_ok-twice.ensures ∙ ap (λ js. map (onward js) js) c.deref.ensures.value)

pub returns : goal.returns
returns g c =
    all_tables c.args.index.now c.requires.formed c.loop-left.left (map (λ (t : Vec Skip Global). t.items) c.loop-left.tables.items) c.loop-left.tops.items (omega (arith, c.loop-left-test.false)) c.loop-left.invariant
