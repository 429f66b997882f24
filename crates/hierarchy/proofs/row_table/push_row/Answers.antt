use Rattle.std.proofs.Common.{rules, ◌≡◌, ◌∙◌, ◌^◌, ◌<◌, [], ◌∷◌, ◌++◌, Vec, Global, Some, length, map, ap, sym, subst, arith}
use Rattle.std.proofs.lemmas.List.{get_or-map, get_or_read, length-map}
use Rattle.hierarchy.specs.declared.skips.Skip.{Skip}
use Rattle.hierarchy.specs.private.Skips.{skip_at}
use Rattle.hierarchy.proofs.Names.{at_map}
use Rattle.hierarchy.proofs.RowLists.{no_row, more_row, whole_row, not_reached}
use Rattle.hierarchy.proofs.row_table.push_row.Goals as goal

pub loop-k-init : goal.loop-k-init
loop-k-init c = no_row (map (λ (t : Vec Skip Global). t.items) c.args.tables.now) c.args.place c.args.depth c.args.entries.now.items c.args.entries.now.items (search rules)

pub index-requires : goal.index-requires
index-requires c =
    let items = λ (t : Vec Skip Global). t.items in
    let table = c.index-tables-k.result in
    let lt : c.loop-k.k < length c.args.tables.now = omega arith in
    let there = at_map items c.args.tables.now c.loop-k.k table lt ∙ ap (λ t. Some (items t)) (sym c.index-tables-k.is) in
    let long = c.requires.within c.loop-k.k table.items there in
    omega (arith, long, table.ok)

pub loop-k-preserved : goal.loop-k-preserved
loop-k-preserved c =
    let items = λ (t : Vec Skip Global). t.items in
    let tables = c.args.tables.now in
    let table = c.index-tables-k.result in
    let lt : c.loop-k.k < length tables = omega arith in
    let m = length-map tables items in
    let at = get_or-map items tables c.loop-k.k table [] lt ∙ ap items (sym c.index-tables-k.is) in
    let there = at_map items tables c.loop-k.k table lt ∙ ap (λ t. Some (items t)) (sym c.index-tables-k.is) in
    let skip = get_or_read table.items c.args.place c.index.result.now (c.requires.within c.loop-k.k table.items there) c.index.ensures (record { place = 0; steps = 0 }) ∙ ap (λ js. skip_at js c.args.place) (sym at) in
    more_row (map items tables) c.args.place c.args.depth c.args.entries.now.items c.loop-k.entries.items c.push.new.self.items c.loop-k.k c.loop-k.invariant (omega (arith, m, lt)) (c.has_entry.ensures.0 c.if-not-has_entry.false)
    (c.in_ok-push.ensures.items ∙ ap (λ (j : Skip). c.loop-k.entries.items ++ j.place ∷ []) skip)

pub returns-then-not-has_entry : goal.returns-then-not-has_entry
returns-then-not-has_entry c =
    let m = length-map c.args.tables.now (λ (t : Vec Skip Global). t.items) in
    whole_row (map (λ (t : Vec Skip Global). t.items) c.args.tables.now) c.args.place c.args.depth c.args.entries.now.items c.loop-k.entries.items c.loop-k.k c.loop-k.invariant
    (omega (arith, m, c.loop-k-test.true)) c.ranges.depth.fits (not_reached c.loop-k.k c.args.depth c.has_entry.result c.has_entry.ensures.1 c.if-not-has_entry.true)

pub returns : goal.returns
returns c =
    let m = length-map c.args.tables.now (λ (t : Vec Skip Global). t.items) in
    let same : length c.args.tables.now ≡ c.loop-k.k = omega arith in
    whole_row (map (λ (t : Vec Skip Global). t.items) c.args.tables.now) c.args.place c.args.depth c.args.entries.now.items c.loop-k.entries.items c.loop-k.k c.loop-k.invariant
    (omega (arith, m, same)) c.ranges.depth.fits (subst (λ k. c.args.depth < 2 ^ k) same c.requires.enough)
