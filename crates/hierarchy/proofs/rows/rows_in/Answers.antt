use Rattle.std.proofs.Common.{Vec, Global, Result, Ok, Err, IfOk, map}
use Rattle.hierarchy.specs.declared.skips.Skip.{Skip}
use Rattle.hierarchy.proofs.RowsKept.{fit_together, are_rows}
use Rattle.hierarchy.proofs.rows.rows_in.Goals as goal

ok_too : {X E : Type 0} (r : Result X E) (P Q : X → Type 0) → ((x : X) → P x → Q x) → IfOk r P → IfOk r Q
ok_too (Ok x) P Q f p = f x p
ok_too (Err e) P Q f p = p

pub rows_of-requires : goal.rows_of-requires
rows_of-requires g c = fit_together c.args.index.now c.requires.formed (map (λ (t : Vec Skip Global). t.items) c.in_ok-skips.skips.tables.items) c.in_ok-skips.skips.tops.items c.in_ok-skips.ensures

pub returns : goal.returns
returns g c =
    let tables = map (λ (t : Vec Skip Global). t.items) c.in_ok-skips.skips.tables.items in
    let tops = c.in_ok-skips.skips.tops.items in
    ok_too c.rows_of.result _ _ (λ rows r. are_rows c.args.index.now c.requires.formed tables tops c.in_ok-skips.ensures rows.depths.items rows.starts.items rows.entries.items r) c.rows_of.ensures
