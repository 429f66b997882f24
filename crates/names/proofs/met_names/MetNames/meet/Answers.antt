use Rattle.std.proofs.Common.{◌≡◌, ◌∙◌, refl, sym, ap, cond, ◌||◌, Bool, true, false, Option, Some, is_some}
use Rattle.std.specs.Str.{bytes_eq}
use Rattle.std.specs.BTreeMap.{get_by}
use Rattle.std.specs.Cmp.Lexicographic.{slice_cmp}
use Rattle.std.specs.Ordering.{nat_cmp}
use Rattle.std.proofs.lemmas.Map.Text.{btree_map_updates_str}
use Rattle.names.proofs.met_names.MetNames.meet.Goals as goal

some_or : {A : Type 0} (b : Bool) (x : A) (o : Option A) → is_some (cond b (Some x) o) ≡ (b || is_some o)
some_or true x o = refl
some_or false x o = refl

pub returns-in-Some : goal.returns-in-Some
returns-in-Some c =
    let name = c.args.name.now in
    let old = c.args.self.now.places in
    record {
      told = ap is_some (sym c.in-Some.is ∙ c.in_ok-insert.ensures.old);
      behind = λ other. ap is_some (btree_map_updates_str name old c.insert.new.self _ c.in_ok-insert.ensures.updates other) ∙ some_or (bytes_eq name other) c.args.place (get_by (λ k. slice_cmp nat_cmp other k.now) old);
    }

pub returns-in-None : goal.returns-in-None
returns-in-None c =
    let name = c.args.name.now in
    let old = c.args.self.now.places in
    record {
      told = ap is_some (sym c.in-None.is ∙ c.in_ok-insert.ensures.old);
      behind = λ other. ap is_some (btree_map_updates_str name old c.insert.new.self _ c.in_ok-insert.ensures.updates other) ∙ some_or (bytes_eq name other) c.args.place (get_by (λ k. slice_cmp nat_cmp other k.now) old);
    }
