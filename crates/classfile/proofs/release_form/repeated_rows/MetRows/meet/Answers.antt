use Rattle.std.proofs.Common.{◌≡◌, ◌∙◌, ◌||◌, not, Bool, true, false, refl, sym, ap}
use Rattle.std.specs.BTreeSet.{contains}
use Rattle.std.specs.List.{list_any}
use Rattle.std.specs.Ordering.{is_eq}
use Rattle.classfile.specs.private.MetRows.{Key, key_of, order, is_met}
use Rattle.classfile.proofs.RowSets.{key_same, insert_any}
use Rattle.classfile.proofs.release_form.repeated_rows.MetRows.meet.Goals as goal

not_not : (b : Bool) → not (not b) ≡ b
not_not true = refl
not_not false = refl

pub returns : goal.returns
returns c =
    let old = c.args.self.now in
    let key = c.key_of.result in
    record {
      told = ap not c.in_ok-is_new.ensures.added ∙ not_not (contains order old.keys key)
          ∙ ap (λ (x : Key). list_any (λ k. is_eq (order x k)) old.keys.keys) c.key_of.ensures;
      behind = λ other.
          ap (list_any (λ k. is_eq (order (key_of other) k))) c.in_ok-is_new.ensures.keys
          ∙ insert_any (λ k. is_eq (order (key_of other) k)) key old.keys.keys
          ∙ ap (λ (x : Key). is_eq (order (key_of other) x) || is_met old other) c.key_of.ensures
          ∙ ap (λ (b : Bool). b || is_met old other) (key_same c.args.row other);
    }
