use Rattle.std.proofs.Common.{◌≡◌, ◌≤◌, ◌∙◌, ◌||◌, ◌+◌, Bool, false, ℕ, List, ◌∷◌, drop, length, map, slice_index_or, Result, Ok, sym, ap, subst, arith}
use Rattle.std.proofs.lemmas.List.{at_drop_more, map-id}
use Rattle.std.specs.Str.{bytes_eq}
use Rattle.names.specs.declared.met_names.MetNames.{MetNames}
use Rattle.names.specs.MetNames.{is_met, Meets}
use Rattle.pool.specs.declared.fault.PoolFault.{PoolFault}
use Rattle.pool.specs.Lookups.{class_name_at}
use Rattle.classfile.specs.Methods.{with_name, names_at}
use Rattle.classfile.specs.release.ClassRules.{interfaces_stand_twice}
use Rattle.classfile.specs.release.Twice.{has_twice}
use Rattle.classfile.proofs.MetLaws.{none_met, come_again, comes_once, stands_once}
use Rattle.classfile.proofs.release_form.interfaces.interfaces_stand_twice.Goals as goal
use Rattle.classfile.proofs.release_form.interfaces.interfaces_stand_twice.Goals.{in-Ok+in_ok-meet+else-branch, in_default}

pub returns-then-interfaces-lt2 : goal.returns-then-interfaces-lt2
unfolding interfaces_stand_twice
returns-then-interfaces-lt2 c =
    let few : length c.args.interfaces.now ≤ 1 = omega (arith, c.if-interfaces-lt2.true) in
    sym (ap (λ (is : List ℕ). has_twice bytes_eq (names_at c.args.pool.now is)) (map-id c.args.interfaces.now) ∙ stands_once c.args.pool.now c.args.interfaces.now few)

pub loop-n-init : goal.loop-n-init
loop-n-init c =
    let ns = names_at c.args.pool.now (map (λ n. n) c.args.interfaces.now) in
    ap (λ (b : Bool). b || has_twice bytes_eq ns) (sym (none_met (is_met c.new-met.result) c.new-met.ensures ns))

pub loop-n-preserved : goal.loop-n-preserved
loop-n-preserved c =
    let pool = c.args.pool.now in
    let n = c.loop-n.n in
    let index = slice_index_or c.args.interfaces.now n 0 in
    let later = names_at pool (map (λ n. n) (drop (n + 1) c.args.interfaces.now)) in
    let before = c.loop-n.invariant
    ∙ at_drop_more (λ (is : List ℕ). come_again bytes_eq (is_met c.loop-n.met) (names_at pool (map (λ n. n) is))) c.args.interfaces.now n 0 c.loop-n-test.true in
    let first = λ (new : MetNames) (name : List ℕ) (meets : Meets c.loop-n.met new name false).
    comes_once bytes_eq (is_met c.loop-n.met) (is_met new) name meets.behind later (sym meets.told) in
    elim c.match-class_name.branch [
      | in-Ok+in_ok-meet+else-branch w ↦
          before ∙ ap (λ (r : Result (List ℕ) PoolFault). come_again bytes_eq (is_met c.loop-n.met) (with_name r later)) w.in-Ok.ensures
          ∙ first w.meet.new.self w.in-Ok.name.bytes.now
          (subst (λ (x : List ℕ). Meets c.loop-n.met w.meet.new.self x false) w.bytes.ensures
          (subst (λ (b : Bool). Meets c.loop-n.met w.meet.new.self w.bytes.result.now b) w.if-branch.false w.in_ok-meet.ensures))
          ∙ ap (λ m. come_again bytes_eq (is_met m) later) (sym w.met-is)
      | in_default w ↦
          before ∙ ap (λ (r : Result (List ℕ) PoolFault). come_again bytes_eq (is_met c.loop-n.met) (with_name r later)) w.in_default.ensures
          ∙ ap (λ m. come_again bytes_eq (is_met m) later) (sym w.met-is)
    ]
