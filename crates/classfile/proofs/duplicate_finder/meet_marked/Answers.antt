use Rattle.std.proofs.Common.{◌≡◌, ◌∙◌, ◌<◌, Bool, true, false, map, Some, None, Result, Ok, Err, refl, ap, sym, length, subst, arith}
use Rattle.std.specs.Prelude.{slice_index_or, slice_set}
use Rattle.pool.specs.declared.fault.PoolFault.{PoolFault}
use Rattle.pool.specs.Lookups.{Named, named}
use Rattle.pool.specs.ConstantMeanings.{found}
use Rattle.pool.specs.Views.{name_and_type_view}
use Rattle.classfile.specs.private.DuplicateFinder.{mark, MeetsMarked}
use Rattle.classfile.specs.Views.{member_view}
use Rattle.classfile.proofs.Marks.{meets_none, meets_marked, meets_new}
use Rattle.classfile.proofs.duplicate_finder.meet_marked.Goals as goal

not_found : (r : Result Named PoolFault) → None ≡ found r → (fault : PoolFault) × (r ≡ Err fault)
not_found (Ok x) e = absurd cc
not_found (Err fault) e = (fault, refl)

was_found : (r : Result Named PoolFault) (x : Named) → Some x ≡ found r → r ≡ Ok x
was_found (Ok y) x e = cc
was_found (Err fault) x e = absurd cc

pub returns-in_default : goal.returns-in_default
returns-in_default c =
    let pool = c.args.pool.now in
    let m = member_view c.args.member.now in
    let none = not_found (named pool m.name m.descriptor) c.in_default.ensures in
    meets_none pool (map member_view c.args.earlier.now) m none.0 c.args.marks.now none.1 c.requires

pub returns-then-marks-mark : goal.returns-then-marks-mark
returns-then-marks-mark c =
    let pool = c.args.pool.now in
    let m = member_view c.args.member.now in
    let earlier = map member_view c.args.earlier.now in
    let x : Named = name_and_type_view c.in-Some.texts in
    let is : named pool m.name m.descriptor ≡ Ok x = was_found (named pool m.name m.descriptor) x c.in-Some.ensures in
    let here : slice_index_or c.args.marks.now (mark x) false ≡ true =
    ap (λ n. slice_index_or c.args.marks.now n false) (sym c.mark-mark.ensures) ∙ c.if-marks-mark.true in
    subst (λ (b : Bool). MeetsMarked pool earlier m c.args.marks.now b) (sym c.is_among.ensures) (meets_marked pool earlier m x c.args.marks.now is c.requires here)

pub returns : goal.returns
returns c =
    let pool = c.args.pool.now in
    let m = member_view c.args.member.now in
    let earlier = map member_view c.args.earlier.now in
    let x : Named = name_and_type_view c.in-Some.texts in
    let is : named pool m.name m.descriptor ≡ Ok x = was_found (named pool m.name m.descriptor) x c.in-Some.ensures in
    let unset : slice_index_or c.args.marks.now (mark x) false ≡ false =
    ap (λ n. slice_index_or c.args.marks.now n false) (sym c.mark-mark.ensures) ∙ c.if-marks-mark.false in
    let within : mark x < length c.args.marks.now = omega (arith, c.told-marks) in
    subst (λ n. MeetsMarked pool earlier m (slice_set c.args.marks.now n true) false) (sym c.mark-mark.ensures) (meets_new pool earlier m x c.args.marks.now is c.requires within unset)
