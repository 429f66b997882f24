use Rattle.std.proofs.Common.{◌≡◌, ◌<◌, length, refl, inl, inr, arith, Ok}
use Rattle.std.proofs.lemmas.Bool.Decides.{nat_tests}
use Rattle.std.proofs.lemmas.Result.{err_from_is_err_and}
use Rattle.layout.specs.Faults.{UnlessMemory-map, UnlessMemory-only}
use Rattle.layout.specs.Format.{reads}
use Rattle.layout.specs.FormatLaws.{reads_fault}
use Rattle.layout.specs.Whole.{not_refused, nothing_more, has_more, is_whole}
use Rattle.classfile.specs.ClassFile.{class}
use Rattle.classfile.specs.Views.{class_view}
use Rattle.classfile.proofs.codec.whole_class.Goals as goal

pub returns-in_err-class-clause-only : goal.returns-in_err-class-clause-only
returns-in_err-class-clause-only c =
    let p = err_from_is_err_and c.from_residual.result c.from_residual.ensures.1 in
    λ v is. rw (p.1, p.2) (UnlessMemory-only c.in_err-class.field-0.0 (not_refused (class c.args.versions) c.args.bytes.now v c.in_err-class.field-0.0 is) (rw c.new-cursor.ensures at c.in_err-class.ensures))

pub returns-in_err-class-clause-fault : goal.returns-in_err-class-clause-fault
returns-in_err-class-clause-fault c =
    let p = err_from_is_err_and c.from_residual.result c.from_residual.ensures.1 in
    rw (p.1, p.2) (UnlessMemory-map c.in_err-class.field-0.0 (λ h. inl (reads_fault (class c.args.versions) 0 c.args.bytes.now c.in_err-class.field-0.0 h)) (rw c.new-cursor.ensures at c.in_err-class.ensures))

pub returns-then-not-is_empty-clause-only : goal.returns-then-not-is_empty-clause-only
returns-then-not-is_empty-clause-only c =
    let more : 0 < length c.class.new.cursor.rest = grind (arith, nat_tests) in
    let read : reads (class c.args.versions) 0 c.args.bytes.now ≡ Ok (class_view c.in_ok-class.class, c.class.new.cursor) = rw c.new-cursor.ensures at c.in_ok-class.ensures in
    λ v is. absurd (nothing_more (class c.args.versions) c.args.bytes.now v (class_view c.in_ok-class.class) c.class.new.cursor is read more)

pub returns-then-not-is_empty-clause-fault : goal.returns-then-not-is_empty-clause-fault
returns-then-not-is_empty-clause-fault c =
    let more : 0 < length c.class.new.cursor.rest = grind (arith, nat_tests) in
    let read : reads (class c.args.versions) 0 c.args.bytes.now ≡ Ok (class_view c.in_ok-class.class, c.class.new.cursor) = rw c.new-cursor.ensures at c.in_ok-class.ensures in
    inr (c.at.result, refl, rw c.at.ensures.place (has_more (class c.args.versions) c.args.bytes.now (class_view c.in_ok-class.class) c.class.new.cursor read more))

pub returns-clause-found : goal.returns-clause-found
returns-clause-found c =
    let none : length c.class.new.cursor.rest ≡ 0 = grind (arith, nat_tests) in
    let read : reads (class c.args.versions) 0 c.args.bytes.now ≡ Ok (class_view c.in_ok-class.class, c.class.new.cursor) = rw c.new-cursor.ensures at c.in_ok-class.ensures in
    is_whole (class c.args.versions) c.args.bytes.now (class_view c.in_ok-class.class) c.class.new.cursor read none
