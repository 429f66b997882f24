use Rattle.std.proofs.Common.{◌≡◌, ◌<◌, length, map, Some, Ok, sym, subst}
use Rattle.classfile.specs.Methods.{JudgedClass}
use Rattle.std.specs.Prelude.{slice_get}
use Rattle.pool.specs.Lookups.{text_at, Answers as Finds}
use Rattle.classfile.specs.Views.{class_view, member_view}
use Rattle.classfile.proofs.FormedNames.{both_named}
use Rattle.classfile.proofs.Places.{viewed_at}
use Rattle.verify.specs.Answers.{Answers}
use Rattle.verify.specs.Reports.{IsReported}
use Rattle.verify.proofs.verdicts.Answering.{only_then, safe_then}
use Rattle.verify.proofs.Named.{texts_there, is_found, names_of}
use Rattle.verify.proofs.report.report_on.Goals as goal

pub unwrap-name-requires : goal.unwrap-name-requires
unwrap-name-requires g c =
    let class = class_view c.class-class.result.now in
    let methods = c.class-class.result.now.methods.items in
    let member = c.index-member.result.now in
    let lt : c.args.number < length methods = subst (λ k. c.args.number < length k.methods.items) (sym c.class-class.ensures.same) c.requires.number in
    let here : slice_get (map member_view methods) c.args.number ≡ Some (member_view member) = viewed_at member_view methods c.args.number member lt c.index-member.ensures in
    let x = names_of class c.args.number (member_view member) c.class-class.ensures.formed here in
    let there = texts_there class.constant_pool member.name member.descriptor x.0 x.1 in
    is_found (text_at class.constant_pool member.name) x.0.name c.text.result there.0 c.text.ensures

pub unwrap-descriptor-requires : goal.unwrap-descriptor-requires
unwrap-descriptor-requires g c =
    let class = class_view c.class-class.result.now in
    let methods = c.class-class.result.now.methods.items in
    let member = c.index-member.result.now in
    let lt : c.args.number < length methods = subst (λ k. c.args.number < length k.methods.items) (sym c.class-class.ensures.same) c.requires.number in
    let here : slice_get (map member_view methods) c.args.number ≡ Some (member_view member) = viewed_at member_view methods c.args.number member lt c.index-member.ensures in
    let x = names_of class c.args.number (member_view member) c.class-class.ensures.formed here in
    let there = texts_there class.constant_pool member.name member.descriptor x.0 x.1 in
    is_found (text_at class.constant_pool member.descriptor) x.0.descriptor c.text-2.result there.1 c.text-2.ensures

pub returns-in-Ok-clause-found : goal.returns-in-Ok-clause-found
returns-in-Ok-clause-found g c =
    let class = class_view c.class-class.result.now in
    let methods = c.class-class.result.now.methods.items in
    let member = c.index-member.result.now in
    let lt : c.args.number < length methods = subst (λ k. c.args.number < length k.methods.items) (sym c.class-class.ensures.same) c.requires.number in
    let here : slice_get (map member_view methods) c.args.number ≡ Some (member_view member) = viewed_at member_view methods c.args.number member lt c.index-member.ensures in
    let name : text_at class.constant_pool member.name ≡ Ok c.unwrap-name.result.bytes.now = subst (Finds (λ t. t.bytes.now) (text_at class.constant_pool member.name)) c.unwrap-name.ensures c.text.ensures in
    let descriptor : text_at class.constant_pool member.descriptor ≡ Ok c.unwrap-descriptor.result.bytes.now = subst (Finds (λ t. t.bytes.now) (text_at class.constant_pool member.descriptor)) c.unwrap-descriptor.ensures c.text-2.ensures in
    let classes = c.args.frames.now.types.classes in
    let d = c.args.formed.now.dynamic in
    let judged : JudgedClass = record { file = class; dynamic = d } in
    let answers : Answers classes judged c.args.number (Ok c.in-Ok.verdict) = subst (λ k. Answers classes (record { file = class_view k; dynamic = d }) c.args.number (Ok c.in-Ok.verdict)) (sym c.class-class.ensures.same) c.in-Ok.ensures.answered in
    subst (λ k. IsReported classes (record { file = class_view k; dynamic = d }) c.args.number (record { name = c.unwrap-name.result; descriptor = c.unwrap-descriptor.result; verdict = c.in-Ok.verdict })) c.class-class.ensures.same
    (record {
      member = member_view member;
      numbered = here;
      called = both_named class.constant_pool member.name member.descriptor c.unwrap-name.result.bytes.now c.unwrap-descriptor.result.bytes.now name descriptor;
      exactly = answers;
      only = only_then classes judged c.args.number (Ok c.in-Ok.verdict) answers;
      safe = safe_then classes judged c.args.number c.requires.hierarchy (Ok c.in-Ok.verdict) answers;
    })
