use Rattle.std.proofs.Common.{◌≡◌, ◌∙◌, Ok, sym, ap}
use Rattle.std.specs.List.{All}
use Rattle.pool.specs.Lookups.{Named, named}
use Rattle.classfile.specs.Indices.{on_found}
use Rattle.classfile.specs.MemberForm.{is_among}
use Rattle.classfile.specs.Seen.{AreBothNumbers}
use Rattle.classfile.proofs.SeenLaws.{both_of, no_name, no_descriptor, any_told, kept_pairs}
use Rattle.classfile.proofs.member_keys.MemberKeys.has_met.Goals as goal

pub returns-in_default : goal.returns-in_default
returns-in_default c =
    let pool = c.args.pool.now in
    let none = no_name pool c.args.name c.args.descriptor c.in_default.field-0 c.in_default.ensures in
    record {
      finds = λ members seen. sym (ap (on_found (is_among pool members)) none);
      kept = λ members seen. seen;
    }

pub returns-in_default-text : goal.returns-in_default-text
returns-in_default-text c =
    let pool = c.args.pool.now in
    let none = no_descriptor pool c.args.name c.args.descriptor c.in-Ok.name_text.bytes.now c.in_default-text.field-0 c.in-Ok.ensures c.in_default-text.ensures in
    record {
      finds = λ members seen. sym (ap (on_found (is_among pool members)) none);
      kept = λ members seen. seen;
    }

pub returns : goal.returns
returns c =
    let pool = c.args.pool.now in
    let old = c.args.self.now in
    let numbers = c.of-2.new.self in
    let x : Named = record { name = c.in-Ok.name_text.bytes.now; descriptor = c.in-Ok-text.descriptor_text.bytes.now } in
    let is : named pool c.args.name c.args.descriptor ≡ Ok x = both_of pool c.args.name c.args.descriptor x c.in-Ok.ensures c.in-Ok-text.ensures in
    let first = c.in_ok-name.ensures in
    let second = c.in_ok-descriptor.ensures in
    let n = c.in_ok-name.name in
    let d = c.in_ok-descriptor.descriptor in
    let name = second.others x.name n first.here in
    let kept : All (AreBothNumbers pool old.numbers) old.seen.keys → All (AreBothNumbers pool numbers) old.seen.keys =
    kept_pairs pool old.numbers numbers (λ t k h. second.others t k (first.others t k h)) old.seen.keys in
    record {
      finds = λ members seen. c.contains.ensures ∙ any_told pool numbers second.good x n d name second.here old.seen.keys (kept seen.pairs) ∙ seen.exactly x
          ∙ sym (ap (on_found (is_among pool members)) is);
      kept = λ members seen. record { numbers = second.good; pairs = kept seen.pairs; exactly = seen.exactly };
    }
