use Rattle.std.proofs.Common.{map, take, drop, subst, arith}
use Rattle.classfile.specs.Versions.{judged_versions, known_versions}
use Rattle.answers.specs.Answers.{Answered}
use Rattle.answers.specs.Files.{input_file, input_view, judged_file, reads_of}
use Rattle.answers.specs.Judgements.{EachSays}
use Rattle.answers.proofs.Parting.{parted_as}
use Rattle.answers.proofs.Refused.{as_inputs}
use Rattle.answers.proofs.verifying_each.verify_each.Goals as goal

pub returns : goal.returns
returns g c =
    let held = g.W.Write.contents in
    let profile = c.args.profile in
    let n = c.args.classes in
    let front = c.split_at.result.0.now in
    let back = c.split_at.result.1.now in
    let inputs = map input_view c.args.reads.now in
    let parts = parted_as input_view c.args.reads.now front back n c.min.result c.split_at.ensures.front c.split_at.ensures.back (λ le. omega (arith, le, c.min.ensures)) (λ le. omega (arith, le, c.min.ensures)) in
    let first = as_inputs (judged_versions profile) c.judged_versions.result front (take n inputs) c.judged_versions.ensures parts.0 in
    let second = as_inputs (known_versions profile) c.known_versions.result back (drop n inputs) c.known_versions.ensures parts.1 in
    subst (λ fs. Answered (EachSays c.args.form profile (reads_of (map (judged_file profile) (take n inputs))) (reads_of fs)) (held c.args.out.now) (held c.verify_among.new.out) c.verify_among.result) second
    (subst (λ fs. Answered (EachSays c.args.form profile (reads_of fs) (reads_of (map (input_file c.known_versions.result) back))) (held c.args.out.now) (held c.verify_among.new.out) c.verify_among.result) first c.verify_among.ensures)
