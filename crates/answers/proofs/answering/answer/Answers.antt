use Rattle.std.proofs.Common.{rules, ◌≡◌, ◌≤◌, ◌∙◌, ◌-◌, take, length, map, List, [], ◌∷◌, slice_index_or, drop, sym, ap, subst, arith, refl}
use Rattle.std.proofs.lemmas.List.{take_all, length-drop}
use Rattle.answers.specs.Verdicts.{VerifySays}
use Rattle.answers.specs.Plays.{PlaySays}
use Rattle.answers.specs.Judgements.{EachSays}
use Rattle.classfile.specs.Versions.{judged_versions}
use Rattle.answers.specs.declared.command.Form.TheVariants.{Plain}
use Rattle.answers.specs.Answers.{Answered, FileSays, CheckTells, ShowTells, Says}
use Rattle.answers.specs.Files.{file_view, input_view, judged_file, known_file, reads_of}
use Rattle.answers.specs.declared.manner.Manner.TheVariants.{Told, Explained}
use Rattle.answers.proofs.Refused.{as_inputs, viewed}
use Rattle.answers.proofs.answering.answer.Goals as goal

first : {X Y : Type 0} (f : X → Y) (xs : List X) (d : X) → 1 ≤ length xs → map f xs ≡ f (slice_index_or xs 0 d) ∷ map f (drop 1 xs)
first f (x ∷ xs) d le = refl
first f [] d le = absurd (omega arith)

split : {X Y : Type 0} (f : X → Y) (xs : List X) (x : X) → 1 ≤ length xs → x ≡ slice_index_or xs 0 x → map f xs ≡ f x ∷ map f (drop 1 xs)
split f xs x some is = first f xs x some ∙ ap (λ r. f r ∷ map f (drop 1 xs)) (sym is)

pub returns-in-Check-clause-answered : goal.returns-in-Check-clause-answered
returns-in-Check-clause-answered g c =
    let held = g.W.Write.contents in
    let read = c.read-item.result in
    rw (split input_view c.args.reads.now read c.in-len1-up.len_at_least c.read-item.is)
    (subst (λ command. Answered (Says command (input_view read ∷ map input_view (drop 1 c.args.reads.now))) (held c.args.out.now) (held c.check.new.out) c.check.result) (sym c.in-Check.is)
    (subst (λ file. Answered (FileSays c.in-Check.form (CheckTells c.in-Check.form) file.read) (held c.args.out.now) (held c.check.new.out) c.check.result) c.known.ensures c.check.ensures))

pub returns-in-Show-clause-answered : goal.returns-in-Show-clause-answered
returns-in-Show-clause-answered g c =
    let held = g.W.Write.contents in
    let read = c.read-item.result in
    rw (split input_view c.args.reads.now read c.in-len1-up.len_at_least c.read-item.is)
    (subst (λ command. Answered (Says command (input_view read ∷ map input_view (drop 1 c.args.reads.now))) (held c.args.out.now) (held c.show.new.out) c.show.result) (sym c.in-Show.is)
    (subst (λ file. Answered (FileSays Plain ShowTells file.read) (held c.args.out.now) (held c.show.new.out) c.show.result) c.known-in-Show.ensures c.show.ensures))

pub returns-in-Verify-clause-answered : goal.returns-in-Verify-clause-answered
returns-in-Verify-clause-answered g c =
    let held = g.W.Write.contents in
    let reads = c.args.reads.now in
    let read = c.read-item.result in
    let profile = c.in-Verify.profile in
    let all : take (length reads - 1) (drop 1 reads) ≡ drop 1 reads = take_all (length reads - 1) (drop 1 reads) (omega (arith, length-drop 1 reads)) in
    let known = c.all_known-known.ensures ∙ ap (λ rs. map (known_file profile) (map input_view rs)) all in
    rw (split input_view reads read c.in-len1-up.len_at_least c.read-item.is)
    (subst (λ command. Answered (Says command (input_view read ∷ map input_view (drop 1 reads))) (held c.args.out.now) (held c.verify.new.out) c.verify.result) (sym c.in-Verify.is)
    (subst (λ file. Answered (VerifySays (Told c.in-Verify.form) profile file (map (known_file profile) (map input_view (drop 1 reads)))) (held c.args.out.now) (held c.verify.new.out) c.verify.result) c.judged-file.ensures
    (subst (λ files. Answered (VerifySays (Told c.in-Verify.form) profile (file_view c.judged-file.result) files) (held c.args.out.now) (held c.verify.new.out) c.verify.result) known c.verify.ensures)))

pub returns-in-Explain-clause-answered : goal.returns-in-Explain-clause-answered
returns-in-Explain-clause-answered g c =
    let held = g.W.Write.contents in
    let reads = c.args.reads.now in
    let read = c.read-item.result in
    let profile = c.in-Explain.profile in
    let all : take (length reads - 1) (drop 1 reads) ≡ drop 1 reads = take_all (length reads - 1) (drop 1 reads) (omega (arith, length-drop 1 reads)) in
    let known = c.all_known-known-in-Explain.ensures ∙ ap (λ rs. map (known_file profile) (map input_view rs)) all in
    rw (split input_view reads read c.in-len1-up.len_at_least c.read-item.is)
    (subst (λ command. Answered (Says command (input_view read ∷ map input_view (drop 1 reads))) (held c.args.out.now) (held c.verify-in-Explain.new.out) c.verify-in-Explain.result) (sym c.in-Explain.is)
    (subst (λ file. Answered (VerifySays (Explained c.in-Explain.form) profile file (map (known_file profile) (map input_view (drop 1 reads)))) (held c.args.out.now) (held c.verify-in-Explain.new.out) c.verify-in-Explain.result) c.judged-file-in-Explain.ensures
    (subst (λ files. Answered (VerifySays (Explained c.in-Explain.form) profile (file_view c.judged-file-in-Explain.result) files) (held c.args.out.now) (held c.verify-in-Explain.new.out) c.verify-in-Explain.result) known c.verify-in-Explain.ensures)))

pub returns-in-Play-clause-answered : goal.returns-in-Play-clause-answered
returns-in-Play-clause-answered g c =
    let held = g.W.Write.contents in
    let reads = c.args.reads.now in
    let read = c.read-item.result in
    let profile = c.in-Play.profile in
    let v = judged_versions profile in
    let e = split input_view reads read c.in-len1-up.len_at_least c.read-item.is in
    let inputs = input_view read ∷ map input_view (drop 1 reads) in
    let same = viewed v reads ∙ ap reads_of (as_inputs v v reads inputs refl e) in
    let told : Answered (PlaySays c.in-Play.form profile (reads_of (map (judged_file profile) inputs))) (held c.args.out.now) (held c.play.new.out) c.play.result =
    subst (λ rs. Answered (PlaySays c.in-Play.form profile rs) (held c.args.out.now) (held c.play.new.out) c.play.result) same c.play.ensures in
    rw e (subst (λ command. Answered (Says command inputs) (held c.args.out.now) (held c.play.new.out) c.play.result) (sym c.in-Play.is) told)

pub returns-in-VerifyEach-clause-answered : goal.returns-in-VerifyEach-clause-answered
returns-in-VerifyEach-clause-answered g c =
    let held = g.W.Write.contents in
    let reads = c.args.reads.now in
    let read = c.read-item.result in
    let profile = c.in-VerifyEach.profile in
    let n = c.in-VerifyEach.classes in
    let e = split input_view reads read c.in-len1-up.len_at_least c.read-item.is in
    let inputs = input_view read ∷ map input_view (drop 1 reads) in
    let told : Answered (EachSays c.in-VerifyEach.form profile (reads_of (map (judged_file profile) (take n inputs))) (reads_of (map (known_file profile) (drop n inputs)))) (held c.args.out.now) (held c.verify_each.new.out) c.verify_each.result =
    subst (λ fs. Answered (EachSays c.in-VerifyEach.form profile (reads_of (map (judged_file profile) (take n fs))) (reads_of (map (known_file profile) (drop n fs)))) (held c.args.out.now) (held c.verify_each.new.out) c.verify_each.result) e c.verify_each.ensures in
    rw e (subst (λ command. Answered (Says command inputs) (held c.args.out.now) (held c.verify_each.new.out) c.verify_each.result) (sym c.in-VerifyEach.is) told)

pub returns-in-Check-clause-memory : goal.returns-in-Check-clause-memory
returns-in-Check-clause-memory g c = search rules

pub returns-in-Show-clause-memory : goal.returns-in-Show-clause-memory
returns-in-Show-clause-memory g c = search rules

pub returns-in-Verify-clause-memory : goal.returns-in-Verify-clause-memory
returns-in-Verify-clause-memory g c = search rules

pub returns-in-Explain-clause-memory : goal.returns-in-Explain-clause-memory
returns-in-Explain-clause-memory g c = search rules

pub returns-in-Play-clause-memory : goal.returns-in-Play-clause-memory
returns-in-Play-clause-memory g c = search rules

pub returns-in-VerifyEach-clause-memory : goal.returns-in-VerifyEach-clause-memory
returns-in-VerifyEach-clause-memory g c = search rules
