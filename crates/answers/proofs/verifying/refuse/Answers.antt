use Rattle.std.proofs.Common.{◌≡◌, ◌-◌, inl, inr, Err, Some, slice_get, subst, arith}
use Rattle.verify.specs.declared.known_classes.AmongFault.TheVariants.{Refused, KnownRefused, NoHierarchy, Final}
use Rattle.verify.specs.Among.{ReportsAmong}
use Rattle.answers.specs.Files.{file_view, files_view, read_view, reads_of, refusal_status}
use Rattle.answers.specs.Verdicts.{class_object, class_refusal, known_object, known_refusal, hierarchy_told, final_told, IsTold, VerifySays}
use Rattle.answers.proofs.Tellings.{answered_more}
use Rattle.answers.proofs.verifying.refuse.Goals as goal

pub returns-in-Refused : goal.returns-in-Refused
returns-in-Refused g c = λ profile told.
    let held = g.W.Write.contents in
    let read = read_view c.args.file in
    let known = reads_of (files_view c.args.known) in
    let fault = c.in-Refused.fault in
    let why : ReportsAmong profile read known (Err (Refused fault)) = subst (λ e. ReportsAmong profile read known (Err e)) c.in-Refused.is told in
    answered_more (λ t s. IsTold c.args.manner (file_view c.args.file) fault (λ form. class_refusal form fault) (class_object fault) t × (s ≡ refusal_status fault)) (VerifySays c.args.manner profile (file_view c.args.file) (files_view c.args.known))
    (λ text status p. inl (fault, why, p.0, p.1))
    (held c.args.out.now) (held c.refuse_class.new.out) c.refuse_class.result c.refuse_class.ensures

pub returns-in-KnownRefused : goal.returns-in-KnownRefused
returns-in-KnownRefused g c = λ profile told.
    let held = g.W.Write.contents in
    let read = read_view c.args.file in
    let known = reads_of (files_view c.args.known) in
    let number = c.in-KnownRefused.number in
    let fault = c.in-KnownRefused.fault in
    let why : ReportsAmong profile read known (Err (KnownRefused number fault)) = subst (λ e. ReportsAmong profile read known (Err e)) c.in-KnownRefused.is told in
    let (class, i, formed, counted, first) = why in
    let here = file_view c.file-file.result in
    let at : i ≡ number - 1 = omega (arith, counted) in
    let there : slice_get (files_view c.args.known) i ≡ Some here = rw at c.file-file.ensures in
    answered_more (λ t s. IsTold c.args.manner here fault (λ form. known_refusal form number fault) (known_object number fault) t × (s ≡ refusal_status fault)) (VerifySays c.args.manner profile (file_view c.args.file) (files_view c.args.known))
    (λ text status p. inr (
      class,
      formed,
      inl (
        i,
        fault,
        first,
        here,
        there,
        subst (λ n. IsTold c.args.manner here fault (λ form. known_refusal form n fault) (known_object n fault) text) counted p.0,
        p.1,
      ),
    ))
    (held c.args.out.now) (held c.refuse_known.new.out) c.refuse_known.result c.refuse_known.ensures

pub returns-in-NoHierarchy : goal.returns-in-NoHierarchy
returns-in-NoHierarchy g c = λ profile told.
    let held = g.W.Write.contents in
    let read = read_view c.args.file in
    let known = reads_of (files_view c.args.known) in
    let fault = c.in-NoHierarchy.fault in
    let why : ReportsAmong profile read known (Err (NoHierarchy fault)) = subst (λ e. ReportsAmong profile read known (Err e)) c.in-NoHierarchy.is told in
    let (class, cs, formed, all, other, is) = why in
    answered_more (λ t s. (t ≡ hierarchy_told c.args.manner fault) × (s ≡ 1)) (VerifySays c.args.manner profile (file_view c.args.file) (files_view c.args.known))
    (λ text status p. inr (class, formed, inr (cs, all, inl (fault, other, is, p.0, p.1))))
    (held c.args.out.now) (held c.tell.new.out) c.tell.result c.tell.ensures

pub returns-in-Final : goal.returns-in-Final
returns-in-Final g c = λ profile told.
    let held = g.W.Write.contents in
    let read = read_view c.args.file in
    let known = reads_of (files_view c.args.known) in
    let rule = c.in-Final.rule in
    let why : ReportsAmong profile read known (Err (Final rule)) = subst (λ e. ReportsAmong profile read known (Err e)) c.in-Final.is told in
    let (class, cs, formed, all, hierarchy, final) = why in
    answered_more (λ t s. (t ≡ final_told c.args.manner class rule) × (s ≡ 1)) (VerifySays c.args.manner profile (file_view c.args.file) (files_view c.args.known))
    (λ text status p. inr (class, formed, inr (cs, all, inr (hierarchy, inl (rule, final, p.0, p.1)))))
    (held c.args.out.now) (held c.refuse_final.new.out) c.refuse_final.result (c.refuse_final.ensures class formed)
