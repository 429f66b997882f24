use Rattle.std.proofs.Common.{◌≡◌, ◌∙◌, ◌++◌, ◌∷◌, [], Some, map, take, get_or, sym, ap, subst, refl, append_assoc}
use Rattle.std.specs.Prelude.{slice_get}
use Rattle.std.specs.Option.{option_map}
use Rattle.std.proofs.lemmas.List.{map-append, append-nil}
use Rattle.std.proofs.lemmas.Option.{slice_get-map, slice_get-get_or}
use Rattle.classfile.proofs.Places.{take_one_more}
use Rattle.hierarchy.specs.ClassSummary.{summary_of}
use Rattle.hierarchy.specs.Summary.{fact_of, facts_of}
use Rattle.verify.specs.declared.files.FileRead.{FileRead}
use Rattle.classfile.specs.declared.versions.Versions.TheVariants.{Java7To17}
use Rattle.verify.specs.declared.files.FileRead.TheVariants.{Bytes}
use Rattle.verify.specs.Files.{read_of, AreFormed}
use Rattle.verify.proofs.Formed.{one_more_formed, earlier_formed}
use Rattle.verify.proofs.known_classes.add_known.Goals as goal

no_read : FileRead
no_read = Bytes record { ref_ptr = (0, 0); now = [] } Java7To17

pub loop-i-init : goal.loop-i-init
loop-i-init c = ([], tt, sym (append-nil (facts_of c.args.summaries.now.items)))

pub loop-i-preserved : goal.loop-i-preserved
unfolding no_read
loop-i-preserved c =
    let (cs, all, facts) = c.loop-i.invariant in
    let known = c.args.known.now in
    let i = c.loop-i.i in
    let read = read_of (get_or known i no_read) in
    let here : slice_get (map read_of known) i ≡ Some read =
    slice_get-map read_of known i ∙ ap (option_map read_of) (slice_get-get_or known i no_read c.loop-i-test.true) in
    let (class, formed, fact) = c.in-Ok.ensures in
    let old = facts_of c.args.summaries.now.items in (
      cs ++ class ∷ [],
      subst (λ reads. AreFormed reads (cs ++ class ∷ [])) (sym (take_one_more (map read_of known) i read here)) (one_more_formed (take i (map read_of known)) cs read class all formed),
      ap facts_of c.in_ok-push-in-Ok.ensures.items ∙ map-append fact_of c.loop-i.summaries.items (c.in-Ok.summary ∷ []) ∙ ap (λ fs. fs ++ fact_of c.in-Ok.summary ∷ []) facts
          ∙ append_assoc old (map summary_of cs) (fact_of c.in-Ok.summary ∷ [])
          ∙ ap (λ f. old ++ (map summary_of cs ++ f ∷ [])) fact ∙ ap (λ fs. old ++ fs) (sym (map-append summary_of cs (class ∷ []))),
    )

pub returns-in-Err : goal.returns-in-Err
unfolding no_read
returns-in-Err c =
    let (cs, all, facts) = c.loop-i.invariant in
    let known = c.args.known.now in
    let i = c.loop-i.i in
    let read = read_of (get_or known i no_read) in
    let here : slice_get (map read_of known) i ≡ Some read =
    slice_get-map read_of known i ∙ ap (option_map read_of) (slice_get-get_or known i no_read c.loop-i-test.true) in
    c.known_refused.ensures (map read_of known) read i (facts_of c.args.summaries.now.items) (facts_of c.loop-i.summaries.items) refl c.in-Err.ensures
    (λ refused. record { read = read; here = here; refused = refused; earlier = earlier_formed (map read_of known) i cs all })
