use Rattle.std.proofs.Common.{◌≡◌, ◌∙◌, [], Some, map, get_or, option_map, slice_get, refl, sym, ap, subst}
use Rattle.std.proofs.lemmas.Option.{slice_get-map, slice_get-get_or}
use Rattle.classfile.proofs.Places.{take_one_more}
use Rattle.answers.specs.Files.{input_view}
use Rattle.serving.specs.KnownClasses.{BecomeKnown}
use Rattle.serving.proofs.Talks.{become_more}
use Rattle.serving.proofs.serving.known_from.Goals as goal

pub returns-in-Err : goal.returns-in-Err
returns-in-Err c =
    let (ks, become, knows) = c.loop-i.invariant in
    let reads = c.args.reads.now in
    let i = c.loop-i.i in
    let file = input_view c.index-reads-i.result in
    let here : slice_get (map input_view reads) i ≡ Some file =
    slice_get-map input_view reads i ∙ ap (option_map input_view) (slice_get-get_or reads i c.index-reads-i.result c.loop-i-test.true ∙ ap (λ x. Some x) (sym c.index-reads-i.is)) in
    (i, file, ks, refl, here, become, c.in-Err.ensures ks knows)

pub loop-i-preserved : goal.loop-i-preserved
loop-i-preserved c =
    let (ks, become, knows) = c.loop-i.invariant in
    let profile = c.args.profile in
    let reads = c.args.reads.now in
    let i = c.loop-i.i in
    let file = input_view c.index-reads-i.result in
    let here : slice_get (map input_view reads) i ≡ Some file =
    slice_get-map input_view reads i ∙ ap (option_map input_view) (slice_get-get_or reads i c.index-reads-i.result c.loop-i-test.true ∙ ap (λ x. Some x) (sym c.index-reads-i.is)) in
    let (new, one, known) = c.in-Ok.ensures ks knows in
    (new, subst (λ files. BecomeKnown profile [] files new) (sym (take_one_more (map input_view reads) i file here)) (become_more profile [] ks new _ file become one), known)
