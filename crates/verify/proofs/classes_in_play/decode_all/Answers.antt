use Rattle.std.proofs.Common.{◌≡◌, ◌∙◌, ◌++◌, ◌+◌, ◌∷◌, [], Some, map, take, length, get_or, sym, ap, subst}
use Rattle.std.specs.Prelude.{slice_get}
use Rattle.std.specs.Option.{option_map}
use Rattle.std.proofs.lemmas.List.{length-append, length-map}
use Rattle.std.proofs.lemmas.Option.{slice_get-map, slice_get-get_or}
use Rattle.classfile.specs.Views.{class_view}
use Rattle.classfile.proofs.Places.{take_one_more}
use Rattle.verify.specs.declared.files.FileRead.{FileRead}
use Rattle.classfile.specs.declared.versions.Versions.TheVariants.{Java7To17}
use Rattle.verify.specs.declared.files.FileRead.TheVariants.{Bytes}
use Rattle.verify.specs.Files.{read_of}
use Rattle.verify.specs.private.TogetherSteps.{AreDecoded, views}
use Rattle.verify.proofs.FilesInPlay.{one_more_decoded, more_views, first_behind}
use Rattle.verify.proofs.classes_in_play.decode_all.Goals as goal

no_read : FileRead
no_read = Bytes record { ref_ptr = (0, 0); now = [] } Java7To17

pub loop-i-preserved : goal.loop-i-preserved
unfolding no_read
loop-i-preserved c =
    let (all, count) = c.loop-i.invariant in
    let files = c.args.files.now in
    let i = c.loop-i.i in
    let read = read_of (get_or files i no_read) in
    let here : slice_get (map read_of files) i ≡ Some read =
    slice_get-map read_of files i ∙ ap (option_map read_of) (slice_get-get_or files i no_read c.loop-i-test.true) in
    let old = c.loop-i.classes.items in
    let x = c.in-Ok.class in
    let is : c.push.new.self.items ≡ old ++ x ∷ [] = c.in_ok-push-in-Ok.ensures.items in (
      subst (AreDecoded (take (i + 1) (map read_of files))) (sym (ap views is ∙ more_views old x))
          (subst (λ reads. AreDecoded reads (views old ++ class_view x ∷ [])) (sym (take_one_more (map read_of files) i read here))
          (one_more_decoded (take i (map read_of files)) (views old) read (class_view x) all c.in-Ok.ensures)),
      ap length is ∙ length-append old (x ∷ []) ∙ ap (λ n. n + 1) count,
    )

pub returns-in-Err : goal.returns-in-Err
unfolding no_read
returns-in-Err c =
    let (all, count) = c.loop-i.invariant in
    let files = c.args.files.now in
    let i = c.loop-i.i in
    let read = read_of (get_or files i no_read) in
    let reads = map read_of files in
    let cs = views c.loop-i.classes.items in
    let here : slice_get reads i ≡ Some read =
    slice_get-map read_of files i ∙ ap (option_map read_of) (slice_get-get_or files i no_read c.loop-i-test.true) in
    let long : length cs ≡ i = length-map c.loop-i.classes.items (λ k. class_view k) ∙ count in
    let front : AreDecoded (take (length cs) reads) cs = subst (λ n. AreDecoded (take n reads) cs) (sym long) all in (
      front,
      λ formed profile.
          c.refused.ensures reads read (length cs) (ap (λ n. n + 1) (sym long)) c.in-Err.ensures
          (λ why. first_behind reads cs read c.in-Err.fault front formed (ap (slice_get reads) long ∙ here) why) profile,
    )
