use Rattle.std.proofs.Common.{◌≤◌, ◌∙◌, ◌++◌, length, refl, ap, subst, sym}
use Rattle.std.proofs.lemmas.Result.{on_ok_weaker}
use Rattle.frames.specs.Slots.{units_of}
use Rattle.frames.specs.MapViews.{entry_of}
use Rattle.type_numbers.specs.Decoding.{types_by}
use Rattle.method_frames.specs.private.MapEntries.{locals_behind}
use Rattle.method_frames.proofs.MapWriting.{shown_types, shown_given, locals_written}
use Rattle.method_frames.proofs.declaring.write_locals.Goals as goal

pub append_all-requires-clause-given : goal.append_all-requires-clause-given
append_all-requires-clause-given g c =
    let s = c.args.frames.now.types in
    let pool = c.requires.table.0 in
    shown_given s pool c.in-Append.infos.items c.deref.result.now c.numbers_given.new.numbers.items c.deref-in-Append.result.now c.deref.ensures.value c.deref-in-Append.ensures.value
    (c.in_ok-numbers_given-in-Append.ensures s pool c.requires.table.1) c.args.frames.now refl

pub append_all-requires-clause-fits : goal.append_all-requires-clause-fits
append_all-requires-clause-fits g c =
    let s = c.args.frames.now.types in
    let pool = c.requires.table.0 in
    let before = c.args.locals.now in
    let written =
    locals_written s pool c.in-Append.infos.items c.deref.result.now c.numbers_given.new.numbers.items c.deref-in-Append.result.now c.deref.ensures.value c.deref-in-Append.ensures.value
    (c.in_ok-numbers_given-in-Append.ensures s pool c.requires.table.1) before (before ++ c.deref-in-Append.result.now) refl
    in
    subst (λ ts. units_of ts ≤ length c.args.frames.now.running.locals) (sym written)
    (subst (λ e. units_of (locals_behind pool (entry_of e) (types_by s before)) ≤ length c.args.frames.now.running.locals) c.in-Append.is (c.requires.fits pool))

pub change_all-requires-clause-given : goal.change_all-requires-clause-given
change_all-requires-clause-given g c =
    let s = c.args.frames.now.types in
    let pool = c.requires.table.0 in
    shown_given s pool c.in-Full.infos.items c.deref-in-Full.result.now c.numbers_given-in-Full.new.numbers.items c.deref-in-Full-2.result.now c.deref-in-Full.ensures.value c.deref-in-Full-2.ensures.value
    (c.in_ok-numbers_given-in-Full.ensures s pool c.requires.table.1) c.args.frames.now refl

pub change_all-requires-clause-fits : goal.change_all-requires-clause-fits
change_all-requires-clause-fits g c =
    let s = c.args.frames.now.types in
    let pool = c.requires.table.0 in
    let written =
    shown_types s pool c.in-Full.infos.items c.deref-in-Full.result.now c.numbers_given-in-Full.new.numbers.items c.deref-in-Full-2.result.now c.deref-in-Full.ensures.value c.deref-in-Full-2.ensures.value
    (c.in_ok-numbers_given-in-Full.ensures s pool c.requires.table.1)
    in
    subst (λ ts. units_of ts ≤ length c.args.frames.now.running.locals) (sym written)
    (subst (λ e. units_of (locals_behind pool (entry_of e) (types_by s c.args.locals.now)) ≤ length c.args.frames.now.running.locals) c.in-Full.is (c.requires.fits pool))

pub returns-in_ok-numbers_given-in-Append-clause-locals : goal.returns-in_ok-numbers_given-in-Append-clause-locals
returns-in_ok-numbers_given-in-Append-clause-locals g c pool table =
    let s = c.args.frames.now.types in
    rw c.in-Append.is (on_ok_weaker c.append_all.result
    (locals_written s pool c.in-Append.infos.items c.deref.result.now c.numbers_given.new.numbers.items c.deref-in-Append.result.now c.deref.ensures.value c.deref-in-Append.ensures.value
    (c.in_ok-numbers_given-in-Append.ensures s pool table) c.args.locals.now c.append_all.new.locals) c.append_all.ensures.locals)

pub returns-in_ok-numbers_given-in-Full-clause-locals : goal.returns-in_ok-numbers_given-in-Full-clause-locals
returns-in_ok-numbers_given-in-Full-clause-locals g c pool table =
    let s = c.args.frames.now.types in
    let written =
    shown_types s pool c.in-Full.infos.items c.deref-in-Full.result.now c.numbers_given-in-Full.new.numbers.items c.deref-in-Full-2.result.now c.deref-in-Full.ensures.value c.deref-in-Full-2.ensures.value
    (c.in_ok-numbers_given-in-Full.ensures s pool table)
    in
    rw c.in-Full.is (on_ok_weaker c.change_all.result (λ e. ap (types_by s) e ∙ written) c.change_all.ensures.locals)
