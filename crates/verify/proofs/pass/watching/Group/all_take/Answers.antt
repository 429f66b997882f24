use Rattle.std.proofs.Common.{◌≡◌, ◌∙◌, ◌/◌, ℕ, List, length, slice_get, Some, sym, ap, subst}
use Rattle.verify.specs.private.pass.Representatives.{TakesLocal}
use Rattle.verify.specs.private.pass.Watching.{AreDeclared, IsWanted}
use Rattle.verify.proofs.numbered.Watched.{updated_all, wanted_kept, alike_take, group_takes}
use Rattle.verify.proofs.pass.watching.Group.all_take.Goals as goal

pub see-requires-clause-list : goal.see-requires-clause-list
see-requires-clause-list g c =
    let x = c.args.frames.now in
    subst (AreDeclared x.declared) (sym c.deref-2.ensures.value) (c.take_out-wanted.ensures.group x.types x.declared c.requires.group.0 (c.args.place / 256) c.requires.group.1).declared

pub see-requires-clause-wanted : goal.see-requires-clause-wanted
see-requires-clause-wanted g c =
    let x = c.args.frames.now in
    subst (λ fs. IsWanted x.types x.declared fs c.args.place c.take_out-wanted.result) (sym c.deref-2.ensures.value)
    (c.take_out-wanted.ensures.wanted x.types x.declared c.requires.group.0 (c.args.place / 256) c.requires.group.1)

pub returns-clause-group : goal.returns-clause-group
returns-clause-group g c = λ list is.
    let x = c.args.frames.now in
    let group = c.take_out-wanted.new.self in
    let rest = c.take_out-wanted.ensures.group x.types x.declared list (c.args.place / 256) is in
    let wants = subst (λ fs. IsWanted x.types x.declared fs c.args.place c.see.new.self) c.deref-2.ensures.value c.in_ok-see.ensures.wanted in
    record {
      few = rest.few;
      declared = rest.declared;
      each = rest.each;
      locals = updated_all (IsWanted x.types x.declared group.frames.items) group.locals c.insert.new.self c.args.place c.all_fit.new.self c.in_ok-insert.ensures.updates
          (wanted_kept x.types x.declared group.frames.items c.args.place c.see.new.self c.all_fit.new.self wants c.in_ok-all.ensures.fitting c.all_fit.ensures.seen c.all_fit.ensures.numbers)
          rest.locals;
    }

pub returns-then-len-le-FEW_FRAMES-clause-taken : goal.returns-then-len-le-FEW_FRAMES-clause-taken
returns-then-len-le-FEW_FRAMES-clause-taken g c = λ list is all t.
    let x = c.args.frames.now in
    let group = c.args.self.now in
    alike_take x.types x.declared list c.args.place c.args.number group is all
    (subst (λ (fs : List ℕ). (k f : ℕ) → slice_get fs k ≡ Some f → TakesLocal x.types x.declared f c.args.place c.args.number) c.deref.ensures.value (c.each_takes.ensures t))

pub returns-clause-taken : goal.returns-clause-taken
returns-clause-taken g c = λ list is all t.
    let x = c.args.frames.now in
    let group = c.take_out-wanted.new.self in
    let rest = c.take_out-wanted.ensures.group x.types x.declared list (c.args.place / 256) is in
    let wants = subst (λ fs. IsWanted x.types x.declared fs c.args.place c.see.new.self) c.deref-2.ensures.value c.in_ok-see.ensures.wanted in
    group_takes x.types x.declared list c.args.place c.args.number group c.see.new.self rest (c.take_out-wanted.ensures.seen ∙ all) wants
    (c.in_ok-see.ensures.all ∙ ap length c.deref-2.ensures.value) (c.in_ok-all.ensures.fit t)
