use Rattle.std.proofs.Common.{◌≡◌, ◌∙◌, ◌≤◌, List, length, map, reverse, refl, sym, ap, subst, arith}
use Rattle.std.proofs.lemmas.List.{length-map}
use Rattle.frames.specs.declared.vtype.VType.{VType}
use Rattle.frames.specs.VerificationType.{type_of}
use Rattle.frames.specs.FrameFact.{frame_of}
use Rattle.frames.specs.Slots.{units_of, in_locals, all_locals}
use Rattle.frames.specs.MapViews.{entry_of}
use Rattle.frames.specs.DeclaredFrames.{locals_of, stack_of, has_uninit_this, frame_with}
use Rattle.frames.specs.private.Judging.{against}
use Rattle.frames.proofs.Filling.{sizes_are}
use Rattle.frames.proofs.Walks.{units_are}
use Rattle.frames.proofs.Looping.{told_by}
use Rattle.frames.proofs.Writing.{same_fact}
use Rattle.frames.proofs.declaring.declare_one.Goals as goal

pub returns-in-Some-clause-declares : goal.returns-in-Some-clause-declares
returns-in-Some-clause-declares g c =
    let m = c.args.limits.now in
    let pool = m.pool.now in
    let ts = map type_of c.args.locals.now.items in
    let e = entry_of c.args.entry.now in
    let xs = c.change_locals.new.locals.items in
    let ys = c.in_ok-stack.stack.items in
    let left : map type_of xs ≡ locals_of pool ts e = c.in_ok-change_locals.ensures.changed ∙ ap (λ p. locals_of p ts e) c.requires in
    let items : reverse (map type_of ys) ≡ stack_of pool e = c.in_ok-stack.ensures.stack ∙ ap (λ p. stack_of p e) (c.change_locals.ensures.same ∙ c.requires) in
    let sizes = sizes_are ts (locals_of pool ts e) (stack_of pool e) xs ys (record { before = c.len-before.result; locals = c.units.result; stack = c.units-2.result })
    (omega (arith, c.len-before.ensures, c.args.locals.now.ok.0, length-map c.args.locals.now.items type_of)) left
    (c.units.ensures ∙ ap (λ (l : List VType). units_of (map type_of l)) c.deref.ensures.value) items
    (c.units-2.ensures ∙ ap (λ (l : List VType). units_of (map type_of l)) c.deref-2.ensures.value) in
    told_by (against pool (g.S.Starts.code m.starts.now) m.max_locals m.max_stack c.args.at ts e) c.in-Some.fault (sym (c.in-Some.ensures.least ts (locals_of pool ts e) (stack_of pool e) sizes))

pub all_locals-requires : goal.all_locals-requires
all_locals-requires g c =
    let same : c.deref-3.result.now ≡ c.deref.result.now = c.deref-3.ensures.value ∙ sym c.deref.ensures.value in
    subst (λ (l : List VType). length (in_locals (map type_of l)) ≤ c.args.limits.now.max_locals) (sym same)
    (omega (arith, (c.in_default.ensures.fits refl).0, c.units.ensures, units_are (map type_of c.deref.result.now)))

pub returns-clause-declares : goal.returns-clause-declares
returns-clause-declares g c =
    let m = c.args.limits.now in
    let pool = m.pool.now in
    let code = g.S.Starts.code m.starts.now in
    let ts = map type_of c.args.locals.now.items in
    let e = entry_of c.args.entry.now in
    let xs = c.change_locals.new.locals.items in
    let ys = c.in_ok-stack.stack.items in
    let left : map type_of xs ≡ locals_of pool ts e = c.in_ok-change_locals.ensures.changed ∙ ap (λ p. locals_of p ts e) c.requires in
    let items : reverse (map type_of ys) ≡ stack_of pool e = c.in_ok-stack.ensures.stack ∙ ap (λ p. stack_of p e) (c.change_locals.ensures.same ∙ c.requires) in
    let sizes = sizes_are ts (locals_of pool ts e) (stack_of pool e) xs ys (record { before = c.len-before.result; locals = c.units.result; stack = c.units-2.result })
    (omega (arith, c.len-before.ensures, c.args.locals.now.ok.0, length-map c.args.locals.now.items type_of)) left
    (c.units.ensures ∙ ap (λ (l : List VType). units_of (map type_of l)) c.deref.ensures.value) items
    (c.units-2.ensures ∙ ap (λ (l : List VType). units_of (map type_of l)) c.deref-2.ensures.value) in
    record {
      free = sym (c.in_default.ensures.least ts (locals_of pool ts e) (stack_of pool e) sizes);
      frame = same_fact (frame_of (record { locals = c.in_ok-all.all; stack = c.in_ok-stack.stack; flag = c.has_own.result })) (frame_with pool code m.max_locals m.max_stack (locals_of pool ts e) (stack_of pool e))
          (c.in_ok-all.ensures ∙ ap (λ (l : List VType). all_locals m.max_locals (map type_of l)) c.deref-3.ensures.value ∙ ap (all_locals m.max_locals) left)
          items
          (c.has_own.ensures ∙ ap (λ (l : List VType). has_uninit_this (map type_of l)) c.deref-4.ensures.value ∙ ap has_uninit_this left);
    }
