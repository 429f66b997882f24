use Rattle.std.proofs.Common.{◌≡◌, ◌+◌, Result, Ok, Err, OnErr, length, set, refl, sym, subst, arith}
use Rattle.method_frames.specs.private.Frames.{AreFrames}
use Rattle.method_frames.specs.declared.method_frames.Declared.{Declared}
use Rattle.method_frames.proofs.MethodParts.{rows_stay, rows_declared, stacks_stay, grown, places_kept, view_rows, view_parts, parts_declared, view_declared, frames_declared}
use Rattle.method_frames.proofs.method_frames.MethodFrames.declare.Goals as goal

on_err : {A E P : Type 0} (r : Result A E) → P → OnErr r P
on_err (Ok a) p = tt
on_err (Err e) p = p

pub invariant_of-self-in_err-declare : goal.invariant_of-self-in_err-declare
invariant_of-self-in_err-declare g c =
    let x = c.self.inside in
    let k = places_kept x.locals x.stacks x.max_locals x.declared.items x.places.items c.reach.new.places.items c.reach.ensures.same c.self.invariant in
    grown x.locals c.declare.new.self x.stacks x.stacks (rows_stay x.locals c.declare.new.self c.in_err-declare.ensures.err) (stacks_stay x.stacks x.stacks refl) x.max_locals x.declared.items c.reach.new.places.items k

pub invariant_of-self-in_err-declare-2 : goal.invariant_of-self-in_err-declare-2
invariant_of-self-in_err-declare-2 g c =
    let x = c.self.inside in
    let k = places_kept x.locals x.stacks x.max_locals x.declared.items x.places.items c.reach.new.places.items c.reach.ensures.same c.self.invariant in
    grown x.locals c.declare.new.self x.stacks c.declare-2.new.self (rows_declared x.locals c.declare.new.self c.in_ok-declare.ensures.ok) (stacks_stay x.stacks c.declare-2.new.self c.in_err-declare-2.ensures.err)
    x.max_locals x.declared.items c.reach.new.places.items k

pub returns-in_err-declare-2-clause-err : goal.returns-in_err-declare-2-clause-err
returns-in_err-declare-2-clause-err g c =
    let x = c.self.inside in
    let k = places_kept x.locals x.stacks x.max_locals x.declared.items x.places.items c.reach.new.places.items c.reach.ensures.same c.self.invariant in
    on_err c.from_residual-in_err-declare-2.result
    (view_rows x.locals c.declare.new.self x.stacks c.declare-2.new.self x.flag x.max_locals x.declared.items c.reach.new.places.items k c.in_ok-declare.ensures.ok c.args.self.now c.self.view_is c.in_err-declare-2.ensures.err)

pub invariant_of-self-in_err-push : goal.invariant_of-self-in_err-push
invariant_of-self-in_err-push g c =
    let x = c.self.inside in
    let k = places_kept x.locals x.stacks x.max_locals x.declared.items x.places.items c.reach.new.places.items c.reach.ensures.same c.self.invariant in
    subst (λ ds. AreFrames c.declare.new.self c.declare-2.new.self x.max_locals ds c.reach.new.places.items) (sym c.in_err-push.ensures.items)
    (parts_declared x.locals c.declare.new.self x.stacks c.declare-2.new.self x.flag x.max_locals x.declared.items c.reach.new.places.items k c.in_ok-declare.ensures.ok c.args.self.now c.self.view_is c.in_ok-declare-2.ensures.ok)

pub returns-in_err-push-clause-err : goal.returns-in_err-push-clause-err
returns-in_err-push-clause-err g c =
    let x = c.self.inside in
    let k = places_kept x.locals x.stacks x.max_locals x.declared.items x.places.items c.reach.new.places.items c.reach.ensures.same c.self.invariant in
    on_err c.from_residual-in_err-push.result
    (view_parts x.locals c.declare.new.self x.stacks c.declare-2.new.self x.flag x.max_locals x.declared.items c.reach.new.places.items k c.in_ok-declare.ensures.ok c.args.self.now c.self.view_is c.in_ok-declare-2.ensures.ok
    c.push.new.self.items c.in_err-push.ensures.items)

pub returns-clause-ok : goal.returns-clause-ok
returns-clause-ok g c =
    let x = c.self.inside in
    let k = places_kept x.locals x.stacks x.max_locals x.declared.items x.places.items c.reach.new.places.items c.reach.ensures.same c.self.invariant in
    let d : Declared = record { offset = c.args.offset; locals = c.in_ok-declare.field-0; stack = c.in_ok-declare-2.field-0; flag = x.flag } in
    view_declared x.locals c.declare.new.self x.stacks c.declare-2.new.self x.flag x.max_locals x.declared.items c.reach.new.places.items k c.in_ok-declare.ensures.ok c.args.self.now c.self.view_is c.in_ok-declare-2.ensures.ok
    d refl c.in_ok-declare.ensures.place c.in_ok-declare-2.ensures.place c.push.new.self.items c.in_ok-push.ensures.items

pub invariant_of-self-2 : goal.invariant_of-self-2
invariant_of-self-2 g c =
    let x = c.self.inside in
    let k = places_kept x.locals x.stacks x.max_locals x.declared.items x.places.items c.reach.new.places.items c.reach.ensures.same c.self.invariant in
    let d : Declared = record { offset = c.args.offset; locals = c.in_ok-declare.field-0; stack = c.in_ok-declare-2.field-0; flag = x.flag } in
    let at : c.args.offset ≡ c.from.result = sym c.from.ensures in
    let frame : c.len-frame.result ≡ length x.declared.items = omega (arith, c.len-frame.ensures, x.declared.ok.0) in
    subst (λ o. AreFrames c.declare.new.self c.declare-2.new.self x.max_locals c.push.new.self.items (set c.reach.new.places.items o (c.len-frame.result + 1))) at
    (frames_declared x.locals c.declare.new.self x.stacks c.declare-2.new.self x.flag x.max_locals x.declared.items c.reach.new.places.items k c.in_ok-declare.ensures.ok c.args.self.now c.self.view_is c.in_ok-declare-2.ensures.ok
    d refl c.in_ok-declare.ensures.place c.in_ok-declare-2.ensures.place c.push.new.self.items c.in_ok-push.ensures.items c.args.offset c.len-frame.result refl frame c.requires.other c.in_ok-reach.ensures.room)
