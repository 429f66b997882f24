use Rattle.std.proofs.Common.{◌≡◌, ◌∙◌, ◌/◌, ◌+◌, ℕ, List, length, get_or, refl, sym, ap, subst, arith}
use Rattle.method_frames.specs.NumberedFrames.{NumberedFrame}
use Rattle.verify.specs.declared.pass.watching.Group.{Group}
use Rattle.verify.specs.private.pass.Watching.{AreDeclared, GoesOn, HasAlike}
use Rattle.verify.proofs.numbered.Listed.{index_at}
use Rattle.verify.proofs.numbered.Watched.{goes_on_itself, goes_on_pushed, declared_pushed, alike_pushed, group_more}
use Rattle.verify.proofs.pass.watching.Group.see.Goals as goal
use Rattle.verify.proofs.pass.watching.Group.see.Goals.{then-not-ends_with+in_ok-push, else-not-ends_with}

-- a frame was gone through
record Met (ds : List (ℕ × NumberedFrame)) (at frame : ℕ) (old new : Group) : Type 0 where
  seen : new.seen ≡ old.seen
  locals : new.locals ≡ old.locals
  on : GoesOn old.frames.items new.frames.items
  declared : AreDeclared ds new.frames.items
  has : HasAlike ds at new.frames.items frame

pub ends_with-requires-clause-frame : goal.ends_with-requires-clause-frame
ends_with-requires-clause-frame g c =
    let list = c.args.list.now in
    let seen = c.loop-self.self.seen in
    c.requires.list seen (get_or list seen 0) (index_at list 0 seen c.loop-self-test.true)

pub loop-self-preserved : goal.loop-self-preserved
loop-self-preserved g c =
    let s = c.args.frames.now.types in
    let ds = c.args.frames.now.declared in
    let list = c.args.list.now in
    let at = c.args.place / 256 in
    let old = c.loop-self.self in
    let frame = get_or list old.seen 0 in
    let here = index_at list 0 old.seen c.loop-self-test.true in
    let is = c.loop-self.invariant in
    let met : Met ds at frame old c.if-not-ends_with.self = elim c.if-not-ends_with.branch [
      | then-not-ends_with+in_ok-push w ↦
          (let pushed = w.in_ok-push.ensures.items in
          subst (Met ds at frame old) (sym w.self-is) (record {
            seen = refl;
            locals = refl;
            on = goes_on_pushed old.frames.items w.push.new.self.items frame pushed;
            declared = declared_pushed s ds old.frames.items w.push.new.self.items frame (c.requires.list old.seen frame here) pushed is.declared;
            has = alike_pushed s ds at old.frames.items w.push.new.self.items frame pushed;
          }))
      | else-not-ends_with w ↦
          subst (Met ds at frame old) (sym w.self-is) (record {
            seen = refl;
            locals = refl;
            on = goes_on_itself old.frames.items;
            declared = is.declared;
            has = w.if-not-ends_with.ensures refl;
          })
    ] in
    group_more s ds list at frame old _ here is (ap (λ n. n + 1) met.seen) met.locals met.on met.declared met.has
