use Rattle.std.proofs.Common.{◌≡◌, ◌∙◌, ◌++◌, length, map, reverse, sym, ap, subst}
use Rattle.std.proofs.lemmas.List.{length-map, length-replicate}
use Rattle.frames.specs.VerificationType.{type_of}
use Rattle.method_frames.specs.NumberedFrames.{NumberedFrames}
use Rattle.numbered_rules.specs.RunningFrame.{held}
use Rattle.type_numbers.specs.MethodNumbers.{AreNumbers}
use Rattle.type_numbers.proofs.MethodReadings.{numbers_length}
use Rattle.verify.proofs.Applied.{frame_read}
use Rattle.verify.proofs.numbered.ClassTyped.{each_given}
use Rattle.verify.proofs.applying.begin.Goals as goal

pub set_locals-requires-clause-size : goal.set_locals-requires-clause-size
set_locals-requires-clause-size g c =
    let f = c.args.frame.now in
    let n = c.args.numbered.now in
    ap length c.deref.ensures.value
    ∙ numbers_length c.args.types.now n.locals.items (map type_of f.locals.items) c.requires.numbered.1.locals
    ∙ length-map f.locals.items type_of ∙ c.requires.locals ∙ sym (ap (λ (y : NumberedFrames). length y.running.locals) c.in_ok-frames.ensures ∙ length-replicate c.args.code.now.max_locals 0)

pub set_locals-requires-clause-given : goal.set_locals-requires-clause-given
set_locals-requires-clause-given g c =
    let types = map type_of c.args.frame.now.locals.items in
    let s = c.in_ok-frames.frames.types in
    let ns = c.deref.result.now in
    let here = subst (λ ks. AreNumbers c.args.types.now ks types) (sym c.deref.ensures.value) c.requires.numbered.1.locals in
    each_given s ns types (subst (λ z. AreNumbers z ns types) (sym (ap (λ (y : NumberedFrames). y.types) c.in_ok-frames.ensures)) here)

pub push_all-requires : goal.push_all-requires
push_all-requires g c =
    let types = map type_of c.args.frame.now.stack.items in
    let s = c.set_locals.new.frames.types in
    let ns = c.deref-2.result.now in
    let here = subst (λ ks. AreNumbers c.args.types.now ks types) (sym c.deref-2.ensures.value) c.requires.numbered.1.stack in
    let same : s ≡ c.args.types.now = ap (λ (y : NumberedFrames). y.types) c.in_ok-set_locals.ensures ∙ ap (λ (y : NumberedFrames). y.types) c.in_ok-frames.ensures in
    each_given s ns types (subst (λ z. AreNumbers z ns types) (sym same) here)

pub returns-clause-running : goal.returns-clause-running
returns-clause-running g c =
    let f = c.args.frame.now in
    let s = c.args.types.now in
    let locals = c.deref.result.now in
    let stack = c.deref-2.result.now in
    let is = c.requires.numbered.1 in
    ap held c.in_ok-push_all.ensures
    ∙ ap (λ (y : NumberedFrames). held (record y { running = record y.running { stack = reverse stack ++ y.running.stack } })) c.in_ok-set_locals.ensures
    ∙ ap (λ (y : NumberedFrames). held (record y { running = record y.running { locals = locals; stack = reverse stack ++ y.running.stack } })) c.in_ok-frames.ensures
    ∙ frame_read s f locals stack
    (subst (λ ks. AreNumbers s ks (map type_of f.locals.items)) (sym c.deref.ensures.value) is.locals)
    (subst (λ ks. AreNumbers s ks (map type_of f.stack.items)) (sym c.deref-2.ensures.value) is.stack)

pub returns-clause-size : goal.returns-clause-size
returns-clause-size g c =
    let f = c.args.frame.now in
    let n = c.args.numbered.now in
    ap (λ (y : NumberedFrames). length y.running.locals) c.in_ok-push_all.ensures
    ∙ ap (λ (y : NumberedFrames). length y.running.locals) c.in_ok-set_locals.ensures
    ∙ ap length c.deref.ensures.value
    ∙ numbers_length c.args.types.now n.locals.items (map type_of f.locals.items) c.requires.numbered.1.locals
    ∙ length-map f.locals.items type_of ∙ c.requires.locals
