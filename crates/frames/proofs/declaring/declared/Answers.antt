use Rattle.std.proofs.Common.{◌≡◌, ◌∙◌, ◌+◌, ◌∷◌, List, map, drop, refl, sym, ap, subst, arith}
use Rattle.std.proofs.lemmas.List.{drop_more}
use Rattle.insn.specs.Offsets.{acts}
use Rattle.insn.specs.Views.{views}
use Rattle.frames.specs.VerificationType.{type_of}
use Rattle.frames.specs.MapViews.{entry_of}
use Rattle.frames.specs.DeclaredFrames.{declared_frames}
use Rattle.frames.specs.private.Judging.{against, IsToldBy, IsDeclared}
use Rattle.frames.specs.declared.stack_map.MapEntry.{MapEntry as Held}
use Rattle.frames.proofs.Looping.{AreBegun, refused_begun, more_begun, passed_on}
use Rattle.frames.proofs.declaring.declared.Goals as goal

pub returns-in_err-frame : goal.returns-in_err-frame
returns-in_err-frame c =
    let pool = c.args.pool.now in
    let code = acts (views c.args.code.now) in
    let locals = c.args.max_locals in
    let stack = c.args.max_stack in
    let es = c.entries-entry-items.result.now in
    let i = c.loop-entry.entry-index in
    let x = c.entry-item.result in
    let frames = c.loop-entry.frames.items in
    let behind = c.loop-entry.behind in
    let ts = map type_of c.loop-entry.locals.items in
    let answer = declared_frames pool code locals stack (map type_of c.args.initial.now) c.args.stack_map.now in
    let split : drop i es ≡ x ∷ drop (i + 1) es = drop_more es i x c.loop-entry-test.true ∙ ap (λ (y : Held). y ∷ drop (i + 1) es) (sym c.entry-item.is) in
    let h = subst (λ (l : List Held). AreBegun pool code locals stack frames behind ts (map entry_of l) answer) split c.loop-entry.invariant.begun in
    let told = subst (λ is. IsToldBy (against pool (acts is) locals stack (behind + c.from.result) ts (entry_of x)) c.in_err-frame.field-0.0) c.in_ok-starts.ensures c.in_err-frame.ensures.declares in
    passed_on answer c.in_err-frame.field-0.0 c.from_residual-in_err-frame.result c.from_residual-in_err-frame.ensures.1
    (refused_begun pool code locals stack frames behind c.from.result (behind + c.from.result) ts (entry_of x) (map entry_of (drop (i + 1) es)) answer h (c.from.ensures ∙ c.delta.ensures) refl c.in_err-frame.field-0.0 told)

pub loop-entry-preserved : goal.loop-entry-preserved
loop-entry-preserved c =
    let pool = c.args.pool.now in
    let code = acts (views c.args.code.now) in
    let locals = c.args.max_locals in
    let stack = c.args.max_stack in
    let es = c.entries-entry-items.result.now in
    let i = c.loop-entry.entry-index in
    let x = c.entry-item.result in
    let frames = c.loop-entry.frames.items in
    let behind = c.loop-entry.behind in
    let ts = map type_of c.loop-entry.locals.items in
    let at = behind + c.from.result in
    let answer = declared_frames pool code locals stack (map type_of c.args.initial.now) c.args.stack_map.now in
    let split : drop i es ≡ x ∷ drop (i + 1) es = drop_more es i x c.loop-entry-test.true ∙ ap (λ (y : Held). y ∷ drop (i + 1) es) (sym c.entry-item.is) in
    let h = subst (λ (l : List Held). AreBegun pool code locals stack frames behind ts (map entry_of l) answer) split c.loop-entry.invariant.begun in
    let one = subst (λ is. IsDeclared pool (acts is) locals stack at ts (entry_of x) c.in_ok-frame.frame) c.in_ok-starts.ensures c.in_ok-frame.ensures.declares in
    record {
      small = omega (arith, c.in_ok-frame.ensures.small);
      same = c.declare_one.ensures.same ∙ c.loop-entry.invariant.same;
      begun =
          more_begun pool code locals stack frames behind c.from.result at ts (entry_of x) (map entry_of (drop (i + 1) es)) answer h (c.from.ensures ∙ c.delta.ensures) refl
          c.in_ok-frame.frame c.push.new.self.items (map type_of c.declare_one.new.locals.items) one c.in-Ok.ensures.items c.in_ok-frame.ensures.locals;
    }
