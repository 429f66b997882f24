use Rattle.std.proofs.Common.{◌≡◌, ◌∙◌, Ok, [], map, sym, ap, ap₂, subst}
use Rattle.std.specs.Prelude.{IfOk}
use Rattle.std.specs.Option.{option_map}
use Rattle.insn.specs.Offsets.{acts}
use Rattle.insn.specs.Decoding.{instructions_in}
use Rattle.frames.specs.DeclaredFrames.{declared_frames, frame_with}
use Rattle.frames.specs.MapViews.{entry_of}
use Rattle.frames.specs.MarkedCode.{code_in}
use Rattle.frames.specs.RefusedEntries.{refused_entry}
use Rattle.type_numbers.specs.Decoding.{types_by}
use Rattle.method_frames.specs.MapFrames.{AreDeclared, frames_by, refused_by}
use Rattle.method_frames.specs.NumberedFrames.{NumberedFrames, frame_by}
use Rattle.rules.specs.Bodies.{method_view}
use Rattle.verify.specs.Details.{refused_detail}
use Rattle.verify.specs.Verdict.{or_undeclared}
use Rattle.verify.proofs.numbered.Maps.{begins_so}
use Rattle.verify.proofs.pass.method.declare_entries.Goals as goal

pub returns-in-Ok-clause-declared : goal.returns-in-Ok-clause-declared
returns-in-Ok-clause-declared g c =
    let m = method_view c.args.body.now.method.now in
    let x = c.args.frames.now in
    let y = c.declare.new.frames in
    let es = map entry_of c.args.entries.now in
    let code = c.args.body.now.code in
    let types = c.requires.initial.types in
    let same = ap (λ (z : NumberedFrames). z.types) c.in_ok-declare.ensures.rest.others in
    let frames = ap₂ (λ bytes ts. declared_frames m.constant_pool (acts (instructions_in bytes)) m.max_locals m.max_stack ts es) code types in
    let declared = subst (AreDeclared _ _) c.in-Ok.is c.in_ok-declare.ensures.declared in
    let given = types_by x.types c.args.initial.now in
    let code_is = acts (instructions_in (code_in c.args.body.now.starts.now)) in
    let running =
    subst (λ r. IfOk r (λ u. frame_by x.types y.running ≡ frame_with m.constant_pool code_is m.max_locals m.max_stack given [])) c.in-Ok.is c.in_ok-declare.ensures.running in (
      ap or_undeclared (sym frames ∙ declared ∙ ap (λ s. Ok (frames_by s y.declared)) (sym same)),
      ap (λ s. frame_by s y.running) same ∙ running
          ∙ ap₂ (λ bytes ts. frame_with m.constant_pool (acts (instructions_in bytes)) m.max_locals m.max_stack ts []) code types ∙ begins_so m,
    )

pub returns-in-Err-clause-declared : goal.returns-in-Err-clause-declared
returns-in-Err-clause-declared g c =
    let m = method_view c.args.body.now.method.now in
    let es = map entry_of c.args.entries.now in
    let code = c.args.body.now.code in
    let types = c.requires.initial.types in
    let frames = ap₂ (λ bytes ts. declared_frames m.constant_pool (acts (instructions_in bytes)) m.max_locals m.max_stack ts es) code types in
    let declared = subst (AreDeclared _ _) c.in-Err.is c.in_ok-declare.ensures.declared in
    let entry = ap₂ (λ bytes ts. refused_entry m.constant_pool (acts (instructions_in bytes)) m.max_locals m.max_stack ts es) code types in
    let refused = sym (ap refused_by c.in-Err.is) ∙ c.in_ok-declare.ensures.refused in
    (ap or_undeclared (sym frames ∙ declared), ap (option_map refused_detail) (sym (refused ∙ entry)))
