use Rattle.std.specs.Option.{option_map}
use Rattle.names.specs.Types.{type_of}
use Rattle.classfile.specs.CodeMethods.{class_of, code_method_view}
use Rattle.classfile.specs.Views.{class_view, code_view}
use Rattle.classfile.proofs.MethodLaws.{method_says}
use Rattle.insn.specs.Code.{SpellsCode}
use Rattle.insn.specs.Meanings.{Act}
use Rattle.insn.specs.Offsets.{acts}
use Rattle.insn.specs.Decoding.{instructions_in}
use Rattle.rules.specs.Bodies.{method_view}
use Rattle.rules.specs.Reasons.{reason_number}
use Rattle.verify.specs.InitialFrames.{initial_types}
use Rattle.verify.proofs.MethodCode.{little_code}
use Rattle.verify.proofs.Decoded.{read_spelled}
use Rattle.verify.proofs.FramesFound.{without_code, found_in}
use Rattle.verify.proofs.InitialNumbers.{kept_read, kept_given}
use Rattle.verify.proofs.frames_at.frames_of.Goals as goal

pub frames_in_body-requires-clause-few : goal.frames_in_body-requires-clause-few
frames_in_body-requires-clause-few g c = let m = c.args.method in
    little_code (class_view m.class.now) c.requires.formed m.number (code_view m.code.now) c.requires.coded

pub frames_in_body-requires-clause-initial : goal.frames_in_body-requires-clause-initial
frames_in_body-requires-clause-initial g c = let s = c.args.frames.now.types in
    kept_read s c.deref.result.now c.in_ok-initial.initial.items (initial_types (method_view c.args.method)) c.deref.ensures.value (c.in_ok-initial.ensures s c.requires.types)

pub frames_in_body-requires-clause-given : goal.frames_in_body-requires-clause-given
frames_in_body-requires-clause-given g c = let s = c.args.frames.now.types in
    kept_given s c.deref.result.now c.in_ok-initial.initial.items (initial_types (method_view c.args.method)) c.deref.ensures.value (c.in_ok-initial.ensures s c.requires.types)

pub new-requires : goal.new-requires
new-requires g c = let m = c.args.method in
    little_code (class_view m.class.now) c.requires.formed m.number (code_view m.code.now) c.requires.coded

pub returns-in-Err-clause-found : goal.returns-in-Err-clause-found
returns-in-Err-clause-found g c =
    let m = c.args.method in
    without_code c.args.frames.now.types.classes (class_of m) m.number (reason_number c.args.refusal.reason) c.args.refusal.at (code_view m.code.now) c.in-Err.fault c.without_code.result c.requires.coded
    c.in-Err.ensures.fault c.without_code.ensures.found

pub returns-clause-found : goal.returns-clause-found
returns-clause-found g c =
    let m = c.args.method in
    let xs = instructions_in m.code.now.code.now in
    let spelled : SpellsCode 0 (code_view m.code.now).code xs =
    read_spelled (code_view m.code.now).code c.in-Ok.ensures.spelled.0 c.in-Ok.ensures.spelled.1 in
    found_in c.args.frames.now.types.classes (class_of m) m.number (reason_number c.args.refusal.reason) c.args.refusal.at (code_view m.code.now) xs
    (code_method_view {A = Act} m (acts xs)) c.frames_in_body.result c.requires.coded spelled
    (method_says {A = Act} (class_of m) m.number (code_view m.code.now) m.is_static m.is_init
    (option_map type_of m.result_type) m.is_method (acts xs))
    c.frames_in_body.ensures.found
