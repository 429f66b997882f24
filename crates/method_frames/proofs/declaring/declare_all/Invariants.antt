use Rattle.std.proofs.Common.{◌≤◌, map, drop}
use Rattle.frames.specs.MapViews.{entry_of}
use Rattle.frames.specs.DeclaredFrames.{declared_frames}
use Rattle.frames.specs.RefusedEntries.{refused_entry}
use Rattle.type_numbers.specs.Decoding.{types_by}
use Rattle.method_frames.proofs.MapLooping.{AreBegun}
use Rattle.method_frames.proofs.declaring.declare_all.Given as goal

abbrev pub invariant-loop-place : goal.invariant-loop-place
invariant-loop-place g l =
    let pool = l.limits.pool.now in
    let code = g.St.Starts.code l.limits.starts.now in
    let m = l.limits in
    let ts = types_by l.fn.frames.types l.fn.locals in
    let es = map entry_of l.entries in
    record {
      small : l.behind ≤ 65536;
      begun : AreBegun pool code m.max_locals m.max_stack l.fn.frames l.frames l.locals l.behind l.place (drop l.place es) (declared_frames pool code m.max_locals m.max_stack ts es) (refused_entry pool code m.max_locals m.max_stack ts es);
    }
