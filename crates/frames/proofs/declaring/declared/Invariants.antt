use Rattle.std.proofs.Common.{◌≡◌, ◌≤◌, map, drop}
use Rattle.insn.specs.Offsets.{acts}
use Rattle.insn.specs.Views.{views}
use Rattle.frames.specs.VerificationType.{type_of}
use Rattle.frames.specs.MapViews.{entry_of}
use Rattle.frames.specs.DeclaredFrames.{declared_frames}
use Rattle.frames.proofs.Looping.{AreBegun}
use Rattle.frames.proofs.declaring.declared.Given as goal

abbrev pub invariant-loop-entry : goal.invariant-loop-entry
invariant-loop-entry l = record {
  small : l.behind ≤ 65536;
  same : l.constants ≡ l.pool;
  begun : AreBegun l.pool (acts (views l.code)) l.max_locals l.max_stack l.frames.items l.behind (map type_of l.locals.items) (map entry_of (drop l.entry-index l.entry-items))
      (declared_frames l.pool (acts (views l.code)) l.max_locals l.max_stack (map type_of l.initial') l.stack_map);
}
