use Rattle.std.proofs.Common.{◌≡◌, map, take, false}
use Rattle.frames.specs.MapViews.{info_of}
use Rattle.frames.specs.DeclaredFrames.{any_info}
use Rattle.frames.specs.private.Judging.{is_wrong}
use Rattle.frames.proofs.refusing.any_wrong.Given as goal

abbrev pub invariant-loop-info : goal.invariant-loop-info
invariant-loop-info g l = any_info (is_wrong l.wrong l.pool (g.S.Starts.code l.starts)) (map info_of (take l.info-index l.infos)) ≡ false
