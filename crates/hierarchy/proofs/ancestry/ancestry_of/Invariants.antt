use Rattle.std.proofs.Common.{◌<◌, length, take}
use Rattle.hierarchy.specs.private.Ancestry.{HavePlace, IsAncestry}
use Rattle.hierarchy.specs.private.Above.{names_of}
use Rattle.hierarchy.specs.Rules.{IsHierarchy}
use Rattle.hierarchy.proofs.ancestry.ancestry_of.Given as goal

abbrev pub invariant-loop-name : goal.invariant-loop-name
invariant-loop-name g l = record {
  good : IsAncestry (g.C.Classes.content l.classes) l.ancestry;
  placed : HavePlace (g.C.Classes.content l.classes) l.ancestry (names_of (take l.name-index l.names));
  formed : 0 < length l.ancestry.classes.items → IsHierarchy (g.C.Classes.content l.classes);
}
