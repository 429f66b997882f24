use Rattle.std.proofs.Common.{List, map}
use Rattle.classfile.specs.Methods.{JudgedClass}
use Rattle.hierarchy.specs.Class.{ClassFact}
use Rattle.verify.specs.declared.report.Report.{Report}
use Rattle.verify.specs.Files.{read_of}
use Rattle.verify.specs.Reports.{IsReport}
use Rattle.verify.specs.Explaining.{IsExplained}
use Rattle.std.specs.Prelude.{false}
use Rattle.verify.proofs.Formed.{same_fault}
use Rattle.verify.proofs.known_classes.verify_among_under.Goals as goal

abbrev reported : List ClassFact → JudgedClass → Report → Type 0
reported classes c report = IsReport classes c report.methods.items

pub returns : goal.returns
returns g c = same_fault (IsExplained false) reported c.args.profile (read_of c.args.class) (map read_of c.args.known.now) c.in-Err.fault c.in-Err.ensures
