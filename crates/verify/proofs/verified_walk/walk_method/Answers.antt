use Rattle.std.proofs.Common.{refl, sym, subst}
use Rattle.std.specs.Prelude.{IsSome}
use Rattle.classfile.specs.CodeMethods.{judged_class}
use Rattle.classfile.specs.Views.{code_view}
use Rattle.insn.specs.Views.{views}
use Rattle.machine.specs.Bodies.{method_view}
use Rattle.verify.proofs.Walking.{is_method, coded}
use Rattle.verify.proofs.verified_walk.walk_method.Goals as goal

pub new-requires : goal.new-requires
new-requires g c =
    let class = judged_class c.args.formed.now in
    subst IsSome (sym (coded class c.args.number c.requires.coded.0 c.requires.coded.1)) refl

pub returns-in-Ok-walk-clause-walks : goal.returns-in-Ok-walk-clause-walks
returns-in-Ok-walk-clause-walks g c =
    let class = judged_class c.args.formed.now in
    let m = c.in-Ok.method in (
      method_view m,
      is_method class c.args.number (code_view m.declared.code.now) (views m.list.items) (method_view m) c.in-Ok.ensures.code c.in-Ok.ensures.list
          c.in-Ok.ensures.told,
      c.in-Ok-walk.ensures.walks,
    )
