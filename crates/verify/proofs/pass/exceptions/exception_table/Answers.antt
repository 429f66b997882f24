use Rattle.std.proofs.Common.{Some, None, map, option_map, sym, subst}
use Rattle.classfile.specs.Methods.{exception_entries}
use Rattle.classfile.specs.Views.{handler_view}
use Rattle.rules.specs.Bodies.{method_view}
use Rattle.verify.specs.private.pass.Exceptions.{AreEntriesBy, HasEntries}
use Rattle.verify.proofs.numbered.TableEntries.{or_none, or_some}
use Rattle.verify.proofs.pass.exceptions.exception_table.Goals as goal

pub returns-in-Some : goal.returns-in-Some
returns-in-Some c = λ s r.
    let m = method_view c.args.body.now.method.now in
    or_some s _ c.in-Some.entries.items
    (subst (λ t. HasEntries s (exception_entries m.constant_pool (map handler_view t)) (Some c.in-Some.entries.items)) c.deref.ensures.value
    (subst (λ o. HasEntries s (exception_entries m.constant_pool (map handler_view c.deref.result.now)) (option_map (λ v. v.items) o)) c.in-Some.is (c.in_ok-entries.ensures s m r)))

pub returns-in-None : goal.returns-in-None
returns-in-None c = λ s r.
    let m = method_view c.args.body.now.method.now in
    subst (AreEntriesBy s m.exceptions) (sym c.new.ensures.items)
    (or_none s _
    (subst (λ t. HasEntries s (exception_entries m.constant_pool (map handler_view t)) None) c.deref.ensures.value
    (subst (λ o. HasEntries s (exception_entries m.constant_pool (map handler_view c.deref.result.now)) (option_map (λ v. v.items) o)) c.in-None.is (c.in_ok-entries.ensures s m r))))
