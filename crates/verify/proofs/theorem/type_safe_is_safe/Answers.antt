use Rattle.verify.proofs.safety.Run.{type_safe_is_safe}
use Rattle.verify.proofs.safety.OneMethod.{methods_are_safe}
use Rattle.verify.proofs.theorem.type_safe_is_safe.Goals as goal

pub returns-clause-safe : goal.returns-clause-safe
returns-clause-safe c = type_safe_is_safe

pub returns-clause-of_classes : goal.returns-clause-of_classes
returns-clause-of_classes c = methods_are_safe

pub returns-clause-operands : goal.returns-clause-operands
returns-clause-operands c h hh m safe w x run r s a = let n = type_safe_is_safe h hh m safe w x run r s a in (n.act, n.here, n.operands)

pub returns-clause-stack : goal.returns-clause-stack
returns-clause-stack c h hh m safe w x run r s a = let n = type_safe_is_safe h hh m safe w x run r s a in (n.act, n.here, n.stack)

pub returns-clause-control : goal.returns-clause-control
returns-clause-control c h hh m safe w x run r s a = let n = type_safe_is_safe h hh m safe w x run r s a in (n.act, n.here, n.control)

pub returns-clause-objects : goal.returns-clause-objects
returns-clause-objects c h hh m safe w x run r s a = let n = type_safe_is_safe h hh m safe w x run r s a in (n.act, n.here, n.objects)

pub returns-clause-own_object : goal.returns-clause-own_object
returns-clause-own_object c h hh m safe w x run r s a = let n = type_safe_is_safe h hh m safe w x run r s a in (n.act, n.here, n.own_object)
