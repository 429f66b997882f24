use Rattle.rules.specs.Bodies.{method_view}
use Rattle.rules.proofs.Settling.{by_act}
use Rattle.numbered_rules.proofs.running.run_plain.Goals as goal

pub returns-in-LoadElement-clause-done : goal.returns-in-LoadElement-clause-done
returns-in-LoadElement-clause-done g c = λ at. by_act (method_view c.args.method.now) at _ _ _ _ _ _ c.in-LoadElement.is (c.load_element.ensures.done at)

pub returns-in-StoreElement-clause-done : goal.returns-in-StoreElement-clause-done
returns-in-StoreElement-clause-done g c = λ at. by_act (method_view c.args.method.now) at _ _ _ _ _ _ c.in-StoreElement.is (c.store_element.ensures.done at)

pub returns-in-LoadReferenceElement-clause-done : goal.returns-in-LoadReferenceElement-clause-done
returns-in-LoadReferenceElement-clause-done g c = λ at. by_act (method_view c.args.method.now) at _ _ _ _ _ _ c.in-LoadReferenceElement.is (c.load_reference_element.ensures.done at)

pub returns-in-StoreReferenceElement-clause-done : goal.returns-in-StoreReferenceElement-clause-done
returns-in-StoreReferenceElement-clause-done g c = λ at. by_act (method_view c.args.method.now) at _ _ _ _ _ _ c.in-StoreReferenceElement.is (c.store_reference_element.ensures.done at)

pub returns-in-NewArray-clause-done : goal.returns-in-NewArray-clause-done
returns-in-NewArray-clause-done g c = λ at. by_act (method_view c.args.method.now) at _ _ _ _ _ _ c.in-NewArray.is (c.new_array.ensures.done at)
