-- No body so far is bad, so it rests with the others.
use Rattle.std.proofs.Common.{◌≡◌, drop, map}
use Rattle.std.specs.List.{list_any}
use Rattle.classfile.specs.Bootstraps.{is_bad_body, bodies_of}
use Rattle.classfile.specs.Views.{class_attribute_view}
use Rattle.classfile.proofs.bootstraps.one_is_bad.Given as goal

abbrev pub invariant-loop-attribute : goal.invariant-loop-attribute
invariant-loop-attribute l =
    let pool = l.pool in
    let all = l.attributes in
    list_any (is_bad_body pool) (bodies_of pool (map class_attribute_view all))
    ≡ list_any (is_bad_body pool) (bodies_of pool (map class_attribute_view (drop l.attribute-index all)))
