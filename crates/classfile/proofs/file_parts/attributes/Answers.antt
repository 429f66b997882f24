use Rattle.std.proofs.lemmas.Result.{err_from_is_err_and}
use Rattle.classfile.proofs.SearchedParts.{attributes_on, attributes_stop, attributes_end}
use Rattle.classfile.proofs.file_parts.attributes.Goals as goal

pub returns-in_err-one_attribute : goal.returns-in_err-one_attribute
returns-in_err-one_attribute c =
    let p = err_from_is_err_and c.from_residual.result c.from_residual.ensures.1 in
    rw (p.1, p.2) (attributes_stop c.args.at c.args.place c.args.count c.loop-n.n c.loop-n.cursor c.in_err-one_attribute.field-0.0 _ c.loop-n-test.true
    (rw (← c.attribute_of.ensures) c.in_err-one_attribute.ensures) c.loop-n.invariant)

pub loop-n-preserved : goal.loop-n-preserved
loop-n-preserved c =
    attributes_on c.args.at c.args.place c.args.count c.loop-n.n c.loop-n.cursor c.one_attribute.new.cursor _ c.loop-n-test.true
    (rw (← c.attribute_of.ensures) c.in_ok-one_attribute.ensures) c.loop-n.invariant

pub returns : goal.returns
returns c = attributes_end c.args.at c.args.place c.args.count c.loop-n.n c.loop-n.cursor _ c.loop-n-test.false c.loop-n.invariant
