use Rattle.std.proofs.Common.{not, ap, ne_eqb}
use Rattle.std.proofs.lemmas.Bool.{and_left, and_right}
use Rattle.names.proofs.Scan.{scanned, class_read, class_unread, class_cut}
use Rattle.names.proofs.reading.read_class.Goals as goal
use Rattle.names.proofs.reading.read_class.Goals.{then-fresh-via-then-fresh, then-fresh-via-else-fresh+then-b-ne59}

pub returns-then-fresh : goal.returns-then-fresh
returns-then-fresh c =
    let f = c.class_name_front-front in
    let s = scanned c.args.bytes.now c.split_at.result.0.now c.split_at.result.1.now f.result.0 f.result.1 c.split_at.ensures.front c.split_at.ensures.back f.ensures.reads f.ensures.stops in
    let is = c.in-Some.ensures.cases.0 in
    class_unread c.args.bytes.now c.split_at.result.0.now c.split_at.result.1.now c.in-Some.after.now c.in-Some.b.now f.result.1 s is
    (elim c.then-fresh.branch [
      | then-fresh-via-then-fresh w ↦ and_left _ _ (ap not w.if-fresh.true)
      | then-fresh-via-else-fresh+then-b-ne59 w ↦ and_right _ _ (ne_eqb _ _ w.if-b-ne59.true)
    ])

pub returns-in-None : goal.returns-in-None
returns-in-None c =
    let f = c.class_name_front-front in
    let s = scanned c.args.bytes.now c.split_at.result.0.now c.split_at.result.1.now f.result.0 f.result.1 c.split_at.ensures.front c.split_at.ensures.back f.ensures.reads f.ensures.stops in
    class_cut c.args.bytes.now c.split_at.result.0.now c.split_at.result.1.now f.result.1 s c.in-None.ensures.cases

pub returns-else-b-ne59 : goal.returns-else-b-ne59
returns-else-b-ne59 c =
    let f = c.class_name_front-front in
    let s = scanned c.args.bytes.now c.split_at.result.0.now c.split_at.result.1.now f.result.0 f.result.1 c.split_at.ensures.front c.split_at.ensures.back f.ensures.reads f.ensures.stops in
    class_read c.args.bytes.now c.split_at.result.0.now c.split_at.result.1.now c.in-Some.after.now c.in-Some.b.now f.result.1 s c.in-Some.ensures.cases.0 c.if-fresh.false c.if-b-ne59.false
