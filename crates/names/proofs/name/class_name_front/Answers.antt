use Rattle.std.proofs.Common.{◌<◌, ◌≤◌, ◌+◌, sym, ◌∙◌, arith, eq-eqb, ne_eqb, get_or, length}
use Rattle.std.specs.Prelude.{nat_eq}
use Rattle.names.specs.Names.{slash}
use Rattle.names.proofs.Scan.{front_up_to, front_more, on_by_slash, on_by_unit, unit_no_slash, not_first}
use Rattle.names.proofs.name.class_name_front.Goals.{then-b-eq47+then-at-start, else-b-eq47+else-not-is_name_byte}
use Rattle.names.proofs.name.class_name_front.Goals as goal

pub returns-then-at-bytes-clause-ends : goal.returns-then-at-bytes-clause-ends
returns-then-at-bytes-clause-ends c =
    let i = c.bytes.invariant in
    (front_up_to c.args.bytes.now c.bytes.at c.plain_end-at.result c.bytes.start i.behind c.plain_end-at.ensures i.front).ends

pub returns-then-at-bytes-clause-reads : goal.returns-then-at-bytes-clause-reads
returns-then-at-bytes-clause-reads c =
    let i = c.bytes.invariant in
    (front_up_to c.args.bytes.now c.bytes.at c.plain_end-at.result c.bytes.start i.behind c.plain_end-at.ensures i.front).reads

pub returns-then-not-is_name_byte-clause-ends : goal.returns-then-not-is_name_byte-clause-ends
returns-then-not-is_name_byte-clause-ends c =
    let i = c.bytes.invariant in
    (front_up_to c.args.bytes.now c.bytes.at c.plain_end-at.result c.bytes.start i.behind c.plain_end-at.ensures i.front).ends

pub returns-then-not-is_name_byte-clause-reads : goal.returns-then-not-is_name_byte-clause-reads
returns-then-not-is_name_byte-clause-reads c =
    let i = c.bytes.invariant in
    (front_up_to c.args.bytes.now c.bytes.at c.plain_end-at.result c.bytes.start i.behind c.plain_end-at.ensures i.front).reads

pub bytes-preserved : goal.bytes-preserved
bytes-preserved c =
    let i = c.bytes.invariant in
    let bytes = c.args.bytes.now in
    let at = c.plain_end-at.result in
    let run = c.plain_end-at.ensures in
    let within = run.within in
    let ordered = run.ordered in
    let less : at < length bytes = omega (arith, within, c.if-at-bytes.false) in
    let here = front_up_to bytes c.bytes.at at c.bytes.start i.behind run i.front in
    elim c.if-b-eq47.branch [
      | then-b-eq47+then-at-start w ↦
          let is = eq-eqb (get_or bytes at 0) slash w.if-b-eq47.true in
          let on = on_by_slash (nat_eq at c.bytes.start) (get_or bytes at 0) (ne_eqb at c.bytes.start w.if-at-start.true) is in
          let starts = w.start-is in
          record {
            behind = omega (arith, starts);
            within = omega (arith, less);
            front = front_more bytes at (nat_eq at c.bytes.start) (nat_eq (at + 1) c.if-b-eq47.start) less on (is ∙ sym (eq-eqb (at + 1) c.if-b-eq47.start (sym starts))) here;
          }
      | else-b-eq47+else-not-is_name_byte w ↦
          let unit = sym w.is_name_byte.ensures ∙ w.if-not-is_name_byte.false in
          let on = on_by_unit (nat_eq at c.bytes.start) (get_or bytes at 0) unit in
          let starts = w.start-is in
          let behind = i.behind in
          let later : c.if-b-eq47.start ≤ at = omega (arith, starts, behind, ordered) in
          record {
            behind = omega (arith, later);
            within = omega (arith, less);
            front = front_more bytes at (nat_eq at c.bytes.start) (nat_eq (at + 1) c.if-b-eq47.start) less on (unit_no_slash (get_or bytes at 0) unit ∙ sym (not_first at c.if-b-eq47.start later)) here;
          }
    ]
