use Rattle.std.proofs.Common.{◌≡◌, ◌<◌, sym, ◌∙◌, refl, subst, not, length, get_or, arith, eq-eqb, ne_eqb}
use Rattle.std.proofs.lemmas.Bool.{eqb-false}
use Rattle.std.specs.Prelude.{nat_eq}
use Rattle.names.proofs.Scan.{plain_so, off_there, no_slash_on}
use Rattle.names.proofs.NameScan.{InName, plain_in_name, slash_in_name, unit_in_name, in_name_at_the_end, stopped}
use Rattle.names.proofs.PlainNames.{plain_to_the_end}
use Rattle.names.proofs.forms.forms_of.Goals as goal

pub returns-then-are_all : goal.returns-then-are_all
returns-then-are_all c =
    let bytes = c.args.bytes.now in
    let not_none = eqb-false (length bytes) 0 (sym c.is_empty.ensures ∙ c.if-not-is_empty.true) in
    let some : 0 < length bytes = omega (arith, not_none) in
    plain_to_the_end bytes some (c.are_all.ensures c.if-are_all.true)

pub loop-at-preserved-then-is_plain : goal.loop-at-preserved-then-is_plain
loop-at-preserved-then-is_plain c =
    let l = c.loop-at in
    plain_in_name c.args.bytes.now l.at l.start l.angle c.loop-at-test.true (plain_so _ (c.is_plain.ensures c.if-is_plain.true)) l.invariant

pub loop-at-preserved-then-at-start : goal.loop-at-preserved-then-at-start
loop-at-preserved-then-at-start c =
    let l = c.loop-at in
    slash_in_name c.args.bytes.now l.at l.start l.angle c.loop-at-test.true (eq-eqb _ _ c.if-b-eq47.true) (ne_eqb l.at l.start c.if-at-start.true) l.invariant

pub loop-at-preserved : goal.loop-at-preserved
loop-at-preserved c =
    let l = c.loop-at in
    rw c.is_angle-angle.ensures (unit_in_name c.args.bytes.now l.at l.start l.angle c.loop-at-test.true (sym c.is_name_byte.ensures ∙ c.if-not-is_name_byte.false) l.invariant)

pub returns-then-not-is_name_byte : goal.returns-then-not-is_name_byte
returns-then-not-is_name_byte c =
    let l = c.loop-at in
    let b = get_or c.args.bytes.now l.at 0 in
    let off = off_there (nat_eq l.at l.start) b (sym c.is_name_byte.ensures ∙ c.if-not-is_name_byte.true) (no_slash_on l.at l.start b c.else-b-eq47.either) in
    stopped c.args.bytes.now l.at (nat_eq l.at l.start) (not (nat_eq l.start 0)) l.angle c.loop-at-test.true off l.invariant.scanning

pub returns : goal.returns
returns c =
    let l = c.loop-at in
    let bytes = c.args.bytes.now in
    let end : l.at ≡ length bytes = omega (arith, c.loop-at-test.false, l.auto.at-end) in
    in_name_at_the_end bytes (length bytes) l.start l.angle refl (subst (λ x. InName bytes x l.start l.angle) end l.invariant)
