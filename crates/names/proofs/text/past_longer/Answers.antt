use Rattle.std.proofs.Common.{◌≡◌, ◌+◌, false, get_or, drop, Some, None, sym, ap, subst, ◌∙◌, arith}
use Rattle.std.proofs.lemmas.List.{get_or-drop}
use Rattle.names.specs.Units.{unit_at, is_single}
use Rattle.names.proofs.UnitLaws.{bad_is_found, read_on, stays_within, is_within}
use Rattle.names.proofs.SingleUnits.{read_text}
use Rattle.names.proofs.text.past_longer.Goals as goal

pub longer_at-requires : goal.longer_at-requires
longer_at-requires c =
    let bytes = c.args.bytes.now in
    let first = ap (λ l. get_or l 0 0) c.split_at.ensures.back ∙ get_or-drop c.units.at bytes 0 0 ∙ ap (λ k. get_or bytes k 0) (let same : c.units.at + 0 ≡ c.units.at = omega arith in same) in
    subst (λ b. is_single b ≡ false) (sym first) c.units.invariant.longer

pub returns-in-None : goal.returns-in-None
returns-in-None c =
    let none : unit_at (drop c.units.at c.args.bytes.now) ≡ None = cc (c.in-None.ensures) in
    bad_is_found c.args.bytes.now c.units.at c.units.invariant.read c.units.invariant.within none

pub returns-then-at-bytes : goal.returns-then-at-bytes
returns-then-at-bytes c =
    let bytes = c.args.bytes.now in
    let at = c.units.at in
    let n = c.in-Some.n in
    let some : unit_at (drop at bytes) ≡ Some (c.in-Some.field-0-0, n) = cc (c.in-Some.ensures) in
    let more = is_within (drop at bytes) c.in-Some.field-0-0 n some in (
      omega (arith, c.units.invariant.ahead, more.1),
      stays_within bytes at c.in-Some.field-0-0 n c.units.invariant.within some,
      read_text bytes (at + n) (read_on bytes at c.in-Some.field-0-0 n c.units.invariant.read some),
    )

pub units-preserved : goal.units-preserved
units-preserved c =
    let bytes = c.args.bytes.now in
    let at = c.units.at in
    let n = c.in-Some.n in
    let some : unit_at (drop at bytes) ≡ Some (c.in-Some.field-0-0, n) = cc (c.in-Some.ensures) in
    record {
      ahead = omega (arith, c.units.invariant.ahead);
      within = let le = stays_within bytes at c.in-Some.field-0-0 n c.units.invariant.within some in omega (arith, le, c.if-at-bytes.false);
      longer = sym c.is_single.ensures ∙ c.if-is_single.false;
      read = read_on bytes at c.in-Some.field-0-0 n c.units.invariant.read some;
    }
