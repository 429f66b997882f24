use Rattle.std.proofs.Common.{◌≡◌, ◌∙◌, ◌≤◌, ◌+◌, ◌-◌, length, sym, ap, arith}
use Rattle.std.proofs.lemmas.List.{length-reverse}
use Rattle.method_frames.proofs.Counting.{above_counted, enough_wides, wides_then, wides_most}
use Rattle.method_frames.proofs.items.Items.rearrange.Goals as goal

pub overflow_sub-self : goal.overflow_sub-self
overflow_sub-self c =
    let x = c.self.inside in
    let old = x.numbers.items in
    let long : length old ≡ length c.args.self.now = sym (length-reverse old) ∙ ap length c.self.view_is in
    let fits : length c.args.form.takes.now ≤ length old = omega (arith, c.requires, long) in
    let b = length old - length c.args.form.takes.now in
    enough_wides old c.rearrange_listed.new.numbers.items b x.wides c.wides-before.result 0 c.in_default.ensures.same (omega arith) c.in_default.ensures.above c.self.invariant.counted
    (above_counted old c.deref.result.now b _ c.wides-before.result c.deref.ensures.value (omega arith) c.wides-before.ensures)

pub overflow_add-self : goal.overflow_add-self
overflow_add-self c =
    let x = c.self.inside in
    let old = x.numbers.items in
    let new = c.rearrange_listed.new.numbers.items in
    let long : length old ≡ length c.args.self.now = sym (length-reverse old) ∙ ap length c.self.view_is in
    let fits : length c.args.form.takes.now ≤ length old = omega (arith, c.requires, long) in
    let b = length old - length c.args.form.takes.now in
    omega (
      arith,
      c.rearrange_listed.new.numbers.ok.0,
      wides_most new (x.wides - c.wides-before.result + c.wides.result)
          (wides_then old new b x.wides c.wides-before.result c.wides.result c.in_default.ensures.same (omega arith) c.in_default.ensures.above c.self.invariant.counted
          (above_counted old c.deref.result.now b _ c.wides-before.result c.deref.ensures.value (omega arith) c.wides-before.ensures)
          (above_counted new c.deref-2.result.now b _ c.wides.result c.deref-2.ensures.value (omega arith) c.wides.ensures)),
    )

pub invariant_of-self-2 : goal.invariant_of-self-2
invariant_of-self-2 c =
    let x = c.self.inside in
    let old = x.numbers.items in
    let new = c.rearrange_listed.new.numbers.items in
    let long : length old ≡ length c.args.self.now = sym (length-reverse old) ∙ ap length c.self.view_is in
    let fits : length c.args.form.takes.now ≤ length old = omega (arith, c.requires, long) in
    let b = length old - length c.args.form.takes.now in
    record {
      counted = wides_then old new b x.wides c.wides-before.result c.wides.result c.in_default.ensures.same (omega arith) c.in_default.ensures.above c.self.invariant.counted
          (above_counted old c.deref.result.now b _ c.wides-before.result c.deref.ensures.value (omega arith) c.wides-before.ensures)
          (above_counted new c.deref-2.result.now b _ c.wides.result c.deref-2.ensures.value (omega arith) c.wides.ensures);
      listed = c.in_default.ensures.listed;
    }
