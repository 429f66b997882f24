use Rattle.std.proofs.Common.{◌≡◌, ◌+◌, ◌-◌, ℕ, List, ◌++◌, length, sym, ap, ◌∙◌, arith, take, drop}
use Rattle.std.proofs.lemmas.List.{with_items_is, length-append, length-take, length-drop}
use Rattle.byteorder.specs.Endian.{big_bytes}
use Rattle.layout.specs.Pieces.{Written}
use Rattle.layout.specs.PieceLaws.{filled}
use Rattle.layout.proofs.output.Output.end.Goals as goal

pub returns : goal.returns
returns c =
    let a = c.split_at_mut-behind.ensures in
    let b = c.split_at_mut-field.ensures in
    let items = c.self.inside.bytes.items in
    let w = c.write_u32.ensures in
    let len = c.in-Ok.ensures in
    let here : c.deref_mut.result.now ≡ items = c.deref_mut.ensures.value in
    let back : c.split_at_mut-behind.result.1.now ≡ drop c.args.mark items = a.back ∙ ap (drop c.args.mark) here in
    let front : c.split_at_mut-behind.result.0.now ≡ take c.args.mark items = a.front ∙ ap (take c.args.mark) here in
    let old : c.args.self.now.bytes ≡ items = sym (ap (λ (v : Written). v.bytes) c.self.view_is) in
    let shape = filled items c.split_at_mut-behind.result.0.now c.split_at_mut-behind.result.1.now c.split_at_mut-field.result.0.now c.split_at_mut-field.result.1.now c.write_u32.new.buf c.args.mark c.in-Ok.length
    front back b.front b.back w len.1 (omega (arith, c.requires, ap length old)) in
    let n = length items - c.args.mark - 4 in
    let made = c.split_at_mut-behind.result.0.now ++ (c.write_u32.new.buf ++ c.split_at_mut-field.result.1.now) in
    let size : length made ≡ c.self.inside.bytes.len =
    omega (arith, ap length shape, length-append (take c.args.mark items) (big_bytes 4 n ++ drop (c.args.mark + 4) items), length-take c.args.mark items, length-drop (c.args.mark + 4) items, c.requires, ap length old, c.self.inside.bytes.ok.0) in
    let now : items ≡ c.args.self.now.bytes = sym old in
    record {
      fits = omega (arith, len.0, ap length back, length-drop c.args.mark items, ap length old);
      bytes_are = with_items_is c.self.inside.bytes made size ∙ shape ∙ ap (λ (t : List ℕ). take c.args.mark t ++ (big_bytes 4 (length t - c.args.mark - 4) ++ drop (c.args.mark + 4) t)) now;
      room_is = ap (λ (v : Written). v.room) c.self.view_is;
      wrong_is = ap (λ (v : Written). v.wrong) c.self.view_is;
    }
