use Rattle.std.proofs.Common.{rules, ◌≡◌, ◌≤◌, ◌+◌, ap, length, take, List, ℕ, arith, inr, suc}
use Rattle.std.proofs.lemmas.List.{length-take-le, length-append}
use Rattle.layout.specs.declared.fault.ReadFault.TheVariants.{ReadFailed}
use Rattle.layout.proofs.Filled.{stays}
use Rattle.layout.proofs.reading.Reading.more.Goals as goal

pub returns-in-Ok-clause-given : goal.returns-in-Ok-clause-given
returns-in-Ok-clause-given g c =
    let held : List ℕ = c.args.self.now.bytes in
    let piece : List ℕ = c.fill.new.piece in
    let k = c.in-Ok.filled in
    let within : k ≤ length piece = c.in-Ok.ensures.some in
    let front : c.split_at_mut-piece.result.0.now ≡ held = search rules in
    let start : c.len-held.result ≡ length held = search rules in
    let all : c.make_room.new.bytes.len ≡ length c.split_at_mut-piece.result.0.now + length piece = search rules in
    let items = stays held c.split_at_mut-piece.result.0.now piece _ c.truncate.new.self.items c.len-held.result k c.make_room.new.bytes.len c.truncate.ensures.items all front start within in
    let asked : length piece ≡ c.args.n = search rules in
    let long : length (take k piece) ≡ k = length-take-le k piece within in
    (take k piece, long, omega (arith, within, asked), record { held = items; consumed = c.in-Ok.ensures.bytes }, search rules)

pub returns-in-Err-clause-given : goal.returns-in-Err-clause-given
returns-in-Err-clause-given g c =
    let held : List ℕ = c.args.self.now.bytes in
    let piece : List ℕ = c.fill.new.piece in
    let k = c.in-Err.filled in
    let fewer : suc k ≤ length piece = c.in-Err.ensures.some in
    let within : k ≤ length piece = omega (arith, fewer) in
    let front : c.split_at_mut-piece.result.0.now ≡ held = search rules in
    let start : c.len-held.result ≡ length held = search rules in
    let all : c.make_room.new.bytes.len ≡ length c.split_at_mut-piece.result.0.now + length piece = search rules in
    let items = stays held c.split_at_mut-piece.result.0.now piece _ c.truncate-in-Err.new.self.items c.len-held.result k c.make_room.new.bytes.len c.truncate-in-Err.ensures.items all front start within in
    let asked : length piece ≡ c.args.n = search rules in
    let long : length (take k piece) ≡ k = length-take-le k piece within in
    let at : c.len-held.result + k ≡ length c.truncate-in-Err.new.self.items = omega (arith, start, long, ap length items, length-append held (take k piece)) in
    (at, take k piece, record { held = items; consumed = c.in-Err.ensures.bytes }, inr (ap ReadFailed at, omega (arith, fewer, asked, long)))
