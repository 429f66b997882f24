use Rattle.std.proofs.Common.{rules, ◌≡◌, take, drop, subst, take-append-drop}
use Rattle.printing.specs.Writing.{Writes}
use Rattle.printing.proofs.Writings.{then_writes}
use Rattle.printing.proofs.print.put_bytes.Goals as goal

pub returns-in-Ok-2 : goal.returns-in-Ok-2
returns-in-Ok-2 g c =
    let held = g.W.Write.contents in
    let put = c.put_rest in
    let bytes = c.args.bytes.now in
    let n = c.in-Ok-2.n in
    let behind : c.split_at.result.1.now ≡ drop n bytes = search rules in
    subst (λ t. Writes (held c.args.out.now) (held put.new.out) t put.result) (take-append-drop n bytes)
    (then_writes _ _ _ (take n bytes) (drop n bytes) put.result c.in-Ok-2.ensures.bytes (subst (λ t. Writes (held c.write.new.self) (held put.new.out) t put.result) behind put.ensures))
