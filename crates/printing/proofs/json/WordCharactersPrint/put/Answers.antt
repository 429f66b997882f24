use Rattle.std.proofs.Common.{sym, ap, subst, ◌∙◌}
use Rattle.std.specs.List.{flat_map}
use Rattle.printing.specs.Json.{character_text}
use Rattle.printing.specs.private.Runs.{StandInFront}
use Rattle.printing.specs.Writing.{Writes}
use Rattle.printing.proofs.RunLaws.{bytes_text}
use Rattle.printing.proofs.json.WordCharactersPrint.put.Goals as goal

pub returns-then-run_in_front-bytes : goal.returns-then-run_in_front-bytes
returns-then-run_in_front-bytes g c =
    let held = g.W.Write.contents in
    let bytes = c.as_bytes-bytes.result.now in
    let stand = subst (StandInFront character_text bytes) c.if-run_in_front-bytes.true c.run_in_front.ensures in
    let text = sym (bytes_text character_text bytes stand) ∙ ap (flat_map character_text) c.as_bytes-bytes.ensures.value in
    subst (λ t. Writes (held c.args.out.now) (held c.put_bytes.new.out) t c.put_bytes.result) text c.put_bytes.ensures
