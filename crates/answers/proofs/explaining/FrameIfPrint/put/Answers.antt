use Rattle.std.proofs.Common.{Option, option_map, ap, sym, subst}
use Rattle.frames.specs.FrameFact.{FrameFact, frame_of}
use Rattle.printing.specs.Json.{fields_then}
use Rattle.printing.specs.Writing.{Writes}
use Rattle.answers.specs.Explanations.{frame_fields_of}
use Rattle.answers.proofs.explaining.FrameIfPrint.put.Goals as goal

pub returns-in-Some : goal.returns-in-Some
returns-in-Some g c =
    let held = g.W.Write.contents in
    subst (λ (o : Option FrameFact). Writes (held c.args.out.now) (held c.put.new.out) (fields_then (frame_fields_of o) (g.B.Print.text c.args.self.now.1)) c.put.result)
    (sym (ap (option_map (λ f. frame_of f.now)) c.in-Some.is)) c.put.ensures
