-- A whole frame.
use Rattle.std.proofs.Common.{◌≡◌, ◌∙◌, Bool, List, ap}
use Rattle.frames.specs.FrameFact.{FrameFact}
use Rattle.frames.specs.VerificationType.{VerificationType}

pub same_fact : (f g : FrameFact) → f.locals ≡ g.locals → f.stack ≡ g.stack → f.flag ≡ g.flag → f ≡ g
same_fact f g a b c =
    ap (λ (ts : List VerificationType). record { locals = ts; stack = f.stack; flag = f.flag }) a
    ∙ ap (λ (ts : List VerificationType). record { locals = g.locals; stack = ts; flag = f.flag }) b ∙ ap (λ (t : Bool). record { locals = g.locals; stack = g.stack; flag = t }) c
