use Rattle.std.proofs.Common.{◌≡◌, ◌∙◌, true, false, nat_lt, sym, inl, inr, arith}
use Rattle.std.proofs.lemmas.Bool.{cases_lt}
use Rattle.std.proofs.lemmas.Bool.Decides.{nat_tests}
use Rattle.verify.proofs.numbered.Starting.{reach_covers, past_reach}
use Rattle.verify.proofs.pass.handlers.Handlers.covers.Goals as goal

pub returns : goal.returns
returns c = λ x es k ahead.
    let h = c.args.self.now in
    let at = c.args.at in
    elim (cases_lt at h.reach) [
      | inl lt ↦ (let yes : nat_lt at h.reach ≡ true = grind (arith, nat_tests, lt) in yes ∙ sym (reach_covers x es at h k lt))
      | inr le ↦ (let no : nat_lt at h.reach ≡ false = grind (arith, nat_tests, le) in no ∙ sym (past_reach x es at h k le ahead))
    ]
