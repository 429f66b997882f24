use Rattle.std.proofs.Common.{◌≡◌, ◌∙◌, ℕ, true, nat_eq, List, [], ◌∷◌, length, sym, subst, refl, arith}
use Rattle.std.proofs.lemmas.Bool.Decides.{nat_tests}
use Rattle.classfile.specs.Methods.{ExceptionEntry}
use Rattle.rules.specs.Bodies.{method_view}
use Rattle.verify.specs.private.pass.Following.{AreHandlers}
use Rattle.verify.proofs.numbered.TableEntries.{as_many_entries, judged_empty}
use Rattle.verify.proofs.pass.exceptions.handlers_of.Goals as goal

none_of : (es : List ExceptionEntry) (n : ℕ) → length es ≡ n → n ≡ 0 → es ≡ []
none_of [] n long none = refl
none_of (e ∷ es) n long none = absurd (omega (arith, long, none))

empty : (n : ℕ) → nat_eq n 0 ≡ true → n ≡ 0
empty n is = grind (arith, nat_tests, is)

pub returns-then-is_empty-clause-handlers : goal.returns-then-is_empty-clause-handlers
returns-then-is_empty-clause-handlers g c =
    let x = c.args.frames.now in
    let m = method_view c.args.body.now.method.now in
    let none = none_of m.exceptions _ (as_many_entries x.types m.exceptions c.args.entries.now c.requires.entries) (empty (length c.args.entries.now) (sym c.is_empty.ensures ∙ c.if-is_empty.true)) in
    subst (λ es. AreHandlers x.types x.declared es c.new.result.items) (sym none) (subst (AreHandlers x.types x.declared []) (sym c.new.ensures.items) tt)

pub returns-then-is_empty-clause-judged : goal.returns-then-is_empty-clause-judged
returns-then-is_empty-clause-judged g c =
    let x = c.args.frames.now in
    let m = method_view c.args.body.now.method.now in
    let none = none_of m.exceptions _ (as_many_entries x.types m.exceptions c.args.entries.now c.requires.entries) (empty (length c.args.entries.now) (sym c.is_empty.ensures ∙ c.if-is_empty.true)) in
    judged_empty x m m.exceptions c.new.result none
