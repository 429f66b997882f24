use Rattle.std.proofs.Common.{◌≡◌, ◌∙◌, ◌∷◌, Bool, true, false, Option, Some, None, is_some, refl, sym, ap, subst}
use Rattle.std.specs.Prelude.{IfOk, IfSome}
use Rattle.std.specs.List.{list_all}
use Rattle.std.specs.Option.{unwrap_or}
use Rattle.hierarchy.specs.Class.{class_of}
use Rattle.hierarchy.specs.Summary.{fact_of, facts_of}
use Rattle.verify.specs.Beside.{standing_beside}
use Rattle.verify.specs.Standing.{stands}
use Rattle.verify.proofs.Others.{all_beside}
use Rattle.verify.proofs.known_summaries.KnownSummaries.beside.Goals as goal

none_of : {A : Type 0} (o : Option A) → is_some o ≡ false → o ≡ None
none_of None e = refl
none_of (Some a) e = absurd cc

all_known : (o : Option Bool) (all : Bool) → IfSome o (λ b. b ≡ all) → unwrap_or o false ≡ true → all ≡ true
all_known None all known e = absurd cc
all_known (Some b) all known e = sym known ∙ e

pub returns-then-not-has : goal.returns-then-not-has
returns-then-not-has c =
    let facts = facts_of c.self.inside.gathered.classes.items in
    let front = fact_of c.args.class in
    let none : class_of facts front.name ≡ None =
    none_of (class_of facts front.name) (ap (λ fs. is_some (class_of fs front.name)) c.self.view_is ∙ sym c.has.ensures ∙ c.if-not-has.true) in
    let all : list_all (stands facts) facts ≡ true =
    all_known c.self.inside.all_stand (list_all (stands facts) facts) c.self.invariant.1 (sym c.unwrap_or-all_stand.ensures ∙ c.if-all_stand.true) in
    let same : facts_of c.deref.result.now ≡ standing_beside front c.args.self.now =
    ap facts_of c.deref.ensures.value ∙ sym (all_beside facts front none all) ∙ ap (standing_beside front) c.self.view_is in
    subst (λ fs. IfOk c.behind.result (λ summaries. facts_of summaries.items ≡ front ∷ fs)) same c.behind.ensures
