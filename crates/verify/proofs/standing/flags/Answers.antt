use Rattle.std.proofs.Common.{◌∙◌, false, map, Result, Ok, Err, ap}
use Rattle.std.specs.Prelude.{IfOk}
use Rattle.std.specs.Option.{option_map_or}
use Rattle.hierarchy.specs.Summary.{facts_of}
use Rattle.verify.specs.Standing.{is_root}
use Rattle.verify.specs.private.EachSteps.{class_at}
use Rattle.verify.proofs.Standings.{which_stand}
use Rattle.verify.proofs.standing.flags.Goals as goal

if_more : {A E : Type 0} (r : Result A E) (P Q : A → Type 0) → IfOk r P → ((x : A) → P x → Q x) → IfOk r Q
if_more (Ok x) P Q p f = f x p
if_more (Err e) P Q p f = p

pub returns : goal.returns
returns c =
    let g = c.args.gathered.now in
    let classes = facts_of g.classes.items in
    if_more c.are_roots.result _ _ c.are_roots.ensures (λ roots e.
    e ∙ ap (λ xs. map (λ p. option_map_or is_root (class_at (facts_of xs) p) false) c.deref.result.now) c.deref-2.ensures.value
    ∙ ap (map (λ p. option_map_or is_root (class_at classes p) false)) c.deref.ensures.value
    ∙ which_stand classes c.in_ok-far.far.items c.in_ok-far.ensures)
