use Rattle.std.proofs.Common.{◌≡◌, ◌∙◌, ◌+◌, ◌∷◌, ◌++◌, [], ℕ, suc, List, Option, drop, ap, sym, subst, arith}
use Rattle.std.proofs.lemmas.List.{append-nil, append_assoc, drop_all}
use Rattle.std.proofs.lemmas.List.Elements.{All-push, All-same}
use Rattle.method_frames.specs.MapFrames.{frames_by}
use Rattle.numbered_rules.specs.RunningFrame.{held}
use Rattle.verify.specs.DifferencesAt.{at_handlers}
use Rattle.verify.specs.declared.difference_at.Way.{Way}
use Rattle.verify.specs.private.Ways.{IsWayIf, first_of_ways}
use Rattle.verify.proofs.Ways.{handler_more}
use Rattle.verify.proofs.numbered.TableEntries.{has_entry_by, as_many_entries}
use Rattle.verify.proofs.difference_at.handler_ways.Goals as goal

pub handler_way-requires : goal.handler_way-requires
handler_way-requires g c =
    let one = has_entry_by c.args.frames.now.types c.requires.0 c.args.entries.now c.loop-place.place c.requires.1 c.loop-place-test.true in
    (one.entry, one.is)

pub loop-place-preserved : goal.loop-place-preserved
loop-place-preserved g c =
    let x = c.args.frames.now in
    let i = c.loop-place.place in
    let ways = c.loop-place.ways.items in
    let way = c.handler_way.result in
    record {
      ways = All-same (IsWayIf x) c.push.new.self.items (ways ++ way ∷ []) c.in_ok-push.ensures.items (All-push (IsWayIf x) ways way c.loop-place.invariant.ways c.handler_way.ensures.way);
      same = λ s es a more rest.
          let one = has_entry_by x.types es c.args.entries.now i a c.loop-place-test.true in
          let next : i + 1 ≡ suc i = omega arith in
          let first = at_handlers s x.types.classes (frames_by x.types x.declared) c.args.at (held x) in
          let later = subst (λ (k : ℕ). first k (drop (i + 1) es) ≡ first_of_ways s x k more) next rest in
          c.loop-place.invariant.same s es a (way ∷ more)
          (ap (first i) one.here ∙ handler_more s x c.args.at i one.entry (drop (i + 1) es) way more (c.handler_way.ensures.same s one.entry one.is) later)
          ∙ ap (first_of_ways s x 0) (sym (ap (λ (xs : List (Option Way)). xs ++ more) c.in_ok-push.ensures.items ∙ append_assoc ways (way ∷ []) more));
    }

pub returns-clause-same : goal.returns-clause-same
returns-clause-same g c = λ s es a.
    let x = c.args.frames.now in
    let i = c.loop-place.place in
    let many = as_many_entries x.types es c.args.entries.now a in
    c.loop-place.invariant.same s es a [] (ap (at_handlers s x.types.classes (frames_by x.types x.declared) c.args.at (held x) i) (drop_all i es (omega (arith, many, c.loop-place-test.false))))
    ∙ ap (first_of_ways s x 0) (append-nil c.loop-place.ways.items)
