use Rattle.std.proofs.Common.{◌≡◌, ◌≢◌, ◌∙◌, ℕ, ◌+◌, ◌≤◌, ◌<◌, List, length, get_or, refl, sym, ap, subst, inl, inr, arith}
use Rattle.std.specs.Prelude.{slice_index}
use Rattle.std.proofs.lemmas.Bool.{cases_eq}
use Rattle.std.proofs.lemmas.Option.{slice_get_read}
use Rattle.classfile.specs.Methods.{ExceptionEntry}
use Rattle.method_frames.specs.NumberedFrames.{NumberedFrames}
use Rattle.numbered_rules.specs.RunningFrame.{held}
use Rattle.verify.specs.declared.pass.handlers.Handler.{Handler}
use Rattle.verify.specs.declared.pass.handlers.Handlers.{Handlers}
use Rattle.verify.specs.declared.pass.representatives.Representatives.{Representatives}
use Rattle.verify.specs.private.pass.Following.{IsOfEntry, Comes, TakesAll, AreCaught, Follows, AreAhead}
use Rattle.verify.specs.private.pass.Buckets.{AreRepresentatives}
use Rattle.verify.proofs.numbered.Starting.{entry_of_start, same_one}
use Rattle.verify.proofs.numbered.Settling.{follows_caught, follows_settled, settled_one, kept_comes, none_against_all, kept_taken}
use Rattle.verify.proofs.numbered.Catching.{lead_takes}
use Rattle.verify.proofs.pass.handlers.Handlers.compare.Goals as goal
use Rattle.verify.proofs.pass.handlers.Handlers.compare.Goals.{then-at-handler+in_ok-takes+else-not-branch+in_ok-add, else-at-handler}

-- the entry that comes next
next_of : (x : NumberedFrames) (es : List ExceptionEntry) (at : ℕ) (h : Handlers) (one : Handler) → Follows x es at h → h.settled < h.begun → one ≡ get_or h.by_start.items h.settled one → IsOfEntry x one
next_of x es at h one k lt is =
    let within = k.within in
    entry_of_start x es at h k h.settled one (slice_get_read h.by_start.items (length h.by_start.items) h.settled one refl (omega (arith, lt, within)) is)

pub takes-requires-clause-follows : goal.takes-requires-clause-follows
takes-requires-clause-follows g c =
    let es = c.requires.follows.0 in
    (es, c.args.at, subst (λ (z : NumberedFrames). Follows z es c.args.at c.loop-self.self) (sym c.loop-self.invariant.same) (c.loop-self.invariant.follows es c.requires.follows.1))

pub takes-requires-clause-entry : goal.takes-requires-clause-entry
takes-requires-clause-entry g c =
    let es = c.requires.follows.0 in
    subst (λ (z : NumberedFrames). IsOfEntry z c.index.result.now) (sym c.loop-self.invariant.same)
    (next_of c.args.frames.now es c.args.at c.loop-self.self c.index.result.now (c.loop-self.invariant.follows es c.requires.follows.1) c.loop-self-test.true c.index.ensures)

pub takes-requires-clause-kept : goal.takes-requires-clause-kept
takes-requires-clause-kept g c = subst (λ (z : NumberedFrames). z.kept ≡ z.running.locals) (sym c.loop-self.invariant.same) c.requires.kept

pub takes-requires-clause-flag : goal.takes-requires-clause-flag
takes-requires-clause-flag g c = c.loop-self.invariant.flag ∙ c.requires.flag ∙ ap (λ (z : NumberedFrames). z.running.flag) (sym c.loop-self.invariant.same)

pub add-requires-clause-frame : goal.add-requires-clause-frame
add-requires-clause-frame g c =
    let es = c.requires.follows.0 in
    let e = next_of c.args.frames.now es c.args.at c.loop-self.self c.index.result.now (c.loop-self.invariant.follows es c.requires.follows.1) c.loop-self-test.true c.index.ensures in
    subst (λ (z : NumberedFrames). c.index.result.now.lead < length z.declared) (sym (c.in_ok-takes.ensures.same ∙ c.loop-self.invariant.same)) e.1.lead.within

pub add-requires-clause-representatives : goal.add-requires-clause-representatives
add-requires-clause-representatives g c =
    let k = c.loop-self.invariant.follows c.requires.follows.0 c.requires.follows.1 in
    subst (λ (z : NumberedFrames). AreRepresentatives z.types z.declared c.takes.new.self.representatives) (sym (c.in_ok-takes.ensures.same ∙ c.loop-self.invariant.same))
    (subst (λ (h : Handlers). AreRepresentatives c.args.frames.now.types c.args.frames.now.declared h.representatives) (sym c.in_ok-takes.ensures.rest) k.representatives)

-- what is so of the table when one more entry was gone through
record Goes (x : NumberedFrames) (at : ℕ) (start h : Handlers) : Type 0 where
  flag : h.flag ≡ start.flag
  ahead : AreAhead at start → AreAhead at h
  follows : (es : List ExceptionEntry) → Follows x es at start → Follows x es at (record h { settled = h.settled + 1 })

-- an entry was compared, and a frame stands for that of its handler
added_one : (x : NumberedFrames) (es : List ExceptionEntry) (at : ℕ) (start h now : Handlers) (rs : Representatives) (one : Handler) → now ≡ record h { caught = now.caught } → AreCaught x now
    → x.kept ≡ x.running.locals → h.flag ≡ x.running.flag → h.settled < h.begun → one ≡ get_or h.by_start.items h.settled one → Comes x (held x) one
    → AreRepresentatives x.types x.declared rs → one.to ≤ slice_index rs.until.items one.lead
    → ((f : ℕ) → slice_index h.representatives.until.items f ≤ slice_index rs.until.items f)
    → ((f : ℕ) → f ≢ one.lead → slice_index rs.until.items f ≡ slice_index h.representatives.until.items f)
    → Follows x es at h → Follows x es at (record now { representatives = rs; settled = h.settled + 1 })
added_one x es at start h now rs one rest caught kept flag lt is comes are to more others k =
    let next = next_of x es at h one k lt is in
    let takes : TakesAll x x.kept one.lead = subst (λ ls. TakesAll x ls one.lead) (sym kept) (lead_takes x one next.0 next.1 comes) in
    subst (λ (z : Handlers). Follows x es at (record z { representatives = rs; settled = h.settled + 1 })) (sym rest)
    (follows_settled x es at (record h { caught = now.caught }) rs (h.settled + 1) refl lt are more
    (λ other there lasts. settled_one x h one other rs is there to (kept_comes x h.flag one kept flag comes))
    (λ f stands. elim (cases_eq f one.lead) [
      | inl same ↦ subst (TakesAll x x.kept) (sym same) takes
      | inr other ↦ k.standing f (subst (λ n. 0 < n) (others f other) stands)
    ])
    (follows_caught x es at h (record h { caught = now.caught }) refl (subst (AreCaught x) rest caught) k))

pub returns-then-not-branch-clause-followed : goal.returns-then-not-branch-clause-followed
returns-then-not-branch-clause-followed g c = λ es k.
    let x = c.args.frames.now in
    let inv = c.loop-self.invariant in
    follows_caught x es c.args.at c.loop-self.self c.takes.new.self c.in_ok-takes.ensures.rest (subst (λ (z : NumberedFrames). AreCaught z c.takes.new.self) inv.same c.in_ok-takes.ensures.caught) (inv.follows es k)

pub loop-self-preserved : goal.loop-self-preserved
loop-self-preserved g c =
    let x = c.args.frames.now in
    let at = c.args.at in
    let start = c.args.self.now in
    let h = c.loop-self.self in
    let one = c.index.result.now in
    let inv = c.loop-self.invariant in
    let both : (c.if-at-handler.frames ≡ x) × Goes x at start c.if-at-handler.self = elim c.if-at-handler.branch [
      | then-at-handler+in_ok-takes+else-not-branch+in_ok-add w ↦
          (let took = w.in_ok-takes.ensures in
          let same = took.same ∙ inv.same in
          let added = w.in_ok-add.ensures in
          let comes = subst (λ (z : NumberedFrames). Comes z (held z) one) inv.same (took.taken w.if-not-branch.false) in
          let caught = subst (λ (z : NumberedFrames). AreCaught z w.takes.new.self) inv.same took.caught in
          let rest = took.rest in (
            w.frames-is ∙ same,
            subst (Goes x at start) (sym w.self-is) (record {
              flag = ap (λ (z : Handlers). z.flag) rest ∙ inv.flag;
              ahead = λ a. subst (AreAhead at) (sym rest) (inv.ahead a);
              follows = λ es k.
                  subst (λ n. Follows x es at (record w.takes.new.self { representatives = w.add.new.self; settled = n + 1 })) (sym (ap (λ (z : Handlers). z.settled) rest))
                  (added_one x es at start h w.takes.new.self w.add.new.self one rest caught c.requires.kept (inv.flag ∙ c.requires.flag) c.loop-self-test.true c.index.ensures comes
                  (subst (λ (z : NumberedFrames). AreRepresentatives z.types z.declared w.add.new.self) same added.representatives) added.added
                  (subst (λ (z : Handlers). (f : ℕ) → slice_index z.representatives.until.items f ≤ slice_index w.add.new.self.until.items f) rest added.more)
                  (subst (λ (z : Handlers). (f : ℕ) → f ≢ one.lead → slice_index w.add.new.self.until.items f ≡ slice_index z.representatives.until.items f) rest added.others)
                  (inv.follows es k));
            }),
          ))
      | else-at-handler w ↦ (
        w.frames-is ∙ inv.same,
        subst (Goes x at start) (sym w.self-is) (record {
          flag = inv.flag;
          ahead = inv.ahead;
          follows = λ es k.
              let now = inv.follows es k in
              let past = w.if-at-handler.false in
              follows_settled x es at h h.representatives (h.settled + 1) refl c.loop-self-test.true now.representatives (λ f. omega arith)
              (λ other there lasts. absurd (let to = ap (λ (z : Handler). z.to) (same_one h.by_start.items h.settled one other c.index.ensures there) in omega (arith, lasts, to, past)))
              now.standing now;
        }),
      )
    ] in
    record { same = both.0; flag = both.1.flag; ahead = both.1.ahead; follows = both.1.follows }

pub returns-clause-compared : goal.returns-clause-compared
returns-clause-compared g c = λ es k ahead t.
    let x = c.args.frames.now in
    let h = c.loop-self.self in
    let now = c.loop-self.invariant.follows es k in
    let few = now.few in
    let all : h.settled ≡ h.begun = omega (arith, few, c.loop-self-test.false) in
    none_against_all x es c.args.at h now (c.loop-self.invariant.ahead ahead) all (kept_taken x es c.args.at h now c.requires.kept (c.loop-self.invariant.flag ∙ c.requires.flag))
