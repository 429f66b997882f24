use Rattle.std.proofs.Common.{◌<◌, length, refl, sym, subst, arith}
use Rattle.std.proofs.lemmas.List.{get_or_read}
use Rattle.verify.specs.declared.pass.representatives.Representatives.{Representatives}
use Rattle.verify.specs.private.pass.Buckets.{IsNamed, AreRepresentatives}
use Rattle.verify.proofs.numbered.Representing.{roomier, with_put, with_until}
use Rattle.verify.proofs.pass.representatives.Representatives.add.Goals as goal
use Rattle.verify.proofs.pass.representatives.Representatives.add.Goals.{then-until-eq0+in_ok-put, else-until-eq0}

pub returns-clause-representatives : goal.returns-clause-representatives
returns-clause-representatives g c =
    let s = c.args.frames.now.types in
    let ds = c.args.frames.now.declared in
    let old = c.args.self.now in
    let frame = c.args.frame in
    let until = c.reach.new.until in
    let wide : Representatives = record { alloc = old.alloc; buckets = old.buckets; until = until; moved = old.moved } in
    let are : AreRepresentatives s ds wide = record {
      buckets = roomier s ds (length old.until.items) (length until.items) old.buckets.items c.reach.ensures.longer c.requires.representatives.buckets;
      named = λ f lt. c.requires.representatives.named f (subst (λ n. 0 < n) (c.reach.ensures.same f) lt);
    } in
    let room : frame < length until.items = omega (arith, c.requires.frame, c.count.ensures, c.in_ok-reach.ensures.room) in
    let mid = c.if-until-eq0.self in
    let both : AreRepresentatives s ds mid × IsNamed mid.buckets.items frame = elim c.if-until-eq0.branch [
      | then-until-eq0+in_ok-put w ↦
          (let put = w.in_ok-put.ensures.put in
          subst (λ (rs : Representatives). AreRepresentatives s ds rs × IsNamed rs.buckets.items frame) (sym w.self-is)
          (with_put s ds wide w.put.new.self frame are put c.requires.frame room, put.named))
      | else-until-eq0 w ↦
          subst (λ (rs : Representatives). AreRepresentatives s ds rs × IsNamed rs.buckets.items frame) (sym w.self-is)
          (are, are.named frame (let is = get_or_read until.items frame c.index-until.result.now room c.index-until.ensures 0 in let other = w.if-until-eq0.false in omega (arith, is, other)))
    ] in
    with_until s ds mid _ frame c.max.result both.0 both.1 refl refl
