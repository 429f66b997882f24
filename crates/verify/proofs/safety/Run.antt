-- Every state of a run fits the frame of its instruction, so none is a fault.
use Rattle.std.proofs.Common.{◌≡◌, ℕ, zero, suc, ℤ, pos, ◌≤◌, Bool, true, false, nat_eq, List, [], ◌∷◌, slice_get, Option, Some, None, inl, inr, if◌then◌else◌, sym, ap, refl, ◌∙◌, subst, arith, eq-eqb}
use Rattle.names.specs.ReferenceTypes.{ReferenceType}
use Rattle.classfile.specs.Methods.{Method}
use Rattle.hierarchy.specs.World.{World}
use Rattle.hierarchy.specs.Class.{ClassFact}
use Rattle.hierarchy.specs.Rules.{IsHierarchy}
use Rattle.hierarchy.specs.Extends.{Extends}
use Rattle.insn.specs.Meanings.{Act}
use Rattle.insn.specs.Offsets.{at_offset, first_offset, next_offset, IsStart, led_to, IsAmong}
use Rattle.frames.specs.FrameFact.{FrameFact}
use Rattle.frames.specs.Slots.{units_of}
use Rattle.rules.specs.Table.{typing_rule, made_by}
use Rattle.rules.specs.After.{after}
use Rattle.machine.specs.Values.{Value, reference}
use Rattle.machine.specs.Heap.{with_fresh}
use Rattle.machine.specs.Effects as effects
use Rattle.machine.specs.Effects.{effect}
use Rattle.machine.specs.Demands.{State, LeadsToStart, IsNoFault}
use Rattle.machine.specs.Steps.{Choice, go, raise, goes_on, moved_with, GoesTo, Steps, IsCaught, Happens}
use Rattle.machine.specs.Runs.{IsInitial, IsRun}
use Rattle.verify.specs.InitialFrames.{initial_types, initial_frame}
use Rattle.verify.specs.TypeSafety.{LeadsTo, Comes, caught_frame, IsTypeSafe}
use Rattle.verify.specs.Safety.{TypeSafeIsSafe}
use Rattle.verify.proofs.safety.Worlds.{world_of_hierarchy}
use Rattle.verify.proofs.safety.Fits.{Sound, Fits, With, frame_assign, depth_width}
use Rattle.verify.proofs.safety.Agree.{agree}
use Rattle.verify.proofs.safety.Plain.{room, reference_item}
use Rattle.verify.proofs.safety.News.{grows, fresh_gains}
use Rattle.verify.proofs.safety.Steps.{operands_met, rest_met, room_met, all_usable, ends_met, does, does_at, ways_agree}
use Rattle.verify.proofs.safety.Start.{first_view, MayStart, may_start, start_fits}
use Rattle.verify.proofs.Declared.{IsGoodFrame, good_frames}

-- ---- the next start is a start

first_is_start : (cs : List (ℕ × Act)) (q : ℕ) → first_offset cs ≡ Some q → IsStart cs q
first_is_start [] q e = cc
first_is_start (c ∷ cs) q e = let p : c.0 ≡ q = cc in record { what = c.1; here = rw (eq-eqb c.0 q p) refl }

later : (c : ℕ × Act) (cs : List (ℕ × Act)) (q : ℕ) → IsStart cs q → IsStart (c ∷ cs) q
later c cs q r = by (nat_eq c.0 q) refl
  where
    by : (b : Bool) → nat_eq c.0 q ≡ b → IsStart (c ∷ cs) q
    by true e = record { what = c.1; here = rw e refl }
    by false e = record { what = r.what; here = rw e r.here }

next_is_start : (cs : List (ℕ × Act)) (p q : ℕ) → next_offset cs p ≡ Some q → IsStart cs q
next_is_start [] p q e = cc
next_is_start (c ∷ cs) p q e = by (λ k. next_is_start cs p q k) (nat_eq c.0 p) e
  where
    by : (next_offset cs p ≡ Some q → IsStart cs q) → (b : Bool) → (if b then first_offset cs else next_offset cs p) ≡ Some q → IsStart (c ∷ cs) q
    by rec true k = later c cs q (first_is_start cs q k)
    by rec false k = later c cs q (rec k)

among_at : {A : Type 0} (xs : List A) (n : ℕ) (x : A) → slice_get xs n ≡ Some x → IsAmong x xs
among_at [] n x e = cc
among_at (y ∷ ys) zero x e = inl (let f : y ≡ x = cc in sym f)
among_at (y ∷ ys) (suc n) x e = inr (among_at ys n x e)

pos_same : (p q : ℕ) → pos p ≡ pos q → p ≡ q
pos_same p q e = cc

-- ---- the invariant

pub record Inv (w : World) (m : Method Act) (own : ℕ) (table : ℕ → FrameFact) (s : State) : Type 0 where
  pub site : ℕ → ℕ
  pub home : ℕ → ℕ
  pub fits : Fits (With (first_view w m own) site home) s (table s.at)
  pub start : IsStart m.code s.at
  pub within : units_of (table s.at).stack ≤ m.max_stack

module _ (h : List ClassFact) (m : Method Act) (safe : IsTypeSafe h m) (w : World) (hh : IsHierarchy h) (x : Extends w h) where
  sound : (own : ℕ) (site home : ℕ → ℕ) → Sound h (With (first_view w m own) site home)
  sound own site home = record { extends = x; world = world_of_hierarchy h w hh x }

  good : (at : ℕ) (f : FrameFact) → at_offset safe.frames at ≡ Some f → IsGoodFrame m.code m.max_locals m.max_stack at f
  good at f here = good_frames m.constant_pool m.code m.max_locals m.max_stack None (initial_types m) safe.declares.entries safe.frames safe.declares.declared at f here

  arrives : (own : ℕ) (site home : ℕ → ℕ) (t : State) (q : ℕ) (f : FrameFact) → t.at ≡ q → Fits (With (first_view w m own) site home) t f → safe.table q ≡ f → IsStart m.code q → units_of f.stack ≤ m.max_stack → Inv w m own safe.table t
  arrives own site home t q f at fits tab start deep =
      let e : safe.table t.at ≡ f = ap safe.table at ∙ tab in
      record {
        site = site;
        home = home;
        fits = subst (λ z. Fits (With (first_view w m own) site home) t z) (sym e) fits;
        start = subst (IsStart m.code) (sym at) start;
        within = subst (λ z. units_of z.stack ≤ m.max_stack) (sym e) deep;
      }

  leads : (own : ℕ) (site home : ℕ → ℕ) (t : State) (q : ℕ) (f : FrameFact) → t.at ≡ q → Fits (With (first_view w m own) site home) t f → LeadsTo h safe.frames f q → Inv w m own safe.table t
  leads own site home t q f at fits l =
      let g = good q l.declared l.here in
      arrives own site home t q l.declared at (frame_assign h _ t f l.declared (sound own site home) l.assignable fits) (safe.at_declared q l.declared l.here) g.start g.within

  comes : (own : ℕ) (site home : ℕ → ℕ) (t : State) (q : ℕ) (f : FrameFact) → t.at ≡ q → Fits (With (first_view w m own) site home) t f → IsStart m.code q → units_of f.stack ≤ m.max_stack → Comes h safe.frames safe.table f q → Inv w m own safe.table t
  comes own site home t q f at fits start deep (inl e) = arrives own site home t q f at fits e start deep
  comes own site home t q f at fits start deep (inr l) = leads own site home t q f at fits l

  -- ---- one instruction

  pub goes : (own : ℕ) (s t : State) (a : Act) (q : ℕ) → at_offset m.code s.at ≡ Some a → GoesTo m s.at (effect m a) q → t.at ≡ q → (site home : ℕ → ℕ) → Fits (With (first_view w m own) site home) t (after m s.at (typing_rule m a) (safe.table s.at)) → Inv w m own safe.table t
  goes own s t a q at (inl i) to site home fits =
      let fine = safe.each s.at a at in
      let ways = ways_agree h m s.at (safe.table s.at) (typing_rule m a) (effect m a) fine.rule (agree m a) in
      let l = fine.leads (pos q) (subst (λ z. IsAmong (pos q) (led_to s.at z)) ways.offsets i) in
      let e : q ≡ l.0 = pos_same q l.0 l.1 in
      leads own site home t l.0 _ (to ∙ e) fits l.2
  goes own s t a q at (inr (i, n)) to site home fits =
      let fine = safe.each s.at a at in
      let ways = ways_agree h m s.at (safe.table s.at) (typing_rule m a) (effect m a) fine.rule (agree m a) in
      let k = fine.next (sym ways.falls ∙ i) in
      let same : Some k.0 ≡ Some q = sym k.1 ∙ n in
      let e : k.0 ≡ q = cc in
      comes own site home t q _ to fits (next_is_start m.code s.at q n) (room h m s.at (typing_rule m a) (safe.table s.at) fine.rule) (subst (λ z. Comes h safe.frames safe.table (after m s.at (typing_rule m a) (safe.table s.at)) z) e k.2)

  pub step : (own : ℕ) (s t : State) (br : Option ℕ) (v : Option Value) (fresh : List (ℕ × ReferenceType)) → Inv w m own safe.table s → Steps w m s br v fresh t → Inv w m own safe.table t
  step own s t br v fresh i d =
      let e = With (first_view w m own) i.site i.home in
      let fine = safe.each s.at d.act d.here in
      let heap = with_fresh s.heap fresh in
      let g = grows e s heap (safe.table s.at) (fresh_gains fresh s.heap d.unused) i.fits in
      let k = does h e (typing_rule m d.act) (effect m d.act) (moved_with s s.at s.stack heap) (safe.table s.at) v d.to t (agree m d.act) (ap (made_by m) d.here) (sound own i.site i.home) g fine.rule d.does in
      goes own s t d.act d.to d.here d.goes (does_at w (effect m d.act) (moved_with s s.at s.stack heap) v d.to t d.does) k.site k.home k.fits

  -- ---- an exception that is caught

  pub caught : (own : ℕ) (s t : State) (a : ℕ) (fresh : List (ℕ × ReferenceType)) (n : ℕ) → Inv w m own safe.table s → IsCaught w m s a fresh n t → Inv w m own safe.table t
  caught own s t a fresh n i r =
      let e = With (first_view w m own) i.site i.home in
      let fine = safe.each s.at i.start.what i.start.here in
      let heap = with_fresh s.heap fresh in
      let g = grows e s heap (safe.table s.at) (fresh_gains fresh s.heap r.raised.unused) i.fits in
      let u : State = moved_with s r.by_entry.handler (reference a ∷ []) heap in
      let it = reference_item e heap r.by_entry.caught (reference a) (r.raised.type, r.raised.here, r.catches) in
      let f : Fits e u (caught_frame r.by_entry (safe.table s.at)) = record { items = (it, tt); slots = g.slots; paired = g.paired; long = g.long; only = g.only } in
      leads own i.site i.home t r.by_entry.handler (caught_frame r.by_entry (safe.table s.at)) (ap (λ z. z.at) r.result) (subst (λ z. Fits e z (caught_frame r.by_entry (safe.table s.at))) (sym r.result) f) (fine.handled r.by_entry (among_at m.exceptions n r.by_entry r.which) r.covered)

  -- ---- a state that fits is no fault

  pub met : (own : ℕ) (s : State) → Inv w m own safe.table s → IsNoFault w m s
  met own s i =
      let e = With (first_view w m own) i.site i.home in
      let a = i.start.what in
      let at = i.start.here in
      let f = safe.table s.at in
      let fine = safe.each s.at a at in
      let so = sound own i.site i.home in
      let d = depth_width e s.heap s.stack f.stack i.fits.items in
      let within = i.within in
      let ways = ways_agree h m s.at f (typing_rule m a) (effect m a) fine.rule (agree m a) in
      let operands = operands_met h e (typing_rule m a) (effect m a) s f (agree m a) so i.fits fine.rule in
      record {
        act = a;
        here = at;
        operands = record {
          operands = operands;
          others = rest_met h e (typing_rule m a) (effect m a) s f (agree m a) so i.fits fine.rule;
          all_locals = i.fits.long;
          paired = i.fits.paired;
        };
        stack = record { before = omega arith; after = room_met h e (typing_rule m a) (effect m a) s f (agree m a) so i.fits fine.rule };
        control = record {
          branches = λ target k. start_of target (fine.leads target (subst (λ z. IsAmong target (led_to s.at z)) ways.offsets k));
          next = λ k. let n = fine.next (sym ways.falls ∙ k) in (n.0, n.1, next_is_start m.code s.at n.0 n.1);
          caught = λ c k v. let l = fine.handled c k v in (good c.handler l.declared l.here).start;
        };
        objects = record { uses = all_usable w s.heap (effects.demands_of (effect m a)) s.stack operands };
        own_object = record { own = ends_met h e (typing_rule m a) (effect m a) s f (agree m a) i.fits fine.rule };
      }
    where
      start_of : (target : ℤ) → ((q : ℕ) × (target ≡ pos q) × LeadsTo h safe.frames (after m s.at (typing_rule m i.start.what) (safe.table s.at)) q) → LeadsToStart m target
      start_of target l = (l.0, l.1, (good l.0 l.2.declared l.2.here).start)

  -- ---- runs

  pub begins_by : (s : State) → s.at ≡ 0 → (i : MayStart w m s) → Inv w m i.own safe.table s
  begins_by s at i = comes i.own (λ n. 0) (λ n. 0) s 0 (initial_frame m) at (start_fits w m s i) safe.begins nothing safe.first
    where
      nothing : 0 ≤ m.max_stack
      nothing = omega arith

  pub begins : (s : State) (i : IsInitial w m s) → Inv w m i.own safe.table s
  begins s i = begins_by s i.at (may_start w m s safe.enough i)

  pub follows : (own : ℕ) (s t : State) (c : Choice) → Inv w m own safe.table s → Happens w m s c (goes_on t) → Inv w m own safe.table t
  follows own s t (go br v fresh) i k = step own s t br v fresh i k.1
  follows own s t (raise a fresh None) i k = elim k [ ]
  follows own s t (raise a fresh (Some n)) i k = caught own s t a fresh n i k.1

  pub invariant : (s : State) (ss : List State) → IsRun w m (s ∷ ss) → (own : ℕ) × Inv w m own safe.table s
  invariant s [] r = (r.own, begins s r)
  invariant t (s ∷ ss) r = let i = invariant s ss r.1 in (i.0, follows i.0 s t r.0.0 i.1 r.0.1)

  pub all_met : (run : List State) → IsRun w m run → (s : State) → IsAmong s run → IsNoFault w m s
  all_met [] r s a = elim r [ ]
  all_met (t ∷ []) r s (inl e) = let i = invariant t [] r in subst (IsNoFault w m) (sym e) (met i.0 t i.1)
  all_met (t ∷ []) r s (inr e) = elim e [ ]
  all_met (t ∷ (u ∷ us)) r s (inl e) = let i = invariant t (u ∷ us) r in subst (IsNoFault w m) (sym e) (met i.0 t i.1)
  all_met (t ∷ (u ∷ us)) r s (inr a) = all_met (u ∷ us) r.1 s a

pub type_safe_is_safe : TypeSafeIsSafe
type_safe_is_safe h hh m safe w x run r s a = all_met h m safe w hh x run r s a
