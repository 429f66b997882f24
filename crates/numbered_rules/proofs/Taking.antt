-- Operands taken off the running frame, one by one.
use Rattle.std.proofs.Common.{◌≡◌, ◌∙◌, ℕ, zero, suc, ◌+◌, ◌<◌, ◌≤◌, true, List, [], ◌∷◌, length, get_or, drop, map, refl, sym, ap, subst, arith}
use Rattle.std.specs.List.{AllZip}
use Rattle.std.proofs.lemmas.List.{map-id}
use Rattle.std.proofs.lemmas.Slice.Zip.{AllZip-long}
use Rattle.hierarchy.specs.Answer.{Outcome, yes}
use Rattle.frames.specs.FrameAssignable.{both}
use Rattle.frames.specs.FrameFact.{FrameFact}
use Rattle.type_numbers.specs.Numbers.{Numbering}
use Rattle.type_numbers.specs.Decoding.{type_by, types_by}
use Rattle.method_frames.specs.NumberedFrames.{NumberedFrames}
use Rattle.rules.specs.TypingRules.{ExpectedType, any_reference}
use Rattle.rules.specs.Rules.{is_short}
use Rattle.rules.specs.Outcomes.{TookOff, pushed}
use Rattle.rules.proofs.Taking.{Rest, RestOff, rest_step, rest_none, off_end, others_kept}
use Rattle.numbered_rules.specs.declared.expected.Expected.{Expected}
use Rattle.numbered_rules.specs.Expected.{accepts_by, StandsFor}
use Rattle.numbered_rules.specs.RunningFrame.{held, IsRunning}

-- ---- lists, place by place

zip_at : {A B : Type 0} (R : A → B → Type 0) (xs : List A) (ys : List B) (i : ℕ) (d : A) (e : B) → AllZip R xs ys → i < length xs → R (get_or xs i d) (get_or ys i e)
zip_at R [] ys i d e h lt = absurd (omega (arith, lt))
zip_at R (x ∷ xs) [] i d e h lt = absurd h
zip_at R (x ∷ xs) (y ∷ ys) zero d e h lt = h.0
zip_at R (x ∷ xs) (y ∷ ys) (suc i) d e h lt = zip_at R xs ys i d e h.1 (omega (arith, lt))

-- ---- nothing but the running frame

pub running_same : (x : NumberedFrames) → IsRunning x x
running_same x = record { others = refl; size = refl }

pub running_then : (x y z : NumberedFrames) → IsRunning x y → IsRunning y z → IsRunning x z
running_then x y z a b = record {
  others = b.others ∙ ap (λ (w : NumberedFrames). record w { running = z.running }) a.others;
  size = b.size ∙ a.size;
}

pub types_stay : (x y : NumberedFrames) → IsRunning x y → y.types ≡ x.types
types_stay x y a = ap (λ (w : NumberedFrames). w.types) a.others

-- ---- an item that was on top

module _ (was now : NumberedFrames) (number : ℕ) where
  abbrev pub IsUnder : Type 0
  IsUnder = was ≡ record now { running = record now.running { stack = number ∷ now.running.stack } }

  module _ (e : IsUnder) where
    pub under_running : IsRunning was now
    under_running = record {
      others = ap (λ (x : NumberedFrames). record x { running = now.running }) (sym e);
      size = ap (λ (x : NumberedFrames). length x.running.locals) (sym e);
    }

    pub under_held : held was ≡ pushed (type_by was.types number ∷ []) (held now)
    under_held = ap held e ∙ ap (λ (x : NumberedFrames). pushed (type_by x.types number ∷ []) (held now)) (sym e)

-- ---- operands

abbrev same : ExpectedType → ExpectedType
same w = w

-- so many of the operands were taken, with this answer
pub record IsTaking (asked : List Expected) (old now : NumberedFrames) (i : ℕ) (a : Outcome) : Type 0 where
  pub rest : (ws : List ExpectedType) → AllZip (StandsFor old.types) asked ws
      → RestOff old.types.classes ws (held old) a (map same (drop i ws)) (held now)
  pub running : IsRunning old now

pub taking_first : (asked : List Expected) (old : NumberedFrames) → IsTaking asked old old 0 yes
taking_first asked old = record {
  rest = λ ws h. record {
    rest = subst (λ us. Rest old.types.classes ws (held old).stack yes us (held old).stack) (sym (map-id ws)) (record { short_is = refl; left_is = refl; answer_is = refl });
    others = refl;
  };
  running = running_same old;
}

module _ (asked : List Expected) (old was : NumberedFrames) (i : ℕ) (a : Outcome) (d : Expected) (lt : i < length asked) (h : IsTaking asked old was i a) where
  pub taking_more : (now : NumberedFrames) (number : ℕ) (b : Outcome) (s : Numbering) → IsUnder was now number → s ≡ now.types → b ≡ both a (accepts_by s (get_or asked i d) (type_by s number)) → IsTaking asked old now (i + 1) b
  taking_more now number b n e is answer = record {
    rest = λ ws z.
        let s = old.types in
        let r = h.rest ws z in
        let t = type_by was.types number in
        let top : held was ≡ pushed (t ∷ []) (held now) = under_held was now number e in
        let by : n ≡ was.types = is ∙ ap (λ (x : NumberedFrames). x.types) (sym e) in
        let from : n ≡ s = by ∙ types_stay old was h.running in
        let meets = zip_at (StandsFor s) asked ws i d any_reference z lt t in
        record {
          rest = rest_step same s.classes ws i any_reference ws (held old).stack a b (held was).stack (held now).stack t
              (let long = AllZip-long (StandsFor s) asked ws z in omega (arith, long, lt))
              (ap (λ (f : FrameFact). f.stack) top)
              (answer ∙ (λ j. both a (accepts_by (from j) (get_or asked i d) (type_by (by j) number))) ∙ ap (both a) meets)
              r.rest;
          others = others_kept (held old) (held was) (held now) t top r.others;
        };
    running = running_then old was now h.running (under_running was now number e);
  }

  -- there was no operand more
  pub taking_none : was.running.stack ≡ [] → (ws : List ExpectedType) → AllZip (StandsFor old.types) asked ws → is_short ws (held old).stack ≡ true
  taking_none none ws z =
      rest_none same old.types.classes ws i ws (held old).stack a (held was).stack (let long = AllZip-long (StandsFor old.types) asked ws z in omega (arith, long, lt))
      (ap (types_by was.types) none) (h.rest ws z).rest

pub taking_end : (asked : List Expected) (old now : NumberedFrames) (i : ℕ) (a : Outcome) → length asked ≤ i → IsTaking asked old now i a
    → (ws : List ExpectedType) → AllZip (StandsFor old.types) asked ws → TookOff old.types.classes ws (held old) a (held now)
taking_end asked old now i a le h ws z =
    off_end same old.types.classes ws i ws (held old) a (held now) (let long = AllZip-long (StandsFor old.types) asked ws z in omega (arith, long, le)) (h.rest ws z)
