-- The answer of one instruction that is judged on a running frame; and the numbers of a frame.
use Rattle.std.proofs.Common.{◌≡◌, ◌∙◌, ℕ, ◌+◌, ◌<◌, ◌≤◌, Bool, List, [], ◌∷◌, ◌++◌, map, take, drop, get_or, reverse, length, append_assoc, None, Result, Ok, Err, sym, ap, subst, inl, refl, arith}
use Rattle.std.specs.Prelude.{slice_set}
use Rattle.std.proofs.lemmas.List.{append-nil, drop_all, drop_more, length-take-le, map-append, reverse-append, set_at, take_all, take_more}
use Rattle.classfile.specs.Methods.{Method}
use Rattle.hierarchy.specs.Class.{ClassFact}
use Rattle.insn.specs.Meanings.{Act}
use Rattle.frames.specs.FrameFact.{FrameFact, frame_of}
use Rattle.frames.specs.VerificationType.{type_of}
use Rattle.frames.specs.declared.frame.Frame.{Frame}
use Rattle.type_numbers.specs.Numbers.{Numbering}
use Rattle.type_numbers.specs.Decoding.{type_by, types_by}
use Rattle.type_numbers.specs.MethodNumbers.{AreNumbers}
use Rattle.method_frames.specs.NumberedFrames.{frame_by}
use Rattle.verify.proofs.numbered.ClassTyped.{numbers_read}
use Rattle.rules.specs.declared.reason.Reason.{Reason}
use Rattle.rules.specs.declared.reason.Reason.TheVariants.{OutOfMemory, ClassMissing}
use Rattle.rules.specs.After.{after}
use Rattle.rules.specs.Outcomes.{Done, Judges}
use Rattle.rules.specs.Protected.{member_conditions}
use Rattle.rules.specs.Rules.{conditions, constructs_own}
use Rattle.rules.specs.Table.{typing_rule}
use Rattle.rules.specs.TypingRules.{TypingRule}
use Rattle.rules.proofs.Lesser.{both_least}
use Rattle.verify.specs.declared.applying.After.{After}
use Rattle.verify.specs.declared.applying.Refusal.{Refusal}
use Rattle.verify.specs.Applied.{Applied, Leaves, TellsOwn, all_conditions}
use Rattle.verify.specs.private.Judged.{JudgesRule}

-- ---- what is told of the own object

tells : (p : TypingRule) (f : FrameFact) (e : Reason) (own : Bool) → own ≡ constructs_own p f → TellsOwn p f e own
tells p f (ClassMissing name) own is = is
tells p f _ own is = tt

silent : (p : TypingRule) (f : FrameFact) (e : Reason) (own : Bool) → e ≡ OutOfMemory → TellsOwn p f e own
silent p f e own is = subst (λ r. TellsOwn p f r own) (sym is) tt

-- ---- an instruction judged on the running frame

module _ (cs : List ClassFact) (m : Method Act) (at : ℕ) (a : Act) (p : TypingRule) (f g : FrameFact) where
  pub stops : (e : Refusal) → e.reason ≡ OutOfMemory → JudgesRule cs m at a p f g (Err e)
  stops e is = record { outcome = (silent p f e.reason e.own is, inl is) }

  pub refuses : (own : Bool) (e : Reason) → own ≡ constructs_own p f → Judges (all_conditions cs m at a p f) (Err e) → JudgesRule cs m at a p f g (Err (record { reason = e; own = own }))
  refuses own e is j = record { outcome = (tells p f e own is, j.outcome) }

  pub passes : (own : Bool) (u v : Unit {0}) → own ≡ constructs_own p f → Done (conditions cs m at p f) (after m at p f) g (Ok u) → Judges (member_conditions cs m a f) (Ok v)
      → JudgesRule cs m at a p f g (Ok own)
  passes own u v is d j = record { outcome = (both_least (conditions cs m at p f) (member_conditions cs m a f) None None d.outcome.0 j.outcome, d.outcome.1, is) }

  -- ---- and the answer by it

  pub refused : (e : Refusal) → JudgesRule cs m at a p f g (Err e) → Applied cs m at a p f (Err e)
  refused e j = record { outcome = j.outcome }

  pub stopped : (e : Refusal) → e.reason ≡ OutOfMemory → Applied cs m at a p f (Err e)
  stopped e is = record { outcome = (silent p f e.reason e.own is, inl is) }

  pub applied : (own : Bool) (x : After) → JudgesRule cs m at a p f g (Ok own) → Leaves m at p f x → Applied cs m at a p f (Ok x)
  applied own x j to = record { outcome = (j.outcome.0, to) }

-- the classes, the act and the frame are these
pub judged_as : (ds cs : List ClassFact) (m : Method Act) (at : ℕ) (b a : Act) (w f g : FrameFact) (r : Result Bool Refusal) → ds ≡ cs → b ≡ a → w ≡ f
    → JudgesRule ds m at b (typing_rule m b) w g r → JudgesRule cs m at a (typing_rule m a) f g r
judged_as ds cs m at b a w f g r classes_are act_is frame_is j =
    subst (λ x. JudgesRule cs m at a (typing_rule m a) x g r) frame_is (subst (λ x. JudgesRule cs m at x (typing_rule m x) w g r) act_is (subst (λ x. JudgesRule x m at b (typing_rule m b) w g r) classes_are j))

-- ---- the locals of a frame, one after the other

pub one_set : (xs ys : List ℕ) (i : ℕ) → i < length xs → length xs ≡ length ys → slice_set (take i xs ++ drop i ys) i (get_or xs i 0) ≡ take (i + 1) xs ++ drop (i + 1) ys
one_set xs ys i lt even =
    let n = get_or xs i 0 in
    ap (λ zs. slice_set (take i xs ++ zs) i n) (drop_more ys i 0 (omega (arith, lt, even)))
    ∙ set_at (take i xs) (get_or ys i 0) (drop (i + 1) ys) n i (length-take-le i xs (omega (arith, lt)))
    ∙ sym (ap (λ zs. zs ++ drop (i + 1) ys) (take_more xs i 0 lt) ∙ append_assoc (take i xs) (n ∷ []) (drop (i + 1) ys))

pub all_set : (xs ys : List ℕ) (i : ℕ) → length xs ≤ i → length xs ≡ length ys → take i xs ++ drop i ys ≡ xs
all_set xs ys i le even = ap (λ zs. take i xs ++ zs) (drop_all i ys (omega (arith, le, even))) ∙ append-nil (take i xs) ∙ take_all i xs le

-- ---- the items of its stack, the last of them on top

pub one_pushed : (xs ys : List ℕ) (i : ℕ) → i < length xs → get_or xs i 0 ∷ (reverse (take i xs) ++ ys) ≡ reverse (take (i + 1) xs) ++ ys
one_pushed xs ys i lt =
    let n = get_or xs i 0 in
    sym (ap (λ zs. reverse zs ++ ys) (take_more xs i 0 lt) ∙ ap (λ zs. zs ++ ys) (reverse-append (take i xs) (n ∷ [])))

reversed : {A B : Type 0} (f : A → B) (xs : List A) → map f (reverse xs) ≡ reverse (map f xs)
reversed f [] = refl
reversed f (x ∷ xs) =
    ap (map f) (reverse-append (x ∷ []) xs) ∙ map-append f (reverse xs) (x ∷ []) ∙ ap (λ ys. ys ++ f x ∷ []) (reversed f xs) ∙ sym (reverse-append (f x ∷ []) (map f xs))

-- the frame that these are the numbers of
pub frame_read : (s : Numbering) (f : Frame) (locals stack : List ℕ) → AreNumbers s locals (map type_of f.locals.items) → AreNumbers s stack (map type_of f.stack.items)
    → frame_by s (record { locals = locals; stack = reverse stack ++ []; flag = f.flag }) ≡ frame_of f
frame_read s f locals stack l k =
    ap (λ ts. let g : FrameFact = record { locals = ts; stack = types_by s (reverse stack ++ []); flag = f.flag } in g) (numbers_read s locals (map type_of f.locals.items) l)
    ∙ ap (λ ts. let g : FrameFact = record { locals = map type_of f.locals.items; stack = ts; flag = f.flag } in g)
    (ap (types_by s) (append-nil (reverse stack)) ∙ reversed (type_by s) stack ∙ ap (λ ts. reverse ts) (numbers_read s stack (map type_of f.stack.items) k))
