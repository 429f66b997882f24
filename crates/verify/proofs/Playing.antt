-- Classes in play: names that were met, and what follows from the reports on all classes.
use Rattle.std.proofs.Common.{◌≡◌, ◌⊎◌, inl, inr, ℕ, zero, suc, ◌+◌, ◌<◌, ◌≤◌, Bool, true, false, ◌||◌, List, [], ◌∷◌, length, Some, None, Ok, Err, refl, sym, ap, ◌∙◌, subst, arith, eq-or-lt_of_le}
use Rattle.std.specs.Prelude.{slice_get}
use Rattle.std.specs.Option.{option_and_then}
use Rattle.std.specs.Str.{bytes_eq}
use Rattle.std.proofs.lemmas.Slice.Eq.{bytes_eq-Decides}
use Rattle.classfile.specs.Values.{Member}
use Rattle.classfile.specs.Methods.{JudgedClass, Method, code_of}
use Rattle.classfile.specs.MethodParts.{code_at}
use Rattle.hierarchy.specs.Class.{ClassFact}
use Rattle.hierarchy.specs.Rules.{IsHierarchy}
use Rattle.hierarchy.specs.ClassSummary.{summary_of}
use Rattle.insn.specs.Meanings.{Act}
use Rattle.insn.specs.Offsets.{IsAmong}
use Rattle.verify.specs.declared.verdict.Verdict.{Verdict}
use Rattle.verify.specs.declared.verdict.Verdict.TheVariants.{Verified, NoCode, Refused}
use Rattle.verify.specs.declared.report.MethodVerdict.{MethodVerdict}
use Rattle.verify.specs.declared.report.Report.{Report}
use Rattle.verify.specs.TypeSafety.{IsTypeSafe}
use Rattle.verify.specs.ClassMethods.{IsMethod}
use Rattle.verify.specs.Answers.{Answers}
use Rattle.machine.specs.Demands.{IsNoFault}
use Rattle.verify.specs.ClassRuns.{Moment, state_in, IsClassRun}
use Rattle.verify.specs.ClassRunSafety.{IsInPlay, AreVerified, ArePlayable}
use Rattle.names.specs.declared.met_names.MetNames.{MetNames}
use Rattle.verify.specs.declared.play.PlayFault.TheVariants.{NotAllVerified}
use Rattle.verify.specs.declared.play.PlayStop.{PlayStop}
use Rattle.verify.specs.declared.play.PlayStop.TheVariants as stops
use Rattle.names.specs.MetNames.{is_met, Meets}
use Rattle.verify.specs.Plays.{IsFineVerdict, AreFineBelow, HasEarlier, IsFirstOfName, IsFine, Breaks, HasRefused, AreFine, ArePlayed, BreaksFirst, IsNotPlayed, IsStopped}
use Rattle.verify.specs.private.PlaySteps.{AreMet, Judges}
use Rattle.verify.proofs.safety.Worlds.{name_same}
use Rattle.verify.proofs.safety.OneMethod.{one_method}
use Rattle.verify.proofs.safety.ClassRuns.{verified_is_playable}

some_same : {A : Type 0} (a b : A) → Some a ≡ Some b → a ≡ b
some_same a b e = cc

true_false : true ≡ false → ⊥
true_false e = cc

none_some : {A : Type 0} (a : A) → None ≡ Some a → ⊥
none_some a e = cc

-- ---- names that were met

either : (a b : Bool) → (a || b) ≡ true → (a ≡ true) ⊎ (b ≡ true)
either true b e = inl refl
either false b e = inr e

first_or : (a b : Bool) → a ≡ true → (a || b) ≡ true
first_or a b e = rw e refl

second_or : (a b : Bool) → b ≡ true → (a || b) ≡ true
second_or true b e = refl
second_or false b e = e

pub none_met : (cs : List JudgedClass) (names : MetNames) → ((name : List ℕ) → is_met names name ≡ false) → AreMet cs 0 names
none_met cs names none = record {
  only = λ name e. absurd (true_false (sym e ∙ none name));
  all = λ name (j, d, lt, at, is). absurd (omega (arith, lt));
}

-- a name that was not met before is that of no class before
pub not_met : (cs : List JudgedClass) (i : ℕ) (old : MetNames) {own name : List ℕ} → own ≡ name → AreMet cs i old → (new : MetNames) (before : Bool) → Meets old new own before → before ≡ false → HasEarlier cs i name → ⊥
not_met cs i old same met new before step none early = true_false (sym (met.all _ early) ∙ ap (is_met old) (sym same) ∙ sym step.told ∙ none)

pub one_more_met : (cs : List JudgedClass) (i : ℕ) (c : JudgedClass) (old new : MetNames) (before : Bool) → slice_get cs i ≡ Some c → AreMet cs i old → Meets old new (summary_of c.file).name before → AreMet cs (i + 1) new
one_more_met cs i c old new before here met step = record { only = only; all = all }
  where
    name : List ℕ
    name = (summary_of c.file).name

    told : (other : List ℕ) → (bytes_eq name other ≡ true) ⊎ (is_met old other ≡ true) → HasEarlier cs (i + 1) other
    told other (inl e) = (i, c, omega arith, here, name_same name other e)
    told other (inr e) =
        let (j, d, lt, at, is) = met.only other e in
        (j, d, omega (arith, lt), at, is)

    only : (other : List ℕ) → is_met new other ≡ true → HasEarlier cs (i + 1) other
    only other e = told other (either (bytes_eq name other) (is_met old other) (sym (step.behind other) ∙ e))

    by : (other : List ℕ) (j : ℕ) (d : JudgedClass) → slice_get cs j ≡ Some d → (summary_of d.file).name ≡ other → (j ≡ i) ⊎ (j < i) → (bytes_eq name other || is_met old other) ≡ true
    by other j d at is (inl e) =
        let k : d ≡ c = some_same d c (sym at ∙ ap (slice_get cs) e ∙ here) in
        first_or (bytes_eq name other) (is_met old other) ((bytes_eq-Decides name other).1 (ap (λ z. (summary_of z.file).name) (sym k) ∙ is))
    by other j d at is (inr l) = second_or (bytes_eq name other) (is_met old other) (met.all other (j, d, l, at, is))

    all : (other : List ℕ) → HasEarlier cs (i + 1) other → is_met new other ≡ true
    all other (j, d, lt, at, is) =
        let le : j ≤ i = omega (arith, lt) in
        step.behind other ∙ by other j d at is (eq-or-lt_of_le le)

-- the name of the class at a place stands before it, or does not
pub stands_twice : (cs : List JudgedClass) (i : ℕ) (c : JudgedClass) (old new : MetNames) (before : Bool) → AreMet cs i old → Meets old new (summary_of c.file).name before → before ≡ true → HasEarlier cs i (summary_of c.file).name
stands_twice cs i c old new before met step e = met.only (summary_of c.file).name (sym step.told ∙ e)

pub stands_once : (cs : List JudgedClass) (i : ℕ) (c : JudgedClass) (old new : MetNames) (before : Bool) → AreMet cs i old → Meets old new (summary_of c.file).name before → before ≡ false → IsFirstOfName cs i c
stands_once cs i c old new before met step e earlier = true_false (sym (met.all (summary_of c.file).name earlier) ∙ sym step.told ∙ e)

-- ---- from the reports to the premise of the theorem

place_of : {A : Type 0} (x : A) (xs : List A) → IsAmong x xs → (i : ℕ) × (slice_get xs i ≡ Some x)
place_of x [] a = elim a [ ]
place_of x (y ∷ ys) (inl e) = (zero, ap Some (sym e))
place_of x (y ∷ ys) (inr a) = let p = place_of x ys a in (suc p.0, p.1)

item_there : {A B : Type 0} (xs : List A) (ys : List B) (i : ℕ) (x : A) → length ys ≡ length xs → slice_get xs i ≡ Some x → (y : B) × (slice_get ys i ≡ Some y) × (i < length ys)
item_there [] ys i x e at = absurd (none_some x at)
item_there (x ∷ xs) [] i z e at = cc
item_there (x ∷ xs) (y ∷ ys) zero z e at = (y, refl, omega arith)
item_there (x ∷ xs) (y ∷ ys) (suc i) z e at =
    let l : length ys ≡ length xs = cc in
    let p = item_there xs ys i z l at in
    let k : i < length ys = p.2 in
    (p.0, p.1, omega arith)

module _ (h : List ClassFact) (cs : List JudgedClass) (rs : List Report) (all : ArePlayed h cs rs) where
  fine_class : (c : JudgedClass) → IsAmong c cs → (ms : List MethodVerdict) × (i : ℕ) × IsFine h cs i c ms
  fine_class c a =
      let p = place_of c cs a in
      let r = item_there cs rs p.0 c all.0 p.1 in
      let f = all.1 p.0 r.0 r.1 in
      let k : f.0 ≡ c = some_same f.0 c (sym f.1 ∙ p.1) in
      (r.0.methods.items, p.0, subst (λ z. IsFine h cs p.0 z r.0.methods.items) k f.2)

  by_verdict : (c : JudgedClass) (n : ℕ) (m : Method Act) → IsMethod c n m → (v : Verdict) → IsFineVerdict v → Answers h c n (Ok v) → IsTypeSafe h m
  by_verdict c n m i Verified f a = subst (IsTypeSafe h) (one_method c n a.1.0 m a.1.1 i) a.1.2
  by_verdict c n m i NoCode f a =
      let e : code_at c.file n ≡ Some i.body = ap (option_and_then (λ (z : Member). code_of z.attributes)) i.numbered ∙ i.has_code in
      absurd (none_some i.body (sym a.1 ∙ e))
  by_verdict c n m i (Refused at why) f a = elim f [ ]

  safe_method : (c : JudgedClass) → IsAmong c cs → (n : ℕ) (m : Method Act) → IsMethod c n m → IsTypeSafe h m
  safe_method c a n m i =
      let f = fine_class c a in
      let r = item_there c.file.methods f.0 n i.member f.2.report.all i.numbered in
      by_verdict c n m i r.0.verdict (f.2.verified n r.0 r.2 r.1) (f.2.report.each n r.0 r.1).exactly

  pub are_verified : AreVerified h cs
  are_verified = record { listed = λ c a. (fine_class c a).2.report.listed; safe = λ c a n m i. safe_method c a n m i }

-- no run begins where no class is in play
none_playable : (h : List ClassFact) → ArePlayable h []
none_playable h w x [] r q i a j = elim r [ ]
none_playable h w x (p ∷ []) r q i a j = elim r.in_play.among [ ]
none_playable h w x (p ∷ (o ∷ os)) r q i a j = begins (o ∷ os) r.1
  where
    begins : (ps : List Moment) → IsClassRun w (IsInPlay []) ps → IsNoFault w a.method (state_in q.types a)
    begins [] r = elim r [ ]
    begins (p ∷ []) r = elim r.in_play.among [ ]
    begins (p ∷ (o ∷ os)) r = begins (o ∷ os) r.1

pub are_playable : (h : List ClassFact) (cs : List JudgedClass) (rs : List Report) → (0 < length cs → IsHierarchy h) → ArePlayed h cs rs → ArePlayable h cs
are_playable h [] rs hh all = none_playable h
are_playable h (c ∷ cs) rs hh all = verified_is_playable h (hh (omega arith)) (c ∷ cs) (are_verified h (c ∷ cs) rs all)

-- ---- methods that are not refused

pub not_both : (b : Bool) → b ≡ true → b ≡ false → ⊥
not_both true e f = cc
not_both false e f = cc

pub more_fine : (rs : List MethodVerdict) (n : ℕ) (m : MethodVerdict) → AreFineBelow rs n → slice_get rs n ≡ Some m → IsFineVerdict m.verdict → AreFineBelow rs (n + 1)
more_fine rs n m all here fine k r lt at =
    let le : k ≤ n = omega arith in
    go (eq-or-lt_of_le le)
  where
    go : (k ≡ n) ⊎ (k < n) → IsFineVerdict r.verdict
    go (inl e) = subst (λ z. IsFineVerdict z.verdict) (some_same m r (sym here ∙ ap (slice_get rs) (sym e) ∙ at)) fine
    go (inr l) = all k r l at

-- ---- why there are no reports

pub stopped : (h : List ClassFact) (cs : List JudgedClass) (i : ℕ) (c : JudgedClass) (names : MetNames) (stop : PlayStop) (rs : List Report) → slice_get cs i ≡ Some c → length rs ≡ i → AreFine h cs rs
    → Judges h cs i c names (Err stop) → IsStopped h cs stop
stopped h cs i c names stops.OutOfMemory rs here many fine p = tt
stopped h cs i c names (stops.Broken class rule) rs here many fine p =
    subst (λ n. BreaksFirst h cs n (λ d. Breaks h cs n d rule)) (sym p.0) ((c, here, p.1), (rs, many, fine))
stopped h cs i c names (stops.Refused class number method) rs here many fine p =
    subst (λ n. BreaksFirst h cs n (λ d. HasRefused h cs n d number method)) (sym p.0) ((c, here, p.1), (rs, many, fine))

pub not_all_verified : (h : List ClassFact) (cs : List JudgedClass) (stop : PlayStop) (class number : ℕ) (method : MethodVerdict) → stop ≡ stops.Refused class number method
    → IsStopped h cs stop → IsNotPlayed h cs (NotAllVerified class number)
not_all_verified h cs stop class number method e p =
    let ((c, here, refused), before) = subst (IsStopped h cs) e p in
    ((c, here, (method, refused)), before)
