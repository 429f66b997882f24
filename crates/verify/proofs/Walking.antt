-- Walks of methods that are verified: they are runs, so by the theorem no state that they reach is a fault.
use Rattle.std.proofs.Common.{◌≡◌, ◌↔◌, IsTrue, ℕ, Bool, false, List, [], ◌∷◌, Option, Some, None, Result, Ok, Err, refl, sym, ap, ◌∙◌, subst, inl}
use Rattle.std.specs.Prelude.{IfOk}
use Rattle.std.specs.Option.{option_and_then}
use Rattle.std.proofs.lemmas.Bool.{false≢true}
use Rattle.names.specs.Descriptors.{FieldDescriptor}
use Rattle.names.specs.ReferenceTypes.{class_type}
use Rattle.hierarchy.specs.World.{World, IsSubclassIn}
use Rattle.hierarchy.specs.Class.{ClassFact, world_of}
use Rattle.hierarchy.specs.Rules.{IsHierarchy}
use Rattle.hierarchy.proofs.Worlds.{itself}
use Rattle.classfile.specs.Values.{CodeBody, Member}
use Rattle.classfile.specs.Methods.{JudgedClass, Method, Receiver, no_receiver, ready_receiver, own_receiver, receiver_of, code_of, method_of}
use Rattle.classfile.specs.MethodParts.{IsMethod as HasParts, code_at, method_by_parts}
use Rattle.classfile.proofs.MethodLaws.{method_says}
use Rattle.insn.specs.Code.{SpellsCode}
use Rattle.insn.specs.Instructions.{Instruction}
use Rattle.insn.specs.Meanings.{Act}
use Rattle.insn.specs.Offsets.{acts, IsAmong}
use Rattle.machine.specs.Values.{Value, reference}
use Rattle.machine.specs.Heap.{this, object, Heap, FitsReference}
use Rattle.machine.specs.Demands.{State, IsNoFault}
use Rattle.machine.specs.Steps.{Choice}
use Rattle.machine.specs.Runs.{Receives, IsInitial, IsRun}
use Rattle.machine.specs.Walks.{Stop, more, fault, Walks, stops, faulty, refused, ends, goes}
use Rattle.verify.specs.declared.verdict.Verdict.{Verdict}
use Rattle.verify.specs.declared.verdict.Verdict.TheVariants.{Verified, NoCode, Refused}
use Rattle.verify.specs.declared.verified_walk.WalkFault.{WalkFault}
use Rattle.verify.specs.declared.verified_walk.WalkFault.TheVariants.{OutOfMemory, NotInitial, NotVerified, NotInHierarchy}
use Rattle.verify.specs.ClassMethods.{IsMethod, IsSafeIn}
use Rattle.verify.specs.Answers.{Answers, VerifiesTypeSafe}
use Rattle.verify.specs.VerifiedWalks.{Reaches, here, further, WalksAreRuns, BeginsIn, WalksIn, IsSafeWalk, IsUnverified, WalksVerified}
use Rattle.verify.proofs.MethodCode.{has_code}
use Rattle.verify.proofs.safety.OneMethod.{one_method}

some_same : {A : Type 0} (a b : A) → Some a ≡ Some b → a ≡ b
some_same a b e = cc

none_some : {A : Type 0} (a : A) → None ≡ Some a → ⊥
none_some a e = cc

-- ---- a walk is a run

on_run : (w : World) (m : Method Act) (s t : State) (ss : List State) (cs : List Choice) → IsRun w m (s ∷ ss) → Reaches w m s cs t
    → (run : List State) × IsRun w m run × IsAmong t run
on_run w m s t ss cs r here = (s ∷ ss, r, inl refl)
on_run w m s t ss cs r (further {t = u} {c = c} {cs = ds} h k) = on_run w m u t (s ∷ ss) ds ((c, h), r) k

pub walks_are_runs : WalksAreRuns
walks_are_runs w m s t cs i k = on_run w m s t [] cs i k

-- ---- where a walk stops

module _ (w : World) (m : Method Act) where
  abbrev Faulty : State → List Choice → Type 0
  Faulty s cs = (t : State) × Reaches w m s cs t × (IsNoFault w m t → ⊥)

  -- a walk that stops at a fault reaches one
  pub reaches_fault : (s : State) (cs : List Choice) (n : ℕ) (stop : Stop) → Walks w m s cs n stop → stop ≡ fault → Faulty s cs
  reaches_fault s cs n stop stops e = absurd cc
  reaches_fault s cs n stop (faulty f) e = (s, here, f)
  reaches_fault s cs n stop (refused f g) e = absurd cc
  reaches_fault s cs n stop (ends h) e = absurd cc
  reaches_fault s cs n stop (goes {t = t} {cs = ds} {n = k} h p) e =
      let r = reaches_fault t ds k stop p e in
      (r.0, further h r.1, r.2)

  -- a walk of which all choices are used up reaches the state where it stops
  pub reaches_last : (s : State) (cs : List Choice) (n : ℕ) (stop : Stop) → Walks w m s cs n stop → (t : State) → stop ≡ more t → Reaches w m s cs t
  reaches_last s cs n stop stops t e = let same : s ≡ t = cc in subst (Reaches w m s []) same here
  reaches_last s cs n stop (faulty f) t e = absurd cc
  reaches_last s cs n stop (refused f g) t e = absurd cc
  reaches_last s cs n stop (ends h) t e = absurd cc
  reaches_last s cs n stop (goes {t = u} {cs = ds} {n = k} h p) t e = further h (reaches_last u ds k stop p t e)

-- ---- a method begins in a state whatever its code says

receives_as : {A B : Type 0} (w : World) (m : Method A) (n : Method B) → m.class ≡ n.class → (h : Heap) (own : ℕ) (r : Receiver) (vs : List Value)
    → Receives w m h own r vs → Receives w n h own r vs
receives_as w m n e h own no_receiver vs x = x
receives_as w m n e h own ready_receiver vs x = subst (λ k. (a : ℕ) × (vs ≡ reference a ∷ []) × FitsReference w h (class_type k) (reference a)) e x
receives_as w m n e h own own_receiver vs x =
    subst (λ k. (vs ≡ reference own ∷ []) × ((y : List ℕ) × (h own ≡ Some (object (class_type y) this)) × IsSubclassIn w y k)) e x

-- where the answer is yes, the method with its instructions begins in the state, if its code is some
abbrev pub Tells : {E : Type 0} → World → JudgedClass → ℕ → State → Result Bool E → Type 0
Tells w c number s r = IfOk r (λ b. IsTrue b → (m : Method Act) → IsMethod c number m → IsInitial w m s)

module _ (w : World) (c : JudgedClass) (number : ℕ) (body : CodeBody) (is_static is_init : Bool) (result : Option FieldDescriptor) (s : State) where
  abbrev with_code : {A : Type 0} → List (ℕ × A) → Method A
  with_code code = method_by_parts c number body is_static is_init result code

  begins_with : (code : List (ℕ × Act)) → IsInitial w (with_code {A = ℕ} []) s → IsInitial w (with_code code) s
  begins_with code i = record {
    at = i.at;
    stack = i.stack;
    own = i.own;
    receiver = i.receiver;
    arguments = i.arguments;
    receives = receives_as w (with_code {A = ℕ} []) (with_code code) refl s.heap i.own (receiver_of (with_code code)) i.receiver i.receives;
    fit = i.fit;
    enough = i.enough;
    locals = i.locals;
    objects = i.objects;
    none_made = i.none_made;
    only_own = i.only_own;
  }

  begins_by_parts : HasParts c number body is_static is_init result → IsInitial w (with_code {A = ℕ} []) s → (m : Method Act) → IsMethod c number m
      → IsInitial w m s
  begins_by_parts parts i m x =
      let code = acts x.instructions in
      let e : with_code code ≡ m =
      some_same (with_code code) m (sym (method_says {A = Act} c number body is_static is_init result parts code) ∙ x.method) in
      subst (λ z. IsInitial w z s) e (begins_with code i)

  pub tells_so : {E : Type 0} → HasParts c number body is_static is_init result → (r : Result Bool E)
      → IfOk r (λ b. IsTrue b ↔ IsInitial w (with_code {A = ℕ} []) s) → Tells w c number s r
  tells_so parts (Ok b) x = λ t. begins_by_parts parts (x.0 t)
  tells_so parts (Err e) x = tt

-- ---- whether a method begins in a state

module _ (h : List ClassFact) (c : JudgedClass) (number : ℕ) (s : State) where
  begins_as : (m : Method ℕ) → method_of {A = ℕ} c number [] ≡ Some m → (b : Bool) → IsTrue b ↔ IsInitial {A = ℕ} (world_of h) m s
      → IsTrue b ↔ BeginsIn h c number s
  begins_as m e b x = (
    (λ t. (m, e, x.0 t)),
    (λ y. x.1 (subst (λ z. IsInitial (world_of h) z s) (some_same y.0 m (sym y.1 ∙ e)) y.2)),
  )

  pub tells_begins : {E : Type 0} (m : Method ℕ) → method_of {A = ℕ} c number [] ≡ Some m → (r : Result Bool E)
      → IfOk r (λ b. IsTrue b ↔ IsInitial {A = ℕ} (world_of h) m s) → IfOk r (λ b. IsTrue b ↔ BeginsIn h c number s)
  tells_begins m e (Ok b) x = begins_as m e b x
  tells_begins m e (Err f) x = tt

  -- without code it begins in none
  pub begins_nowhere : method_of {A = ℕ} c number [] ≡ None → IsTrue false ↔ BeginsIn h c number s
  begins_nowhere e = ((λ t. absurd (false≢true t)), (λ y. absurd (none_some y.0 (sym e ∙ y.1))))

-- ---- a method that is not verified

module _ (h : List ClassFact) (c : JudgedClass) (number : ℕ) where
  -- another verdict denies that it is type-safe
  pub not_type_safe : (v : Verdict) → (v ≡ Verified → ⊥) → Answers h c number (Ok v) → VerifiesTypeSafe h c number (Ok v)
      → IsUnverified h c number NotVerified
  not_type_safe Verified other a only = absurd (other refl)
  not_type_safe NoCode other a only = (a.0, λ t. other (only a.0 t.0 t.1 t.2))
  not_type_safe (Refused at why) other a only = (a.0, λ t. other (only a.0 t.0 t.1 t.2))

  pub unverified : (s : State) (cs : List Choice) (e : WalkFault) → BeginsIn h c number s → IsUnverified h c number e → WalksVerified h c number s cs (Err e)
  unverified s cs OutOfMemory b u = tt
  unverified s cs NotInitial b u = absurd u
  unverified s cs NotVerified b u = (b, u)
  unverified s cs NotInHierarchy b u = (b, u)

-- ---- a walk of a method that is verified

pub is_method : (c : JudgedClass) (number : ℕ) (body : CodeBody) (xs : List (ℕ × Instruction)) (m : Method Act) → code_at c.file number ≡ Some body
    → SpellsCode 0 body.code xs → method_of c number (acts xs) ≡ Some m → IsMethod c number m
is_method c number body xs m has spelled says =
    let x = has_code c.file number body has in
    record {
      member = x.member;
      numbered = x.numbered;
      body = body;
      has_code = x.has_code;
      instructions = xs;
      spelled = spelled;
      method = says;
    }

pub coded : (c : JudgedClass) (number : ℕ) (m : Method Act) (x : IsMethod c number m) → code_at c.file number ≡ Some x.body
coded c number m x = ap (option_and_then (λ (z : Member). code_of z.attributes)) x.numbered ∙ x.has_code

module _ (h : List ClassFact) (hierarchy : IsHierarchy h) (c : JudgedClass) (number : ℕ) (s : State) (cs : List Choice)
    (begins : (m : Method Act) → IsMethod c number m → IsInitial (world_of h) m s) (safe : IsSafeIn h c number) where
  -- By the theorem, of the run that the walk is.
  no_fault : (m : Method Act) → IsMethod c number m → (t : State) → Reaches (world_of h) m s cs t → IsNoFault (world_of h) m t
  no_fault m x t k =
      let r = walks_are_runs (world_of h) m s t cs (begins m x) k in
      (safe m x).safe (world_of h) (itself h hierarchy) r.0 r.1 t r.2

  pub safe_walk : (n : ℕ) (stop : Stop) → WalksIn h c number s cs n stop → IsSafeWalk h c number s cs stop
  safe_walk n stop (m, x, w) = record {
    stopped = λ e. let f = reaches_fault (world_of h) m s cs n stop w e in f.2 (no_fault m x f.0 f.1);
    last = λ k y t e.
        no_fault k y t (reaches_last (world_of h) k s cs n stop (subst (λ z. Walks (world_of h) z s cs n stop) (one_method c number m k x y) w) t e);
    reached = no_fault;
  }
