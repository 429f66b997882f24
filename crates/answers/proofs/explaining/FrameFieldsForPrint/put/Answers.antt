use Rattle.std.proofs.Common.{◌≡◌, ◌∙◌, ℕ, Bor, Bool, true, false, List, Option, Some, None, option_map, if◌then◌else◌, refl, sym, ap, subst}
use Rattle.std.specs.Option.{option_copied}
use Rattle.frames.specs.FrameFact.{FrameFact, frame_of}
use Rattle.verify.specs.Coming.{before, frames_view}
use Rattle.printing.specs.Json.{fields_then}
use Rattle.printing.specs.Writing.{Writes}
use Rattle.answers.specs.Details.{is_arriving}
use Rattle.answers.specs.Explanations.{frame_fields_of, declared_fields_of}
use Rattle.answers.proofs.explaining.FrameFieldsForPrint.put.Goals as goal

copied : {A B : Type 0} (f : A → B) (o : Option (Bor A)) → option_map (λ b. f b.now) o ≡ option_map f (option_copied o)
copied f (Some b) = refl
copied f None = refl

declared_first : {A : Type 0} (f : A → FrameFact) (o : Option A) (x : A) (coming : Option FrameFact) → o ≡ Some x → option_map f o ≡ before coming (option_map f o)
declared_first f o x coming e = ap (option_map f) e ∙ ap (λ p. before coming (option_map f p)) (sym e)

abbrev both : List ℕ → Option FrameFact → Option FrameFact → List ℕ
both rest a b = fields_then (frame_fields_of a) (fields_then (declared_fields_of b) rest)

pub returns-then-is_arriving : goal.returns-then-is_arriving
returns-then-is_arriving g c =
    let held = g.W.Write.contents in
    let self = c.args.self.now in
    let rest = g.B.Print.text self.behind in
    let x = frames_view self.frames.now in
    let coming = copied frame_of c.as_ref-coming.result ∙ ap (option_map frame_of) c.as_ref-coming.ensures.value in
    let declared = copied frame_of c.as_ref-declared.result ∙ ap (option_map frame_of) c.as_ref-declared.ensures.value in
    let here : true ≡ is_arriving x.detail = sym c.if-is_arriving.true ∙ c.is_arriving.ensures in
    subst (λ (t : List ℕ). Writes (held c.args.out.now) (held c.put.new.out) t c.put.result)
    (ap (λ a. both rest a (option_map (λ f. frame_of f.now) c.as_ref-declared.result)) coming ∙ ap (both rest x.coming) declared
    ∙ ap (λ (b : Bool). if b then both rest x.coming x.declared else fields_then (frame_fields_of (before x.coming x.declared)) rest) here) c.put.ensures

pub returns-in-Some : goal.returns-in-Some
returns-in-Some g c =
    let held = g.W.Write.contents in
    let self = c.args.self.now in
    let rest = g.B.Print.text self.behind in
    let x = frames_view self.frames.now in
    let declared = copied frame_of c.as_ref-declared.result ∙ ap (option_map frame_of) c.as_ref-declared.ensures.value in
    let first = declared_first (λ f. frame_of f.now) c.as_ref-declared.result c.in-Some.field-0 x.coming c.in-Some.is in
    let here : false ≡ is_arriving x.detail = sym c.if-is_arriving.false ∙ c.is_arriving.ensures in
    subst (λ (t : List ℕ). Writes (held c.args.out.now) (held c.put-in-Some.new.out) t c.put-in-Some.result)
    (ap (λ o. fields_then (frame_fields_of o) rest) (first ∙ ap (before x.coming) declared)
    ∙ ap (λ (b : Bool). if b then both rest x.coming x.declared else fields_then (frame_fields_of (before x.coming x.declared)) rest) here) c.put-in-Some.ensures

none_first : {A : Type 0} (f : A → FrameFact) (o : Option A) (coming : Option FrameFact) → o ≡ None → coming ≡ before coming (option_map f o)
none_first f o coming e = sym (ap (λ p. before coming (option_map f p)) e)

pub returns-in-None : goal.returns-in-None
returns-in-None g c =
    let held = g.W.Write.contents in
    let self = c.args.self.now in
    let rest = g.B.Print.text self.behind in
    let x = frames_view self.frames.now in
    let coming = copied frame_of c.as_ref-coming.result ∙ ap (option_map frame_of) c.as_ref-coming.ensures.value in
    let declared = copied frame_of c.as_ref-declared.result ∙ ap (option_map frame_of) c.as_ref-declared.ensures.value in
    let none = none_first (λ f. frame_of f.now) c.as_ref-declared.result x.coming c.in-None.is in
    let here : false ≡ is_arriving x.detail = sym c.if-is_arriving.false ∙ c.is_arriving.ensures in
    subst (λ (t : List ℕ). Writes (held c.args.out.now) (held c.put-in-None.new.out) t c.put-in-None.result)
    (ap (λ o. fields_then (frame_fields_of o) rest) (coming ∙ none ∙ ap (before x.coming) declared)
    ∙ ap (λ (b : Bool). if b then both rest x.coming x.declared else fields_then (frame_fields_of (before x.coming x.declared)) rest) here) c.put-in-None.ensures
