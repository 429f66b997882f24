-- A command has one answer.
use Rattle.std.proofs.Common.{◌≡◌, ℕ, List, [], ◌∷◌, map, take, drop, inl, inr, sym, ap, subst, ◌∙◌}
use Rattle.classfile.specs.Values.{Class}
use Rattle.answers.specs.Answers.{FileSays, CheckTells, ShowTells}
use Rattle.verify.specs.Files.{Read}
use Rattle.answers.specs.Files.{judged_file, known_file, reads_of, refusal_status}
use Rattle.answers.specs.Texts.{refusal_line}
use Rattle.answers.specs.Laws.{OneAnswer}
use Rattle.answers.specs.declared.command.Command.TheVariants.{Check, Show, Verify, Explain, Play, VerifyEach}
use Rattle.answers.specs.declared.command.Form.{Form}
use Rattle.answers.specs.declared.command.Form.TheVariants.{Plain}
use Rattle.answers.specs.declared.manner.Manner.TheVariants.{Told, Explained}
use Rattle.answers.proofs.OneFile.{Laws, one_formed, not_refused, one_refusal}
use Rattle.answers.proofs.OneVerify.{one_verify}
use Rattle.answers.proofs.OnePlay.{one_play}
use Rattle.answers.proofs.OneEach.{one_each}

one_said : Laws → (form : Form) (Tells : Class → List ℕ → ℕ → Type 0) → ((c : Class) (text other : List ℕ) (status next : ℕ) → Tells c text status → Tells c other next → (text ≡ other) × (status ≡ next))
    → (read : Read) (text other : List ℕ) (status next : ℕ)
    → FileSays form Tells read text status → FileSays form Tells read other next → (text ≡ other) × (status ≡ next)
one_said laws form Tells one read text other status next (inl (c, p, t)) (inl (d, q, u)) =
    one c text other status next t (subst (λ x. Tells x other next) (one_formed laws read d c q p) u)
one_said laws form Tells one read text other status next (inl (c, p, t)) (inr (r, q, u, s)) = absurd (not_refused laws read c r p q)
one_said laws form Tells one read text other status next (inr (r, p, t, s)) (inl (c, q, u)) = absurd (not_refused laws read c r q p)
one_said laws form Tells one read text other status next (inr (r, p, t, s)) (inr (q, o, u, v)) =
    let same = one_refusal laws read r q p o in
    (t ∙ ap (refusal_line form) same ∙ sym u, s ∙ ap refusal_status same ∙ sym v)

one_check : (form : Form) (c : Class) (text other : List ℕ) (status next : ℕ) → CheckTells form c text status → CheckTells form c other next → (text ≡ other) × (status ≡ next)
one_check form c text other status next p q = (p.0 ∙ sym q.0, p.1 ∙ sym q.1)

one_show : (c : Class) (text other : List ℕ) (status next : ℕ) → ShowTells c text status → ShowTells c other next → (text ≡ other) × (status ≡ next)
one_show c text other status next p q = (p.0 ∙ sym q.0, p.1 ∙ sym q.1)

pub same_answer : Laws → OneAnswer
same_answer laws command [] text other status next p q = (p.0 ∙ sym q.0, p.1 ∙ sym q.1)
same_answer laws (Check form profile) (file ∷ others) text other status next p q = one_said laws form (CheckTells form) (one_check form) (known_file profile file).read text other status next p q
same_answer laws (Show profile) (file ∷ others) text other status next p q = one_said laws Plain ShowTells one_show (known_file profile file).read text other status next p q
same_answer laws (Verify form profile) (file ∷ known) text other status next p q = one_verify laws (Told form) profile (judged_file profile file) (map (known_file profile) known) text other status next p q
same_answer laws (Explain form profile) (file ∷ known) text other status next p q = one_verify laws (Explained form) profile (judged_file profile file) (map (known_file profile) known) text other status next p q
same_answer laws (Play form profile) (file ∷ others) text other status next p q = one_play laws form profile (reads_of (map (judged_file profile) (file ∷ others))) text other status next p q
same_answer laws (VerifyEach form profile classes) (file ∷ others) text other status next p q =
    one_each laws form profile (reads_of (map (judged_file profile) (take classes (file ∷ others)))) (reads_of (map (known_file profile) (drop classes (file ∷ others)))) text other status next p q
