-- Known pairs, by a judgement.
use Rattle.std.proofs.Common.{◌≡◌, ◌∙◌, ℕ, Bool, true, false, ◌||◌, inl, inr, sym, ap}
use Rattle.std.proofs.lemmas.Bool.{cases_eq, ne_eqb}
use Rattle.std.specs.Prelude.{nat_eq}
use Rattle.blocks.specs.Rows.{is_decided}
use Rattle.blocks.specs.Judgements.{IsJudgement, SettledSlotsFit, TruthsStay}

decided_fits : (fits : ℕ → ℕ → Bool) → IsJudgement fits → (a b : ℕ) → is_decided a b ≡ true → fits a b ≡ true
decided_fits fits j a b h = elim (cases_eq a b) [
  | inl e ↦ ap (fits a) (sym e) ∙ j.itself a
  | inr ne ↦ elim (cases_eq b 0) [
    | inl z ↦ ap (fits a) z ∙ j.top a
    | inr nz ↦
        let neither : is_decided a b ≡ false = ap (λ t. t || nat_eq b 0) (ne_eqb a b ne) ∙ ne_eqb b 0 nz in
        let both : true ≡ false = sym h ∙ neither in
        absurd (let x = both in cc)
  ]
]

pub settled_slots_fit : SettledSlotsFit
settled_slots_fit fits j rows row slot told (inl e) = decided_fits fits j _ _ e
settled_slots_fit fits j rows row slot told (inr k) = told _ _ k

pub truths_stay : TruthsStay
truths_stay fits j old new row told said all a b h = elim (said.only a b h) [
  | inl k ↦ told a b k
  | inr either ↦ elim either [
    | inl e ↦ decided_fits fits j a b e
    | inr s ↦ ap (λ n. fits n b) s.first ∙ ap (fits _) s.second ∙ all s.slot s.inside
  ]
]
