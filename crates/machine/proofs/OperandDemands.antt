-- The demands of operands, in a list.
use Rattle.std.proofs.Common.{◌≡◌, ℕ, zero, suc, ◌-◌, ◌≤◌, List, [], ◌∷◌, ◌++◌, length, get_or, take, drop, map, refl, sym, ◌∙◌, ap}
use Rattle.std.proofs.lemmas.List.{append_assoc, map-append}
use Rattle.names.specs.declared.descriptor.FieldType.{FieldType}
use Rattle.names.specs.Descriptors.{FieldDescriptor}
use Rattle.names.specs.Types.{type_of}
use Rattle.insn.specs.declared.kinds.Kind.TheVariants as kinds
use Rattle.machine.specs.declared.effect.Demand.{Demand as RawDemand}
use Rattle.machine.specs.Effects.{Demand, of_kind, demand_of, arguments_on, sizes}
use Rattle.machine.specs.private.EffectViews.{demand_view, demands_view}
use Rattle.machine.proofs.Moves.{first_and_others}

-- arguments stand on whatever is beneath them
pub on_others : (ts : List FieldDescriptor) (others : List Demand) → arguments_on ts others ≡ arguments_on ts [] ++ others
on_others [] others = refl
on_others (t ∷ ts) others =
    on_others ts (demand_of t ∷ others)
    ∙ sym (append_assoc (arguments_on ts []) (demand_of t ∷ []) others)
    ∙ ap (λ z. z ++ others) (sym (on_others ts (demand_of t ∷ [])))

-- one more size
pub one_more : (n : ℕ) → sizes n ++ of_kind kinds.Int ∷ [] ≡ sizes (suc n)
one_more zero = refl
one_more (suc n) = ap (λ z. of_kind kinds.Int ∷ z) (one_more n)

module _ (ts : List FieldType) (some : 1 ≤ length ts) (d : FieldType) where
  whole : arguments_on (map type_of ts) [] ≡ arguments_on (map type_of (take (length ts - 1) (drop 1 ts))) (demand_of (type_of (get_or ts 0 d)) ∷ [])
  whole = ap (λ z. arguments_on (map type_of z) []) (first_and_others ts d some)

  -- the demand of the first argument, pushed after those of the others
  pub pushed_first : (old mid new : List RawDemand) (n : RawDemand)
      → demands_view mid ≡ demands_view old ++ arguments_on (map type_of (take (length ts - 1) (drop 1 ts))) []
      → demand_view n ≡ demand_of (type_of (get_or ts 0 d)) → new ≡ mid ++ n ∷ []
      → demands_view new ≡ demands_view old ++ arguments_on (map type_of ts) []
  pushed_first old mid new n e is pushed =
      let others = map type_of (take (length ts - 1) (drop 1 ts)) in
      ap demands_view pushed ∙ map-append demand_view mid (n ∷ []) ∙ ap (λ z. z ++ demand_view n ∷ []) e
      ∙ append_assoc (demands_view old) (arguments_on others []) (demand_view n ∷ [])
      ∙ ap (λ z. demands_view old ++ (arguments_on others [] ++ z ∷ [])) is
      ∙ ap (λ z. demands_view old ++ z) (sym (on_others others (demand_of (type_of (get_or ts 0 d)) ∷ [])) ∙ sym whole)
