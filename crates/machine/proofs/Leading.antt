-- Walks, one choice after the other.
use Rattle.std.proofs.Common.{◌≡◌, ℕ, suc, ◌+◌, ◌<◌, ◌≤◌, List, [], ◌∷◌, length, map, drop, get_or, sym, ap, ◌∙◌, subst, arith}
use Rattle.std.proofs.lemmas.List.{drop_more, drop_all}
use Rattle.hierarchy.specs.World.{World}
use Rattle.classfile.specs.Methods.{Method}
use Rattle.insn.specs.Meanings.{Act}
use Rattle.machine.specs.declared.choosing.Choice.{Choice as RawChoice}
use Rattle.machine.specs.Demands.{State, IsNoFault}
use Rattle.machine.specs.Steps.{Choice, Outcome, goes_on, ended, Happens}
use Rattle.machine.specs.Views.{choice_view}
use Rattle.machine.specs.Walks.{Stop, more, returned, fault, no_choice, Walks, stops, faulty, refused, ends, goes}

module _ (world : World) (m : Method Act) (s : State) (cs : List Choice) where
  -- so many choices lead to a state, in which these are left: what is walked from there is walked from the first state
  -- on
  abbrev pub Leads : ℕ → State → List Choice → Type 0
  Leads n t left = (k : ℕ) (stop : Stop) → Walks world m t left k stop → Walks world m s cs (n + k) stop

  pub leads_on : (n : ℕ) (t u : State) (c : Choice) (left : List Choice) → Leads n t (c ∷ left) → Happens world m t c (goes_on u) → Leads (n + 1) u left
  leads_on n t u c left l h = λ k stop w.
      let further : n + suc k ≡ (n + 1) + k = omega arith in
      subst (λ z. Walks world m s cs z stop) further (l (suc k) stop (goes h w))

  pub leads_here : (n : ℕ) (t : State) (left : List Choice) (stop : Stop) → Leads n t left → Walks world m t left 0 stop → Walks world m s cs n stop
  leads_here n t left stop l w =
      let same : n + 0 ≡ n = omega arith in
      subst (λ z. Walks world m s cs z stop) same (l 0 stop w)

  -- at the choice of a place
  module _ (choices : List RawChoice) (i : ℕ) (c : RawChoice) (within : i < length choices) (is : c ≡ get_or choices i c) (t : State)
      (lead : Leads i t (map choice_view (drop i choices))) where
    abbrev left : List Choice
    left = map choice_view (drop (i + 1) choices)

    at_choice : Leads i t (choice_view c ∷ left)
    at_choice = subst (Leads i t) (ap (map choice_view) (drop_more choices i c within) ∙ ap (λ x. choice_view x ∷ left) (sym is)) lead

    pub on : (u : State) → Happens world m t (choice_view c) (goes_on u) → Leads (i + 1) u left
    on u h = leads_on i t u (choice_view c) left at_choice h

    pub at_end : Happens world m t (choice_view c) ended → Walks world m s cs (i + 1) returned
    at_end h = at_choice 1 returned (ends h)

    pub at_fault : (IsNoFault world m t → ⊥) → Walks world m s cs i fault
    at_fault f = leads_here i t (choice_view c ∷ left) fault at_choice (faulty f)

    pub at_no_choice : IsNoFault world m t → ((o : Outcome) → Happens world m t (choice_view c) o → ⊥) → Walks world m s cs i no_choice
    at_no_choice f n = leads_here i t (choice_view c ∷ left) no_choice at_choice (refused f n)

  pub used_up : (choices : List RawChoice) (i : ℕ) (t : State) → length choices ≤ i → Leads i t (map choice_view (drop i choices)) → Walks world m s cs i (more t)
  used_up choices i t past lead = leads_here i t [] (more t) (subst (Leads i t) (ap (map choice_view) (drop_all i choices past)) lead) stops
