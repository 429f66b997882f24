use Rattle.std.proofs.Common.{◌≡◌, ◌∙◌, ℕ, List, [], Option, Some, None, option_map, refl, sym, ap, subst}
use Rattle.std.specs.Option.{option_map_or}
use Rattle.insn.specs.Instructions.{Instruction}
use Rattle.insn.specs.Decoding.{code_result}
use Rattle.insn.specs.Views.{view}
use Rattle.printing.specs.CodeLines.{named_at}
use Rattle.printing.specs.Constants.{named_line}
use Rattle.printing.specs.Writing.{Writes}
use Rattle.printing.proofs.Steps.{is_list, is_fault}
use Rattle.printing.proofs.code.NamedAtPrint.put.Goals as goal

mapped : {A B C : Type 0} (f : B → C) (g : A → B) (o : Option A) (d : C) → option_map_or (λ a. f (g a)) o d ≡ option_map_or f (option_map g o) d
mapped f g (Some a) d = refl
mapped f g None d = refl

pub returns-in-Some : goal.returns-in-Some
returns-in-Some g c =
    let held = g.W.Write.contents in
    let self = c.args.self.now in
    let fault = is_fault (code_result self.code.now) c.in-Some.field-0 (sym c.code_fault.ensures ∙ c.in-Some.is) in
    subst (λ r. Writes (held c.args.out.now) (held c.put.new.out) (named_at self.pool.now r self.at) c.put.result) (sym fault) c.put.ensures

pub returns-in-None : goal.returns-in-None
returns-in-None g c =
    let held = g.W.Write.contents in
    let self = c.args.self.now in
    let (xs, is) = is_list (code_result self.code.now) (sym c.code_fault.ensures ∙ c.in-None.is) in
    let line : Instruction → List ℕ = named_line self.pool.now in
    let text : option_map_or (λ i. line (view i)) c.find_instruction.result [] ≡ named_at self.pool.now (code_result self.code.now) self.at =
    mapped line view c.find_instruction.result [] ∙ ap (λ o. option_map_or line o []) (c.find_instruction.ensures xs is) ∙ ap (λ r. named_at self.pool.now r self.at) (sym is) in
    subst (λ t. Writes (held c.args.out.now) (held c.put_named.new.out) t c.put_named.result) text c.put_named.ensures
