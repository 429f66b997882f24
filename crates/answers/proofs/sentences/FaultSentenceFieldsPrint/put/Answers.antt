use Rattle.std.proofs.Common.{◌∙◌, ℕ, List, [], ◌∷◌, codes, ap, sym, subst}
use Rattle.rules.specs.declared.reason.Reason.{Reason}
use Rattle.printing.specs.Json.{word, fields_then}
use Rattle.printing.specs.Writing.{Writes}
use Rattle.answers.specs.Sentences.{fault_sentence_fields}
use Rattle.answers.proofs.sentences.FaultSentenceFieldsPrint.put.Goals as goal

pub returns-in-BadStackMap : goal.returns-in-BadStackMap
returns-in-BadStackMap g c =
    let held = g.W.Write.contents in
    let rest = g.B.Print.text c.args.self.now.1 in
    let text : List ℕ → List ℕ = λ (s : List ℕ). fields_then ((codes "fault_sentence", word s) ∷ []) rest in
    subst (λ (t : List ℕ). Writes (held c.args.out.now) (held c.put.new.out) t c.put.result)
    (ap text c.fault_sentence.ensures ∙ ap (λ (why : Reason). fields_then (fault_sentence_fields why) rest) (sym c.in-BadStackMap.is)) c.put.ensures

pub returns-in-BadCode : goal.returns-in-BadCode
returns-in-BadCode g c =
    let held = g.W.Write.contents in
    let rest = g.B.Print.text c.args.self.now.1 in
    let text : List ℕ → List ℕ = λ (s : List ℕ). fields_then ((codes "fault_sentence", word s) ∷ []) rest in
    subst (λ (t : List ℕ). Writes (held c.args.out.now) (held c.put-in-BadCode.new.out) t c.put-in-BadCode.result)
    (ap text c.fault_sentence-in-BadCode.ensures ∙ ap (λ (why : Reason). fields_then (fault_sentence_fields why) rest) (sym c.in-BadCode.is)) c.put-in-BadCode.ensures
