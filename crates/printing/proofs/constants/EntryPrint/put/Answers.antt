use Rattle.std.proofs.Common.{◌≡◌, ◌∙◌, ◌++◌, codes, ap, sym, subst}
use Rattle.pool.specs.Views.{view}
use Rattle.pool.specs.declared.constant.Constant.{Constant}
use Rattle.printing.specs.Writing.{Writes}
use Rattle.printing.specs.InstructionLines.{number_text, index_text}
use Rattle.printing.specs.Constants.{entry_text}
use Rattle.printing.proofs.constants.EntryPrint.put.Goals as goal

pub returns-in-Fieldref : goal.returns-in-Fieldref
returns-in-Fieldref g c =
    let held = g.W.Write.contents in
    let pool = c.args.self.now.pool.now in
    subst (λ (k : Constant). Writes (held c.args.out.now) (held c.put_reference.new.out) (entry_text c.args.self.now.within pool (view k)) c.put_reference.result) (sym c.in-Fieldref.is) c.put_reference.ensures

pub returns-in-Methodref : goal.returns-in-Methodref
returns-in-Methodref g c =
    let held = g.W.Write.contents in
    let pool = c.args.self.now.pool.now in
    subst (λ (k : Constant). Writes (held c.args.out.now) (held c.put_reference-in-Methodref.new.out) (entry_text c.args.self.now.within pool (view k)) c.put_reference-in-Methodref.result) (sym c.in-Methodref.is) c.put_reference-in-Methodref.ensures

pub returns-in-InterfaceMethodref : goal.returns-in-InterfaceMethodref
returns-in-InterfaceMethodref g c =
    let held = g.W.Write.contents in
    let pool = c.args.self.now.pool.now in
    subst (λ (k : Constant). Writes (held c.args.out.now) (held c.put_reference-in-InterfaceMethodref.new.out) (entry_text c.args.self.now.within pool (view k)) c.put_reference-in-InterfaceMethodref.result) (sym c.in-InterfaceMethodref.is) c.put_reference-in-InterfaceMethodref.ensures

pub returns-in-NameAndType : goal.returns-in-NameAndType
returns-in-NameAndType g c =
    let held = g.W.Write.contents in
    let pool = c.args.self.now.pool.now in
    subst (λ (k : Constant). Writes (held c.args.out.now) (held c.put-in-NameAndType.new.out) (entry_text c.args.self.now.within pool (view k)) c.put-in-NameAndType.result) (sym c.in-NameAndType.is) c.put-in-NameAndType.ensures

pub returns-in-MethodType : goal.returns-in-MethodType
returns-in-MethodType g c =
    let held = g.W.Write.contents in
    let pool = c.args.self.now.pool.now in
    subst (λ (k : Constant). Writes (held c.args.out.now) (held c.put_text-in-MethodType.new.out) (entry_text c.args.self.now.within pool (view k)) c.put_text-in-MethodType.result) (sym c.in-MethodType.is) c.put_text-in-MethodType.ensures

pub returns-in-Dynamic : goal.returns-in-Dynamic
returns-in-Dynamic g c =
    let held = g.W.Write.contents in
    let pool = c.args.self.now.pool.now in
    subst (λ (k : Constant). Writes (held c.args.out.now) (held c.put_dynamic.new.out) (entry_text c.args.self.now.within pool (view k)) c.put_dynamic.result) (sym c.in-Dynamic.is) c.put_dynamic.ensures

pub returns-in-InvokeDynamic : goal.returns-in-InvokeDynamic
returns-in-InvokeDynamic g c =
    let held = g.W.Write.contents in
    let pool = c.args.self.now.pool.now in
    subst (λ (k : Constant). Writes (held c.args.out.now) (held c.put_dynamic-in-InvokeDynamic.new.out) (entry_text c.args.self.now.within pool (view k)) c.put_dynamic-in-InvokeDynamic.result) (sym c.in-InvokeDynamic.is) c.put_dynamic-in-InvokeDynamic.ensures

pub returns-in-Unusable : goal.returns-in-Unusable
returns-in-Unusable g c =
    let held = g.W.Write.contents in
    let pool = c.args.self.now.pool.now in
    subst (λ (k : Constant). Writes (held c.args.out.now) (held c.put-in-Unusable.new.out) (entry_text c.args.self.now.within pool (view k)) c.put-in-Unusable.result) (sym c.in-Unusable.is) c.put-in-Unusable.ensures

pub returns-in-MethodHandle : goal.returns-in-MethodHandle
returns-in-MethodHandle g c =
    let held = g.W.Write.contents in
    let pool = c.args.self.now.pool.now in
    let reference = c.in-MethodHandle.reference in
    let text : codes "MethodHandle" ++ (number_text c.number.result ++ index_text reference) ≡ entry_text c.args.self.now.within pool (view c.args.self.now.constant) =
    ap (λ n. codes "MethodHandle" ++ (number_text n ++ index_text reference)) c.number.ensures ∙ ap (λ k. entry_text c.args.self.now.within pool (view k)) (sym c.in-MethodHandle.is) in
    subst (λ t. Writes (held c.args.out.now) (held c.put-in-MethodHandle.new.out) t c.put-in-MethodHandle.result) text c.put-in-MethodHandle.ensures
