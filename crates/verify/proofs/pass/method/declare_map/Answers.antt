use Rattle.std.proofs.Common.{◌≡◌, ◌∙◌, Some, Ok, Err, refl, sym, ap, subst}
use Rattle.std.specs.Option.{option_map}
use Rattle.rules.specs.Bodies.{method_view}
use Rattle.verify.specs.Verdict.{entries_read}
use Rattle.verify.specs.declared.stack_maps.MapRefusal.TheVariants.{Unreadable}
use Rattle.verify.specs.private.pass.Maps.{DeclaresMap}
use Rattle.verify.proofs.MapReading.{unreadable_map, readable_map, fault_told}
use Rattle.verify.proofs.pass.method.declare_map.Goals as goal

pub returns-in-Err-clause-told : goal.returns-in-Err-clause-told
returns-in-Err-clause-told g c =
    let m = method_view c.args.body.now.method.now in
    let here : m.stack_map ≡ Some c.in-Some.bytes.now = sym c.stack_map.ensures ∙ ap (option_map (λ b. b.now)) c.in-Some.is in
    let told = c.in_ok-unreadable-in-Err.ensures.told in
    let read = unreadable_map m c.in-Some.bytes.now here c.in-Err.fault (fault_told c.in-Err.fault _ told.0 c.in-Err.ensures.fault) in
    let refused : DeclaresMap c.args.frames.now m (entries_read m.stack_map) (Err (Unreadable c.in-Err.fault)) = subst (λ r. DeclaresMap c.args.frames.now m r (Err (Unreadable c.in-Err.fault))) (sym read) (refl, refl) in
    subst (λ why. DeclaresMap c.args.frames.now m (entries_read m.stack_map) (Err why)) (sym told.1) refused

pub returns-clause-told : goal.returns-clause-told
returns-clause-told g c =
    let m = method_view c.args.body.now.method.now in
    let here : m.stack_map ≡ Some c.in-Some.bytes.now = sym c.stack_map.ensures ∙ ap (option_map (λ b. b.now)) c.in-Some.is in
    let read = ap Ok c.entries.ensures ∙ sym (readable_map m c.in-Some.bytes.now here _ c.in-Ok.ensures.found) in
    subst (λ r. DeclaresMap c.declare_entries-2.new.frames m r c.in_ok-declared.declared) read c.in_ok-declared.ensures.declared
