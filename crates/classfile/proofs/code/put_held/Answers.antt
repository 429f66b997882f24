use Rattle.std.proofs.Common.{◌≡◌, [], ◌∷◌, sym, subst, ℕ, List, length, ◌-◌, ◌≤◌, ◌<◌, ◌^◌, Result, Ok, Err}
use Rattle.std.specs.Prelude.{MatchResult}
use Rattle.layout.specs.declared.fault.WriteFault.TheVariants.{DoesNotFit}
use Rattle.std.proofs.lemmas.Result.{err_from_is_err_and}
use Rattle.layout.specs.declared.fault.WriteFault.{WriteFault}
use Rattle.layout.specs.Pieces.{Piece, Written, Goes, plain, lengthened, writes}
use Rattle.layout.specs.Faults.{UnlessWriteMemory, UnlessWriteMemory-map}
use Rattle.layout.specs.PieceLaws.{Begun, Ended, lengthened_ok, lengthened_over, lengthened_err, lengthened_none}
use Rattle.layout.specs.AttributeLaws.{still}
use Rattle.classfile.proofs.code.put_held.Goals as goal

pub end-requires : goal.end-requires
end-requires c = still (plain c.args.bytes.now ∷ []) c.args.out.now c.begin.new.self c.put_bytes.new.self c.in_ok-mark.mark c.in_ok-mark.ensures c.in_ok-put_bytes.ensures

finish : (p : List Piece) (w a b c : Written) (mark : ℕ) (r : Result (Unit {0}) WriteFault) → Begun w a mark → writes p a ≡ Ok b
    → MatchResult r (λ _. Ended mark b c) (λ e. (e ≡ DoesNotFit) × (256 ^ 4 ≤ length b.bytes - mark - 4)) → Goes (lengthened p) w c r
finish p w a b c mark (Ok x) begun body m = lengthened_ok p w a b c mark begun body m
finish p w a b c mark (Err e) begun body m = subst (λ (d : WriteFault). UnlessWriteMemory d (writes (lengthened p) w ≡ Err d)) (sym m.0) (lengthened_over p w a b mark begun body m.1)

pub returns : goal.returns
returns c = finish (plain c.args.bytes.now ∷ []) c.args.out.now c.begin.new.self c.put_bytes.new.self c.end.new.self c.in_ok-mark.mark c.end.result c.in_ok-mark.ensures c.in_ok-put_bytes.ensures c.end.ensures

none : (p : List Piece) (w : Written) (e : WriteFault) → (e ≡ DoesNotFit) × (w.room < 4) → writes (lengthened p) w ≡ Err e
none p w e k = subst (λ (d : WriteFault). writes (lengthened p) w ≡ Err d) (sym k.0) (lengthened_none p w k.1)

pub returns-in_err-mark : goal.returns-in_err-mark
returns-in_err-mark c =
    let p = err_from_is_err_and c.from_residual.result c.from_residual.ensures.1 in
    rw (p.1, p.2) (UnlessWriteMemory-map c.in_err-mark.field-0.0 (none (plain c.args.bytes.now ∷ []) c.args.out.now c.in_err-mark.field-0.0) c.in_err-mark.ensures)

fails : (p : List Piece) (w a : Written) (mark : ℕ) (e : WriteFault) → Begun w a mark → writes p a ≡ Err e → writes (lengthened p) w ≡ Err e
fails p w a mark e begun body = let r = lengthened_err p w a mark e begun body in subst (λ (d : WriteFault). writes (lengthened p) w ≡ Err d) (sym r.0) r.1

pub returns-in_err-put_bytes : goal.returns-in_err-put_bytes
returns-in_err-put_bytes c =
    let p = err_from_is_err_and c.from_residual-in_err-put_bytes.result c.from_residual-in_err-put_bytes.ensures.1 in
    rw (p.1, p.2) (UnlessWriteMemory-map c.in_err-put_bytes.field-0.0 (fails (plain c.args.bytes.now ∷ []) c.args.out.now c.begin.new.self c.in_ok-mark.mark c.in_err-put_bytes.field-0.0 c.in_ok-mark.ensures) c.in_err-put_bytes.ensures)
