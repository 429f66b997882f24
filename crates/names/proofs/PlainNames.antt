-- Bytes that are all plain are a name of each form.
use Rattle.std.proofs.Common.{◌≡◌, ℕ, zero, suc, ◌+◌, ◌<◌, ◌≤◌, true, false, not, eqb, ◌&&◌, List, length, get_or, refl, subst, arith, ne_eqb}
use Rattle.names.specs.Forms.{AreNameForms, ArePlainBetween}
use Rattle.names.proofs.Scan.{plain_so}
use Rattle.names.proofs.NameScan.{InName, in_name_first, plain_in_name, in_name_at_the_end}

plain_run : (n : ℕ) (bytes : List ℕ) → n ≤ length bytes → ArePlainBetween bytes 0 n → InName bytes n 0 false
plain_run zero bytes within plain = in_name_first bytes
plain_run (suc n) bytes within plain =
    let there : n + 1 ≡ suc n = omega arith in
    subst (λ e. InName bytes e 0 false) there
    (plain_in_name bytes n 0 false (omega (arith, within)) (plain_so (get_or bytes n 0) (plain n (omega arith) (omega arith)))
    (plain_run n bytes (omega (arith, within)) (λ k from to. plain k from (omega (arith, to)))))

pub plain_to_the_end : (bytes : List ℕ) → 0 < length bytes → ArePlainBetween bytes 0 (length bytes) → AreNameForms bytes (record { class_name = true; unqualified_name = true; method_name = true })
plain_to_the_end bytes some plain =
    let moved : eqb (length bytes) 0 ≡ false = ne_eqb (length bytes) 0 (λ h. omega (arith, h, some)) in
    subst (λ x. AreNameForms bytes (record { class_name = not x; unqualified_name = not x && true; method_name = (not x && true) && true })) moved
    (in_name_at_the_end bytes (length bytes) 0 false refl (plain_run (length bytes) bytes (omega arith) plain))
