-- The texts so far are kept.
use Rattle.std.proofs.Common.{◌≡◌, map, take}
use Rattle.serving.proofs.known.kept_texts.Given as goal

abbrev pub invariant-loop-text : goal.invariant-loop-text
invariant-loop-text l = map (λ t. t.now) l.kept.items ≡ map (λ t. t.now) (take l.text-index l.texts)
