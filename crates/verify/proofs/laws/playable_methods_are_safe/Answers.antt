use Rattle.verify.proofs.safety.PlayableMethods.{all_are_in_play, playable_is_safe}
use Rattle.verify.proofs.laws.playable_methods_are_safe.Goals as goal

pub returns-clause-in_play : goal.returns-clause-in_play
returns-clause-in_play c = all_are_in_play

pub returns-clause-safe : goal.returns-clause-safe
returns-clause-safe c = playable_is_safe
