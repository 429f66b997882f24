use Rattle.verify.proofs.FilesInPlay.{broken_at, refused_at}
use Rattle.verify.proofs.classes_in_play.stopped.Goals as goal

pub returns-in-Broken : goal.returns-in-Broken
returns-in-Broken c = λ cs hierarchy p. broken_at cs _ _ _ c.in-Broken.is hierarchy p

pub returns-in-Refused : goal.returns-in-Refused
returns-in-Refused c = λ cs hierarchy p. refused_at cs _ _ _ _ c.in-Refused.is hierarchy p
