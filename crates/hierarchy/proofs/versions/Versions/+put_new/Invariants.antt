use Rattle.hierarchy.proofs.versions.Versions.+put_new.Given as goal

abbrev pub decreases-put_new : goal.decreases-put_new
decreases-put_new l = l.index
