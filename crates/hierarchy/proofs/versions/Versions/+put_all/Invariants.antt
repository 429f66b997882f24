use Rattle.hierarchy.proofs.versions.Versions.+put_all.Given as goal

abbrev pub decreases-put_all : goal.decreases-put_all
decreases-put_all l = l.most
