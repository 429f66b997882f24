-- One file more, among those whose classes are gathered, and among those that are judged.
use Rattle.std.proofs.Common.{List, [], ◌∷◌, ◌++◌, refl, subst}
use Rattle.classfile.specs.declared.profile.Profile.{Profile}
use Rattle.hierarchy.specs.Class.{ClassFact}
use Rattle.verify.specs.declared.judgements.Judgement.{Judgement}
use Rattle.verify.specs.Files.{Read}
use Rattle.verify.specs.Each.{AddsFile, AddsFiles, IsJudged, AreJudged}

pub one_more_added : (reads : List Read) (read : Read) (old some new : List ClassFact) → AddsFiles reads old some → AddsFile read some new → AddsFiles (reads ++ read ∷ []) old new
one_more_added [] read old some new e one = (new, subst (λ k. AddsFile read k new) e one, refl)
one_more_added (r ∷ reads) read old some new (next, first, rest) one = (next, first, one_more_added reads read next some new rest one)

pub one_more_judged : (profile : Profile) (classes : List ClassFact) (reads : List Read) (read : Read) (js : List Judgement) (j : Judgement) → AreJudged profile classes reads js → IsJudged profile classes read j → AreJudged profile classes (reads ++ read ∷ []) (js ++ j ∷ [])
one_more_judged profile classes [] read [] j all one = (one, tt)
one_more_judged profile classes [] read (k ∷ js) j all one = absurd all
one_more_judged profile classes (r ∷ reads) read [] j all one = absurd all
one_more_judged profile classes (r ∷ reads) read (k ∷ js) j all one = (all.0, one_more_judged profile classes reads read js j all.1 one)
