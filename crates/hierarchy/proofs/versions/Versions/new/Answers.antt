use Rattle.std.proofs.Common.{◌++◌, ◌∷◌, [], ◌∙◌, ap}
use Rattle.hierarchy.proofs.Sharing.{zeros}
use Rattle.hierarchy.proofs.versions.Versions.new.Goals as goal

pub returns : goal.returns
returns c = zeros (record { nodes = c.push.new.self }) (c.in_ok-push.ensures.items ∙ ap (λ xs. xs ++ record { value = 0; odd = 0; even = 0 } ∷ []) c.new-nodes.ensures.items)
