use Rattle.std.proofs.Common.{◌≡◌, ◌∙◌, ◌∷◌, [], ◌++◌, ℕ, List, Some, None, cond, option_map, position, map, length, sym, ap, arith}
use Rattle.std.specs.Borrow.{Bor}
use Rattle.std.specs.Str.{bytes_eq}
use Rattle.std.proofs.lemmas.List.{map-append, length-map}
use Rattle.std.proofs.lemmas.Map.Text.{btree_map_updates_str}
use Rattle.type_numbers.proofs.Growing.{name_pushed, name_is_last}
use Rattle.type_numbers.proofs.absent_names.AbsentNames.place.Goals as goal

pub invariant_of-self-2 : goal.invariant_of-self-2
invariant_of-self-2 c = λ other.
    let names = c.self.inside.names.items in
    let now = λ (k : Bor (List ℕ)). k.now in
    let name = c.args.name.now in
    let none : position (bytes_eq name) (map now names) ≡ None = sym (c.self.invariant name) ∙ sym c.get.ensures.value ∙ ap (option_map (λ v. v.now)) c.in_default.is in
    let count : c.len-place.result ≡ length (map now names) = omega (arith, c.len-place.ensures, c.self.inside.names.ok.0, length-map names now) in
    let items : map now c.push.new.self.items ≡ map now names ++ name ∷ [] =
    ap (map now) (c.in_ok-push.ensures.items ∙ ap (λ (ks : List (Bor (List ℕ))). ks ++ c.args.name ∷ []) c.reserve.ensures.items) ∙ map-append now names (c.args.name ∷ []) in
    btree_map_updates_str name c.self.inside.places c.insert.new.self _ c.in_ok-insert.ensures.updates other
    ∙ (λ i. cond (bytes_eq name other) (Some (count i)) (c.self.invariant other i))
    ∙ sym (name_pushed (map now names) name none other) ∙ ap (position (bytes_eq other)) (sym items)

pub returns-clause-at : goal.returns-clause-at
returns-clause-at c =
    let names = c.self.inside.names.items in
    let now = λ (k : Bor (List ℕ)). k.now in
    let name = c.args.name.now in
    let none : position (bytes_eq name) (map now names) ≡ None = sym (c.self.invariant name) ∙ sym c.get.ensures.value ∙ ap (option_map (λ v. v.now)) c.in_default.is in
    let count : c.len-place.result ≡ length (map now names) = omega (arith, c.len-place.ensures, c.self.inside.names.ok.0, length-map names now) in
    let items : map now c.push.new.self.items ≡ map now names ++ name ∷ [] =
    ap (map now) (c.in_ok-push.ensures.items ∙ ap (λ (ks : List (Bor (List ℕ))). ks ++ c.args.name ∷ []) c.reserve.ensures.items) ∙ map-append now names (c.args.name ∷ []) in
    ap (position (bytes_eq name)) items ∙ name_is_last (map now names) name none ∙ ap (λ n. Some n) (sym count)
