use Rattle.std.proofs.Common.{rules, ◌≡◌, ◌<◌, ◌≤◌, ◌∙◌, ◌⊎◌, sym, inl, inr, length, get_or, Ok, Err}
use Rattle.derivation_walk.proofs.Searching.{found_at, found_none}
use Rattle.derivation_walk.proofs.uses.has_from.Goals.{in-Ok, in-Err}
use Rattle.derivation_walk.proofs.uses.has_from.Goals as goal

pub returns-in-Some : goal.returns-in-Some
returns-in-Some c =
    let xs = c.args.places.now in
    let n = c.match-binary_search.next in
    let r = c.binary_search.result in
    let w : (r ≡ Ok n) ⊎ (r ≡ Err n) = elim c.match-binary_search.branch [ in-Ok w ↦ inl (search rules) | in-Err w ↦ inr (search rules) ] in
    let l : n < length xs = search rules in
    let p : c.in-Some.place.now ≡ get_or xs n 0 = search rules in
    found_at xs c.args.first c.args.end n c.in-Some.place.now r c.binary_search.ensures.position c.requires w l p

pub returns-in-None : goal.returns-in-None
returns-in-None c =
    let xs = c.args.places.now in
    let n = c.match-binary_search.next in
    let r = c.binary_search.result in
    let w : (r ≡ Ok n) ⊎ (r ≡ Err n) = elim c.match-binary_search.branch [ in-Ok w ↦ inl (search rules) | in-Err w ↦ inr (search rules) ] in
    let l : length xs ≤ n = search rules in
    found_none xs c.args.first c.args.end n r c.binary_search.ensures.position c.requires w l
