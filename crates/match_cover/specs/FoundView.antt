-- The matches, lets and variables that the code finds.
use Rattle.std.specs.Prelude.{ℕ, List, map}
use Rattle.std.specs.Borrow.{Bor}
use Rattle.fip_trees.specs.declared.program.Binder.{Binder}
use Rattle.match_cover.specs.declared.matches.Found.{Found}
use Rattle.match_cover.specs.PatternView.{clause_patterns}
use Rattle.match_cover.specs.Matches.{Match}

abbrev pub found_match : Found → Match
found_match f = record { place = f.place; ty = f.ty; clauses = clause_patterns f.first.now f.others.now }

abbrev pub found_matches : List Found → List Match
found_matches fs = map found_match fs

abbrev pub found_offset : Found → ℕ
found_offset f = f.place.at

abbrev pub found_lets : List (Bor (List Binder)) → List (List Binder)
found_lets bs = map (λ b. b.now) bs

abbrev pub found_binders : List (Bor Binder) → List Binder
found_binders bs = map (λ b. b.now) bs
