-- The text of a refusal: the rule, then its place, then the size of the cells that it speaks of, then what it names,
-- each only where it has one; then the line's end. For example "E57 at 3:25 size 2" and "E20 at 1:5: name".
use Rattle.std.specs.Prelude.{ℕ, zero, suc, List, [], ◌∷◌, ◌++◌, Option, None, Some, codes}
use Rattle.std.specs.Fmt.{decimal}
use Rattle.fip_language.specs.declared.Place.{Place}
use Rattle.fip_language.specs.RuleText.{rule_text}
use Rattle.fip_base.specs.declared.refusal.Refusal.{Refusal}

abbrev pub place_text : Option Place → List ℕ
place_text None = []
place_text (Some p) = codes " at " ++ (decimal p.line ++ (codes ":" ++ decimal p.col))

abbrev pub size_text : ℕ → List ℕ
size_text zero = []
size_text (suc k) = codes " size " ++ decimal (suc k)

abbrev pub detail_text : List ℕ → List ℕ
detail_text [] = []
detail_text (b ∷ bs) = codes ": " ++ (b ∷ bs)

abbrev pub refusal_text : Refusal → List ℕ
refusal_text r = rule_text r.rule ++ (place_text r.place ++ (size_text r.size ++ (detail_text r.detail ++ codes "\n")))
