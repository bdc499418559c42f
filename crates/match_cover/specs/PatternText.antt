-- The text of a pattern: that of a value, with _ for what is not known. Cons(_, Nil) is printed just so.
use Rattle.std.specs.Prelude.{ℕ, List, [], ◌∷◌, ◌++◌}
use Rattle.std.specs.Fmt.{signed_decimal}
use Rattle.fip_language.specs.Table.{Table, constructors}
use Rattle.fip_language.specs.PrintedText.{shape_at}
use Rattle.match_knowledge.specs.declared.heads.Head.{Head}
use Rattle.match_knowledge.specs.declared.heads.Head.TheVariants.{Number, Tag}
use Rattle.match_knowledge.specs.Patterns.{Pattern, Any, Test, Patterns, NoPatterns, MorePatterns}

-- an int, or the name of a constructor
abbrev pub head_text : Table → ℕ → Head → List ℕ
head_text tb t (Number i) = signed_decimal i
head_text tb t (Tag c) = (shape_at (constructors tb t) c).name

-- 95 is _, 40 is (, 41 is ), 44 a comma, 32 a space
abbrev mutual
  pub pattern_text : Table → Pattern → List ℕ
  pattern_text tb Any = 95 ∷ []
  pattern_text tb (Test t h ps) = head_text tb t h ++ parts_text tb ps

  pub parts_text : Table → Patterns → List ℕ
  parts_text tb NoPatterns = []
  parts_text tb (MorePatterns p ps) = 40 ∷ pattern_text tb p ++ more_text tb ps

  -- the parts after a part
  pub more_text : Table → Patterns → List ℕ
  more_text tb NoPatterns = 41 ∷ []
  more_text tb (MorePatterns p ps) = 44 ∷ 32 ∷ pattern_text tb p ++ more_text tb ps
