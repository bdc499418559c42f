-- Matches of the examples, by their patterns, and what each misses. Type 2 is ints, with the constructors Nil, 0, and
-- Cons, 1; type 0 is int.
use Rattle.std.specs.Prelude.{ℕ, pos, List, [], ◌∷◌}
use Rattle.source_report.specs.match_knowledge.declared.heads.Head.TheVariants.{Number, Tag}
use Rattle.source_report.specs.match_knowledge.Patterns.{Pattern, Any, Test, NoPatterns, MorePatterns}

abbrev pub nil_pattern : Pattern
nil_pattern = Test 2 (Tag 0) NoPatterns

abbrev pub cons_pattern : Pattern → Pattern → Pattern
cons_pattern p q = Test 2 (Tag 1) (MorePatterns p (MorePatterns q NoPatterns))

-- match xs { Nil -> ..; Cons(_, Cons(_, _)) -> .. } misses Cons(_, Nil)
abbrev pub two_or_none : List Pattern
two_or_none = nil_pattern ∷ cons_pattern Any (cons_pattern Any Any) ∷ []

abbrev pub just_one : Pattern
just_one = cons_pattern Any nil_pattern

abbrev pub literal : ℕ → Pattern
literal n = Test 0 (Number (pos n)) NoPatterns

-- match n { 1 -> ..; 2 -> .. } misses 0: the numbers are tried from 0 upwards
abbrev pub one_or_two : List Pattern
one_or_two = literal 1 ∷ literal 2 ∷ []
