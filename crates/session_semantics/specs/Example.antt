-- A session of the examples: the program of lists with 6 words. Its lines are
--   a = rev(Cons(1, Nil), Nil)
--   ?a
--   ?b
--   b = rev(a)
--   -a
--   ?a
-- and its replies `ok`, `Cons(1, Nil)`, `no name b`, `wrong number`, `ok`, `no name a`.
use Rattle.std.specs.Prelude.{ℕ, pos, List, [], ◌∷◌, ◌++◌, Some, None, codes}
use Rattle.std.specs.Fmt.{signed_decimal}
use Rattle.command_outcome.specs.fip_base.declared.plain.Stack.{Stack}
use Rattle.instance_semantics.specs.fip_trees.declared.groups.Member.{Member}
use Rattle.instance_semantics.specs.Example.{lists}
use Rattle.session_semantics.specs.Talk.{Setting}

abbrev pub needs_words : ℕ → Stack
needs_words n = record { frames = 0; words = n }

-- rev is fip and holds no frame beside its own, inc is fbip, and number is fip
abbrev pub members : List Member
members = record { group = 0; registers = 7; stack = Some (needs_words 9) }
    ∷ record { group = 1; registers = 10; stack = None }
    ∷ record { group = 2; registers = 5; stack = Some (needs_words 7) } ∷ []

abbrev pub setting : Setting
setting = record { program = lists; members = members; words = 6; calls = 1000; frames = 10 }

abbrev pub spoken : List ℕ
spoken = codes "a = rev(Cons(1, Nil), Nil)\n?a\n?b\nb = rev(a)\n-a\n?a"

-- Cons(1, Nil)
abbrev pub the_list : List ℕ
the_list = codes "Cons(" ++ (signed_decimal (pos 1) ++ codes ", Nil)\n")

abbrev pub replied : List ℕ
replied = codes "ok\n" ++ (the_list ++ codes "no name b\nwrong number\nok\nno name a\n")
