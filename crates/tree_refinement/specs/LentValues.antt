-- The values of borrowed parameters, which a run gives back as they were.
--
-- Where the parameters are ^xs and n, those of Cons(1, Nil) and 2 are Cons(1, Nil) alone.
use Rattle.std.specs.Prelude.{List, [], ◌∷◌, if◌then◌else◌}
use Rattle.tree_semantics.specs.fip_language.Values.{Values, End, More}
use Rattle.separation_bounds.specs.fip_base.declared.plain.Param.{Param}

abbrev pub lent_values : List Param → Values → Values
lent_values [] vs = End
lent_values (p ∷ ps) End = End
lent_values (p ∷ ps) (More v vs) = if p.lent then More v (lent_values ps vs) else lent_values ps vs
