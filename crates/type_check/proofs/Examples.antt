-- The rules on small bodies, computed. Type 1 is bool, of data type 1; type 2 is list[int], of data type 2 with Nil and Cons.
use Rattle.std.proofs.Common.{◌≡◌, ◌+◌, ℕ, refl, List, [], ◌∷◌, Option, Some, None, true}
use Rattle.std.specs.Prelude.{pos}
use Rattle.fip_language.specs.declared.Place.{Place}
use Rattle.fip_language.specs.declared.FunKind.TheVariants.{Fun}
use Rattle.fip_language.specs.declared.Operator.TheVariants.{Add}
use Rattle.fip_language.specs.declared.rule.Rule.TheVariants.{E30, E31, E32, E33, E34}
use Rattle.fip_trees.specs.declared.program.Binder.{Binder}
use Rattle.fip_trees.specs.Tree.{Argument, Variable, Literal, Constructor, NoArguments, MoreArguments, Give, Tuple, Operation, Block, Last, Let, Instance}
use Rattle.type_check.specs.World.{World}
use Rattle.type_check.specs.Faults.{broken, instance_faults}

abbrev lists : World
lists = record {
  types = (record { name = 70 ∷ []; fields = [] } ∷ record { name = 84 ∷ []; fields = [] } ∷ []) ∷ (record { name = 78 ∷ []; fields = [] } ∷ record { name = 67 ∷ []; fields = 0 ∷ 2 ∷ [] } ∷ []) ∷ [];
  declaring = 1 ∷ 2 ∷ [];
  arities = 0 ∷ 1 ∷ [];
  counts = (0 ∷ 0 ∷ []) ∷ (0 ∷ 2 ∷ []) ∷ [];
  heads = [];
}

abbrev at : ℕ → Place
at n = record { line = 1; col = n; at = n }

abbrev binder : ℕ → Option ℕ → Binder
binder x t = record { number = x; name = 120 ∷ []; place = at (20 + x); annotation = t; ty = 0 }

abbrev body : List ℕ → Block → Instance
body ts d = record { name = []; place = at 1; root = true; kind = Fun; params = []; binders = []; credits = []; results = ts; results_place = None; signature_tuples = []; variables = 9; body = d }

abbrev nil : Argument
nil = Constructor 0 2 0 (78 ∷ []) (at 33) NoArguments

abbrev yes : ℕ → Argument
yes n = Constructor 0 1 1 (84 ∷ []) (at n) NoArguments

abbrev unknown : ℕ → Argument
unknown n = Variable None (122 ∷ []) (at n)

-- `let x = Nil; 0` breaks E32 at Nil
nothing_expected : instance_faults lists 4 (body (0 ∷ []) (Let (binder 0 None ∷ []) (Give nil) (Last (Give (Literal (pos 0) (at 40)))))) ≡ broken E32 (at 33) 4 (78 ∷ []) ∷ []
nothing_expected = refl

-- `let x: list[int] = Nil; x` breaks none
annotated : instance_faults lists 4 (body (2 ∷ []) (Let (binder 0 (Some 2) ∷ []) (Give nil) (Last (Give (Variable (Some 0) [] (at 40)))))) ≡ []
annotated = refl

-- `let (x: int, y) = (True, True); y` breaks E30 at x alone
half_annotated : instance_faults lists 4 (body (1 ∷ []) (Let (binder 0 (Some 0) ∷ binder 1 None ∷ []) (Tuple (at 30) (MoreArguments (yes 31) (MoreArguments (yes 32) NoArguments))) (Last (Give (Variable (Some 1) [] (at 40)))))) ≡ broken E30 (at 20) 4 [] ∷ []
half_annotated = refl

-- in Cons(True, z) over list[int] with no z, E30 at True and E31 at z
two_broken : instance_faults lists 4 (body (2 ∷ []) (Last (Give (Constructor 0 2 1 (67 ∷ []) (at 30) (MoreArguments (yes 31) (MoreArguments (unknown 32) NoArguments)))))) ≡ broken E30 (at 31) 4 [] ∷ broken E31 (at 32) 4 (122 ∷ []) ∷ []
two_broken = refl

-- what has no type because of another violation breaks no E30: `let x = z; x + 1`
no_second : instance_faults lists 4 (body (0 ∷ []) (Let (binder 0 None ∷ []) (Give (unknown 30)) (Last (Operation Add (at 41) (Variable (Some 0) [] (at 40)) (Literal (pos 1) (at 42)))))) ≡ broken E31 (at 30) 4 (122 ∷ []) ∷ []
no_second = refl

-- Nil where two results are expected: E34 for the number, and no E32, since types are expected; Nil(0) there breaks E33
-- too
two_wanted : instance_faults lists 4 (body (2 ∷ 2 ∷ []) (Last (Give nil))) ≡ broken E34 (at 33) 4 [] ∷ []
two_wanted = refl

too_many_parts : instance_faults lists 4 (body (2 ∷ 2 ∷ []) (Last (Give (Constructor 0 2 0 (78 ∷ []) (at 33) (MoreArguments (Literal (pos 0) (at 34)) NoArguments))))) ≡ broken E34 (at 33) 4 [] ∷ broken E33 (at 33) 4 (78 ∷ []) ∷ []
too_many_parts = refl
