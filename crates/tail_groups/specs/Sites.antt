-- The calls of an instance, in text order, and which of them are in tail position: the body is, a block's last
-- expression and a clause's body are where the whole is, and what a binding binds never is.
--
-- In `let x = f(a); match b { Nil -> g(x); Cons(y, t) -> { let z = h(y); k(z, t) } }` as a body, g and k are called in
-- tail position, f and h are not.
use Rattle.std.specs.Prelude.{ℕ, Bool, true, false, not, List, [], ◌∷◌, ◌++◌, map}
use Rattle.fip_language.specs.declared.Place.{Place}
use Rattle.fip_trees.specs.Tree.{Name, Expression, Give, Tuple, Operation, Call, Match, Nested, Block, Last, Let}
use Rattle.fip_trees.specs.Tree.{Clauses}
use Rattle.fip_trees.specs.Tree.{NoClauses, MoreClauses, Instance}
use Rattle.call_groups.specs.Groups.{call}
use Rattle.call_groups.specs.declared.search.Call as C

-- a call: the number of the instance that is called, its name as written, where, and whether in tail position
pub record Site : Type 0 where
  pub callee : ℕ
  pub name : Name
  pub place : Place
  pub is_tail : Bool

abbrev pub site : ℕ → Name → Place → Bool → Site
site g n p t = record { callee = g; name = n; place = p; is_tail = t }

abbrev mutual
  pub sites : Bool → Expression → List Site
  sites t (Give a) = []
  sites t (Tuple p as') = []
  sites t (Operation o p l r) = []
  sites t (Call g n p as') = site g n p t ∷ []
  sites t (Match k u p a q body cs) = block_sites t body ++ clauses_sites t cs
  sites t (Nested b) = block_sites t b

  pub block_sites : Bool → Block → List Site
  block_sites t (Last e) = sites t e
  block_sites t (Let bs e rest) = sites false e ++ block_sites t rest

  pub clauses_sites : Bool → Clauses → List Site
  clauses_sites t NoClauses = []
  clauses_sites t (MoreClauses q body rest) = block_sites t body ++ clauses_sites t rest

abbrev pub instance_sites : Instance → List Site
instance_sites d = block_sites true d.body

-- as a call of the call graph: the caller waits outside tail position
abbrev pub called : Site → C.Call
called s = call s.callee (not s.is_tail)

abbrev pub instance_calls : Instance → List C.Call
instance_calls d = map called (instance_sites d)

-- the call graph of some instances
abbrev pub call_rows : List Instance → List (List C.Call)
call_rows = map instance_calls
