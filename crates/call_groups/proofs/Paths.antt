-- Paths of calls.
use Rattle.std.proofs.Common.{◌≡◌, ℕ, zero, suc, ◌≤◌, refl, sym, subst, List, [], ◌∷◌, length, arith}
use Rattle.std.specs.Prelude.{Bool, Some, slice_get}
use Rattle.std.proofs.lemmas.Option.{none-some}
use Rattle.call_groups.specs.CallGraph.{call, calls_of, Calls, Path, Reaches}
use Rattle.call_groups.specs.declared.search.Call.{Call}

append : (rs : List (List Call)) (m n a b c : ℕ) → Path rs m a b → Path rs n b c → Reaches rs a c
append rs zero n a b c p q = (n, subst (λ x. Path rs n x c) (sym p) q)
append rs (suc m) n a b c p q = let r = append rs m n p.0 b c p.2 q in (suc r.0, (p.0, p.1, r.1))

pub joins : (rs : List (List Call)) (a b c : ℕ) → Reaches rs a b → Reaches rs b c → Reaches rs a c
joins rs a b c p q = append rs p.0 q.0 a b c p.1 q.1

pub one_call : (rs : List (List Call)) (a b : ℕ) (k : Bool) → Calls rs a b k → Reaches rs a b
one_call rs a b k e = (1, (b, (k, e), refl))

pub itself : (rs : List (List Call)) (a : ℕ) → Reaches rs a a
itself rs a = (0, refl)

-- what is no function calls none
no_row : (rs : List (List Call)) (f : ℕ) → length rs ≤ f → calls_of rs f ≡ []
no_row [] f h = refl
no_row (r ∷ rs) zero h = absurd (omega arith)
no_row (r ∷ rs) (suc f) h = no_row rs f (omega arith)

pub no_calls : (rs : List (List Call)) (a b : ℕ) (k : Bool) → length rs ≤ a → Calls rs a b k → ⊥
no_calls rs a b k h c = none-some (call b k) (subst (λ r. slice_get r c.0 ≡ Some (call b k)) (no_row rs a h) c.1)

past : (rs : List (List Call)) (n a b : ℕ) → length rs ≤ a → Path rs n a b → a ≡ b
past rs zero a b h p = p
past rs (suc n) a b h p = absurd (no_calls rs a p.0 p.1.0 h p.1.1)

pub reaches_past : (rs : List (List Call)) (a b : ℕ) → length rs ≤ a → Reaches rs a b → a ≡ b
reaches_past rs a b h p = past rs p.0 a b h p.1
