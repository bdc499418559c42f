use Rattle.std.proofs.Common.{◌≡◌, ℕ, suc, ◌<◌, ◌∷◌, List, drop, length, subst, sym}
use Rattle.fip_rules.proofs.LogTables.{drop_step}
use Rattle.fip_rules.proofs.log.Log.number_at.Goals as goal

pub returns : goal.returns
returns c = subst (λ (xs : List ℕ). drop c.args.place xs ≡ c.index.result.now.number ∷ drop (suc c.args.place) xs) c.self.view_is (drop_step c.self.inside.steps.items c.args.place c.index.result.now c.index.ensures (subst (λ (xs : List ℕ). c.args.place < length xs) (sym c.self.view_is) c.requires))
