-- Theorems of put.
use Rattle.std.proofs.Common.{◌≡◌, ℕ, refl}
use Rattle.std.specs.Prelude.{eqb}
use Rattle.std.proofs.lemmas.Bool.{eq-eqb, eqb-true, eqb-false, cond_both, cond-true}
use Rattle.machine_semantics.specs.fip_language.Values.{Value}
use Rattle.tree_semantics.specs.Contents.{Contents, put}

pub put_elim : (P : Value → Type 0) (cs : Contents) (d : ℕ) (v : Value) (r : ℕ) → (r ≡ d → P v) → ((r ≡ d → ⊥) → P (cs r)) → P (put cs d v r)
unfolding put
put_elim P cs d v r p q = cond_both (eqb r d) v (cs r) P (λ e. p (eqb-true r d e)) (λ e. q (eqb-false r d e))

pub put_same : (cs : Contents) (d : ℕ) (v : Value) (r : ℕ) → r ≡ d → put cs d v r ≡ v
unfolding put
put_same cs d v r e = cond-true (eqb r d) v (cs r) (eq-eqb r d e)

pub put_other : (cs : Contents) (d : ℕ) (v : Value) (r : ℕ) → (r ≡ d → ⊥) → put cs d v r ≡ cs r
put_other cs d v r ne = put_elim (λ a. a ≡ cs r) cs d v r (λ e. absurd (ne e)) (λ _. refl)
