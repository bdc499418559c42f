-- What the calls of the builder answer, for whoever called.
use Rattle.std.proofs.Common.{◌≡◌, ℕ, zero, suc, ◌+◌, ◌*◌, ◌≤◌, List, [], ◌∷◌, ◌++◌, take, refl, ap, ◌∙◌, subst, arith}
use Rattle.std.specs.Prelude.{replicate, Result, Ok, Err, OnOk}
use Rattle.fip_language.specs.Values.{Values}
use Rattle.fip_language.specs.Table.{Table}
use Rattle.cell_store.specs.Made.{Loading}
use Rattle.value_text.specs.declared.build.Stopped as B
use Rattle.value_text.specs.declared.build.Stopped.TheVariants as S
use Rattle.value_text.specs.Reading.{Origin}
use Rattle.value_text.specs.Building.{IsMade, HasRoom, Built}
use Rattle.value_text.specs.Answered.{AllBuilt}

-- a credit's fields are 0
pub take_zeros : (k n : ℕ) → k ≤ n → take {A = ℕ} k (replicate n 0) ≡ replicate k 0
take_zeros zero n l = refl
take_zeros (suc k) zero l = absurd (omega (arith, l))
take_zeros (suc k) (suc n) l = ap (λ xs. 0 ∷ xs) (take_zeros k n (omega (arith, l)))

pub credit_result : {A E : Type 0} (size : ℕ) (old new : Loading) (ws ws' : List ℕ) (w : ℕ) (fs : List ℕ) (r : Result A E) → fs ≡ replicate size 0 → (p : ℕ) × (w ≡ 2 * p + 1) × IsMade old new p (record { tag = 0; fields = fs }) → OnOk r (ws' ≡ ws ++ w ∷ []) → OnOk r ((p : ℕ) × (ws' ≡ ws ++ (2 * p + 1) ∷ []) × IsMade old new p (record { tag = 0; fields = replicate size 0 }))
credit_result size old new ws ws' w fs (Ok a) z m e = (m.0, e ∙ ap (λ w. ws ++ w ∷ []) m.1, subst (λ fs. IsMade old new m.0 (record { tag = 0; fields = fs })) z m.2)
credit_result size old new ws ws' w fs (Err a) z m e = tt

-- an event is put down, where there is room
pub put_fails : (tb : Table) (from : Origin) (bytes : List ℕ) (first now : Loading) (e : B.Stopped) → ((k : ℕ) → e ≡ S.BadValue k → ⊥) → (e ≡ S.Full → (want : ℕ → ℕ) (vs : Values) → HasRoom tb from bytes want first vs → ⊥) → Built tb from bytes first now (Err e)
put_fails tb from bytes first now (S.BadValue k) v f = absurd (v k refl)
put_fails tb from bytes first now S.Full v f = λ want vs room. f refl want vs room
put_fails tb from bytes first now S.NoMemory v f = tt

-- what was built is not refused
pub never_value : (credits : List ℕ) (first now : Loading) (vs : Values) (e : B.Stopped) (k : ℕ) → AllBuilt credits first now vs (Err e) → e ≡ S.BadValue k → ⊥
never_value credits first now vs (S.BadValue j) k h e = h
never_value credits first now vs S.Full k h e = h
never_value credits first now vs S.NoMemory k h e = cc

pub never_full : (credits : List ℕ) (first now : Loading) (vs : Values) (e : B.Stopped) → AllBuilt credits first now vs (Err e) → e ≡ S.Full → ⊥
never_full credits first now vs (S.BadValue j) h e = h
never_full credits first now vs S.Full h e = h
never_full credits first now vs S.NoMemory h e = cc
