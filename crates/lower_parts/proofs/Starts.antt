-- What is known at the start of a function, one parameter and one credit after another.
use Rattle.std.proofs.Common.{◌≡◌, refl, sym, ap, ◌∙◌, ℕ, zero, suc, List, [], ◌∷◌, drop, Option, Some, None, slice_get}
use Rattle.fip_base.specs.declared.plain.Param.{Param}
use Rattle.fip_trees.specs.declared.program.Binder.{Binder}
use Rattle.lower_frame.specs.lowering_relation.Known.{Known}
use Rattle.lower_frame.specs.lowering_relation.Values.{Setting}
use Rattle.lower_parts.specs.Writing.{param_at}
use Rattle.lower_frame.specs.lowering_relation.LoweredFunctions.{with_param, with_params, with_next_credit, with_credits}
use Rattle.fip_language.proofs.Facts.{same_some}

pub params_next : (s : Setting) (k : Known) (ps : List Param) (bs : List Binder) (i : ℕ) (p : Param) (b : Binder) → slice_get ps i ≡ Some p → slice_get bs i ≡ Some b → with_params s (with_param s k p b) (drop (suc i) ps) (drop (suc i) bs) ≡ with_params s k (drop i ps) (drop i bs)
params_next s k [] bs i p b e f = absurd (cc)
params_next s k (q ∷ ps) [] i p b e f = absurd (cc)
params_next s k (q ∷ ps) (c ∷ bs) zero p b e f = ap (λ x. with_params s (with_param s k x b) ps bs) (sym (same_some q p e)) ∙ ap (λ x. with_params s (with_param s k q x) ps bs) (sym (same_some c b f))
params_next s k (q ∷ ps) (c ∷ bs) (suc i) p b e f = params_next s k ps bs i p b e f

no_binders : (s : Setting) (k : Known) (ps : List Param) → with_params s k ps [] ≡ k
no_binders s k [] = refl
no_binders s k (p ∷ ps) = refl

no_params : (s : Setting) (k : Known) (bs : List Binder) → with_params s k [] bs ≡ k
no_params s k bs = refl

no_params_on : (s : Setting) (k : Known) (bs : List Binder) (i : ℕ) → with_params s k [] (drop (suc i) bs) ≡ with_params s k [] (drop i bs)
no_params_on s k bs i = refl

pub params_stop : (s : Setting) (k : Known) (ps : List Param) (bs : List Binder) (i : ℕ) → slice_get bs i ≡ None → with_params s k (drop (suc i) ps) (drop (suc i) bs) ≡ with_params s k (drop i ps) (drop i bs)
params_stop s k ps [] zero e = no_binders s k (drop (suc zero) ps) ∙ sym (no_binders s k ps)
params_stop s k ps [] (suc i) e = no_binders s k (drop (suc (suc i)) ps) ∙ sym (no_binders s k (drop (suc i) ps))
params_stop s k [] (c ∷ bs) zero e = absurd (cc)
params_stop s k [] (c ∷ bs) (suc i) e = no_params_on s k bs i
params_stop s k (q ∷ ps) (c ∷ bs) zero e = absurd (cc)
params_stop s k (q ∷ ps) (c ∷ bs) (suc i) e = params_stop s k ps bs i e

by_binder : (s : Setting) (k : Known) (ps : List Param) (bs : List Binder) (i : ℕ) (p : Param) (o : Option Binder) → slice_get ps i ≡ Some p → slice_get bs i ≡ o → with_params s (param_at s k p o) (drop (suc i) ps) (drop (suc i) bs) ≡ with_params s k (drop i ps) (drop i bs)
by_binder s k ps bs i p None e f = params_stop s k ps bs i f
by_binder s k ps bs i p (Some b) e f = params_next s k ps bs i p b e f

pub params_step : (s : Setting) (k : Known) (ps : List Param) (bs : List Binder) (i : ℕ) (p : Param) → slice_get ps i ≡ Some p → with_params s (param_at s k p (slice_get bs i)) (drop (suc i) ps) (drop (suc i) bs) ≡ with_params s k (drop i ps) (drop i bs)
params_step s k ps bs i p e = by_binder s k ps bs i p (slice_get bs i) e refl

pub credits_next : (k : Known) (ns : List ℕ) (i n : ℕ) → slice_get ns i ≡ Some n → with_credits (with_next_credit k n) (drop (suc i) ns) ≡ with_credits k (drop i ns)
credits_next k [] i n e = absurd (cc)
credits_next k (m ∷ ns) zero n e = ap (λ x. with_credits (with_next_credit k x) ns) (sym (same_some m n e))
credits_next k (m ∷ ns) (suc i) n e = credits_next k ns i n e

-- the place is counted beside the loop
pub params_to : (s : Setting) (k m : Known) (ps : List Param) (bs : List Binder) (i j n : ℕ) (p : Param) → j ≡ i → n ≡ suc j → slice_get ps i ≡ Some p → m ≡ param_at s k p (slice_get bs j) → with_params s m (drop n ps) (drop n bs) ≡ with_params s k (drop j ps) (drop j bs)
params_to s k m ps bs i j n p a b e f =
    ap (λ x. with_params s x (drop n ps) (drop n bs)) f ∙ ap (λ z. with_params s (param_at s k p (slice_get bs j)) (drop z ps) (drop z bs)) b ∙ params_step s k ps bs j p (ap (slice_get ps) a ∙ e)

pub ruleset starting = (params_step, credits_next)
