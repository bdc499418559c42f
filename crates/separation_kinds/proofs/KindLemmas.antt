-- What becomes of a kind where froms are forgotten, and of a list of kinds where registers go or are written.
use Rattle.std.proofs.Common.{◌≡◌, ℕ, zero, suc, ◌<◌, Bool, true, false, List, [], ◌∷◌, length, Option, Some, None, refl, sym, ap, ◌∙◌, subst, true≢false, arith, if◌then◌else◌, ◌==◌}
use Rattle.std.proofs.lemmas.Option.{none-some, same_Some}
use Rattle.machine_semantics.specs.cell_code.declared.kind.From.{From}
use Rattle.machine_semantics.specs.cell_code.declared.kind.Kind.{Kind}
use Rattle.machine_semantics.specs.cell_code.declared.kind.Kind.TheVariants.{Gone, Scalar, Owned, Lent, Credit}
use Rattle.machine_semantics.specs.Apart.{Holding, owned_uses}
use Rattle.code_rules.specs.Kinds.{at, is_free, is_owned, is_lent_of, from_of}
use Rattle.code_rules.specs.Changes.{become, forget_from, forget, written, goes, used_up}
use Rattle.separation_kinds.specs.Meanings.{Roots}
use Rattle.separation_kinds.proofs.Basics.{pick, chosen, refused, equal, at_past, becomes}

pub free_owned : {A : Type 0} (k : Kind) → is_free k ≡ true → is_owned k ≡ true → A
free_owned Gone f o = absurd (true≢false (sym o))
free_owned (Scalar t) f o = absurd (true≢false (sym o))
free_owned (Owned t cs) f o = absurd (true≢false (sym f))
free_owned (Lent t cs root from) f o = absurd (true≢false (sym o))
free_owned (Credit k) f o = absurd (true≢false (sym o))

pub owned_lent : (r : ℕ) (k : Kind) → is_owned k ≡ true → is_lent_of r k ≡ false
owned_lent r Gone o = refl
owned_lent r (Scalar t) o = refl
owned_lent r (Owned t cs) o = refl
owned_lent r (Lent t cs root from) o = absurd (true≢false (sym o))
owned_lent r (Credit k) o = refl

pub owned_forget : (p : ℕ → Bool) (k : Kind) → is_owned (forget p k) ≡ is_owned k
owned_forget p Gone = refl
owned_forget p (Scalar t) = refl
owned_forget p (Owned t cs) = refl
owned_forget p (Lent t cs root from) = refl
owned_forget p (Credit k) = refl

pub free_forget : (p : ℕ → Bool) (k : Kind) → is_free (forget p k) ≡ is_free k
free_forget p Gone = refl
free_forget p (Scalar t) = refl
free_forget p (Owned t cs) = refl
free_forget p (Lent t cs root from) = refl
free_forget p (Credit k) = refl

pub lent_forget : (r : ℕ) (p : ℕ → Bool) (k : Kind) → is_lent_of r (forget p k) ≡ is_lent_of r k
lent_forget r p Gone = refl
lent_forget r p (Scalar t) = refl
lent_forget r p (Owned t cs) = refl
lent_forget r p (Lent t cs root from) = refl
lent_forget r p (Credit k) = refl

pub uses_forget : (q : ℕ) (p : ℕ → Bool) (k : Kind) (h : Holding) → owned_uses q (forget p k) h ≡ owned_uses q k h
uses_forget q p Gone h = refl
uses_forget q p (Scalar t) h = refl
uses_forget q p (Owned t cs) h = refl
uses_forget q p (Lent t cs root from) h = refl
uses_forget q p (Credit k) h = refl

pub roots_forget : (p : ℕ → Bool) (r : ℕ) (k : Kind) (root : Option ℕ) → Roots r k root → Roots r (forget p k) root
roots_forget p r Gone root h = h
roots_forget p r (Scalar t) root h = h
roots_forget p r (Owned t cs) root h = h
roots_forget p r (Lent t cs o from) root h = h
roots_forget p r (Credit k) root h = h

-- a from that isn't forgotten
pub kept_from : (p : ℕ → Bool) (o : Option From) (f : From) → forget_from p o ≡ Some f → p f.register ≡ false
kept_from p None f e = absurd (none-some f e)
kept_from p (Some g) f e = pick (λ o. o ≡ Some f → p f.register ≡ false) (p g.register) None (Some g) (λ b n. absurd (none-some f n)) (λ b n. subst (λ (h : From). p h.register ≡ false) (same_Some g f n) b) e

pub kept_from_of : (p : ℕ → Bool) (k : Kind) (f : From) → from_of (forget p k) ≡ Some f → p f.register ≡ false
kept_from_of p Gone f e = absurd (none-some f e)
kept_from_of p (Scalar t) f e = absurd (none-some f e)
kept_from_of p (Owned t cs) f e = absurd (none-some f e)
kept_from_of p (Lent t cs root from) f e = kept_from p from f e
kept_from_of p (Credit k) f e = absurd (none-some f e)

pub free_uses : (q : ℕ) (k : Kind) (h : Holding) → is_free k ≡ true → owned_uses q k h ≡ 0
free_uses q Gone h f = refl
free_uses q (Scalar t) h f = refl
free_uses q (Owned t cs) h f = absurd (true≢false (sym f))
free_uses q (Lent t cs root from) h f = refl
free_uses q (Credit k) h f = absurd (true≢false (sym f))

pub owned_gone : {A : Type 0} (k : Kind) → k ≡ Gone → is_owned k ≡ true → A
owned_gone k e o = absurd (true≢false (sym o ∙ ap is_owned e))

pub roots_gone : {A : Type 0} (r : ℕ) (k : Kind) (root : Option ℕ) → k ≡ Gone → Roots r k root → A
roots_gone r k root e h = absurd (subst (λ k. Roots r k root) e h)

-- ---- all registers

-- something else at one number
abbrev pub put : {A : Type 0} → ℕ → A → (ℕ → A) → ℕ → A
put d x f r = if r == d then x else f r

-- registers that go, with the froms that name them
abbrev pub dropped : (ℕ → Bool) → (ℕ → Kind) → ℕ → Kind
dropped p ks r = if p r then Gone else forget p (ks r)

-- the test of one register
abbrev pub is_one : ℕ → ℕ → Bool
is_one d r = r == d

pub at_dropped : (ks : List Kind) (p : ℕ → Bool) (r : ℕ) → at (become ks (dropped p (at ks))) r ≡ dropped p (at ks) r
at_dropped ks p r = becomes ks (dropped p (at ks)) (λ r h. pick (λ k. k ≡ Gone) (p r) Gone (forget p (at ks r)) (λ e. refl) (λ e. ap (forget p) (at_past ks r h))) r

pub at_used_up : (ks : List Kind) (u r : ℕ) → at (used_up ks u) r ≡ dropped (goes ks u) (at ks) r
at_used_up ks u r = at_dropped ks (goes ks u) r

pub at_written : (ks : List Kind) (d : ℕ) (k : Kind) → d < length ks → (r : ℕ) → at (written ks d k) r ≡ put d (forget (is_one d) k) (dropped (is_one d) (at ks)) r
at_written ks d k there r =
    becomes ks (λ q. forget (is_one d) (if q == d then k else at ks q)) (λ r h.
    let off : r ≡ d → ⊥ = λ e. absurd (omega arith) in
    ap (forget (is_one d)) (pick (λ j. j ≡ Gone) (r == d) k (at ks r) (λ e. absurd (off (equal r d e))) (λ e. at_past ks r h))) r
    ∙ pick (λ j. forget (is_one d) j ≡ put d (forget (is_one d) k) (dropped (is_one d) (at ks)) r) (r == d) k (at ks r)
    (λ e. sym (chosen (r == d) (forget (is_one d) k) (dropped (is_one d) (at ks) r) e))
    (λ e. sym (refused (r == d) (forget (is_one d) k) (dropped (is_one d) (at ks) r) e ∙ refused (r == d) Gone (forget (is_one d) (at ks r)) e))

pub lent_uses : (q r : ℕ) (k : Kind) (h : Holding) → is_lent_of r k ≡ true → owned_uses q k h ≡ 0
lent_uses q r Gone h l = refl
lent_uses q r (Scalar t) h l = refl
lent_uses q r (Owned t cs) h l = absurd (true≢false (sym l))
lent_uses q r (Lent t cs root from) h l = refl
lent_uses q r (Credit k) h l = absurd (true≢false (sym l))

pub not_gone_within : (ks : List Kind) (r : ℕ) → (at ks r ≡ Gone → ⊥) → r < length ks
not_gone_within [] r h = absurd (h refl)
not_gone_within (k ∷ ks) zero h = omega arith
not_gone_within (k ∷ ks) (suc r) h = let i = not_gone_within ks r h in omega arith

pub owned_within : (ks : List Kind) (r : ℕ) → is_owned (at ks r) ≡ true → r < length ks
owned_within ks r o = not_gone_within ks r (λ e. owned_gone (at ks r) e o)
