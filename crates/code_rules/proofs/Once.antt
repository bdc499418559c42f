-- What is known of registers is one: an instruction leaves one list of kinds, and one is known before each instruction.
use Rattle.std.proofs.Common.{◌≡◌, ℕ, zero, suc, Bool, List, [], ◌∷◌, length, Option, Some, None, refl, sym, ap, ◌∙◌, subst₂, true≢false}
use Rattle.std.proofs.lemmas.Option.{same_Some}
use Rattle.cell_code.specs.fip_language.Table.{Table}
use Rattle.cell_code.specs.declared.code.Instr.{Instr}
use Rattle.cell_code.specs.declared.code.Instr.TheVariants as I
use Rattle.cell_code.specs.declared.kind.From.{From}
use Rattle.cell_code.specs.declared.kind.Kind.{Kind}
use Rattle.cell_code.specs.declared.kind.Kind.TheVariants.{Owned}
use Rattle.cell_code.specs.Plain.{PlainFunction, PlainCode, results}
use Rattle.code_rules.specs.Codes.{label_at}
use Rattle.code_rules.specs.Types.{lent_kind}
use Rattle.code_rules.specs.Kinds.{at, from_of, root_of}
use Rattle.code_rules.specs.Changes.{written}
use Rattle.code_rules.specs.Taking.{Chain, IsReached, part, is_heir, taken, IsTaken}
use Rattle.code_rules.specs.Asked.{known_fields}
use Rattle.code_rules.specs.Leaves.{received, Leaves}
use Rattle.code_rules.specs.Flow.{Holds, Comes, KnownAt}

pub chain_once : (ks : List Kind) (heir : ℕ → Bool) (n m : ℕ) (o : Option From) (d e : ℕ) → Chain ks heir n o d → Chain ks heir m o e → d ≡ e
chain_once ks heir zero m None d e x y = absurd x
chain_once ks heir (suc n) m None d e x y = absurd x
chain_once ks heir zero zero (Some f) d e x y = sym x.1 ∙ y.1
chain_once ks heir zero (suc m) (Some f) d e x y = absurd (true≢false (sym x.0 ∙ y.0))
chain_once ks heir (suc n) zero (Some f) d e x y = absurd (true≢false (sym y.0 ∙ x.0))
chain_once ks heir (suc n) (suc m) (Some f) d e x y = chain_once ks heir n m (from_of (at ks f.register)) d e x.1 y.1

reached_once : (ks : List Kind) (heir : ℕ → Bool) (q : ℕ) (o p : Option ℕ) → IsReached ks heir q o → IsReached ks heir q p → o ≡ p
reached_once ks heir q None None x y = refl
reached_once ks heir q None (Some e) x y = absurd (x e y)
reached_once ks heir q (Some d) None x y = absurd (y d x)
reached_once ks heir q (Some d) (Some e) x y = ap Some (chain_once ks heir x.0 y.0 (from_of (at ks q)) d e x.1 y.1)

taken_once : (w : Table) (ks : List Kind) (r : ℕ) (ds ts : List ℕ) (a b : List Kind) → IsTaken w ks r ds ts a → IsTaken w ks r ds ts b → a ≡ b
taken_once w ks r ds ts a b x y =
    let same : x.0 ≡ y.0 = λ i q. reached_once ks (is_heir w ks r (part ds ts)) q (x.0 q) (y.0 q) (x.1 q) (y.1 q) i in
    x.2 ∙ ap (λ reached. taken w ks r (part ds ts) (length ds) reached) same ∙ sym y.2

pub leaves_once : (c : PlainCode) (ks : List Kind) (x : Instr) (a b : List Kind) → Leaves c ks x a → Leaves c ks x b → a ≡ b
leaves_once c ks (I.Const d v) a b p q = p ∙ sym q
leaves_once c ks (I.Atom d t k) a b p q = p ∙ sym q
leaves_once c ks (I.Move d s) a b p q = p ∙ sym q
leaves_once c ks (I.Arith d op l r line col) a b p q = p ∙ sym q
leaves_once c ks (I.Test r k target) a b p q = p ∙ sym q
leaves_once c ks (I.TestInt r v target) a b p q = p ∙ sym q
leaves_once c ks (I.Peek d r i) a b p q =
    p.2 ∙ ap (λ t. written ks d (lent_kind c.types t (root_of r (at ks r)) r i)) (same_Some p.0 q.0 (sym p.1 ∙ q.1)) ∙ sym q.2
leaves_once c ks (I.Take r ds) a b p q = taken_once c.types ks r ds (known_fields c.types (at ks r)) a b p q
leaves_once c ks (I.Put d t k ss) a b p q =
    p.2 ∙ ap (λ rest. written rest d (Owned t (k ∷ []))) (same_Some p.0 q.0 (sym p.1 ∙ q.1)) ∙ sym q.2
leaves_once c ks (I.Drop r) a b p q = p ∙ sym q
leaves_once c ks (I.Free r) a b p q = p ∙ sym q
leaves_once c ks (I.Call g rs ds) a b p q =
    p.2 ∙ ap (λ rest. received c.types rest ds (results c g)) (same_Some p.0 q.0 (sym p.1 ∙ q.1)) ∙ sym q.2
leaves_once c ks (I.Tail g rs) a b p q = absurd p
leaves_once c ks (I.Ret rs) a b p q = absurd p
leaves_once c ks (I.Jump target) a b p q = absurd p

holds_once : (o : Option (List Kind)) (P : List Kind → Type 0) → ((a b : List Kind) → P a → P b → a ≡ b) → (a b : List Kind) → Holds o P a → Holds o P b → a ≡ b
holds_once None P once a b p q = once a b p q
holds_once (Some m) P once a b p q = p ∙ sym q

comes_once : (c : PlainCode) (f : PlainFunction) (i : ℕ) (a b : List Kind) → Comes c f i a → Comes c f i b → a ≡ b
comes_once c f zero a b p q = p ∙ sym q
comes_once c f (suc i) a b p q =
    let before : p.0 ≡ q.0 = holds_once (label_at f.labels i) (Comes c f i) (comes_once c f i) p.0 q.0 p.2 q.2 in
    let instr : p.1 ≡ q.1 = same_Some p.1 q.1 (sym p.3 ∙ q.3) in
    leaves_once c q.0 q.1 a b (subst₂ (λ ks x. Leaves c ks x a) before instr p.5) q.5

pub known_once : (c : PlainCode) (f : PlainFunction) (i : ℕ) (a b : List Kind) → KnownAt c f i a → KnownAt c f i b → a ≡ b
known_once c f i a b p q = holds_once (label_at f.labels i) (Comes c f i) (comes_once c f i) a b p q
