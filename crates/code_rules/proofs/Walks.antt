-- The heirs that registers reach, found by walking along their froms, as far as there are registers.
use Rattle.std.proofs.Common.{◌≡◌, ℕ, zero, suc, Bool, true, false, ◌&&◌, List, [], ◌∷◌, length, Option, Some, None, if◌then◌else◌, refl, sym, ◌∙◌, true≢false}
use Rattle.std.proofs.lemmas.Bool.{and_parts}
use Rattle.cell_code.specs.declared.kind.From.{From}
use Rattle.cell_code.specs.declared.kind.Kind.{Kind}
use Rattle.code_rules.specs.Kinds.{at, from_of}
use Rattle.code_rules.specs.Taking.{Chain, IsReached}

pub data Walked : Type 0 where
  Found : (d : ℕ) → Walked
  Ended : Walked
  Unsure : Walked

abbrev pub walk : List Kind → (ℕ → Bool) → ℕ → Option From → Walked
walk ks heir zero None = Ended
walk ks heir (suc n) None = Ended
walk ks heir zero (Some f) = Unsure
walk ks heir (suc n) (Some f) = if heir f.register then Found f.register else walk ks heir n (from_of (at ks f.register))

abbrev IsWalked : List Kind → (ℕ → Bool) → Option From → Walked → Type 0
IsWalked ks heir o (Found d) = (n : ℕ) × Chain ks heir n o d
IsWalked ks heir o Ended = (n d : ℕ) → Chain ks heir n o d → ⊥
IsWalked ks heir o Unsure = Unit {0}

no_chain : (ks : List Kind) (heir : ℕ → Bool) (n d : ℕ) → Chain ks heir n None d → ⊥
no_chain ks heir zero d x = x
no_chain ks heir (suc n) d x = x

one_further : (ks : List Kind) (heir : ℕ → Bool) (f : From) (k : Walked) → heir f.register ≡ false → IsWalked ks heir (from_of (at ks f.register)) k → IsWalked ks heir (Some f) k
one_further ks heir f (Found d) e x = (suc x.0, (e, x.1))
one_further ks heir f Ended e x = ended
  where
    ended : (n d : ℕ) → Chain ks heir n (Some f) d → ⊥
    ended zero d y = true≢false (sym y.0 ∙ e)
    ended (suc n) d y = x n d y.1
one_further ks heir f Unsure e x = tt

first_step : (ks : List Kind) (heir : ℕ → Bool) (f : From) (n : ℕ) (b : Bool) → heir f.register ≡ b → IsWalked ks heir (from_of (at ks f.register)) (walk ks heir n (from_of (at ks f.register))) → IsWalked ks heir (Some f) (if b then Found f.register else walk ks heir n (from_of (at ks f.register)))
first_step ks heir f n true e x = (zero, (e, refl))
first_step ks heir f n false e x = one_further ks heir f (walk ks heir n (from_of (at ks f.register))) e x

is_walked : (ks : List Kind) (heir : ℕ → Bool) (n : ℕ) (o : Option From) → IsWalked ks heir o (walk ks heir n o)
is_walked ks heir zero None = no_chain ks heir
is_walked ks heir (suc n) None = no_chain ks heir
is_walked ks heir zero (Some f) = tt
is_walked ks heir (suc n) (Some f) = first_step ks heir f n (heir f.register) refl (is_walked ks heir n (from_of (at ks f.register)))

abbrev pub outcome : Walked → Option ℕ
outcome (Found d) = Some d
outcome Ended = None
outcome Unsure = None

abbrev pub is_sure : Walked → Bool
is_sure (Found d) = true
is_sure Ended = true
is_sure Unsure = false

-- the walk from a register of this kind
abbrev pub walk_of : List Kind → (ℕ → Bool) → Kind → Walked
walk_of ks heir k = walk ks heir (suc (length ks)) (from_of k)

abbrev pub reached_by : List Kind → (ℕ → Bool) → ℕ → Option ℕ
reached_by ks heir q = outcome (walk_of ks heir (at ks q))

abbrev pub all_sure : List Kind → (ℕ → Bool) → List Kind → Bool
all_sure ks heir [] = true
all_sure ks heir (k ∷ rest) = is_sure (walk_of ks heir k) && all_sure ks heir rest

sure_at : (ks : List Kind) (heir : ℕ → Bool) (rest : List Kind) → all_sure ks heir rest ≡ true → (q : ℕ) → is_sure (walk_of ks heir (at rest q)) ≡ true
sure_at ks heir [] e q = refl
sure_at ks heir (k ∷ rest) e zero = (and_parts (is_sure (walk_of ks heir k)) (all_sure ks heir rest) e).0
sure_at ks heir (k ∷ rest) e (suc q) = sure_at ks heir rest (and_parts (is_sure (walk_of ks heir k)) (all_sure ks heir rest) e).1 q

reports : (ks : List Kind) (heir : ℕ → Bool) (q : ℕ) (k : Walked) → is_sure k ≡ true → IsWalked ks heir (from_of (at ks q)) k → IsReached ks heir q (outcome k)
reports ks heir q (Found d) e x = x
reports ks heir q Ended e x = λ d y. x y.0 d y.1
reports ks heir q Unsure e x = absurd (true≢false (sym e))

pub is_reached : (ks : List Kind) (heir : ℕ → Bool) → all_sure ks heir ks ≡ true → (q : ℕ) → IsReached ks heir q (reached_by ks heir q)
is_reached ks heir e q = reports ks heir q (walk_of ks heir (at ks q)) (sure_at ks heir ks e q) (is_walked ks heir (suc (length ks)) (from_of (at ks q)))
