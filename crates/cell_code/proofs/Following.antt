-- Ways through a function, step by step.
use Rattle.std.proofs.Common.{◌≡◌, ℕ, zero, suc, ◌+◌, Some, arith, subst, slice_get}
use Rattle.cell_code.specs.declared.code.Instr.{Instr}
use Rattle.cell_code.specs.declared.code.Instr.TheVariants as I
use Rattle.cell_code.specs.Runnable.{Body, Row, Follows, IsSafe}

-- what a row says, by what is said of the instructions that may be next
pub row_map : (b : Body) (i : ℕ) (P Q : ℕ → Type 0) (x : Instr) → ((j : ℕ) → P j → Q j) → Row b i P x → Row b i Q x
row_map b i P Q (I.Const d v) f r = (r.0, f (i + 1) r.1)
row_map b i P Q (I.Atom d t c) f r = (r.0, f (i + 1) r.1)
row_map b i P Q (I.Move d s) f r = (r.0, r.1, f (i + 1) r.2)
row_map b i P Q (I.Arith d op x y line col) f r = (r.0, r.1, r.2, f (i + 1) r.3)
row_map b i P Q (I.Test s c target) f r = (r.0, f (i + 1) r.1, r.2, f target r.3)
row_map b i P Q (I.TestInt s v target) f r = (r.0, f (i + 1) r.1, r.2, f target r.3)
row_map b i P Q (I.Peek d s k) f r = (r.0, r.1, f (i + 1) r.2)
row_map b i P Q (I.Take s ds) f r = (r.0, r.1, r.2, r.3, f (i + 1) r.4)
row_map b i P Q (I.Put d t c ss) f r = (r.0, r.1, r.2, f (i + 1) r.3)
row_map b i P Q (I.Drop s) f r = (r.0, f (i + 1) r.1)
row_map b i P Q (I.Free s) f r = (r.0, f (i + 1) r.1)
row_map b i P Q (I.Call g ss ds) f r = (r.0, r.1, r.2, r.3, f (i + 1) r.4)
row_map b i P Q (I.Tail g ss) f r = r
row_map b i P Q (I.Ret rs) f r = r
row_map b i P Q (I.Jump target) f r = (r.0, f target r.1)

one_more : (b : Body) (k i : ℕ) → Follows b k i → Follows b (suc k) i
one_more b zero i h = absurd h
one_more b (suc k) i h = (h.0, h.1, row_map b i (Follows b k) (Follows b (suc k)) h.0 (one_more b k) h.2)

more : (b : Body) (k m i : ℕ) → Follows b k i → Follows b (k + m) i
more b k zero i h = subst (λ n. Follows b n i) (let e : k ≡ k + zero = omega arith in e) h
more b k (suc m) i h = subst (λ n. Follows b n i) (let e : suc (k + m) ≡ k + suc m = omega arith in e) (one_more b (k + m) i (more b k m i h))

less : (b : Body) (k m i : ℕ) → Follows b k i → Follows b (m + k) i
less b k m i h = subst (λ n. Follows b n i) (let e : k + m ≡ m + k = omega arith in e) (more b k m i h)

-- one number of steps for all that may be next
fuel : (b : Body) (i : ℕ) (x : Instr) → Row b i (IsSafe b) x → (k : ℕ) × Row b i (Follows b k) x
fuel b i (I.Const d v) r = (r.1.0, (r.0, r.1.1))
fuel b i (I.Atom d t c) r = (r.1.0, (r.0, r.1.1))
fuel b i (I.Move d s) r = (r.2.0, (r.0, r.1, r.2.1))
fuel b i (I.Arith d op x y line col) r = (r.3.0, (r.0, r.1, r.2, r.3.1))
fuel b i (I.Test s c target) r = (r.1.0 + r.3.0, (r.0, more b r.1.0 r.3.0 (i + 1) r.1.1, r.2, less b r.3.0 r.1.0 target r.3.1))
fuel b i (I.TestInt s v target) r = (r.1.0 + r.3.0, (r.0, more b r.1.0 r.3.0 (i + 1) r.1.1, r.2, less b r.3.0 r.1.0 target r.3.1))
fuel b i (I.Peek d s k) r = (r.2.0, (r.0, r.1, r.2.1))
fuel b i (I.Take s ds) r = (r.4.0, (r.0, r.1, r.2, r.3, r.4.1))
fuel b i (I.Put d t c ss) r = (r.3.0, (r.0, r.1, r.2, r.3.1))
fuel b i (I.Drop s) r = (r.1.0, (r.0, r.1.1))
fuel b i (I.Free s) r = (r.1.0, (r.0, r.1.1))
fuel b i (I.Call g ss ds) r = (r.4.0, (r.0, r.1, r.2, r.3, r.4.1))
fuel b i (I.Tail g ss) r = (0, r)
fuel b i (I.Ret rs) r = (0, r)
fuel b i (I.Jump target) r = (r.1.0, (r.0, r.1.1))

-- an instruction in range with safe ones after it
pub safe_from : (b : Body) (i : ℕ) (x : Instr) → slice_get b.instrs i ≡ Some x → Row b i (IsSafe b) x → IsSafe b i
safe_from b i x e r = let k = fuel b i x r in (suc k.0, (x, e, k.1))

-- what is known of a safe instruction
pub safe_here : (b : Body) (i : ℕ) → IsSafe b i → (x : Instr) × (slice_get b.instrs i ≡ Some x) × Row b i (IsSafe b) x
safe_here b i s = here s.0 s.1
  where
    here : (k : ℕ) → Follows b k i → (x : Instr) × (slice_get b.instrs i ≡ Some x) × Row b i (IsSafe b) x
    here zero h = absurd h
    here (suc k) h = (h.0, h.1, row_map b i (Follows b k) (IsSafe b) h.0 (λ j s. (k, s)) h.2)
