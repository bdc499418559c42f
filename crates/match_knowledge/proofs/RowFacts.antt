-- What the choice of a row says, and what the two sides of a test say together.
use Rattle.std.proofs.Common.{◌≡◌, ◌⊎◌, inl, inr, ℕ, zero, suc, List, [], ◌∷◌, Some, Bool, true, false, refl, ap, ◌∙◌, subst, arith}
use Rattle.std.specs.Prelude.{if◌then◌else◌, slice_get, nat_lt}
use Rattle.match_knowledge.specs.declared.verdicts.Verdict.{Verdict}
use Rattle.match_knowledge.specs.declared.verdicts.Verdict.TheVariants.{Fits, Misses, Asks}
use Rattle.match_knowledge.specs.declared.unmatched.Choice.{Choice}
use Rattle.match_knowledge.specs.declared.unmatched.Choice.TheVariants.{Covered, Nothing, Ask}
use Rattle.fip_base.specs.fip_language.Values.{Value}
use Rattle.fip_base.specs.fip_language.Table.{Table}
use Rattle.match_knowledge.specs.ValueHeads.{IsTidy}
use Rattle.match_knowledge.specs.Patterns.{Pattern, fits, some_fits, IsPattern, AreRows}
use Rattle.match_knowledge.specs.Known.{Known, agrees, compare, side, has_asked, is_last}
use Rattle.match_knowledge.specs.Left.{Left, Reports, HasVerdict, AllMiss, IsChoice, better, next, HasRoom}
use Rattle.match_knowledge.proofs.Facts.{not_both}
use Rattle.match_knowledge.proofs.VerdictFacts.{misses, fit}
use Rattle.match_knowledge.proofs.Split.{to_side, from_side}
use Rattle.match_knowledge.proofs.Living.{witness, side_alive, last_none}
use Rattle.match_knowledge.proofs.Fewer.{rows_fewer}

pub row_typed : (tb : Table) (t : ℕ) (rows : List Pattern) (i : ℕ) (p : Pattern) → AreRows tb t rows → slice_get rows i ≡ Some p → IsPattern tb t p
row_typed tb t [] i p a e = cc
row_typed tb t (q ∷ rows) zero p a e = let same : q ≡ p = cc in subst (IsPattern tb t) same a.0
row_typed tb t (q ∷ rows) (suc i) p a e = row_typed tb t rows i p a.1 e

pub better_is : (all : List Pattern) (k : Known) (c : Choice) (i n : ℕ) → IsChoice all k c → HasVerdict Asks all k i → IsChoice all k (better c i n)
better_is all k Covered i n h r = h
better_is all k Nothing i n h r = r
better_is all k (Ask j m) i n h r = pick (nat_lt n m) where
  pick : (b : Bool) → IsChoice all k (if b then Ask i n else Ask j m)
  pick true = r
  pick false = h

pub next_is : (all : List Pattern) (k : Known) (c : Choice) (i n : ℕ) (p : Pattern) → slice_get all i ≡ Some p → (w : Verdict) → compare p k ≡ w → IsChoice all k c → IsChoice all k (next c w i n)
next_is all k Covered i n p e w q h = h
next_is all k Nothing i n p e Fits q h = (i, (p, e, q))
next_is all k Nothing i n p e Misses q h = h
next_is all k Nothing i n p e Asks q h = better_is all k Nothing i n h (p, e, q)
next_is all k (Ask j m) i n p e Fits q h = (i, (p, e, q))
next_is all k (Ask j m) i n p e Misses q h = h
next_is all k (Ask j m) i n p e Asks q h = better_is all k (Ask j m) i n h (p, e, q)

better_some : (c : Choice) (i n : ℕ) → better c i n ≡ Nothing → ⊥
better_some Covered i n e = cc
better_some Nothing i n e = cc
better_some (Ask j m) i n e = pick (nat_lt n m) e where
  pick : (b : Bool) → (if b then Ask i n else Ask j m) ≡ Nothing → ⊥
  pick true e = cc
  pick false e = cc

pub next_nothing : (c : Choice) (w : Verdict) (i n : ℕ) → next c w i n ≡ Nothing → (c ≡ Nothing) × (w ≡ Misses)
next_nothing Covered w i n e = cc
next_nothing Nothing Fits i n e = cc
next_nothing Nothing Misses i n e = (refl, refl)
next_nothing Nothing Asks i n e = absurd (better_some Nothing i n e)
next_nothing (Ask j m) Fits i n e = cc
next_nothing (Ask j m) Misses i n e = cc
next_nothing (Ask j m) Asks i n e = absurd (better_some (Ask j m) i n e)

-- one more row is looked at
pub consider_is : (rows : List Pattern) (k : Known) (i : ℕ) (p : Pattern) (ps : List Pattern) → slice_get rows i ≡ Some p → compare p k ≡ Misses → (AllMiss (p ∷ ps) k → AllMiss rows k) → AllMiss ps k → AllMiss rows k
consider_is rows k i p ps e m f a = f (m, a)

-- the answers
none_fits : (rows : List Pattern) (k : Known) (v : Value) → AllMiss rows k → agrees k v ≡ true → some_fits rows v ≡ false
none_fits [] k v a e = refl
none_fits (p ∷ rows) k v a e = both_false (fits p v) (some_fits rows v) (misses p k v a.0 e) (none_fits rows k v a.1 e) where
  both_false : (b x : Bool) → b ≡ false → x ≡ false → (if b then true else x) ≡ false
  both_false true x e f = cc
  both_false false x e f = f

some_row : (rows : List Pattern) (i : ℕ) (p : Pattern) (v : Value) → slice_get rows i ≡ Some p → fits p v ≡ true → some_fits rows v ≡ true
some_row [] i p v e f = cc
some_row (q ∷ rows) zero p v e f = let same : q ≡ p = cc in ap (λ b. if b then true else some_fits rows v) (ap (λ z. fits z v) same ∙ f)
some_row (q ∷ rows) (suc i) p v e f = either (fits q v) (some_fits rows v) (some_row rows i p v e f) where
  either : (a b : Bool) → b ≡ true → (if a then true else b) ≡ true
  either true b h = refl
  either false b h = h

pub nothing_left : (tb : Table) (t : ℕ) (rows : List Pattern) (k : Known) → HasRoom tb t rows k → AllMiss rows k → Left tb t rows k
nothing_left tb t rows k r a = let v = witness tb r.0 t k r.2 in (v.0, v.1, v.2, none_fits rows k v.0 a v.2)

pub covered_left : (tb : Table) (t : ℕ) (rows : List Pattern) (k : Known) (i : ℕ) → AreRows tb t rows → HasRoom tb t rows k → HasVerdict Fits rows k i → Left tb t rows k → ⊥
covered_left tb t rows k i q r c u = not_both (some_fits rows u.0) (some_row rows i c.0 u.0 c.1 (fit tb r.0 t c.0 k u.0 (row_typed tb t rows i c.0 q c.1) r.2 u.1 c.2 u.2)) u.3

pub side_left : (tb : Table) (t : ℕ) (rows : List Pattern) (b : Bool) (p : Pattern) (k : Known) → compare p k ≡ Asks → Left tb t rows (side b p k) → Left tb t rows k
side_left tb t rows b p k e u = (u.0, u.1, from_side b p k u.0 e u.2, u.3)

pub sides_left : (tb : Table) (t : ℕ) (rows : List Pattern) (p : Pattern) (k : Known) → compare p k ≡ Asks → Left tb t rows k → Left tb t rows (side true p k) ⊎ Left tb t rows (side false p k)
sides_left tb t rows p k e u = pick (has_asked p k u.0) refl where
  pick : (b : Bool) → has_asked p k u.0 ≡ b → Left tb t rows (side true p k) ⊎ Left tb t rows (side false p k)
  pick true x = inl (u.0, u.1, to_side true p k u.0 e u.2 x, u.3)
  pick false x = inr (u.0, u.1, to_side false p k u.0 e u.2 x, u.3)

pub last_left : (tb : Table) (t : ℕ) (rows : List Pattern) (i : ℕ) (p : Pattern) (k : Known) → AreRows tb t rows → HasRoom tb t rows k → slice_get rows i ≡ Some p → compare p k ≡ Asks → is_last tb p k ≡ true → Left tb t rows (side false p k) → ⊥
last_left tb t rows i p k q r s e d u = last_none tb r.0 t p k u.0 (row_typed tb t rows i p q s) r.2 u.1 e d u.2

-- each side has room again
pub side_room : (tb : Table) (t : ℕ) (rows : List Pattern) (b : Bool) (i : ℕ) (p : Pattern) (k : Known) → IsTidy tb → AreRows tb t rows → HasRoom tb t rows k → slice_get rows i ≡ Some p → compare p k ≡ Asks → (b ≡ false → is_last tb p k ≡ false) → HasRoom tb t rows (side b p k)
side_room tb t rows b i p k y q r s e d =
    let f = rows_fewer b p i rows k s e in
    (suc r.0, omega (arith, r.1, f), side_alive tb r.0 t b p k y (omega (arith, r.1, f)) (row_typed tb t rows i p q s) r.2 e d)

-- what the two sides report together
pub split_reports : (tb : Table) (t : ℕ) (rows : List Pattern) (p : Pattern) (k : Known) (b : Bool) → compare p k ≡ Asks → (Left tb t rows (side true p k) → ⊥) → Reports b (Left tb t rows (side false p k)) → Reports b (Left tb t rows k)
split_reports tb t rows p k b e f g = (λ z. side_left tb t rows false p k e (g.0 z), λ z u. elim_sides (sides_left tb t rows p k e u) (g.1 z)) where
  elim_sides : (Left tb t rows (side true p k) ⊎ Left tb t rows (side false p k)) → (Left tb t rows (side false p k) → ⊥) → ⊥
  elim_sides (inl h) n = f h
  elim_sides (inr h) n = n h
