-- The arms of the search, in the code's words.
use Rattle.std.proofs.Common.{◌≡◌, ℕ, zero, suc, ◌+◌, ◌<◌, List, [], ◌∷◌, drop, length, get_or, Some, Bool, true, false, refl, sym, ap, ◌∙◌, subst, arith}
use Rattle.std.specs.Prelude.{slice_get, Result, Ok, Err, IfOk}
use Rattle.match_knowledge.specs.declared.rows.Row.{Row}
use Rattle.match_knowledge.specs.declared.verdicts.Verdict.TheVariants.{Fits, Asks}
use Rattle.match_knowledge.specs.declared.unmatched.Choice.{Choice}
use Rattle.match_knowledge.specs.declared.unmatched.Choice.TheVariants.{Nothing}
use Rattle.match_knowledge.specs.declared.verdicts.Verdict.{Verdict}
use Rattle.fip_base.specs.fip_language.Table.{Table}
use Rattle.match_knowledge.specs.ValueHeads.{IsTidy}
use Rattle.match_knowledge.specs.Patterns.{Pattern, AreRows}
use Rattle.match_knowledge.specs.Known.{Known, compare, side, is_last, row_tests}
use Rattle.match_knowledge.specs.Left.{Left, Reports, HasVerdict, AllMiss, IsChoice, next, HasRoom, IsSearch}
use Rattle.match_knowledge.specs.View.{row, rows}
use Rattle.match_knowledge.proofs.RowFacts.{next_is, next_nothing, nothing_left, covered_left, side_left, split_reports, last_left, side_room}
use Rattle.match_knowledge.proofs.Fewer.{rows_fewer}
use Rattle.match_knowledge.proofs.Steps.{at_row, row_at}

pub same_row : (ps : List Row) (k : Known) (i : ℕ) (r : Row) → HasVerdict Asks (rows ps) k i → r ≡ get_or ps i r → (slice_get (rows ps) i ≡ Some (row r)) × (compare (row r) k ≡ Asks)
same_row ps k i r h e =
    let same : h.0 ≡ row r = at_row ps i r h.0 h.1 ∙ ap row (sym e) in
    (h.1 ∙ ap Some same, ap (λ p. compare p k) (sym same) ∙ h.2)

pub room_arm : (tb : Table) (t : ℕ) (ps : List Row) (k k' : Known) (b : Bool) (i : ℕ) (r : Row) → IsTidy tb → AreRows tb t (rows ps) → HasRoom tb t (rows ps) k → HasVerdict Asks (rows ps) k i → r ≡ get_or ps i r → k' ≡ side b (row r) k → (b ≡ false → is_last tb (row r) k ≡ false) → HasRoom tb t (rows ps) k'
room_arm tb t ps k k' b i r y q m h e s d =
    let x = same_row ps k i r h e in
    subst (HasRoom tb t (rows ps)) (sym s) (side_room tb t (rows ps) b i (row r) k y q m x.0 x.1 d)

pub search_arm : (tb : Table) (t : ℕ) (ps : List Row) (k k' : Known) (b : Bool) (i : ℕ) (r : Row) → IsSearch tb t (rows ps) k → HasVerdict Asks (rows ps) k i → r ≡ get_or ps i r → k' ≡ side b (row r) k → (b ≡ false → is_last tb (row r) k ≡ false) → IsSearch tb t (rows ps) k'
search_arm tb t ps k k' b i r q h e s d = record { tidy = q.tidy; typed = q.typed; room = room_arm tb t ps k k' b i r q.tidy q.typed q.room h e s d }

pub yes_search : (tb : Table) (t : ℕ) (ps : List Row) (k k' : Known) (i : ℕ) (r : Row) → IsSearch tb t (rows ps) k → HasVerdict Asks (rows ps) k i → r ≡ get_or ps i r → k' ≡ side true (row r) k → IsSearch tb t (rows ps) k'
yes_search tb t ps k k' i r q h e s = search_arm tb t ps k k' true i r q h e s (λ e. absurd (let z : true ≡ false = e in cc))

pub less_arm : (ps : List Row) (k k' : Known) (b : Bool) (i : ℕ) (r : Row) → HasVerdict Asks (rows ps) k i → r ≡ get_or ps i r → k' ≡ side b (row r) k → row_tests (rows ps) k' < row_tests (rows ps) k
less_arm ps k k' b i r h e s =
    let x = same_row ps k i r h e in
    subst (λ z. row_tests (rows ps) z < row_tests (rows ps) k) (sym s) (rows_fewer b (row r) i (rows ps) k x.0 x.1)

pub covered_arm : (tb : Table) (t : ℕ) (rs : List Pattern) (k : Known) → AreRows tb t rs → HasRoom tb t rs k → (i : ℕ) × HasVerdict Fits rs k i → Reports false (Left tb t rs k)
covered_arm tb t rs k q m h = (λ e. absurd (let z : false ≡ true = e in cc), λ e. covered_left tb t rs k h.0 q m h.1)

pub nothing_arm : (tb : Table) (t : ℕ) (rs : List Pattern) (k : Known) → HasRoom tb t rs k → AllMiss rs k → Reports true (Left tb t rs k)
nothing_arm tb t rs k m h = (λ e. nothing_left tb t rs k m h, λ e. absurd (let z : true ≡ false = e in cc))

pub yes_arm : (tb : Table) (t : ℕ) (ps : List Row) (k k' : Known) (i : ℕ) (r : Row) (f : Bool) → HasVerdict Asks (rows ps) k i → r ≡ get_or ps i r → k' ≡ side true (row r) k → Reports f (Left tb t (rows ps) k') → f ≡ true → Reports true (Left tb t (rows ps) k)
yes_arm tb t ps k k' i r f h e s g z =
    let x = same_row ps k i r h e in
    (λ w. side_left tb t (rows ps) true (row r) k x.1 (subst (Left tb t (rows ps)) s (g.0 z)), λ w. absurd (let z : true ≡ false = w in cc))

pub last_arm : (tb : Table) (t : ℕ) (ps : List Row) (k k' : Known) (i : ℕ) (r : Row) (f l : Bool) → AreRows tb t (rows ps) → HasRoom tb t (rows ps) k → HasVerdict Asks (rows ps) k i → r ≡ get_or ps i r → k' ≡ side true (row r) k → Reports f (Left tb t (rows ps) k') → f ≡ false → l ≡ is_last tb (row r) k → l ≡ true → Reports false (Left tb t (rows ps) k)
last_arm tb t ps k k' i r f l q m h e s g z a b =
    let x = same_row ps k i r h e in
    split_reports tb t (rows ps) (row r) k false x.1 (λ u. g.1 z (subst (Left tb t (rows ps)) (sym s) u))
    (λ w. absurd (let z : false ≡ true = w in cc), λ w. last_left tb t (rows ps) i (row r) k q m x.0 x.1 (sym a ∙ b))

pub no_arm : (tb : Table) (t : ℕ) (ps : List Row) (k k' k'' : Known) (i : ℕ) (r : Row) (f b : Bool) → HasVerdict Asks (rows ps) k i → r ≡ get_or ps i r → k' ≡ side true (row r) k → Reports f (Left tb t (rows ps) k') → f ≡ false → k'' ≡ side false (row r) k → Reports b (Left tb t (rows ps) k'') → Reports b (Left tb t (rows ps) k)
no_arm tb t ps k k' k'' i r f b h e s g z n o =
    let x = same_row ps k i r h e in
    split_reports tb t (rows ps) (row r) k b x.1 (λ u. g.1 z (subst (Left tb t (rows ps)) (sym s) u)) (subst (λ y. Reports b (Left tb t (rows ps) y)) n o)

pub next_arm : (ps : List Row) (k : Known) (c d : Choice) (w : Verdict) (i j n : ℕ) (r : Row) → j < length ps → i ≡ j → r ≡ get_or ps j r → w ≡ compare (row r) k → d ≡ next c w i n → IsChoice (rows ps) k c → IsChoice (rows ps) k d
next_arm ps k c d w i j n r l p e v s h =
    subst (IsChoice (rows ps) k) (sym s) (next_is (rows ps) k c i n (row r) (ap (slice_get (rows ps)) p ∙ row_at ps j r l ∙ ap (λ z. Some (row z)) (sym e)) w (sym v) h)

pub drop_at : (ps : List Row) (j : ℕ) (r : Row) → j < length ps → rows (drop j ps) ≡ row (get_or ps j r) ∷ rows (drop (j + 1) ps)
drop_at [] j r h = absurd (omega arith)
drop_at (q ∷ ps) zero r h = refl
drop_at (q ∷ ps) (suc j) r h = drop_at ps j r (omega arith) ∙ ap (λ z. row (get_or ps j r) ∷ rows z) (let e : suc j + 1 ≡ suc (j + 1) = omega arith in sym (ap (λ z. drop z (q ∷ ps)) e))

pub none_arm : (ps : List Row) (k : Known) (c d : Choice) (w : Verdict) (i j n : ℕ) (r : Row) → j < length ps → r ≡ get_or ps j r → w ≡ compare (row r) k → d ≡ next c w i n → (c ≡ Nothing → AllMiss (rows (drop j ps)) k → AllMiss (rows ps) k) → d ≡ Nothing → AllMiss (rows (drop (j + 1) ps)) k → AllMiss (rows ps) k
none_arm ps k c d w i j n r l e v s h z a =
    let x = next_nothing c w i n (sym s ∙ z) in
    h x.0 (subst (λ y. AllMiss y k) (sym (drop_at ps j r l ∙ ap (λ y. row y ∷ rows (drop (j + 1) ps)) (sym e))) (sym v ∙ x.1, a))

pub if_ok : {A E : Type 0} {P Q : A → Type 0} (r : Result A E) → ((a : A) → P a → Q a) → IfOk r P → IfOk r Q
if_ok (Ok a) f h = f a h
if_ok (Err e) f h = tt
