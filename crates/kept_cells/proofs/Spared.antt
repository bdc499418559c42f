-- No step changes a kept cell: an instruction writes only the cell of a credit, which its register owns, and a cell that
-- is owned isn't kept; a release changes no cell's constructor or fields.
use Rattle.std.proofs.Common.{◌≡◌, ℕ, zero, suc, ◌<◌, ◌≤◌, Bool, true, false, ◌&&◌, List, [], ◌∷◌, length, map, Option, Some, None, slice_set, refl, sym, ap, ap₂, ◌∙◌, subst, arith, nat_lt, nat_eq, true≢false, if◌then◌else◌}
use Rattle.std.specs.Prelude.{option_and_then, option_map, is_some, slice_get}
use Rattle.std.proofs.lemmas.Option.{none-some, same_Some, option_and_then_some}
use Rattle.separation.specs.fip_language.Arithmetic.{Operated, Is, Fails}
use Rattle.separation.specs.fip_language.Store.{Cell, Placed, count, places, words_of}
use Rattle.separation.specs.cell_code.declared.code.Instr.{Instr}
use Rattle.separation.specs.cell_code.declared.code.Instr.TheVariants as I
use Rattle.separation.specs.cell_code.declared.kind.Kind.{Kind}
use Rattle.separation.specs.cell_code.declared.kind.Kind.TheVariants.{Credit}
use Rattle.separation.specs.fip_language.Table.{Table}
use Rattle.separation.specs.machine_semantics.Apart.{holding_uses, owned_uses}
use Rattle.separation.specs.machine_semantics.Cells.{Store, Change, Write, Release, cell_at, size_of, released_at, written, given_up, changed, changed_by}
use Rattle.separation.specs.machine_semantics.Rows as W
use Rattle.separation.specs.machine_semantics.Runs.{Run, Going, Over, state_of, begun, comes, later, after}
use Rattle.separation.specs.machine_semantics.States.{State, Next, Went, Entered, Gave, Trapped, TooDeep, Stuck}
use Rattle.separation.specs.machine_semantics.Steps.{Kinds, next, changes_in, changes_at, changes_of, instr_of, kinds_of}
use Rattle.separation.specs.machine_semantics.Words.{place_of, place_word}
use Rattle.separation.proofs.machine_semantics.Followed.{Followed, followed}
use Rattle.separation.specs.code_rules.Breaks.{IsSound}
use Rattle.separation.specs.cell_code.Plain.{PlainCode, results}
use Rattle.separation.specs.code_rules.Handing.{give_all}
use Rattle.separation.specs.code_rules.Kinds.{at}
use Rattle.separation.specs.code_rules.Ranges.{are_below, is_constructor}
use Rattle.separation.specs.code_rules.Types.{fields}
use Rattle.separation.specs.separation_kinds.Meanings.{IsSpare, Means, word_at}
use Rattle.separation.proofs.separation_kinds.Agree.{one_here, owned_part}
use Rattle.separation.proofs.separation_kinds.Basics.{both, below, at_past, pick}
use Rattle.separation.proofs.separation_kinds.Giving.{credit_of}
use Rattle.separation.proofs.separation_kinds.Words.{word_get, read_words}
use Rattle.separation.specs.Alive.{lower_trees, IsAlive}
use Rattle.separation.specs.Codes.{HasLiterals, AreKinds}
use Rattle.separation.specs.Rows.{IsReady}
use Rattle.separation.specs.Starts.{IsStart}
use Rattle.separation.proofs.Loading.{start_alive}
use Rattle.separation.proofs.Local.{ready}
use Rattle.separation.proofs.Reading.{place_is}
use Rattle.separation.proofs.Returning.{run_instr_at}
use Rattle.separation.proofs.Running.{GoodRun, later_good, begun_good, run_alive}
use Rattle.separation.proofs.Stores.{same_place, there_few}

-- ---- changes that write no kept cell

-- a place that isn't kept
abbrev pub Spares : List ℕ → List Change → Type 0
Spares kept [] = Unit {0}
Spares kept (Write p tag ws ∷ cs) = (count p kept ≡ 0) × Spares kept cs
Spares kept (Release p ∷ cs) = Spares kept cs

set_other : (os : List (Option Cell)) (p q : ℕ) (o : Option Cell) → (p ≡ q → ⊥) → cell_at (record { cells = slice_set os p o; released = [] }) q ≡ cell_at (record { cells = os; released = [] }) q
set_other [] p q o off = refl
set_other (x ∷ os) zero zero o off = absurd (off refl)
set_other (x ∷ os) zero (suc q) o off = refl
set_other (x ∷ os) (suc p) zero o off = refl
set_other (x ∷ os) (suc p) (suc q) o off = set_other os p q o (λ e. off (ap suc e))

write_keeps : (s t : Store) (p q : ℕ) (new : Cell) (o : Option Cell) → (p ≡ q → ⊥) → written s p new o ≡ Some t → cell_at t q ≡ cell_at s q
write_keeps s t p q new None off e = absurd (none-some t e)
write_keeps s t p q new (Some old) off e =
    pick (λ (r : Option Store). r ≡ Some t → cell_at t q ≡ cell_at s q) (nat_eq (size_of old) (size_of new)) (Some (record s { cells = slice_set s.cells p (Some new) })) None
    (λ yes is. subst (λ (u : Store). cell_at u q ≡ cell_at s q) (same_Some (record s { cells = slice_set s.cells p (Some new) }) t is) (set_other s.cells p q (Some new) off))
    (λ no is. absurd (none-some t is)) e

release_keeps : (s t : Store) (p q : ℕ) (o : Option Cell) (r : Option Bool) → given_up s p o r ≡ Some t → cell_at t q ≡ cell_at s q
release_keeps s t p q None r e = absurd (none-some t e)
release_keeps s t p q (Some c) None e = absurd (none-some t e)
release_keeps s t p q (Some c) (Some true) e = absurd (none-some t e)
release_keeps s t p q (Some c) (Some false) e = ap (λ (u : Store). cell_at u q) (sym (same_Some (record s { released = slice_set s.released p true }) t e))

kept_apart : (kept : List ℕ) (p q : ℕ) → count p kept ≡ 0 → 0 < count q kept → p ≡ q → ⊥
kept_apart kept p q none some e = let same = ap (λ n. count n kept) e in omega (arith, none, some, same)

pub changes_keep : (kept : List ℕ) (cs : List Change) (s t : Store) (q : ℕ) → Spares kept cs → 0 < count q kept → changed_by cs s ≡ Some t → cell_at t q ≡ cell_at s q
changes_keep kept [] s t q h some e = ap (λ (u : Store). cell_at u q) (sym (same_Some s t e))
changes_keep kept (Write p tag ws ∷ cs) s t q h some e = option_and_then_some (λ u. changed_by cs u) (changed (Write p tag ws) s) t e (λ u is more.
    changes_keep kept cs u t q h.1 some more ∙ write_keeps s u p q (record { tag = tag; fields = ws }) (cell_at s p) (kept_apart kept p q h.0 some) is)
changes_keep kept (Release p ∷ cs) s t q h some e = option_and_then_some (λ u. changed_by cs u) (changed (Release p) s) t e (λ u is more.
    changes_keep kept cs u t q h some more ∙ release_keeps s u p q (cell_at s p) (slice_get s.released p) is)

-- the same, as one fact
record IsSpared (kept : List ℕ) (cs : List Change) : Type 0 where
  each : Spares kept cs

-- ---- instructions that write no cell

nothing : (kept : List ℕ) (cs : List Change) → cs ≡ [] → IsSpared kept cs
nothing kept cs e = record { each = subst (Spares kept) (sym e) tt }

releases_spare : (kept ps : List ℕ) → Spares kept (map (λ p. Release p) ps)
releases_spare kept [] = tt
releases_spare kept (p ∷ ps) = releases_spare kept ps

on_nothing : (s : State) (o : Option (List ℕ)) → changes_in (W.on s o) ≡ []
on_nothing s None = refl
on_nothing s (Some ws) = refl

branch_nothing : (s : State) (target : ℕ) (o : Option Bool) → changes_in (W.branch s target o) ≡ []
branch_nothing s target None = refl
branch_nothing s target (Some true) = refl
branch_nothing s target (Some false) = refl

calculated_nothing : (s : State) (d : ℕ) (o : Option Operated) → changes_in (W.calculated s d o) ≡ []
calculated_nothing s d None = refl
calculated_nothing s d (Some (Is v)) = on_nothing s _
calculated_nothing s d (Some (Fails kind)) = refl

freed_spares : (kept : List ℕ) (s : State) (o : Option ℕ) → IsSpared kept (changes_in (W.on_with s (option_map (λ p. Release p ∷ []) o)))
freed_spares kept s None = record { each = tt }
freed_spares kept s (Some p) = record { each = tt }

tree_spares : (kept : List ℕ) (s : State) (o : Option Placed) → IsSpared kept (changes_in (W.on_with s (option_map (λ x. map (λ p. Release p) (places x)) o)))
tree_spares kept s None = record { each = tt }
tree_spares kept s (Some x) = record { each = releases_spare kept (places x) }

dropped_spares : (kept : List ℕ) (tb : Table) (s : State) (w : ℕ) (o : Option ℕ) → IsSpared kept (changes_in (W.on_with s (W.dropped tb s w o)))
dropped_spares kept tb s w None = record { each = tt }
dropped_spares kept tb s w (Some t) = tree_spares kept s _

drop_spares : (kept : List ℕ) (tb : Table) (s : State) (t : Option ℕ) (o : Option ℕ) → IsSpared kept (changes_in (W.on_with s (option_and_then (λ w. W.dropped tb s w t) o)))
drop_spares kept tb s t None = record { each = tt }
drop_spares kept tb s t (Some w) = dropped_spares kept tb s w t

-- ---- a write

put_changes : (tb : Table) (ks : List Kind) (s : State) (d t k p : ℕ) (rs : List ℕ) → d < length s.running.words → are_below (length s.running.words) rs ≡ true → place_word p ≡ word_at s.running.words d → changes_in (W.done tb ks s (I.Put d t k rs)) ≡ Write p k (map (word_at s.running.words) rs) ∷ []
put_changes tb ks s d t k p rs h b e =
    ap (λ o. changes_in (W.on_with s (option_and_then (λ p. option_map (λ ws. Write p k ws ∷ []) (W.read_all s.running.words rs)) o))) (ap (λ o. option_and_then (λ w. place_of w) o) (word_get s.running.words d h) ∙ place_is p (word_at s.running.words d) e)
    ∙ ap (λ o. changes_in (W.on_with s (option_map (λ ws. Write p k ws ∷ []) o))) (read_words s.running.words rs b)

put_spares : (c : PlainCode) (types kept : List ℕ) (s : State) (d t k : ℕ) (rs : List ℕ) → (a : IsAlive c types kept s) → IsReady c a.function (lower_trees a.frozen a.lent) a.kinds a.holds s (I.Put d t k rs) → IsSpared kept (changes_in (W.done c.types a.kinds s (I.Put d t k rs)))
put_spares c types kept s d t k rs a g =
    let p = both (nat_lt d a.function.registers) (is_constructor c.types t k && are_below a.function.registers rs) g.ranged in
    let e = both (is_constructor c.types t k) (are_below a.function.registers rs) p.1 in
    let wide = g.wide in
    let long = g.long in
    let within = below d a.function.registers p.0 in
    let ws : List ℕ = s.running.words in
    let credit : at a.kinds d ≡ Credit (length rs) = credit_of (length rs) (at a.kinds d) g.destinations in
    let spare : IsSpare s.store (length rs) (word_at ws d) (a.holds d) = subst (λ k. Means c.types s.store (lower_trees a.frozen a.lent) (at a.kinds) a.holds k (word_at ws d) (a.holds d)) credit (g.meant.each d) in
    let q : ℕ = spare.place in
    let owned : owned_uses q (at a.kinds d) (a.holds d) ≡ 1 = ap (λ k. owned_uses q k (a.holds d)) credit ∙ ap (holding_uses q) spare.holds ∙ one_here q q refl in
    let part = owned_part q (at a.kinds) a.holds (length a.kinds) d (at_past a.kinds) in
    let once = a.once q in
    let one = there_few s.store q in
    let free : count q kept ≡ 0 = omega arith in
    subst (IsSpared kept) (sym (put_changes c.types a.kinds s d t k q rs (omega arith) (subst (λ n. are_below n rs ≡ true) (sym (long ∙ wide)) e.1) spare.word)) (record { each = (free, tt) })

-- ---- any step

act_spares : (c : PlainCode) (types kept : List ℕ) (s : State) (x : Instr) → (a : IsAlive c types kept s) → IsReady c a.function (lower_trees a.frozen a.lent) a.kinds a.holds s x → IsSpared kept (changes_in (W.done c.types a.kinds s x))
act_spares c types kept s (I.Const d v) a g = nothing kept _ (on_nothing s _)
act_spares c types kept s (I.Atom d t k) a g = nothing kept _ (on_nothing s _)
act_spares c types kept s (I.Move d r) a g = nothing kept _ (on_nothing s _)
act_spares c types kept s (I.Arith d o x y line col) a g = nothing kept _ (calculated_nothing s d _)
act_spares c types kept s (I.Test r k target) a g = nothing kept _ (branch_nothing s target _)
act_spares c types kept s (I.TestInt r v target) a g = nothing kept _ (branch_nothing s target _)
act_spares c types kept s (I.Peek d r i) a g = nothing kept _ (on_nothing s _)
act_spares c types kept s (I.Take r ds) a g = nothing kept _ (on_nothing s _)
act_spares c types kept s (I.Put d t k rs) a g = put_spares c types kept s d t k rs a g
act_spares c types kept s (I.Drop r) a g = drop_spares kept c.types s _ _
act_spares c types kept s (I.Free r) a g = freed_spares kept s _
act_spares c types kept s (I.Call f rs ds) a g = nothing kept _ refl
act_spares c types kept s (I.Tail f rs) a g = nothing kept _ refl
act_spares c types kept s (I.Ret rs) a g = nothing kept _ refl
act_spares c types kept s (I.Jump target) a g = nothing kept _ refl

step_spares : (c : PlainCode) (before waits : Kinds) (types kept : List ℕ) (s : State) → IsSound c → HasLiterals c → AreKinds c before waits → IsAlive c types kept s → IsSpared kept (changes_of before c s)
step_spares c before waits types kept s sound literals kinds a =
    let instr : instr_of c s ≡ Some a.instr = run_instr_at c s.running.function s.running.at a.function a.instr a.is a.is_instr in
    let known : kinds_of before s ≡ a.kinds = kinds.known s.running.function s.running.at a.function a.kinds a.is a.known in
    subst (IsSpared kept) (sym (ap₂ (λ ks x. changes_at c ks s x) known instr)) (act_spares c types kept s a.instr a (ready c types kept s sound literals a))

pub went : (c : PlainCode) (before waits : Kinds) (types kept : List ℕ) (s t : State) (p : ℕ) → IsSound c → HasLiterals c → AreKinds c before waits → IsAlive c types kept s → 0 < count p kept → next before c s ≡ Went t → cell_at t.store p ≡ cell_at s.store p
went c before waits types kept s t p sound literals kinds a some is =
    changes_keep kept (changes_of before c s) s.store t.store p (step_spares c before waits types kept s sound literals kinds a).each some
    (subst (Followed (changes_of before c s) s) is (followed before c s))

pub entered : (c : PlainCode) (before : Kinds) (s t : State) (p : ℕ) → next before c s ≡ Entered t → cell_at t.store p ≡ cell_at s.store p
entered c before s t p is = ap (λ (u : Store). cell_at u p) (subst (Followed (changes_of before c s) s) is (followed before c s))

-- ---- runs

comes_kept : (c : PlainCode) (before waits : Kinds) (types kept : List ℕ) (s : State) (left n p : ℕ) (x : Next) → next before c s ≡ x → IsSound c → HasLiterals c → AreKinds c before waits → IsAlive c types kept s → 0 < count p kept → cell_at (state_of (comes s left n x)).store p ≡ cell_at s.store p
comes_kept c before waits types kept s left n p (Went t) is sound literals kinds a some = went c before waits types kept s t p sound literals kinds a some is
comes_kept c before waits types kept s zero n p (Entered t) is sound literals kinds a some = refl
comes_kept c before waits types kept s (suc left) n p (Entered t) is sound literals kinds a some = entered c before s t p is
comes_kept c before waits types kept s left n p (Gave ws) is sound literals kinds a some = refl
comes_kept c before waits types kept s left n p (Trapped kind line col) is sound literals kinds a some = refl
comes_kept c before waits types kept s zero n p TooDeep is sound literals kinds a some = refl
comes_kept c before waits types kept s (suc left) n p TooDeep is sound literals kinds a some = refl
comes_kept c before waits types kept s left n p Stuck is sound literals kinds a some = refl

later_kept : (c : PlainCode) (before waits : Kinds) (types kept : List ℕ) (r : Run) (p : ℕ) → IsSound c → HasLiterals c → AreKinds c before waits → GoodRun c types kept r → 0 < count p kept → cell_at (state_of (later before c r)).store p ≡ cell_at (state_of r).store p
later_kept c before waits types kept (Going s left n) p sound literals kinds g some = comes_kept c before waits types kept s left (suc n) p (next before c s) refl sound literals kinds g some
later_kept c before waits types kept (Over e s left n) p sound literals kinds g some = refl

after_kept : (c : PlainCode) (before waits : Kinds) (types kept : List ℕ) (k : ℕ) (r : Run) (p : ℕ) → IsSound c → HasLiterals c → AreKinds c before waits → GoodRun c types kept r → 0 < count p kept → cell_at (state_of (after before c k r)).store p ≡ cell_at (state_of r).store p
after_kept c before waits types kept zero r p sound literals kinds g some = refl
after_kept c before waits types kept (suc k) r p sound literals kinds g some =
    after_kept c before waits types kept k (later before c r) p sound literals kinds (later_good c before waits types kept r sound literals kinds g) some
    ∙ later_kept c before waits types kept r p sound literals kinds g some

begun_state : (s : State) (calls : ℕ) → state_of (begun s calls) ≡ s
begun_state s zero = refl
begun_state s (suc calls) = refl

pub run_kept : (c : PlainCode) (before waits : Kinds) (n : ℕ) (kept : List ℕ) (s : State) (calls k p : ℕ) → IsStart c before waits n kept s → 0 < count p kept → cell_at (state_of (after before c k (begun s calls))).store p ≡ cell_at s.store p
run_kept c before waits n kept s calls k p t some =
    after_kept c before waits (results c n) kept k (begun s calls) p t.sound t.literals t.kinds (begun_good c (results c n) kept s calls (start_alive c before waits n kept s t)) some
    ∙ ap (λ (u : State). cell_at u.store p) (begun_state s calls)

-- a cell isn't kept and released
pub run_held : (c : PlainCode) (before waits : Kinds) (n : ℕ) (kept : List ℕ) (s : State) (calls k p : ℕ) → IsStart c before waits n kept s → 0 < count p kept → released_at (state_of (after before c k (begun s calls))).store p ≡ 0
run_held c before waits n kept s calls k p t some =
    let a = run_alive c before waits n kept s calls k t in
    let once = a.once p in
    let one = there_few (state_of (after before c k (begun s calls))).store p in
    omega arith
