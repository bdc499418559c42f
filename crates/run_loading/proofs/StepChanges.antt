-- What an instruction of sound code changes, where the cells are apart: nothing, or one write of a cell that isn't
-- released, or releases.
use Rattle.std.proofs.Common.{◌≡◌, ◌⊎◌, inl, inr, ℕ, zero, suc, ◌^◌, ◌<◌, ℤ, pos, negsuc, Bool, true, false, ◌&&◌, List, [], ◌∷◌, length, map, Option, Some, None, slice_get, refl, sym, ap, ap₂, ◌∙◌, subst, arith, nat_lt, true≢false, FitsSigned}
use Rattle.std.specs.Prelude.{option_and_then, option_map, is_some}
use Rattle.std.specs.Int.{w64}
use Rattle.std.proofs.lemmas.Option.{none-some}
use Rattle.tree_refinement.specs.fip_language.Every.{Every}
use Rattle.tree_refinement.specs.fip_language.Arithmetic.{Operated, Is, Fails}
use Rattle.tree_refinement.specs.fip_language.Table.{Table, constructors}
use Rattle.tree_refinement.specs.fip_language.Store.{Cell, Placed, PlacedInt, Bare, At, Parts, NoParts, MoreParts, int_word, word_of, words_of, places}
use Rattle.tree_refinement.specs.cell_code.declared.code.Instr.{Instr}
use Rattle.tree_refinement.specs.cell_code.declared.code.Instr.TheVariants as I
use Rattle.tree_refinement.specs.cell_code.declared.kind.Kind.{Kind}
use Rattle.tree_refinement.specs.cell_code.declared.kind.Kind.TheVariants.{Credit}
use Rattle.tree_refinement.specs.machine_semantics.Words.{place_of, place_word}
use Rattle.tree_refinement.specs.machine_semantics.Cells.{Store, Change, Write, Release, cell_in, cell_at, size_of, released_at}
use Rattle.tree_refinement.specs.machine_semantics.Trees.{Stands, StandAll}
use Rattle.tree_refinement.specs.machine_semantics.States.{State}
use Rattle.tree_refinement.specs.machine_semantics.Rows as W
use Rattle.tree_refinement.specs.machine_semantics.Steps.{Kinds, changes_in, changes_at, changes_of, instr_of, kinds_of}
use Rattle.tree_refinement.specs.machine_semantics.Apart.{holding_uses, owned_uses}
use Rattle.tree_refinement.specs.cell_code.Plain.{PlainCode}
use Rattle.tree_refinement.specs.code_rules.Types.{fields}
use Rattle.tree_refinement.specs.code_rules.Kinds.{at}
use Rattle.tree_refinement.specs.code_rules.Ranges.{are_below, is_constructor}
use Rattle.tree_refinement.specs.code_rules.Handing.{give_all}
use Rattle.tree_refinement.specs.code_rules.Breaks.{IsSound}
use Rattle.tree_refinement.specs.separation_kinds.Meanings.{IsSpare, Means, word_at}
use Rattle.tree_refinement.proofs.separation_kinds.Basics.{both, below, at_past, length_map}
use Rattle.tree_refinement.proofs.separation_kinds.Agree.{one_here, owned_part}
use Rattle.tree_refinement.proofs.separation_kinds.Words.{word_get, read_words}
use Rattle.tree_refinement.proofs.separation_kinds.Giving.{credit_of, given}
use Rattle.tree_refinement.specs.separation.Rows.{IsReady}
use Rattle.tree_refinement.proofs.separation.Reading.{place_is}
use Rattle.tree_refinement.proofs.separation.Stores.{there_few}
use Rattle.tree_refinement.specs.separation.Codes.{HasLiterals, AreKinds}
use Rattle.tree_refinement.specs.separation.Alive.{lower_trees, IsAlive}
use Rattle.tree_refinement.proofs.separation.Local.{ready}
use Rattle.tree_refinement.proofs.separation.Returning.{run_instr_at}
use Rattle.run_loading.specs.TraceText.{IsWord}
use Rattle.run_loading.specs.Writable.{HaveFewConstructors}
use Rattle.tree_refinement.proofs.tree_semantics.machine_semantics.cell_code.fip_base.fip_language.Facts.{get_within, some_of}

-- one write of a cell that isn't released, with a constructor and words that can be written
pub record IsPlainWrite (s : Store) (cs : List Change) : Type 0 where
  pub place : ℕ
  pub tag : ℕ
  pub words : List ℕ
  pub is : cs ≡ Write place tag words ∷ []
  pub cell : Cell
  pub there : cell_at s place ≡ Some cell
  pub size : size_of cell ≡ length words
  pub free : released_at s place ≡ 0
  pub small : tag < 2 ^ 32
  pub bits : Every IsWord words

abbrev pub releases : List ℕ → List Change
releases ps = map (λ p. Release p) ps

abbrev pub IsPlain : Store → List Change → Type 0
IsPlain s cs = IsPlainWrite s cs ⊎ ((ps : List ℕ) × (cs ≡ releases ps))

-- ---- words of trees

pub int_word_small : (i : ℤ) → FitsSigned w64 i → int_word i < 2 ^ 64
int_word_small (pos n) f = let h : n < 2 ^ 63 = f.sfits in omega arith
int_word_small (negsuc n) f = let h : n < 2 ^ 63 = f.sfits in omega arith

pub cell_within : (os : List (Option Cell)) (p : ℕ) (c : Cell) → cell_in os p ≡ Some c → p < length os
cell_within [] p c e = absurd (none-some c e)
cell_within (o ∷ os) zero c e = omega arith
cell_within (o ∷ os) (suc p) c e = let h = cell_within os p c e in omega arith

stands_small : (tb : Table) (s : Store) (t : ℕ) (x : Placed) → HaveFewConstructors tb → length s.cells < 2 ^ 32 → Stands tb s t x → word_of x < 2 ^ 64
stands_small tb s zero (PlacedInt i) few short g = int_word_small i g
stands_small tb s zero (Bare c) few short g = absurd g
stands_small tb s zero (At p c xs) few short g = absurd g
stands_small tb s (suc t) (PlacedInt i) few short g = absurd g
stands_small tb s (suc t) (Bare c) few short g =
    let a = get_within (constructors tb (suc t)) c g.0 g.1 in
    let b = few (suc t) in
    omega arith
stands_small tb s (suc t) (At p c xs) few short g =
    let a = cell_within s.cells p (record { tag = c; fields = words_of xs }) g.0 in
    omega arith

stand_small : (tb : Table) (s : Store) (ts : List ℕ) (xs : Parts) → HaveFewConstructors tb → length s.cells < 2 ^ 32 → StandAll tb s ts xs → Every IsWord (words_of xs)
stand_small tb s [] NoParts few short g = tt
stand_small tb s [] (MoreParts x xs) few short g = absurd g
stand_small tb s (t ∷ ts) NoParts few short g = absurd g
stand_small tb s (t ∷ ts) (MoreParts x xs) few short g = (stands_small tb s t x few short g.0, stand_small tb s ts xs few short g.1)

-- ---- instructions that change no cell

on_plain : (s : State) (o : Option (List ℕ)) → changes_in (W.on s o) ≡ []
on_plain s None = refl
on_plain s (Some ws) = refl

branch_plain : (s : State) (target : ℕ) (o : Option Bool) → changes_in (W.branch s target o) ≡ []
branch_plain s target None = refl
branch_plain s target (Some true) = refl
branch_plain s target (Some false) = refl

calculated_plain : (s : State) (d : ℕ) (o : Option Operated) → changes_in (W.calculated s d o) ≡ []
calculated_plain s d None = refl
calculated_plain s d (Some (Is v)) = on_plain s _
calculated_plain s d (Some (Fails kind)) = refl

none : (s : Store) (cs : List Change) → cs ≡ [] → IsPlain s cs
none s cs e = inr ([], e)

-- ---- releases

on_with : (s : State) (o : Option (List Change)) → ((cs : List Change) → o ≡ Some cs → IsPlain s.store cs) → IsPlain s.store (changes_in (W.on_with s o))
on_with s None h = none s.store [] refl
on_with s (Some cs) h = h cs refl

freed_plain : (s : State) (o : Option ℕ) → IsPlain s.store (changes_in (W.on_with s (option_map (λ p. Release p ∷ []) o)))
freed_plain s None = none s.store [] refl
freed_plain s (Some p) = inr (p ∷ [], refl)

tree_plain : (s : State) (o : Option Placed) → IsPlain s.store (changes_in (W.on_with s (option_map (λ x. map (λ p. Release p) (places x)) o)))
tree_plain s None = none s.store [] refl
tree_plain s (Some x) = inr (places x, refl)

dropped_plain : (tb : Table) (s : State) (w : ℕ) (o : Option ℕ) → IsPlain s.store (changes_in (W.on_with s (W.dropped tb s w o)))
dropped_plain tb s w None = none s.store [] refl
dropped_plain tb s w (Some t) = tree_plain s _

drop_plain : (tb : Table) (s : State) (t : Option ℕ) (o : Option ℕ) → IsPlain s.store (changes_in (W.on_with s (option_and_then (λ w. W.dropped tb s w t) o)))
drop_plain tb s t None = none s.store [] refl
drop_plain tb s t (Some w) = dropped_plain tb s w t

-- ---- a write

puts : (tb : Table) (ks : List Kind) (s : State) (d t k p : ℕ) (rs us : List ℕ) → d < length s.running.words → are_below (length s.running.words) rs ≡ true → place_word p ≡ word_at s.running.words d → us ≡ map (word_at s.running.words) rs → changes_in (W.done tb ks s (I.Put d t k rs)) ≡ Write p k us ∷ []
puts tb ks s d t k p rs us h b e is =
    ap (λ o. changes_in (W.on_with s (option_and_then (λ p. option_map (λ ws. Write p k ws ∷ []) (W.read_all s.running.words rs)) o))) (ap (λ o. option_and_then (λ w. place_of w) o) (word_get s.running.words d h) ∙ place_is p (word_at s.running.words d) e)
    ∙ ap (λ o. changes_in (W.on_with s (option_map (λ ws. Write p k ws ∷ []) o))) (read_words s.running.words rs b)
    ∙ ap (λ vs. Write p k vs ∷ []) (sym is)

put_plain : (c : PlainCode) (types kept : List ℕ) (s : State) (d t k : ℕ) (rs : List ℕ) → HaveFewConstructors c.types → length s.store.cells < 2 ^ 32 → (a : IsAlive c types kept s) → IsReady c a.function (lower_trees a.frozen a.lent) a.kinds a.holds s (I.Put d t k rs) → IsPlain s.store (changes_in (W.done c.types a.kinds s (I.Put d t k rs)))
put_plain c types kept s d t k rs few short a g =
    let p = both (nat_lt d a.function.registers) (is_constructor c.types t k && are_below a.function.registers rs) g.ranged in
    let e = both (is_constructor c.types t k) (are_below a.function.registers rs) p.1 in
    let wide = g.wide in
    let long = g.long in
    let within = below d a.function.registers p.0 in
    let known = below k (length (constructors c.types t)) e.0 in
    let small = few t in
    let ws : List ℕ = s.running.words in
    let rest = some_of (give_all a.kinds rs (fields c.types t k)) g.sources in
    let z = given c.types s.store (lower_trees a.frozen a.lent) a.kinds (word_at ws) a.holds (fields c.types t k) rs rest.0 rest.1 g.meant in
    let credit : at a.kinds d ≡ Credit (length rs) = credit_of (length rs) (at a.kinds d) g.destinations in
    let spare : IsSpare s.store (length rs) (word_at ws d) (a.holds d) = subst (λ k. Means c.types s.store (lower_trees a.frozen a.lent) (at a.kinds) a.holds k (word_at ws d) (a.holds d)) credit (g.meant.each d) in
    let q : ℕ = spare.place in
    let owned : owned_uses q (at a.kinds d) (a.holds d) ≡ 1 = ap (λ k. owned_uses q k (a.holds d)) credit ∙ ap (holding_uses q) spare.holds ∙ one_here q q refl in
    let part = owned_part q (at a.kinds) a.holds (length a.kinds) d (at_past a.kinds) in
    let once = g.once q in
    let one = there_few s.store q in
    inl (record {
      place = q;
      tag = k;
      words = words_of z.trees;
      is = puts c.types a.kinds s d t k q rs (words_of z.trees) (omega arith) (subst (λ n. are_below n rs ≡ true) (sym (long ∙ wide)) e.1) spare.word z.words;
      cell = spare.cell;
      there = spare.there;
      size = spare.size ∙ sym (ap (λ xs. length xs) z.words ∙ length_map (word_at ws) rs);
      free = omega arith;
      small = omega arith;
      bits = stand_small c.types s.store (fields c.types t k) z.trees few short z.stand;
    })

-- ---- any instruction

act_plain : (c : PlainCode) (types kept : List ℕ) (s : State) (x : Instr) → HaveFewConstructors c.types → length s.store.cells < 2 ^ 32 → (a : IsAlive c types kept s) → IsReady c a.function (lower_trees a.frozen a.lent) a.kinds a.holds s x → IsPlain s.store (changes_in (W.done c.types a.kinds s x))
act_plain c types kept s (I.Const d v) few short a g = none s.store _ (on_plain s _)
act_plain c types kept s (I.Atom d t k) few short a g = none s.store _ (on_plain s _)
act_plain c types kept s (I.Move d r) few short a g = none s.store _ (on_plain s _)
act_plain c types kept s (I.Arith d o x y line col) few short a g = none s.store _ (calculated_plain s d _)
act_plain c types kept s (I.Test r k target) few short a g = none s.store _ (branch_plain s target _)
act_plain c types kept s (I.TestInt r v target) few short a g = none s.store _ (branch_plain s target _)
act_plain c types kept s (I.Peek d r i) few short a g = none s.store _ (on_plain s _)
act_plain c types kept s (I.Take r ds) few short a g = none s.store _ (on_plain s _)
act_plain c types kept s (I.Put d t k rs) few short a g = put_plain c types kept s d t k rs few short a g
act_plain c types kept s (I.Drop r) few short a g = drop_plain c.types s _ _
act_plain c types kept s (I.Free r) few short a g = freed_plain s _
act_plain c types kept s (I.Call f rs ds) few short a g = none s.store _ refl
act_plain c types kept s (I.Tail f rs) few short a g = none s.store _ refl
act_plain c types kept s (I.Ret rs) few short a g = none s.store _ refl
act_plain c types kept s (I.Jump target) few short a g = none s.store _ refl

pub step_plain : (c : PlainCode) (before waits : Kinds) (types kept : List ℕ) (s : State) → IsSound c → HasLiterals c → AreKinds c before waits → HaveFewConstructors c.types → length s.store.cells < 2 ^ 32 → IsAlive c types kept s → IsPlain s.store (changes_of before c s)
step_plain c before waits types kept s sound literals kinds few short a =
    let instr : instr_of c s ≡ Some a.instr = run_instr_at c s.running.function s.running.at a.function a.instr a.is a.is_instr in
    let known : kinds_of before s ≡ a.kinds = kinds.known s.running.function s.running.at a.function a.kinds a.is a.known in
    subst (IsPlain s.store) (sym (ap₂ (λ ks x. changes_at c ks s x) known instr)) (act_plain c types kept s a.instr few short a (ready c types kept s sound literals a))
