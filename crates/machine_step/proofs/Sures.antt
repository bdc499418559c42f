-- What is sure of the cells that words name, where an instruction can be done.
use Rattle.std.proofs.Common.{◌≡◌, ◌≢◌, ℕ, ◌+◌, ◌/◌, ◌%◌, ◌<◌, ◌≤◌, Bool, List, [], ◌∷◌, length, get_or, Option, Some, None, refl, sym, ap, subst, ◌∙◌}
use Rattle.std.specs.Prelude.{slice_get, option_map, option_and_then, ◌==◌}
use Rattle.std.proofs.lemmas.Option.{same_Some}
use Rattle.fip_language.specs.Store.{Cell}
use Rattle.cell_code.specs.declared.code.Instr.{Instr}
use Rattle.cell_code.specs.declared.code.Instr.TheVariants as I
use Rattle.cell_code.specs.declared.kind.Kind.{Kind}
use Rattle.code_verify.specs.Checked.{Checked}
use Rattle.cell_code.specs.Plain.{PlainCode, plain}
use Rattle.machine_frames.specs.machine_semantics.Codes.{instr_at}
use Rattle.machine_frames.specs.machine_semantics.Cells.{Store, cell_in}
use Rattle.machine_frames.specs.machine_semantics.Rows.{named, on, branch, constructor_of, write, write_all}
use Rattle.machine_frames.specs.machine_semantics.States.{Typed, State}
use Rattle.machine_frames.specs.machine_semantics.Steps.{Kinds, act, act_at, went}
use Rattle.machine_frames.proofs.Viewed.{frame_get}
use Rattle.machine_step.specs.declared.cursor.Bounds.{Bounds}
use Rattle.machine_step.specs.declared.cursor.Cursor.{Cursor}
use Rattle.machine_step.specs.declared.rows.Stepped.TheVariants as S
use Rattle.machine_step.specs.Placed.{IsPlaced}
use Rattle.machine_step.specs.View.{words_of, state_of}
use Rattle.machine_step.specs.Going.{HasGone}
use Rattle.machine_step.specs.Telling.{IsKnown}
use Rattle.machine_step.specs.Sure.{CanGo, CanAct}
use Rattle.machine_step.proofs.Calls.{written_long}
use Rattle.machine_step.proofs.Goings.{instr_is, next_is, one_gone, both_gone}
use Rattle.machine_step.proofs.Helps.{odd_constructor}
use Rattle.machine_step.proofs.RowNexts.{then_known, map_known, named_cell}

-- what can go on still can after some instructions
pub can_go_after : (kinds : Kinds) (code : PlainCode) (a b : State) → CanGo kinds code a → HasGone kinds code a b → CanGo kinds code b
can_go_after kinds code a b goes gone n t lead = let all = both_gone kinds code a b t gone (n, lead) in goes all.0 t all.1

-- the next instruction can be done
pub can_act : (v : Checked) (b : Bounds) (n : ℕ) (kinds : Kinds) (lent : List Typed) (s : Store) (ws : List ℕ) (c : Cursor) (x : Instr) → IsPlaced v b n c → slice_get c.instrs.now c.at ≡ Some x → CanGo kinds (plain v.code) (state_of v b lent s ws c) → CanAct kinds (plain v.code) (kinds c.function c.at) (state_of v b lent s ws c) x
can_act v b n kinds lent s ws c x p e goes =
    let old = state_of v b lent s ws c in
    let ks = kinds c.function c.at in
    let at : act_at (plain v.code) ks old (instr_at (plain v.code) c.function c.at) ≡ act (plain v.code) ks old x = ap (act_at (plain v.code) ks old) (instr_is v b n c x p e) in
    record {
      known = subst IsKnown at (goes 0 old refl);
      following = λ t comes. can_go_after kinds (plain v.code) old t goes (one_gone kinds (plain v.code) old t (next_is v b n kinds lent s ws c x S.Went t [] p e comes));
    }

on_known : (s : State) (o : Option (List ℕ)) → IsKnown (went s (on s o)) → (us : List ℕ) × (o ≡ Some us)
on_known s None h = absurd h
on_known s (Some us) h = (us, refl)

branch_known : (s : State) (target : ℕ) (o : Option Bool) → IsKnown (went s (branch s target o)) → (u : Bool) × (o ≡ Some u)
branch_known s target None h = absurd h
branch_known s target (Some u) h = (u, refl)

module _ (v : Checked) (b : Bounds) (ks : List Kind) (lent : List Typed) (s : Store) (ws : List ℕ) (c : Cursor) where
  abbrev old : State
  old = state_of v b lent s ws c

  abbrev now : List ℕ
  now = words_of ws c

  abbrev word : ℕ → ℕ
  word x = get_or ws (c.base + x) 0

  -- the cell that is tested
  pub tested_cell : (x k target : ℕ) → x < c.registers → c.base + c.registers ≤ length ws → word x % 2 ≢ 0 → IsKnown (act (plain v.code) ks old (I.Test x k target)) → (u : Cell) × (cell_in s.cells (word x / 2) ≡ Some u)
  tested_cell x k target h l odd known =
      let tags = option_and_then (λ w. constructor_of s w) (slice_get now x) in
      let z = branch_known old target (option_map (λ z. z == k) tags) known in
      let m = map_known (λ z. z == k) tags z.0 z.1 in
      let o = then_known (λ w. constructor_of s w) (slice_get now x) m.value m.is in
      let w : o.value ≡ word x = same_Some o.value (word x) (sym o.is ∙ frame_get c.base c.registers x ws h l) in
      let cell = odd_constructor s (word x) m.value odd (ap (constructor_of s) (sym w) ∙ o.gives) in
      (cell.cell, cell.at)

  -- the cell whose field is read
  pub peeked_cell : (d x i : ℕ) → x < c.registers → c.base + c.registers ≤ length ws → IsKnown (act (plain v.code) ks old (I.Peek d x i)) → (u : Cell) × (w : ℕ) × (cell_in s.cells (word x / 2) ≡ Some u) × (slice_get u.fields i ≡ Some w)
  peeked_cell d x i k l known =
      let cells = option_and_then (λ w. named s w) (slice_get now x) in
      let z = on_known old (option_and_then (λ w. write now d w) (option_and_then (λ u. slice_get u.fields i) cells)) known in
      let a = then_known (λ w. write now d w) (option_and_then (λ u. slice_get u.fields i) cells) z.0 z.1 in
      let p = then_known (λ (u : Cell). slice_get u.fields i) cells a.value a.is in
      let q = then_known (λ w. named s w) (slice_get now x) p.value p.is in
      let w : q.value ≡ word x = same_Some q.value (word x) (sym q.is ∙ frame_get c.base c.registers x ws k l) in
      (p.value, a.value, named_cell s (word x) p.value (ap (named s) (sym w) ∙ q.gives), p.gives)

  -- the cell that is taken
  pub taken_cell : (x : ℕ) (ds : List ℕ) → ds ≢ [] → x < c.registers → c.base + c.registers ≤ length ws → IsKnown (act (plain v.code) ks old (I.Take x ds)) → (u : Cell) × (cell_in s.cells (word x / 2) ≡ Some u) × (length u.fields ≡ length ds)
  taken_cell x [] some h l known = absurd (some refl)
  taken_cell x (d ∷ ds) some h l known =
      let cells = option_and_then (λ w. named s w) (slice_get now x) in
      let z = on_known old (option_and_then (λ u. write_all now (d ∷ ds) u.fields) cells) known in
      let p = then_known (λ (u : Cell). write_all now (d ∷ ds) u.fields) cells z.0 z.1 in
      let q = then_known (λ w. named s w) (slice_get now x) p.value p.is in
      let w : q.value ≡ word x = same_Some q.value (word x) (sym q.is ∙ frame_get c.base c.registers x ws h l) in
      (p.value, named_cell s (word x) p.value (ap (named s) (sym w) ∙ q.gives), sym (written_long now (d ∷ ds) p.value.fields z.0 p.gives))
