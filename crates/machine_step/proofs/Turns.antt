-- What each instruction of a turn is by the definition: a test of a bool that was just written, and a test, a Take and a
-- Put of a cell that was looked up.
use Rattle.std.proofs.Common.{◌≡◌, ◌≢◌, ℕ, ◌+◌, ◌/◌, ◌%◌, ◌<◌, ◌≤◌, Bool, List, [], length, get_or, Some, None, refl, sym, ap, subst, ◌∙◌, arith}
use Rattle.std.specs.Prelude.{slice_get, slice_set, option_map, nat_eq, if◌then◌else◌}
use Rattle.std.proofs.lemmas.Bool.Decides.{nat_tests}
use Rattle.std.proofs.lemmas.Option.{same_Some}
use Rattle.fip_language.specs.Store.{Cell}
use Rattle.cell_code.specs.declared.code.Instr.{Instr}
use Rattle.cell_code.specs.declared.code.Instr.TheVariants as I
use Rattle.cell_code.specs.Runnable.{AreBelow, AreOthers}
use Rattle.cell_store.specs.Cells.{Cells, cell_at}
use Rattle.code_verify.specs.Checked.{Checked}
use Rattle.cell_code.specs.Plain.{plain}
use Rattle.machine_frames.specs.machine_semantics.Cells.{Store}
use Rattle.machine_frames.specs.machine_semantics.Rows.{constructor_of}
use Rattle.machine_frames.specs.machine_semantics.States.{Typed, State}
use Rattle.machine_frames.specs.machine_semantics.Steps.{Kinds}
use Rattle.machine_frames.specs.Keeping.{Keeps}
use Rattle.machine_frames.specs.Words.{words_from, put_words}
use Rattle.machine_frames.proofs.Laid.{put_other}
use Rattle.machine_frames.proofs.Viewed.{frame_get, put_long}
use Rattle.machine_cells.specs.Outcomes.{truth_word}
use Rattle.machine_cells.specs.Small.{IsSmall, store_of}
use Rattle.machine_cells.proofs.Pendings.{same_cell, is_there}
use Rattle.machine_step.specs.declared.cursor.Bounds.{Bounds}
use Rattle.machine_step.specs.declared.cursor.Cursor.{Cursor}
use Rattle.machine_step.specs.declared.rows.Stepped.TheVariants as S
use Rattle.machine_step.specs.Placed.{IsPlaced}
use Rattle.machine_step.specs.View.{words_of, state_of}
use Rattle.machine_step.specs.Coming.{moved}
use Rattle.machine_step.specs.Going.{HasGone, Names}
use Rattle.machine_step.proofs.RowNexts.{test_next, take_next, put_next}
use Rattle.machine_step.proofs.Goings.{next_is, one_gone, flag_is, named_word, some_there}
use Rattle.machine_step.proofs.Helps.{odd_constructor}

module _ (v : Checked) (b : Bounds) (kinds : Kinds) (lent : List Typed) (ws : List ℕ) (c : Cursor) (placed : IsPlaced v b (length ws) c) (x : Instr) (at : slice_get c.instrs.now c.at ≡ Some x) where
  -- a test of a bool's word
  pub flag_gone : (s : Store) (t : State) (r q k target : ℕ) (holds on : Bool) → x ≡ I.Test r k target → r ≡ q → r < c.registers → slice_get (words_of ws c) q ≡ Some (truth_word holds) → on ≡ nat_eq k (if holds then 1 else 0) → t ≡ moved (if on then c.at + 1 else target) (words_of ws c) (state_of v b lent s ws c) → HasGone kinds (plain v.code) (state_of v b lent s ws c) t
  flag_gone s t r q k target holds on is same below word e to =
      let room = placed.room in
      let there : get_or ws (c.base + r) 0 ≡ truth_word holds = same_Some (get_or ws (c.base + r) 0) (truth_word holds) (sym (frame_get c.base c.registers r ws below room) ∙ ap (slice_get (words_of ws c)) same ∙ word) in
      one_gone kinds (plain v.code) (state_of v b lent s ws c) t (next_is v b (length ws) kinds lent s ws c (I.Test r k target) S.Went t [] placed (at ∙ ap Some is) (test_next v b (kinds c.function c.at) lent s ws c S.Went t [] r k target on below room (λ z f.
      let z_is = flag_is s holds z (ap (constructor_of s) (sym there) ∙ f) in
      ap (λ n. nat_eq n k) z_is ∙ turned_eq (if holds then 1 else 0) k ∙ sym e) refl to))
    where
      turned_eq : (m n : ℕ) → nat_eq m n ≡ nat_eq n m
      turned_eq m n = grind (arith, nat_tests)

  -- a test of a cell
  pub test_gone : (cs : Cells) (rs : List Bool) (t : State) (r q k target p tag : ℕ) (on : Bool) → IsSmall cs → x ≡ I.Test r k target → r ≡ q → r < c.registers → Names cs (words_of ws c) q p → option_map (λ (u : Cell). u.tag) (cell_at cs p) ≡ Some tag → on ≡ nat_eq tag k → t ≡ moved (if on then c.at + 1 else target) (words_of ws c) (state_of v b lent (store_of cs rs) ws c) → HasGone kinds (plain v.code) (state_of v b lent (store_of cs rs) ws c) t
  test_gone cs rs t r q k target p tag on small is same below names read e to =
      let room = placed.room in
      let s = store_of cs rs in
      let n : Names cs (words_of ws c) r p = subst (λ i. Names cs (words_of ws c) i p) (sym same) names in
      let w = named_word cs ws c r p n below room in
      let odd : get_or ws (c.base + r) 0 % 2 ≢ 0 = subst (λ i. i % 2 ≢ 0) w n.odd in
      one_gone kinds (plain v.code) (state_of v b lent s ws c) t (next_is v b (length ws) kinds lent s ws c (I.Test r k target) S.Went t [] placed (at ∙ ap Some is) (test_next v b (kinds c.function c.at) lent s ws c S.Went t [] r k target on below room (λ z f.
      let o = odd_constructor s (get_or ws (c.base + r) 0) z odd f in
      let there : cell_at cs (get_or ws (c.base + r) 0 / 2) ≡ Some o.cell = same_cell cs (get_or ws (c.base + r) 0 / 2) ∙ o.at in
      let place : p ≡ get_or ws (c.base + r) 0 / 2 = n.place small (is_there (cell_at cs (n.word / 2)) o.cell (ap (λ i. cell_at cs (i / 2)) w ∙ there)) ∙ ap (λ i. i / 2) w in
      let tags : tag ≡ z = same_Some tag z (sym read ∙ ap (λ i. option_map (λ (u : Cell). u.tag) (cell_at cs i)) place ∙ ap (option_map (λ (u : Cell). u.tag)) there ∙ ap Some o.tag) in
      ap (λ i. nat_eq i k) (sym tags) ∙ sym e) refl to))

  -- a cell is taken
  pub take_gone : (cs : Cells) (rs : List Bool) (us : List ℕ) (t : State) (r q p : ℕ) (ds : List ℕ) → IsSmall cs → x ≡ I.Take r ds → r ≡ q → r < c.registers → AreBelow c.registers ds → Names cs (words_of ws c) q p → cell_at cs p ≢ None → length us ≡ length ws → Keeps c.base ws us → ((u : Cell) → cell_at cs p ≡ Some u → us ≡ put_words c.base ws ds u.fields) → t ≡ moved (c.at + 1) (words_of us c) (state_of v b lent (store_of cs rs) us c) → HasGone kinds (plain v.code) (state_of v b lent (store_of cs rs) ws c) t
  take_gone cs rs us t r q p ds small is same below all names there long keeps put to =
      let room = placed.room in
      let s = store_of cs rs in
      let n : Names cs (words_of ws c) r p = subst (λ i. Names cs (words_of ws c) i p) (sym same) names in
      let w = named_word cs ws c r p n below room in
      let cell = some_there (cell_at cs p) there in
      one_gone kinds (plain v.code) (state_of v b lent s ws c) t (next_is v b (length ws) kinds lent s ws c (I.Take r ds) S.Went t [] placed (at ∙ ap Some is) (take_next v b (kinds c.function c.at) lent s ws c S.Went t [] r ds us below room all long keeps (λ e. put cell.0 cell.1 ∙ ap (λ es. put_words c.base ws es cell.0.fields) e) (λ u some found size.
      let found' : cell_at cs (get_or ws (c.base + r) 0 / 2) ≡ Some u = same_cell cs (get_or ws (c.base + r) 0 / 2) ∙ found in
      let place : p ≡ get_or ws (c.base + r) 0 / 2 = n.place small (is_there (cell_at cs (n.word / 2)) u (ap (λ i. cell_at cs (i / 2)) w ∙ found')) ∙ ap (λ i. i / 2) w in
      put u (ap (cell_at cs) place ∙ found')) refl to))

  -- a cell is put together
  pub put_gone : (cs ds : Cells) (rs es : List Bool) (t : State) (r q p ty k : ℕ) (ss : List ℕ) → IsSmall cs → x ≡ I.Put r ty k ss → r ≡ q → r < c.registers → AreBelow c.registers ss → Names cs (words_of ws c) q p → ds ≡ slice_set cs p (Some (record { tag = k; fields = words_from c.base ws ss })) → es ≡ rs → t ≡ moved (c.at + 1) (words_of ws c) (state_of v b lent (store_of ds es) ws c) → HasGone kinds (plain v.code) (state_of v b lent (store_of cs rs) ws c) t
  put_gone cs ds rs es t r q p ty k ss small is same below all names put kept to =
      let room = placed.room in
      let s = store_of cs rs in
      let n : Names cs (words_of ws c) r p = subst (λ i. Names cs (words_of ws c) i p) (sym same) names in
      let w = named_word cs ws c r p n below room in
      let new : Cell = record { tag = k; fields = words_from c.base ws ss } in
      one_gone kinds (plain v.code) (state_of v b lent s ws c) t (next_is v b (length ws) kinds lent s ws c (I.Put r ty k ss) S.Went t [] placed (at ∙ ap Some is) (put_next v b (kinds c.function c.at) lent s ws c S.Went t [] r ty k ss (store_of ds es) below room all (λ u found size.
      let found' : cell_at cs (get_or ws (c.base + r) 0 / 2) ≡ Some u = same_cell cs (get_or ws (c.base + r) 0 / 2) ∙ found in
      let place : p ≡ get_or ws (c.base + r) 0 / 2 = n.place small (is_there (cell_at cs (n.word / 2)) u (ap (λ i. cell_at cs (i / 2)) w ∙ found')) ∙ ap (λ i. i / 2) w in
      (λ i. store_of ((put ∙ ap (λ j. slice_set cs j (Some new)) place) i) (kept i))) refl to))

-- the register of the cell keeps its word while the fields come into others
pub names_still : (cs : Cells) (ws us : List ℕ) (c d : Cursor) (r p : ℕ) (ds vs : List ℕ) → d.base ≡ c.base → d.registers ≡ c.registers → r < c.registers → c.base + c.registers ≤ length ws → AreOthers r ds → us ≡ put_words c.base ws ds vs → Names cs (words_of ws c) r p → Names cs (words_of us d) r p
names_still cs ws us c d r p ds vs base registers below room others put names =
    let w = named_word cs ws c r p names below room in
    let long : length us ≡ length ws = ap length put ∙ put_long c.base ws ds vs in
    let there : slice_get (words_of us d) r ≡ Some (get_or us (d.base + r) 0) = frame_get d.base d.registers r us (omega (arith, below, registers)) (omega (arith, room, long, base, registers)) in
    let stays : get_or us (d.base + r) 0 ≡ get_or ws (c.base + r) 0 = (λ i. get_or (put i) (base i + r) 0) ∙ put_other c.base r ws ds vs others in
    record { word = names.word; is = there ∙ ap Some (stays ∙ sym w); odd = names.odd; place = names.place }
