use Rattle.std.proofs.Common.{◌≡◌, ◌+◌, ◌/◌, ◌∙◌, false, [], Some, refl, sym, ap, get_or}
use Rattle.std.specs.Prelude.{slice_get, nat_eq}
use Rattle.std.specs.Prelude.{option_map}
use Rattle.std.proofs.lemmas.Option.{none-some, same_Some}
use Rattle.fip_language.specs.Store.{Cell}
use Rattle.cell_store.specs.Cells.{cell_at}
use Rattle.machine_cells.specs.Small.{store_of}
use Rattle.machine_cells.proofs.Pendings.{same_cell, is_there}
use Rattle.machine_step.specs.declared.rows.Stepped.TheVariants as S
use Rattle.cell_code.specs.Plain.{plain}
use Rattle.machine_frames.specs.machine_semantics.Cells.{Store}
use Rattle.machine_frames.specs.machine_semantics.States.{State}
use Rattle.machine_frames.proofs.Viewed.{frame_get}
use Rattle.machine_step.specs.View.{words_of, state_of}
use Rattle.machine_step.proofs.RowNexts.{test_next}
use Rattle.machine_step.proofs.Goings.{alone, with_more, both_gone}
use Rattle.machine_step.proofs.Helps.{no_loop, same_place, even_constructor, odd_constructor}
use Rattle.machine_step.proofs.Sures.{can_go_after, tested_cell}
use Rattle.machine_step.proofs.rows.test.Goals as goal

pub returns-then-word-eq0-clause-next : goal.returns-then-word-eq0-clause-next
returns-then-word-eq0-clause-next g c kinds ks given small lent =
    let v = c.args.verified.now in
    let b = c.args.bounds in
    let ws = c.args.words.now in
    let cursor = c.args.cursor.now in
    let room = c.requires.placed.room in
    let cs = g.C.Cells.cells c.args.cells.now in
    let s = store_of cs (g.C.Cells.released c.args.cells.now) in
    let word = get_or ws (cursor.base + c.args.register) 0 in
    let k = c.args.constructor in
    let on = nat_eq (word / 2) c.from.result in
    alone kinds (plain v.code) _ _ _ _ _ given (test_next v b ks lent s ws cursor c.branch-verified.result (state_of v b lent s ws c.branch-verified.new.cursor) given c.args.register k c.args.target on c.requires.register room (λ z e.
    let is = even_constructor s word k z c.if-word-eq0.true e in
    (λ i. nat_eq (is i) (sym c.from.ensures i))) c.branch-verified.ensures.went (c.branch-verified.ensures.state lent s))

pub returns-in_default-clause-next : goal.returns-in_default-clause-next
returns-in_default-clause-next g c kinds ks given small lent =
    let v = c.args.verified.now in
    let b = c.args.bounds in
    let ws = c.args.words.now in
    let cursor = c.args.cursor.now in
    let room = c.requires.placed.room in
    let cs = g.C.Cells.cells c.args.cells.now in
    let s = store_of cs (g.C.Cells.released c.args.cells.now) in
    let word = get_or ws (cursor.base + c.args.register) 0 in
    let k = c.args.constructor in
    alone kinds (plain v.code) _ _ _ _ _ given (test_next v b ks lent s ws cursor c.branch-verified-in_default.result (state_of v b lent s ws c.branch-verified-in_default.new.cursor) given c.args.register k c.args.target false c.requires.register room (λ z e.
    let odd = odd_constructor s word z c.if-word-eq0.false e in
    absurd (none-some (word / 2) (sym c.in_default.is ∙ c.cell_of.ensures.found small (is_there (cell_at cs (word / 2)) odd.cell (same_cell cs (word / 2) ∙ odd.at))))) c.branch-verified-in_default.ensures.went (c.branch-verified-in_default.ensures.state lent s))

pub returns-then-this-ne0-clause-next : goal.returns-then-this-ne0-clause-next
returns-then-this-ne0-clause-next g c kinds ks given small lent =
    let v = c.args.verified.now in
    let b = c.args.bounds in
    let ws = c.args.words.now in
    let cursor = c.args.cursor.now in
    let room = c.requires.placed.room in
    let cs = g.C.Cells.cells c.args.cells.now in
    let s = store_of cs (g.C.Cells.released c.args.cells.now) in
    let word = get_or ws (cursor.base + c.args.register) 0 in
    let k = c.args.constructor in
    let mid = state_of v b lent s ws c.branch-verified-2.new.cursor in
    let between = state_of v b lent s ws c.test_again.new.cursor in
    let new = state_of v b lent (store_of (g.C.Cells.cells c.take_next.new.cells) (g.C.Cells.released c.take_next.new.cells)) c.take_next.new.words c.take_next.new.cursor in
    with_more kinds (plain v.code) _ _ _ mid new given (λ once. no_loop _ once c.if-this-ne0.true) (test_next v b ks lent s ws cursor S.Went mid given c.args.register k c.args.target (nat_eq c.cell_tag.result k) c.requires.register room (λ z e.
    let odd = odd_constructor s word z c.if-word-eq0.false e in
    let at = same_cell cs (word / 2) ∙ odd.at in
    let place = same_place c.cell_of.result c.in-Some.place (word / 2) c.in-Some.is (c.cell_of.ensures.found small (is_there (cell_at cs (word / 2)) odd.cell at)) in
    let tag : c.cell_tag.result ≡ z = same_Some c.cell_tag.result z (sym c.cell_tag.ensures ∙ ap (λ p. option_map (λ (u : Cell). u.tag) (cell_at cs p)) place ∙ ap (option_map (λ (u : Cell). u.tag)) at ∙ ap Some odd.tag) in
    ap (λ t. nat_eq t k) (sym tag)) refl (c.branch-verified-2.ensures.state lent s)) (both_gone kinds (plain v.code) mid between new (c.test_again.ensures.gone kinds small lent) (c.take_next.ensures.gone kinds small lent))

pub returns-else-this-ne0-clause-next : goal.returns-else-this-ne0-clause-next
returns-else-this-ne0-clause-next g c kinds ks given small lent =
    let v = c.args.verified.now in
    let b = c.args.bounds in
    let ws = c.args.words.now in
    let cursor = c.args.cursor.now in
    let room = c.requires.placed.room in
    let cs = g.C.Cells.cells c.args.cells.now in
    let s = store_of cs (g.C.Cells.released c.args.cells.now) in
    let word = get_or ws (cursor.base + c.args.register) 0 in
    let k = c.args.constructor in
    alone kinds (plain v.code) _ _ _ _ _ given (test_next v b ks lent s ws cursor S.Went (state_of v b lent s ws c.branch-verified-2.new.cursor) given c.args.register k c.args.target (nat_eq c.cell_tag.result k) c.requires.register room (λ z e.
    let odd = odd_constructor s word z c.if-word-eq0.false e in
    let at = same_cell cs (word / 2) ∙ odd.at in
    let place = same_place c.cell_of.result c.in-Some.place (word / 2) c.in-Some.is (c.cell_of.ensures.found small (is_there (cell_at cs (word / 2)) odd.cell at)) in
    let tag : c.cell_tag.result ≡ z = same_Some c.cell_tag.result z (sym c.cell_tag.ensures ∙ ap (λ p. option_map (λ (u : Cell). u.tag) (cell_at cs p)) place ∙ ap (option_map (λ (u : Cell). u.tag)) at ∙ ap Some odd.tag) in
    ap (λ t. nat_eq t k) (sym tag)) refl (c.branch-verified-2.ensures.state lent s))

-- the register's word names the cell
pub test_again-requires-clause-names : goal.test_again-requires-clause-names
test_again-requires-clause-names g c =
    let ws = c.args.words.now in
    let cursor = c.args.cursor.now in
    let r = c.args.register in
    let s : Store = store_of [] [] in
    let same : words_of ws c.branch-verified-2.new.cursor ≡ words_of ws cursor = ap (λ (t : State). t.running.words) (c.branch-verified-2.ensures.state [] s) in
    record {
      word = get_or ws (cursor.base + r) 0;
      is = ap (λ xs. slice_get xs r) same ∙ frame_get cursor.base cursor.registers r ws c.requires.register c.requires.placed.room;
      odd = c.if-word-eq0.false;
      place = λ small there. same_place c.cell_of.result c.in-Some.place (get_or ws (cursor.base + r) 0 / 2) c.in-Some.is (c.cell_of.ensures.found small there);
    }

pub take_next-requires-clause-names : goal.take_next-requires-clause-names
take_next-requires-clause-names g c =
    let ws = c.args.words.now in
    let cursor = c.args.cursor.now in
    let r = c.args.register in
    let s : Store = store_of [] [] in
    let same : words_of ws c.branch-verified-2.new.cursor ≡ words_of ws cursor = ap (λ (t : State). t.running.words) (c.branch-verified-2.ensures.state [] s) in
    record {
      word = get_or ws (cursor.base + r) 0;
      is = ap (λ xs. slice_get xs r) (c.test_again.ensures.frame ∙ same) ∙ frame_get cursor.base cursor.registers r ws c.requires.register c.requires.placed.room;
      odd = c.if-word-eq0.false;
      place = λ small there. same_place c.cell_of.result c.in-Some.place (get_or ws (cursor.base + r) 0 / 2) c.in-Some.is (c.cell_of.ensures.found small there);
    }

-- the cell is there
pub cell_of-requires : goal.cell_of-requires
cell_of-requires g c = record {
  sure = λ sure.
      let known = c.requires.sure sure in
      let ws = c.args.words.now in
      let cursor = c.args.cursor.now in
      let cs = g.C.Cells.cells c.args.cells.now in
      let s = store_of cs (g.C.Cells.released c.args.cells.now) in
      let word = get_or ws (cursor.base + c.args.register) 0 in
      let cell = tested_cell c.args.verified.now c.args.bounds known.before known.lent s ws cursor c.args.register c.args.constructor c.args.target c.requires.register c.requires.placed.room c.if-word-eq0.false known.acts.known in
      (known.small, is_there (cell_at cs (word / 2)) cell.0 (same_cell cs (word / 2) ∙ cell.1));
}

-- what is after the tests can be done
pub take_next-requires-clause-sure : goal.take_next-requires-clause-sure
take_next-requires-clause-sure g c sure =
    let known = c.requires.sure sure in
    let v = c.args.verified.now in
    let b = c.args.bounds in
    let ws = c.args.words.now in
    let cursor = c.args.cursor.now in
    let room = c.requires.placed.room in
    let cs = g.C.Cells.cells c.args.cells.now in
    let s = store_of cs (g.C.Cells.released c.args.cells.now) in
    let word = get_or ws (cursor.base + c.args.register) 0 in
    let k = c.args.constructor in
    let lent = known.lent in
    let mid = state_of v b lent s ws c.branch-verified-2.new.cursor in
    let between = state_of v b lent s ws c.test_again.new.cursor in
    let came = test_next v b known.before lent s ws cursor S.Went mid [] c.args.register k c.args.target (nat_eq c.cell_tag.result k) c.requires.register room (λ z e.
    let odd = odd_constructor s word z c.if-word-eq0.false e in
    let at = same_cell cs (word / 2) ∙ odd.at in
    let place = same_place c.cell_of.result c.in-Some.place (word / 2) c.in-Some.is (c.cell_of.ensures.found known.small (is_there (cell_at cs (word / 2)) odd.cell at)) in
    let tag : c.cell_tag.result ≡ z = same_Some c.cell_tag.result z (sym c.cell_tag.ensures ∙ ap (λ p. option_map (λ (u : Cell). u.tag) (cell_at cs p)) place ∙ ap (option_map (λ (u : Cell). u.tag)) at ∙ ap Some odd.tag) in
    ap (λ t. nat_eq t k) (sym tag)) refl (c.branch-verified-2.ensures.state lent s) in
    record {
      small = known.small;
      kinds = known.kinds;
      lent = lent;
      goes = can_go_after known.kinds (plain v.code) mid between (known.acts.following mid came) (c.test_again.ensures.gone known.kinds known.small lent);
    }
