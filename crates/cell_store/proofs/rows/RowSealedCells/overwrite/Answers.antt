use Rattle.std.proofs.Common.{◌≡◌, ◌≤◌, ◌∙◌, Some, ap, sym, subst, arith, length-set, slice_set}
use Rattle.std.proofs.lemmas.List.Elements.{All-set}
use Rattle.fip_language.specs.Store.{Cell}
use Rattle.cell_store.specs.Cells.{size_of, size_in, sizes}
use Rattle.cell_store.specs.Made.{Stored}
use Rattle.cell_store.specs.Flat.{IsCounted}
use Rattle.cell_store.proofs.Parsed.{counted_set, sizes_set}
use Rattle.cell_store.proofs.Rowed.{rows, row_within, row_is, row_set, row_number}
use Rattle.cell_store.proofs.rows.RowSealedCells.overwrite.Goals as goal

pub index_mut-requires : goal.index_mut-requires
index_mut-requires c =
    let l = row_within c.self.inside.rows.items c.args.p (rw (← c.self.view_is) at c.requires.there) in
    let ok = c.self.inside.rows.ok.0 in
    omega (arith, l, ok)

pub rewrite-requires : goal.rewrite-requires
rewrite-requires c =
    let there = rw (← c.self.view_is) at c.requires.there in
    let size = rw (← c.self.view_is) at c.requires.size in
    let within = row_within c.self.inside.rows.items c.args.p there in
    let is = row_is c.self.inside.rows.items c.args.p c.index_mut.result.now within c.index_mut.ensures.value in
    let new : Cell = record { tag = c.args.tag; fields = c.args.fields.now } in
    let long : size_of new ≡ size_of c.index_mut.result.now = size ∙ ap size_in is in
    long

pub invariant_of-self : goal.invariant_of-self
invariant_of-self c =
    let there = rw (← c.self.view_is) at c.requires.there in
    let size = rw (← c.self.view_is) at c.requires.size in
    let within = row_within c.self.inside.rows.items c.args.p there in
    let is = row_is c.self.inside.rows.items c.args.p c.index_mut.result.now within c.index_mut.ensures.value in
    let new : Cell = record { tag = c.args.tag; fields = c.args.fields.now } in
    let long : size_of new ≡ size_of c.index_mut.result.now = size ∙ ap size_in is in
    let cells = ap (λ r. rows (slice_set c.self.inside.rows.items c.args.p r)) c.rewrite.ensures ∙ row_set c.self.inside.rows.items c.args.p new in
    let bound = c.self.invariant.small c.args.p c.index_mut.result.now within in
    let read = ap size_of c.index_mut.ensures.value in
    record {
      flags = c.self.invariant.flags ∙ sym (length-set c.self.inside.rows.items c.args.p c.rewrite.new.self);
      small = All-set (λ d. size_of d ≤ 16) c.self.inside.rows.items c.args.p c.rewrite.new.self (let e = ap size_of c.rewrite.ensures in omega (arith, bound, read, long, e)) c.self.invariant.small;
      counted = subst (λ cs. IsCounted cs c.self.inside.released.items c.self.inside.counts) (sym cells) (counted_set (rows c.self.inside.rows.items) c.self.inside.released.items c.self.inside.counts c.args.p c.index_mut.result.now new c.self.invariant.counted is long);
      room = (let a = row_number (slice_set c.self.inside.rows.items c.args.p c.rewrite.new.self) in let b = row_number c.self.inside.rows.items in let d = length-set c.self.inside.rows.items c.args.p c.rewrite.new.self in let r = c.self.invariant.room in omega (arith, a, b, d, r));
    }

pub returns-clause-cells : goal.returns-clause-cells
returns-clause-cells c =
    let there = rw (← c.self.view_is) at c.requires.there in
    let size = rw (← c.self.view_is) at c.requires.size in
    let within = row_within c.self.inside.rows.items c.args.p there in
    let is = row_is c.self.inside.rows.items c.args.p c.index_mut.result.now within c.index_mut.ensures.value in
    let new : Cell = record { tag = c.args.tag; fields = c.args.fields.now } in
    let long : size_of new ≡ size_of c.index_mut.result.now = size ∙ ap size_in is in
    let cells = ap (λ r. rows (slice_set c.self.inside.rows.items c.args.p r)) c.rewrite.ensures ∙ row_set c.self.inside.rows.items c.args.p new in
    cells ∙ ap (λ (s : Stored). slice_set s.cells c.args.p (Some new)) c.self.view_is

pub returns-clause-sizes : goal.returns-clause-sizes
returns-clause-sizes c =
    let there = rw (← c.self.view_is) at c.requires.there in
    let size = rw (← c.self.view_is) at c.requires.size in
    let within = row_within c.self.inside.rows.items c.args.p there in
    let is = row_is c.self.inside.rows.items c.args.p c.index_mut.result.now within c.index_mut.ensures.value in
    let new : Cell = record { tag = c.args.tag; fields = c.args.fields.now } in
    let long : size_of new ≡ size_of c.index_mut.result.now = size ∙ ap size_in is in
    let cells = ap (λ r. rows (slice_set c.self.inside.rows.items c.args.p r)) c.rewrite.ensures ∙ row_set c.self.inside.rows.items c.args.p new in
    ap sizes cells ∙ sizes_set (rows c.self.inside.rows.items) c.args.p c.index_mut.result.now new is long ∙ ap (λ (s : Stored). sizes s.cells) c.self.view_is
