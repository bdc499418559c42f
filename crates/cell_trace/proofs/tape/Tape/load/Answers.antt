use Rattle.std.proofs.Common.{◌≡◌, ◌+◌, ◌*◌, ◌-◌, ◌^◌, [], ◌∷◌, ◌++◌, length, min, ap, ◌∙◌, arith}
use Rattle.cell_trace.specs.declared.tape.Tape.{Tape}
use Rattle.cell_trace.specs.Traced.{plain_cell}
use Rattle.cell_trace.proofs.Tapes.{cell_kept, full_cells, length_lost}
use Rattle.cell_trace.proofs.tape.Tape.load.Goals as goal

pub returns-in_ok-push : goal.returns-in_ok-push
returns-in_ok-push c = record {
  loaded = λ cells limit a.
      let len = c.len-size.ensures in
      let mul = c.saturating_mul.ensures in
      let add = c.saturating_add.ensures in
      let is : c.saturating_add.result ≡ min (min (length c.args.cell.fields.items * 8) (2 ^ 64 - 1) + 9) (2 ^ 64 - 1) = omega (arith, len, mul, add) in
      let r = c.has_bytes.ensures.room c.if-has_bytes.true in
      cell_kept cells c.args.cell limit c.saturating_add.result c.args.self.now _ c.requires.kept a is r.0 (c.has_bytes.ensures.fits c.if-has_bytes.true) (ap (λ (t : Tape). t.limit) r.1) (ap (λ (t : Tape). t.steps) r.1) (ap (λ (t : Tape). t.lost) r.1) (ap (λ (t : Tape). t.bytes) r.1) (c.in_ok-push.ensures.items ∙ ap (λ (t : Tape). t.loaded.items ++ c.args.cell ∷ []) r.1) (ap (λ (t : Tape). t.events.items) r.1);
}

pub returns-else-has_bytes : goal.returns-else-has_bytes
returns-else-has_bytes c = record {
  loaded = λ cells limit a.
      let len = c.len-size.ensures in
      let mul = c.saturating_mul.ensures in
      let add = c.saturating_add.ensures in
      let is : c.saturating_add.result ≡ min (min (length c.args.cell.fields.items * 8) (2 ^ 64 - 1) + 9) (2 ^ 64 - 1) = omega (arith, len, mul, add) in
      let r = c.has_bytes.ensures.full c.if-has_bytes.false in
      length_lost cells (cells ++ plain_cell c.args.cell ∷ []) [] [] 0 limit c.args.self.now c.has_bytes.new.self a r.1 (full_cells cells (plain_cell c.args.cell) limit c.saturating_add.result c.args.self.now c.requires.kept a is r.0);
}
