use Rattle.std.proofs.Common.{◌≡◌, ◌+◌, ◌*◌, drop, length, map}
use Rattle.match_knowledge.specs.Known.{Is}
use Rattle.match_knowledge.specs.Patterns.{row_nodes}
use Rattle.match_knowledge.specs.View.{row, rows}
use Rattle.match_cover.specs.Missing.{fields_at, placed}
use Rattle.match_cover.specs.MissingView.{lent_rows, levels}
use Rattle.match_cover.specs.MissingSearch.{FindsFirst}
use Rattle.match_cover.proofs.missing.Search.+missing.Given as goal

abbrev pub decreases-missing_at : goal.decreases-missing_at
decreases-missing_at l = 2 * row_nodes (lent_rows l.here.now) + 1

abbrev pub decreases-missing_fields : goal.decreases-missing_fields
decreases-missing_fields l = 2 * row_nodes (lent_rows l.here.now)

abbrev pub invariant-missing_fields-loop-j : goal.invariant-missing_fields-loop-j
invariant-missing_fields-loop-j l = record {
  kept : l.at.items ≡ l.initial.at.items;
  count : length l.parts.items ≡ l.j;
  found : FindsFirst l.self.types.now (rows l.self.rows.now) (λ ks. placed (levels l.initial.at.items) (Is l.head ks)) l.fields (fields_at l.head (lent_rows l.here)) (map row l.parts.items) (drop l.j l.fields);
}
