-- A session at first, and what follows from what it keeps to.
use Rattle.std.proofs.Common.{◌≡◌, ◌∙◌, ℕ, zero, suc, ◌+◌, ◌*◌, ◌<◌, ◌≤◌, [], Option, None, refl, ap, arith}
use Rattle.tree_refinement.specs.fip_language.Core.{Name}
use Rattle.tree_refinement.specs.fip_language.Table.{Table}
use Rattle.tree_refinement.specs.fip_language.declared.limits.TheConstants.{MOST_FIELDS}
use Rattle.cell_store.specs.Cells.{count_free}
use Rattle.tree_refinement.specs.machine_semantics.Cells.{Store}
use Rattle.session_semantics.specs.Talk.{State, live, over_sizes, at_first}
use Rattle.session_correctness.specs.Open.{IsOpen}
use Rattle.session_correctness.proofs.Counting.{store_sized, held_cells}
use Rattle.session_correctness.proofs.Speaking.{live_lodged}

no_words : (n : ℕ) → over_sizes n (λ k. 0 * suc k) ≡ 0
no_words zero = refl
no_words (suc n) = let r = no_words n in omega (arith, r)

pub opens : (tb : Table) (words : ℕ) (finds : Name → Option (ℕ × ℕ)) → ((name : Name) → finds name ≡ None) → IsOpen tb words finds (record { cells = []; released = [] }) words at_first
opens tb words finds none = record {
  lodged = [];
  names = none;
  distinct = tt;
  said = refl;
  held = record {
    store = record { sized = tt; wide = refl; of_cells = λ p. omega arith };
    stand = tt;
    once = λ q. refl;
  };
  small = omega arith;
  made = λ k some few. refl;
  left = (let z = no_words 16 in omega (arith, z));
}

-- The released cells are those that were made and aren't live.
pub spare_is : (tb : Table) (words : ℕ) (finds : Name → Option (ℕ × ℕ)) (cells : Store) (room : ℕ) (s : State) (k : ℕ) → IsOpen tb words finds cells room s → 0 < k → k ≤ MOST_FIELDS → live k s.held + count_free k cells.cells cells.released ≡ s.made k
spare_is tb words finds cells room s k h some few =
    let a = store_sized k cells h.held.store in
    let b = held_cells tb k h.lodged cells h.held in
    let c = live_lodged k h.lodged in
    let d = ap (live k) h.said in
    let e = h.made k some few in
    omega (arith, a, b, c, d, e)
