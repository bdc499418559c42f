-- The two tasks of the examples are laid out as they are said to be, by computation.
use Rattle.std.proofs.Common.{◌≡◌, ℕ, ◌+◌, ◌<◌, pos, ap, refl, arith}
use Rattle.std.specs.Prelude.{FitsSigned, ◌^◌, ◌<◌, ℕ}
use Rattle.std.specs.Int.{w64}
use Rattle.run_loading.specs.machine_semantics.Example.{nil_shape, cons_shape}
use Rattle.run_loading.specs.code_rules.Example.{reversal}
use Rattle.task_semantics.specs.ScheduleExample.{both, rev_at, store_of, cells_of, first_task, tasks_alone, two_tasks}
use Rattle.task_semantics.specs.Laid.{IsTask, AreLaid}
use Rattle.task_semantics.specs.LoadedExample.{rev_of, two_calls}
use Rattle.run_loading.proofs.tree_refinement.tree_semantics.machine_semantics.cell_code.fip_base.fip_language.Facts.{fits_small as small}

is_task : (m n : ℕ) → m < 2 ^ 63 → n < 2 ^ 63 → IsTask reversal (rev_of (pos m) (pos n))
is_task m n h k = record {
  there = refl;
  typed = ((cons_shape, refl, (small m h, ((nil_shape, refl, tt), tt))), ((cons_shape, refl, (small n k, ((nil_shape, refl, tt), tt))), tt));
}

-- no place is before the first task's cells
zero_moves : (p : ℕ) → p ≡ 0 + p
zero_moves p = omega arith

unmoved : first_task ≡ record { function = 0; state = rev_at 0 (store_of (cells_of 1 0 3)) 1 7 0; calls = 2; places = λ p. 0 + p }
unmoved =
    let same : ◌≡◌ {A = ℕ → ℕ} (λ p. p) (λ p. 0 + p) = λ i p. zero_moves p i in
    ap (λ (f : ℕ → ℕ). record { function = 0; state = rev_at 0 (store_of (cells_of 1 0 3)) 1 7 0; calls = 2; places = f }) same

pub laid_so : AreLaid reversal two_calls tasks_alone (two_tasks 2)
laid_so = record {
  store = refl;
  begun = (
    record {
      task = is_task 1 3 (omega arith) (omega arith);
      own = rev_at 0 (store_of (cells_of 1 0 3)) 1 7 0;
      first = refl;
      among = rev_at 0 both 1 7 0;
      further = refl;
      alone = unmoved;
      run = refl;
    },
    (
      record {
        task = is_task 2 4 (omega arith) (omega arith);
        own = rev_at 0 (store_of (cells_of 2 0 4)) 1 7 0;
        first = refl;
        among = rev_at 0 both 13 19 0;
        further = refl;
        alone = refl;
        run = refl;
      },
      tt,
    ),
  );
}
