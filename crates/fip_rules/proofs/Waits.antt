-- The borrowing occurrences that wait, in the walk's own lists.
use Rattle.std.proofs.Common.{◌≡◌, ℕ, ◌≤◌, ◌-◌, sym, ap, ◌∙◌, List, [], take, drop, length, map, Option, arith}
use Rattle.std.proofs.lemmas.List.{take-map, drop-map}
use Rattle.std.proofs.lemmas.Grind.{common_steps}
use Rattle.fip_trees.specs.declared.least.Violation.{Violation}
use Rattle.fip_trees.specs.Least.{after}
use Rattle.fip_rules.specs.declared.scope.Mark as M
use Rattle.fip_rules.specs.Marks.{Mark, reported}
use Rattle.fip_rules.specs.Notes.{exposed}
use Rattle.fip_rules.specs.Stands.{Stand, with_level, surfaced}
use Rattle.fip_rules.specs.Views.{mark_of}

whole : (k : ℕ) (ms : List M.Mark) → take (length ms - k) (drop k ms) ≡ drop k ms
whole k ms = grind (arith, common_steps)

none_left : (n : ℕ) (ms : List M.Mark) → length ms ≤ n → drop n ms ≡ []
none_left n ms h = grind (arith, common_steps)

-- the loop's end, over the marks from place k on
pub note_end : (all : List M.Mark) (k n i : ℕ) (us : List ℕ) (o o0 : Option Violation) → length (take (length all - k) (drop k all)) ≤ n → after o (map reported (exposed i (map mark_of (drop n (take (length all - k) (drop k all)))) us)) ≡ after o0 (map reported (exposed i (map mark_of (take (length all - k) (drop k all))) us)) → o ≡ after o0 (map reported (exposed i (drop k (map mark_of all)) us))
note_end all k n i us o o0 l h =
    let ms = take (length all - k) (drop k all) in
    sym (ap (λ q. after o (map reported (exposed i (map mark_of q) us))) (none_left n ms l)) ∙ h
    ∙ ap (λ q. after o0 (map reported (exposed i (map mark_of q) us))) (whole k all)
    ∙ ap (λ q. after o0 (map reported (exposed i q us))) (sym (drop-map mark_of k all))

pub kept_marks : (n : ℕ) (ms ns : List M.Mark) → ns ≡ take n ms → map mark_of ns ≡ take n (map mark_of ms)
kept_marks n ms ns h = ap (map mark_of) h ∙ sym (take-map mark_of n ms)

surface_step : (t s : Stand) (l kw ku : ℕ) (o : Option Violation) (ms : List Mark) → o ≡ after t.found (map reported (exposed t.instance (drop kw t.waiting) (drop ku t.walked.used))) → ms ≡ take kw t.waiting → t ≡ s → record { instance = t.instance; fip = t.fip; found = o; walked = with_level l t.walked; waiting = ms; next = t.next } ≡ surfaced l kw ku s
surface_step t s l kw ku o ms e f g =
    ap (λ q. record { instance = t.instance; fip = t.fip; found = q; walked = with_level l t.walked; waiting = ms; next = t.next }) e
    ∙ ap (λ q. record { instance = t.instance; fip = t.fip; found = after t.found (map reported (exposed t.instance (drop kw t.waiting) (drop ku t.walked.used))); walked = with_level l t.walked; waiting = q; next = t.next }) f
    ∙ ap (surfaced l kw ku) g

-- the bound expressions that are around again
pub surfaced_step : (t s : Stand) (j l kw ku : ℕ) (o : Option Violation) (ms : List Mark) → j ≡ l → o ≡ after t.found (map reported (exposed t.instance (drop kw t.waiting) (drop ku t.walked.used))) → ms ≡ take kw t.waiting → t ≡ s → record { instance = t.instance; fip = t.fip; found = o; walked = with_level j t.walked; waiting = ms; next = t.next } ≡ surfaced l kw ku s
surfaced_step t s j l kw ku o ms d e f g = ap (λ k. record { instance = t.instance; fip = t.fip; found = o; walked = with_level k t.walked; waiting = ms; next = t.next }) d ∙ surface_step t s l kw ku o ms e f g
