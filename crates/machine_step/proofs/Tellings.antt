-- What instructions write to a store.
use Rattle.std.proofs.Common.{◌≡◌, ℕ, ◌+◌, Bool, true, false, List, [], ◌∷◌, ◌++◌, map, Option, Some, None, refl, sym, ap, subst, ◌∙◌}
use Rattle.std.proofs.lemmas.List.{append-nil}
use Rattle.fip_language.specs.Arithmetic.{Operated, Is, Fails}
use Rattle.fip_language.specs.Table.{Table}
use Rattle.cell_code.specs.declared.code.Instr.{Instr}
use Rattle.cell_code.specs.declared.code.Instr.TheVariants as I
use Rattle.cell_code.specs.declared.kind.Kind.{Kind}
use Rattle.cell_store.specs.Reported.{Reported, Released}
use Rattle.cell_code.specs.Plain.{PlainCode}
use Rattle.machine_frames.specs.machine_semantics.Cells.{Store, Change, Release, changed_by}
use Rattle.machine_frames.specs.machine_semantics.States.{State, Next, Went, Entered, Gave, Trapped, TooDeep, Stuck}
use Rattle.machine_frames.specs.machine_semantics.Rows.{on, on_with, branch, calculated, operated, write, done}
use Rattle.machine_frames.specs.machine_semantics.Words.{scalar_word}
use Rattle.machine_frames.specs.machine_semantics.Steps.{act, changes_in, went_with, went}
use Rattle.machine_frames.specs.machine_semantics.Traces.{done_changes}
use Rattle.machine_cells.specs.Telling.{as_reported}
use Rattle.machine_step.specs.Telling.{IsKnown, act_reports, changes_cells}

-- instructions that do nothing to cells

on_none : (s : State) (o : Option (List ℕ)) → changes_in (on s o) ≡ []
on_none s None = refl
on_none s (Some ws) = refl

branch_none : (s : State) (target : ℕ) (o : Option Bool) → changes_in (branch s target o) ≡ []
branch_none s target None = refl
branch_none s target (Some true) = refl
branch_none s target (Some false) = refl

calculated_none : (s : State) (d : ℕ) (o : Option Operated) → changes_in (calculated s d o) ≡ []
calculated_none s d None = refl
calculated_none s d (Some (Is v)) = on_none s (write s.running.words d (scalar_word v))
calculated_none s d (Some (Fails kind)) = refl

unchanged : (tb : Table) (ks : List Kind) (s : State) (x : Instr) → changes_cells x ≡ false → changes_in (done tb ks s x) ≡ []
unchanged tb ks s (I.Const d v) e = on_none s _
unchanged tb ks s (I.Atom d t c) e = on_none s _
unchanged tb ks s (I.Move d r) e = on_none s _
unchanged tb ks s (I.Arith d o x y line col) e = calculated_none s d (operated s o x y)
unchanged tb ks s (I.Test r c target) e = branch_none s target _
unchanged tb ks s (I.TestInt r v target) e = branch_none s target _
unchanged tb ks s (I.Peek d r i) e = on_none s _
unchanged tb ks s (I.Take r ds) e = on_none s _
unchanged tb ks s (I.Put r t c ss) e = absurd cc
unchanged tb ks s (I.Drop r) e = absurd cc
unchanged tb ks s (I.Free r) e = absurd cc
unchanged tb ks s (I.Call f ss ds) e = refl
unchanged tb ks s (I.Tail f ss) e = refl
unchanged tb ks s (I.Ret ss) e = refl
unchanged tb ks s (I.Jump target) e = refl

none_done : (n : Next) → done_changes [] n ≡ []
none_done (Went t) = refl
none_done (Entered t) = refl
none_done (Gave ws) = refl
none_done (Trapped kind line col) = refl
none_done TooDeep = refl
none_done Stuck = refl

reports_nothing : (code : PlainCode) (ks : List Kind) (s : State) (x : Instr) → changes_cells x ≡ false → act_reports code ks s x ≡ []
reports_nothing code ks s x e = ap (λ cs. map as_reported (done_changes cs (act code ks s x))) (unchanged code.types ks s x e) ∙ ap (map as_reported) (none_done (act code ks s x))

pub reported_nothing : (W : List Reported → Type 0) (code : PlainCode) (ks : List Kind) (s : State) (x y : Instr) (ts : List Reported) → x ≡ y → changes_cells y ≡ false → W ts → W (ts ++ act_reports code ks s x)
reported_nothing W code ks s x y ts e quiet w = subst W (sym (append-nil ts) ∙ ap (λ us. ts ++ us) (sym (ap (act_reports code ks s) e ∙ reports_nothing code ks s y quiet))) w

-- instructions that do something to cells

pub record Changing (s : State) (o : Option (List Change)) : Type 0 where
  pub changes : List Change
  pub store : Store
  pub are : o ≡ Some changes
  pub goes : changed_by changes s.store ≡ Some store
  pub reported : map as_reported (done_changes (changes_in (on_with s o)) (went s (on_with s o))) ≡ map as_reported changes

pub changing : (s : State) (o : Option (List Change)) → IsKnown (went s (on_with s o)) → Changing s o
changing s None h = absurd h
changing s (Some cs) h = by (changed_by cs s.store) refl h
  where
    by : (p : Option Store) → changed_by cs s.store ≡ p → IsKnown (went_with s (record { at = s.running.at + 1; words = s.running.words; changes = cs }) p) → Changing s (Some cs)
    by None e h = absurd h
    by (Some u) e h = record {
      changes = cs;
      store = u;
      are = refl;
      goes = e;
      reported = ap (λ p. map as_reported (done_changes cs (went_with s (record { at = s.running.at + 1; words = s.running.words; changes = cs }) p))) e;
    }

pub releases_reported : (ps : List ℕ) → map as_reported (map (λ p. Release p) ps) ≡ map (λ p. Released p) ps
releases_reported [] = refl
releases_reported (p ∷ ps) = ap (λ us. Released p ∷ us) (releases_reported ps)
