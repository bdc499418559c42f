-- After the body of a clause: all but the last one jump to the place where they meet, and the last one goes on there.
use Rattle.std.proofs.Common.{◌≡◌, ℕ, ◌<◌, ◌≤◌, true, List, Some, sym, ◌∙◌, subst, arith}
use Rattle.std.proofs.lemmas.Option.{none-some}
use Rattle.separation.specs.cell_code.declared.kind.Kind.{Kind}
use Rattle.lowering_relation.specs.fip_trees.Tree.{Clauses, NoClauses, MoreClauses}
use Rattle.separation.specs.cell_code.Plain.{PlainFunction, PlainCode}
use Rattle.separation.specs.code_rules.Codes.{label_at}
use Rattle.separation.specs.code_rules.Fitting.{fits}
use Rattle.lowering_relation.specs.Labels.{Catches, Shows}
use Rattle.lowering_relation.specs.Joins.{GoesOn}
use Rattle.lowering_soundness.specs.Parts.{Admits, Part, LastPart}
use Rattle.lowering_soundness.proofs.Fitting.{takes_less}
use Rattle.lowering_soundness.proofs.Parts.{both_parts, part_and_last}
use Rattle.lowering_soundness.proofs.Branches.{jump_last, catch_part}
use Rattle.lowering_soundness.proofs.Chunks.{Stretch, stretch_last, stretch_part}

-- the code is as it should be up to where these clauses begin, or where no more follow up to where they meet
module _ (c : PlainCode) (f : PlainFunction) (end : ℕ) (after : ℕ → Kind) where
  abbrev pub Reached : Clauses → ℕ → ℕ → (ℕ → Kind) → Type 0
  Reached NoClauses next a m = Part c f a m end after
  Reached (MoreClauses q b cs) next a m = LastPart c f a m next

  pub reached_part : (cs : Clauses) (next a : ℕ) (m : ℕ → Kind) (b : ℕ) (l : ℕ → Kind) → Part c f a m b l → Reached cs next b l → Reached cs next a m
  reached_part NoClauses next a m b l x y = both_parts c f a b end m l after x y
  reached_part (MoreClauses q d cs) next a m b l x y = part_and_last c f a b next m l x y

  pub reached_stretch : (cs : Clauses) (next a : ℕ) (m : ℕ → Kind) (b : ℕ) (l : ℕ → Kind) → Stretch c f a m b → Reached cs next b l → Reached cs next a m
  reached_stretch NoClauses next a m b l x y = stretch_part c f a m b l end after x y
  reached_stretch (MoreClauses q d cs) next a m b l x y = stretch_last c f a m b l next x y

  pub reached_end : (cs : Clauses) (stop next : ℕ) (m : ℕ → Kind) → GoesOn f cs stop end next → Catches f end after → ((r : ℕ) → fits (after r) (m r) ≡ true) → (stop < next → Shows f stop m) → Reached cs next stop m
  reached_end NoClauses stop next m goes caught less shows = subst (λ a. Part c f a m end after) goes.0 (catch_part c f end m after caught less)
  reached_end (MoreClauses q d cs) stop next m goes caught less shows =
      let one = goes.2 in
      subst (LastPart c f stop m) (sym one)
      (jump_last c f stop m end goes.0 (record { map = caught.map; there = caught.there; takes = takes_less f.registers caught.map m after caught.takes less }) (shows (omega (arith, one))))

-- what is so where a label takes what is reported after a part is so of the part
pub meet_part : (c : PlainCode) (f : PlainFunction) (a : ℕ) (m : ℕ → Kind) (b : ℕ) (l : ℕ → Kind) → a ≤ b → (map : List Kind) → label_at f.labels b ≡ Some map → (Catches f b l → Part c f a m b l) → Part c f a m b l
meet_part c f a m b l grows map there part = record {
  grows = grows;
  admits = λ ad. (part (caught ad)).admits ad;
  kept = λ low ad arrives. (part (caught ad)).kept low ad arrives;
  arrives = λ arrives none. absurd (none-some map (sym none ∙ there));
}
  where
    caught : Admits f b l → Catches f b l
    caught ad = record { map = map; there = there; takes = ad map there }
