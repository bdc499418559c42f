-- Tests and jumps: where a label at the target takes what is reported there, they keep the rules.
use Rattle.std.proofs.Common.{◌≡◌, inl, inr, ℕ, suc, ◌<◌, ◌≤◌, true, List, length, Some, refl, sym, ap, ◌∙◌, subst, arith}
use Rattle.std.proofs.lemmas.Option.{same_Some}
use Rattle.separation.specs.cell_code.declared.code.Instr.{Instr}
use Rattle.separation.specs.cell_code.declared.code.Instr.TheVariants as I
use Rattle.separation.specs.cell_code.declared.kind.Kind.{Kind}
use Rattle.separation.specs.cell_code.Plain.{PlainFunction, PlainCode}
use Rattle.separation.specs.code_rules.Codes.{label_at}
use Rattle.separation.specs.code_rules.Fitting.{fits, fit_all}
use Rattle.separation.specs.code_rules.Endings.{spends_all}
use Rattle.separation.specs.code_rules.Leaves.{Leaves, Jumps}
use Rattle.separation.specs.code_rules.Flow.{IsInstr}
use Rattle.separation.proofs.separation_kinds.Basics.{get_within, less_or_not}
use Rattle.lowering_soundness.specs.Covering.{Covered}
use Rattle.lowering_soundness.specs.Rows.{IsRow}
use Rattle.lowering_soundness.specs.Parts.{Arrives, Admits, Onward, Keeps, IsKept, Part, LastPart}
use Rattle.lowering_relation.specs.Labels.{Shows, Catches, Quiet}
use Rattle.lowering_soundness.proofs.Fitting.{takes_all}
use Rattle.lowering_soundness.proofs.Parts.{known_reported, shows_admits, after_row, between, no_row, both_parts, label_row}
use Rattle.lowering_soundness.proofs.Arguments.{quiet_back}

module _ (c : PlainCode) (f : PlainFunction) where
  -- kinds that reach a target fit its label
  caught_fits : (target : ℕ) (away : ℕ → Kind) (j : ℕ) (left map : List Kind) → Catches f target away → j ≡ target → Covered f.registers away left → label_at f.labels j ≡ Some map → fit_all map left ≡ true
  caught_fits target away j left map caught there cov e =
      let same : caught.map ≡ map = same_Some caught.map map (sym caught.there ∙ (ap (label_at f.labels) (sym there) ∙ e)) in
      subst (λ ms. fit_all ms left ≡ true) same (takes_all f.registers caught.map away left caught.takes cov)

  -- an instruction that goes on to the next one, or to a target
  pub branch_part : (p : ℕ) (m l away : ℕ → Kind) (x : Instr) (target : ℕ) → IsInstr f p x → IsRow c f m x l → ((ks : List Kind) → spends_all c f ks x ≡ true) → ((ks : List Kind) (j : ℕ) (left : List Kind) → Covered f.registers m ks → Jumps ks x j left → (j ≡ target) × Covered f.registers away left) → Catches f target away → Shows f p m → Part c f p m (suc p) l
  branch_part p m l away x target is row spends jumps caught shows = record {
    grows = omega arith;
    admits = λ a. shows_admits c f p m shows;
    kept = λ more admits arrives q a b. between c f p q a b (λ e. subst (IsKept c f) e (one_kept more admits arrives));
    arrives = λ arrives. after_row c f p m l x is row shows arrives;
  }
    where
      one_kept : suc p < length f.instrs → Admits f (suc p) l → Arrives c f p m → IsKept c f p
      one_kept more admits arrives ks y reached =
          let same : x ≡ y = same_Some x y (sym is ∙ reached.instr) in
          let cov = known_reported c f p m ks shows arrives reached.known in
          subst (Keeps c f p ks) same (record {
            sources = row.sources ks cov;
            destinations = row.destinations ks cov;
            last = λ e. absurd (let h = more in omega (arith, e, h));
            fits = fitting ks cov;
            spends = spends ks;
          })
        where
          fitting : (ks : List Kind) → Covered f.registers m ks → (j : ℕ) (left map : List Kind) → Onward c ks p x j left → label_at f.labels j ≡ Some map → fit_all map left ≡ true
          fitting ks cov j left map (inl h) e = takes_all f.registers map l left (admits map (ap (label_at f.labels) (sym h.0) ∙ e)) (row.leaves ks left cov h.1)
          fitting ks cov j left map (inr h) e = let go = jumps ks j left cov h in caught_fits target away j left map caught go.0 go.1 e

  pub jump_last : (p : ℕ) (m : ℕ → Kind) (target : ℕ) → IsInstr f p (I.Jump target) → Catches f target m → Shows f p m → LastPart c f p m (suc p)
  jump_last p m target is caught shows = record {
    grows = omega arith;
    inside = get_within f.instrs p (I.Jump target) is;
    admits = shows_admits c f p m shows;
    kept = λ arrives q a b. between c f p q a b (λ e. subst (IsKept c f) e (one_kept arrives));
    ends = λ ks h. subst (λ y. Leaves c h.0 y ks) (same_Some h.1 (I.Jump target) (sym h.3 ∙ is)) h.5;
  }
    where
      one_kept : Arrives c f p m → IsKept c f p
      one_kept arrives ks y reached =
          let same : I.Jump target ≡ y = same_Some (I.Jump target) y (sym is ∙ reached.instr) in
          let cov = known_reported c f p m ks shows arrives reached.known in
          subst (Keeps c f p ks) same (record {
            sources = refl;
            destinations = refl;
            last = λ e. refl;
            fits = fitting ks cov;
            spends = refl;
          })
        where
          fitting : (ks : List Kind) → Covered f.registers m ks → (j : ℕ) (left map : List Kind) → Onward c ks p (I.Jump target) j left → label_at f.labels j ≡ Some map → fit_all map left ≡ true
          fitting ks cov j left map (inl h) e = absurd h.1
          fitting ks cov j left map (inr h) e = caught_fits target m j left map caught h.0 (subst (Covered f.registers m) (sym h.1) cov) e

  -- a label that says less
  pub catch_part : (p : ℕ) (m l : ℕ → Kind) → Catches f p l → ((r : ℕ) → fits (l r) (m r) ≡ true) → Part c f p m p l
  catch_part p m l caught less = label_row c f p m l caught.map caught.there less

  -- to what follows nothing goes on from before
  pub last_and_last : (p q r : ℕ) (m l : ℕ → Kind) → LastPart c f p m q → LastPart c f q l r → LastPart c f p m r
  last_and_last p q r m l x y =
      let a = x.grows in
      let b = y.grows in
      record {
        grows = omega (arith, a, b);
        inside = x.inside;
        admits = x.admits;
        kept = λ arrives i low high. elim (less_or_not i q) as (λ v. IsKept c f i) [
          | inl e ↦ x.kept arrives i low e
          | inr e ↦ y.kept (λ none ks h. absurd (x.ends ks h)) i e high
        ];
        ends = y.ends;
      }

  -- ---- parts of which it is known where nothing is written

  pub record Came (at : ℕ) (m : ℕ → Kind) (end : ℕ) (l : ℕ → Kind) : Type 0 where
    pub grows : at ≤ end
    pub still : at ≡ end → (r : ℕ) → m r ≡ l r
    pub part : Part c f at m end l

  pub came_none : (at : ℕ) (m : ℕ → Kind) → Came at m at m
  came_none at m = record { grows = omega arith; still = λ e r. refl; part = no_row c f at m m (λ r. refl) }

  pub came_one : (at : ℕ) (m l : ℕ → Kind) → Part c f at m (suc at) l → Came at m (suc at) l
  came_one at m l part = record { grows = omega arith; still = λ e r. absurd (let y : ⊥ = omega (arith, e) in y); part = part }

  pub came_on : (at mid end : ℕ) (m l k : ℕ → Kind) → Came at m mid l → Came mid l end k → Came at m end k
  came_on at mid end m l k x y =
      let a = x.grows in
      let b = y.grows in
      record {
        grows = omega (arith, a, b);
        still = λ e r. (let p : at ≡ mid = omega (arith, a, b, e) in let q : mid ≡ end = omega (arith, a, b, e) in x.still p r ∙ y.still q r);
        part = both_parts c f at mid end m l k x.part y.part;
      }

  -- what was reported of the place before stays so after
  pub came_quiet : (at mid end : ℕ) (m l : ℕ → Kind) → Came at m mid l → Quiet f at end m → Quiet f mid end l
  came_quiet at mid end m l x quiet = quiet_back f at mid end m l x.grows quiet x.still
