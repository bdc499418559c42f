-- Parts of a function's code: of one instruction, of none, of two parts, and where a label is that says less.
use Rattle.std.proofs.Common.{◌≡◌, inl, inr, ℕ, suc, ◌<◌, ◌≤◌, true, List, length, Option, Some, None, refl, sym, ap, ◌∙◌, subst, true≢false, arith}
use Rattle.std.proofs.lemmas.Option.{none-some, same_Some}
use Rattle.separation.specs.cell_code.declared.code.Instr.{Instr}
use Rattle.separation.specs.cell_code.declared.code.Instr.TheVariants as I
use Rattle.separation.specs.cell_code.declared.kind.Kind.{Kind}
use Rattle.separation.specs.cell_code.Plain.{PlainFunction, PlainCode}
use Rattle.separation.specs.code_rules.Codes.{label_at}
use Rattle.separation.specs.code_rules.Fitting.{fits, fit_all}
use Rattle.separation.specs.code_rules.Endings.{is_end, spends_all}
use Rattle.separation.specs.code_rules.Leaves.{Leaves, Jumps}
use Rattle.separation.specs.code_rules.Flow.{IsInstr, Holds, Comes, KnownAt}
use Rattle.separation.proofs.separation_kinds.Basics.{get_within, less_or_not}
use Rattle.lowering_soundness.specs.Covering.{Covered}
use Rattle.lowering_soundness.specs.Rows.{IsRow, IsLastRow}
use Rattle.lowering_soundness.specs.Parts.{Arrives, Admits, Onward, Keeps, IsKept, AreKept, Part, LastPart, is_straight}
use Rattle.lowering_relation.specs.Labels.{Reports, Shows}
use Rattle.lowering_soundness.proofs.Covering.{covered_same}
use Rattle.lowering_soundness.proofs.Fitting.{takes_all, reports_covered, reports_takes, takes_less, covers_fits, covers_self}

-- ---- straight instructions

pub no_jump : (ks : List Kind) (x : Instr) (j : ℕ) (left : List Kind) → is_straight x ≡ true → Jumps ks x j left → ⊥
no_jump ks (I.Const d v) j left s h = h
no_jump ks (I.Atom d t k) j left s h = h
no_jump ks (I.Move d r) j left s h = h
no_jump ks (I.Arith d op a b line col) j left s h = h
no_jump ks (I.Test r k target) j left s h = true≢false (sym s)
no_jump ks (I.TestInt r v target) j left s h = true≢false (sym s)
no_jump ks (I.Peek d r i) j left s h = h
no_jump ks (I.Take r ds) j left s h = h
no_jump ks (I.Put d t k ss) j left s h = h
no_jump ks (I.Drop r) j left s h = h
no_jump ks (I.Free r) j left s h = h
no_jump ks (I.Call g rs ds) j left s h = h
no_jump ks (I.Tail g rs) j left s h = h
no_jump ks (I.Ret rs) j left s h = h
no_jump ks (I.Jump target) j left s h = true≢false (sym s)

pub straight_spends : (c : PlainCode) (f : PlainFunction) (ks : List Kind) (x : Instr) → is_straight x ≡ true → spends_all c f ks x ≡ true
straight_spends c f ks (I.Const d v) s = refl
straight_spends c f ks (I.Atom d t k) s = refl
straight_spends c f ks (I.Move d r) s = refl
straight_spends c f ks (I.Arith d op a b line col) s = refl
straight_spends c f ks (I.Test r k target) s = refl
straight_spends c f ks (I.TestInt r v target) s = refl
straight_spends c f ks (I.Peek d r i) s = refl
straight_spends c f ks (I.Take r ds) s = refl
straight_spends c f ks (I.Put d t k ss) s = refl
straight_spends c f ks (I.Drop r) s = refl
straight_spends c f ks (I.Free r) s = refl
straight_spends c f ks (I.Call g rs ds) s = refl
straight_spends c f ks (I.Tail g rs) s = absurd (true≢false (sym s))
straight_spends c f ks (I.Ret rs) s = absurd (true≢false (sym s))
straight_spends c f ks (I.Jump target) s = refl

module _ (c : PlainCode) (f : PlainFunction) where
  -- what is known before an instruction is as reported
  known_by : (p : ℕ) (m : ℕ → Kind) (o : Option (List Kind)) (ks : List Kind) → ((map : List Kind) → o ≡ Some map → Reports f.registers map m) → (o ≡ None → (ks : List Kind) → Comes c f p ks → Covered f.registers m ks) → Holds o (Comes c f p) ks → Covered f.registers m ks
  known_by p m None ks shows arrives h = arrives refl ks h
  known_by p m (Some map) ks shows arrives h = subst (Covered f.registers m) (sym h) (reports_covered f.registers map m (shows map refl))

  pub known_reported : (p : ℕ) (m : ℕ → Kind) (ks : List Kind) → Shows f p m → Arrives c f p m → KnownAt c f p ks → Covered f.registers m ks
  known_reported p m ks shows arrives k = known_by p m (label_at f.labels p) ks shows arrives k

  pub shows_admits : (p : ℕ) (m : ℕ → Kind) → Shows f p m → Admits f p m
  shows_admits p m shows map e = reports_takes f.registers map m (shows map e)

  -- ---- one instruction

  kept_row : (p : ℕ) (m l : ℕ → Kind) (x : Instr) → IsInstr f p x → is_straight x ≡ true → IsRow c f m x l → Shows f p m → Arrives c f p m → suc p < length f.instrs → Admits f (suc p) l → IsKept c f p
  kept_row p m l x is straight row shows arrives more admits ks y reached =
      let same : x ≡ y = same_Some x y (sym is ∙ reached.instr) in
      let cov = known_reported p m ks shows arrives reached.known in
      subst (Keeps c f p ks) same (record {
        sources = row.sources ks cov;
        destinations = row.destinations ks cov;
        last = λ e. absurd (let h = more in omega (arith, e, h));
        fits = fitting ks cov;
        spends = straight_spends c f ks x straight;
      })
    where
      fitting : (ks : List Kind) → Covered f.registers m ks → (j : ℕ) (left map : List Kind) → Onward c ks p x j left → label_at f.labels j ≡ Some map → fit_all map left ≡ true
      fitting ks cov j left map (inl h) e = takes_all f.registers map l left (admits map (ap (label_at f.labels) (sym h.0) ∙ e)) (row.leaves ks left cov h.1)
      fitting ks cov j left map (inr h) e = absurd (no_jump ks x j left straight h)

  pub after_row : (p : ℕ) (m l : ℕ → Kind) (x : Instr) → IsInstr f p x → IsRow c f m x l → Shows f p m → Arrives c f p m → Arrives c f (suc p) l
  after_row p m l x is row shows arrives none ks h =
      let same : h.1 ≡ x = same_Some h.1 x (sym h.3 ∙ is) in
      row.leaves h.0 ks (known_reported p m h.0 shows arrives h.2) (subst (λ y. Leaves c h.0 y ks) same h.5)

  pub between : {A : Type 0} (p q : ℕ) → p ≤ q → q < suc p → (p ≡ q → A) → A
  between p q a b f = f (omega arith)

  pub one_row : (p : ℕ) (m l : ℕ → Kind) (x : Instr) → IsInstr f p x → is_straight x ≡ true → IsRow c f m x l → Shows f p m → Part c f p m (suc p) l
  one_row p m l x is straight row shows = record {
    grows = omega arith;
    admits = λ a. shows_admits p m shows;
    kept = λ more admits arrives q a b. between p q a b (λ e. subst (IsKept c f) e (kept_row p m l x is straight row shows arrives more admits));
    arrives = λ arrives. after_row p m l x is row shows arrives;
  }

  -- ---- none, and two

  pub no_row : (p : ℕ) (m l : ℕ → Kind) → ((r : ℕ) → m r ≡ l r) → Part c f p m p l
  no_row p m l same = record {
    grows = omega arith;
    admits = λ a map e. takes_less f.registers map m l (a map e) (λ r. subst (λ k. fits (l r) k ≡ true) (sym (same r)) (covers_fits (l r) (l r) (covers_self (l r))));
    kept = λ more admits arrives q a b. absurd (let z : ⊥ = omega arith in z);
    arrives = λ arrives none ks h. covered_same f.registers m l ks (arrives none ks h) same;
  }

  pub both_parts : (p q r : ℕ) (m l k : ℕ → Kind) → Part c f p m q l → Part c f q l r k → Part c f p m r k
  both_parts p q r m l k x y =
      let a = x.grows in
      let b = y.grows in
      record {
        grows = omega arith;
        admits = λ admits. x.admits (y.admits admits);
        kept = λ more admits arrives. joined p q r (x.kept (omega (arith, b, more)) (y.admits admits) arrives) (y.kept more admits (x.arrives arrives));
        arrives = λ arrives. y.arrives (x.arrives arrives);
      }
    where
      joined : (p q r : ℕ) → AreKept c f p q → AreKept c f q r → AreKept c f p r
      joined p q r g h i low high = elim (less_or_not i q) as (λ v. IsKept c f i) [
        | inl e ↦ g i low e
        | inr e ↦ h i e high
      ]

  -- ---- an end

  pub last_row : (p : ℕ) (m : ℕ → Kind) (x : Instr) → IsInstr f p x → is_end x ≡ true → ((ks : List Kind) (j : ℕ) (left : List Kind) → Onward c ks p x j left → ⊥) → IsLastRow c f m x → Shows f p m → LastPart c f p m (suc p)
  last_row p m x is end nowhere row shows = record {
    grows = omega arith;
    inside = get_within f.instrs p x is;
    admits = shows_admits p m shows;
    kept = λ arrives q a b. between p q a b (λ e. subst (IsKept c f) e (kept arrives));
    ends = λ ks h. nowhere h.0 (suc p) ks (inl (refl, subst (λ y. Leaves c h.0 y ks) (same_Some h.1 x (sym h.3 ∙ is)) h.5));
  }
    where
      kept : Arrives c f p m → IsKept c f p
      kept arrives ks y reached =
          let same : x ≡ y = same_Some x y (sym is ∙ reached.instr) in
          let cov = known_reported p m ks shows arrives reached.known in
          subst (Keeps c f p ks) same (record {
            sources = row.sources ks cov;
            destinations = row.destinations ks cov;
            last = λ e. end;
            fits = λ j left map h e. absurd (nowhere ks j left h);
            spends = row.spends ks cov;
          })

  pub part_and_last : (p q r : ℕ) (m l : ℕ → Kind) → Part c f p m q l → LastPart c f q l r → LastPart c f p m r
  part_and_last p q r m l x y =
      let a = x.grows in
      let b = y.grows in
      let more = y.inside in
      record {
        grows = omega arith;
        inside = omega (arith, a, more);
        admits = x.admits y.admits;
        kept = λ arrives. joined p q r (x.kept more y.admits arrives) (y.kept (x.arrives arrives));
        ends = y.ends;
      }
    where
      joined : (p q r : ℕ) → AreKept c f p q → AreKept c f q r → AreKept c f p r
      joined p q r g h i low high = elim (less_or_not i q) as (λ v. IsKept c f i) [
        | inl e ↦ g i low e
        | inr e ↦ h i e high
      ]

  -- ---- a label that says less

  pub label_row : (p : ℕ) (m l : ℕ → Kind) (map : List Kind) → label_at f.labels p ≡ Some map → ((r : ℕ) → fits (l r) (m r) ≡ true) → Part c f p m p l
  label_row p m l map there less = record {
    grows = omega arith;
    admits = λ a map e. takes_less f.registers map m l (a map e) less;
    kept = λ more admits arrives q a b. absurd (let z : ⊥ = omega arith in z);
    arrives = λ arrives none. absurd (none-some map (sym none ∙ there));
  }
